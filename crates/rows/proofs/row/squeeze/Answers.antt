use Rattle.std.proofs.Common.{◌<◌, ◌+◌, ℕ, None, length, get_or, refl, arith, sym, ap, subst, ◌∙◌}
use Rattle.rows.specs.Cells.{CellsSeen, present}
use Rattle.rows.proofs.RowLemmas.{IsSqueezing, begun, gap_of, step_gap, step_item, behind_gone, items_kept, full_front, length_slid}
use Rattle.rows.proofs.row.squeeze.Goals as goal
use Rattle.rows.proofs.row.squeeze.Goals.{then-has, else-has}

pub squeeze-init : goal.squeeze-init
squeeze-init g c = record { shape = begun c.args.cells.now.cells; spare = refl; room = refl; places = refl }

pub slide-requires-clause-gap : goal.slide-requires-clause-gap
slide-requires-clause-gap g c =
    gap_of c.args.cells.now.cells c.squeeze.cells.cells c.squeeze.to c.squeeze.p c.squeeze.invariant.shape
    (omega (arith, c.squeeze-test.true, c.len-p-end.ensures))

pub squeeze-preserved : goal.squeeze-preserved
squeeze-preserved g c =
    let l : c.squeeze.p < length c.args.cells.now.cells = omega (arith, c.squeeze-test.true, c.len-p-end.ensures) in
    elim c.if-has.branch [
      | then-has w ↦ record {
        shape =
            subst (λ (v : CellsSeen g.row.T.Denot). IsSqueezing c.args.cells.now.cells v.cells c.if-has.to (c.squeeze.p + 1)) (sym w.cells-is)
            (subst (λ (t : ℕ). IsSqueezing c.args.cells.now.cells w.slide.new.self.cells t (c.squeeze.p + 1)) (sym w.to-is)
            (step_item c.args.cells.now.cells c.squeeze.cells.cells c.squeeze.to c.squeeze.p c.squeeze.invariant.shape l w.slide.new.self.cells
            (sym w.if-has.ensures) w.slide.ensures.cells));
        spare = ap (λ (v : CellsSeen g.row.T.Denot). v.spare) w.cells-is ∙ w.slide.ensures.spare ∙ c.squeeze.invariant.spare;
        room = ap (λ (v : CellsSeen g.row.T.Denot). v.room) w.cells-is ∙ w.slide.ensures.room ∙ c.squeeze.invariant.room;
        places =
            ap (λ (v : CellsSeen g.row.T.Denot). length v.cells) w.cells-is ∙ ap length w.slide.ensures.cells
            ∙ length_slid c.squeeze.cells.cells c.squeeze.p c.squeeze.to (get_or c.squeeze.cells.cells c.squeeze.p None) ∙ c.squeeze.invariant.places;
      }
      | else-has w ↦ record {
        shape =
            subst (λ (v : CellsSeen g.row.T.Denot). IsSqueezing c.args.cells.now.cells v.cells c.if-has.to (c.squeeze.p + 1)) (sym w.cells-is)
            (subst (λ (t : ℕ). IsSqueezing c.args.cells.now.cells c.squeeze.cells.cells t (c.squeeze.p + 1)) (sym w.to-is)
            (step_gap c.args.cells.now.cells c.squeeze.cells.cells c.squeeze.to c.squeeze.p c.squeeze.invariant.shape l (sym w.if-has.ensures)));
        spare = ap (λ (v : CellsSeen g.row.T.Denot). v.spare) w.cells-is ∙ c.squeeze.invariant.spare;
        room = ap (λ (v : CellsSeen g.row.T.Denot). v.room) w.cells-is ∙ c.squeeze.invariant.room;
        places = ap (λ (v : CellsSeen g.row.T.Denot). length v.cells) w.cells-is ∙ c.squeeze.invariant.places;
      }
    ]

pub truncate-requires : goal.truncate-requires
truncate-requires g c =
    behind_gone c.args.cells.now.cells c.squeeze.cells.cells c.squeeze.to c.squeeze.p c.squeeze.invariant.shape
    (omega (arith, c.squeeze-test.false, c.len-p-end.ensures))

pub returns-clause-items : goal.returns-clause-items
returns-clause-items g c =
    ap present c.truncate.ensures.cells
    ∙ items_kept c.args.cells.now.cells c.squeeze.cells.cells c.squeeze.to c.squeeze.p c.squeeze.invariant.shape
    (omega (arith, c.squeeze-test.false, c.len-p-end.ensures))

pub returns-clause-full : goal.returns-clause-full
returns-clause-full g c =
    ap length c.truncate.ensures.cells
    ∙ full_front c.args.cells.now.cells c.squeeze.cells.cells c.squeeze.to c.squeeze.p c.squeeze.invariant.shape
    (omega (arith, c.squeeze-test.false, c.len-p-end.ensures))
