use Rattle.std.proofs.Common.{◌∙◌, arith}
use Rattle.std.proofs.Math.Seq.{take-add}
use Rattle.std.proofs.lemmas.List.{take_rest}
use Rattle.std.proofs.KnownBytes.{Appends-trans}
use Rattle.edge_base.proofs.write.write_counted.Goals as goal

pub pieces-preserved : goal.pieces-preserved
pieces-preserved g c =
    let here = rw take_rest at c.in-Some.ensures.bytes in
    record {
      within = omega (arith, c.in-Some.ensures.count);
      held = rw (take-add c.pieces.taken c.in-Some.count c.args.bytes.now) (Appends-trans _ _ _ _ _ c.pieces.invariant.held here);
      answered = c.in-Some.ensures.cause.answered (λ e. cc) ∙ c.pieces.invariant.answered;
    }
