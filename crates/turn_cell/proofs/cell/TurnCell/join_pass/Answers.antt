use Rattle.std.proofs.Common.{rules, Contains, sym, ap, ◌∙◌, subst}
use Rattle.std.proofs.lemmas.List.Elements.{Contains-append_left}
use Rattle.turn_cell.specs.History.{AllBelow, longer}
use Rattle.turn_cell.specs.Cell.{passes_of, seen_in}
use Rattle.turn_cell.proofs.Seats.{resting, has_some, followed, merged}
use Rattle.turn_cell.proofs.Steps.{any_step, learns}
use Rattle.turn_cell.proofs.Passes.{joins}
use Rattle.turn_cell.proofs.cell.TurnCell.join_pass.Goals as goal

pub join_seat-requires : goal.join_seat-requires
join_seat-requires g c =
    let a = resting _ _ _ _ (sym (ap (λ b. b.views) c.replace-badge.ensures.value) ∙ c.into_seat-seat.ensures.2) c.requires.keep.2 in
    let b = resting _ _ _ _ c.into_seat.ensures.2 c.requires.gone.2 in
    (search rules, search rules, search rules, search rules, joins g.V.Stands.stands _ _ _ _ _ a.0 b.0 (has_some _ _ a.2))

pub load-requires : goal.load-requires
load-requires g c =
    let a = resting _ _ _ _ (sym (ap (λ b. b.views) c.replace-badge.ensures.value) ∙ c.into_seat-seat.ensures.2) c.requires.keep.2 in
    let v = c.into_seat-seat.result.me.0 in
    let w = c.into_seat.result.me.0 in
    let e = c.join_seat.ensures.2 in
    let some = Contains-append_left v.numbers w.numbers c.args.keep.now.number a.2 in
    (search rules, search rules, learns g.V.Stands.stands _ _ _ _ _ v.numbers w.numbers v.seen w.seen (ap (λ m. m.0.stage) e) (has_some _ c.args.keep.now.number (subst (λ ns. Contains ns c.args.keep.now.number) (sym (ap (λ m. m.0.numbers) e)) some)))

pub returns-clause-pass : goal.returns-clause-pass
returns-clause-pass g c =
    let a = resting _ _ _ _ (sym (ap (λ b. b.views) c.replace-badge.ensures.value) ∙ c.into_seat-seat.ensures.2) c.requires.keep.2 in
    let m = merged (any_step) c.join_seat.new.seat.me c.load.new.seat.me c.load.result c.into_seat-seat.result.me.0 c.into_seat.result.me.0 _ c.join_seat.ensures.2 c.load.ensures.2 in
    let v = c.into_seat-seat.result.me.0 in
    let w = c.into_seat.result.me.0 in
    let own = Contains-append_left v.numbers w.numbers c.args.keep.now.number a.2 in (
      search rules,
      c.requires.keep.1,
      (
        c.load.new.seat.me.0,
        c.into_badge.ensures.2,
        (
          ap (λ m. m.0.stage) m.0,
          ap (λ m. m.0.passes) m.0 ∙ a.1,
          subst (λ ns. Contains ns c.args.keep.now.number) (sym (ap (λ m. m.0.numbers) m.0)) own,
          subst (AllBelow (passes_of c.args.self.now)) (sym (ap (λ m. m.0.seen) m.0)) (subst (λ n. AllBelow n (longer v.seen w.seen)) a.1 m.3),
        ),
      ),
    )

pub returns-clause-after_keep : goal.returns-clause-after_keep
returns-clause-after_keep g c =
    let m = merged (any_step) c.join_seat.new.seat.me c.load.new.seat.me c.load.result c.into_seat-seat.result.me.0 c.into_seat.result.me.0 _ c.join_seat.ensures.2 c.load.ensures.2 in
    followed _ _ _ _ (sym (ap (λ b. b.views) c.replace-badge.ensures.value) ∙ c.into_seat-seat.ensures.2) (ap seen_in c.into_badge.ensures.2 ∙ ap (λ m. m.0.seen) m.0) m.1

pub returns-clause-after_gone : goal.returns-clause-after_gone
returns-clause-after_gone g c =
    let m = merged (any_step) c.join_seat.new.seat.me c.load.new.seat.me c.load.result c.into_seat-seat.result.me.0 c.into_seat.result.me.0 _ c.join_seat.ensures.2 c.load.ensures.2 in
    followed _ _ _ _ c.into_seat.ensures.2 (ap seen_in c.into_badge.ensures.2 ∙ ap (λ m. m.0.seen) m.0) m.2
