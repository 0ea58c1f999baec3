use Rattle.std.proofs.Common.{refl}
use Rattle.std.proofs.lemmas.Bool.{false≢true}
use Rattle.http_wire.proofs.FieldLemmas.{so_far_first, so_far_kept, so_far_several}
use Rattle.http_wire.proofs.fields.Fields.value.Goals as goal
use Rattle.http_wire.proofs.fields.Fields.value.Goals.{then-eq_ignore_ascii_case+in-None, else-eq_ignore_ascii_case}

pub returns-in-Some : goal.returns-in-Some
returns-in-Some c =
    so_far_several c.args.name.now c.args.self.now.headers c.loop-i.i _ _ c.in-Some.field-0 c.loop-i.found c.at-header.ensures (c.if-eq_ignore_ascii_case.ensures.test.0 refl) c.in-Some.is c.loop-i.invariant

pub loop-i-preserved : goal.loop-i-preserved
loop-i-preserved c = elim c.if-eq_ignore_ascii_case.branch [
  | then-eq_ignore_ascii_case+in-None w ↦ so_far_first c.args.name.now c.args.self.now.headers c.loop-i.i _ c.at-header.result.value c.loop-i.found _ c.at-header.ensures (w.if-eq_ignore_ascii_case.ensures.test.0 refl) w.in-None.is w.found-is c.loop-i.invariant
  | else-eq_ignore_ascii_case w ↦ so_far_kept c.args.name.now c.args.self.now.headers c.loop-i.i _ _ c.loop-i.found _ c.at-header.ensures (λ same. false≢true (w.if-eq_ignore_ascii_case.ensures.test.1 same)) w.found-is c.loop-i.invariant
]
