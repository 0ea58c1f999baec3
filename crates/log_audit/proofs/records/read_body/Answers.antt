use Rattle.std.proofs.Common.{◌++◌, ◌∷◌, [], ap, sym, refl, ◌∙◌, arith}
use Rattle.log_audit.specs.declared.place.Place.TheVariants as place
use Rattle.log_audit.proofs.HeadLemmas.{bad_empty, body_bad, body_is, body_on, empty_is, two_ok}
use Rattle.log_audit.proofs.records.read_body.Goals as goal

pub returns-in-None-clause-body : goal.returns-in-None-clause-body
returns-in-None-clause-body c =
    two_ok c.last_line.result _ _ _ (λ body last same. body_is c.lines.number c.args.fields.now c.args.text.now c.lines.left.now c.first_line.result.0.now c.first_line.result.1.now body.hash.now c.lines.records body.records c.lines.invariant.lines c.lines.invariant.bad c.first_line.ensures.0 last same)
    c.last_line.ensures.last c.last_line.ensures.records

pub lines-preserved : goal.lines-preserved
lines-preserved c = record {
  small = c.lines.invariant.small;
  few = omega (arith, c.lines.invariant.few, c.first_line.ensures.1);
  lines = body_on c.args.text.now c.lines.left.now c.first_line.result.0.now c.first_line.result.1.now c.in-Some.values.now c.lines.records c.push.new.self c.lines.invariant.lines c.first_line.ensures.0 c.in-Some.ensures.1
      (c.in_ok-push-in-Some.ensures.ok ∙ ap (λ v. c.lines.records ++ v ∷ []) c.in_ok-of-in-Some.ensures);
  bad = body_bad c.lines.number c.args.fields.now c.lines.left.now c.first_line.result.0.now c.first_line.result.1.now _ c.lines.invariant.bad c.first_line.ensures.0 c.in-Some.ensures.0;
}

pub returns-clause-bad : goal.returns-clause-bad
returns-clause-bad c = sym c.lines.invariant.bad ∙ bad_empty c.lines.number (place.Records c.args.fields.now) c.lines.left.now (empty_is c.lines.left.now c.lines-test.ensures) refl
