use Rattle.std.proofs.Common.{ap, sym, Option, length, arith, ◌≡◌}
use Rattle.std.specs.Prelude.{option_and_then}
use Rattle.location_acl.specs.declared.dotted.Dotted.{Dotted}
use Rattle.location_acl.specs.Dotted.{dotted_run, dotted_of}
use Rattle.location_acl.proofs.DottedLemmas.{dotted_completes}
use Rattle.location_acl.proofs.FrontLemmas.{stops, runs_out}
use Rattle.location_acl.proofs.dotted.read.Goals as goal

pub returns-in_default-clause-place : goal.returns-in_default-clause-place
returns-in_default-clause-place c =
    stops dotted_of (λ rest. dotted_run c.bytes.front rest) c.args.text.now c.bytes.at c.bytes-test.true c.bytes.invariant.reached
    (λ rest. ap (λ (o : Option Dotted). option_and_then (λ next. dotted_run next rest) o) (sym c.in_default.ensures)) (dotted_completes c.bytes.front)

pub returns-in-None-clause-place : goal.returns-in-None-clause-place
returns-in-None-clause-place c =
    let ends : c.bytes.at ≡ length c.args.text.now = omega arith in
    runs_out dotted_of (λ rest. dotted_run c.bytes.front rest) c.args.text.now c.bytes.at ends c.bytes.invariant.reached (dotted_completes c.bytes.front)
