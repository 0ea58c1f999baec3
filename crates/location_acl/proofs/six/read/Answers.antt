use Rattle.std.proofs.Common.{ap, sym, Option, length, arith, ◌≡◌}
use Rattle.std.specs.Prelude.{option_and_then}
use Rattle.location_acl.specs.declared.six.Six.{Six}
use Rattle.location_acl.specs.Six.{six_run, six_of}
use Rattle.location_acl.proofs.AddressLemmas.{six_completes}
use Rattle.location_acl.proofs.FrontLemmas.{stops, runs_out}
use Rattle.location_acl.proofs.six.read.Goals as goal

pub returns-in_default-clause-place : goal.returns-in_default-clause-place
returns-in_default-clause-place c =
    stops six_of (λ rest. six_run c.bytes.front rest) c.args.text.now c.bytes.at c.bytes-test.true c.bytes.invariant.reached
    (λ rest. ap (λ (o : Option Six). option_and_then (λ next. six_run next rest) o) (sym c.in_default.ensures.value)) (six_completes c.bytes.front c.bytes.invariant.sound)

pub returns-in-None-clause-place : goal.returns-in-None-clause-place
returns-in-None-clause-place c =
    let ends : c.bytes.at ≡ length c.args.text.now = omega arith in
    runs_out six_of (λ rest. six_run c.bytes.front rest) c.args.text.now c.bytes.at ends c.bytes.invariant.reached (six_completes c.bytes.front c.bytes.invariant.sound)
