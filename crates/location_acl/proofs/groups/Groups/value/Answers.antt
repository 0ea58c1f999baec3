use Rattle.std.proofs.Common.{◌≡◌, arith}
use Rattle.location_acl.proofs.GroupLemmas.{pushed, moved_up, raised_fits}
use Rattle.location_acl.proofs.groups.Groups.value.Goals as goal

pub overflow_mul-high : goal.overflow_mul-high
overflow_mul-high c = omega (arith, (pushed c.places.high c.places.counter 0 c.places-test.true c.places.invariant.small (omega arith)).1)

pub places-preserved : goal.places-preserved
places-preserved c = record {
  moved = moved_up c.args.self.front c.places.high _ _ c.places.invariant.moved (omega arith);
  small = omega (arith, (pushed c.places.high c.places.counter 0 c.places-test.true c.places.invariant.small (omega arith)).0);
}

pub overflow_add-result : goal.overflow_add-result
overflow_add-result c =
    let last : c.places.counter ≡ 8 = omega arith in
    omega (arith, (raised_fits c.args.self.front c.args.self.front_len c.args.self.back c.args.self.back_len c.places.high c.places.counter c.requires.few c.requires.front c.requires.back last c.places.invariant.moved).0)

pub returns : goal.returns
returns c =
    let last : c.places.counter ≡ 8 = omega arith in
    (raised_fits c.args.self.front c.args.self.front_len c.args.self.back c.args.self.back_len c.places.high c.places.counter c.requires.few c.requires.front c.requires.back last c.places.invariant.moved).1
