use Rattle.std.proofs.Common.{ap, length, arith, append_assoc}
use Rattle.std.proofs.lemmas.List.{map-append}
use Rattle.metadata_objects.specs.LevelData.{level_view}
use Rattle.inheritance.proofs.Chains.{arrays_more, arrays_last}
use Rattle.inheritance.proofs.chain.arrays.Goals as goal

pub levels-smaller : goal.levels-smaller
levels-smaller c = let e = arrays_more c.args.path.now (level_view c.levels.here.now) (level_view c.in-Some.inner.now) c.in-Some.ensures in omega (arith, ap length e)

pub levels-preserved : goal.levels-preserved
levels-preserved c =
    let e = arrays_more c.args.path.now (level_view c.levels.here.now) (level_view c.in-Some.inner.now) c.in-Some.ensures in
    rw (c.in_ok-push.ensures.items, map-append, c.objects.ensures, append_assoc, ← e) c.levels.invariant

pub returns-in-None : goal.returns-in-None
returns-in-None c =
    let e = arrays_last c.args.path.now (level_view c.levels.here.now) c.in-None.ensures in
    rw (c.in_ok-push.ensures.items, map-append, c.objects.ensures, ← e) c.levels.invariant
