use Rattle.std.proofs.Common.{◌≡◌, ◌+◌, length, Option, sym, subst, arith}
use Rattle.std.proofs.lemmas.Option.{slice_get-get_or}
use Rattle.location_acl.specs.declared.line.PlaceLine.{PlaceLine}
use Rattle.location_acl.proofs.TableLemmas.{BestSoFar, best_step, best_place, best_none}
use Rattle.location_acl.proofs.plain.place_of.Goals as goal

pub lines-preserved : goal.lines-preserved
lines-preserved c =
    subst (λ (o : Option PlaceLine). BestSoFar c.args.lines.now c.args.ip (c.lines.line-index + 1) o) (sym c.longer_of-best.ensures)
    (best_step c.args.lines.now c.args.ip c.lines.line-index c.lines.best _ c.lines.invariant (slice_get-get_or c.args.lines.now c.lines.line-index _ c.lines-test.true))

pub returns-in-Some : goal.returns-in-Some
returns-in-Some c =
    let all : c.lines.line-index ≡ length c.args.lines.now = omega arith in
    best_place c.args.lines.now c.args.ip c.lines.line-index c.in-Some.line all (subst (λ (o : Option PlaceLine). BestSoFar c.args.lines.now c.args.ip c.lines.line-index o) c.in-Some.is c.lines.invariant)

pub returns-in-None : goal.returns-in-None
returns-in-None c =
    let all : c.lines.line-index ≡ length c.args.lines.now = omega arith in
    best_none c.args.lines.now c.args.ip c.lines.line-index all (subst (λ (o : Option PlaceLine). BestSoFar c.args.lines.now c.args.ip c.lines.line-index o) c.in-None.is c.lines.invariant)
