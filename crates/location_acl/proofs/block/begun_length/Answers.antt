use Rattle.std.proofs.Common.{◌≡◌, ℕ, length, sym, arith, subst}
use Rattle.listing.specs.Fronts.{IsLongestFront}
use Rattle.location_acl.specs.Block.{IsFitting}
use Rattle.location_acl.proofs.BlockFrontLemmas.{length_goes, length_place, most-le}
use Rattle.location_acl.proofs.block.begun_length.Goals as goal

pub returns-in_default : goal.returns-in_default
returns-in_default c =
    let i = c.digits.invariant in
    length_place c.args.six c.args.text.now c.digits.at c.digits.number i.few (omega (arith, c.digits-test.true)) i.digits i.number i.most (λ _. sym c.in_default.ensures)

pub digits-preserved : goal.digits-preserved
digits-preserved c =
    let i = c.digits.invariant in
    let more = length_goes c.args.six c.args.text.now c.digits.at c.digits.number c.in-Some.next c.digits-test.true i.digits i.number (sym c.in-Some.ensures) in
    record { few = more.0; digits = more.1; number = more.2; most = more.3; small = omega (arith, more.3, most-le c.args.six) }

pub returns : goal.returns
returns c =
    let i = c.digits.invariant in
    let ends : c.digits.at ≡ length c.args.text.now = omega arith in
    subst (λ (k : ℕ). IsLongestFront (IsFitting c.args.six) c.args.text.now k) ends
    (length_place c.args.six c.args.text.now c.digits.at c.digits.number i.few (omega arith) i.digits i.number i.most (λ more. absurd (omega arith)))
