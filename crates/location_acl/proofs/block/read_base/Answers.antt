use Rattle.std.proofs.Common.{subst, sym, Bool, IsSome}
use Rattle.location_acl.specs.declared.ip.Ip.TheVariants.{V4, V6}
use Rattle.listing.specs.Fronts.{IsLongestFront}
use Rattle.location_acl.specs.Dotted.{dotted_of}
use Rattle.location_acl.specs.Six.{six_of}
use Rattle.location_acl.specs.Block.{base_of}
use Rattle.location_acl.proofs.BlockFrontLemmas.{place_mapped}
use Rattle.location_acl.proofs.block.read_base.Goals as goal

pub returns-in-Err-clause-place : goal.returns-in-Err-clause-place
returns-in-Err-clause-place c =
    subst (λ (six : Bool). IsLongestFront (λ other. IsSome (base_of six other)) c.args.text.now c.in-Err.at) (sym c.if-six.true)
    (place_mapped V6 six_of c.args.text.now c.in-Err.at c.in-Err.ensures.place)

pub returns-in-Err-read-clause-place : goal.returns-in-Err-read-clause-place
returns-in-Err-read-clause-place c =
    subst (λ (six : Bool). IsLongestFront (λ other. IsSome (base_of six other)) c.args.text.now c.in-Err-read.at) (sym c.if-six.false)
    (place_mapped V4 dotted_of c.args.text.now c.in-Err-read.at c.in-Err-read.ensures.place)
