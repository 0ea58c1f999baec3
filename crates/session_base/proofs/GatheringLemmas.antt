-- The metadata that a gathering gives.
use Rattle.std.proofs.Common.{◌≡◌, refl, None, Ok, Err, Result}
use Rattle.metadata_links.specs.declared.fault.LinkFault.{LinkFault}
use Rattle.metadata_links.specs.declared.fault.LinkFault.TheVariants as link_fault
use Rattle.session_base.specs.Gathering.{IsGiven}

pub gives_none : (fault : LinkFault) → (fault ≡ link_fault.Memory → ⊥) → IsGiven (Err fault) None
gives_none link_fault.Memory other = absurd (other refl)
gives_none (link_fault.Fetch ended) other = refl
gives_none (link_fault.Meta fault) other = refl
gives_none (link_fault.BadHref path) other = refl
gives_none (link_fault.Loop href) other = refl
gives_none (link_fault.TooMany count) other = refl
gives_none (link_fault.TooLong size) other = refl
