-- What the words say, as its parts.
use Rattle.std.specs.Prelude.{ℕ, List}
use Rattle.cdni_base.specs.declared.provider.ProviderId.{ProviderId}
use Rattle.trigger_cascade.specs.declared.cdn.Cdn.{Cdn}

-- the id of this CDN, how many rounds of polling there are, and the CDNs that the command is passed on to
pub record OrderParts : Type 0 where
  pub own : ProviderId
  pub rounds : ℕ
  pub cdns : List Cdn
