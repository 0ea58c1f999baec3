-- The causes of failures of a link.
use Rattle.std.specs.Prelude.{◌≡◌, ℕ, ◌≤◌, Bool, true, false}
use Rattle.edge_base.specs.Causes.{Rose}
use Rattle.trigger_cascade.specs.declared.link.Polled.{Polled}
use Rattle.trigger_cascade.specs.declared.link.Polled.TheVariants as polled
use Rattle.trigger_cascade.specs.declared.link.Posted.{Posted}
use Rattle.trigger_cascade.specs.declared.link.Posted.TheVariants as posted

abbrev pub is_failed_post : Posted → Bool
is_failed_post (posted.Created place) = false
is_failed_post (posted.Refused status) = false
is_failed_post posted.Malformed = false
is_failed_post posted.Failed = true
is_failed_post posted.Memory = false

abbrev pub is_failed_poll : Polled → Bool
is_failed_poll (polled.Status far) = false
is_failed_poll polled.Unreadable = false
is_failed_poll polled.Failed = true
is_failed_poll polled.Memory = false

-- the count of faults did not fall; it rose where the call failed, and is the same where it did not
pub record HasCause (before now : ℕ) (failed : Bool) : Type 0 where
  pub later : before ≤ now
  pub rose : failed ≡ true → Rose before now
  pub same : failed ≡ false → now ≡ before
