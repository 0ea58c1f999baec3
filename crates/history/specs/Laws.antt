-- What is said of histories.
use Rattle.std.specs.Prelude.{◌≡◌, ℕ, ◌<◌, Bool, false, not, IsTrue, List, ◌∷◌, ◌++◌, None, Some, ◌==◌, ◌&&◌}
use Rattle.std.specs.List.{list_all, list_any}
use Rattle.std.specs.Option.{option_map_or}
use Rattle.std.specs.declared.option.Option.{Option}
use Rattle.cdni_base.specs.declared.asked.Asked.{Asked}
use Rattle.targets.specs.declared.target.Target.{Target}
use Rattle.upstream_gate.specs.declared.outcome.Outcome.TheVariants as outcome
use Rattle.history.specs.After.{begun_delivery, begun_fetch, begun_refresh, fetching}
use Rattle.history.specs.Event.{Entry, Event, History, Admit, FetchEnd, Finish, RefreshEnd, Advance}
use Rattle.history.specs.History.{AnsweredAt, reply_to, world_of}
use Rattle.history.specs.Kept.{is_hit_since}
use Rattle.history.specs.Metadata.{key_at}
use Rattle.history.specs.Steps.{index_of}
use Rattle.history.specs.World.{Begun, Installed, Kept, Made, World, is_open}
use Rattle.history.specs.declared.begun.Fetching.{Fetching}
use Rattle.history.specs.declared.reply.Reply.{Reply}
use Rattle.history.specs.declared.reply.Reply.TheVariants as reply

-- the number of the installed refresh, 0 where none is installed
abbrev pub installed_refresh : World → ℕ
installed_refresh w = option_map_or (λ installed. installed.refresh) w.delivering.tree 0

-- ---- what is open

-- what this pass began under this number is among these
abbrev pub IsOpen : {A : Type 0} → ℕ → ℕ → List (Begun A) → Type 0
IsOpen number pass begun = IsTrue (list_any (is_open number pass) begun)

-- the entry of this pass asks for the end of this delivery
abbrev pub ends_delivery : ℕ → ℕ → Entry → Bool
ends_delivery number pass (by, Finish delivery status total entity moment) = delivery == number && by == pass
ends_delivery number pass entry = false

-- of this fetch
abbrev pub ends_fetch : ℕ → ℕ → Entry → Bool
ends_fetch number pass (by, FetchEnd fetch outcome moment) = fetch == number && by == pass
ends_fetch number pass entry = false

-- of this refresh
abbrev pub ends_refresh : ℕ → ℕ → Entry → Bool
ends_refresh number pass (by, RefreshEnd refresh tree moment) = refresh == number && by == pass
ends_refresh number pass entry = false

-- an entry of this pass was answered with this number, and no later one asks for its end
pub record HasBegun (made : Made) (given : Reply → Option ℕ) (ends : ℕ → ℕ → Entry → Bool) (h : History) (number pass : ℕ) : Type 0 where
  pub before : History
  pub event : Event
  pub since : History
  pub whole : h ≡ before ++ (pass, event) ∷ since
  pub begun : given (reply_to made before (pass, event)) ≡ Some number
  pub kept : IsTrue (list_all (λ entry. not (ends number pass entry)) since)
