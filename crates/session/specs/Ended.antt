-- What is opened in a list of calls is ended in it.
use Rattle.std.specs.Prelude.{◌≡◌, ℕ, Bool, true, List, [], ◌∷◌, None, Some}
use Rattle.std.specs.List.{list_any}
use Rattle.std.specs.declared.option.Option.{Option}
use Rattle.history.specs.After.{begun_delivery, begun_fetch, begun_refresh}
use Rattle.history.specs.Event.{Entry, Admit, RefreshBegin, Advance}
use Rattle.history.specs.Laws.{ends_delivery, ends_fetch, ends_refresh}
use Rattle.session_base.specs.Doing.{Called}

-- the delivery that a call has opened
abbrev pub opened_delivery : Called → Option ℕ
opened_delivery (Admit request moment, answer) = begun_delivery answer
opened_delivery call = None

-- the fetch
abbrev pub opened_fetch : Called → Option ℕ
opened_fetch (Admit request moment, answer) = begun_fetch answer
opened_fetch (Advance id moment, answer) = begun_fetch answer
opened_fetch call = None

-- the refresh
abbrev pub opened_refresh : Called → Option ℕ
opened_refresh (RefreshBegin moment, answer) = begun_refresh answer
opened_refresh (Advance id moment, answer) = begun_refresh answer
opened_refresh call = None

-- a call among these asks for the end of what has this number
abbrev pub IsEndedIn : (ℕ → ℕ → Entry → Bool) → ℕ → List Called → Type 0
IsEndedIn ends number calls = list_any (λ call. ends number 0 (0, call.0)) calls ≡ true

-- what this call has opened is ended by a later one
pub record EndsLater (call : Called) (later : List Called) : Type 0 where
  pub delivery : (number : ℕ) → opened_delivery call ≡ Some number → IsEndedIn ends_delivery number later
  pub fetch : (number : ℕ) → opened_fetch call ≡ Some number → IsEndedIn ends_fetch number later
  pub refresh : (number : ℕ) → opened_refresh call ≡ Some number → IsEndedIn ends_refresh number later

-- all that is opened is ended
abbrev pub AllEnded : List Called → Type 0
AllEnded [] = Unit {0}
AllEnded (call ∷ calls) = EndsLater call calls × AllEnded calls
