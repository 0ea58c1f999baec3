-- What a pass has begun is ended by a later entry.
use Rattle.std.specs.Prelude.{◌≡◌, ℕ, ◌<◌, ◌++◌, length, true, Some}
use Rattle.std.specs.List.{list_any}
use Rattle.history.specs.Event.{Event, History}
use Rattle.history.specs.History.{AnsweredAt}
use Rattle.history.specs.Laws.{ends_delivery, ends_fetch, ends_refresh}
use Rattle.history.specs.declared.reply.Reply.{Reply}
use Rattle.node_core.specs.Home.{Who}
use Rattle.session.specs.Ended.{opened_delivery, opened_fetch, opened_refresh}

-- each delivery, fetch and refresh that an entry of this pass began behind the first entries, so many, is ended by a later
-- entry of it
pub record EndsItsOwn (who : Who) (first : ℕ) (h : History) : Type 0 where
  pub delivery : (at number : ℕ) (event : Event) (answer : Reply) → first < at
      → (a : AnsweredAt who.made h at (who.number, event) answer) → opened_delivery (event, answer) ≡ Some number
      → list_any (ends_delivery number who.number) a.since ≡ true
  pub fetch : (at number : ℕ) (event : Event) (answer : Reply) → first < at
      → (a : AnsweredAt who.made h at (who.number, event) answer) → opened_fetch (event, answer) ≡ Some number
      → list_any (ends_fetch number who.number) a.since ≡ true
  pub refresh : (at number : ℕ) (event : Event) (answer : Reply) → first < at
      → (a : AnsweredAt who.made h at (who.number, event) answer) → opened_refresh (event, answer) ≡ Some number
      → list_any (ends_refresh number who.number) a.since ≡ true

-- what was seen is a beginning of what is seen now, and what this pass began since is ended
pub record EndsSince (who : Who) (h : History) (sees : History → Type 0) : Type 0 where
  pub more : History
  pub seen : sees (h ++ more)
  pub ended : EndsItsOwn who (length h) (h ++ more)
