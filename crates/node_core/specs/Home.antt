-- What is said of a home: a node that passes call, one of them through it.
use Rattle.std.specs.Prelude.{◌≡◌, ℕ, [], ◌∷◌, ◌++◌}
use Rattle.history.specs.After.{begun_delivery, begun_fetch, begun_refresh}
use Rattle.history.specs.Event.{Event, History, FetchEnd, Finish, RefreshEnd}
use Rattle.history.specs.History.{reply_to}
use Rattle.history.specs.Laws.{HasBegun, ends_delivery, ends_fetch, ends_refresh}
use Rattle.history.specs.World.{Made}
use Rattle.history.specs.declared.reply.Reply.{Reply}

-- with what the node of a home is made, and the number of the pass that calls through the home
pub record Who : Type 0 where
  pub made : Made
  pub number : ℕ

-- this pass began what the call ends, and has not ended it since
abbrev pub EndsOpen : Made → History → ℕ → Event → Type 0
EndsOpen made h pass (FetchEnd fetch outcome moment) = HasBegun made begun_fetch ends_fetch h fetch pass
EndsOpen made h pass (RefreshEnd refresh tree moment) = HasBegun made begun_refresh ends_refresh h refresh pass
EndsOpen made h pass (Finish delivery status total entity moment) = HasBegun made begun_delivery ends_delivery h delivery pass
EndsOpen made h pass event = ⊥

-- all entries are of this pass
abbrev pub AreOf : ℕ → History → Type 0
AreOf number [] = Unit {0}
AreOf number (entry ∷ entries) = (entry.0 ≡ number) × AreOf number entries

-- no entry is of this pass
abbrev pub AreOthers : ℕ → History → Type 0
AreOthers number [] = Unit {0}
AreOthers number (entry ∷ entries) = (entry.0 ≡ number → ⊥) × AreOthers number entries

-- after other passes' entries the call is answered as the history before it says, and that history and the call are seen
pub record IsAnswered (who : Who) (h : History) (event : Event) (given : Reply) (sees : History → Type 0) : Type 0 where
  pub others : History
  pub are_others : AreOthers who.number others
  pub answer : given ≡ reply_to who.made (h ++ others) (who.number, event)
  pub seen : sees ((h ++ others) ++ (who.number, event) ∷ [])

-- nothing but other passes' entries is seen since
pub record IsUnanswered (who : Who) (h : History) (sees : History → Type 0) : Type 0 where
  pub others : History
  pub are_others : AreOthers who.number others
  pub seen : sees (h ++ others)
