-- A history of calls, what it leaves, and what the next call is answered.
use Rattle.std.specs.Prelude.{◌≡◌, ℕ, ◌+◌, List, [], ◌∷◌, ◌++◌, length}
use Rattle.std.specs.List.{fold}
use Rattle.history.specs.After.{after}
use Rattle.history.specs.Event.{Entry, History}
use Rattle.history.specs.Reply.{reply_in}
use Rattle.history.specs.World.{Made, World, nothing}
use Rattle.history.specs.declared.reply.Reply.{Reply}

-- what the history leaves
unfoldable pub world_of : Made → History → World
world_of made h = fold after (nothing made) h

-- what the entry is answered after the history
abbrev pub reply_to : Made → History → Entry → Reply
reply_to made h entry = reply_in (world_of made h) entry

-- the entry at this position, counted from 1, was answered so
pub record AnsweredAt (made : Made) (h : History) (at : ℕ) (entry : Entry) (answer : Reply) : Type 0 where
  pub before : History
  pub since : History
  pub whole : h ≡ before ++ entry ∷ since
  pub place : at ≡ length before + 1
  pub answered : reply_to made before entry ≡ answer
