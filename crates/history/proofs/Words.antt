-- What histories leave, entry by entry, and how they are cut.
use Rattle.std.proofs.Common.{◌≡◌, ℕ, ◌+◌, List, [], ◌∷◌, ◌++◌, length, refl, sym, ap, ◌∙◌, subst, append_assoc, arith, inl, inr, ◌⊎◌, length-append}
use Rattle.std.specs.List.{fold}
use Rattle.std.proofs.lemmas.List.{append-nil}
use Rattle.std.proofs.lemmas.List.Sums.{fold-append}
use Rattle.history.specs.After.{after}
use Rattle.history.specs.Event.{Entry, History}
use Rattle.history.specs.History.{world_of, reply_to, AnsweredAt}
use Rattle.history.specs.World.{Made, World, nothing}

pub world_none : (made : Made) → world_of made [] ≡ nothing made
unfolding world_of
world_none made = refl

pub world_append : (made : Made) (h more : History) → world_of made (h ++ more) ≡ fold after (world_of made h) more
unfolding world_of
world_append made h more = fold-append after (nothing made) h more

pub world_push : (made : Made) (h : History) (entry : Entry) → world_of made (h ++ entry ∷ []) ≡ after (world_of made h) entry
unfolding world_of
world_push made h entry = fold-append after (nothing made) h (entry ∷ [])
