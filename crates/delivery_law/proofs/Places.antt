-- What was answered in a history was answered in each longer one.
use Rattle.std.proofs.Common.{◌≡◌, ℕ, ◌+◌, ◌≤◌, [], ◌∷◌, ◌++◌, length, refl, sym, ap, ◌∙◌, subst, append_assoc, length-append, arith, inl, inr, ◌⊎◌}
use Rattle.std.proofs.lemmas.List.{append-nil}
use Rattle.history.specs.Event.{Entry, History}
use Rattle.history.specs.History.{AnsweredAt, reply_to}
use Rattle.history.specs.World.{Made}
use Rattle.history.specs.declared.reply.Reply.{Reply}

-- an induction from the right
pub from_right_after : (P : History → Type 0) → ((h : History) (e : Entry) → P h → P (h ++ e ∷ [])) → (before since : History) → P before → P (before ++ since)
from_right_after P step before [] p = subst P (sym (append-nil before)) p
from_right_after P step before (e ∷ since) p = subst P (append_assoc before (e ∷ []) since) (from_right_after P step (before ++ e ∷ []) since (step before e p))

pub from_right : (P : History → Type 0) → P [] → ((h : History) (e : Entry) → P h → P (h ++ e ∷ [])) → (h : History) → P h
from_right P none step h = from_right_after P step [] h none

module _ {made : Made} {h : History} where
  abbrev pub longer : {at : ℕ} {entry : Entry} {answer : Reply} (e : Entry) → AnsweredAt made h at entry answer → AnsweredAt made (h ++ e ∷ []) at entry answer
  longer {entry = entry} e a = record {
    before = a.before;
    since = a.since ++ e ∷ [];
    whole = ap (λ x. x ++ e ∷ []) a.whole ∙ append_assoc a.before (entry ∷ a.since) (e ∷ []);
    place = a.place;
    answered = a.answered;
  }

  pub within : {at : ℕ} {entry : Entry} {answer : Reply} → AnsweredAt made h at entry answer → at ≤ length h
  within {entry = entry} a = let whole = ap length a.whole in let both = length-append a.before (entry ∷ a.since) in let place = a.place in omega (arith, whole, both, place)

pub length_push : (h : History) (e : Entry) → length (h ++ e ∷ []) ≡ length h + 1
length_push h e = omega (arith, length-append h (e ∷ []))

abbrev pub here : (made : Made) (h : History) (e : Entry) (answer : Reply) → reply_to made h e ≡ answer → AnsweredAt made (h ++ e ∷ []) (length h + 1) e answer
here made h e answer is = record { before = h; since = []; whole = refl; place = refl; answered = is }

abbrev head_or : Entry → History → Entry
head_or e [] = e
head_or e (x ∷ xs) = x

abbrev tail_of : History → History
tail_of [] = []
tail_of (x ∷ xs) = xs

-- where a list with one more at its end is cut, the cut is within the list or at the one more
pub split_last : (h before since : History) (e f : Entry) → h ++ e ∷ [] ≡ before ++ f ∷ since → ((more : History) × (h ≡ before ++ f ∷ more) × (since ≡ more ++ e ∷ [])) ⊎ ((h ≡ before) × (e ≡ f) × (since ≡ []))
split_last [] [] since e f is = inr (refl, ap (λ (xs : History). head_or e xs) is, sym (ap tail_of is))
split_last [] (b ∷ before) since e f is = absurd (omega (arith, ap length is, length-append before (f ∷ since)))
split_last (x ∷ h) [] since e f is = inl (h, ap (λ (xs : History). head_or x xs ∷ h) is, sym (ap tail_of is))
split_last (x ∷ h) (b ∷ before) since e f is = elim (split_last h before since e f (ap tail_of is)) [
  | inl within ↦ inl (within.0, ap (λ (xs : History). head_or x xs ∷ h) is ∙ ap (λ xs. b ∷ xs) within.1, within.2)
  | inr last ↦ inr (ap (λ (xs : History). head_or x xs ∷ h) is ∙ ap (λ xs. b ∷ xs) last.0, last.1, last.2)
]

-- what is answered in a history with one entry more was answered in the history, or is the entry at its end
pub answered_push : (made : Made) (h : History) (e : Entry) (at : ℕ) (entry : Entry) (answer : Reply) → AnsweredAt made (h ++ e ∷ []) at entry answer
    → AnsweredAt made h at entry answer ⊎ ((at ≡ length h + 1) × (entry ≡ e) × (reply_to made h e ≡ answer))
answered_push made h e at entry answer a = elim (split_last h a.before a.since e entry a.whole) [
  | inl old ↦ inl (record { before = a.before; since = old.0; whole = old.1; place = a.place; answered = a.answered })
  | inr last ↦ inr (a.place ∙ ap (λ (x : History). length x + 1) (sym last.0), sym last.1, ap (λ x. reply_to made x e) last.0 ∙ ap (λ x. reply_to made a.before x) last.1 ∙ a.answered)
]
