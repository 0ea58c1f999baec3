-- How many bytes are kept: the first leave until the others have room.
use Rattle.std.proofs.Common.{◌≡◌, ℕ, ◌+◌, ◌<◌, ◌≤◌, Bool, true, false, not, List, [], ◌∷◌, ◌++◌, length, refl, sym, ap, ◌∙◌, subst, inl, inr, Some, arith, nat_le}
use Rattle.std.specs.List.{filter, find}
use Rattle.std.proofs.lemmas.Bool.{both_ways, cases_Bool, cond-false, cond-true, le-leb, leb-false, leb-true, not_from_false, not_from_true}
use Rattle.std.proofs.lemmas.List.Sums.{sum_by-append, sum_by-cons}
use Rattle.std.proofs.lemmas.Option.{none-some, same_Some}
use Rattle.history.specs.Kept.{evicted, size_of, total}
use Rattle.history.specs.World.{Kept}
use Rattle.kept_law.specs.KeptObjects.{MakesRoom, bytes_of}

abbrev head_or : Kept → List Kept → Kept
head_or x [] = x
head_or x (y ∷ ys) = y

abbrev tail_of : List Kept → List Kept
tail_of [] = []
tail_of (x ∷ xs) = xs

abbrev is_none : List Kept → Bool
is_none [] = true
is_none (x ∷ xs) = false

-- nothing has left
none_gone : (before : List Kept) (last : Kept) → [] ≡ before ++ last ∷ [] → ⊥
none_gone [] last is = both_ways true (ap is_none is) refl
none_gone (x ∷ xs) last is = both_ways true (ap is_none is) refl

-- the last one that left had no room: it is the first of these, or one behind it
last_gone : (most : ℕ) (x : Kept) (xs gone stay : List Kept) (one : Kept) → xs ≡ gone ++ stay → most < bytes_of (x ∷ xs ++ one ∷ [])
    → ((before : List Kept) (last : Kept) → gone ≡ before ++ last ∷ [] → most < bytes_of (last ∷ stay ++ one ∷ []))
    → (before : List Kept) (last : Kept) → x ∷ gone ≡ before ++ last ∷ [] → most < bytes_of (last ∷ stay ++ one ∷ [])
last_gone most x xs gone stay one parts large rest [] last is =
    let this : x ≡ last = ap (head_or x) is in
    let all : xs ≡ stay = parts ∙ ap (λ k. k ++ stay) (ap tail_of is) in
    subst (λ k. most < bytes_of (last ∷ k ++ one ∷ [])) all (subst (λ k. most < bytes_of (k ∷ xs ++ one ∷ [])) this large)
last_gone most x xs gone stay one parts large rest (b ∷ bs) last is = rest bs last (ap tail_of is)

pub room : (most : ℕ) (xs : List Kept) (one : Kept) → length one.body ≤ most → MakesRoom most xs one (evicted most (xs ++ one ∷ []))
room most [] one fits =
    let sum : total (one ∷ []) ≡ size_of one + 0 = sum_by-cons size_of one [] in
    record {
      gone = [];
      stay = [];
      parts = refl;
      whole = cond-true (nat_le (total (one ∷ [])) most) (one ∷ []) (evicted most []) (le-leb (total (one ∷ [])) most (omega (arith, sum, fits)));
      fewest = λ before last is. absurd (none_gone before last is);
    }
room most (x ∷ xs) one fits = elim (cases_Bool (nat_le (total (x ∷ xs ++ one ∷ [])) most)) [
  | inl within ↦ record {
    gone = [];
    stay = x ∷ xs;
    parts = refl;
    whole = cond-true (nat_le (total (x ∷ xs ++ one ∷ [])) most) (x ∷ xs ++ one ∷ []) (evicted most (xs ++ one ∷ [])) within;
    fewest = λ before last is. absurd (none_gone before last is);
  }
  | inr large ↦ let rest = room most xs one fits in record {
    gone = x ∷ rest.gone;
    stay = rest.stay;
    parts = ap (λ k. x ∷ k) rest.parts;
    whole = cond-false (nat_le (total (x ∷ xs ++ one ∷ [])) most) (x ∷ xs ++ one ∷ []) (evicted most (xs ++ one ∷ [])) large ∙ rest.whole;
    fewest = last_gone most x xs rest.gone rest.stay one rest.parts (leb-false (total (x ∷ xs ++ one ∷ [])) most large) rest.fewest;
  }
]

pub within_evicted : (most : ℕ) (xs : List Kept) → bytes_of (evicted most xs) ≤ most
within_evicted most [] = omega arith
within_evicted most (x ∷ xs) = elim (cases_Bool (nat_le (total (x ∷ xs)) most)) [
  | inl within ↦ subst (λ k. bytes_of k ≤ most) (sym (cond-true (nat_le (total (x ∷ xs)) most) (x ∷ xs) (evicted most xs) within)) (leb-true (total (x ∷ xs)) most within)
  | inr large ↦ subst (λ k. bytes_of k ≤ most) (sym (cond-false (nat_le (total (x ∷ xs)) most) (x ∷ xs) (evicted most xs) large)) (within_evicted most xs)
]

pub fewer_bytes : (test : Kept → Bool) (xs : List Kept) → bytes_of (filter test xs) ≤ bytes_of xs
fewer_bytes test [] = omega arith
fewer_bytes test (x ∷ xs) =
    let sum : bytes_of (x ∷ xs) ≡ size_of x + bytes_of xs = sum_by-cons size_of x xs in
    let rest = fewer_bytes test xs in
    elim (cases_Bool (test x)) [
      | inl passes ↦
          let more : bytes_of (x ∷ filter test xs) ≡ size_of x + bytes_of (filter test xs) = sum_by-cons size_of x (filter test xs) in
          subst (λ k. bytes_of k ≤ bytes_of (x ∷ xs)) (sym (cond-true (test x) (x ∷ filter test xs) (filter test xs) passes)) (omega (arith, sum, rest, more))
      | inr fails ↦ subst (λ k. bytes_of k ≤ bytes_of (x ∷ xs)) (sym (cond-false (test x) (x ∷ filter test xs) (filter test xs) fails)) (omega (arith, sum, rest))
    ]

-- the first that passes a test, moved to the end
pub moved_bytes : (test : Kept → Bool) (xs : List Kept) (one : Kept) → find test xs ≡ Some one → bytes_of (filter (λ k. not (test k)) xs ++ one ∷ []) ≤ bytes_of xs
moved_bytes test [] one is = absurd (none-some one is)
moved_bytes test (x ∷ xs) one is =
    let sum : bytes_of (x ∷ xs) ≡ size_of x + bytes_of xs = sum_by-cons size_of x xs in
    let less : List Kept = filter (λ k. not (test k)) xs in
    let end : bytes_of (less ++ one ∷ []) ≡ bytes_of less + bytes_of (one ∷ []) = sum_by-append size_of less (one ∷ []) in
    let last : bytes_of (one ∷ []) ≡ size_of one + 0 = sum_by-cons size_of one [] in
    elim (cases_Bool (test x)) [
      | inl passes ↦
          let same : size_of x ≡ size_of one = ap size_of (same_Some x one (sym (cond-true (test x) (Some x) (find test xs) passes) ∙ is)) in
          let rest = fewer_bytes (λ k. not (test k)) xs in
          subst (λ k. bytes_of (k ++ one ∷ []) ≤ bytes_of (x ∷ xs)) (sym (cond-false (not (test x)) (x ∷ less) less (not_from_true (test x) passes))) (omega (arith, sum, end, last, same, rest))
      | inr fails ↦
          let rest = moved_bytes test xs one (sym (cond-false (test x) (Some x) (find test xs) fails) ∙ is) in
          let more : bytes_of (x ∷ less ++ one ∷ []) ≡ size_of x + bytes_of (less ++ one ∷ []) = sum_by-cons size_of x (less ++ one ∷ []) in
          subst (λ k. bytes_of (k ++ one ∷ []) ≤ bytes_of (x ∷ xs)) (sym (cond-true (not (test x)) (x ∷ less) less (not_from_false (test x) fails))) (omega (arith, sum, rest, more))
    ]
