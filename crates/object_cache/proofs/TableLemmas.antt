-- What the kept objects are after each call, and their lengths together.
use Rattle.std.proofs.Common.{◌≡◌, All, Contains, ℕ, zero, suc, remove, take, slice_get, ◌+◌, ◌-◌, ◌<◌, ◌≤◌, ◌⊎◌, inl, inr, Bool, true, false, cond, not, nat_le, List, [], ◌∷◌, ◌++◌, Option, None, Some, filter, find, map, option_to_list, refl, sym, ap, ◌∙◌, subst, append_assoc, arith}
use Rattle.std.proofs.lemmas.List.Sums.{sum_by-append, sum_by-cons, sum_by_push, sum_by-remove}
use Rattle.std.proofs.lemmas.Bool.{cases_lt, le-leb, leb-true, lt-leb, and_parts}
use Rattle.std.proofs.lemmas.List.{append-nil}
use Rattle.std.proofs.lemmas.List.Elements.{All-contains, All-contains_itself, All-weaker}
use Rattle.std.proofs.lemmas.Option.{none-some, get_or_from_slice_get, slice_get_within}
use Rattle.cdni_base.specs.Key.{KeyParts}
use Rattle.cdni_base.specs.KeyEqualityLemmas.{key_decides}
use Rattle.rows.specs.Row.{ArePassed, RowSeen, moved}
use Rattle.object_cache.specs.declared.object.Object.{Object}
use Rattle.object_cache.specs.ObjectTable.{AreApart, Kept, evicted, filled, is_filled, is_of, kept_of, length_of, others, renewed, renewed_one, total}

-- a table with these
abbrev pub kept : ℕ → List Object → ℕ → ℕ → Kept
kept limit objects spare passed = record { limit = limit; objects = objects; spare = spare; passed = passed }

-- what a walk has passed, where nothing moved
pub passed_same : (a b : RowSeen Object) (n : ℕ) → b ≡ record a { spare = n } → ArePassed a b
passed_same a b n is = subst (λ (v : RowSeen Object). ArePassed a v) (sym is) (All-contains_itself (take a.passed a.items))

-- as a table is seen
pub passed_seen : (now : Kept) (old new : RowSeen Object) (limit : ℕ) → kept limit old.items old.spare old.passed ≡ now → ArePassed old new
    → All (Contains (take now.passed now.objects)) (take new.passed new.items)
passed_seen now old new limit is h = subst (λ (v : Kept). All (Contains (take v.passed v.objects)) (take new.passed new.items)) is h

-- what a walk has passed, after two calls
pub passed_both : (a b c : RowSeen Object) → ArePassed a b → ArePassed b c → ArePassed a c
passed_both a b c h g =
    All-weaker (Contains (take b.passed b.items)) (Contains (take a.passed a.items))
    (λ one there. All-contains (Contains (take a.passed a.items)) (take b.passed b.items) one h there) (take c.passed c.items) g

-- by a test
module _ (test : Object → Bool) where
  -- none of the others passes
  pub none_other : (xs : List Object) → find test (filter (λ o. not (test o)) xs) ≡ None
  none_other [] = refl
  none_other (x ∷ xs) = other_by (test x) refl (none_other xs)
    where
      other_by : (b : Bool) → test x ≡ b → find test (filter (λ o. not (test o)) xs) ≡ None
          → find test (filter (λ o. not (test o)) (x ∷ xs)) ≡ None
      other_by true e rest =
          ap (λ (b : Bool). find test (cond (not b) (x ∷ filter (λ o. not (test o)) xs) (filter (λ o. not (test o)) xs))) e ∙ rest
      other_by false e rest =
          ap (λ (b : Bool). find test (cond (not b) (x ∷ filter (λ o. not (test o)) xs) (filter (λ o. not (test o)) xs))) e
          ∙ ap (λ (b : Bool). cond b (Some x) (find test (filter (λ o. not (test o)) xs))) e ∙ rest

  -- nor, where none passes, of those that stay
  none_rest : (b : Bool) (x : Object) (r : Option Object) → cond b (Some x) r ≡ None → r ≡ None
  none_rest true x r h = absurd (none-some x (sym h))
  none_rest false x r h = h

  pub none_evicted : (most : ℕ) (xs : List Object) → find test xs ≡ None → find test (evicted most xs) ≡ None
  none_evicted most [] h = refl
  none_evicted most (x ∷ xs) h =
      evicted_by (nat_le (total (x ∷ xs)) most) (none_evicted most xs (none_rest (test x) x (find test xs) h))
    where
      evicted_by : (b : Bool) → find test (evicted most xs) ≡ None → find test (cond b (x ∷ xs) (evicted most xs)) ≡ None
      evicted_by true rest = h
      evicted_by false rest = rest

-- nobody leaves where there is room for all
pub evicted_none : (most : ℕ) (xs : List Object) → total xs ≤ most → evicted most xs ≡ xs
evicted_none most [] l = refl
evicted_none most (x ∷ xs) l = ap (λ (b : Bool). cond b (x ∷ xs) (evicted most xs)) (le-leb (total (x ∷ xs)) most l)

-- and else the first leaves
pub evicted_first : (most : ℕ) (x : Object) (xs ys : List Object) → ys ≡ x ∷ xs → most < total ys → evicted most ys ≡ evicted most xs
evicted_first most x xs ys e l =
    ap (evicted most) e
    ∙ ap (λ (b : Bool). cond b (x ∷ xs) (evicted most xs))
    (lt-leb (total (x ∷ xs)) most (let t : total ys ≡ total (x ∷ xs) = ap total e in omega arith))

-- it is one whether the first leave before or after an object is put at the end
pub evicted_push : (limit : ℕ) (xs : List Object) (o : Object) → length_of o ≤ limit
    → evicted limit (xs ++ o ∷ []) ≡ evicted (limit - length_of o) xs ++ o ∷ []
evicted_push limit [] o l = evicted_none limit (o ∷ []) (omega (arith, sum_by-cons length_of o []))
evicted_push limit (x ∷ xs) o l =
    push_by (cases_lt (limit - length_of o) (total (x ∷ xs))) (evicted_push limit xs o l)
  where
    whole : total (x ∷ (xs ++ o ∷ [])) ≡ total (x ∷ xs) + length_of o
    whole = sum_by_push length_of (x ∷ xs) o

    push_by : (limit - length_of o < total (x ∷ xs)) ⊎ (total (x ∷ xs) ≤ limit - length_of o)
        → evicted limit (xs ++ o ∷ []) ≡ evicted (limit - length_of o) xs ++ o ∷ []
        → evicted limit (x ∷ (xs ++ o ∷ [])) ≡ evicted (limit - length_of o) (x ∷ xs) ++ o ∷ []
    push_by (inl m) rest =
        evicted_first limit x (xs ++ o ∷ []) (x ∷ (xs ++ o ∷ [])) refl (omega (arith, whole)) ∙ rest
        ∙ ap (λ (ys : List Object). ys ++ o ∷ []) (sym (evicted_first (limit - length_of o) x xs (x ∷ xs) refl m))
    push_by (inr m) rest =
        evicted_none limit (x ∷ (xs ++ o ∷ [])) (omega (arith, whole))
        ∙ ap (λ (ys : List Object). ys ++ o ∷ []) (sym (evicted_none (limit - length_of o) (x ∷ xs) m))

-- what is kept where the object is, and where it is not
pub filled_true : (limit : ℕ) (xs : List Object) (o : Object) → is_filled limit xs o ≡ true
    → evicted (limit - length_of o) (others o.key xs) ++ o ∷ [] ≡ filled limit xs o
filled_true limit xs o h =
    sym (evicted_push limit (others o.key xs) o (leb-true (length_of o) limit (and_parts (nat_le (length_of o) limit) _ h).0))
    ∙ ap (λ (b : Bool). cond b (evicted limit (others o.key xs ++ o ∷ [])) xs) (sym h)

pub filled_false : (limit : ℕ) (xs : List Object) (o : Object) → is_filled limit xs o ≡ false → xs ≡ filled limit xs o
filled_false limit xs o h = ap (λ (b : Bool). cond b (evicted limit (others o.key xs ++ o ∷ [])) xs) (sym h)

pub filled_small : (limit : ℕ) (xs : List Object) (o : Object) → is_filled limit xs o ≡ true → length_of o ≤ limit
filled_small limit xs o h = leb-true (length_of o) limit (and_parts (nat_le (length_of o) limit) _ h).0

-- ---- no two objects have one key

-- by a test, of two lists together
module _ (test : Object → Bool) where
  pub none_left : (a b : List Object) → find test (a ++ b) ≡ None → find test a ≡ None
  none_left [] b h = refl
  none_left (x ∷ a) b h = left_by (test x) h (none_left a b)
    where
      left_by : (t : Bool) → cond t (Some x) (find test (a ++ b)) ≡ None → (find test (a ++ b) ≡ None → find test a ≡ None)
          → cond t (Some x) (find test a) ≡ None
      left_by true h rest = h
      left_by false h rest = rest h

  pub none_right : (a b : List Object) → find test (a ++ b) ≡ None → find test b ≡ None
  none_right [] b h = h
  none_right (x ∷ a) b h = none_right a b (none_rest test (test x) x (find test (a ++ b)) h)

  none_join : (a b : List Object) → find test a ≡ None → find test b ≡ None → find test (a ++ b) ≡ None
  none_join [] b h g = g
  none_join (x ∷ a) b h g = join_by (test x) h (λ rest. none_join a b rest g)
    where
      join_by : (t : Bool) → cond t (Some x) (find test a) ≡ None → (find test a ≡ None → find test (a ++ b) ≡ None)
          → cond t (Some x) (find test (a ++ b)) ≡ None
      join_by true h rest = h
      join_by false h rest = rest h

  found_passes : (xs : List Object) (o : Object) → find test xs ≡ Some o → test o ≡ true
  found_passes [] o h = absurd (none-some o h)
  found_passes (x ∷ xs) o h = passes_by (test x) refl h (found_passes xs o)
    where
      passes_by : (t : Bool) → test x ≡ t → cond t (Some x) (find test xs) ≡ Some o → (find test xs ≡ Some o → test o ≡ true) → test o ≡ true
      passes_by true is found rest = let same : x ≡ o = cc in ap test (sym same) ∙ is
      passes_by false is found rest = rest found

pub apart_fewer : (a b xs : List Object) → ((key : KeyParts) → kept_of key a ≡ None → kept_of key b ≡ None) → AreApart a xs → AreApart b xs
apart_fewer a b [] fewer h = tt
apart_fewer a b (x ∷ xs) fewer h = (
  fewer x.key h.0,
  apart_fewer (a ++ x ∷ []) (b ++ x ∷ []) xs
      (λ key none. none_join (is_of key) b (x ∷ []) (fewer key (none_left (is_of key) a (x ∷ []) none)) (none_right (is_of key) a (x ∷ []) none))
      h.1,
)

pub apart_rest : (a xs : List Object) (x : Object) → AreApart a (x ∷ xs) → AreApart a xs
apart_rest a xs x h = apart_fewer (a ++ x ∷ []) a xs (λ key. none_left (is_of key) a (x ∷ [])) h.1

pub apart_filter : (test : Object → Bool) (a xs : List Object) → AreApart a xs → AreApart a (filter test xs)
apart_filter test a [] h = tt
apart_filter test a (x ∷ xs) h = elim (test x) as (λ t. AreApart a (cond t (x ∷ filter test xs) (filter test xs))) [
  | true ↦ (h.0, apart_filter test (a ++ x ∷ []) xs h.1)
  | false ↦ apart_filter test a xs (apart_rest a xs x h)
]

pub apart_evicted : (most : ℕ) (a xs : List Object) → AreApart a xs → AreApart a (evicted most xs)
apart_evicted most a [] h = tt
apart_evicted most a (x ∷ xs) h = elim (nat_le (total (x ∷ xs)) most) as (λ t. AreApart a (cond t (x ∷ xs) (evicted most xs))) [
  | true ↦ h
  | false ↦ apart_evicted most a xs (apart_rest a xs x h)
]

pub apart_push : (a xs : List Object) (o : Object) → AreApart a xs → kept_of o.key (a ++ xs) ≡ None → AreApart a (xs ++ o ∷ [])
apart_push a [] o h none = (none_left (is_of o.key) a [] none, tt)
apart_push a (x ∷ xs) o h none = (h.0, apart_push (a ++ x ∷ []) xs o h.1 (rw append_assoc none))

pub apart_moved : (key : KeyParts) (xs : List Object) → AreApart [] xs → AreApart [] (moved (is_of key) xs)
apart_moved key xs h = moved_by (kept_of key xs) refl
  where
    moved_by : (found : Option Object) → kept_of key xs ≡ found → AreApart [] (others key xs ++ option_to_list found)
    moved_by None is = rw append-nil (apart_filter (λ o. not (is_of key o)) [] xs h)
    moved_by (Some o) is =
        apart_push [] (others key xs) o (apart_filter (λ o. not (is_of key o)) [] xs h)
        (subst (λ k. kept_of k (others key xs) ≡ None) ((key_decides key o.key).0 (found_passes (is_of key) xs o is)) (none_other (is_of key) xs))

pub apart_filled : (most : ℕ) (xs : List Object) (o : Object) → AreApart [] xs → AreApart [] (evicted most (others o.key xs) ++ o ∷ [])
apart_filled most xs o h =
    apart_push [] (evicted most (others o.key xs)) o (apart_evicted most [] (others o.key xs) (apart_filter (λ p. not (is_of o.key p)) [] xs h))
    (none_evicted (is_of o.key) most (others o.key xs) (none_other (is_of o.key) xs))

-- the object at an index leaves
pub apart_remove : (a xs : List Object) (i : ℕ) → AreApart a xs → AreApart a (remove xs i)
apart_remove a [] zero h = tt
apart_remove a [] (suc i) h = tt
apart_remove a (x ∷ xs) zero h = apart_rest a xs x h
apart_remove a (x ∷ xs) (suc i) h = (h.0, apart_remove (a ++ x ∷ []) xs i h.1)

pub total_remove : (xs : List Object) (i : ℕ) (o : Object) → slice_get xs i ≡ Some o → total (remove xs i) + length_of o ≡ total xs
total_remove xs i o is =
    ap (λ (x : Object). total (remove xs i) + length_of x) (sym (get_or_from_slice_get xs i o o is))
    ∙ sum_by-remove length_of xs i o (slice_get_within xs i o is)

-- where an object has the key, none behind it has
pub apart_behind : (key : KeyParts) (a xs : List Object) → (kept_of key a ≡ None → ⊥) → AreApart a xs → kept_of key xs ≡ None
apart_behind key a [] some h = refl
apart_behind key a (x ∷ xs) some h =
    let no : is_of key x ≡ false = not_both (is_of key x) (λ is. some (subst (λ k. kept_of k a ≡ None) (sym ((key_decides key x.key).0 is)) h.0)) in
    ap (λ (b : Bool). cond b (Some x) (kept_of key xs)) no
    ∙ apart_behind key (a ++ x ∷ []) xs (λ none. some (none_left (is_of key) a (x ∷ []) none)) h.1
  where
    not_both : (b : Bool) → (b ≡ true → ⊥) → b ≡ false
    not_both true h = absurd (h refl)
    not_both false h = refl

-- the key's object at the end with another last start
module _ (key : KeyParts) (begun : ℕ) (xs : List Object) where
  pub renewed_none : kept_of key xs ≡ None → others key xs ≡ xs → renewed key begun xs ≡ xs
  renewed_none none all = ap (λ o. others key xs ++ map (renewed_one begun) (option_to_list o)) none ∙ append-nil (others key xs) ∙ all

  pub renewed_some : (o : Object) → kept_of key xs ≡ Some o → renewed key begun xs ≡ others key xs ++ renewed_one begun o ∷ []
  renewed_some o is = ap (λ found. others key xs ++ map (renewed_one begun) (option_to_list found)) is

  pub none_renewed : (o : Object) → kept_of key xs ≡ Some o → kept_of o.key (others key xs) ≡ None
  none_renewed o is = subst (λ k. kept_of k (others key xs) ≡ None) ((key_decides key o.key).0 (found_passes (is_of key) xs o is)) (none_other (is_of key) xs)

  pub apart_renewed : AreApart [] xs → AreApart [] (renewed key begun xs)
  apart_renewed h = renewed_by (kept_of key xs) refl
    where
      renewed_by : (found : Option Object) → kept_of key xs ≡ found → AreApart [] (others key xs ++ map (renewed_one begun) (option_to_list found))
      renewed_by None is = rw append-nil (apart_filter (λ o. not (is_of key o)) [] xs h)
      renewed_by (Some o) is = apart_push [] (others key xs) (renewed_one begun o) (apart_filter (λ p. not (is_of key p)) [] xs h) (none_renewed o is)

-- the lengths, where an object was taken out and is back at the end
pub total_renewed : (before behind old rest : List Object) (o p : Object) → old ≡ before ++ o ∷ behind → rest ≡ before ++ behind → length_of p ≡ length_of o
    → total (rest ++ p ∷ []) ≡ total old
total_renewed before behind old rest o p was is same =
    let a = sum_by_push length_of rest p in
    let b = sum_by-append length_of before (o ∷ behind) in
    let c = sum_by-append length_of before behind in
    let d = sum_by-cons length_of o behind in
    omega (arith, a, b, c, d, same, ap total was, ap total is)
