-- A reading and the relations that say what it answers, both ways.
use Rattle.std.proofs.Common.{◌≡◌, ℕ, zero, suc, ◌+◌, List, [], ◌∷◌, take, slice_get, refl, sym, ap, ◌∙◌, subst, inl, inr, Ok, Err, Some, arith}
use Rattle.std.specs.List.{AllZip}
use Rattle.std.proofs.lemmas.Option.{none-some, same_Some}
use Rattle.std.specs.Prelude.{◌⊎◌}
use Rattle.std.specs.declared.result.Result.{Result}
use Rattle.json_read.specs.Field.{◌>>=◌}
use Rattle.trigger_command.specs.Draft.{each_from}

-- the reading is a value exactly where the first relation says so, and a fault where the second does
pub record Meets {A F : Type 0} (reading : Result A F) (IsRight : A → Type 0) (IsWrong : F → Type 0) : Type 0 where
  pub read : (a : A) → reading ≡ Ok a → IsRight a
  pub is_read : (a : A) → IsRight a → reading ≡ Ok a
  pub refused : (fault : F) → reading ≡ Err fault → IsWrong fault
  pub is_refused : (fault : F) → IsWrong fault → reading ≡ Err fault

module _ {A F : Type 0} where
  pub ok_err : (a : A) (fault : F) → ◌≡◌ {A = Result A F} (Ok a) (Err fault) → ⊥
  ok_err a fault is = cc

  pub same_ok : (a b : A) → ◌≡◌ {A = Result A F} (Ok a) (Ok b) → a ≡ b
  same_ok a b is = cc

  pub same_err : (a b : F) → ◌≡◌ {A = Result A F} (Err a) (Err b) → a ≡ b
  same_err a b is = cc

  -- a value that is known
  pub meets_ok : (a : A) → Meets {F = F} (Ok a) (λ b. a ≡ b) (λ fault. ⊥)
  meets_ok a = record {
    read = λ b is. same_ok a b is;
    is_read = λ b is. ap Ok is;
    refused = λ fault is. ok_err a fault is;
    is_refused = λ fault none. absurd none;
  }

  -- a fault that is known
  pub meets_err : (fault : F) → Meets {A = A} (Err fault) (λ b. ⊥) (λ other. other ≡ fault)
  meets_err fault = record {
    read = λ b is. ok_err b fault (sym is);
    is_read = λ b none. absurd none;
    refused = λ other is. same_err other fault (sym is);
    is_refused = λ other is. ap Err (sym is);
  }

  -- the same in other words
  pub meets_also : {IsRight IsAlso : A → Type 0} {IsWrong IsAlsoWrong : F → Type 0} (reading : Result A F) → Meets reading IsRight IsWrong
      → ((a : A) → IsRight a → IsAlso a) → ((a : A) → IsAlso a → IsRight a)
      → ((fault : F) → IsWrong fault → IsAlsoWrong fault) → ((fault : F) → IsAlsoWrong fault → IsWrong fault) → Meets reading IsAlso IsAlsoWrong
  meets_also reading m right back wrong wrong_back = record {
    read = λ a is. right a (m.read a is);
    is_read = λ a is. m.is_read a (back a is);
    refused = λ fault is. wrong fault (m.refused fault is);
    is_refused = λ fault is. m.is_refused fault (wrong_back fault is);
  }

-- one reading and then another, whose relations may speak of the first value
pub meets_then : {A B F : Type 0} {IsRight : A → Type 0} {IsWrong : F → Type 0} {IsNext : A → B → Type 0} {IsNextWrong : A → F → Type 0}
    (reading : Result A F) (next : A → Result B F) → Meets reading IsRight IsWrong
    → ((a : A) → IsRight a → Meets (next a) (IsNext a) (IsNextWrong a))
    → Meets (reading >>= next) (λ b. (a : A) × IsRight a × IsNext a b) (λ fault. IsWrong fault ⊎ ((a : A) × IsRight a × IsNextWrong a fault))
meets_then (Ok a) next m each = record {
  read = λ b is. let right = m.read a refl in (a, right, (each a right).read b is);
  is_read = λ b is. ap next (same_ok a is.0 (m.is_read is.0 is.1)) ∙ (each is.0 is.1).is_read b is.2;
  refused = λ fault is. let right = m.read a refl in inr (a, right, (each a right).refused fault is);
  is_refused = λ fault is. elim is [
    | inl wrong ↦ absurd (ok_err a fault (m.is_refused fault wrong))
    | inr later ↦ ap next (same_ok a later.0 (m.is_read later.0 later.1)) ∙ (each later.0 later.1).is_refused fault later.2
  ];
}
meets_then (Err first) next m each = record {
  read = λ b is. absurd (ok_err b first (sym is));
  is_read = λ b is. absurd (ok_err is.0 first (sym (m.is_read is.0 is.1)));
  refused = λ fault is. inl (m.refused fault (ap Err (same_err first fault is)));
  is_refused = λ fault is. elim is [
    | inl wrong ↦ ap Err (same_err first fault (m.is_refused fault wrong))
    | inr later ↦ absurd (ok_err later.0 first (sym (m.is_read later.0 later.1)))
  ];
}

-- a step whose faults, and those of the steps behind it, do not speak of its value
pub meets_step : {A B F : Type 0} {IsRight : A → Type 0} {IsWrong : F → Type 0} {IsNext : A → B → Type 0} {IsNextWrong : F → Type 0}
    (reading : Result A F) (next : A → Result B F) → Meets reading IsRight IsWrong
    → ((a : A) → IsRight a → Meets (next a) (IsNext a) IsNextWrong)
    → Meets (reading >>= next) (λ b. (a : A) × IsRight a × IsNext a b) (λ fault. IsWrong fault ⊎ (((a : A) × IsRight a) × IsNextWrong fault))
meets_step {IsRight = IsRight} {IsWrong = IsWrong} {IsNextWrong = IsNextWrong} reading next m each = meets_also (reading >>= next) (meets_then reading next m each)
    (λ b is. is) (λ b is. is)
    (λ fault is. elim is [ inl wrong ↦ inl wrong | inr later ↦ inr ((later.0, later.1), later.2) ])
    (λ fault is. elim is [ inl wrong ↦ inl wrong | inr later ↦ inr (later.0.0, later.0.1, later.1) ])

-- the same, where the step goes well in these words
pub meets_step_by : {A B F : Type 0} {IsRight : A → Type 0} {IsWrong : F → Type 0} {IsNext : A → B → Type 0} {IsNextWrong : F → Type 0} (GoesWell : Type 0)
    (reading : Result A F) (next : A → Result B F) → Meets reading IsRight IsWrong
    → ((a : A) → IsRight a → GoesWell) → (GoesWell → (a : A) × IsRight a)
    → ((a : A) → IsRight a → Meets (next a) (IsNext a) IsNextWrong)
    → Meets (reading >>= next) (λ b. (a : A) × IsRight a × IsNext a b) (λ fault. IsWrong fault ⊎ (GoesWell × IsNextWrong fault))
meets_step_by GoesWell reading next m well back each = meets_also (reading >>= next) (meets_step reading next m each)
    (λ b is. is) (λ b is. is)
    (λ fault is. elim is [ inl wrong ↦ inl wrong | inr later ↦ inr (well later.0.0 later.0.1, later.1) ])
    (λ fault is. elim is [ inl wrong ↦ inl wrong | inr later ↦ inr (back later.0, later.1) ])

-- ---- lists

-- of the items, the first that is wrong has this fault, where the first of all has this number
abbrev pub IsOfFirst : {A B F : Type 0} → (B → A → Type 0) → (ℕ → B → F → Type 0) → ℕ → List B → F → Type 0
IsOfFirst {A} {B} IsRight IsWrong n xs fault = (i : ℕ) × (x : B) × (slice_get xs i ≡ Some x) × ((found : List A) × AllZip IsRight (take i xs) found) × IsWrong (n + i) x fault

module _ {A B F : Type 0} (read : ℕ → B → Result A F) (IsRight : B → A → Type 0) (IsWrong : ℕ → B → F → Type 0)
    (each : (n : ℕ) (x : B) → Meets (read n x) (IsRight x) (IsWrong n x)) where
  abbrev IsWrongFrom : ℕ → List B → F → Type 0
  IsWrongFrom n xs fault = IsOfFirst IsRight IsWrong n xs fault

  no_first : (n : ℕ) (fault : F) → IsWrongFrom n [] fault → ⊥
  no_first n fault is = none-some is.1 is.2

  read_on : (n : ℕ) (x : B) (xs : List B) (found : List A) → (a : A) × IsRight x a × ((rest : List A) × AllZip IsRight xs rest × (a ∷ rest ≡ found)) → AllZip IsRight (x ∷ xs) found
  read_on n x xs found is = subst (AllZip IsRight (x ∷ xs)) is.2.2 (is.1, is.2.1)

  read_back : (n : ℕ) (x : B) (xs : List B) (found : List A) → AllZip IsRight (x ∷ xs) found → (a : A) × IsRight x a × ((rest : List A) × AllZip IsRight xs rest × (a ∷ rest ≡ found))
  read_back n x xs [] is = absurd is
  read_back n x xs (a ∷ found) is = (a, is.0, (found, is.1, refl))

  first_on : (n : ℕ) (x : B) (xs : List B) (fault : F) → IsWrong n x fault ⊎ (((a : A) × IsRight x a) × (IsWrongFrom (n + 1) xs fault ⊎ (((rest : List A) × AllZip IsRight xs rest) × ⊥)))
      → IsWrongFrom n (x ∷ xs) fault
  first_on n x xs fault (inl wrong) = (0, x, refl, ([], tt), subst (λ m. IsWrong m x fault) (omega arith) wrong)
  first_on n x xs fault (inr (right, inl is)) = (suc is.0, is.1, is.2, (right.0 ∷ is.3.0, (right.1, is.3.1)), subst (λ m. IsWrong m is.1 fault) (omega arith) is.4)
  first_on n x xs fault (inr (right, inr none)) = absurd none.1

  first_back : (n : ℕ) (x : B) (xs : List B) (fault : F) → IsWrongFrom n (x ∷ xs) fault
      → IsWrong n x fault ⊎ (((a : A) × IsRight x a) × (IsWrongFrom (n + 1) xs fault ⊎ (((rest : List A) × AllZip IsRight xs rest) × ⊥)))
  first_back n x xs fault (zero, y, is, before, wrong) = let same : x ≡ y = same_Some x y is in inl (subst (λ m. IsWrong m x fault) (omega arith) (subst (λ z. IsWrong (n + 0) z fault) (sym same) wrong))
  first_back n x xs fault (suc i, y, is, ([], none), wrong) = absurd none
  first_back n x xs fault (suc i, y, is, (a ∷ found, before), wrong) = inr ((a, before.0), inl (i, y, is, (found, before.1), subst (λ m. IsWrong m y fault) (omega arith) wrong))

  none_back : (n : ℕ) (found : List A) → AllZip IsRight [] found → ◌≡◌ {A = List A} [] found
  none_back n [] is = refl
  none_back n (a ∷ found) is = absurd is

  pub meets_each : (n : ℕ) (xs : List B) → Meets (each_from read n xs) (λ found. AllZip IsRight xs found) (λ fault. IsWrongFrom n xs fault)
  unfolding each_from
  meets_each n [] = meets_also (Ok []) (meets_ok []) (λ found is. subst (AllZip IsRight []) is tt) (none_back n) (λ fault none. absurd none) (λ fault is. no_first n fault is)
  meets_each n (x ∷ xs) = meets_also (each_from read n (x ∷ xs))
      (meets_step (read n x) _ (each n x) (λ a right. meets_step (each_from read (n + 1) xs) _ (meets_each (n + 1) xs) (λ found rest. meets_ok (a ∷ found))))
      (read_on n x xs) (read_back n x xs) (first_on n x xs) (first_back n x xs)
