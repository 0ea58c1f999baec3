-- Loops over the items of a list: what was read so far, in front of the reading of the rest, is the reading of all.
use Rattle.std.proofs.Common.{◌≡◌, ℕ, ◌+◌, ◌<◌, ◌≤◌, List, [], ◌∷◌, ◌++◌, length, map, drop, get_or, refl, sym, ◌∙◌, ap, Ok, Err, append_assoc, append-nil, add-one, drop-cons, arith}
use Rattle.std.specs.declared.result.Result.{Result}
use Rattle.std.proofs.lemmas.List.{drop_all, get_or-map, length-map}
use Rattle.serde_json.specs.Data.{Data}
use Rattle.serde_json.specs.View.{items_of}
use Rattle.json_read.specs.Field.{◌>>=◌}
use Rattle.json_read.specs.Field as field
use Rattle.json_read.specs.Path.{item_of}
use Rattle.json_read.specs.declared.fault.FieldFault.{FieldFault}
use Rattle.json_read.specs.declared.fault.JsonFault.{JsonFault}
use Rattle.json_read.specs.declared.fault.JsonFault.TheVariants as json_fault
use Rattle.trigger_command.specs.Draft.{each_from, values_of}
use Rattle.trigger_command.specs.Reading as judged
use Rattle.trigger_command.specs.declared.fault.CommandFault.{CommandFault}
use Rattle.trigger_command.specs.declared.fault.CommandFault.TheVariants.{NotJson, Field, Loop, NoSelection, PatternInPreposition, CcidInPreposition, TooMany, BadUrl, BadPattern, Memory}

-- the items of a list that was made of values are these values
pub values_of_items : (values : List Data) → values_of (items_of values) ≡ values
values_of_items [] = refl
values_of_items (value ∷ values) = ap (λ others. value ∷ others) (values_of_items values)

-- what was read, in front of the reading of the rest
abbrev pub with_front : {A F : Type 0} → List A → Result (List A) F → Result (List A) F
with_front front (Ok rest) = Ok (front ++ rest)
with_front front (Err fault) = Err fault

-- nothing read yet
pub front_none : {A F : Type 0} (reading : Result (List A) F) → with_front [] reading ≡ reading
front_none (Ok rest) = refl
front_none (Err fault) = refl

front_moves : {A F : Type 0} (front : List A) (x : A) (rest : Result (List A) F)
    → with_front front (rest >>= λ others. Ok (x ∷ others)) ≡ with_front (front ++ x ∷ []) rest
front_moves front x (Ok rest) = ap Ok (sym (append_assoc front (x ∷ []) rest))
front_moves front x (Err fault) = refl

pub field_fails_on : {A B : Type 0} (fault : JsonFault) (one : Result A FieldFault) (all : Result B FieldFault)
    → ((wrong : FieldFault) → one ≡ Err wrong → all ≡ Err wrong) → field.Fails fault one → field.Fails fault all
field_fails_on (json_fault.Field wrong) one all step is = step wrong is
field_fails_on json_fault.Memory one all step is = tt

pub fails_on : {A B : Type 0} (fault : CommandFault) (one : Result A CommandFault) (all : Result B CommandFault)
    → ((wrong : CommandFault) → one ≡ Err wrong → all ≡ Err wrong) → judged.Fails fault one → judged.Fails fault all
fails_on NotJson one all step is = step NotJson is
fails_on (Field wrong) one all step is = step (Field wrong) is
fails_on Loop one all step is = step Loop is
fails_on NoSelection one all step is = step NoSelection is
fails_on PatternInPreposition one all step is = step PatternInPreposition is
fails_on CcidInPreposition one all step is = step CcidInPreposition is
fails_on (TooMany n) one all step is = step (TooMany n) is
fails_on (BadUrl index) one all step is = step (BadUrl index) is
fails_on (BadPattern index) one all step is = step (BadPattern index) is
fails_on Memory one all step is = tt

-- the item of a list as it is seen
pub seen_at : {V X : Type 0} (seen : V → X) (values : List V) (i : ℕ) (value : V) → i < length values → value ≡ get_or values i value
    → seen value ≡ get_or (map seen values) i (seen value)
seen_at seen values i value below is = sym (get_or-map seen values i value (seen value) below ∙ ap seen (sym is))

module _ {A B F : Type 0} (read : ℕ → B → Result A F) (number : ℕ) (xs : List B) (i : ℕ) (front : List A) (whole : Result (List A) F) where
  rest_here : (x : B) → i < length xs → x ≡ get_or xs i x → drop i xs ≡ x ∷ drop (i + 1) xs
  rest_here x below is = rw (drop-cons xs i x below, ← is, add-one i) refl

  one_read : (x : B) (rest : List B) (a : A) → read number x ≡ Ok a
      → with_front front (each_from read number (x ∷ rest)) ≡ with_front (front ++ a ∷ []) (each_from read (number + 1) rest)
  unfolding each_from
  one_read x rest a is = rw is (front_moves front a (each_from read (number + 1) rest))

  none_read : (x : B) (rest : List B) (fault : F) → read number x ≡ Err fault
      → with_front front (each_from read number (x ∷ rest)) ≡ Err fault
  unfolding each_from
  none_read x rest fault is = rw is refl

  -- an item more was read
  pub goes_on : with_front front (each_from read number (drop i xs)) ≡ whole
      → (x : B) → i < length xs → x ≡ get_or xs i x → (a : A) → read number x ≡ Ok a
      → with_front (front ++ a ∷ []) (each_from read (number + 1) (drop (i + 1) xs)) ≡ whole
  goes_on so_far x below is a one = sym (one_read x (drop (i + 1) xs) a one)
      ∙ ap (λ rest. with_front front (each_from read number rest)) (sym (rest_here x below is)) ∙ so_far

  -- an item has the first fault
  pub ends : with_front front (each_from read number (drop i xs)) ≡ whole
      → (x : B) → i < length xs → x ≡ get_or xs i x → (fault : F) → read number x ≡ Err fault → whole ≡ Err fault
  ends so_far x below is fault none = sym so_far
      ∙ ap (λ rest. with_front front (each_from read number rest)) (rest_here x below is)
      ∙ none_read x (drop (i + 1) xs) fault none

  -- all items were read
  pub is_done : with_front front (each_from read number (drop i xs)) ≡ whole → length xs ≤ i → whole ≡ Ok front
  unfolding each_from
  is_done so_far over = sym so_far ∙ ap (λ rest. with_front front (each_from read number rest)) (drop_all i xs over) ∙ ap Ok (append-nil front)

-- nothing read yet, where the first item has this number
pub numbered_first : {A B F : Type 0} (read : ℕ → B → Result A F) (from : ℕ) (xs : List B) → with_front [] (each_from read (from + 0) (drop 0 xs)) ≡ each_from read from xs
numbered_first read from xs = let same : from + 0 ≡ from = omega arith in rw same (front_none (each_from read from xs))

-- the same of the items of a JSON list, each read at its own place
module _ {A V : Type 0} (seen : V → Data) (read : List ℕ → Data → Result A FieldFault) (path : List ℕ) (values : List V) (i : ℕ) (front : List A) (whole : Result (List A) FieldFault) where
  abbrev IsSoFar : Type 0
  IsSoFar = with_front front (each_from (λ n value. read (item_of path n) value) i (drop i (map seen values))) ≡ whole

  pub place_read : IsSoFar → (value : V) → i < length values → value ≡ get_or values i value → (a : A) → read (item_of path i) (seen value) ≡ Ok a
      → with_front (front ++ a ∷ []) (each_from (λ n value. read (item_of path n) value) (i + 1) (drop (i + 1) (map seen values))) ≡ whole
  place_read so_far value below is a one =
      let there : i < length (map seen values) = rw length-map below in
      goes_on (λ n value. read (item_of path n) value) i (map seen values) i front whole so_far (seen value) there (seen_at seen values i value below is) a one

  pub place_fails : IsSoFar → (value : V) → i < length values → value ≡ get_or values i value → (fault : JsonFault) → field.Fails fault (read (item_of path i) (seen value)) → field.Fails fault whole
  place_fails so_far value below is fault =
      let there : i < length (map seen values) = rw length-map below in
      field_fails_on fault (read (item_of path i) (seen value)) whole
      (ends (λ n value. read (item_of path n) value) i (map seen values) i front whole so_far (seen value) there (seen_at seen values i value below is))

  pub places_read : IsSoFar → length values ≤ i → whole ≡ Ok front
  places_read so_far over =
      let past : length (map seen values) ≤ i = rw length-map over in
      is_done (λ n value. read (item_of path n) value) i (map seen values) i front whole so_far past

-- a fault of the first reading is one of both
pub then_fails : {A B : Type 0} (fault : JsonFault) (one : Result A FieldFault) (next : A → Result B FieldFault)
    → field.Fails fault one → field.Fails fault (one >>= next)
then_fails (json_fault.Field wrong) one next is = rw is refl
then_fails json_fault.Memory one next is = tt

pub judged_then_fails : {A B : Type 0} (fault : CommandFault) (one : Result A CommandFault) (next : A → Result B CommandFault)
    → judged.Fails fault one → judged.Fails fault (one >>= next)
judged_then_fails fault one next = fails_on fault one (one >>= next) (λ wrong is. rw is refl)
