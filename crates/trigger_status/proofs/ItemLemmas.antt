-- Loops over the items of a list, and members that stand before others.
use Rattle.std.proofs.Common.{◌≡◌, ℕ, ◌+◌, ◌<◌, ◌≤◌, Bool, true, List, [], ◌∷◌, ◌++◌, length, drop, get_or, refl, sym, ◌∙◌, ap, append_assoc, add-one, drop-cons, arith}
use Rattle.std.proofs.lemmas.List.{drop_all}
use Rattle.json.specs.Print.{quoted}
use Rattle.serde_json.specs.Data.{Data, array}
use Rattle.serde_json.specs.Written.{comma_if, compact_text, items_text}
use Rattle.trigger_status.specs.Items.{each_as}
use Rattle.trigger_status.specs.Write.{AddsMember, AddsOne}

module _ {A : Type 0} (data_of : A → Data) (xs : List A) (i : ℕ) where
  rest_here : (x : A) → i < length xs → x ≡ get_or xs i x → drop i xs ≡ x ∷ drop (i + 1) xs
  rest_here x below is = rw (drop-cons xs i x below, ← is, add-one i) refl

  -- an item more was added
  pub item_added : (text added whole : List ℕ) (later : Bool) (x : A) → i < length xs → x ≡ get_or xs i x
      → text ++ items_text later (each_as data_of (drop i xs)) ≡ whole → added ≡ text ++ (comma_if later ++ compact_text (data_of x))
      → added ++ items_text true (each_as data_of (drop (i + 1) xs)) ≡ whole
  item_added text added whole later x below is so_far one =
      let rest = items_text true (each_as data_of (drop (i + 1) xs)) in
      rw one (append_assoc text (comma_if later ++ compact_text (data_of x)) rest
      ∙ ap (λ end. text ++ end) (append_assoc (comma_if later) (compact_text (data_of x)) rest)
      ∙ ap (λ left. text ++ items_text later (each_as data_of left)) (sym (rest_here x below is)) ∙ so_far)

  -- all items were added
  pub items_added : (text whole : List ℕ) (later : Bool) → length xs ≤ i
      → text ++ items_text later (each_as data_of (drop i xs)) ≡ whole → text ++ 93 ∷ [] ≡ whole
  items_added text whole later over so_far =
      ap (λ left. text ++ items_text later (each_as data_of left)) (sym (drop_all i xs over)) ∙ so_far

-- a list that is not empty stands before other members
pub list_added : {A : Type 0} (data_of : A → Data) (xs : List A) (before named after name : List ℕ) (later : Bool) → 0 < length xs
    → named ≡ before ++ (comma_if later ++ (quoted name ++ 58 ∷ [])) → after ≡ named ++ compact_text (array (each_as data_of xs))
    → AddsMember before later after name (each_as data_of xs) true
list_added data_of [] before named after name later some is more others = absurd (omega arith)
list_added data_of (x ∷ xs) before named after name later some is more others =
    rw (more, is) (simp append_assoc)

-- an empty one does not
pub none_added : {A : Type 0} (data_of : A → Data) (xs : List A) (text name : List ℕ) (later : Bool) → length xs ≡ 0
    → AddsMember text later text name (each_as data_of xs) later
none_added data_of [] text name later none others = refl
none_added data_of (x ∷ xs) text name later none others = absurd (omega arith)

-- a name and a value make a member
pub one_added : (before named after name : List ℕ) (later : Bool) (value : Data)
    → named ≡ before ++ (comma_if later ++ (quoted name ++ 58 ∷ [])) → after ≡ named ++ compact_text value → AddsOne before later after name value
one_added before named after name later value is more others =
    rw (more, is) (simp append_assoc)

-- an object that begins behind other text
pub opened : (before begun text : List ℕ) → begun ≡ before ++ 123 ∷ [] → begun ++ text ≡ before ++ (123 ∷ text)
opened before begun text is = rw is (append_assoc before (123 ∷ []) text)

pub opened_behind : (before between begun front text : List ℕ) → between ≡ before ++ front → begun ≡ between ++ 123 ∷ [] → begun ++ text ≡ before ++ (front ++ (123 ∷ text))
opened_behind before between begun front text first is =
    rw (is, first) (append_assoc (before ++ front) (123 ∷ []) text ∙ append_assoc before front (123 ∷ text))
