-- Lists whose items are filled one after the other.
use Rattle.std.proofs.Common.{◌≡◌, ℕ, zero, suc, ◌-◌, ◌+◌, ◌<◌, ◌≤◌, List, [], ◌∷◌, ◌++◌, length, map, drop, get_or, slice_set, refl, sym, ◌∙◌, ap, arith, add-one, drop-cons, append_assoc, append-nil, length-append, Bool, true, false, None, Some, codes, is_some, option_map}
use Rattle.std.specs.declared.option.Option.{Option}
use Rattle.std.proofs.lemmas.List.{drop_all}
use Rattle.std.specs.declared.alloc.Global.{Global}
use Rattle.json.specs.Value.{items_view}
use Rattle.json_read.specs.Borrowed.{items_data}
use Rattle.json.specs.declared.value.Value.{Value}
use Rattle.json.specs.declared.value.Value.TheVariants as variant
use Rattle.json.proofs.Trees.{view-Array}
use Rattle.std.specs.declared.vec.Vec.{Vec}
use Rattle.serde_json.specs.Data.{Data, array, Items, no_items, item}
use Rattle.serde_json.specs.Find.{get, as_array}
use Rattle.serde_json.specs.View.{items_of}
use Rattle.metadata_links.specs.Filled.{seen, all_seen}
use Rattle.metadata_links.specs.Joined.{Filling, items_filled, property_filled, list_filled, followed, level_filled, path_with, path_filled, host_filled}
use Rattle.metadata_objects.specs.declared.host.TheConstants.{NESTING_MAX}

-- what was filled, in front of the filling of the rest
abbrev pub in_front : List Data → Items × List Data → Items × List Data
in_front [] rest = rest
in_front (value ∷ values) rest = (item value (in_front values rest).0, (in_front values rest).1)

front_more : (front : List Data) (value : Data) (rest : Items × List Data)
    → in_front front (item value rest.0, rest.1) ≡ in_front (front ++ value ∷ []) rest
front_more [] value rest = refl
front_more (first ∷ front) value rest = ap (λ r. (item first r.0, r.1)) (front_more front value rest)

front_all : (front : List (Value Global)) (left : List Data) → in_front (all_seen front) (no_items, left) ≡ (items_of (all_seen front), left)
front_all [] left = refl
front_all (first ∷ front) left = ap (λ r. (item (seen first) r.0, r.1)) (front_all front left)

-- so many items were filled, with these documents left
pub record Filled (fill : Filling) (old : List (Value Global)) (documents : List Data) (i : ℕ) (now : List (Value Global)) (left : List Data) : Type 0 where
  pub front : List (Value Global)
  pub count : length front ≡ i
  pub parts : now ≡ front ++ drop i old
  pub whole : items_filled fill (items_of (all_seen old)) documents ≡ in_front (all_seen front) (items_filled fill (items_of (all_seen (drop i old))) left)

pub none_filled : (fill : Filling) (old : List (Value Global)) (documents : List Data) → Filled fill old documents 0 old documents
none_filled fill old documents = record { front = []; count = refl; parts = refl; whole = refl }

seen_more : (front : List (Value Global)) (value : Value Global) → all_seen (front ++ value ∷ []) ≡ all_seen front ++ seen value ∷ []
seen_more [] value = refl
seen_more (first ∷ front) value = ap (λ xs. seen first ∷ xs) (seen_more front value)

set_behind : {A : Type 0} (front : List A) (x y : A) (rest : List A) → slice_set (front ++ x ∷ rest) (length front) y ≡ (front ++ y ∷ []) ++ rest
set_behind [] x y rest = refl
set_behind (first ∷ front) x y rest = ap (λ xs. first ∷ xs) (set_behind front x y rest)

get_behind : {A : Type 0} (front : List A) (x d : A) (rest : List A) → get_or (front ++ x ∷ rest) (length front) d ≡ x
get_behind [] x d rest = refl
get_behind (first ∷ front) x d rest = get_behind front x d rest

one_filled : (fill : Filling) (value after : Value Global) (rest : List (Value Global)) (mid left : List Data) → fill (seen value) mid ≡ (seen after, left)
    → items_filled fill (items_of (all_seen (value ∷ rest))) mid ≡ (item (seen after) (items_filled fill (items_of (all_seen rest)) left).0, (items_filled fill (items_of (all_seen rest)) left).1)
unfolding items_filled
one_filled fill value after rest mid left is = rw is refl

pub one_more : (fill : Filling) (old : List (Value Global)) (documents : List Data) (i : ℕ) (now : List (Value Global)) (mid : List Data) → Filled fill old documents i now mid
    → i < length old → (d value after : Value Global) (left : List Data) → value ≡ get_or now i d → fill (seen value) mid ≡ (seen after, left)
    → Filled fill old documents (i + 1) (slice_set now i after) left
one_more fill old documents i now mid so below d value after left is filled =
    let here : drop i old ≡ get_or old i d ∷ drop (suc i) old = drop-cons old i d below in
    let at : now ≡ so.front ++ get_or old i d ∷ drop (suc i) old = so.parts ∙ ap (λ xs. so.front ++ xs) here in
    let same : value ≡ get_or old i d = is ∙ ap (λ xs. get_or xs i d) at
    ∙ ap (λ n. get_or (so.front ++ get_or old i d ∷ drop (suc i) old) n d) (sym so.count)
    ∙ get_behind so.front (get_or old i d) d (drop (suc i) old) in
    record {
      front = so.front ++ after ∷ [];
      count = rw (length-append, so.count) refl;
      parts = ap (λ xs. slice_set xs i after) at ∙ ap (λ n. slice_set (so.front ++ get_or old i d ∷ drop (suc i) old) n after) (sym so.count)
          ∙ set_behind so.front (get_or old i d) after (drop (suc i) old) ∙ ap (λ n. (so.front ++ after ∷ []) ++ drop n old) (sym (add-one i));
      whole = so.whole ∙ ap (λ xs. in_front (all_seen so.front) (items_filled fill (items_of (all_seen xs)) mid)) (here ∙ ap (λ v. v ∷ drop (suc i) old) (sym same))
          ∙ ap (in_front (all_seen so.front)) (one_filled fill value after (drop (suc i) old) mid left filled)
          ∙ front_more (all_seen so.front) (seen after) (items_filled fill (items_of (all_seen (drop (suc i) old))) left)
          ∙ ap (λ front. in_front front (items_filled fill (items_of (all_seen (drop (suc i) old))) left)) (sym (seen_more so.front after))
          ∙ ap (λ n. in_front (all_seen (so.front ++ after ∷ [])) (items_filled fill (items_of (all_seen (drop n old))) left)) (sym (add-one i));
    }

pub each_filled : (fill : Filling) (old : List (Value Global)) (documents : List Data) (i : ℕ) (now : List (Value Global)) (left : List Data) → Filled fill old documents i now left
    → length old ≤ i → items_filled fill (items_of (all_seen old)) documents ≡ (items_of (all_seen now), left)
unfolding items_filled
each_filled fill old documents i now left so over =
    let rest : drop i old ≡ [] = drop_all i old over in
    let same : now ≡ so.front = so.parts ∙ ap (λ xs. so.front ++ xs) rest ∙ append-nil so.front in
    so.whole ∙ ap (λ xs. in_front (all_seen so.front) (items_filled fill (items_of (all_seen xs)) left)) rest
    ∙ front_all so.front left ∙ ap (λ xs. (items_of (all_seen xs), left)) (sym same)

-- ---- lists

pub items_are : (values : List (Value Global)) → items_of (all_seen values) ≡ items_data (items_view values)
items_are [] = refl
items_are (value ∷ values) = ap (item (seen value)) (items_are values)

-- a list whose items are filled
pub list_is_filled : (fill : Filling) (value : Data) (before : List (Value Global)) (after : Vec (Value Global) Global) (documents left : List Data) → as_array value ≡ Some (items_of (all_seen before))
    → items_filled fill (items_of (all_seen before)) documents ≡ (items_of (all_seen after.items), left)
    → list_filled fill value documents ≡ (seen (variant.Array after), left)
list_is_filled fill value before after documents left is done = rw (is, view-Array after) (ap (λ r. (array r.0, r.1)) done ∙ ap (λ items. (array items, left)) (items_are after.items))

-- ---- Links

mapped : {A B : Type 0} (f : A → B) (found : Option A) → is_some (option_map f found) ≡ is_some found
mapped f None = refl
mapped f (Some a) = refl

-- whether the value has an `href`
pub is_link : {A : Type 0} (f : A → Data) (found : Option A) (o : Option Data) → option_map f found ≡ o → (b : Bool) → is_some found ≡ b → is_some o ≡ b
is_link f found o is b has = sym (ap is_some is) ∙ mapped f found ∙ has

pub empty : {A : Type 0} (xs : List A) → length xs ≡ 0 → xs ≡ []
empty [] none = refl
empty (x ∷ xs) none = absurd (omega (arith, none))

module _ (whole : Data × List Data) (value : Data) (left : List Data) (so_far : whole ≡ followed value left) where
  next_one : (document : Data) (rest : List Data) → is_some (get (codes "href") value) ≡ true → followed value (document ∷ rest) ≡ followed document rest
  unfolding followed
  next_one document rest link = rw link refl

  pub follows_next : (document : Data) (rest : List Data) → is_some (get (codes "href") value) ≡ true → left ≡ document ∷ rest → whole ≡ followed document rest
  follows_next document rest link is = so_far ∙ ap (followed value) is ∙ next_one document rest link

  none_left : followed value [] ≡ (value, [])
  unfolding followed
  none_left = refl

  pub follows_none : (after : List Data) → left ≡ [] → after ≡ left → whole ≡ (value, after)
  follows_none after none same = so_far ∙ ap (followed value) none ∙ none_left ∙ ap (λ xs. (value, xs)) (sym none ∙ sym same)

  no_link : (documents : List Data) → is_some (get (codes "href") value) ≡ false → followed value documents ≡ (value, documents)
  unfolding followed
  no_link [] plain = refl
  no_link (document ∷ documents) plain = rw plain refl

  pub follows_value : is_some (get (codes "href") value) ≡ false → whole ≡ (value, left)
  follows_value plain = so_far ∙ no_link left plain

-- ---- how deep PathMatch objects nest

pub none_at : (left : ℕ) (value : Data) (documents : List Data) → left ≡ 0 → path_filled left value documents ≡ (value, documents)
unfolding path_filled
none_at left value documents is = rw is refl

pub some_at : (left : ℕ) (value : Data) (documents : List Data) (filled : Data × List Data) → 0 < left → path_with (path_filled (left - 1)) value documents ≡ filled → path_filled left value documents ≡ filled
unfolding path_filled
some_at zero value documents filled more is = absurd (omega arith)
some_at (suc left) value documents filled more is = let e : suc left - 1 ≡ left = omega arith in sym (ap (λ n. path_with (path_filled n) value documents) e) ∙ is

-- ---- places whose parts are filled one after the other

pub level_is_filled : (path : Filling) (value first second : Data) (documents left rest : List Data) (filled : Data × List Data) → followed value documents ≡ (first, left)
    → property_filled (codes "metadata") (list_filled followed) first left ≡ (second, rest) → property_filled (codes "paths") (list_filled path) second rest ≡ filled
    → level_filled path value documents ≡ filled
unfolding level_filled
level_is_filled path value first second documents left rest filled a b c = rw (a, b) c

pub path_is_filled : (path : Filling) (value first : Data) (documents left : List Data) (filled : Data × List Data) → followed value documents ≡ (first, left)
    → property_filled (codes "path-metadata") (level_filled path) first left ≡ filled → path_with path value documents ≡ filled
unfolding path_with
path_is_filled path value first documents left filled a b = rw a b

pub host_is_filled : (value first : Data) (documents left : List Data) (filled : Data × List Data) → followed value documents ≡ (first, left)
    → property_filled (codes "host-metadata") (level_filled (path_filled NESTING_MAX)) first left ≡ filled → host_filled value documents ≡ filled
unfolding host_filled
host_is_filled value first documents left filled a b = rw a b
