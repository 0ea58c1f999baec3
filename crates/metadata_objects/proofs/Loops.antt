-- Loops over the items of a list: what was read so far, in front of the reading of the rest, is the reading of all.
use Rattle.std.proofs.Common.{◌≡◌, ℕ, ◌+◌, ◌<◌, ◌≤◌, List, [], ◌∷◌, ◌++◌, length, map, drop, get_or, refl, sym, ◌∙◌, ap, None, Some, Ok, Err, append_assoc, append-nil, add-one, drop-cons, true, false, true≢false, unwrap_or}
use Rattle.std.specs.List.{flat_map}
use Rattle.std.specs.Option.{option_map}
use Rattle.std.specs.declared.option.Option.{Option}
use Rattle.std.proofs.lemmas.List.{drop_all}
use Rattle.std.proofs.lemmas.Option.{none-some}
use Rattle.serde_json.specs.Data.{Data, Items, no_items, item}
use Rattle.serde_json.specs.View.{items_of}
use Rattle.json_read.specs.Field.{◌>>=◌}
use Rattle.json_read.specs.Path.{item_of}
use Rattle.metadata_objects.specs.Reading.{Reading, all_of, Fails}
use Rattle.metadata_objects.specs.Items.{each_of, Adds}
use Rattle.metadata_objects.specs.declared.fault.MetaFault.{MetaFault}
use Rattle.metadata_objects.specs.declared.fault.MetaFault.TheVariants.{TooLong, NotJson, Link, Field, TooMany, TooDeep, Memory}

-- the items from the i-th on are the i-th and those after it
item_here : {V : Type 0} (seen : V → Data) (values : List V) (i : ℕ) (value : V) → i < length values → value ≡ get_or values i value
    → items_of (map seen (drop i values)) ≡ item (seen value) (items_of (map seen (drop (i + 1) values)))
item_here seen values i value below is = rw (drop-cons values i value below, ← is, add-one i) refl

item_none : {V : Type 0} (seen : V → Data) (values : List V) (i : ℕ) → length values ≤ i → items_of (map seen (drop i values)) ≡ no_items
item_none seen values i over = ap (λ left. items_of (map seen left)) (drop_all i values over)

-- what was read, in front of the reading of the rest
abbrev pub with_front : {A : Type 0} → List A → Reading (List A × ℕ) → Reading (List A × ℕ)
with_front front (Ok rest) = Ok (front ++ rest.0, rest.1)
with_front front (Err fault) = Err fault

-- nothing read yet
pub front_none : {A : Type 0} (reading : Reading (List A × ℕ)) → with_front [] reading ≡ reading
front_none (Ok rest) = refl
front_none (Err fault) = refl

fails_on : {A B : Type 0} (fault : MetaFault) (one : Reading A) (all : Reading B) → (one ≡ Err fault → all ≡ Err fault) → Fails fault one → Fails fault all
fails_on (TooLong len) one all step is = step is
fails_on NotJson one all step is = step is
fails_on (Link path) one all step is = step is
fails_on (Field fault) one all step is = step is
fails_on (TooMany n) one all step is = step is
fails_on (TooDeep n) one all step is = step is
fails_on Memory one all step is = tt

front_moves : {A : Type 0} (front : List A) (x : A) (rest : Reading (List A × ℕ))
    → with_front front (rest >>= λ others. Ok (x ∷ others.0, others.1)) ≡ with_front (front ++ x ∷ []) rest
front_moves front x (Ok rest) = ap (λ xs. Ok (xs, rest.1)) (sym (append_assoc front (x ∷ []) rest.0))
front_moves front x (Err fault) = refl

module _ {A V : Type 0} (seen : V → Data) (read : List ℕ → ℕ → Data → Reading (A × ℕ)) (path : List ℕ) (values : List V) (i n : ℕ) (front : List A) (whole : Reading (List A × ℕ)) where
  one_read : (value : Data) (rest : Items) (x : A) (m : ℕ) → read (item_of path i) n value ≡ Ok (x, m)
      → with_front front (all_of read path i n (item value rest)) ≡ with_front (front ++ x ∷ []) (all_of read path (i + 1) m rest)
  unfolding all_of
  one_read value rest x m is = rw is (front_moves front x (all_of read path (i + 1) m rest))

  none_read : (value : Data) (rest : Items) (fault : MetaFault) → read (item_of path i) n value ≡ Err fault
      → with_front front (all_of read path i n (item value rest)) ≡ Err fault
  unfolding all_of
  none_read value rest fault is = rw is refl

  -- an item more was read
  pub goes_on : with_front front (all_of read path i n (items_of (map seen (drop i values)))) ≡ whole
      → (value : V) → i < length values → value ≡ get_or values i value → (x : A) (m : ℕ) → read (item_of path i) n (seen value) ≡ Ok (x, m)
      → with_front (front ++ x ∷ []) (all_of read path (i + 1) m (items_of (map seen (drop (i + 1) values)))) ≡ whole
  goes_on so_far value below is x m one = sym (one_read (seen value) (items_of (map seen (drop (i + 1) values))) x m one)
      ∙ ap (λ items. with_front front (all_of read path i n items)) (sym (item_here seen values i value below is)) ∙ so_far

  -- an item has the first fault
  pub ends : with_front front (all_of read path i n (items_of (map seen (drop i values)))) ≡ whole
      → (value : V) → i < length values → value ≡ get_or values i value → (fault : MetaFault) → Fails fault (read (item_of path i) n (seen value))
      → Fails fault whole
  ends so_far value below is fault = fails_on fault (read (item_of path i) n (seen value)) whole (λ none. sym so_far
      ∙ ap (λ items. with_front front (all_of read path i n items)) (item_here seen values i value below is)
      ∙ none_read (seen value) (items_of (map seen (drop (i + 1) values))) fault none)

  -- all items were read
  pub is_done : with_front front (all_of read path i n (items_of (map seen (drop i values)))) ≡ whole → length values ≤ i → whole ≡ Ok (front, n)
  unfolding all_of
  is_done so_far over = sym so_far ∙ ap (λ items. with_front front (all_of read path i n items)) (item_none seen values i over) ∙ ap (λ xs. Ok (xs, n)) (append-nil front)

-- the same for items of which one that does not read spoils all
abbrev pub after_front : {A : Type 0} → List A → Option (List A) → Option (List A)
after_front front rest = option_map (λ others. front ++ others) rest

each_moves : {A : Type 0} (front : List A) (x : A) (rest : Option (List A))
    → after_front front (option_map (λ others. x ∷ others) rest) ≡ after_front (front ++ x ∷ []) rest
each_moves front x None = refl
each_moves front x (Some rest) = ap Some (sym (append_assoc front (x ∷ []) rest))

module _ {A V : Type 0} (seen : V → Data) (read : Data → Option A) (values : List V) (i : ℕ) (front : List A) (whole : Option (List A)) where
  each_read : (value : Data) (rest : Items) (x : A) → read value ≡ Some x
      → after_front front (each_of read (item value rest)) ≡ after_front (front ++ x ∷ []) (each_of read rest)
  unfolding each_of
  each_read value rest x is = rw is (each_moves front x (each_of read rest))

  each_unread : (value : Data) (rest : Items) → read value ≡ None → after_front front (each_of read (item value rest)) ≡ None
  unfolding each_of
  each_unread value rest is = rw is refl

  pub each_goes_on : after_front front (each_of read (items_of (map seen (drop i values)))) ≡ whole
      → (value : V) → i < length values → value ≡ get_or values i value → (x : A) → Some x ≡ read (seen value)
      → after_front (front ++ x ∷ []) (each_of read (items_of (map seen (drop (i + 1) values)))) ≡ whole
  each_goes_on so_far value below is x one = sym (each_read (seen value) (items_of (map seen (drop (i + 1) values))) x (sym one))
      ∙ ap (λ items. after_front front (each_of read items)) (sym (item_here seen values i value below is)) ∙ so_far

  pub each_stops : after_front front (each_of read (items_of (map seen (drop i values)))) ≡ whole
      → (value : V) → i < length values → value ≡ get_or values i value → None ≡ read (seen value) → None ≡ whole
  each_stops so_far value below is none = sym (each_unread (seen value) (items_of (map seen (drop (i + 1) values))) (sym none))
      ∙ ap (λ items. after_front front (each_of read items)) (sym (item_here seen values i value below is)) ∙ so_far

  pub each_done : after_front front (each_of read (items_of (map seen (drop i values)))) ≡ whole → length values ≤ i → Some front ≡ whole
  unfolding each_of
  each_done so_far over = ap Some (sym (append-nil front)) ∙ ap (λ items. after_front front (each_of read items)) (sym (item_none seen values i over)) ∙ so_far

-- items that are added to a list
pub were_added : {A : Type 0} (before after : List A) (found : Option (List A)) → Some after ≡ after_front before found → Adds before true after found
were_added before after None is = absurd (none-some _ (sym is))
were_added before after (Some items) is = (refl, ap (λ o. unwrap_or o after) is)

pub were_not_added : {A : Type 0} (before after : List A) (found : Option (List A)) → None ≡ after_front before found → Adds before false after found
were_not_added before after None is = refl
were_not_added before after (Some items) is = absurd (none-some _ is)

added_list : {A : Type 0} (before after : List A) (found : Option (List A)) → Adds before true after found → (items : List A) × (found ≡ Some items) × (after ≡ before ++ items)
added_list before after None is = absurd (true≢false is)
added_list before after (Some items) is = (items, refl, is.1)

not_added : {A : Type 0} (before after : List A) (found : Option (List A)) → Adds before false after found → found ≡ None
not_added before after None is = refl
not_added before after (Some items) is = absurd (true≢false (sym is.0))

-- lists of items that are joined
abbrev pub after_joined : {A : Type 0} → List A → Option (List (List A)) → Option (List A)
after_joined front rest = option_map (λ lists. front ++ flat_map (λ list. list) lists) rest

joined_moves : {A : Type 0} (front list : List A) (rest : Option (List (List A)))
    → after_joined front (option_map (λ others. list ∷ others) rest) ≡ after_joined (front ++ list) rest
joined_moves front list None = refl
joined_moves front list (Some rest) = ap Some (sym (append_assoc front list (flat_map (λ l. l) rest)))

none_joined : {A : Type 0} (rest : Option (List (List A))) → after_joined [] rest ≡ option_map (flat_map (λ list. list)) rest
none_joined None = refl
none_joined (Some rest) = refl

module _ {A V : Type 0} (seen : V → Data) (read : Data → Option (List A)) (values : List V) (i : ℕ) (front : List A) (whole : Option (List A)) where
  joined_read : (value : Data) (rest : Items) (list : List A) → read value ≡ Some list
      → after_joined front (each_of read (item value rest)) ≡ after_joined (front ++ list) (each_of read rest)
  unfolding each_of
  joined_read value rest list is = rw is (joined_moves front list (each_of read rest))

  joined_unread : (value : Data) (rest : Items) → read value ≡ None → after_joined front (each_of read (item value rest)) ≡ None
  unfolding each_of
  joined_unread value rest is = rw is refl

  pub joined_goes_on : after_joined front (each_of read (items_of (map seen (drop i values)))) ≡ whole
      → (value : V) → i < length values → value ≡ get_or values i value → (new : List A) → Adds front true new (read (seen value))
      → after_joined new (each_of read (items_of (map seen (drop (i + 1) values)))) ≡ whole
  joined_goes_on so_far value below is new added = let one = added_list front new _ added in
      rw one.2 (sym (joined_read (seen value) (items_of (map seen (drop (i + 1) values))) one.0 one.1))
      ∙ ap (λ items. after_joined front (each_of read items)) (sym (item_here seen values i value below is)) ∙ so_far

  pub joined_stops : after_joined front (each_of read (items_of (map seen (drop i values)))) ≡ whole
      → (value : V) → i < length values → value ≡ get_or values i value → (new : List A) → Adds front false new (read (seen value)) → None ≡ whole
  joined_stops so_far value below is new none = sym (joined_unread (seen value) (items_of (map seen (drop (i + 1) values))) (not_added front new _ none))
      ∙ ap (λ items. after_joined front (each_of read items)) (sym (item_here seen values i value below is)) ∙ so_far

  pub joined_done : after_joined front (each_of read (items_of (map seen (drop i values)))) ≡ whole → length values ≤ i → Some front ≡ whole
  unfolding each_of
  joined_done so_far over = ap Some (sym (append-nil front)) ∙ ap (λ items. after_joined front (each_of read items)) (sym (item_none seen values i over)) ∙ so_far
