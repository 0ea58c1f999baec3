-- Members of an object, of which the last one of each name counts.
use Rattle.std.proofs.Common.{◌≡◌, ℕ, zero, suc, ◌+◌, ◌-◌, ◌<◌, ◌≤◌, List, [], ◌∷◌, length, drop, get_or, slice_set, Bool, true, false, true≢false, bytes_eq, None, Some, Ordering, Less, Equal, Greater, nat_cmp, is_eq, refl, sym, ◌∙◌, ap, arith, unwrap_or, drop-cons}
use Rattle.std.proofs.lemmas.List.{drop_all}
use Rattle.std.proofs.lemmas.Cmp.{nat_list_cmp_total, tied_itself}
use Rattle.std.proofs.lemmas.Map.Text.{is_eq-slice_cmp}
use Rattle.std.proofs.lemmas.Option.{none-some}
use Rattle.std.proofs.lemmas.Slice.Eq.{bytes_eq-Decides}
use Rattle.std.specs.Cmp.Lexicographic.{slice_cmp}
use Rattle.std.specs.Ordering.{match_ordering}
use Rattle.std.specs.declared.alloc.Global.{Global}
use Rattle.std.specs.declared.option.Option.{Option}
use Rattle.json.specs.Value.{members_view}
use Rattle.json.specs.declared.value.Value.{Value}
use Rattle.json.specs.declared.value.Value.TheVariants as variant
use Rattle.json_read.specs.Borrowed.{members_data}
use Rattle.serde_json.specs.Data.{Data, object, Members, no_members, member, put}
use Rattle.serde_json.specs.Find.{get_member}
use Rattle.serde_json.proofs.Views.{get_member-put, get_member-put_other}
use Rattle.metadata_links.specs.Filled.{seen, Member, seen_members, place_behind, last_of, with_member, IsTaken}
use Rattle.metadata_links.specs.Joined.{Filling, with_value, member_filled}

-- ---- a value at a name

same_text : (xs : List ℕ) → slice_cmp nat_cmp xs xs ≡ Equal
same_text xs = tied_itself nat_list_cmp_total xs

equal_names : (k l : List ℕ) → slice_cmp nat_cmp k l ≡ Equal → k ≡ l
equal_names k l is = (bytes_eq-Decides k l).0 (sym (is_eq-slice_cmp k l) ∙ ap is_eq is)

either : {A : Type 0} (o : Ordering) (a b : A) → (o ≡ Equal → ⊥) → match_ordering o a b a ≡ a
either Less a b apart = refl
either Equal a b apart = absurd (apart refl)
either Greater a b apart = refl

passes : (n l : List ℕ) (d x : Data) (ms : Members) → (n ≡ l → ⊥) → with_value n d (member l x ms) ≡ member l x (with_value n d ms)
unfolding with_value
passes n l d x ms apart = either (slice_cmp nat_cmp n l) _ _ (λ is. apart (equal_names n l is))

meets : (n l : List ℕ) (d x : Data) (ms : Members) → slice_cmp nat_cmp n l ≡ Equal → with_value n d (member l x ms) ≡ member l d ms
unfolding with_value
meets n l d x ms is = rw is refl

none_with : (n : List ℕ) (d : Data) → with_value n d no_members ≡ no_members
unfolding with_value
none_with n d = refl

put_here : (k l : List ℕ) (e x : Data) (ms : Members) → slice_cmp nat_cmp k l ≡ Less → put k e (member l x ms) ≡ member k e (member l x ms)
put_here k l e x ms is = rw is refl

put_over : (k l : List ℕ) (e x : Data) (ms : Members) → slice_cmp nat_cmp k l ≡ Equal → put k e (member l x ms) ≡ member l e ms
put_over k l e x ms is = rw is refl

put_later : (k l : List ℕ) (e x : Data) (ms : Members) → slice_cmp nat_cmp k l ≡ Greater → put k e (member l x ms) ≡ member l x (put k e ms)
put_later k l e x ms is = rw is refl

-- another name is put before or after
swaps_at : (n k l : List ℕ) (d e x : Data) (ms : Members) → (n ≡ k → ⊥) → with_value n d (put k e ms) ≡ put k e (with_value n d ms)
    → (o : Ordering) → slice_cmp nat_cmp k l ≡ o → (b : Bool) → bytes_eq n l ≡ b
    → with_value n d (put k e (member l x ms)) ≡ put k e (with_value n d (member l x ms))
swaps_at n k l d e x ms apart later Less is true same =
    let at : slice_cmp nat_cmp n l ≡ Equal = ap (λ y. slice_cmp nat_cmp n y) (sym ((bytes_eq-Decides n l).0 same)) ∙ same_text n in
    ap (with_value n d) (put_here k l e x ms is) ∙ passes n k d e (member l x ms) apart ∙ ap (member k e) (meets n l d x ms at)
    ∙ sym (ap (put k e) (meets n l d x ms at) ∙ put_here k l e d ms is)
swaps_at n k l d e x ms apart later Less is false differ =
    let other = λ (h : n ≡ l). true≢false (sym ((bytes_eq-Decides n l).1 h) ∙ differ) in
    ap (with_value n d) (put_here k l e x ms is) ∙ passes n k d e (member l x ms) apart ∙ ap (member k e) (passes n l d x ms other)
    ∙ sym (ap (put k e) (passes n l d x ms other) ∙ put_here k l e x (with_value n d ms) is)
swaps_at n k l d e x ms apart later Equal is b same =
    let other = λ (h : n ≡ l). apart (h ∙ sym (equal_names k l is)) in
    ap (with_value n d) (put_over k l e x ms is) ∙ passes n l d e ms other
    ∙ sym (ap (put k e) (passes n l d x ms other) ∙ put_over k l e x (with_value n d ms) is)
swaps_at n k l d e x ms apart later Greater is true same =
    let at : slice_cmp nat_cmp n l ≡ Equal = ap (λ y. slice_cmp nat_cmp n y) (sym ((bytes_eq-Decides n l).0 same)) ∙ same_text n in
    ap (with_value n d) (put_later k l e x ms is) ∙ meets n l d x (put k e ms) at
    ∙ sym (ap (put k e) (meets n l d x ms at) ∙ put_later k l e d ms is)
swaps_at n k l d e x ms apart later Greater is false differ =
    let other = λ (h : n ≡ l). true≢false (sym ((bytes_eq-Decides n l).1 h) ∙ differ) in
    ap (with_value n d) (put_later k l e x ms is) ∙ passes n l d x (put k e ms) other ∙ ap (member l x) later
    ∙ sym (ap (put k e) (passes n l d x ms other) ∙ put_later k l e x (with_value n d ms) is)

swaps : (n k : List ℕ) (d e : Data) (ms : Members) → (n ≡ k → ⊥) → with_value n d (put k e ms) ≡ put k e (with_value n d ms)
swaps n k d e no_members apart = passes n k d e no_members apart ∙ ap (member k e) (none_with n d) ∙ sym (ap (put k e) (none_with n d))
swaps n k d e (member l x ms) apart = swaps_at n k l d e x ms apart (swaps n k d e ms apart) _ refl _ refl

-- a value that was put is replaced
replaced_at : (n l : List ℕ) (d x y : Data) (ms : Members) → with_value n d (put n x ms) ≡ put n d ms → (o : Ordering) → slice_cmp nat_cmp n l ≡ o
    → with_value n d (put n x (member l y ms)) ≡ put n d (member l y ms)
replaced_at n l d x y ms later Less is = ap (with_value n d) (put_here n l x y ms is) ∙ meets n n d x (member l y ms) (same_text n) ∙ sym (put_here n l d y ms is)
replaced_at n l d x y ms later Equal is = ap (with_value n d) (put_over n l x y ms is) ∙ meets n l d x ms is ∙ sym (put_over n l d y ms is)
replaced_at n l d x y ms later Greater is = ap (with_value n d) (put_later n l x y ms is)
    ∙ passes n l d y (put n x ms) (λ same. true≢false (sym (ap is_eq (ap (λ z. slice_cmp nat_cmp n z) (sym same) ∙ same_text n)) ∙ ap is_eq is))
    ∙ ap (member l y) later ∙ sym (put_later n l d y ms is)

replaced : (n : List ℕ) (d x : Data) (ms : Members) → with_value n d (put n x ms) ≡ put n d ms
replaced n d x no_members = meets n n d x no_members (same_text n)
replaced n d x (member l y ms) = replaced_at n l d x y ms (replaced n d x ms) _ refl

-- ---- members of the kit's `json`

abbrev found_in : List Member → Members → Members
found_in ms found = members_data (members_view ms) found

none_behind : (o : Option ℕ) (b : Bool) → place_behind o b ≡ None → (o ≡ None) × (b ≡ false)
none_behind (Some i) b is = absurd (none-some _ (sym is))
none_behind None true is = absurd (none-some _ (sym is))
none_behind None false is = (refl, refl)

apart_from : (name k : List ℕ) → bytes_eq k name ≡ false → name ≡ k → ⊥
apart_from name k differ same = true≢false (sym ((bytes_eq-Decides k name).1 (sym same)) ∙ differ)

last_cons : (name : List ℕ) (m : Member) (ms : List Member) → last_of name (m ∷ ms) ≡ place_behind (last_of name ms) (bytes_eq m.0.now name)
unfolding last_of
last_cons name m ms = refl

none_at_all : (name : List ℕ) → last_of name [] ≡ None
unfolding last_of
none_at_all name = refl

-- no member of this name
pub no_member : (name : List ℕ) (ms : List Member) (found : Members) → last_of name ms ≡ None → get_member name (found_in ms found) ≡ get_member name found
no_member name [] found is = refl
no_member name (m ∷ ms) found is =
    let parts = none_behind (last_of name ms) (bytes_eq m.0.now name) (sym (last_cons name m ms) ∙ is) in
    no_member name ms (put m.0.now (seen m.1) found) parts.0 ∙ get_member-put_other name m.0.now (seen m.1) found (apart_from name m.0.now parts.1)

no_change : (name : List ℕ) (d : Data) (ms : List Member) (found : Members) → last_of name ms ≡ None → found_in ms (with_value name d found) ≡ with_value name d (found_in ms found)
no_change name d [] found is = refl
no_change name d (m ∷ ms) found is =
    let parts = none_behind (last_of name ms) (bytes_eq m.0.now name) (sym (last_cons name m ms) ∙ is) in
    ap (found_in ms) (sym (swaps name m.0.now d (seen m.1) found (apart_from name m.0.now parts.1)))
    ∙ no_change name d ms (put m.0.now (seen m.1) found) parts.0

as_some : (x y : ℕ) → Some x ≡ Some y → x ≡ y
as_some x y same = ap (λ o. unwrap_or o 0) same

abbrev rest_of : {A : Type 0} → List A → List A
rest_of [] = []
rest_of (x ∷ xs) = xs

abbrev value_in : Value Global → List Member → Value Global
value_in d [] = d
value_in d (m ∷ ms) = m.1

with_first : (m : Member) (ms : List Member) (v : Value Global) → with_member (m ∷ ms) zero v ≡ (m.0, v) ∷ ms
unfolding with_member
with_first m ms v = refl

with_behind : (m : Member) (ms : List Member) (i : ℕ) (v : Value Global) → with_member (m ∷ ms) (suc i) v ≡ m ∷ with_member ms i v
unfolding with_member
with_behind m ms i v = refl

-- the last member of the name has the value
there_by : (name : List ℕ) (m : Member) (ms : List Member) (i : ℕ) (found : Members) (value : Value Global)
    → ((j : ℕ) → last_of name ms ≡ Some j → ms ≡ with_member ms j value → get_member name (found_in ms (put m.0.now (seen m.1) found)) ≡ Some (seen value))
    → (o : Option ℕ) → last_of name ms ≡ o → (b : Bool) → bytes_eq m.0.now name ≡ b → place_behind o b ≡ Some i → m ∷ ms ≡ with_member (m ∷ ms) i value
    → get_member name (found_in (m ∷ ms) found) ≡ Some (seen value)
there_by name m ms i found value later (Some j) here b same is whole =
    let at : i ≡ suc j = sym (as_some (suc j) i is) in
    later j here (ap rest_of (whole ∙ ap (λ n. with_member (m ∷ ms) n value) at ∙ with_behind m ms j value))
there_by name m ms i found value later None here true same is whole =
    let at : i ≡ zero = sym (as_some zero i is) in
    let alike : m.0.now ≡ name = (bytes_eq-Decides m.0.now name).0 same in
    let its : m.1 ≡ value = ap (value_in value) (whole ∙ ap (λ n. with_member (m ∷ ms) n value) at ∙ with_first m ms value) in
    no_member name ms (put m.0.now (seen m.1) found) here
    ∙ ap (λ k. get_member name (put k (seen m.1) found)) alike ∙ get_member-put name (seen m.1) found ∙ ap (λ v. Some (seen v)) its
there_by name m ms i found value later None here false same is whole = absurd (none-some _ is)

there : (name : List ℕ) (ms : List Member) (i : ℕ) (found : Members) (value : Value Global) → last_of name ms ≡ Some i → ms ≡ with_member ms i value
    → get_member name (found_in ms found) ≡ Some (seen value)
there name [] i found value is whole = absurd (none-some _ (sym (none_at_all name) ∙ is))
there name (m ∷ ms) i found value is whole =
    there_by name m ms i found value (λ j at tail. there name ms j (put m.0.now (seen m.1) found) value at tail) _ refl _ refl (sym (last_cons name m ms) ∙ is) whole

-- its value is another then
changed_by : (name : List ℕ) (m : Member) (ms : List Member) (i : ℕ) (found : Members) (value : Value Global)
    → ((j : ℕ) (so_far : Members) → last_of name ms ≡ Some j → found_in (with_member ms j value) so_far ≡ with_value name (seen value) (found_in ms so_far))
    → (o : Option ℕ) → last_of name ms ≡ o → (b : Bool) → bytes_eq m.0.now name ≡ b → place_behind o b ≡ Some i
    → found_in (with_member (m ∷ ms) i value) found ≡ with_value name (seen value) (found_in (m ∷ ms) found)
changed_by name m ms i found value later (Some j) here b same is =
    let at : i ≡ suc j = sym (as_some (suc j) i is) in
    ap (λ n. found_in (with_member (m ∷ ms) n value) found) at ∙ ap (λ xs. found_in xs found) (with_behind m ms j value)
    ∙ later j (put m.0.now (seen m.1) found) here
changed_by name m ms i found value later None here true same is =
    let at : i ≡ zero = sym (as_some zero i is) in
    let alike : m.0.now ≡ name = (bytes_eq-Decides m.0.now name).0 same in
    ap (λ n. found_in (with_member (m ∷ ms) n value) found) at ∙ ap (λ xs. found_in xs found) (with_first m ms value)
    ∙ ap (λ k. found_in ms (put k (seen value) found)) alike
    ∙ ap (found_in ms) (sym (replaced name (seen value) (seen m.1) found))
    ∙ ap (λ k. found_in ms (with_value name (seen value) (put k (seen m.1) found))) (sym alike)
    ∙ no_change name (seen value) ms (put m.0.now (seen m.1) found) here
changed_by name m ms i found value later None here false same is = absurd (none-some _ is)

changed : (name : List ℕ) (ms : List Member) (i : ℕ) (found : Members) (value : Value Global) → last_of name ms ≡ Some i
    → found_in (with_member ms i value) found ≡ with_value name (seen value) (found_in ms found)
changed name [] i found value is = absurd (none-some _ (sym (none_at_all name) ∙ is))
changed name (m ∷ ms) i found value is =
    changed_by name m ms i found value (λ j so_far at. changed name ms j so_far value at) _ refl _ refl (sym (last_cons name m ms) ∙ is)

-- ---- with_member

pub with_is_set : (ms : List Member) (i : ℕ) (m : Member) (v : Value Global) → i < length ms → m ≡ get_or ms i m → slice_set ms i (m.0, v) ≡ with_member ms i v
unfolding with_member
with_is_set [] i m v below is = absurd (omega arith)
with_is_set (first ∷ ms) zero m v below is = ap (λ x. (x.0, v) ∷ ms) is
with_is_set (first ∷ ms) (suc i) m v below is = ap (λ xs. first ∷ xs) (with_is_set ms i m v (omega arith) is)

pub with_itself : (ms : List Member) (i : ℕ) (m : Member) → i < length ms → m ≡ get_or ms i m → ms ≡ with_member ms i m.1
unfolding with_member
with_itself [] i m below is = absurd (omega arith)
with_itself (first ∷ ms) zero m below is = ap (λ x. x ∷ ms) (sym is) ∙ ap (λ x. (x.0, m.1) ∷ ms) is
with_itself (first ∷ ms) (suc i) m below is = ap (λ xs. first ∷ xs) (with_itself ms i m (omega arith) is)

with_twice : (ms : List Member) (i : ℕ) (v w : Value Global) → with_member (with_member ms i v) i w ≡ with_member ms i w
unfolding with_member
with_twice [] i v w = refl
with_twice (m ∷ ms) zero v w = refl
with_twice (m ∷ ms) (suc i) v w = ap (λ xs. m ∷ xs) (with_twice ms i v w)

with_length : (ms : List Member) (i : ℕ) (v : Value Global) → length (with_member ms i v) ≡ length ms
unfolding with_member
with_length [] i v = refl
with_length (m ∷ ms) zero v = refl
with_length (m ∷ ms) (suc i) v = ap suc (with_length ms i v)

pub still_there : (before mid : List Member) (i : ℕ) (value : Value Global) → i < length before → IsTaken before i value mid → i < length mid
still_there before mid i value below taken = let same : length mid ≡ length before = ap length taken.1 ∙ with_length before i variant.Null in omega (arith, same, below)

-- ---- a member that is filled

pub member_is_filled : (name : List ℕ) (fill : Filling) (before mid after : List Member) (i : ℕ) (value filled : Value Global) (documents left : List Data)
    → last_of name before ≡ Some i → IsTaken before i value mid → fill (seen value) documents ≡ (seen filled, left) → after ≡ with_member mid i filled
    → member_filled name (seen_members before) fill (get_member name (seen_members before)) documents ≡ (object (seen_members after), left)
member_is_filled name fill before mid after i value filled documents left is taken done put =
    let whole : after ≡ with_member before i filled = put ∙ ap (λ xs. with_member xs i filled) taken.1 ∙ with_twice before i variant.Null filled in
    ap (λ o. member_filled name (seen_members before) fill o documents) (there name before i no_members value is taken.0)
    ∙ ap (λ r. (object (with_value name r.0 (seen_members before)), r.1)) done
    ∙ ap (λ ms. (object ms, left)) (sym (ap seen_members whole ∙ changed name before i no_members filled is))

pub no_member_is_filled : (name : List ℕ) (fill : Filling) (before : List Member) (documents : List Data) → last_of name before ≡ None
    → member_filled name (seen_members before) fill (get_member name (seen_members before)) documents ≡ (object (seen_members before), documents)
no_member_is_filled name fill before documents is = ap (λ o. member_filled name (seen_members before) fill o documents) (no_member name before no_members is)

-- ---- the place of the last member

drop_here : (ms : List Member) (i : ℕ) (m : Member) → i < length ms → m ≡ get_or ms i m → drop i ms ≡ m ∷ drop (suc i) ms
drop_here ms i m below is = drop-cons ms i m below ∙ ap (λ x. x ∷ drop (suc i) ms) (sym is)

last_before : (name : List ℕ) (ms : List Member) (i j : ℕ) → i ≤ length ms → last_of name (drop i ms) ≡ Some j → last_of name ms ≡ Some (i + j)
last_before name ms zero j within is = is ∙ ap Some (omega arith)
last_before name [] (suc i) j within is = absurd (omega arith)
last_before name (m ∷ ms) (suc i) j within is = last_cons name m ms ∙ ap (λ o. place_behind o (bytes_eq m.0.now name)) (last_before name ms i j (omega arith) is)
    ∙ ap Some (omega arith)

pub is_last : (name : List ℕ) (ms : List Member) (left : ℕ) (m : Member) → 0 < left → left ≤ length ms → last_of name (drop left ms) ≡ None → m ≡ get_or ms (left - 1) m → bytes_eq m.0.now name ≡ true
    → Some (left - 1) ≡ last_of name ms
is_last name ms left m some within none is same =
    let e : suc (left - 1) ≡ left = omega arith in
    let at : last_of name (drop (left - 1) ms) ≡ Some zero = ap (last_of name) (drop_here ms (left - 1) m (omega arith) is) ∙ last_cons name m (drop (suc (left - 1)) ms)
    ∙ ap (λ n. place_behind (last_of name (drop n ms)) (bytes_eq m.0.now name)) e ∙ rw (none, same) refl in
    sym (last_before name ms (left - 1) zero (omega arith) at ∙ ap Some (omega arith))

pub is_none : (name : List ℕ) (ms : List Member) (left : ℕ) (m : Member) → 0 < left → left ≤ length ms → last_of name (drop left ms) ≡ None → m ≡ get_or ms (left - 1) m → bytes_eq m.0.now name ≡ false
    → last_of name (drop (left - 1) ms) ≡ None
is_none name ms left m some within none is differ =
    let e : suc (left - 1) ≡ left = omega arith in
    ap (last_of name) (drop_here ms (left - 1) m (omega arith) is) ∙ last_cons name m (drop (suc (left - 1)) ms)
    ∙ ap (λ n. place_behind (last_of name (drop n ms)) (bytes_eq m.0.now name)) e ∙ rw (none, differ) refl

pub none_in : (name : List ℕ) (ms : List Member) → last_of name (drop (length ms) ms) ≡ None
none_in name ms = ap (last_of name) (drop_all (length ms) ms (omega arith)) ∙ none_at_all name
