-- Reading an address against its grammar.
use Rattle.std.proofs.Common.{◌≡◌, ℕ, ◌+◌, ◌/◌, ◌%◌, ◌<◌, ◌≤◌, true, false, List, [], ◌∷◌, ◌++◌, length, Option, Some, None, IsSome, refl, ap, sym, subst, ◌∙◌, arith, ⊎_elim, inl, inr, ◌⊎◌, ◌↔◌, max, Result, Ok, Err}
use Rattle.std.specs.Prelude.{option_map, option_and_then}
use Rattle.std.specs.Option.{option_or}
use Rattle.std.specs.Result.{result_ok}
use Rattle.location_acl.specs.declared.ip.AddressFault.{AddressFault}
use Rattle.listing.specs.Fronts.{IsLongestFront}
use Rattle.location_acl.proofs.FrontLemmas.{place_of_either}
use Rattle.std.proofs.lemmas.Bool.{cases_Bool, cond-true, leb-false, leb-true, eq-eqb}
use Rattle.location_acl.specs.declared.dotted.Dotted.{Dotted}
use Rattle.location_acl.specs.declared.dotted.Dotted.TheVariants.{First, Second, Third, Fourth}
use Rattle.location_acl.specs.declared.groups.Groups.{Groups}
use Rattle.location_acl.specs.declared.six.Six.{Six}
use Rattle.location_acl.specs.declared.six.Six.TheVariants.{Start, Colon, Joined, Gap, Group, Tail}
use Rattle.location_acl.specs.declared.ip.Ip.{Ip}
use Rattle.location_acl.specs.declared.ip.Ip.TheVariants.{V4, V6}
use Rattle.location_acl.specs.Groups.{has_room, is_whole, with_group, groups_value}
use Rattle.location_acl.specs.Dotted.{dotted_step, dotted_run, dotted_of}
use Rattle.location_acl.specs.Six.{six_run, six_of, IsSound, AreWritten}
use Rattle.location_acl.specs.Ip.{ip_of, IsAddress, IsSomeAddress}
use Rattle.location_acl.proofs.DottedLemmas.{dotted_from, dotted_is, dotted_completes}
use Rattle.location_acl.proofs.SixLemmas.{six_from, groups_elim}
use Rattle.location_acl.proofs.WrittenLemmas.{six_is, tail_run}

-- an IPv4 address has no `:`
no_colon : (front : Dotted) (xs ys : List ℕ) → dotted_run front (xs ++ 58 ∷ ys) ≡ None
no_colon (First None) [] ys = refl
no_colon (First (Some a)) [] ys = refl
no_colon (Second a None) [] ys = refl
no_colon (Second a (Some b)) [] ys = refl
no_colon (Third a b None) [] ys = refl
no_colon (Third a b (Some c)) [] ys = refl
no_colon (Fourth a b c None) [] ys = refl
no_colon (Fourth a b c (Some d)) [] ys = refl
no_colon front (x ∷ xs) ys = at_step (λ next. no_colon next xs ys) (dotted_step front x)
  where
    at_step : ((next : Dotted) → dotted_run next (xs ++ 58 ∷ ys) ≡ None) → (o : Option Dotted) → option_and_then (λ next. dotted_run next (xs ++ 58 ∷ ys)) o ≡ None
    at_step deep None = refl
    at_step deep (Some next) = deep next

has_colon : (text : List ℕ) (value : ℕ) → IsAddress text (V6 value) → (xs : List ℕ) × (ys : List ℕ) × (text ≡ xs ++ 58 ∷ ys)
has_colon text value (inl h) = whole h.groups h.written h.eight
  where
    whole : (gs : List ℕ) → AreWritten text gs → length gs ≡ 8 → (xs : List ℕ) × (ys : List ℕ) × (text ≡ xs ++ 58 ∷ ys)
    whole [] written eight = absurd (omega arith)
    whole (g ∷ []) written eight = absurd (omega arith)
    whole (g ∷ h ∷ gs) (inl w) eight = (w.0, w.1, w.2)
    whole (g ∷ h ∷ gs) (inr w) eight = absurd (omega (arith, ap length w.0))
has_colon text value (inr h) = (h.before, 58 ∷ h.after, h.parts)

not_dotted : (text : List ℕ) (value : ℕ) → IsAddress text (V6 value) → dotted_of text ≡ None
not_dotted text value h = let c = has_colon text value h in ap dotted_of c.2 ∙ no_colon (First None) c.0 c.1

-- what is written as an address is read as it
pub address_is : (text : List ℕ) (ip : Ip) → IsAddress text ip → ip_of text ≡ Some ip
address_is text (V4 value) h = ap (λ (o : Option ℕ). option_or (option_map V4 o) (option_map V6 (six_of text))) (dotted_is text value h)
address_is text (V6 value) h =
    ap (λ (o : Option ℕ). option_or (option_map V4 o) (option_map V6 (six_of text))) (not_dotted text value h)
    ∙ ap (λ (o : Option ℕ). option_map V6 o) (six_is text value h)

-- what is read as an address is one
pub address_from : (text : List ℕ) (ip : Ip) → ip_of text ≡ Some ip → IsAddress text ip
address_from text ip is = either (dotted_of text) (six_of text) refl refl is
  where
    either : (four six : Option ℕ) → dotted_of text ≡ four → six_of text ≡ six → option_or (option_map V4 four) (option_map V6 six) ≡ Some ip → IsAddress text ip
    either (Some n) six four_is six_is is = let same : V4 n ≡ ip = cc in subst (λ (i : Ip). IsAddress text i) same (dotted_from text n four_is)
    either None (Some n) four_is six_is is = let same : V6 n ≡ ip = cc in subst (λ (i : Ip). IsAddress text i) same (six_from text n six_is)
    either None None four_is six_is is = absurd (cc)

pub one_address : (text : List ℕ) (ip other : Ip) → IsAddress text ip → IsAddress text other → ip ≡ other
one_address text ip other h k = let e : Some ip ≡ Some other = sym (address_is text ip h) ∙ address_is text other k in cc

some_value : {V : Type 0} (o : Option V) → IsSome o → (x : V) × (o ≡ Some x)
some_value None some = absurd (cc)
some_value (Some x) some = (x, refl)

pub dotted_accepted : (text : List ℕ) → IsSome (dotted_of text) → IsSomeAddress text
dotted_accepted text some = let v = some_value (dotted_of text) some in (V4 v.0, dotted_from text v.0 v.1)

pub six_accepted : (text : List ℕ) → IsSome (six_of text) → IsSomeAddress text
six_accepted text some = let v = some_value (six_of text) some in (V6 v.0, six_from text v.0 v.1)

pub accepted_either : (text : List ℕ) → IsSomeAddress text → IsSome (dotted_of text) ⊎ IsSome (six_of text)
accepted_either text h = by_kind h.0 h.1
  where
    by_kind : (ip : Ip) → IsAddress text ip → IsSome (dotted_of text) ⊎ IsSome (six_of text)
    by_kind (V4 value) h = inl (subst (λ (o : Option ℕ). IsSome o) (sym (dotted_is text value h)) refl)
    by_kind (V6 value) h = inr (subst (λ (o : Option ℕ). IsSome o) (sym (six_is text value h)) refl)

-- each sound front is that of some address
pub six_completes : (front : Six) → IsSound front → (rest : List ℕ) × IsSome (six_run front rest)
six_completes Start sound = (58 ∷ 58 ∷ [], refl)
six_completes Colon sound = (58 ∷ [], refl)
six_completes (Joined g) sound =
    groups_elim (λ h. has_room 1 h ≡ true → (rest : List ℕ) × IsSome (six_run (Joined h) rest)) g
    (λ _ room. (48 ∷ [], subst (λ (o : Option Six). IsSome (option_and_then (λ next. six_run next []) o)) (sym (cond-true _ _ _ room)) refl))
    (λ _ room. (58 ∷ [], refl)) sound.1
six_completes (Gap g) sound = ([], refl)
six_completes (Group g d) sound =
    groups_elim (λ h. has_room 1 h ≡ true → (h.has_gap ≡ false → h.back_len ≡ 0) → (rest : List ℕ) × IsSome (six_run (Group h d) rest)) g
    (λ _ room none. ([], refl))
    (λ _ room none. ⊎_elim (λ more. (58 ∷ 58 ∷ [], subst (λ (o : Option Six). IsSome (option_and_then (λ next. six_run next (58 ∷ [])) o)) (sym (cond-true _ _ _ more)) refl))
    (λ last. ([], subst (λ (o : Option ℕ). IsSome o) (sym (cond-true _ _ _ (eight g (none refl) (leb-true _ _ room) (leb-false _ _ last)))) refl))
    (cases_Bool (has_room 2 (record g { has_gap = false })))) sound.1 sound.0.plain
  where
    eight : (g : Groups) → g.back_len ≡ 0 → g.front_len + g.back_len + 1 ≤ 8 → 8 < g.front_len + g.back_len + 2 → is_whole (with_group d.group (record g { has_gap = false })) ≡ true
    eight g none few many = eq-eqb _ _ (omega arith)
six_completes (Tail g d) sound =
    let done = dotted_completes d in
    (done.0, subst (λ (o : Option ℕ). IsSome o) (sym (tail_run g d done.0)) (mapped_some (dotted_run d done.0) done.1))
  where
    mapped_some : (o : Option ℕ) → IsSome o → IsSome (option_map (λ n. groups_value (with_group (n % 65536) (with_group (n / 65536) g))) o)
    mapped_some None some = absurd (cc)
    mapped_some (Some n) some = refl

-- a result whose value is what the text is
pub ok_is : (text : List ℕ) (read : Result Ip AddressFault) → result_ok read ≡ ip_of text → (ip : Ip) → (read ≡ Ok ip) ↔ IsAddress text ip
ok_is text (Ok found) is ip =
    ((λ same. let e : Some found ≡ Some ip = cc in address_from text ip (sym is ∙ e)), (λ h. let e : Some found ≡ Some ip = is ∙ address_is text ip h in cc))
ok_is text (Err fault) is ip =
    ((λ same. absurd (cc)), (λ h. let e : None ≡ Some ip = is ∙ address_is text ip h in absurd (cc)))

pub four_value : (text : List ℕ) (n : ℕ) → Some n ≡ dotted_of text → Some (V4 n) ≡ ip_of text
four_value text n is = ap (λ (o : Option ℕ). option_or (option_map V4 o) (option_map V6 (six_of text))) is

pub six_value_is : (text : List ℕ) (six : Option ℕ) → None ≡ dotted_of text → six ≡ six_of text → option_map V6 six ≡ ip_of text
six_value_is text six four is = ap (λ (o : Option ℕ). option_map V6 o) is ∙ ap (λ (o : Option ℕ). option_or (option_map V4 o) (option_map V6 (six_of text))) four

pub bad_place : (text : List ℕ) (four six : ℕ) → IsLongestFront (λ t. IsSome (dotted_of t)) text four → IsLongestFront (λ t. IsSome (six_of t)) text six → (at : ℕ) → at ≡ max six four → IsLongestFront IsSomeAddress text at
bad_place text four six p q at is =
    subst (λ (k : ℕ). IsLongestFront IsSomeAddress text k) (sym is)
    (place_of_either (λ t. IsSome (six_of t)) (λ t. IsSome (dotted_of t)) IsSomeAddress text six four six_accepted dotted_accepted (λ t h. ⊎_elim (λ x. inr x) (λ y. inl y) (accepted_either t h)) q p)
