-- Which texts are footprints.
use Rattle.std.proofs.Common.{◌≡◌, ℕ, suc, ◌+◌, ◌<◌, ◌==◌, true, false, cond, List, [], ◌∷◌, ◌++◌, length, take, drop, get_or, All, refl, sym, ap, ◌∙◌, None, Some, Option, option_map, is_some, position, unwrap_or, arith, take-append-drop, take_at, length-append, nat_lt, not, ap₂}
use Rattle.std.specs.List.{list_all, position_or_len}
use Rattle.std.specs.Option.{option_map_or}
use Rattle.std.proofs.lemmas.Bool.{and_parts, and_from, eqb-true, cond-true, lt-ltb}
use Rattle.std.proofs.lemmas.List.{drop_more}
use Rattle.std.proofs.lemmas.List.Elements.{All-cons, All-head, All-nil, All-tail}
use Rattle.std.proofs.lemmas.List.Quantifiers.{position-Some}
use Rattle.std.proofs.lemmas.Option.{none-some, some_pair_parts}
use Rattle.listing.specs.Word.{parts_at}
use Rattle.location_acl.specs.Footprint.{IsFootprint, footprint_of, type_name, type_of}
use Rattle.location_acl.specs.declared.footprint.Footprint.{Footprint}
use Rattle.location_acl.specs.declared.footprint.FootprintType.{FootprintType}
use Rattle.location_acl.specs.declared.footprint.FootprintType.TheVariants as kind
use Rattle.location_acl.proofs.FootprintLemmas.{footprint_reads}
use Rattle.serde_json.specs.Data.{Data}
use Rattle.footprints.specs.Advertisement.{footprint_data, footprint_object}
use Rattle.footprints.specs.Settings.{IsFootprintText, is_footprint_text}

-- ---- cut at the first `:`

abbrev parts_by : List ℕ → Option ℕ → Option (List ℕ × List ℕ)
parts_by text found = option_map (λ place. (take place text, drop (place + 1) text)) found

cut_is : (text before behind : List ℕ) → parts_at 58 text ≡ Some (before, behind) → text ≡ before ++ 58 ∷ behind
unfolding parts_at
cut_is text before behind is = by_place (position (λ x. x == 58) text) refl is
  where
    by_place : (found : Option ℕ) → position (λ x. x == 58) text ≡ found → parts_by text found ≡ Some (before, behind) → text ≡ before ++ 58 ∷ behind
    by_place None at whole = absurd (none-some (before, behind) whole)
    by_place (Some place) at whole =
        let p = some_pair_parts (take place text) before (drop (place + 1) text) behind whole in
        let here = position-Some (λ x. x == 58) text place 0 at in
        let colon : get_or text place 0 ≡ 58 = eqb-true (get_or text place 0) 58 here.1 in
        sym (take-append-drop place text) ∙ ap (λ rest. take place text ++ rest) (drop_more text place 0 here.0)
        ∙ ap (λ x. take place text ++ x ∷ drop (place + 1) text) colon ∙ ap (λ t. t ++ 58 ∷ drop (place + 1) text) p.0 ∙ ap (λ t. before ++ 58 ∷ t) p.1

-- the place of the first `:`
first_colon : (front rest : List ℕ) → list_all (λ x. not (x == 58)) front ≡ true → position_or_len (λ x. x == 58) (front ++ 58 ∷ rest) ≡ length front
first_colon [] rest all = refl
first_colon (x ∷ front) rest all = let p = and_parts (not (x == 58)) (list_all (λ y. not (y == 58)) front) all in
    cond-true (not (x == 58)) (1 + position_or_len (λ y. y == 58) (front ++ 58 ∷ rest)) 0 p.0 ∙ ap (λ n. 1 + n) (first_colon front rest p.1) ∙ omega arith

cut_there : (front rest : List ℕ) → list_all (λ x. not (x == 58)) front ≡ true → parts_at 58 (front ++ 58 ∷ rest) ≡ Some (front, rest)
unfolding parts_at
cut_there front rest all =
    let place = first_colon front rest all in
    let next : length front + 1 ≡ suc (length front) = omega arith in
    let within : length front < length (front ++ 58 ∷ rest) = omega (arith, length-append front (58 ∷ rest)) in
    ap (parts_by (front ++ 58 ∷ rest)) (ap (λ n. cond (nat_lt n (length (front ++ 58 ∷ rest))) (Some n) None) place ∙ cond-true (nat_lt (length front) (length (front ++ 58 ∷ rest))) (Some (length front)) None (lt-ltb _ _ within))
    ∙ ap₂ (λ (a b : List ℕ). Some (a, b)) (take_at front (58 ∷ rest) (length front) refl) (ap (λ n. drop n (front ++ 58 ∷ rest)) next ∙ drop_past front rest)
  where
    drop_past : (front rest : List ℕ) → drop (suc (length front)) (front ++ 58 ∷ rest) ≡ rest
    drop_past [] rest = refl
    drop_past (x ∷ front) rest = drop_past front rest

-- no type has a `:` in its name
cut_behind_type : (one : FootprintType) (value : List ℕ) → parts_at 58 (type_name one ++ 58 ∷ value) ≡ Some (type_name one, value)
cut_behind_type kind.Ipv4Cidr value = cut_there (type_name kind.Ipv4Cidr) value refl
cut_behind_type kind.Ipv6Cidr value = cut_there (type_name kind.Ipv6Cidr) value refl
cut_behind_type kind.Asn value = cut_there (type_name kind.Asn) value refl
cut_behind_type kind.CountryCode value = cut_there (type_name kind.CountryCode) value refl

pub cut_at_type : (kind value : List ℕ) (footprint : Footprint) → IsFootprint kind value footprint → parts_at 58 (kind ++ 58 ∷ value) ≡ Some (kind, value)
cut_at_type kind value footprint is = rw is.0 (cut_behind_type (type_of footprint) value)

abbrev shown_by : List ℕ → Option (List ℕ × List ℕ) → Data
shown_by text found = footprint_object (unwrap_or found (text, [])).0 (unwrap_or found (text, [])).1

pub shown : (kind value : List ℕ) (footprint : Footprint) → IsFootprint kind value footprint → footprint_data (kind ++ 58 ∷ value) ≡ footprint_object kind value
shown kind value footprint is = ap (shown_by (kind ++ 58 ∷ value)) (cut_at_type kind value footprint is)

-- ---- texts of footprints

some_is : {A : Type 0} (found : Option A) → is_some found ≡ true → (a : A) × (found ≡ Some a)
some_is None is = absurd (cc)
some_is (Some a) is = (a, refl)

text_is : (text : List ℕ) (found : Option (List ℕ × List ℕ)) → parts_at 58 text ≡ found → option_map_or (λ parts. is_some (footprint_of parts.0 parts.1)) found false ≡ true → IsFootprintText text
text_is text None cut is = absurd (cc)
text_is text (Some parts) cut is =
    let read = some_is (footprint_of parts.0 parts.1) is in
    (parts.0, parts.1, read.0, cut_is text parts.0 parts.1 cut, (footprint_reads parts.0 parts.1 (footprint_of parts.0 parts.1) refl read.0).0 read.1)

is_text : (text : List ℕ) → IsFootprintText text → is_footprint_text text ≡ true
is_text text so =
    ap is_footprint_text so.3 ∙ ap (λ found. option_map_or (λ (parts : List ℕ × List ℕ). is_some (footprint_of parts.0 parts.1)) found false) (cut_at_type so.0 so.1 so.2 so.4)
    ∙ ap is_some ((footprint_reads so.0 so.1 (footprint_of so.0 so.1) refl so.2).1 so.4)

pub are_texts : (footprints : List (List ℕ)) → list_all is_footprint_text footprints ≡ true → All IsFootprintText footprints
are_texts [] all = All-nil IsFootprintText
are_texts (text ∷ footprints) all = let p = and_parts (is_footprint_text text) (list_all is_footprint_text footprints) all in
    All-cons IsFootprintText text footprints (text_is text (parts_at 58 text) refl p.0) (are_texts footprints p.1)

pub texts_are : (footprints : List (List ℕ)) → All IsFootprintText footprints → list_all is_footprint_text footprints ≡ true
texts_are [] all = refl
texts_are (text ∷ footprints) all = and_from (is_footprint_text text) (list_all is_footprint_text footprints) (is_text text (All-head IsFootprintText text footprints all)) (texts_are footprints (All-tail IsFootprintText text footprints all))
