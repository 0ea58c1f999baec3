-- Reading a footprint against its grammar.
use Rattle.std.proofs.Common.{◌≡◌, ℕ, ◌≤◌, leb, Bool, true, false, cond, List, [], ◌∷◌, ◌++◌, length, take, drop, Option, Some, None, refl, ap, sym, subst, ◌∙◌, arith, ⊎_elim, ◌⊎◌, inl, inr, ◌↔◌, decimal}
use Rattle.std.specs.Prelude.{codes, bytes_eq, nat_le, option_map, ◌&&◌}
use Rattle.std.proofs.lemmas.Bool.{cases_Bool, and_parts, and_from, cond-true, cond-false, le-leb, leb-true}
use Rattle.std.proofs.lemmas.List.{take-append-drop}
use Rattle.std.proofs.lemmas.Slice.Eq.{bytes_eq-Decides}
use Rattle.std.proofs.lemmas.Option.{same_Some, none-some}
use Rattle.listing.specs.Word.{◌>>=◌}
use Rattle.listing.specs.Number.{number_of}
use Rattle.listing.proofs.Decimals.{some_decimal, decimal_some}
use Rattle.location_acl.specs.declared.block.Block.{Block}
use Rattle.location_acl.specs.declared.footprint.Footprint.{Footprint}
use Rattle.location_acl.specs.declared.footprint.Footprint.TheVariants.{V4, V6, Asn, Country}
use Rattle.location_acl.specs.Block.{block_of}
use Rattle.location_acl.specs.declared.footprint.FootprintType.{FootprintType}
use Rattle.location_acl.specs.declared.footprint.FootprintType.TheVariants as kind
use Rattle.location_acl.specs.Footprint.{asn_from, asn_of, is_lower_letter, country_of, type_name, type_of_name, type_of, footprint_of_type, footprint_of, optional, IsLowerLetter, IsWritten, IsFootprint, IsNetwork, IsCountry}
use Rattle.location_acl.proofs.BlockLemmas.{block_from_text, block_is}

guarded : {A : Type 0} (t : Bool) (o : Option A) (y : A) → cond t o None ≡ Some y → (t ≡ true) × (o ≡ Some y)
guarded true o y is = (refl, is)
guarded false o y is = absurd (cc)

mapped : {A B : Type 0} (f : A → B) (o : Option A) (y : B) → option_map f o ≡ Some y → (x : A) × (o ≡ Some x) × (f x ≡ y)
mapped f None y is = absurd (cc)
mapped f (Some x) y is = (x, refl, cc)

pub asn_from_text : (text : List ℕ) (n : ℕ) → asn_of text ≡ Some n → (n ≤ 4294967295) × (text ≡ codes "as" ++ decimal n)
asn_from_text text n is =
    let g = guarded (bytes_eq (take 2 text) (codes "as")) (asn_from (number_of (drop 2 text))) n is in
    let number = of_number (number_of (drop 2 text)) refl g.1 in
    (number.0, sym (take-append-drop 2 text) ∙ ap (λ (xs : List ℕ). xs ++ drop 2 text) ((bytes_eq-Decides (take 2 text) (codes "as")).0 g.0) ∙ ap (λ (xs : List ℕ). codes "as" ++ xs) number.1)
  where
    of_number : (o : Option ℕ) → number_of (drop 2 text) ≡ o → asn_from o ≡ Some n → (n ≤ 4294967295) × (drop 2 text ≡ decimal n)
    of_number None read is = absurd (cc)
    of_number (Some m) read is =
        let g = guarded (nat_le m 4294967295) (Some m) n is in
        let same : m ≡ n = (let e = g.1 in cc) in
        (omega (arith, leb-true _ _ g.0, same), some_decimal (drop 2 text) (Some m) (sym read) ∙ ap decimal same)

pub asn_is : (text : List ℕ) (n : ℕ) → n ≤ 4294967295 → text ≡ codes "as" ++ decimal n → asn_of text ≡ Some n
asn_is text n fits is =
    ap asn_of is
    ∙ ap asn_from (decimal_some (decimal n) (number_of (decimal n)) refl n (omega arith) refl)
    ∙ cond-true _ _ _ (le-leb n 4294967295 fits)

letter_from : (b : ℕ) → is_lower_letter b ≡ true → IsLowerLetter b
letter_from b h = let p = and_parts (leb 97 b) (leb b 122) h in (leb-true _ _ p.0, leb-true _ _ p.1)

letter_is : (b : ℕ) → IsLowerLetter b → is_lower_letter b ≡ true
letter_is b h = and_from (leb 97 b) _ (le-leb _ _ h.0) (le-leb _ _ h.1)

pub country_from_text : (text : List ℕ) (letters : ℕ × ℕ) → country_of text ≡ Some letters → (text ≡ letters.0 ∷ letters.1 ∷ []) × IsLowerLetter letters.0 × IsLowerLetter letters.1
country_from_text [] letters is = absurd (cc)
country_from_text (a ∷ []) letters is = absurd (cc)
country_from_text (a ∷ b ∷ []) letters is =
    let g = guarded (is_lower_letter a && is_lower_letter b) (Some (a, b)) letters is in
    let same : (a, b) ≡ letters = (let e = g.1 in cc) in
    let p = and_parts (is_lower_letter a) (is_lower_letter b) g.0 in
    subst (λ (l : ℕ × ℕ). (a ∷ b ∷ [] ≡ l.0 ∷ l.1 ∷ []) × IsLowerLetter l.0 × IsLowerLetter l.1) same (refl, letter_from a p.0, letter_from b p.1)
country_from_text (a ∷ b ∷ c ∷ more) letters is = absurd (cc)

pub country_is : (text : List ℕ) (a b : ℕ) → text ≡ a ∷ b ∷ [] → IsLowerLetter a → IsLowerLetter b → country_of text ≡ Some (a, b)
country_is text a b is one other = ap country_of is ∙ cond-true _ _ _ (and_from (is_lower_letter a) _ (letter_is a one) (letter_is b other))

-- ---- a type and its name

name_is : (name : List ℕ) (found : FootprintType) → type_of_name name ≡ Some found → name ≡ type_name found
name_is name found is =
    ⊎_elim (λ t. subst (λ (k : FootprintType). name ≡ type_name k) (same_Some kind.Ipv4Cidr found (sym (cond-true _ _ _ t) ∙ is)) ((bytes_eq-Decides name (codes "ipv4cidr")).0 t))
    (λ f. let is : _ ≡ Some found = sym (cond-false _ _ _ f) ∙ is in
    ⊎_elim (λ t. subst (λ (k : FootprintType). name ≡ type_name k) (same_Some kind.Ipv6Cidr found (sym (cond-true _ _ _ t) ∙ is)) ((bytes_eq-Decides name (codes "ipv6cidr")).0 t))
    (λ f. let is : _ ≡ Some found = sym (cond-false _ _ _ f) ∙ is in
    ⊎_elim (λ t. subst (λ (k : FootprintType). name ≡ type_name k) (same_Some kind.Asn found (sym (cond-true _ _ _ t) ∙ is)) ((bytes_eq-Decides name (codes "asn")).0 t))
    (λ f. let h = guarded (bytes_eq name (codes "countrycode")) _ found (sym (cond-false _ _ _ f) ∙ is) in
    subst (λ (k : FootprintType). name ≡ type_name k) (same_Some kind.CountryCode found h.1) ((bytes_eq-Decides name (codes "countrycode")).0 h.0))
    (cases_Bool (bytes_eq name (codes "asn"))))
    (cases_Bool (bytes_eq name (codes "ipv6cidr"))))
    (cases_Bool (bytes_eq name (codes "ipv4cidr")))

type_is : (found : FootprintType) → type_of_name (type_name found) ≡ Some found
type_is kind.Ipv4Cidr = refl
type_is kind.Ipv6Cidr = refl
type_is kind.Asn = refl
type_is kind.CountryCode = refl

pub types_read : (name : List ℕ) (read : Option FootprintType) → read ≡ type_of_name name → (found : FootprintType) → (read ≡ Some found) ↔ (name ≡ type_name found)
types_read name read is found = ((λ same. name_is name found (sym is ∙ same)), (λ named. is ∙ ap type_of_name named ∙ type_is found))

-- ---- a value of a type

value_from_text : (found : FootprintType) (value : List ℕ) (footprint : Footprint) → footprint_of_type found value ≡ Some footprint → (found ≡ type_of footprint) × IsWritten value footprint
value_from_text kind.Ipv4Cidr value footprint is =
    let h = mapped V4 (block_of false value) footprint is in subst (λ (f : Footprint). (kind.Ipv4Cidr ≡ type_of f) × IsWritten value f) h.2 (refl, block_from_text false value h.0 h.1)
value_from_text kind.Ipv6Cidr value footprint is =
    let h = mapped V6 (block_of true value) footprint is in subst (λ (f : Footprint). (kind.Ipv6Cidr ≡ type_of f) × IsWritten value f) h.2 (refl, block_from_text true value h.0 h.1)
value_from_text kind.Asn value footprint is =
    let h = mapped Asn (asn_of value) footprint is in subst (λ (f : Footprint). (kind.Asn ≡ type_of f) × IsWritten value f) h.2 (refl, asn_from_text value h.0 h.1)
value_from_text kind.CountryCode value footprint is =
    let h = mapped (λ (l : ℕ × ℕ). Country l.0 l.1) (country_of value) footprint is in
    subst (λ (f : Footprint). (kind.CountryCode ≡ type_of f) × IsWritten value f) h.2 (refl, country_from_text value h.0 h.1)

value_is : (value : List ℕ) (footprint : Footprint) → IsWritten value footprint → footprint_of_type (type_of footprint) value ≡ Some footprint
value_is value (V4 block) h = ap (λ (o : Option Block). option_map V4 o) (block_is false value block h)
value_is value (V6 block) h = ap (λ (o : Option Block). option_map V6 o) (block_is true value block h)
value_is value (Asn n) h = ap (λ (o : Option ℕ). option_map Asn o) (asn_is value n h.0 h.1)
value_is value (Country a b) h = ap (λ (o : Option (ℕ × ℕ)). option_map (λ (l : ℕ × ℕ). Country l.0 l.1) o) (country_is value a b h.0 h.1 h.2)

pub values_read : (found : FootprintType) (value : List ℕ) (read : Option Footprint) → read ≡ footprint_of_type found value
    → (footprint : Footprint) → (read ≡ Some footprint) ↔ ((found ≡ type_of footprint) × IsWritten value footprint)
values_read found value read is footprint =
    ((λ same. value_from_text found value footprint (sym is ∙ same)), (λ h. is ∙ ap (λ (k : FootprintType). footprint_of_type k value) h.0 ∙ value_is value footprint h.1))

-- ---- a footprint, of the type that has a name

footprint_from_text : (name value : List ℕ) (found : Option FootprintType) (footprint : Footprint) → type_of_name name ≡ found
    → (found >>= λ k. footprint_of_type k value) ≡ Some footprint → IsFootprint name value footprint
footprint_from_text name value None footprint named is = absurd (none-some _ is)
footprint_from_text name value (Some found) footprint named is =
    let h = value_from_text found value footprint is in (name_is name found named ∙ ap type_name h.0, h.1)

footprint_is : (name value : List ℕ) (footprint : Footprint) → IsFootprint name value footprint → footprint_of name value ≡ Some footprint
footprint_is name value footprint h =
    ap (λ (o : Option FootprintType). o >>= λ k. footprint_of_type k value) (ap type_of_name h.0 ∙ type_is (type_of footprint)) ∙ value_is value footprint h.1

-- what is read is the grammar
pub footprint_reads : (name value : List ℕ) (read : Option Footprint) → read ≡ footprint_of name value → (footprint : Footprint) → (read ≡ Some footprint) ↔ IsFootprint name value footprint
footprint_reads name value read is footprint =
    ((λ same. footprint_from_text name value (type_of_name name) footprint refl (sym is ∙ same)), (λ h. is ∙ footprint_is name value footprint h))

-- ---- a network and a country, or `-`

optional_from : {A : Type 0} (of : List ℕ → Option A) (text : List ℕ) (found : Option A) → optional of text ≡ Some found
    → ((text ≡ codes "-") × (found ≡ None)) ⊎ ((x : A) × (of text ≡ Some x) × (found ≡ Some x))
optional_from of text found is =
    ⊎_elim (λ t. inl ((bytes_eq-Decides text (codes "-")).0 t, sym (same_Some None found (sym (cond-true _ _ _ t) ∙ is))))
    (λ f. let h = mapped Some (of text) found (sym (cond-false _ _ _ f) ∙ is) in inr (h.0, h.1, sym h.2)) (cases_Bool (bytes_eq text (codes "-")))

pub network_from_text : (text : List ℕ) (network : Option ℕ) → optional asn_of text ≡ Some network → IsNetwork text network
network_from_text text network is =
    ⊎_elim (λ none. subst (λ (o : Option ℕ). IsNetwork text o) (sym none.1) none.0)
    (λ some. subst (λ (o : Option ℕ). IsNetwork text o) (sym some.2) (asn_from_text text some.0 some.1)) (optional_from asn_of text network is)

pub network_is : (text : List ℕ) (network : Option ℕ) → IsNetwork text network → optional asn_of text ≡ Some network
network_is text None h = ap (optional asn_of) h
network_is text (Some n) h =
    cond-false (bytes_eq text (codes "-")) _ _ (ap (λ (xs : List ℕ). bytes_eq xs (codes "-")) h.1) ∙ ap (λ (o : Option ℕ). option_map Some o) (asn_is text n h.0 h.1)

pub networks_read : (text : List ℕ) (read : Option (Option ℕ)) → read ≡ optional asn_of text → (network : Option ℕ) → (read ≡ Some network) ↔ IsNetwork text network
networks_read text read is network = ((λ same. network_from_text text network (sym is ∙ same)), (λ h. is ∙ network_is text network h))

pub known_country_from_text : (text : List ℕ) (country : Option (ℕ × ℕ)) → optional country_of text ≡ Some country → IsCountry text country
known_country_from_text text country is =
    ⊎_elim (λ none. subst (λ (o : Option (ℕ × ℕ)). IsCountry text o) (sym none.1) none.0)
    (λ some. subst (λ (o : Option (ℕ × ℕ)). IsCountry text o) (sym some.2) (country_from_text text some.0 some.1)) (optional_from country_of text country is)

pub known_country_is : (text : List ℕ) (country : Option (ℕ × ℕ)) → IsCountry text country → optional country_of text ≡ Some country
known_country_is text None h = ap (optional country_of) h
known_country_is text (Some l) h =
    cond-false (bytes_eq text (codes "-")) _ _ (ap (λ (xs : List ℕ). bytes_eq xs (codes "-")) h.0 ∙ not_dash l) ∙ ap (λ (o : Option (ℕ × ℕ)). option_map Some o) (country_is text l.0 l.1 h.0 h.1 h.2)
  where
    not_dash : (l : ℕ × ℕ) → bytes_eq (l.0 ∷ l.1 ∷ []) (codes "-") ≡ false
    not_dash l = ⊎_elim (λ t. absurd (omega (arith, ap length ((bytes_eq-Decides (l.0 ∷ l.1 ∷ []) (codes "-")).0 t)))) (λ f. f) (cases_Bool (bytes_eq (l.0 ∷ l.1 ∷ []) (codes "-")))

pub countries_read : (text : List ℕ) (read : Option (Option (ℕ × ℕ))) → read ≡ optional country_of text → (country : Option (ℕ × ℕ)) → (read ≡ Some country) ↔ IsCountry text country
countries_read text read is country = ((λ same. known_country_from_text text country (sym is ∙ same)), (λ h. is ∙ known_country_is text country h))
