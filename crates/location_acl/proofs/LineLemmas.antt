-- Reading a line of a place file against its grammar.
use Rattle.std.proofs.Common.{zero, suc, ◌≡◌, ℕ, ◌+◌, ◌<◌, ◌≤◌, eqb, Bool, true, false, not, List, [], ◌∷◌, ◌++◌, length, length-append, append_assoc, append-nil, Option, Some, None, refl, ap, sym, subst, ◌∙◌, arith, decimal, lit<}
use Rattle.std.specs.Prelude.{option_map, ◌==◌}
use Rattle.std.specs.Option.{option_or}
use Rattle.std.specs.Char.{is_ascii_digit, is_digit}
use Rattle.std.specs.List.{list_all}
use Rattle.std.specs.Str.{all_ascii_digits}
use Rattle.std.proofs.lemmas.Bool.{and_parts, and_from, ne_eqb}
use Rattle.std.proofs.lemmas.List.Folds.{list_all-append}
use Rattle.listing.specs.Word.{parts_at, ◌>>=◌}
use Rattle.location_acl.specs.declared.ip.Ip.{Ip}
use Rattle.location_acl.specs.declared.ip.Ip.TheVariants.{V4, V6}
use Rattle.location_acl.specs.declared.block.Block.{Block}
use Rattle.location_acl.specs.declared.line.PlaceLine.{PlaceLine}
use Rattle.location_acl.specs.Block.{block_of, most_of, IsOfKind, IsBlock}
use Rattle.location_acl.specs.Footprint.{asn_of, country_of, optional, IsNetwork, IsCountry}
use Rattle.location_acl.specs.Line.{IsLine, AreLines, StopsAt, either_block, line_of}
use Rattle.location_acl.specs.Table.{FitsKind, width_of, first_line}
use Rattle.location_acl.proofs.PartLemmas.{is_free, parts_are, parts_from}
use Rattle.location_acl.proofs.WrittenLemmas.{decimal_digits}
use Rattle.location_acl.proofs.BlockLemmas.{IsOther, address_free_of, block_from_text, block_is, parts_is, same_some, none_some}
use Rattle.location_acl.specs.Ip.{IsAddress}
use Rattle.location_acl.proofs.AddressLemmas.{one_address}
use Rattle.location_acl.proofs.FootprintLemmas.{network_from_text, network_is, known_country_from_text, known_country_is}

-- a space and a line feed stand in no block, number or country
pub record IsBlank (c : ℕ) : Type 0 where
  pub other : IsOther c
  pub slash : eqb 47 c ≡ false
  pub dash : eqb 45 c ≡ false
  pub a : eqb 97 c ≡ false
  pub s : eqb 115 c ≡ false
  pub small : c < 48

free_append : (c : ℕ) (xs ys : List ℕ) → is_free c xs ≡ true → is_free c ys ≡ true → is_free c (xs ++ ys) ≡ true
free_append c xs ys one other = list_all-append (λ (x : ℕ). not (x == c)) xs ys ∙ and_from _ _ one other

hex_free : (c : ℕ) → IsOther c → (xs : List ℕ) → list_all (λ byte. is_digit byte 16) xs ≡ true → is_free c xs ≡ true
hex_free c other [] digits = refl
hex_free c other (x ∷ xs) digits =
    let parts = and_parts (is_digit x 16) (list_all (λ byte. is_digit byte 16) xs) digits in
    and_from (not (x == c)) _ (ap not (ne_eqb x c (λ same. let e : true ≡ false = sym parts.0 ∙ ap (λ (k : ℕ). is_digit k 16) same ∙ other.hex in absurd (cc)))) (hex_free c other xs parts.1)

digits_free : (c : ℕ) → IsOther c → (xs : List ℕ) → all_ascii_digits xs ≡ true → is_free c xs ≡ true
digits_free c other [] digits = refl
digits_free c other (x ∷ xs) digits =
    let parts = and_parts (is_ascii_digit x) (all_ascii_digits xs) digits in
    and_from (not (x == c)) _ (ap not (ne_eqb x c (λ same. let e : true ≡ false = sym parts.0 ∙ ap is_ascii_digit same ∙ other.digit in absurd (cc)))) (digits_free c other xs parts.1)

block_free : (c : ℕ) → IsBlank c → (six : Bool) (text : List ℕ) (block : Block) → IsBlock six text block → is_free c text ≡ true
block_free c blank six text block h =
    ap (is_free c) h.0.parts ∙ free_append c h.0.front (47 ∷ h.0.behind) (address_free_of c blank.other h.0.front block.base h.0.address) (and_from (not (eqb 47 c)) _ (ap not blank.slash) (digits_free c blank.other h.0.behind h.0.long.digits))

asn_free : (c : ℕ) → IsBlank c → (text : List ℕ) (asn : Option ℕ) → IsNetwork text asn → is_free c text ≡ true
asn_free c blank text None h = ap (is_free c) h ∙ and_from (not (eqb 45 c)) true (ap not blank.dash) refl
asn_free c blank text (Some n) h =
    ap (is_free c) h.1 ∙ and_from (not (eqb 97 c)) _ (ap not blank.a) (and_from (not (eqb 115 c)) _ (ap not blank.s) (hex_free c blank.other (decimal n) (decimal_digits n (omega (arith, h.0)))))

country_free : (c : ℕ) → IsBlank c → (text : List ℕ) (country : Option (ℕ × ℕ)) → IsCountry text country → is_free c text ≡ true
country_free c blank text None h = ap (is_free c) h ∙ and_from (not (eqb 45 c)) true (ap not blank.dash) refl
country_free c blank text (Some l) h =
    let small = blank.small in
    ap (is_free c) h.0 ∙ and_from (not (l.0 == c)) _ (ap not (ne_eqb l.0 c (λ same. omega (arith, same, h.1.0)))) (and_from (not (l.1 == c)) true (ap not (ne_eqb l.1 c (λ same. omega (arith, same, h.2.0)))) refl)

space : IsBlank 32
space = record { other = record { dot = refl; colon = refl; digit = refl; hex = refl }; slash = refl; dash = refl; a = refl; s = refl; small = lit< tt }

feed : IsBlank 10
feed = record { other = record { dot = refl; colon = refl; digit = refl; hex = refl }; slash = refl; dash = refl; a = refl; s = refl; small = lit< tt }

line_free : (text : List ℕ) (line : PlaceLine) → IsLine text line → is_free 10 text ≡ true
line_free text line h =
    ap (is_free 10) h.parts ∙ free_append 10 h.block (32 ∷ (h.asn ++ 32 ∷ h.country)) (block_free 10 feed h.six h.block line.block h.is_block)
    (free_append 10 h.asn (32 ∷ h.country) (asn_free 10 feed h.asn line.asn h.is_asn) (country_free 10 feed h.country line.country h.is_country))

-- the parts of a line
either_from : (text : List ℕ) (block : Block) → either_block text ≡ Some block → (six : Bool) × IsBlock six text block
either_from text block is = of_kinds (block_of false text) (block_of true text) refl refl is
  where
    of_kinds : (four six : Option Block) → block_of false text ≡ four → block_of true text ≡ six → option_or four six ≡ Some block → (six : Bool) × IsBlock six text block
    of_kinds (Some b) six four_is six_is is = (false, block_from_text false text block (four_is ∙ is))
    of_kinds None six four_is six_is is = (true, block_from_text true text block (six_is ∙ is))

no_four : (text : List ℕ) (block : Block) → IsBlock true text block → block_of false text ≡ None
no_four text block h = of_four (block_of false text) refl
  where
    of_four : (four : Option Block) → block_of false text ≡ four → four ≡ None
    of_four None is = refl
    of_four (Some b) is =
        let k = block_from_text false text b is in
        let pair = same_some (parts_at 47 text) (h.0.front, h.0.behind) (k.0.front, k.0.behind) (parts_is true text block.base block.length h.0).0 (parts_is false text b.base b.length k.0).0 in
        let front : h.0.front ≡ k.0.front = ap (λ (p : List ℕ × List ℕ). p.0) pair in
        let same = one_address k.0.front block.base b.base (subst (λ (xs : List ℕ). IsAddress xs block.base) front h.0.address) k.0.address in
        absurd (kinds block.base b.base same h.0.kind k.0.kind)
      where
        kinds : (one other : Ip) → one ≡ other → IsOfKind true one → IsOfKind false other → ⊥
        kinds (V4 n) other same six four = six
        kinds (V6 n) (V6 m) same six four = four
        kinds (V6 n) (V4 m) same six four = absurd (cc)

either_is : (six : Bool) (text : List ℕ) (block : Block) → IsBlock six text block → either_block text ≡ Some block
either_is false text block h = ap (λ (o : Option Block). option_or o (block_of true text)) (block_is false text block h)
either_is true text block h = ap (λ (o : Option Block). option_or o (block_of true text)) (no_four text block h) ∙ block_is true text block h

bound : {A B : Type 0} (o : Option A) (next : A → Option B) (y : B) → (o >>= next) ≡ Some y → (x : A) × (o ≡ Some x) × (next x ≡ Some y)
bound None next y is = absurd (cc)
bound (Some x) next y is = (x, refl, is)

pub line_from_text : (text : List ℕ) (line : PlaceLine) → line_of text ≡ Some line → IsLine text line
line_from_text text line is =
    let first = bound (parts_at 32 text) _ line is in
    let second = bound (parts_at 32 first.0.1) _ line first.2 in
    let block = bound (either_block first.0.0) _ line second.2 in
    let asn = bound (optional asn_of second.0.0) _ line block.2 in
    let country = bound (optional country_of second.0.1) _ line asn.2 in
    let made : PlaceLine = record { block = block.0; asn = asn.0; country = country.0 } in
    let same : made ≡ line = (let e = country.2 in cc) in
    let kind = either_from first.0.0 block.0 block.1 in
    subst (λ (l : PlaceLine). IsLine text l) same (record {
      block = first.0.0;
      asn = second.0.0;
      country = second.0.1;
      parts = parts_are 32 text first.0.0 first.0.1 first.1 ∙ ap (λ (xs : List ℕ). first.0.0 ++ 32 ∷ xs) (parts_are 32 first.0.1 second.0.0 second.0.1 second.1);
      six = kind.0;
      is_block = kind.1;
      is_asn = network_from_text second.0.0 asn.0 asn.1;
      is_country = known_country_from_text second.0.1 country.0 country.1;
    })

pub line_is : (text : List ℕ) (line : PlaceLine) → IsLine text line → line_of text ≡ Some line
line_is text line h =
    let rest : List ℕ = h.asn ++ 32 ∷ h.country in
    let one = parts_from 32 text h.block rest h.parts (block_free 32 space h.six h.block line.block h.is_block) in
    let two = parts_from 32 rest h.asn h.country refl (asn_free 32 space h.asn line.asn h.is_asn) in
    ap (λ (o : Option (List ℕ × List ℕ)). o >>= λ first. parts_at 32 first.1 >>= λ second. either_block first.0 >>= λ block. optional asn_of second.0 >>= λ asn. optional country_of second.1 >>= λ country. Some (let made : PlaceLine = record { block = block; asn = asn; country = country } in made)) one
    ∙ ap (λ (o : Option (List ℕ × List ℕ)). o >>= λ second. either_block h.block >>= λ block. optional asn_of second.0 >>= λ asn. optional country_of second.1 >>= λ country. Some (let made : PlaceLine = record { block = block; asn = asn; country = country } in made)) two
    ∙ ap (λ (o : Option Block). o >>= λ block. optional asn_of h.asn >>= λ asn. optional country_of h.country >>= λ country. Some (let made : PlaceLine = record { block = block; asn = asn; country = country } in made)) (either_is h.six h.block line.block h.is_block)
    ∙ ap (λ (o : Option (Option ℕ)). o >>= λ asn. optional country_of h.country >>= λ country. Some (let made : PlaceLine = record { block = line.block; asn = asn; country = country } in made)) (network_is h.asn line.asn h.is_asn)
    ∙ ap (λ (o : Option (Option (ℕ × ℕ))). o >>= λ country. Some (let made : PlaceLine = record { block = line.block; asn = line.asn; country = country } in made)) (known_country_is h.country line.country h.is_country)

pub line_fits : (text : List ℕ) (line : PlaceLine) → line_of text ≡ Some line → FitsKind line.block
line_fits text line is =
    let h = line_from_text text line is in of_kind h.six line.block.base line.block.length h.is_block.0.kind h.is_block.1
  where
    of_kind : (six : Bool) (base : Ip) (n : ℕ) → IsOfKind six base → n ≤ most_of six → n ≤ width_of base
    of_kind true (V6 number) n kind most = most
    of_kind false (V4 number) n kind most = most
    of_kind true (V4 number) n kind most = absurd kind
    of_kind false (V6 number) n kind most = absurd kind

-- the first line of a text
pub first_from_text : (bytes : List ℕ) (line : PlaceLine) (after : List ℕ) → first_line bytes ≡ Some (line, after) → (text : List ℕ) × (bytes ≡ text ++ 10 ∷ after) × IsLine text line
first_from_text bytes line after is =
    let parts = bound (parts_at 10 bytes) _ (line, after) is in
    of_line parts.0.0 parts.0.1 parts.1 (line_of parts.0.0) refl parts.2
  where
    of_line : (text rest : List ℕ) → parts_at 10 bytes ≡ Some (text, rest) → (o : Option PlaceLine) → line_of text ≡ o → option_map {U = PlaceLine × List ℕ} (λ (l : PlaceLine). (l, rest)) o ≡ Some (line, after) → (text : List ℕ) × (bytes ≡ text ++ 10 ∷ after) × IsLine text line
    of_line text rest cut None read is = absurd (cc)
    of_line text rest cut (Some found) read is =
        let pair : (found, rest) ≡ (line, after) = cc in
        let same : found ≡ line = ap (λ (p : PlaceLine × List ℕ). p.0) pair in
        let behind : rest ≡ after = ap (λ (p : PlaceLine × List ℕ). p.1) pair in
        (text, parts_are 10 bytes text rest cut ∙ ap (λ (xs : List ℕ). text ++ 10 ∷ xs) behind, subst (λ (l : PlaceLine). IsLine text l) same (line_from_text text found read))

pub no_first : (bytes : List ℕ) → first_line bytes ≡ None → (text after : List ℕ) (line : PlaceLine) → bytes ≡ text ++ 10 ∷ after → IsLine text line → ⊥
no_first bytes none text after line is h =
    let some : first_line bytes ≡ Some (line, after) =
    ap (λ (o : Option (List ℕ × List ℕ)). o >>= λ parts. option_map {U = PlaceLine × List ℕ} (λ (l : PlaceLine). (l, parts.1)) (line_of parts.0)) (parts_from 10 bytes text after is (line_free text line h))
    ∙ ap (λ (o : Option PlaceLine). option_map {U = PlaceLine × List ℕ} (λ (l : PlaceLine). (l, after)) o) (line_is text line h) in
    none_some (first_line bytes) (line, after) none some

pub first_shorter : (bytes text after : List ℕ) → bytes ≡ text ++ 10 ∷ after → length after < length bytes
first_shorter bytes text after is = omega (arith, ap length is, length-append text (10 ∷ after))

-- the lines that were read stand before the rest
abbrev pub ReadSoFar : List ℕ → List ℕ → List PlaceLine → Type 0
ReadSoFar bytes rest lines = (front : List ℕ) × (bytes ≡ front ++ rest) × AreLines front lines

are_push : (front : List ℕ) (lines : List PlaceLine) (text : List ℕ) (line : PlaceLine) → AreLines front lines → IsLine text line → AreLines (front ++ (text ++ 10 ∷ [])) (lines ++ line ∷ [])
are_push front [] text line are is = (text, [], ap (λ (xs : List ℕ). xs ++ (text ++ 10 ∷ [])) are, is, refl)
are_push front (l ∷ lines) text line are is =
    (are.0, are.1 ++ (text ++ 10 ∷ []), ap (λ (xs : List ℕ). xs ++ (text ++ 10 ∷ [])) are.2 ∙ append_assoc are.0 (10 ∷ are.1) (text ++ 10 ∷ []), are.3, are_push are.1 lines text line are.4 is)

pub read_more : (bytes rest : List ℕ) (lines : List PlaceLine) (line : PlaceLine) (after : List ℕ) → ReadSoFar bytes rest lines → first_line rest ≡ Some (line, after) → ReadSoFar bytes after (lines ++ line ∷ [])
read_more bytes rest lines line after read is =
    let first = first_from_text rest line after is in
    (read.0 ++ (first.0 ++ 10 ∷ []), read.1 ∙ ap (λ (xs : List ℕ). read.0 ++ xs) (first.1 ∙ sym (append_assoc first.0 (10 ∷ []) after)) ∙ sym (append_assoc read.0 (first.0 ++ 10 ∷ []) after), are_push read.0 lines first.0 line read.2 first.2)

pub read_all : (bytes rest : List ℕ) (lines : List PlaceLine) → ReadSoFar bytes rest lines → length rest ≡ 0 → AreLines bytes lines
read_all bytes [] lines read none = subst (λ (xs : List ℕ). AreLines xs lines) (sym (read.1 ∙ append-nil read.0)) read.2
read_all bytes (x ∷ rest) lines read none = absurd (omega arith)

pub read_stops : (bytes rest : List ℕ) (lines : List PlaceLine) (number : ℕ) → ReadSoFar bytes rest lines → first_line rest ≡ None → 0 < length rest → number ≡ length lines + 1 → StopsAt bytes number
read_stops bytes rest lines number read none more numbered =
    record { lines = lines; front = read.0; rest = rest; parts = read.1; before = read.2; numbered = numbered; more = more; none = no_first rest none }

pub some_bytes : (n : ℕ) (empty : Bool) → empty ≡ (n == 0) → empty ≡ false → 0 < n
some_bytes zero empty is some = let e : true ≡ false = sym is ∙ some in absurd (cc)
some_bytes (suc n) empty is some = omega arith

-- a text has one list of lines, or one first line that does not read
are_first : (bytes : List ℕ) (line : PlaceLine) (lines : List PlaceLine) → AreLines bytes (line ∷ lines) → (rest : List ℕ) × (first_line bytes ≡ Some (line, rest)) × AreLines rest lines
are_first bytes line lines are = (
  are.1,
  ap (λ (o : Option (List ℕ × List ℕ)). o >>= λ parts. option_map {U = PlaceLine × List ℕ} (λ (l : PlaceLine). (l, parts.1)) (line_of parts.0)) (parts_from 10 bytes are.0 are.1 are.2 (line_free are.0 line are.3))
      ∙ ap (λ (o : Option PlaceLine). option_map {U = PlaceLine × List ℕ} (λ (l : PlaceLine). (l, are.1)) o) (line_is are.0 line are.3),
  are.4,
)

not_empty : (text rest : List ℕ) → [] ≡ text ++ 10 ∷ rest → ⊥
not_empty text rest is = omega (arith, ap length is, length-append text (10 ∷ rest))

pub one_list : (bytes : List ℕ) (lines other : List PlaceLine) → AreLines bytes lines → AreLines bytes other → lines ≡ other
one_list bytes [] [] are is = refl
one_list bytes [] (m ∷ other) are is = absurd (not_empty is.0 is.1 (sym are ∙ is.2))
one_list bytes (l ∷ lines) [] are is = absurd (not_empty are.0 are.1 (sym is ∙ are.2))
one_list bytes (l ∷ lines) (m ∷ other) are is =
    let a = are_first bytes l lines are in
    let b = are_first bytes m other is in
    let pair = same_some (first_line bytes) (l, a.0) (m, b.0) a.1 b.1 in
    let line : l ≡ m = ap (λ (p : PlaceLine × List ℕ). p.0) pair in
    let rest : a.0 ≡ b.0 = ap (λ (p : PlaceLine × List ℕ). p.1) pair in
    ap (λ (x : PlaceLine). x ∷ lines) line ∙ ap (λ (xs : List PlaceLine). m ∷ xs) (one_list b.0 lines other (subst (λ (xs : List ℕ). AreLines xs lines) rest a.2) b.2)

-- the first line of a text whose front are lines
front_first : (bytes front rest : List ℕ) (line : PlaceLine) (lines : List PlaceLine) → bytes ≡ front ++ rest → AreLines front (line ∷ lines) → (more : List ℕ) × (first_line bytes ≡ Some (line, more ++ rest)) × AreLines more lines
front_first bytes front rest line lines is are =
    let whole : bytes ≡ are.0 ++ 10 ∷ (are.1 ++ rest) = is ∙ ap (λ (xs : List ℕ). xs ++ rest) are.2 ∙ append_assoc are.0 (10 ∷ are.1) rest in (
      are.1,
      ap (λ (o : Option (List ℕ × List ℕ)). o >>= λ parts. option_map {U = PlaceLine × List ℕ} (λ (l : PlaceLine). (l, parts.1)) (line_of parts.0)) (parts_from 10 bytes are.0 (are.1 ++ rest) whole (line_free are.0 line are.3))
          ∙ ap (λ (o : Option PlaceLine). option_map {U = PlaceLine × List ℕ} (λ (l : PlaceLine). (l, are.1 ++ rest)) o) (line_is are.0 line are.3),
      are.4,
    )

-- bytes that no line begins
abbrev pub BeginsNoLine : List ℕ → Type 0
BeginsNoLine rest = (0 < length rest) × ((text after : List ℕ) (line : PlaceLine) → rest ≡ text ++ 10 ∷ after → IsLine text line → ⊥)

no_line_behind : (bytes front rest : List ℕ) (lines all : List PlaceLine) → bytes ≡ front ++ rest → AreLines front lines → BeginsNoLine rest → AreLines bytes all → ⊥
no_line_behind bytes front rest [] [] is are none all_are = omega (arith, none.0, ap length (sym all_are ∙ is ∙ ap (λ (xs : List ℕ). xs ++ rest) are))
no_line_behind bytes front rest [] (m ∷ all) is are none all_are =
    none.1 all_are.0 all_are.1 m (sym (ap (λ (xs : List ℕ). xs ++ rest) are) ∙ sym is ∙ all_are.2) all_are.3
no_line_behind bytes front rest (l ∷ lines) [] is are none all_are =
    not_empty are.0 (are.1 ++ rest) (sym all_are ∙ is ∙ ap (λ (xs : List ℕ). xs ++ rest) are.2 ∙ append_assoc are.0 (10 ∷ are.1) rest)
no_line_behind bytes front rest (l ∷ lines) (m ∷ all) is are none all_are =
    let a = front_first bytes front rest l lines is are in
    let b = are_first bytes m all all_are in
    let pair = same_some (first_line bytes) (l, a.0 ++ rest) (m, b.0) a.1 b.1 in
    let more : b.0 ≡ a.0 ++ rest = ap (λ (p : PlaceLine × List ℕ). p.1) (sym pair) in
    no_line_behind b.0 a.0 rest lines all more a.2 none b.2

pub lines_or_stop : (bytes : List ℕ) (lines : List PlaceLine) (number : ℕ) → AreLines bytes lines → StopsAt bytes number → ⊥
lines_or_stop bytes lines number are h = no_line_behind bytes h.front h.rest h.lines lines h.parts h.before (h.more, h.none) are

one_count : (bytes front rest other behind : List ℕ) (lines more : List PlaceLine) → bytes ≡ front ++ rest → AreLines front lines → BeginsNoLine rest → bytes ≡ other ++ behind → AreLines other more → BeginsNoLine behind → length lines ≡ length more
one_count bytes front rest other behind [] [] is are none was there no_more = refl
one_count bytes front rest other behind [] (m ∷ more) is are none was there no_more =
    absurd (none.1 there.0 (there.1 ++ behind) m (sym (ap (λ (xs : List ℕ). xs ++ rest) are) ∙ sym is ∙ was ∙ ap (λ (xs : List ℕ). xs ++ behind) there.2 ∙ append_assoc there.0 (10 ∷ there.1) behind) there.3)
one_count bytes front rest other behind (l ∷ lines) [] is are none was there no_more =
    absurd (no_more.1 are.0 (are.1 ++ rest) l (sym (ap (λ (xs : List ℕ). xs ++ behind) there) ∙ sym was ∙ is ∙ ap (λ (xs : List ℕ). xs ++ rest) are.2 ∙ append_assoc are.0 (10 ∷ are.1) rest) are.3)
one_count bytes front rest other behind (l ∷ lines) (m ∷ more) is are none was there no_more =
    let a = front_first bytes front rest l lines is are in
    let b = front_first bytes other behind m more was there in
    let pair = same_some (first_line bytes) (l, a.0 ++ rest) (m, b.0 ++ behind) a.1 b.1 in
    let same : a.0 ++ rest ≡ b.0 ++ behind = ap (λ (p : PlaceLine × List ℕ). p.1) pair in
    ap suc (one_count (a.0 ++ rest) a.0 rest b.0 behind lines more refl a.2 none same b.2 no_more)

pub one_stop : (bytes : List ℕ) (number other : ℕ) → StopsAt bytes number → StopsAt bytes other → number ≡ other
one_stop bytes number other h k =
    omega (arith, h.numbered, k.numbered, one_count bytes h.front h.rest k.front k.rest h.lines k.lines h.parts h.before (h.more, h.none) k.parts k.before (k.more, k.none))
