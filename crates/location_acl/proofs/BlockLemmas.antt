-- Reading a block against its grammar.
use Rattle.std.proofs.Common.{◌≡◌, ℕ, ◌+◌, ◌-◌, ◌*◌, ◌^◌, ◌<◌, ◌≤◌, leb, ltb, eqb, Bool, true, false, cond, not, List, [], ◌∷◌, length, Option, Some, None, Result, Ok, Err, refl, ap, sym, subst, ◌∙◌, arith, ⊎_elim, lit<}
use Rattle.std.specs.Prelude.{◌&&◌, nat_lt, nat_le, option_map, option_and_then}
use Rattle.std.specs.Char.{is_ascii_digit, is_digit, digit_value}
use Rattle.std.specs.Str.{all_ascii_digits}
use Rattle.std.specs.Str.Parse.{digits_value, digits_value_after}
use Rattle.std.proofs.lemmas.Bool.{and_left, cases_Bool, and_parts, and_from, cond-true, cond-false, lt-ltb, le-ltb, le-leb, leb-true, ltb-true, ne_eqb}
use Rattle.listing.specs.Word.{parts_at}
use Rattle.listing.specs.Number.{number_after, number_of_digits}
use Rattle.location_acl.specs.declared.dotted.Dotted.{Dotted}
use Rattle.location_acl.specs.declared.dotted.Dotted.TheVariants.{First, Second, Third, Fourth}
use Rattle.location_acl.specs.declared.groups.Groups.{Groups}
use Rattle.location_acl.specs.declared.six.Digits.{Digits}
use Rattle.location_acl.specs.declared.six.Six.{Six}
use Rattle.location_acl.specs.declared.six.Six.TheVariants.{Start, Colon, Joined, Gap, Group, Tail}
use Rattle.location_acl.specs.declared.ip.Ip.{Ip}
use Rattle.location_acl.specs.declared.ip.Ip.TheVariants.{V4, V6}
use Rattle.location_acl.specs.declared.block.Block.{Block}
use Rattle.location_acl.specs.declared.block.BlockFault.{BlockFault}
use Rattle.location_acl.specs.declared.block.BlockFault.TheVariants.{BadAddress, BadLength}
use Rattle.location_acl.specs.Groups.{has_room, no_groups}
use Rattle.location_acl.specs.Dotted.{number_with, dotted_step, dotted_run, dotted_of}
use Rattle.location_acl.specs.Six.{begun, with_digit, six_step, six_run, six_of}
use Rattle.location_acl.specs.Ip.{IsAddress}
use Rattle.location_acl.specs.Block.{base_of, length_of, most_of, block_from, block_of, IsOfKind, IsLength, AreParts, IsBlock, ReadsBlock}
use Rattle.location_acl.proofs.PartLemmas.{is_free, parts_are, parts_from}
use Rattle.location_acl.proofs.DottedLemmas.{dotted_from, dotted_is}
use Rattle.location_acl.proofs.SixLemmas.{six_from}
use Rattle.location_acl.proofs.WrittenLemmas.{six_is}

-- the reading of an address of this kind
pub base_from : (six : Bool) (text : List ℕ) (base : Ip) → base_of six text ≡ Some base → IsAddress text base × IsOfKind six base
base_from true text base is = of_six (six_of text) refl is
  where
    of_six : (o : Option ℕ) → six_of text ≡ o → option_map V6 o ≡ Some base → IsAddress text base × IsOfKind true base
    of_six None six is = absurd (cc)
    of_six (Some n) six is = let same : V6 n ≡ base = cc in subst (λ (i : Ip). IsAddress text i × IsOfKind true i) same (six_from text n six, tt)
base_from false text base is = of_dotted (dotted_of text) refl is
  where
    of_dotted : (o : Option ℕ) → dotted_of text ≡ o → option_map V4 o ≡ Some base → IsAddress text base × IsOfKind false base
    of_dotted None dotted is = absurd (cc)
    of_dotted (Some n) dotted is = let same : V4 n ≡ base = cc in subst (λ (i : Ip). IsAddress text i × IsOfKind false i) same (dotted_from text n dotted, tt)

pub base_is : (six : Bool) (text : List ℕ) (base : Ip) → IsAddress text base → IsOfKind six base → base_of six text ≡ Some base
base_is true text (V6 n) h kind = ap (λ (o : Option ℕ). option_map V6 o) (six_is text n h)
base_is true text (V4 n) h kind = absurd kind
base_is false text (V4 n) h kind = ap (λ (o : Option ℕ). option_map V4 o) (dotted_is text n h)
base_is false text (V6 n) h kind = absurd kind

-- an address has no `/`
some_next : {A B : Type 0} (f : A → Option B) (o : Option A) (y : B) → option_and_then f o ≡ Some y → (x : A) × (o ≡ Some x) × (f x ≡ Some y)
some_next f None y is = absurd (cc)
some_next f (Some x) y is = (x, refl, is)

-- a byte that stands in no address
pub record IsOther (c : ℕ) : Type 0 where
  pub dot : eqb c 46 ≡ false
  pub colon : eqb c 58 ≡ false
  pub digit : is_ascii_digit c ≡ false
  pub hex : is_digit c 16 ≡ false

number_none : (c : ℕ) → IsOther c → (number : Option ℕ) → number_with number c ≡ None
number_none c other None = cond-false _ _ _ other.digit
number_none c other (Some n) = cond-false _ _ _ (and_left _ _ other.digit)

dotted_none : (c : ℕ) → IsOther c → (front : Dotted) → dotted_step front c ≡ None
dotted_none c other (First number) = cond-false _ _ _ other.dot ∙ ap (λ (o : Option ℕ). option_map (λ n. First (Some n)) o) (number_none c other number)
dotted_none c other (Second a number) = cond-false _ _ _ other.dot ∙ ap (λ (o : Option ℕ). option_map (λ n. Second a (Some n)) o) (number_none c other number)
dotted_none c other (Third a b number) = cond-false _ _ _ other.dot ∙ ap (λ (o : Option ℕ). option_map (λ n. Third a b (Some n)) o) (number_none c other number)
dotted_none c other (Fourth a b d number) = ap (λ (o : Option ℕ). option_map (λ n. Fourth a b d (Some n)) o) (number_none c other number)

begun_none : (c : ℕ) → IsOther c → (g : Groups) → begun g c ≡ None
begun_none c other g =
    ⊎_elim (λ t. cond-true _ _ _ t ∙ ap (λ (o : Option ℕ). option_map (Group g) (option_map (λ (digit : ℕ). let made : Digits = record { count = 1; group = digit; number = number_with None c } in made) o)) (cond-false _ _ _ other.hex))
    (λ f. cond-false _ _ _ f) (cases_Bool (has_room 1 g))

digit_none : (c : ℕ) → IsOther c → (d : Digits) → with_digit d c ≡ None
digit_none c other d =
    ⊎_elim (λ t. cond-true _ _ _ t)
    (λ f. cond-false _ _ _ f ∙ ap (λ (o : Option ℕ). option_map (λ (digit : ℕ). let made : Digits = record { count = d.count + 1; group = d.group * 16 + digit; number = option_and_then (λ n. number_with (Some n) c) d.number } in made) o) (cond-false _ _ _ other.hex))
    (cases_Bool (leb 4 d.count))

six_none : (c : ℕ) → IsOther c → (front : Six) → six_step front c ≡ None
six_none c other Start = cond-false _ _ _ other.colon ∙ begun_none c other no_groups
six_none c other Colon = cond-false _ _ _ other.colon
six_none c other (Joined g) = cond-false _ _ _ (and_left _ _ other.colon) ∙ begun_none c other g
six_none c other (Gap g) = begun_none c other g
six_none c other (Group g d) = cond-false _ _ _ other.colon ∙ cond-false _ _ _ other.dot ∙ ap (λ (o : Option Digits). option_map (Group g) o) (digit_none c other d)
six_none c other (Tail g d) = ap (λ (o : Option Dotted). option_map (Tail g) o) (dotted_none c other d)

other_byte : {A : Type 0} (step : ℕ → Option A) (c b : ℕ) (next : A) → step c ≡ None → step b ≡ Some next → not (eqb b c) ≡ true
other_byte step c b next none is =
    ap not (ne_eqb b c (λ same. let e : None ≡ Some next = sym none ∙ ap step (sym same) ∙ is in absurd (cc)))

free_four : (c : ℕ) → IsOther c → (front : Dotted) (text : List ℕ) (value : ℕ) → dotted_run front text ≡ Some value → is_free c text ≡ true
free_four c other front [] value is = refl
free_four c other front (b ∷ bs) value is =
    let h = some_next (λ next. dotted_run next bs) (dotted_step front b) value is in
    and_from _ _ (other_byte (dotted_step front) c b h.0 (dotted_none c other front) h.1) (free_four c other h.0 bs value h.2)

free_six : (c : ℕ) → IsOther c → (front : Six) (text : List ℕ) (value : ℕ) → six_run front text ≡ Some value → is_free c text ≡ true
free_six c other front [] value is = refl
free_six c other front (b ∷ bs) value is =
    let h = some_next (λ next. six_run next bs) (six_step front b) value is in
    and_from _ _ (other_byte (six_step front) c b h.0 (six_none c other front) h.1) (free_six c other h.0 bs value h.2)

pub address_free_of : (c : ℕ) → IsOther c → (text : List ℕ) (ip : Ip) → IsAddress text ip → is_free c text ≡ true
address_free_of c other text (V4 n) h = free_four c other (First None) text n (dotted_is text n h)
address_free_of c other text (V6 n) h = free_six c other Start text n (six_is text n h)

pub address_is_free : (text : List ℕ) (ip : Ip) → IsAddress text ip → is_free 47 text ≡ true
address_is_free text ip h = address_free_of 47 (record { dot = refl; colon = refl; digit = refl; hex = refl }) text ip h

-- the reading of a length
guarded : {A : Type 0} (t : Bool) (o : Option A) (y : A) → cond t o None ≡ Some y → (t ≡ true) × (o ≡ Some y)
guarded true o y is = (refl, is)
guarded false o y is = absurd (cc)

pub digit_value_is : (b : ℕ) → is_ascii_digit b ≡ true → (digit_value b ≡ b - 48) × (48 ≤ b) × (b ≤ 57)
digit_value_is b h =
    let parts = and_parts (leb 48 b) (leb b 57) h in
    let low = leb-true 48 b parts.0 in
    let high = leb-true b 57 parts.1 in
    (cond-false (ltb b 48) _ _ (le-ltb b 48 low) ∙ cond-true (ltb b 58) _ _ (lt-ltb b 58 (omega arith)), low, high)

number_from : (n : ℕ) (bs : List ℕ) (m : ℕ) → number_after n bs ≡ Some m → (all_ascii_digits bs ≡ true) × (m ≡ digits_value_after 10 n bs)
number_from n [] m is = (refl, (let e : n ≡ m = cc in sym e))
number_from n (b ∷ bs) m is =
    let g = guarded (is_ascii_digit b && nat_lt (n * 10 + (b - 48)) (2 ^ 64)) (number_after (n * 10 + (b - 48)) bs) m is in
    let p = and_parts (is_ascii_digit b) _ g.0 in
    let r = number_from (n * 10 + (b - 48)) bs m g.1 in
    (and_from (is_ascii_digit b) _ p.0 r.0, r.1 ∙ ap (λ (k : ℕ). digits_value_after 10 (n * 10 + k) bs) (sym (digit_value_is b p.0).0))

number_step : (n b : ℕ) (bs : List ℕ) → is_ascii_digit b ≡ true → n < 10 ^ 9 → (number_after n (b ∷ bs) ≡ number_after (n * 10 + digit_value b) bs) × (n * 10 + digit_value b < (n + 1) * 10)
number_step n b bs digit small =
    let v = digit_value_is b digit in
    let fits : ltb (n * 10 + (b - 48)) (2 ^ 64) ≡ true = lt-ltb _ _ (omega arith) in
    (cond-true _ _ _ (and_from (is_ascii_digit b) _ digit fits) ∙ ap (λ (k : ℕ). number_after (n * 10 + k) bs) (sym v.0), omega (arith, v.0))

number_is : (bs : List ℕ) → length bs ≤ 3 → all_ascii_digits bs ≡ true → number_of_digits bs ≡ Some (digits_value 10 bs)
number_is [] few digits = refl
number_is (a ∷ []) few digits = (number_step 0 a [] (and_parts (is_ascii_digit a) true digits).0 (lit< tt)).0
number_is (a ∷ b ∷ []) few digits =
    let p = and_parts (is_ascii_digit a) (all_ascii_digits (b ∷ [])) digits in
    let q = and_parts (is_ascii_digit b) true p.1 in
    let one = number_step 0 a (b ∷ []) p.0 (lit< tt) in
    one.0 ∙ (number_step (0 * 10 + digit_value a) b [] q.0 (omega (arith, one.1))).0
number_is (a ∷ b ∷ c ∷ []) few digits =
    let p = and_parts (is_ascii_digit a) (all_ascii_digits (b ∷ c ∷ [])) digits in
    let q = and_parts (is_ascii_digit b) (all_ascii_digits (c ∷ [])) p.1 in
    let r = and_parts (is_ascii_digit c) true q.1 in
    let one = number_step 0 a (b ∷ c ∷ []) p.0 (lit< tt) in
    let two = number_step (0 * 10 + digit_value a) b (c ∷ []) q.0 (omega (arith, one.1)) in
    one.0 ∙ two.0 ∙ (number_step ((0 * 10 + digit_value a) * 10 + digit_value b) c [] r.0 (omega (arith, one.1, two.1))).0
number_is (a ∷ b ∷ c ∷ d ∷ bs) few digits = absurd (omega arith)

pub length_from : (text : List ℕ) (n : ℕ) → length_of text ≡ Some n → IsLength text n
length_from text n is =
    let g = guarded (nat_lt 0 (length text) && nat_le (length text) 3) (number_of_digits text) n is in
    let p = and_parts (nat_lt 0 (length text)) _ g.0 in
    let r = number_from 0 text n g.1 in
    record { some = omega (arith, ltb-true _ _ p.0); few = leb-true _ _ p.1; digits = r.0; valued = r.1 }

pub length_is : (text : List ℕ) (n : ℕ) → IsLength text n → length_of text ≡ Some n
length_is text n h =
    cond-true _ _ _ (and_from (ltb 0 (length text)) _ (lt-ltb 0 (length text) h.some) (le-leb (length text) 3 h.few)) ∙ number_is text h.few h.digits ∙ ap Some (sym h.valued)

-- what the two parts of a block are read as
pub parts_is : (six : Bool) (text : List ℕ) (base : Ip) (n : ℕ) → (h : AreParts six text base n) → (parts_at 47 text ≡ Some (h.front, h.behind)) × (base_of six h.front ≡ Some base) × (length_of h.behind ≡ Some n)
parts_is six text base n h =
    (parts_from 47 text h.front h.behind h.parts (address_is_free h.front base h.address), base_is six h.front base h.address h.kind, length_is h.behind n h.long)

pub parts_have : (six : Bool) (text front behind : List ℕ) (base : Ip) (n : ℕ) → parts_at 47 text ≡ Some (front, behind) → base_of six front ≡ Some base → length_of behind ≡ Some n → AreParts six text base n
parts_have six text front behind base n cut read long =
    let b = base_from six front base read in
    record { front = front; behind = behind; parts = parts_are 47 text front behind cut; address = b.0; kind = b.1; long = length_from behind n long }

pub none_some : {A : Type 0} (o : Option A) (x : A) → o ≡ None → o ≡ Some x → ⊥
none_some None x none some = absurd (cc)
none_some (Some y) x none some = absurd (cc)

pub same_some : {A : Type 0} (o : Option A) (x y : A) → o ≡ Some x → o ≡ Some y → x ≡ y
same_some None x y one other = absurd (cc)
same_some (Some z) x y one other = cc

abbrev pub made : Block → Result Block BlockFault
made block = Ok block

abbrev pub refused : BlockFault → Result Block BlockFault
refused fault = Err fault

-- the reading of a block
pub block_from_text : (six : Bool) (text : List ℕ) (block : Block) → block_of six text ≡ Some block → IsBlock six text block
block_from_text six text block is =
    let h = some_next (λ (parts : List ℕ × List ℕ). block_from six (base_of six parts.0) (length_of parts.1)) (parts_at 47 text) block is in
    of_parts h.0.0 h.0.1 h.1 (base_of six h.0.0) (length_of h.0.1) refl refl h.2
  where
    of_parts : (front behind : List ℕ) → parts_at 47 text ≡ Some (front, behind) → (base : Option Ip) (length : Option ℕ) → base_of six front ≡ base → length_of behind ≡ length → block_from six base length ≡ Some block → IsBlock six text block
    of_parts front behind cut None n read long is = absurd (cc)
    of_parts front behind cut (Some base) None read long is = absurd (cc)
    of_parts front behind cut (Some base) (Some n) read long is =
        let g = guarded (nat_le n (most_of six)) _ block is in
        let made : Block = record { base = base; length = n } in
        let same : made ≡ block = (let e = g.1 in cc) in
        subst (λ (b : Block). IsBlock six text b) same (parts_have six text front behind base n cut read long, leb-true _ _ g.0)

pub block_is : (six : Bool) (text : List ℕ) (block : Block) → IsBlock six text block → block_of six text ≡ Some block
block_is six text block h =
    let p = parts_is six text block.base block.length h.0 in
    ap (λ (o : Option (List ℕ × List ℕ)). option_and_then (λ (parts : List ℕ × List ℕ). block_from six (base_of six parts.0) (length_of parts.1)) o) p.0
    ∙ ap (λ (o : Option Ip). block_from six o (length_of h.0.behind)) p.1
    ∙ ap (λ (o : Option ℕ). block_from six (Some block.base) o) p.2
    ∙ cond-true _ _ _ (le-leb _ _ h.1)

-- the text has no such parts
abbrev pub HasNoParts : Bool → List ℕ → Type 0
HasNoParts six text = (base : Ip) (n : ℕ) → AreParts six text base n → ⊥

pub no_cut : (six : Bool) (text : List ℕ) → parts_at 47 text ≡ None → HasNoParts six text
no_cut six text none base n h = none_some (parts_at 47 text) (h.front, h.behind) none (parts_is six text base n h).0

pub no_base : (six : Bool) (text front behind : List ℕ) → parts_at 47 text ≡ Some (front, behind) → base_of six front ≡ None → HasNoParts six text
no_base six text front behind cut none base n h =
    let p = parts_is six text base n h in
    let pair = same_some (parts_at 47 text) (front, behind) (h.front, h.behind) cut p.0 in
    none_some (base_of six front) base none (ap (λ (x : List ℕ × List ℕ). base_of six x.0) pair ∙ p.1)

pub no_length : (six : Bool) (text front behind : List ℕ) → parts_at 47 text ≡ Some (front, behind) → length_of behind ≡ None → HasNoParts six text
no_length six text front behind cut none base n h =
    let p = parts_is six text base n h in
    let pair = same_some (parts_at 47 text) (front, behind) (h.front, h.behind) cut p.0 in
    none_some (length_of behind) n none (ap (λ (x : List ℕ × List ℕ). length_of x.1) pair ∙ p.2)

-- a text has one reading
some_parts : (six : Bool) (text : List ℕ) (one other : Ip) (m n : ℕ) → AreParts six text one m → AreParts six text other n → (one ≡ other) × (m ≡ n)
some_parts six text one other m n h k =
    let p = parts_is six text one m h in
    let q = parts_is six text other n k in
    let pair = same_some (parts_at 47 text) (h.front, h.behind) (k.front, k.behind) p.0 q.0 in (
      same_some (base_of six k.front) one other (ap (λ (x : List ℕ × List ℕ). base_of six x.0) (sym pair) ∙ p.1) q.1,
      same_some (length_of k.behind) m n (ap (λ (x : List ℕ × List ℕ). length_of x.1) (sym pair) ∙ p.2) q.2,
    )

pub one_reading : (six : Bool) (text : List ℕ) (read other : Result Block BlockFault) → ReadsBlock six text read → ReadsBlock six text other → read ≡ other
one_reading six text (Ok block) (Ok found) h k =
    let same : Some block ≡ Some found = sym (block_is six text block h) ∙ block_is six text found k in
    let e : block ≡ found = cc in
    ap (λ (b : Block). made b) e
one_reading six text (Ok block) (Err (BadLength n)) h k = let e = some_parts six text block.base k.0 block.length n h.0 k.1 in absurd (omega (arith, h.1, k.2, e.1))
one_reading six text (Ok block) (Err (BadAddress at)) h k = absurd (k.0 block.base block.length h.0)
one_reading six text (Err (BadLength n)) (Ok block) h k = let e = some_parts six text block.base h.0 block.length n k.0 h.1 in absurd (omega (arith, k.1, h.2, e.1))
one_reading six text (Err (BadLength n)) (Err (BadLength m)) h k = let e = some_parts six text h.0 k.0 n m h.1 k.1 in ap (λ (i : ℕ). refused (BadLength i)) e.1
one_reading six text (Err (BadLength n)) (Err (BadAddress at)) h k = absurd (k.0 h.0 n h.1)
one_reading six text (Err (BadAddress at)) (Ok block) h k = absurd (h.0 block.base block.length k.0)
one_reading six text (Err (BadAddress at)) (Err (BadLength n)) h k = absurd (h.0 k.0 n k.1)
one_reading six text (Err (BadAddress at)) (Err (BadAddress place)) h k =
    let one = h.1.longest place k.1.begins.0 k.1.within k.1.begins.1 in
    let other = k.1.longest at h.1.begins.0 h.1.within h.1.begins.1 in
    let same : at ≡ place = omega arith in
    ap (λ (i : ℕ). refused (BadAddress i)) same
