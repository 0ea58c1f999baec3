-- The index of a table against its lines.
use Rattle.std.proofs.Common.{◌≡◌, ℕ, ◌+◌, ◌-◌, ◌/◌, ◌^◌, ◌<◌, ◌≤◌, zero, suc, eqb, Bool, true, false, cond, List, [], ◌∷◌, ◌++◌, length, set, Option, Some, None, refl, ap, sym, subst, ◌∙◌, arith, ⊎_elim, inl, inr, ◌⊎◌, slice_get, is_some, length-set, lit≤, ltb, ◌↔◌}
use Rattle.std.specs.Prelude.{◌&&◌, ◌==◌}
use Rattle.std.specs.Bool.{beq}
use Rattle.std.specs.Option.{option_or}
use Rattle.std.specs.Cmp.{booleans_Decides}
use Rattle.std.proofs.Math.Nat.{div-eq_of_lt}
use Rattle.std.proofs.lemmas.Option.{slice_get_within}
use Rattle.location_acl.specs.declared.footprint.Place.{Place}
use Rattle.std.proofs.lemmas.Bool.{cases_Bool, cases_lt, and_parts, and_from, cond-true, cond-false, eqb-true, eq-eqb, ltb-true, lt-ltb}
use Rattle.location_acl.specs.declared.ip.Ip.{Ip}
use Rattle.location_acl.specs.declared.ip.Ip.TheVariants.{V4, V6}
use Rattle.location_acl.specs.declared.block.Block.{Block}
use Rattle.location_acl.specs.declared.line.PlaceLine.{PlaceLine}
use Rattle.location_acl.specs.Block.{holds, is_in_same_block, has_same_front}
use Rattle.location_acl.specs.Table.{key_of, same_key, FitsKind, width_of, first_with_key, IsIndexed, IsLongest, GivesPlace, longer_of}

abbrev pub Key : Type 0
Key = Bool × ℕ × ℕ

abbrev pub key_of_line : PlaceLine → Key
key_of_line line = key_of line.block.base line.block.length

same_from : (a b : Key) → same_key a b ≡ true → a ≡ b
same_from a b same =
    let p = and_parts (beq a.0 b.0 && a.1 == b.1) (a.2 == b.2) same in
    let q = and_parts (beq a.0 b.0) (a.1 == b.1) p.0 in
    ap (λ (x : Bool). let k : Key = (x, a.1, a.2) in k) ((booleans_Decides a.0 b.0).0 q.0)
    ∙ ap (λ (x : ℕ). let k : Key = (b.0, x, a.2) in k) (eqb-true a.1 b.1 q.1)
    ∙ ap (λ (x : ℕ). let k : Key = (b.0, b.1, x) in k) (eqb-true a.2 b.2 p.1)

same_is : (a b : Key) → a ≡ b → same_key a b ≡ true
same_is a b is = subst (λ (x : Key). same_key a x ≡ true) is (and_from _ _ (and_from _ _ ((booleans_Decides a.0 a.0).1 refl) (eq-eqb a.1 a.1 refl)) (eq-eqb a.2 a.2 refl))

-- a block holds the addresses whose key it has
pub holds_key : (block : Block) (ip : Ip) → holds block ip ≡ true → key_of block.base block.length ≡ key_of ip block.length
holds_key block ip h = of_kinds block.base block.length ip h
  where
    of_kinds : (base : Ip) (n : ℕ) (ip : Ip) → is_in_same_block n base ip ≡ true → key_of base n ≡ key_of ip n
    of_kinds (V4 base) n (V4 number) h = ap (λ (x : ℕ). let k : Key = (false, n, x) in k) (eqb-true _ _ h)
    of_kinds (V6 base) n (V6 number) h = ap (λ (x : ℕ). let k : Key = (true, n, x) in k) (eqb-true _ _ h)
    of_kinds (V4 base) n (V6 number) h = absurd (cc)
    of_kinds (V6 base) n (V4 number) h = absurd (cc)

pub key_holds : (block : Block) (ip : Ip) (n : ℕ) → key_of block.base block.length ≡ key_of ip n → (holds block ip ≡ true) × (block.length ≡ n)
key_holds block ip n same = of_kinds block.base block.length ip n same
  where
    of_kinds : (base : Ip) (m : ℕ) (ip : Ip) (n : ℕ) → key_of base m ≡ key_of ip n → (is_in_same_block m base ip ≡ true) × (m ≡ n)
    of_kinds (V4 base) m (V4 number) n same =
        let len : m ≡ n = ap (λ (k : Key). k.1) same in
        (eq-eqb _ _ (ap (λ (k : Key). k.2) same ∙ ap (λ (k : ℕ). number / 2 ^ (32 - k)) (sym len)), len)
    of_kinds (V6 base) m (V6 number) n same =
        let len : m ≡ n = ap (λ (k : Key). k.1) same in
        (eq-eqb _ _ (ap (λ (k : Key). k.2) same ∙ ap (λ (k : ℕ). number / 2 ^ (128 - k)) (sym len)), len)
    of_kinds (V4 base) m (V6 number) n same = let e : false ≡ true = ap (λ (k : Key). k.0) same in absurd (cc)
    of_kinds (V6 base) m (V4 number) n same = let e : true ≡ false = ap (λ (k : Key). k.0) same in absurd (cc)

-- one more line
first_push : (i : ℕ) (lines : List PlaceLine) (line : PlaceLine) (key : Key) → first_with_key i (lines ++ line ∷ []) key ≡ option_or (first_with_key i lines key) (cond (same_key (key_of_line line) key) (Some (i + length lines)) None)
first_push i [] line key = ap (λ (k : ℕ). cond (same_key (key_of_line line) key) (Some k) None) (let e : i ≡ i + 0 = omega arith in e)
first_push i (x ∷ lines) line key =
    ⊎_elim (λ t. cond-true _ _ _ t ∙ sym (ap (λ (o : Option ℕ). option_or o (cond (same_key (key_of_line line) key) (Some (i + suc (length lines))) None)) (cond-true (same_key (key_of_line x) key) (Some i) _ t)))
    (λ f. cond-false _ _ _ f ∙ first_push (i + 1) lines line key ∙ ap (λ (k : ℕ). option_or (first_with_key (i + 1) lines key) (cond (same_key (key_of_line line) key) (Some k) None)) (let e : i + 1 + length lines ≡ i + suc (length lines) = omega arith in e)
    ∙ sym (ap (λ (o : Option ℕ). option_or o (cond (same_key (key_of_line line) key) (Some (i + suc (length lines))) None)) (cond-false (same_key (key_of_line x) key) (Some i) _ f)))
    (cases_Bool (same_key (key_of_line x) key))

or_none : (o : Option ℕ) → option_or o None ≡ o
or_none None = refl
or_none (Some x) = refl

or_some : (o other : Option ℕ) → is_some o ≡ true → option_or o other ≡ o
or_some None other some = absurd (cc)
or_some (Some x) other some = refl

pub found_inserted : (found more : Key → Option ℕ) (key : Key) (n : ℕ) → is_some (found key) ≡ false → ((q : Key) → more q ≡ cond (same_key key q) (Some n) (found q)) → (q : Key) → more q ≡ option_or (found q) (cond (same_key key q) (Some n) None)
found_inserted found more key n none is q =
    ⊎_elim (λ t. is q ∙ cond-true _ _ _ t ∙ sym (ap (λ (o : Option ℕ). option_or o (cond (same_key key q) (Some n) None)) (sym (ap found (same_from key q t)) ∙ no_value (found key) none) ∙ cond-true (same_key key q) (Some n) None t))
    (λ f. is q ∙ cond-false _ _ _ f ∙ sym (or_none (found q)) ∙ sym (ap (option_or (found q)) (cond-false (same_key key q) (Some n) None f))) (cases_Bool (same_key key q))
  where
    no_value : (o : Option ℕ) → is_some o ≡ false → o ≡ None
    no_value None none = refl
    no_value (Some x) none = absurd (cc)

pub found_present : (found : Key → Option ℕ) (key : Key) (n : ℕ) → is_some (found key) ≡ true → (q : Key) → found q ≡ option_or (found q) (cond (same_key key q) (Some n) None)
found_present found key n some q =
    ⊎_elim (λ t. sym (or_some (found q) _ (ap (λ (k : Key). is_some (found k)) (sym (same_from key q t)) ∙ some)))
    (λ f. sym (or_none (found q)) ∙ sym (ap (option_or (found q)) (cond-false (same_key key q) (Some n) None f))) (cases_Bool (same_key key q))

get_push : (lines : List PlaceLine) (line other : PlaceLine) (i : ℕ) → slice_get (lines ++ line ∷ []) i ≡ Some other → (slice_get lines i ≡ Some other) ⊎ (line ≡ other)
get_push [] line other zero is = inr (cc)
get_push [] line other (suc i) is = absurd (cc)
get_push (x ∷ lines) line other zero is = inl is
get_push (x ∷ lines) line other (suc i) is = get_push lines line other i is

get_set : (xs : List Bool) (i j : ℕ) → slice_get xs j ≡ Some true → slice_get (set xs i true) j ≡ Some true
get_set [] i j is = is
get_set (x ∷ xs) zero zero is = refl
get_set (x ∷ xs) zero (suc j) is = is
get_set (x ∷ xs) (suc i) zero is = is
get_set (x ∷ xs) (suc i) (suc j) is = get_set xs i j is

set_get : (xs : List Bool) (i : ℕ) → i < length xs → slice_get (set xs i true) i ≡ Some true
set_get [] i within = absurd (omega arith)
set_get (x ∷ xs) zero within = refl
set_get (x ∷ xs) (suc i) within = set_get xs i (omega arith)

fits_below : (base : Ip) (n : ℕ) → n ≤ width_of base → n < 129
fits_below (V4 number) n fits = omega arith
fits_below (V6 number) n fits = omega arith

pub indexed_more : (lines more : List PlaceLine) (found next : Key → Option ℕ) (lengths : List Bool) (line : PlaceLine) (key : Key) → IsIndexed lines found lengths → FitsKind line.block → key ≡ key_of_line line → more ≡ lines ++ line ∷ [] → ((q : Key) → next q ≡ option_or (found q) (cond (same_key key q) (Some (length lines)) None)) → IsIndexed more next (set lengths line.block.length true)
indexed_more lines more found next lengths line key old fits key_is more_is next_is =
    let within : line.block.length < length lengths = omega (arith, old.wide, fits_below line.block.base line.block.length fits) in
    subst (λ (xs : List PlaceLine). IsIndexed xs next (set lengths line.block.length true)) (sym more_is) (record {
      firsts = λ q. next_is q ∙ ap (λ (o : Option ℕ). option_or o (cond (same_key key q) (Some (length lines)) None)) (old.firsts q)
          ∙ ap (λ (k : Key). option_or (first_with_key 0 lines q) (cond (same_key k q) (Some (length lines)) None)) key_is
          ∙ ap (λ (k : ℕ). option_or (first_with_key 0 lines q) (cond (same_key (key_of_line line) q) (Some k) None)) (let e : length lines ≡ 0 + length lines = omega arith in e)
          ∙ sym (first_push 0 lines line q);
      present = λ i other at. ⊎_elim (λ before. get_set lengths line.block.length other.block.length (old.present i other before))
          (λ new. subst (λ (l : PlaceLine). slice_get (set lengths line.block.length true) l.block.length ≡ Some true) new (set_get lengths line.block.length within)) (get_push lines line other i at);
      wide = length-set lengths line.block.length true ∙ old.wide;
      fits = λ i other at. ⊎_elim (λ before. old.fits i other before) (λ new. subst (λ (l : PlaceLine). FitsKind l.block) new fits) (get_push lines line other i at);
    })

-- the first line with a key
pub first_is : (i : ℕ) (lines : List PlaceLine) (key : Key) (k : ℕ) → first_with_key i lines key ≡ Some k → (j : ℕ) × (line : PlaceLine) × (k ≡ i + j) × (slice_get lines j ≡ Some line) × (key_of_line line ≡ key) × ((m : ℕ) (other : PlaceLine) → m < j → slice_get lines m ≡ Some other → key_of_line other ≡ key → ⊥)
first_is i [] key k is = absurd (cc)
first_is i (x ∷ lines) key k is =
    ⊎_elim (λ t. let same : i ≡ k = (let e : Some i ≡ Some k = sym (cond-true _ _ _ t) ∙ is in cc) in
    (0, x, omega arith, refl, same_from _ _ t, λ m other less at same. absurd (omega arith)))
    (λ f. let deep = first_is (i + 1) lines key k (sym (cond-false _ _ _ f) ∙ is) in
    (suc deep.0, deep.1, omega (arith, deep.2), deep.3, deep.4, earlier f deep.0 deep.5))
    (cases_Bool (same_key (key_of_line x) key))
  where
    earlier : same_key (key_of_line x) key ≡ false → (j : ℕ) → ((m : ℕ) (other : PlaceLine) → m < j → slice_get lines m ≡ Some other → key_of_line other ≡ key → ⊥) → (m : ℕ) (other : PlaceLine) → m < suc j → slice_get (x ∷ lines) m ≡ Some other → key_of_line other ≡ key → ⊥
    earlier f j deep zero other less at same =
        let first : x ≡ other = cc in
        let e : true ≡ false = sym (same_is (key_of_line x) key (ap key_of_line first ∙ same)) ∙ f in
        absurd (cc)
    earlier f j deep (suc m) other less at same = deep m other (omega arith) at same

-- a line with the key is found
pub some_first : (i : ℕ) (lines : List PlaceLine) (key : Key) (j : ℕ) (line : PlaceLine) → slice_get lines j ≡ Some line → key_of_line line ≡ key → is_some (first_with_key i lines key) ≡ true
some_first i [] key j line at same = absurd (cc)
some_first i (x ∷ lines) key zero line at same =
    let first : x ≡ line = cc in
    ap (λ (o : Option ℕ). is_some o) (cond-true (same_key (key_of_line x) key) (Some i) _ (same_is (key_of_line x) key (ap key_of_line first ∙ same)))
some_first i (x ∷ lines) key (suc j) line at same =
    ⊎_elim (λ t. ap (λ (o : Option ℕ). is_some o) (cond-true (same_key (key_of_line x) key) (Some i) _ t))
    (λ f. ap (λ (o : Option ℕ). is_some o) (cond-false (same_key (key_of_line x) key) (Some i) _ f) ∙ some_first (i + 1) lines key j line at same)
    (cases_Bool (same_key (key_of_line x) key))

-- no line that holds the address has so long a block
abbrev pub AllShorter : List PlaceLine → Ip → ℕ → Type 0
AllShorter lines ip n = (j : ℕ) (other : PlaceLine) → slice_get lines j ≡ Some other → holds other.block ip ≡ true → other.block.length < n

-- the line that is found is the longest
pub found_longest : (lines : List PlaceLine) (found : Key → Option ℕ) (lengths : List Bool) (ip : Ip) (n i : ℕ) (line : PlaceLine) → IsIndexed lines found lengths → AllShorter lines ip (n + 1) → found (key_of ip n) ≡ Some i → slice_get lines i ≡ Some line → IsLongest lines ip i line
found_longest lines found lengths ip n i line indexed shorter is at =
    let f = first_is 0 lines (key_of ip n) i (sym (indexed.firsts (key_of ip n)) ∙ is) in
    let place : i ≡ f.0 = omega (arith, f.2) in
    let same : Some f.1 ≡ Some line = sym f.3 ∙ ap (slice_get lines) (sym place) ∙ at in
    let line_is : f.1 ≡ line = cc in
    let key : key_of_line line ≡ key_of ip n = ap key_of_line (sym line_is) ∙ f.4 in
    let held = key_holds line.block ip n key in
    record {
      at = at;
      holds_it = held.0;
      longest = λ j other there held_too. omega (arith, shorter j other there held_too, held.1);
      first = λ j other before there held_too.
          ⊎_elim (λ less. omega (arith, held.1))
          (λ more. let equal : other.block.length ≡ n = omega (arith, shorter j other there held_too) in
          absurd (f.5 j other (omega arith) there (holds_key other.block ip held_too ∙ ap (key_of ip) equal)))
          (cases_lt other.block.length n);
    }

-- where none is found, none is as long
pub none_found : (lines : List PlaceLine) (found : Key → Option ℕ) (lengths : List Bool) (ip : Ip) (n : ℕ) → IsIndexed lines found lengths → AllShorter lines ip (n + 1) → (slice_get lengths n ≡ Some false) ⊎ (found (key_of ip n) ≡ None) → AllShorter lines ip n
none_found lines found lengths ip n indexed shorter none j other there held =
    ⊎_elim (λ less. less)
    (λ more. let equal : other.block.length ≡ n = omega (arith, shorter j other there held) in
    ⊎_elim (λ absent. let e : Some true ≡ Some false = sym (indexed.present j other there) ∙ ap (slice_get lengths) equal ∙ absent in absurd (cc))
    (λ missing.
    let some = some_first 0 lines (key_of ip n) j other there (holds_key other.block ip held ∙ ap (key_of ip) equal) in
    let e : true ≡ false = sym some ∙ ap (λ (o : Option ℕ). is_some o) (sym (indexed.firsts (key_of ip n)) ∙ missing) in
    absurd (cc)) none)
    (cases_lt other.block.length n)

-- no block that holds the address is longer than the address
pub all_fit : (lines : List PlaceLine) (found : Key → Option ℕ) (lengths : List Bool) (ip : Ip) → IsIndexed lines found lengths → AllShorter lines ip (width_of ip + 1)
all_fit lines found lengths ip indexed j other there held =
    let fits = indexed.fits j other there in
    omega (arith, fits, widths other.block.base other.block.length ip held)
  where
    widths : (base : Ip) (n : ℕ) (ip : Ip) → is_in_same_block n base ip ≡ true → width_of base ≡ width_of ip
    widths (V4 base) n (V4 number) held = refl
    widths (V6 base) n (V6 number) held = refl
    widths (V4 base) n (V6 number) held = absurd (cc)
    widths (V6 base) n (V4 number) held = absurd (cc)

pub width-le : (ip : Ip) → width_of ip ≤ 128
width-le (V4 number) = lit≤ tt
width-le (V6 number) = lit≤ tt

-- what is found is a line
pub found_within : (lines : List PlaceLine) (found : Key → Option ℕ) (lengths : List Bool) (key : Key) (i : ℕ) → IsIndexed lines found lengths → found key ≡ Some i → i < length lines
found_within lines found lengths key i indexed is =
    let f = first_is 0 lines key i (sym (indexed.firsts key) ∙ is) in
    omega (arith, slice_get_within lines f.0 f.1 f.3, f.2)

pub found_place : (lines : List PlaceLine) (ip : Ip) (i : ℕ) (line : PlaceLine) → IsLongest lines ip i line → GivesPlace lines ip (record { ip = ip; asn = line.asn; country = line.country })
found_place lines ip i line h = inl (i, line, h, refl)

pub no_place : (lines : List PlaceLine) (ip : Ip) → AllShorter lines ip 0 → GivesPlace lines ip (record { ip = ip; asn = None; country = None })
no_place lines ip none = inr ((λ j other there held. absurd (omega (arith, none j other there held))), refl)

-- the best of the first n lines
abbrev pub BestSoFar : List PlaceLine → Ip → ℕ → Option PlaceLine → Type 0
BestSoFar lines ip n None = (j : ℕ) (other : PlaceLine) → j < n → slice_get lines j ≡ Some other → holds other.block ip ≡ true → ⊥
BestSoFar lines ip n (Some line) =
    (i : ℕ) × (i < n) × (slice_get lines i ≡ Some line) × (holds line.block ip ≡ true)
    × ((j : ℕ) (other : PlaceLine) → j < n → slice_get lines j ≡ Some other → holds other.block ip ≡ true → other.block.length ≤ line.block.length)
    × ((j : ℕ) (other : PlaceLine) → j < i → slice_get lines j ≡ Some other → holds other.block ip ≡ true → other.block.length < line.block.length)

same_line : (lines : List PlaceLine) (i j : ℕ) (line other : PlaceLine) → i ≡ j → slice_get lines i ≡ Some line → slice_get lines j ≡ Some other → line ≡ other
same_line lines i j line other same at there = let e : Some line ≡ Some other = sym at ∙ ap (slice_get lines) same ∙ there in cc

pub best_step : (lines : List PlaceLine) (ip : Ip) (n : ℕ) (best : Option PlaceLine) (line : PlaceLine) → BestSoFar lines ip n best → slice_get lines n ≡ Some line → BestSoFar lines ip (n + 1) (longer_of ip best line)
best_step lines ip n None line before at =
    ⊎_elim (λ t. subst (λ (o : Option PlaceLine). BestSoFar lines ip (n + 1) o) (sym (cond-true (holds line.block ip) (Some line) None t)) (
      n,
      omega arith,
      at,
      t,
      (λ j other less there held. ⊎_elim (λ l. absurd (before j other l there held)) (λ m. let same = same_line lines n j line other (omega arith) at there in omega (arith, ap (λ (l : PlaceLine). l.block.length) same)) (cases_lt j n)),
      (λ j other less there held. absurd (before j other less there held)),
    ))
    (λ f. subst (λ (o : Option PlaceLine). BestSoFar lines ip (n + 1) o) (sym (cond-false (holds line.block ip) (Some line) None f))
    (λ j other less there held. ⊎_elim (λ l. before j other l there held) (λ m. let same = same_line lines n j line other (omega arith) at there in let e : true ≡ false = sym held ∙ ap (λ (l : PlaceLine). holds l.block ip) (sym same) ∙ f in absurd (cc)) (cases_lt j n)))
    (cases_Bool (holds line.block ip))
best_step lines ip n (Some old) line before at =
    ⊎_elim (λ t. let parts = and_parts (holds line.block ip) (ltb old.block.length line.block.length) t in let longer = ltb-true _ _ parts.1 in
    subst (λ (o : Option PlaceLine). BestSoFar lines ip (n + 1) o) (sym (cond-true (holds line.block ip && ltb old.block.length line.block.length) (Some line) (Some old) t)) (
      n,
      omega arith,
      at,
      parts.0,
      (λ j other less there held. ⊎_elim (λ l. omega (arith, before.4 j other l there held)) (λ m. let same = same_line lines n j line other (omega arith) at there in omega (arith, ap (λ (l : PlaceLine). l.block.length) same)) (cases_lt j n)),
      (λ j other less there held. omega (arith, before.4 j other less there held)),
    ))
    (λ f. subst (λ (o : Option PlaceLine). BestSoFar lines ip (n + 1) o) (sym (cond-false (holds line.block ip && ltb old.block.length line.block.length) (Some line) (Some old) f)) (
      before.0,
      omega (arith, before.1),
      before.2,
      before.3,
      (λ j other less there held. ⊎_elim (λ l. before.4 j other l there held) (λ m. let same = same_line lines n j line other (omega arith) at there in not_longer f other same held) (cases_lt j n)),
      before.5,
    ))
    (cases_Bool (holds line.block ip && ltb old.block.length line.block.length))
  where
    not_longer : (holds line.block ip && ltb old.block.length line.block.length) ≡ false → (other : PlaceLine) → line ≡ other → holds other.block ip ≡ true → other.block.length ≤ old.block.length
    not_longer f other same held =
        ⊎_elim (λ l. let e : true ≡ false = sym (and_from (holds line.block ip) _ (ap (λ (k : PlaceLine). holds k.block ip) same ∙ held) (lt-ltb old.block.length line.block.length (omega (arith, l, ap (λ (k : PlaceLine). k.block.length) same)))) ∙ f in absurd (cc))
        (λ m. m) (cases_lt old.block.length other.block.length)

pub best_place : (lines : List PlaceLine) (ip : Ip) (n : ℕ) (line : PlaceLine) → n ≡ length lines → BestSoFar lines ip n (Some line) → GivesPlace lines ip (record { ip = ip; asn = line.asn; country = line.country })
best_place lines ip n line all best =
    inl (best.0, line, record { at = best.2; holds_it = best.3; longest = λ j other there held. best.4 j other (omega (arith, all, slice_get_within lines j other there)) there held; first = best.5 }, refl)

pub best_none : (lines : List PlaceLine) (ip : Ip) (n : ℕ) → n ≡ length lines → BestSoFar lines ip n None → GivesPlace lines ip (record { ip = ip; asn = None; country = None })
best_none lines ip n all best = inr ((λ j other there held. best j other (omega (arith, all, slice_get_within lines j other there)) there held), refl)

-- an address has one place
pub one_place : (lines : List PlaceLine) (ip : Ip) (place other : Place) → GivesPlace lines ip place → GivesPlace lines ip other → place ≡ other
one_place lines ip place other (inl h) (inl k) =
    let place_is : h.0 ≡ k.0 = ⊎_elim (λ less. absurd (omega (arith, k.2.first h.0 h.1 less h.2.at h.2.holds_it, h.2.longest k.0 k.1 k.2.at k.2.holds_it)))
    (λ more. ⊎_elim (λ less. absurd (omega (arith, h.2.first k.0 k.1 less k.2.at k.2.holds_it, k.2.longest h.0 h.1 h.2.at h.2.holds_it))) (λ same. omega arith) (cases_lt k.0 h.0)) (cases_lt h.0 k.0) in
    let same = same_line lines h.0 k.0 h.1 k.1 place_is h.2.at k.2.at in
    h.3 ∙ ap (λ (l : PlaceLine). let p : Place = record { ip = ip; asn = l.asn; country = l.country } in p) same ∙ sym k.3
one_place lines ip place other (inl h) (inr k) = absurd (k.0 h.0 h.1 h.2.at h.2.holds_it)
one_place lines ip place other (inr h) (inl k) = absurd (h.0 k.0 k.1 k.2.at k.2.holds_it)
one_place lines ip place other (inr h) (inr k) = h.1 ∙ sym k.1

-- bits past the length do not count
pub past_bits : (length width base other n : ℕ) → has_same_front width length base other ≡ true → has_same_front width length base n ≡ has_same_front width length other n
past_bits length width base other n same = ap (λ (k : ℕ). eqb k (n / 2 ^ (width - length))) (eqb-true _ _ same)

pub whole_four : (base n : ℕ) → (has_same_front 32 32 base n ≡ true) ↔ (base ≡ n)
whole_four base n = ((λ same. omega (arith, eqb-true (base / 1) (n / 1) same)), (λ is. eq-eqb _ _ (ap (λ (k : ℕ). k / 1) is)))

pub whole_six : (base n : ℕ) → (has_same_front 128 128 base n ≡ true) ↔ (base ≡ n)
whole_six base n = ((λ same. omega (arith, eqb-true (base / 1) (n / 1) same)), (λ is. eq-eqb _ _ (ap (λ (k : ℕ). k / 1) is)))

pub zero_six : (base n : ℕ) → base < 2 ^ 128 → n < 2 ^ 128 → has_same_front 128 0 base n ≡ true
zero_six base n small fits = eq-eqb (base / 2 ^ 128) (n / 2 ^ 128) (div-eq_of_lt small ∙ sym (div-eq_of_lt fits))

pub zero_four : (base n : ℕ) → base < 2 ^ 32 → n < 2 ^ 32 → has_same_front 32 0 base n ≡ true
zero_four base n small fits = eq-eqb (base / 2 ^ 32) (n / 2 ^ 32) (div-eq_of_lt small ∙ sym (div-eq_of_lt fits))
