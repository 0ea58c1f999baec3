-- Reading an IPv6 address against its grammar: what is written so is read.
use Rattle.std.proofs.Common.{◌^◌, ◌≡◌, ℕ, ◌+◌, ◌-◌, ◌*◌, ◌/◌, ◌%◌, ◌<◌, ◌≤◌, suc, leb, eqb, true, false, cond, not, List, [], ◌∷◌, ◌++◌, length, replicate, Option, Some, None, refl, ap, sym, subst, ◌∙◌, arith, append_assoc, append-nil, inl, inr, lit<, lit≤, decimal}
use Rattle.std.specs.Prelude.{option_map, option_and_then}
use Rattle.std.specs.Char.{digit_value, is_digit}
use Rattle.std.specs.List.{list_all}
use Rattle.std.specs.Str.Parse.{digits_value, digits_value_after}
use Rattle.std.proofs.lemmas.Bool.{and_parts, and_from, and_left, cond-true, cond-false, lt-ltb, le-ltb, lt-leb, le-leb, ne_eqb, eq-eqb}
use Rattle.std.proofs.lemmas.Fmt.{decimal_by_steps, decimal_nonempty, length-decimal-le}
use Rattle.std.proofs.lemmas.List.Folds.{list_all-append}
use Rattle.location_acl.specs.declared.dotted.Dotted.{Dotted}
use Rattle.location_acl.specs.declared.dotted.Dotted.TheVariants.{Second}
use Rattle.location_acl.specs.declared.groups.Groups.{Groups}
use Rattle.location_acl.specs.declared.six.Digits.{Digits}
use Rattle.location_acl.specs.declared.six.Six.{Six}
use Rattle.location_acl.specs.declared.six.Six.TheVariants.{Start, Joined, Gap, Group, Tail}
use Rattle.location_acl.specs.declared.ip.Ip.TheVariants.{V6}
use Rattle.location_acl.specs.Groups.{no_groups, has_room, has_room_for_dotted, is_whole, with_group, with_gap, groups_value}
use Rattle.location_acl.specs.Dotted.{number_with, dotted_step, dotted_run, IsDotted}
use Rattle.location_acl.specs.Six.{hex_digit, begun, after_digits, six_run, six_of, IsGroup, AreJoined, AreWritten, number_of_groups}
use Rattle.location_acl.specs.Ip.{IsAddress}
use Rattle.location_acl.proofs.DottedLemmas.{along_decimal, dotted_rest}
use Rattle.location_acl.proofs.SixLemmas.{Holds, EndRoom, with_all, groups_elim, push_plain, holds_all_gap, holds_all_plain, holds_shortened, holds_whole}

-- what reads the first byte of a group behind these groups
abbrev pub Fresh : (List ℕ → Option ℕ) → Groups → Type 0
Fresh go g = (b : ℕ) (bs : List ℕ) → eqb b 58 ≡ false → go (b ∷ bs) ≡ option_and_then (λ next. six_run next bs) (begun g b)

fresh_start : Fresh (λ (xs : List ℕ). six_run Start xs) no_groups
fresh_start b bs other = ap (λ (o : Option Six). option_and_then (λ next. six_run next bs) o) (cond-false _ _ _ other)

fresh_joined : (g : Groups) → Fresh (λ (xs : List ℕ). six_run (Joined g) xs) g
fresh_joined g b bs other = ap (λ (o : Option Six). option_and_then (λ next. six_run next bs) o) (cond-false _ _ _ (and_left _ _ other))

fresh_gap : (g : Groups) → Fresh (λ (xs : List ℕ). six_run (Gap g) xs) g
fresh_gap g b bs other = refl

-- a hexadecimal digit is neither `:` nor `.`
not_a_digit : (b c : ℕ) → is_digit b 16 ≡ true → is_digit c 16 ≡ false → eqb b c ≡ false
not_a_digit b c digit other = ne_eqb b c (λ same. let e : true ≡ false = sym digit ∙ ap (λ (x : ℕ). is_digit x 16) same ∙ other in absurd (cc))

-- the digits with more behind them
abbrev pub digits_after : Digits → List ℕ → Digits
digits_after d [] = d
digits_after d (b ∷ bs) = digits_after (record { count = d.count + 1; group = d.group * 16 + digit_value b; number = option_and_then (λ n. number_with (Some n) b) d.number }) bs

abbrev pub octet_after : Option ℕ → List ℕ → Option ℕ
octet_after o [] = o
octet_after o (b ∷ bs) = octet_after (option_and_then (λ n. number_with (Some n) b) o) bs

group_after : (d : Digits) (bs : List ℕ) → (digits_after d bs).group ≡ digits_value_after 16 d.group bs
group_after d [] = refl
group_after d (b ∷ bs) = group_after (record { count = d.count + 1; group = d.group * 16 + digit_value b; number = option_and_then (λ n. number_with (Some n) b) d.number }) bs

number_is_after : (d : Digits) (bs : List ℕ) → (digits_after d bs).number ≡ octet_after d.number bs
number_is_after d [] = refl
number_is_after d (b ∷ bs) = number_is_after (record { count = d.count + 1; group = d.group * 16 + digit_value b; number = option_and_then (λ n. number_with (Some n) b) d.number }) bs

hex_of : (b : ℕ) → is_digit b 16 ≡ true → hex_digit b ≡ Some (digit_value b)
hex_of b digit = cond-true _ _ _ digit

digit_is_read : (g : Groups) (d : Digits) (b : ℕ) → is_digit b 16 ≡ true → d.count < 4 → after_digits g d b ≡ Some (Group g (record { count = d.count + 1; group = d.group * 16 + digit_value b; number = option_and_then (λ n. number_with (Some n) b) d.number }))
digit_is_read g d b digit few =
    cond-false _ _ _ (not_a_digit b 58 digit refl) ∙ cond-false _ _ _ (not_a_digit b 46 digit refl)
    ∙ ap (λ (o : Option Digits). option_map (Group g) o) (cond-false _ _ _ (lt-leb 4 d.count few) ∙ ap (λ (o : Option ℕ). option_map (λ (digit : ℕ). let made : Digits = record { count = d.count + 1; group = d.group * 16 + digit; number = option_and_then (λ n. number_with (Some n) b) d.number } in made) o) (hex_of b digit))

hex_along : (g : Groups) (d : Digits) (bs rest : List ℕ) → list_all (λ byte. is_digit byte 16) bs ≡ true → d.count + length bs ≤ 4 → six_run (Group g d) (bs ++ rest) ≡ six_run (Group g (digits_after d bs)) rest
hex_along g d [] rest digits few = refl
hex_along g d (b ∷ bs) rest digits few =
    let parts = and_parts (is_digit b 16) (list_all (λ byte. is_digit byte 16) bs) digits in
    ap (λ (o : Option Six). option_and_then (λ next. six_run next (bs ++ rest)) o) (digit_is_read g d b parts.0 (omega arith))
    ∙ hex_along g (record { count = d.count + 1; group = d.group * 16 + digit_value b; number = option_and_then (λ n. number_with (Some n) b) d.number }) bs rest parts.1 (omega arith)

-- the number that digits from the first on are
abbrev pub octet_of : List ℕ → Option ℕ
octet_of [] = None
octet_of (b ∷ bs) = octet_after (number_with None b) bs

-- a group is read
group_along : (go : List ℕ → Option ℕ) (g : Groups) (xs rest : List ℕ) (n : ℕ) → Fresh go g → has_room 1 g ≡ true → IsGroup xs n → (d : Digits) × (d.group ≡ n) × (d.number ≡ octet_of xs) × (go (xs ++ rest) ≡ six_run (Group g d) rest)
group_along go g [] rest n fresh room group = absurd (omega (arith, group.some))
group_along go g (b ∷ bs) rest n fresh room group =
    let parts = and_parts (is_digit b 16) (list_all (λ byte. is_digit byte 16) bs) group.digits in
    let first : Digits = record { count = 1; group = digit_value b; number = number_with None b } in
    let begins : begun g b ≡ Some (Group g first) = cond-true _ _ _ room ∙ ap (λ (o : Option ℕ). option_map (Group g) (option_map (λ (digit : ℕ). let made : Digits = record { count = 1; group = digit; number = number_with None b } in made) o)) (hex_of b parts.0) in
    let zero_first : digit_value b ≡ 0 * 16 + digit_value b = omega arith in (
      digits_after first bs,
      group_after first bs ∙ ap (λ (k : ℕ). digits_value_after 16 k bs) zero_first ∙ sym group.valued,
      number_is_after first bs,
      fresh b (bs ++ rest) (not_a_digit b 58 parts.0 refl) ∙ ap (λ (o : Option Six). option_and_then (λ next. six_run next (bs ++ rest)) o) begins ∙ hex_along g first bs rest parts.1 (omega (arith, group.few)),
    )

-- a `:` behind a group
colon_step : (g : Groups) (d : Digits) (rest : List ℕ) → has_room 2 g ≡ true → six_run (Group g d) (58 ∷ rest) ≡ six_run (Joined (with_group d.group g)) rest
colon_step g d rest room = ap (λ (o : Option Six). option_and_then (λ next. six_run next rest) o) (cond-true (has_room 2 g) _ _ room)

len_pushed : (g : Groups) (n : ℕ) → (with_group n g).front_len + (with_group n g).back_len ≡ g.front_len + g.back_len + 1
len_pushed g n = groups_elim (λ h. (with_group n h).front_len + (with_group n h).back_len ≡ h.front_len + h.back_len + 1) g (λ _. omega arith) (λ _. omega arith)

room_plain : (g : Groups) (count : ℕ) → g.has_gap ≡ false → g.front_len + g.back_len + count ≤ 8 → has_room count g ≡ true
room_plain g count = groups_elim (λ h. h.has_gap ≡ false → h.front_len + h.back_len + count ≤ 8 → has_room count h ≡ true) g (λ _ no few. absurd (cc)) (λ _ no few. le-leb _ _ few)

room_gap : (g : Groups) (count : ℕ) → g.has_gap ≡ true → g.front_len + g.back_len + count ≤ 7 → has_room count g ≡ true
room_gap g count = groups_elim (λ h. h.has_gap ≡ true → h.front_len + h.back_len + count ≤ 7 → has_room count h ≡ true) g (λ _ no few. le-leb _ _ few) (λ _ no few. absurd (cc))

-- one group and a `:` are read
led_along : (go : List ℕ → Option ℕ) (g : Groups) (xs rest : List ℕ) (n : ℕ) → Fresh go g → has_room 1 g ≡ true → has_room 2 g ≡ true → IsGroup xs n → go (xs ++ 58 ∷ rest) ≡ six_run (Joined (with_group n g)) rest
led_along go g xs rest n fresh one two group =
    let h = group_along go g xs (58 ∷ rest) n fresh one group in
    h.3 ∙ colon_step g h.0 rest two ∙ ap (λ (k : ℕ). six_run (Joined (with_group k g)) rest) h.1

-- joined groups and a `:` are read
joined_along : (n : ℕ) (gs : List ℕ) (go : List ℕ → Option ℕ) (g : Groups) (text rest : List ℕ) → Fresh go g → AreJoined text (n ∷ gs) → g.has_gap ≡ false → g.front_len + g.back_len + suc (length gs) ≤ 7 → go (text ++ 58 ∷ rest) ≡ six_run (Joined (with_all (n ∷ gs) g)) rest
joined_along n [] go g text rest fresh joined plain few =
    led_along go g text rest n fresh (room_plain g 1 plain (omega arith)) (room_plain g 2 plain (omega arith)) joined
joined_along n (m ∷ gs) go g text rest fresh joined plain few =
    ap (λ (xs : List ℕ). go (xs ++ 58 ∷ rest)) joined.2 ∙ ap go (append_assoc joined.0 (58 ∷ joined.1) (58 ∷ rest))
    ∙ led_along go g joined.0 (joined.1 ++ 58 ∷ rest) n fresh (room_plain g 1 plain (omega arith)) (room_plain g 2 plain (omega arith)) joined.3
    ∙ joined_along m gs (λ (xs : List ℕ). six_run (Joined (with_group n g)) xs) (with_group n g) joined.1 rest (fresh_joined (with_group n g)) joined.4 (push_plain g n plain) (omega (arith, len_pushed g n))

-- what `decimal` writes of a number 0 to 255 are one to four digits, and are read as that number too
small_digit : (n : ℕ) → n < 10 → is_digit (48 + n) 16 ≡ true
small_digit n small =
    let value : digit_value (48 + n) ≡ 48 + n - 48 = cond-false _ _ _ (le-ltb (48 + n) 48 (omega arith)) ∙ cond-true _ _ _ (lt-ltb (48 + n) 58 (omega arith)) in
    lt-ltb _ _ (omega (arith, value))

pub decimal_digits : (n : ℕ) → n < 2 ^ 64 → list_all (λ byte. is_digit byte 16) (decimal n) ≡ true
decimal_digits n small =
    decimal_by_steps (λ (k : ℕ) (ds : List ℕ). list_all (λ byte. is_digit byte 16) ds ≡ true)
    (λ k one. and_from _ _ (small_digit k one) refl)
    (λ k ds ten before. list_all-append _ ds ((48 + k % 10) ∷ []) ∙ and_from _ _ before (and_from _ _ (small_digit (k % 10) (omega arith)) refl)) n small

decimal_group : (n : ℕ) → n < 256 → IsGroup (decimal n) (digits_value 16 (decimal n))
decimal_group n small =
    record { some = decimal_nonempty n (omega arith); few = omega (arith, length-decimal-le 3 n (lit< tt) (omega arith) (omega arith)); digits = decimal_digits n (omega arith); valued = refl }

octet_from : Option ℕ → List ℕ → Option ℕ
octet_from None bs = octet_of bs
octet_from (Some n) bs = octet_after (Some n) bs

octet_step : (number : Option ℕ) (b m : ℕ) (bs : List ℕ) → number_with number b ≡ Some m → octet_from number (b ∷ bs) ≡ octet_from (Some m) bs
unfolding octet_from
octet_step None b m bs is = ap (λ (o : Option ℕ). octet_after o bs) is
octet_step (Some n) b m bs is = ap (λ (o : Option ℕ). octet_after o bs) is

octet_is : (n : ℕ) → n < 256 → octet_of (decimal n) ≡ Some n
unfolding octet_from
octet_is n small = ap (λ (xs : List ℕ). octet_of xs) (sym (append-nil (decimal n))) ∙ along_decimal octet_from octet_step n [] small

-- the rest of an IPv4 address behind groups
pub tail_run : (g : Groups) (d : Dotted) (text : List ℕ) → six_run (Tail g d) text ≡ option_map (λ n. groups_value (with_group (n % 65536) (with_group (n / 65536) g))) (dotted_run d text)
tail_run g d [] = refl
tail_run g d (b ∷ bs) = at_step (λ next. tail_run g next bs) (dotted_step d b)
  where
    at_step : ((next : Dotted) → six_run (Tail g next) bs ≡ option_map (λ n. groups_value (with_group (n % 65536) (with_group (n / 65536) g))) (dotted_run next bs)) → (o : Option Dotted) → option_and_then (λ next. six_run next bs) (option_map (Tail g) o) ≡ option_map (λ n. groups_value (with_group (n % 65536) (with_group (n / 65536) g))) (option_and_then (λ next. dotted_run next bs) o)
    at_step deep None = refl
    at_step deep (Some next) = deep next

-- no groups were read behind a gap that was not read
abbrev pub HasNoBack : Groups → Type 0
HasNoBack g = g.has_gap ≡ false → g.back_len ≡ 0

no_back_pushed : (g : Groups) (n : ℕ) → HasNoBack g → HasNoBack (with_group n g)
no_back_pushed g n = groups_elim (λ h. HasNoBack h → HasNoBack (with_group n h)) g (λ _ none no. absurd (cc)) (λ _ none no. none no)

room_of_end : (g : Groups) (few count : ℕ) → HasNoBack g → EndRoom g count → few ≤ count → has_room few g ≡ true
room_of_end g few count =
    groups_elim (λ h. HasNoBack h → EndRoom h count → few ≤ count → has_room few h ≡ true) g
    (λ _ none room less. le-leb _ _ (omega (arith, room.gap refl)))
    (λ _ none room less. le-leb _ _ (omega (arith, room.plain refl, none refl)))

dotted_room : (g : Groups) → HasNoBack g → EndRoom g 2 → has_room_for_dotted g ≡ true
dotted_room g =
    groups_elim (λ h. HasNoBack h → EndRoom h 2 → has_room_for_dotted h ≡ true) g
    (λ _ none room. and_from (leb (g.front_len + g.back_len + 2) 7) true (le-leb _ _ (room.gap refl)) refl)
    (λ _ none room. and_from (leb (g.front_len + g.back_len + 2) 8) (eqb g.front_len 6) (le-leb _ _ (omega (arith, room.plain refl, none refl))) (eq-eqb _ _ (omega (arith, room.plain refl))))

end_pushed : (g : Groups) (n count : ℕ) → EndRoom g (suc count) → EndRoom (with_group n g) count
end_pushed g n count =
    groups_elim (λ h. EndRoom h (suc count) → EndRoom (with_group n h) count) g
    (λ _ room. record { gap = λ _. omega (arith, room.gap refl); plain = λ no. absurd (cc) })
    (λ _ room. record { gap = λ no. absurd (cc); plain = λ _. omega (arith, room.plain refl) })

whole_pushed : (g : Groups) (n : ℕ) → EndRoom g 1 → is_whole (with_group n g) ≡ true
whole_pushed g n = groups_elim (λ h. EndRoom h 1 → is_whole (with_group n h) ≡ true) g (λ _ room. refl) (λ _ room. eq-eqb _ _ (room.plain refl))

-- an IPv4 address that ends an IPv6 address is read
dotted_along : (go : List ℕ → Option ℕ) (g : Groups) (text : List ℕ) (n m : ℕ) → Fresh go g → HasNoBack g → EndRoom g 2 → m < 65536 → IsDotted text (n * 65536 + m) → go text ≡ Some (groups_value (with_group m (with_group n g)))
dotted_along go g text n m fresh none room small h =
    let others : List ℕ = decimal h.b ++ 46 ∷ (decimal h.c ++ 46 ∷ decimal h.d) in
    let read = group_along go g (decimal h.a) (46 ∷ others) (digits_value 16 (decimal h.a)) fresh (room_of_end g 1 2 none room (lit≤ tt)) (decimal_group h.a h.a_fits) in
    let number : read.0.number ≡ Some h.a = read.2 ∙ octet_is h.a h.a_fits in
    let high : (n * 65536 + m) / 65536 ≡ n = omega arith in
    let low : (n * 65536 + m) % 65536 ≡ m = omega arith in
    ap go h.written ∙ read.3
    ∙ ap (λ (o : Option Six). option_and_then (λ next. six_run next others) o) (cond-true (has_room_for_dotted g) _ _ (dotted_room g none room) ∙ ap (λ (o : Option ℕ). option_map (λ a. Tail g (Second a None)) o) number)
    ∙ tail_run g (Second h.a None) others
    ∙ ap (λ (o : Option ℕ). option_map (λ k. groups_value (with_group (k % 65536) (with_group (k / 65536) g))) o) (dotted_rest text (n * 65536 + m) h)
    ∙ ap (λ (k : ℕ). Some (groups_value (with_group ((n * 65536 + m) % 65536) (with_group k g)))) high
    ∙ ap (λ (k : ℕ). Some (groups_value (with_group k (with_group n g)))) low

-- groups that end an address are read
written_along : (n : ℕ) (gs : List ℕ) (go : List ℕ → Option ℕ) (g : Groups) (text : List ℕ) → Fresh go g → HasNoBack g → EndRoom g (suc (length gs)) → AreWritten text (n ∷ gs) → go text ≡ Some (groups_value (with_all (n ∷ gs) g))
written_along n [] go g text fresh none room written =
    let read = group_along go g text [] n fresh (room_of_end g 1 1 none room (lit≤ tt)) written in
    ap go (sym (append-nil text)) ∙ read.3
    ∙ ap (λ (k : ℕ). cond (is_whole (with_group k g)) (Some (groups_value (with_group k g))) None) read.1
    ∙ cond-true _ _ _ (whole_pushed g n room)
written_along n (m ∷ gs) go g text fresh none room (inl w) =
    ap go w.2
    ∙ led_along go g w.0 w.1 n fresh (room_of_end g 1 (suc (suc (length gs))) none room (omega arith)) (room_of_end g 2 (suc (suc (length gs))) none room (omega arith)) w.3
    ∙ written_along m gs (λ (xs : List ℕ). six_run (Joined (with_group n g)) xs) (with_group n g) w.1 (fresh_joined (with_group n g)) (no_back_pushed g n none) (end_pushed g n (suc (length gs)) room) w.4
written_along n (m ∷ gs) go g text fresh none room (inr w) =
    let two : EndRoom g 2 = subst (λ (xs : List ℕ). EndRoom g (suc (suc (length xs)))) w.0 room in
    dotted_along go g text n m fresh none two w.1 w.2
    ∙ ap (λ (xs : List ℕ). Some (groups_value (with_all (n ∷ m ∷ xs) g))) (sym w.0)

holds_none : Holds no_groups [] []
holds_none = record { front_is = refl; front_len = refl; back_is = refl; back_len = refl }

-- eight groups are read
whole_is : (text : List ℕ) (value : ℕ) (gs : List ℕ) → AreWritten text gs → length gs ≡ 8 → value ≡ number_of_groups gs → six_of text ≡ Some value
whole_is text value [] written eight valued = absurd (omega arith)
whole_is text value (n ∷ gs) written eight valued =
    written_along n gs (λ (xs : List ℕ). six_run Start xs) no_groups text fresh_start (λ _. refl) (record { gap = λ no. absurd (cc); plain = λ _. omega (arith, eight) }) written
    ∙ ap Some (holds_whole (with_all (n ∷ gs) no_groups) (n ∷ gs) (holds_all_plain (n ∷ gs) no_groups [] [] refl holds_none) eight ∙ sym valued)

plain_all : (gs : List ℕ) (g : Groups) → g.has_gap ≡ false → (with_all gs g).has_gap ≡ false
plain_all [] g plain = plain
plain_all (n ∷ gs) g plain = plain_all gs (with_group n g) (push_plain g n plain)

-- groups before `::` are read
before_is : (front before after : List ℕ) → AreJoined before front → length front ≤ 7 → six_of (before ++ 58 ∷ 58 ∷ after) ≡ six_run (Gap (with_gap (with_all front no_groups))) after
before_is [] before after joined few = ap (λ (xs : List ℕ). six_of (xs ++ 58 ∷ 58 ∷ after)) joined
before_is (n ∷ gs) before after joined few =
    let plain = plain_all (n ∷ gs) no_groups refl in
    joined_along n gs (λ (xs : List ℕ). six_run Start xs) no_groups before (58 ∷ after) fresh_start joined refl (omega (arith, few))
    ∙ ap (λ (o : Option Six). option_and_then (λ next. six_run next after) o) (cond-true (not (with_all (n ∷ gs) no_groups).has_gap) _ _ (ap not plain))

-- groups behind `::` are read
after_is : (g : Groups) (front back after : List ℕ) → g.has_gap ≡ true → Holds g front [] → AreWritten after back → length front + length back ≤ 7 → six_run (Gap g) after ≡ Some (number_of_groups (front ++ (replicate (8 - (length front + length back)) 0 ++ back)))
after_is g front [] after gap holds written few = ap (λ (xs : List ℕ). six_run (Gap g) xs) written ∙ ap Some (holds_shortened g front [] holds few)
after_is g front (n ∷ gs) after gap holds written few =
    written_along n gs (λ (xs : List ℕ). six_run (Gap g) xs) g after (fresh_gap g) (λ no. absurd (cc)) (record { gap = λ _. omega (arith, holds.front_len, holds.back_len); plain = λ no. absurd (cc) }) written
    ∙ ap Some (holds_shortened (with_all (n ∷ gs) g) front (n ∷ gs) (holds_all_gap (n ∷ gs) g front [] gap holds) few)

-- what is written as an IPv6 address is read as it
pub six_is : (text : List ℕ) (value : ℕ) → IsAddress text (V6 value) → six_of text ≡ Some value
six_is text value (inl h) = whole_is text value h.groups h.written h.eight h.valued
six_is text value (inr h) =
    let kept = holds_all_plain h.front no_groups [] [] refl holds_none in
    let holds : Holds (with_gap (with_all h.front no_groups)) h.front [] = record { front_is = kept.front_is; front_len = kept.front_len; back_is = kept.back_is; back_len = kept.back_len } in
    ap six_of h.parts ∙ before_is h.front h.before h.after h.written_before (omega (arith, h.fewer))
    ∙ after_is (with_gap (with_all h.front no_groups)) h.front h.back h.after refl holds h.written_after h.fewer
    ∙ ap Some (sym h.valued)
