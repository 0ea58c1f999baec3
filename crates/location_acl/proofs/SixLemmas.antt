-- Reading an IPv6 address against its grammar: what was read is written so.
use Rattle.std.proofs.Common.{◌≡◌, ℕ, ◌+◌, ◌-◌, ◌*◌, ◌/◌, ◌%◌, ◌^◌, ◌<◌, ◌≤◌, zero, suc, leb, eqb, Bool, true, false, cond, not, List, [], ◌∷◌, ◌++◌, length, replicate, Option, Some, None, refl, ap, sym, subst, ◌∙◌, arith, ⊎_elim, append_assoc, append-nil, length-append, inl, inr, lit<, IfSome, decimal}
use Rattle.std.specs.Prelude.{◌&&◌, fold, option_map, option_and_then}
use Rattle.std.specs.Char.{digit_value, is_digit}
use Rattle.std.proofs.Math.Nat.{pow-suc}
use Rattle.std.proofs.lemmas.Bool.{cases_Bool, and_parts, and_from, cond-true, cond-false, le-leb, leb-true, eqb-true, leb-false, not-true}
use Rattle.std.proofs.lemmas.Int.Digits.{digits_value_push}
use Rattle.std.proofs.lemmas.List.Sums.{fold-append}
use Rattle.std.proofs.lemmas.List.Folds.{list_all-append}
use Rattle.std.proofs.lemmas.List.{length-replicate}
use Rattle.location_acl.specs.declared.dotted.Dotted.TheVariants.{Second}
use Rattle.location_acl.specs.declared.groups.Groups.{Groups}
use Rattle.location_acl.specs.declared.six.Digits.{Digits}
use Rattle.location_acl.specs.declared.six.Six.{Six}
use Rattle.location_acl.specs.declared.six.Six.TheVariants.{Start, Colon, Joined, Gap, Group, Tail}
use Rattle.location_acl.specs.declared.ip.Ip.TheVariants.{V6}
use Rattle.location_acl.specs.Groups.{no_groups, has_room, has_room_for_dotted, is_whole, with_group, with_gap, groups_value}
use Rattle.location_acl.specs.Dotted.{number_with, dotted_step, dotted_value, IsDotted}
use Rattle.location_acl.specs.Six.{hex_digit, first_digit, with_digit, begun, after_digits, six_step, six_value, six_run, six_of, IsGroup, AreJoined, AreWritten, number_of_groups, IsShortened}
use Rattle.location_acl.specs.Ip.{IsAddress}
use Rattle.location_acl.proofs.DottedLemmas.{SeenDotted, number_seen, dotted_seen, dotted_ends}

-- numbers of groups
number_after : (n : ℕ) (gs : List ℕ) → fold (λ (number group : ℕ). number * 65536 + group) n gs ≡ n * 65536 ^ length gs + number_of_groups gs
number_after n [] = omega arith
number_after n (g ∷ gs) =
    let deep = number_after (n * 65536 + g) gs in
    let flat = number_after (0 + g) gs in
    rw (pow-suc 65536 (length gs)) (omega (arith, deep, flat))

number_of-append : (xs ys : List ℕ) → number_of_groups (xs ++ ys) ≡ number_of_groups xs * 65536 ^ length ys + number_of_groups ys
number_of-append xs ys = fold-append (λ (number group : ℕ). number * 65536 + group) 0 xs ys ∙ number_after (number_of_groups xs) ys

number_of-push : (xs : List ℕ) (g : ℕ) → number_of_groups (xs ++ g ∷ []) ≡ number_of_groups xs * 65536 + g
number_of-push xs g = fold-append (λ (number group : ℕ). number * 65536 + group) 0 xs (g ∷ [])

number_of-zeros : (k : ℕ) (ys : List ℕ) → number_of_groups (replicate k 0 ++ ys) ≡ number_of_groups ys
number_of-zeros zero ys = refl
number_of-zeros (suc k) ys = number_of-zeros k ys

-- the groups before and behind the gap are kept as their numbers
pub record Holds (g : Groups) (front back : List ℕ) : Type 0 where
  pub front_is : g.front ≡ number_of_groups front
  pub front_len : g.front_len ≡ length front
  pub back_is : g.back ≡ number_of_groups back
  pub back_len : g.back_len ≡ length back

-- with zeros between them they are the address
pub holds_shortened : (g : Groups) (front back : List ℕ) → Holds g front back → length front + length back ≤ 7 → groups_value g ≡ number_of_groups (front ++ (replicate (8 - (length front + length back)) 0 ++ back))
holds_shortened g front back h few =
    let rest = replicate (8 - (length front + length back)) 0 ++ back in
    let len : length rest ≡ 8 - length front = omega (arith, length-append (replicate (8 - (length front + length back)) 0) back, length-replicate {A = ℕ} (8 - (length front + length back)) 0) in
    let behind : number_of_groups rest ≡ number_of_groups back = number_of-zeros (8 - (length front + length back)) back in
    let left : groups_value g ≡ number_of_groups front * 65536 ^ (8 - length front) + number_of_groups back = rw (h.front_is, h.front_len, h.back_is) refl in
    left ∙ ap (λ (k : ℕ). number_of_groups front * 65536 ^ k + number_of_groups back) (sym len) ∙ ap (λ (k : ℕ). number_of_groups front * 65536 ^ length rest + k) (sym behind) ∙ sym (number_of-append front rest)

pub holds_whole : (g : Groups) (front : List ℕ) → Holds g front [] → length front ≡ 8 → groups_value g ≡ number_of_groups front
holds_whole g front h eight =
    let none : 8 - length front ≡ 0 = omega arith in
    let left : groups_value g ≡ number_of_groups front * 65536 ^ (8 - length front) + 0 = rw (h.front_is, h.front_len, h.back_is) refl in
    left ∙ ap (λ (k : ℕ). number_of_groups front * 65536 ^ k + 0) none ∙ (let one : number_of_groups front * 1 + 0 ≡ number_of_groups front = omega arith in one)

-- groups, each with a `:` behind it
abbrev pub AreLed : List ℕ → List ℕ → Type 0
AreLed text [] = text ≡ []
AreLed text (g ∷ gs) = (digits : List ℕ) × (rest : List ℕ) × (text ≡ digits ++ 58 ∷ rest) × IsGroup digits g × AreLed rest gs

led_push : (text : List ℕ) (gs digits : List ℕ) (g : ℕ) → AreLed text gs → IsGroup digits g → AreLed (text ++ (digits ++ 58 ∷ [])) (gs ++ g ∷ [])
led_push text [] digits g led group = (digits, [], ap (λ (xs : List ℕ). xs ++ (digits ++ 58 ∷ [])) led, group, refl)
led_push text (h ∷ gs) digits g led group =
    (led.0, led.1 ++ (digits ++ 58 ∷ []), ap (λ (xs : List ℕ). xs ++ (digits ++ 58 ∷ [])) led.2 ∙ append_assoc led.0 (58 ∷ led.1) (digits ++ 58 ∷ []), led.3, led_push led.1 gs digits g led.4 group)

-- led groups are joined groups and a `:`
led_joined : (text : List ℕ) (g : ℕ) (gs : List ℕ) → AreLed text (g ∷ gs) → (before : List ℕ) × (text ≡ before ++ 58 ∷ []) × AreJoined before (g ∷ gs)
led_joined text g [] led = (led.0, led.2 ∙ ap (λ (xs : List ℕ). led.0 ++ 58 ∷ xs) led.4, led.3)
led_joined text g (h ∷ gs) led =
    let deep = led_joined led.1 h gs led.4 in
    (led.0 ++ 58 ∷ deep.0, led.2 ∙ ap (λ (xs : List ℕ). led.0 ++ 58 ∷ xs) deep.1 ∙ sym (append_assoc led.0 (58 ∷ deep.0) (58 ∷ [])), (led.0, deep.0, refl, led.3, deep.2))

-- led groups and a last one, or an IPv4 address
led_written : (text : List ℕ) (gs digits : List ℕ) (g : ℕ) → AreLed text gs → IsGroup digits g → AreWritten (text ++ digits) (gs ++ g ∷ [])
led_written text [] digits g led group = subst (λ (xs : List ℕ). IsGroup (xs ++ digits) g) (sym led) group
led_written text (h ∷ []) digits g led group =
    inl (led.0, led.1 ++ digits, ap (λ (xs : List ℕ). xs ++ digits) led.2 ∙ append_assoc led.0 (58 ∷ led.1) digits, led.3, led_written led.1 [] digits g led.4 group)
led_written text (h ∷ k ∷ gs) digits g led group =
    inl (led.0, led.1 ++ digits, ap (λ (xs : List ℕ). xs ++ digits) led.2 ∙ append_assoc led.0 (58 ∷ led.1) digits, led.3, led_written led.1 (k ∷ gs) digits g led.4 group)

led_dotted : (text : List ℕ) (gs seen : List ℕ) (n : ℕ) → AreLed text gs → IsDotted seen n → AreWritten (text ++ seen) (gs ++ (n / 65536) ∷ (n % 65536) ∷ [])
led_dotted text [] seen n led dotted =
    let whole : n ≡ n / 65536 * 65536 + n % 65536 = omega arith in
    inr (refl, (let small : n % 65536 < 65536 = omega arith in small), subst (λ (k : ℕ). IsDotted (text ++ seen) k) whole (subst (λ (xs : List ℕ). IsDotted (xs ++ seen) n) (sym led) dotted))
led_dotted text (h ∷ []) seen n led dotted =
    inl (led.0, led.1 ++ seen, ap (λ (xs : List ℕ). xs ++ seen) led.2 ∙ append_assoc led.0 (58 ∷ led.1) seen, led.3, led_dotted led.1 [] seen n led.4 dotted)
led_dotted text (h ∷ k ∷ gs) seen n led dotted =
    inl (led.0, led.1 ++ seen, ap (λ (xs : List ℕ). xs ++ seen) led.2 ∙ append_assoc led.0 (58 ∷ led.1) seen, led.3, led_dotted led.1 (k ∷ gs) seen n led.4 dotted)

-- the digits of a group
pub record SeenDigits (d : Digits) (xs : List ℕ) : Type 0 where
  pub group : IsGroup xs d.group
  pub count : d.count ≡ length xs
  pub number : IfSome d.number (λ n. (n < 256) × (xs ≡ decimal n))

mapped : {A B : Type 0} (f : A → B) (o : Option A) (y : B) → option_map f o ≡ Some y → (x : A) × (o ≡ Some x) × (f x ≡ y)
mapped f None y is = absurd (cc)
mapped f (Some x) y is = (x, refl, cc)

guarded : {A : Type 0} (t : Bool) (o : Option A) (y : A) → cond t o None ≡ Some y → (t ≡ true) × (o ≡ Some y)
guarded true o y is = (refl, is)
guarded false o y is = absurd (cc)

guarded_not : {A : Type 0} (t : Bool) (o : Option A) (y : A) → cond t None o ≡ Some y → (t ≡ false) × (o ≡ Some y)
guarded_not false o y is = (refl, is)
guarded_not true o y is = absurd (cc)

hex_is : (b d : ℕ) → hex_digit b ≡ Some d → (is_digit b 16 ≡ true) × (digit_value b ≡ d)
hex_is b d is = let h = guarded _ _ d is in (h.0, (let e : digit_value b ≡ d = cc in e))

first_seen : (b : ℕ) (d : Digits) → first_digit b ≡ Some d → SeenDigits d (b ∷ [])
first_seen b d is =
    let h = mapped (λ (digit : ℕ). let made : Digits = record { count = 1; group = digit; number = number_with None b } in made) (hex_digit b) d is in
    let hex = hex_is b h.0 h.1 in
    subst (λ (e : Digits). SeenDigits e (b ∷ [])) h.2 (record {
      group = record { some = lit< tt; few = lit< tt; digits = and_from _ _ hex.0 refl; valued = sym hex.1 ∙ (let e : digit_value b ≡ 0 * 16 + digit_value b = omega arith in e) };
      count = refl;
      number = of_first b (number_with None b) refl;
    })
  where
    of_first : (b : ℕ) (o : Option ℕ) → number_with None b ≡ o → IfSome o (λ n. (n < 256) × (b ∷ [] ≡ decimal n))
    of_first b None is = tt
    of_first b (Some n) is = number_seen None b n [] refl is

more_seen : (d e : Digits) (b : ℕ) (xs : List ℕ) → SeenDigits d xs → with_digit d b ≡ Some e → SeenDigits e (xs ++ b ∷ [])
more_seen d e b xs s is =
    let room = guarded_not (leb 4 d.count) _ e is in
    let h = mapped (λ (digit : ℕ). let made : Digits = record { count = d.count + 1; group = d.group * 16 + digit; number = option_and_then (λ n. number_with (Some n) b) d.number } in made) (hex_digit b) e room.1 in
    let hex = hex_is b h.0 h.1 in
    let len = length-append xs (b ∷ []) in
    let below : d.count < 4 = leb-false 4 d.count room.0 in
    subst (λ (made : Digits). SeenDigits made (xs ++ b ∷ [])) h.2 (record {
      group = record { some = omega (arith, len); few = omega (arith, len, s.count); digits = list_all-append _ xs (b ∷ []) ∙ and_from _ _ s.group.digits (and_from _ _ hex.0 refl); valued = rw (← hex.1, s.group.valued) (sym (digits_value_push 16 xs b)) };
      count = omega (arith, len, s.count);
      number = of_more xs b d.number s.number;
    })
  where
    of_number : (xs : List ℕ) (b n : ℕ) → (n < 256) × (xs ≡ decimal n) → (o : Option ℕ) → number_with (Some n) b ≡ o → IfSome o (λ m. (m < 256) × (xs ++ b ∷ [] ≡ decimal m))
    of_number xs b n is None made = tt
    of_number xs b n is (Some m) made = number_seen (Some n) b m xs is made

    of_more : (xs : List ℕ) (b : ℕ) (o : Option ℕ) → IfSome o (λ n. (n < 256) × (xs ≡ decimal n)) → IfSome (option_and_then (λ n. number_with (Some n) b) o) (λ n. (n < 256) × (xs ++ b ∷ [] ≡ decimal n))
    of_more xs b None is = tt
    of_more xs b (Some n) is = of_number xs b n is (number_with (Some n) b) refl

-- the text before the second `:` of a gap
abbrev pub IsBefore : List ℕ → List ℕ → Type 0
IsBefore one [] = one ≡ 58 ∷ []
IsBefore one (g ∷ gs) = AreLed one (g ∷ gs)

-- the text of groups that a `:` ends
abbrev pub LedText : Bool → List ℕ → List ℕ → List ℕ → Type 0
LedText false led front back = (back ≡ []) × AreLed led front
LedText true led front back = (one : List ℕ) × (two : List ℕ) × (led ≡ one ++ 58 ∷ two) × IsBefore one front × AreLed two back

pub record Ready (g : Groups) (led : List ℕ) : Type 0 where
  pub front : List ℕ
  pub back : List ℕ
  pub holds : Holds g front back
  pub text : LedText g.has_gap led front back

-- a fact on groups by whether there is a gap
pub groups_elim : (P : Groups → Type 0) (g : Groups) → (g.has_gap ≡ true → P (record g { has_gap = true })) → (g.has_gap ≡ false → P (record g { has_gap = false })) → P g
groups_elim P g gap plain =
    ⊎_elim (λ e. subst P (ap (λ (b : Bool). let h : Groups = record g { has_gap = b } in h) (sym e)) (gap e)) (λ e. subst P (ap (λ (b : Bool). let h : Groups = record g { has_gap = b } in h) (sym e)) (plain e)) (cases_Bool g.has_gap)

ready_push : (g : Groups) (led digits : List ℕ) (n : ℕ) → Ready g led → IsGroup digits n → Ready (with_group n g) (led ++ (digits ++ 58 ∷ []))
ready_push g led digits n =
    groups_elim (λ h. Ready h led → IsGroup digits n → Ready (with_group n h) (led ++ (digits ++ 58 ∷ []))) g
    (λ _ r group. record {
      front = r.front;
      back = r.back ++ n ∷ [];
      holds = record { front_is = r.holds.front_is; front_len = r.holds.front_len; back_is = rw (number_of-push, r.holds.back_is) refl; back_len = omega (arith, r.holds.back_len, length-append r.back (n ∷ [])) };
      text = (r.text.0, r.text.1 ++ (digits ++ 58 ∷ []), ap (λ (xs : List ℕ). xs ++ (digits ++ 58 ∷ [])) r.text.2 ∙ append_assoc r.text.0 (58 ∷ r.text.1) (digits ++ 58 ∷ []), r.text.3, led_push r.text.1 r.back digits n r.text.4 group);
    })
    (λ _ r group. record {
      front = r.front ++ n ∷ [];
      back = r.back;
      holds = record { front_is = rw (number_of-push, r.holds.front_is) refl; front_len = omega (arith, r.holds.front_len, length-append r.front (n ∷ [])); back_is = r.holds.back_is; back_len = r.holds.back_len };
      text = (r.text.0, led_push led r.front digits n r.text.1 group);
    })

-- groups with a `:` and then another are groups before a gap
ready_gap : (g : Groups) (led : List ℕ) → Ready g led → g.has_gap ≡ false → 1 ≤ g.front_len → Ready (with_gap g) (led ++ 58 ∷ [])
ready_gap g led =
    groups_elim (λ h. Ready h led → h.has_gap ≡ false → 1 ≤ h.front_len → Ready (with_gap h) (led ++ 58 ∷ [])) g
    (λ _ r no some. absurd (cc))
    (λ _ r no some. record {
      front = r.front;
      back = r.back;
      holds = record { front_is = r.holds.front_is; front_len = r.holds.front_len; back_is = r.holds.back_is; back_len = r.holds.back_len };
      text = (led, [], refl, before r.front (omega (arith, r.holds.front_len)) r.text.1, none r.back r.text.0);
    })
  where
    before : (front : List ℕ) → 1 ≤ length front → AreLed led front → IsBefore led front
    before [] some is = absurd (omega arith)
    before (f ∷ fs) some is = is

    none : (back : List ℕ) → back ≡ [] → AreLed [] back
    none back is = subst (λ (xs : List ℕ). AreLed [] xs) (sym is) refl

-- the text of a front
abbrev pub SeenSix : Six → List ℕ → Type 0
SeenSix Start seen = seen ≡ []
SeenSix Colon seen = seen ≡ 58 ∷ []
SeenSix (Joined g) seen = Ready g seen × (g.has_gap ≡ false → 1 ≤ g.front_len) × (has_room 1 g ≡ true)
SeenSix (Gap g) seen = Ready g seen × (g.has_gap ≡ true) × (g.back_len ≡ 0) × (has_room 0 g ≡ true)
SeenSix (Group g d) seen = (led : List ℕ) × (xs : List ℕ) × (seen ≡ led ++ xs) × Ready g led × SeenDigits d xs × (has_room 1 g ≡ true)
SeenSix (Tail g d) seen = (led : List ℕ) × (xs : List ℕ) × (seen ≡ led ++ xs) × Ready g led × SeenDotted d xs × (has_room_for_dotted g ≡ true)

ready_none : Ready no_groups []
ready_none = record { front = []; back = []; holds = record { front_is = refl; front_len = refl; back_is = refl; back_len = refl }; text = (refl, refl) }

begun_seen : (g : Groups) (next : Six) (b : ℕ) (led : List ℕ) → Ready g led → begun g b ≡ Some next → SeenSix next (led ++ b ∷ [])
begun_seen g next b led r is =
    let room = guarded (has_room 1 g) _ next is in
    let h = mapped (Group g) (first_digit b) next room.1 in
    subst (λ (s : Six). SeenSix s (led ++ b ∷ [])) h.2 (led, b ∷ [], refl, r, first_seen b h.0 h.1, room.0)

room_pushed : (g : Groups) (n : ℕ) → has_room 2 g ≡ true → has_room 1 (with_group n g) ≡ true
room_pushed g n =
    groups_elim (λ h. has_room 2 h ≡ true → has_room 1 (with_group n h) ≡ true) g
    (λ _ room. le-leb _ _ (omega (arith, leb-true _ _ room)))
    (λ _ room. le-leb _ _ (omega (arith, leb-true _ _ room)))

some_pushed : (g : Groups) (n : ℕ) → (with_group n g).has_gap ≡ false → 1 ≤ (with_group n g).front_len
some_pushed g n = groups_elim (λ h. (with_group n h).has_gap ≡ false → 1 ≤ (with_group n h).front_len) g (λ _ no. absurd (cc)) (λ _ no. omega arith)

room_gapped : (g : Groups) → has_room 1 g ≡ true → g.has_gap ≡ false → has_room 0 (with_gap g) ≡ true
room_gapped g = groups_elim (λ h. has_room 1 h ≡ true → h.has_gap ≡ false → has_room 0 (with_gap h) ≡ true) g (λ _ room no. absurd (cc)) (λ _ room no. le-leb _ _ (omega (arith, leb-true _ _ room)))

after_seen : (g : Groups) (d : Digits) (next : Six) (b : ℕ) (seen : List ℕ) → SeenSix (Group g d) seen → after_digits g d b ≡ Some next → SeenSix next (seen ++ b ∷ [])
after_seen g d next b seen s is =
    ⊎_elim (λ t. colon t (guarded (has_room 2 g) _ next (sym (cond-true _ _ _ t) ∙ is)))
    (λ f. ⊎_elim (λ t. dot t (guarded (has_room_for_dotted g) _ next (sym (cond-true _ _ _ t) ∙ sym (cond-false _ _ _ f) ∙ is)))
    (λ e. digit (mapped (Group g) (with_digit d b) next (sym (cond-false _ _ _ e) ∙ sym (cond-false _ _ _ f) ∙ is))) (cases_Bool (eqb b 46))) (cases_Bool (eqb b 58))
  where
    colon : eqb b 58 ≡ true → (has_room 2 g ≡ true) × (Some (Joined (with_group d.group g)) ≡ Some next) → SeenSix next (seen ++ b ∷ [])
    colon t h =
        let byte = eqb-true b 58 t in
        let next_is : Joined (with_group d.group g) ≡ next = cc in
        let text : seen ++ b ∷ [] ≡ s.0 ++ (s.1 ++ 58 ∷ []) = ap (λ (xs : List ℕ). xs ++ b ∷ []) s.2 ∙ append_assoc s.0 s.1 (b ∷ []) ∙ ap (λ (k : ℕ). s.0 ++ (s.1 ++ k ∷ [])) byte in
        subst (λ (f : Six). SeenSix f (seen ++ b ∷ [])) next_is (subst (λ (xs : List ℕ). Ready (with_group d.group g) xs) (sym text) (ready_push g s.0 s.1 d.group s.3 s.4.group), some_pushed g d.group, room_pushed g d.group h.0)

    number_of_text : (o : Option ℕ) (xs : List ℕ) (n : ℕ) → IfSome o (λ m. (m < 256) × (xs ≡ decimal m)) → o ≡ Some n → (n < 256) × (xs ≡ decimal n)
    number_of_text o xs n is same = let h : IfSome (Some n) (λ m. (m < 256) × (xs ≡ decimal m)) = subst (λ (p : Option ℕ). IfSome p (λ m. (m < 256) × (xs ≡ decimal m))) same is in h

    dot : eqb b 46 ≡ true → (has_room_for_dotted g ≡ true) × (option_map (λ a. Tail g (Second a None)) d.number ≡ Some next) → SeenSix next (seen ++ b ∷ [])
    dot t h =
        let byte = eqb-true b 46 t in
        let m = mapped (λ (a : ℕ). Tail g (Second a None)) d.number next h.1 in
        let number = number_of_text d.number s.1 m.0 s.4.number m.1 in
        let text : seen ++ b ∷ [] ≡ s.0 ++ (s.1 ++ b ∷ []) = ap (λ (xs : List ℕ). xs ++ b ∷ []) s.2 ∙ append_assoc s.0 s.1 (b ∷ []) in
        let first : s.1 ++ b ∷ [] ≡ decimal m.0 ++ 46 ∷ [] = ap (λ (xs : List ℕ). xs ++ b ∷ []) number.1 ∙ ap (λ (k : ℕ). decimal m.0 ++ k ∷ []) byte in
        subst (λ (f : Six). SeenSix f (seen ++ b ∷ [])) m.2 (s.0, s.1 ++ b ∷ [], text, s.3, (number.0, ([], first, refl)), h.0)

    digit : ((e : Digits) × (with_digit d b ≡ Some e) × (Group g e ≡ next)) → SeenSix next (seen ++ b ∷ [])
    digit m =
        let text : seen ++ b ∷ [] ≡ s.0 ++ (s.1 ++ b ∷ []) = ap (λ (xs : List ℕ). xs ++ b ∷ []) s.2 ∙ append_assoc s.0 s.1 (b ∷ []) in
        subst (λ (f : Six). SeenSix f (seen ++ b ∷ [])) m.2 (s.0, s.1 ++ b ∷ [], text, s.3, more_seen d m.0 b s.1 s.4 m.1, s.5)

pub six_seen : (front next : Six) (b : ℕ) (seen : List ℕ) → SeenSix front seen → six_step front b ≡ Some next → SeenSix next (seen ++ b ∷ [])
six_seen Start next b seen s is =
    ⊎_elim (λ t. let next_is : Colon ≡ next = (let e : Some Colon ≡ Some next = sym (cond-true _ _ _ t) ∙ is in cc) in
    subst (λ (f : Six). SeenSix f (seen ++ b ∷ [])) next_is (ap (λ (xs : List ℕ). xs ++ b ∷ []) s ∙ ap (λ (k : ℕ). k ∷ []) (eqb-true b 58 t)))
    (λ f. subst (λ (xs : List ℕ). SeenSix next (xs ++ b ∷ [])) (sym s) (begun_seen no_groups next b [] ready_none (sym (cond-false _ _ _ f) ∙ is))) (cases_Bool (eqb b 58))
six_seen Colon next b seen s is =
    let h = guarded (eqb b 58) _ next is in
    let next_is : Gap (with_gap no_groups) ≡ next = (let e = h.1 in cc) in
    let text : seen ++ b ∷ [] ≡ 58 ∷ 58 ∷ [] = ap (λ (xs : List ℕ). xs ++ b ∷ []) s ∙ ap (λ (k : ℕ). 58 ∷ k ∷ []) (eqb-true b 58 h.0) in
    subst (λ (f : Six). SeenSix f (seen ++ b ∷ [])) next_is (record { front = []; back = []; holds = record { front_is = refl; front_len = refl; back_is = refl; back_len = refl }; text = (58 ∷ [], [], text, refl, refl) }, refl, refl, refl)
six_seen (Joined g) next b seen s is =
    ⊎_elim (λ t. let parts = and_parts (eqb b 58) (not g.has_gap) t in
    let next_is : Gap (with_gap g) ≡ next = (let e : Some (Gap (with_gap g)) ≡ Some next = sym (cond-true _ _ _ t) ∙ is in cc) in
    let no = not-true _ parts.1 in
    let text : seen ++ 58 ∷ [] ≡ seen ++ b ∷ [] = ap (λ (k : ℕ). seen ++ k ∷ []) (sym (eqb-true b 58 parts.0)) in
    subst (λ (f : Six). SeenSix f (seen ++ b ∷ [])) next_is (subst (λ (xs : List ℕ). Ready (with_gap g) xs) text (ready_gap g seen s.0 no (s.1 no)), refl, none_behind g seen s.0 no, room_gapped g s.2 no))
    (λ f. begun_seen g next b seen s.0 (sym (cond-false _ _ _ f) ∙ is)) (cases_Bool (eqb b 58 && not g.has_gap))
  where
    none_behind : (g : Groups) (led : List ℕ) → Ready g led → g.has_gap ≡ false → g.back_len ≡ 0
    none_behind g led = groups_elim (λ h. Ready h led → h.has_gap ≡ false → h.back_len ≡ 0) g (λ _ r no. absurd (cc)) (λ _ r no. r.holds.back_len ∙ ap length r.text.0)
six_seen (Gap g) next b seen s is = begun_seen g next b seen s.0 is
six_seen (Group g d) next b seen s is = after_seen g d next b seen s is
six_seen (Tail g d) next b seen s is =
    let h = mapped (Tail g) (dotted_step d b) next is in
    let text : seen ++ b ∷ [] ≡ s.0 ++ (s.1 ++ b ∷ []) = ap (λ (xs : List ℕ). xs ++ b ∷ []) s.2 ∙ append_assoc s.0 s.1 (b ∷ []) in
    subst (λ (f : Six). SeenSix f (seen ++ b ∷ [])) h.2 (s.0, s.1 ++ b ∷ [], text, s.3, dotted_seen d h.0 b s.1 s.4 h.1, s.5)

-- the text before a gap
before_joined : (one : List ℕ) (front : List ℕ) → IsBefore one front → (before : List ℕ) × (one ≡ before ++ 58 ∷ []) × AreJoined before front
before_joined one [] is = ([], is, refl)
before_joined one (g ∷ gs) is = led_joined one g gs is

-- what stands behind a gap
ends_shortened : (g : Groups) (led last : List ℕ) (front back : List ℕ) (one two : List ℕ) → Holds g front back → led ≡ one ++ 58 ∷ two → IsBefore one front → AreWritten (two ++ last) back → length front + length back ≤ 7 → IsShortened (led ++ last) (groups_value g)
ends_shortened g led last front back one two holds is before written few =
    let joined = before_joined one front before in
    let text : led ++ last ≡ joined.0 ++ 58 ∷ 58 ∷ (two ++ last) =
    ap (λ (xs : List ℕ). xs ++ last) (is ∙ ap (λ (xs : List ℕ). xs ++ 58 ∷ two) joined.1 ∙ append_assoc joined.0 (58 ∷ []) (58 ∷ two)) ∙ append_assoc joined.0 (58 ∷ 58 ∷ two) last in
    record { before = joined.0; after = two ++ last; front = front; back = back; parts = text; written_before = joined.2; written_after = written; fewer = few; valued = holds_shortened g front back holds few }

-- groups, one after the other
abbrev pub with_all : List ℕ → Groups → Groups
with_all [] g = g
with_all (n ∷ gs) g = with_all gs (with_group n g)

pub push_gap : (g : Groups) (n : ℕ) → g.has_gap ≡ true → (with_group n g).has_gap ≡ true
push_gap g n = groups_elim (λ h. h.has_gap ≡ true → (with_group n h).has_gap ≡ true) g (λ _ e. refl) (λ _ e. absurd (cc))

pub push_plain : (g : Groups) (n : ℕ) → g.has_gap ≡ false → (with_group n g).has_gap ≡ false
push_plain g n = groups_elim (λ h. h.has_gap ≡ false → (with_group n h).has_gap ≡ false) g (λ _ e. absurd (cc)) (λ _ e. refl)

holds_gap : (g : Groups) (front back : List ℕ) (n : ℕ) → g.has_gap ≡ true → Holds g front back → Holds (with_group n g) front (back ++ n ∷ [])
holds_gap g front back n =
    groups_elim (λ h. h.has_gap ≡ true → Holds h front back → Holds (with_group n h) front (back ++ n ∷ [])) g
    (λ _ e r. record { front_is = r.front_is; front_len = r.front_len; back_is = rw (number_of-push, r.back_is) refl; back_len = omega (arith, r.back_len, length-append back (n ∷ [])) })
    (λ _ e r. absurd (cc))

holds_plain : (g : Groups) (front back : List ℕ) (n : ℕ) → g.has_gap ≡ false → Holds g front back → Holds (with_group n g) (front ++ n ∷ []) back
holds_plain g front back n =
    groups_elim (λ h. h.has_gap ≡ false → Holds h front back → Holds (with_group n h) (front ++ n ∷ []) back) g
    (λ _ e r. absurd (cc))
    (λ _ e r. record { front_is = rw (number_of-push, r.front_is) refl; front_len = omega (arith, r.front_len, length-append front (n ∷ [])); back_is = r.back_is; back_len = r.back_len })

pub holds_all_gap : (gs : List ℕ) (g : Groups) (front back : List ℕ) → g.has_gap ≡ true → Holds g front back → Holds (with_all gs g) front (back ++ gs)
holds_all_gap [] g front back e h = subst (λ (xs : List ℕ). Holds g front xs) (sym (append-nil back)) h
holds_all_gap (n ∷ gs) g front back e h =
    subst (λ (xs : List ℕ). Holds (with_all gs (with_group n g)) front xs) (append_assoc back (n ∷ []) gs) (holds_all_gap gs (with_group n g) front (back ++ n ∷ []) (push_gap g n e) (holds_gap g front back n e h))

pub holds_all_plain : (gs : List ℕ) (g : Groups) (front back : List ℕ) → g.has_gap ≡ false → Holds g front back → Holds (with_all gs g) (front ++ gs) back
holds_all_plain [] g front back e h = subst (λ (xs : List ℕ). Holds g xs back) (sym (append-nil front)) h
holds_all_plain (n ∷ gs) g front back e h =
    subst (λ (xs : List ℕ). Holds (with_all gs (with_group n g)) xs back) (append_assoc front (n ∷ []) gs) (holds_all_plain gs (with_group n g) (front ++ n ∷ []) back (push_plain g n e) (holds_plain g front back n e h))

-- so many groups end an address
pub record EndRoom (g : Groups) (count : ℕ) : Type 0 where
  pub gap : g.has_gap ≡ true → g.front_len + g.back_len + count ≤ 7
  pub plain : g.has_gap ≡ false → g.front_len + count ≡ 8

-- a front that ends with these groups is an address
ends_in : (g : Groups) (led last gs : List ℕ) → Ready g led → EndRoom g (length gs) → ((text before : List ℕ) → AreLed text before → AreWritten (text ++ last) (before ++ gs)) → IsAddress (led ++ last) (V6 (groups_value (with_all gs g)))
ends_in g led last gs =
    groups_elim (λ h. Ready h led → EndRoom h (length gs) → ((text before : List ℕ) → AreLed text before → AreWritten (text ++ last) (before ++ gs)) → IsAddress (led ++ last) (V6 (groups_value (with_all gs h)))) g
    (λ _ r room written.
    let few = room.gap refl in
    let len = length-append r.back gs in
    inr (ends_shortened (with_all gs (record g { has_gap = true })) led last r.front (r.back ++ gs) r.text.0 r.text.1 (holds_all_gap gs (record g { has_gap = true }) r.front r.back refl r.holds) r.text.2 r.text.3 (written r.text.1 r.back r.text.4) (omega (arith, r.holds.front_len, r.holds.back_len))))
    (λ _ r room written.
    let eight = room.plain refl in
    let holds = subst (λ (xs : List ℕ). Holds (with_all gs (record g { has_gap = false })) (r.front ++ gs) xs) r.text.0 (holds_all_plain gs (record g { has_gap = false }) r.front r.back refl r.holds) in
    let len : length (r.front ++ gs) ≡ 8 = omega (arith, length-append r.front gs, r.holds.front_len) in
    inl (record { groups = r.front ++ gs; written = written led r.front r.text.1; eight = len; valued = holds_whole (with_all gs (record g { has_gap = false })) (r.front ++ gs) holds len }))

end_room_one : (g : Groups) (n : ℕ) → has_room 1 g ≡ true → is_whole (with_group n g) ≡ true → EndRoom g 1
end_room_one g n =
    groups_elim (λ h. has_room 1 h ≡ true → is_whole (with_group n h) ≡ true → EndRoom h 1) g
    (λ _ room whole. record { gap = λ _. leb-true _ _ room; plain = λ e. absurd (cc) })
    (λ _ room whole. record { gap = λ e. absurd (cc); plain = λ _. eqb-true _ 8 whole })

end_room_two : (g : Groups) → has_room_for_dotted g ≡ true → EndRoom g 2
end_room_two g =
    groups_elim (λ h. has_room_for_dotted h ≡ true → EndRoom h 2) g
    (λ _ room. let parts = and_parts (leb (g.front_len + g.back_len + 2) 7) true room in record { gap = λ _. leb-true _ _ parts.0; plain = λ e. absurd (cc) })
    (λ _ room. let parts = and_parts (leb (g.front_len + g.back_len + 2) 8) (eqb g.front_len 6) room in record { gap = λ e. absurd (cc); plain = λ _. omega (arith, eqb-true g.front_len 6 parts.1) })

pub six_ends : (front : Six) (value : ℕ) (seen : List ℕ) → SeenSix front seen → six_value front ≡ Some value → IsAddress seen (V6 value)
six_ends Start value seen s is = absurd (cc)
six_ends Colon value seen s is = absurd (cc)
six_ends (Joined g) value seen s is = absurd (cc)
six_ends (Gap g) value seen s is =
    let valued : groups_value g ≡ value = cc in
    subst (λ (v : ℕ). IsAddress seen (V6 v)) valued (gap g seen s.0 s.1 s.2 s.3)
  where
    alone : (two back : List ℕ) → AreLed two back → length back ≡ 0 → AreWritten (two ++ []) back
    alone two [] led none = append-nil two ∙ led
    alone two (g ∷ gs) led none = absurd (omega arith)

    gap : (g : Groups) (seen : List ℕ) → Ready g seen → g.has_gap ≡ true → g.back_len ≡ 0 → has_room 0 g ≡ true → IsAddress seen (V6 (groups_value g))
    gap g seen =
        groups_elim (λ h. Ready h seen → h.has_gap ≡ true → h.back_len ≡ 0 → has_room 0 h ≡ true → IsAddress seen (V6 (groups_value h))) g
        (λ _ r e none room. inr (subst (λ (xs : List ℕ). IsShortened xs (groups_value (record g { has_gap = true }))) (append-nil seen)
        (ends_shortened (record g { has_gap = true }) seen [] r.front r.back r.text.0 r.text.1 r.holds r.text.2 r.text.3 (alone r.text.1 r.back r.text.4 (omega (arith, r.holds.back_len))) (omega (arith, leb-true _ _ room, r.holds.front_len, r.holds.back_len)))))
        (λ _ r e none room. absurd (cc))
six_ends (Group g d) value seen s is =
    let h = guarded (is_whole (with_group d.group g)) (Some (groups_value (with_group d.group g))) value is in
    let valued : groups_value (with_group d.group g) ≡ value = (let e = h.1 in cc) in
    subst (λ (xs : List ℕ). IsAddress xs (V6 value)) (sym s.2) (subst (λ (v : ℕ). IsAddress (s.0 ++ s.1) (V6 v)) valued
    (ends_in g s.0 s.1 (d.group ∷ []) s.3 (end_room_one g d.group s.5 h.0) (λ text before led. led_written text before s.1 d.group led s.4.group)))
six_ends (Tail g d) value seen s is =
    let h = mapped (λ (n : ℕ). groups_value (with_group (n % 65536) (with_group (n / 65536) g))) (dotted_value d) value is in
    subst (λ (xs : List ℕ). IsAddress xs (V6 value)) (sym s.2) (subst (λ (v : ℕ). IsAddress (s.0 ++ s.1) (V6 v)) h.2
    (ends_in g s.0 s.1 (h.0 / 65536 ∷ h.0 % 65536 ∷ []) s.3 (end_room_two g s.5) (λ text before led. led_dotted text before s.1 h.0 led (dotted_ends d h.0 s.1 s.4 h.1))))

six_run_is : (front : Six) (text seen : List ℕ) (value : ℕ) → SeenSix front seen → six_run front text ≡ Some value → IsAddress (seen ++ text) (V6 value)
six_run_is front [] seen value s is = subst (λ (xs : List ℕ). IsAddress xs (V6 value)) (sym (append-nil seen)) (six_ends front value seen s is)
six_run_is front (b ∷ bs) seen value s is =
    let h = some_next (λ next. six_run next bs) (six_step front b) value is in
    subst (λ (xs : List ℕ). IsAddress xs (V6 value)) (append_assoc seen (b ∷ []) bs) (six_run_is h.0 bs (seen ++ b ∷ []) value (six_seen front h.0 b seen s h.1) h.2)
  where
    some_next : {A B : Type 0} (f : A → Option B) (o : Option A) (y : B) → option_and_then f o ≡ Some y → (x : A) × (o ≡ Some x) × (f x ≡ Some y)
    some_next f None y is = absurd (cc)
    some_next f (Some x) y is = (x, refl, is)

-- what is read as an IPv6 address is one
pub six_from : (text : List ℕ) (value : ℕ) → six_of text ≡ Some value → IsAddress text (V6 value)
six_from text value is = six_run_is Start text [] value refl is
