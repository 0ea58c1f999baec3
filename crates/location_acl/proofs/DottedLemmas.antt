-- Reading an IPv4 address against its grammar.
use Rattle.std.proofs.Common.{◌≡◌, ℕ, ◌+◌, ◌-◌, ◌*◌, ◌/◌, ◌%◌, ◌^◌, ◌<◌, ◌≤◌, leb, ltb, eqb, Bool, true, false, cond, List, [], ◌∷◌, ◌++◌, Option, Some, None, refl, ap, sym, subst, ◌∙◌, arith, ⊎_elim, append_assoc, append-nil, inl, inr, ◌⊎◌, IsSome, decimal}
use Rattle.std.specs.Prelude.{◌&&◌, nat_lt, nat_le, option_map, option_and_then}
use Rattle.std.specs.Char.{is_ascii_digit}
use Rattle.std.proofs.lemmas.Bool.{cases_Bool, and_parts, and_from, cond-true, cond-false, lt-ltb, le-leb, leb-true, ltb-true, eqb-true, ne_eqb}
use Rattle.std.proofs.lemmas.Fmt.{decimal_digit, decimal_step, decimal_by_steps}
use Rattle.location_acl.specs.declared.dotted.Dotted.{Dotted}
use Rattle.location_acl.specs.declared.dotted.Dotted.TheVariants.{First, Second, Third, Fourth}
use Rattle.location_acl.specs.Dotted.{number_with, dotted_step, dotted_value, dotted_run, dotted_of, IsDotted}

-- the text of a number that has begun, or none
abbrev pub SeenNumber : Option ℕ → List ℕ → Type 0
SeenNumber None seen = seen ≡ []
SeenNumber (Some n) seen = (n < 256) × (seen ≡ decimal n)

digit_range : (b : ℕ) → is_ascii_digit b ≡ true → (48 ≤ b) × (b ≤ 57)
digit_range b h =
    let parts = and_parts (leb 48 b) (leb b 57) h in
    (leb-true 48 b parts.0, leb-true b 57 parts.1)

chosen : {A : Type 0} (t : Bool) (x y : A) → cond t (Some x) None ≡ Some y → (t ≡ true) × (x ≡ y)
chosen true x y is = (refl, cc)
chosen false x y is = absurd (cc)

decimal_more : (n d m : ℕ) → 0 < n → d < 10 → m ≡ n * 10 + d → m < 2 ^ 64 → decimal m ≡ decimal n ++ ((48 + d) ∷ [])
decimal_more n d m some digit is small =
    let front : m / 10 ≡ n = omega arith in
    let last : m % 10 ≡ d = omega arith in
    decimal_step m (omega arith) small ∙ ap (λ (k : ℕ). decimal k ++ ((48 + m % 10) ∷ [])) front ∙ ap (λ (k : ℕ). decimal n ++ ((48 + k) ∷ [])) last

-- one more digit of a number
pub number_seen : (number : Option ℕ) (b m : ℕ) (seen : List ℕ) → SeenNumber number seen → number_with number b ≡ Some m → (m < 256) × (seen ++ b ∷ [] ≡ decimal m)
number_seen None b m seen s is =
    let h = chosen (is_ascii_digit b) (b - 48) m is in
    let range = digit_range b h.0 in
    let byte : 48 + m ≡ b = omega (arith, h.1) in
    let small : m < 10 = omega (arith, h.1) in
    (omega (arith, h.1), ap (λ (xs : List ℕ). xs ++ b ∷ []) s ∙ ap (λ (k : ℕ). k ∷ []) (sym byte) ∙ sym (decimal_digit m small))
number_seen (Some n) b m seen s is =
    let h = chosen (is_ascii_digit b && (nat_lt 0 n && nat_le (n * 10 + (b - 48)) 255)) (n * 10 + (b - 48)) m is in
    let digit = and_parts (is_ascii_digit b) _ h.0 in
    let bounds = and_parts (nat_lt 0 n) _ digit.1 in
    let range = digit_range b digit.0 in
    let some = ltb-true _ _ bounds.0 in
    let most = leb-true _ _ bounds.1 in
    let byte : 48 + (b - 48) ≡ b = omega arith in
    (omega (arith, h.1), ap (λ (xs : List ℕ). xs ++ b ∷ []) s.1 ∙ ap (λ (k : ℕ). decimal n ++ (k ∷ [])) (sym byte) ∙ sym (decimal_more n (b - 48) m some (omega arith) (sym h.1) (omega (arith, h.1))))

-- a digit of a number is read
first_of_number : (n : ℕ) → n < 10 → number_with None (48 + n) ≡ Some n
first_of_number n small =
    let low : leb 48 (48 + n) ≡ true = le-leb _ _ (omega arith) in
    let high : leb (48 + n) 57 ≡ true = le-leb _ _ (omega arith) in
    let value : 48 + n - 48 ≡ n = omega arith in
    cond-true (is_ascii_digit (48 + n)) _ _ (and_from (leb 48 (48 + n)) _ low high) ∙ ap Some value

more_of_number : (n : ℕ) → 10 ≤ n → n < 256 → number_with (Some (n / 10)) (48 + n % 10) ≡ Some n
more_of_number n some small =
    let low : leb 48 (48 + n % 10) ≡ true = le-leb _ _ (omega arith) in
    let high : leb (48 + n % 10) 57 ≡ true = le-leb _ _ (omega arith) in
    let lead : ltb 0 (n / 10) ≡ true = lt-ltb _ _ (omega arith) in
    let value : n / 10 * 10 + (48 + n % 10 - 48) ≡ n = omega arith in
    let most : leb (n / 10 * 10 + (48 + n % 10 - 48)) 255 ≡ true = le-leb _ _ (omega arith) in
    cond-true _ _ _ (and_from (is_ascii_digit (48 + n % 10)) _ (and_from (leb 48 (48 + n % 10)) _ low high) (and_from (ltb 0 (n / 10)) _ lead most)) ∙ ap Some value

-- what reads a number digit by digit reads what `decimal` writes
pub along_decimal : {R : Type 0} (go : Option ℕ → List ℕ → R) → ((number : Option ℕ) (b m : ℕ) (bs : List ℕ) → number_with number b ≡ Some m → go number (b ∷ bs) ≡ go (Some m) bs) → (n : ℕ) (rest : List ℕ) → n < 256 → go None (decimal n ++ rest) ≡ go (Some n) rest
along_decimal {R = R} go step n rest small =
    decimal_by_steps (λ (k : ℕ) (ds : List ℕ). k < 256 → (more : List ℕ) → go None (ds ++ more) ≡ go (Some k) more)
    (λ k one below more. step None (48 + k) k more (first_of_number k one))
    (λ k ds ten before below more. ap (λ (xs : List ℕ). go None xs) (append_assoc ds ((48 + k % 10) ∷ []) more) ∙ before (omega arith) ((48 + k % 10) ∷ more) ∙ step (Some (k / 10)) (48 + k % 10) k more (more_of_number k ten below))
    n (omega arith) small rest

not_dot : (number : Option ℕ) (b m : ℕ) → number_with number b ≡ Some m → eqb b 46 ≡ false
not_dot None b m is =
    let range = digit_range b (chosen (is_ascii_digit b) _ _ is).0 in
    ne_eqb b 46 (λ same. omega (arith, same))
not_dot (Some n) b m is =
    let range = digit_range b (and_parts (is_ascii_digit b) _ (chosen (is_ascii_digit b && (nat_lt 0 n && nat_le (n * 10 + (b - 48)) 255)) _ _ is).0).0 in
    ne_eqb b 46 (λ same. omega (arith, same))

-- the text of a front
abbrev pub SeenDotted : Dotted → List ℕ → Type 0
SeenDotted (First number) seen = SeenNumber number seen
SeenDotted (Second a number) seen = (a < 256) × ((x : List ℕ) × (seen ≡ decimal a ++ 46 ∷ x) × SeenNumber number x)
SeenDotted (Third a b number) seen =
    (a < 256) × (b < 256) × ((x : List ℕ) × (seen ≡ decimal a ++ 46 ∷ (decimal b ++ 46 ∷ x)) × SeenNumber number x)
SeenDotted (Fourth a b c number) seen =
    (a < 256) × (b < 256) × (c < 256) × ((x : List ℕ) × (seen ≡ decimal a ++ 46 ∷ (decimal b ++ 46 ∷ (decimal c ++ 46 ∷ x))) × SeenNumber number x)

after_dot : (seen : List ℕ) (n b : ℕ) → eqb b 46 ≡ true → seen ≡ decimal n → seen ++ b ∷ [] ≡ decimal n ++ 46 ∷ []
after_dot seen n b dot is = ap (λ (xs : List ℕ). xs ++ b ∷ []) is ∙ ap (λ (k : ℕ). decimal n ++ k ∷ []) (eqb-true b 46 dot)

behind : (a : ℕ) (seen x y : List ℕ) (b : ℕ) → seen ≡ decimal a ++ 46 ∷ x → x ++ b ∷ [] ≡ y → seen ++ b ∷ [] ≡ decimal a ++ 46 ∷ y
behind a seen x y b is more = ap (λ (xs : List ℕ). xs ++ b ∷ []) is ∙ append_assoc (decimal a) (46 ∷ x) (b ∷ []) ∙ ap (λ (xs : List ℕ). decimal a ++ 46 ∷ xs) more

-- what a step makes of a number: it is complete, or has one digit more
step_cases : {A : Type 0} (number : Option ℕ) (byte : ℕ) (next : A) (dot : ℕ → A) (digit : ℕ → A) → cond (eqb byte 46) (option_map dot number) (option_map digit (number_with number byte)) ≡ Some next →
    ((n : ℕ) × (number ≡ Some n) × (eqb byte 46 ≡ true) × (dot n ≡ next)) ⊎ ((m : ℕ) × (number_with number byte ≡ Some m) × (digit m ≡ next))
step_cases number byte next dot digit is =
    ⊎_elim (λ t. inl (dots number next dot (sym (cond-true _ _ _ t) ∙ is) byte t)) (λ f. inr (digits (number_with number byte) next digit (sym (cond-false _ _ _ f) ∙ is))) (cases_Bool (eqb byte 46))
  where
    dots : {A : Type 0} (number : Option ℕ) (next : A) (dot : ℕ → A) → option_map dot number ≡ Some next → (byte : ℕ) → eqb byte 46 ≡ true → (n : ℕ) × (number ≡ Some n) × (eqb byte 46 ≡ true) × (dot n ≡ next)
    dots None next dot is byte t = absurd (cc)
    dots (Some n) next dot is byte t = (n, refl, t, cc)

    digits : {A : Type 0} (more : Option ℕ) (next : A) (digit : ℕ → A) → option_map digit more ≡ Some next → (m : ℕ) × (more ≡ Some m) × (digit m ≡ next)
    digits None next digit is = absurd (cc)
    digits (Some m) next digit is = (m, refl, cc)

seen_dot : (number : Option ℕ) (n b : ℕ) (seen : List ℕ) → SeenNumber number seen → number ≡ Some n → eqb b 46 ≡ true → (n < 256) × (seen ++ b ∷ [] ≡ decimal n ++ 46 ∷ [])
seen_dot number n b seen s is dot =
    let h : SeenNumber (Some n) seen = subst (λ (o : Option ℕ). SeenNumber o seen) is s in
    (h.0, after_dot seen n b dot h.1)

pub dotted_seen : (front next : Dotted) (b : ℕ) (seen : List ℕ) → SeenDotted front seen → dotted_step front b ≡ Some next → SeenDotted next (seen ++ b ∷ [])
dotted_seen (First number) next b seen s is =
    ⊎_elim (λ h. let d = seen_dot number h.0 b seen s h.1 h.2 in subst (λ (f : Dotted). SeenDotted f (seen ++ b ∷ [])) h.3 (d.0, ([], d.1, refl)))
    (λ h. subst (λ (f : Dotted). SeenDotted f (seen ++ b ∷ [])) h.2 (number_seen number b h.0 seen s h.1))
    (step_cases number b next (λ a. Second a None) (λ n. First (Some n)) is)
dotted_seen (Second a number) next b seen s is =
    let x = s.1.0 in
    ⊎_elim (λ h. let d = seen_dot number h.0 b x s.1.2 h.1 h.2 in subst (λ (f : Dotted). SeenDotted f (seen ++ b ∷ [])) h.3 (s.0, d.0, ([], behind a seen x _ b s.1.1 d.1, refl)))
    (λ h. let d = number_seen number b h.0 x s.1.2 h.1 in subst (λ (f : Dotted). SeenDotted f (seen ++ b ∷ [])) h.2 (s.0, (x ++ b ∷ [], behind a seen x _ b s.1.1 refl, d)))
    (step_cases number b next (λ n. Third a n None) (λ n. Second a (Some n)) is)
dotted_seen (Third a c number) next b seen s is =
    let x = s.2.0 in
    ⊎_elim (λ h. let d = seen_dot number h.0 b x s.2.2 h.1 h.2 in subst (λ (f : Dotted). SeenDotted f (seen ++ b ∷ [])) h.3 (s.0, s.1, d.0, ([], behind a seen _ _ b s.2.1 (behind c _ x _ b refl d.1), refl)))
    (λ h. let d = number_seen number b h.0 x s.2.2 h.1 in subst (λ (f : Dotted). SeenDotted f (seen ++ b ∷ [])) h.2 (s.0, s.1, (x ++ b ∷ [], behind a seen _ _ b s.2.1 (behind c _ x _ b refl refl), d)))
    (step_cases number b next (λ n. Fourth a c n None) (λ n. Third a c (Some n)) is)
dotted_seen (Fourth a c e number) next b seen s is =
    let x = s.3.0 in
    let h = digit_only (number_with number b) next (λ (n : ℕ). Fourth a c e (Some n)) is in
    let d = number_seen number b h.0 x s.3.2 h.1 in
    subst (λ (f : Dotted). SeenDotted f (seen ++ b ∷ [])) h.2 (s.0, s.1, s.2, (x ++ b ∷ [], behind a seen _ _ b s.3.1 (behind c _ _ _ b refl (behind e _ x _ b refl refl)), d))
  where
    digit_only : {A : Type 0} (more : Option ℕ) (next : A) (digit : ℕ → A) → option_map digit more ≡ Some next → (m : ℕ) × (more ≡ Some m) × (digit m ≡ next)
    digit_only None next digit is = absurd (cc)
    digit_only (Some m) next digit is = (m, refl, cc)

-- a front that is an address
pub dotted_ends : (front : Dotted) (value : ℕ) (seen : List ℕ) → SeenDotted front seen → dotted_value front ≡ Some value → IsDotted seen value
dotted_ends (First number) value seen s is = absurd (cc)
dotted_ends (Second a number) value seen s is = absurd (cc)
dotted_ends (Third a b number) value seen s is = absurd (cc)
dotted_ends (Fourth a b c None) value seen s is = absurd (cc)
dotted_ends (Fourth a b c (Some d)) value seen s is =
    let x = s.3.0 in
    let n = s.3.2 in
    let valued : a * 16777216 + b * 65536 + c * 256 + d ≡ value = cc in
    record { a = a; b = b; c = c; d = d; a_fits = s.0; b_fits = s.1; c_fits = s.2; d_fits = n.0; written = s.3.1 ∙ ap (λ (xs : List ℕ). decimal a ++ 46 ∷ (decimal b ++ 46 ∷ (decimal c ++ 46 ∷ xs))) n.1; valued = sym valued }

some_next : {A B : Type 0} (f : A → Option B) (o : Option A) (y : B) → option_and_then f o ≡ Some y → (x : A) × (o ≡ Some x) × (f x ≡ Some y)
some_next f None y is = absurd (cc)
some_next f (Some x) y is = (x, refl, is)

dotted_run_is : (front : Dotted) (text seen : List ℕ) (value : ℕ) → SeenDotted front seen → dotted_run front text ≡ Some value → IsDotted (seen ++ text) value
dotted_run_is front [] seen value s is = subst (λ (xs : List ℕ). IsDotted xs value) (sym (append-nil seen)) (dotted_ends front value seen s is)
dotted_run_is front (b ∷ bs) seen value s is =
    let h = some_next (λ next. dotted_run next bs) (dotted_step front b) value is in
    subst (λ (xs : List ℕ). IsDotted xs value) (append_assoc seen (b ∷ []) bs) (dotted_run_is h.0 bs (seen ++ b ∷ []) value (dotted_seen front h.0 b seen s h.1) h.2)

-- what is read as an IPv4 address is one
pub dotted_from : (text : List ℕ) (value : ℕ) → dotted_of text ≡ Some value → IsDotted text value
dotted_from text value is = dotted_run_is (First None) text [] value refl is

digit_step : (number : Option ℕ) (b m : ℕ) (bs : List ℕ) (make : Option ℕ → Dotted) → number_with number b ≡ Some m → (dotted_step (make number) b ≡ option_map (λ n. make (Some n)) (number_with number b)) → dotted_run (make number) (b ∷ bs) ≡ dotted_run (make (Some m)) bs
digit_step number b m bs make is step =
    ap (λ (o : Option Dotted). option_and_then (λ next. dotted_run next bs) o) (step ∙ ap (λ (o : Option ℕ). option_map (λ n. make (Some n)) o) is)

-- the rest of an address behind its first number
pub dotted_rest : (text : List ℕ) (value : ℕ) → (h : IsDotted text value) → dotted_run (Second h.a None) (decimal h.b ++ 46 ∷ (decimal h.c ++ 46 ∷ decimal h.d)) ≡ Some value
dotted_rest text value h =
    along_decimal (λ (o : Option ℕ) (bs : List ℕ). dotted_run (Second h.a o) bs) (λ number b m bs is. digit_step number b m bs (λ (o : Option ℕ). Second h.a o) is (cond-false _ _ _ (not_dot number b m is))) h.b (46 ∷ (decimal h.c ++ 46 ∷ decimal h.d)) h.b_fits
    ∙ along_decimal (λ (o : Option ℕ) (bs : List ℕ). dotted_run (Third h.a h.b o) bs) (λ number b m bs is. digit_step number b m bs (λ (o : Option ℕ). Third h.a h.b o) is (cond-false _ _ _ (not_dot number b m is))) h.c (46 ∷ decimal h.d) h.c_fits
    ∙ ap (λ (xs : List ℕ). dotted_run (Fourth h.a h.b h.c None) xs) (sym (append-nil (decimal h.d)))
    ∙ along_decimal (λ (o : Option ℕ) (bs : List ℕ). dotted_run (Fourth h.a h.b h.c o) bs) (λ number b m bs is. digit_step number b m bs (λ (o : Option ℕ). Fourth h.a h.b h.c o) is refl) h.d [] h.d_fits
    ∙ ap Some (sym h.valued)

-- what is written as an IPv4 address is read as it
pub dotted_is : (text : List ℕ) (value : ℕ) → IsDotted text value → dotted_of text ≡ Some value
dotted_is text value h =
    ap dotted_of h.written
    ∙ along_decimal (λ (o : Option ℕ) (bs : List ℕ). dotted_run (First o) bs) (λ number b m bs is. digit_step number b m bs (λ (o : Option ℕ). First o) is (cond-false _ _ _ (not_dot number b m is))) h.a (46 ∷ (decimal h.b ++ 46 ∷ (decimal h.c ++ 46 ∷ decimal h.d))) h.a_fits
    ∙ dotted_rest text value h

-- each front is that of some address
pub dotted_completes : (front : Dotted) → (rest : List ℕ) × IsSome (dotted_run front rest)
dotted_completes (First None) = (48 ∷ 46 ∷ 48 ∷ 46 ∷ 48 ∷ 46 ∷ 48 ∷ [], refl)
dotted_completes (First (Some a)) = (46 ∷ 48 ∷ 46 ∷ 48 ∷ 46 ∷ 48 ∷ [], refl)
dotted_completes (Second a None) = (48 ∷ 46 ∷ 48 ∷ 46 ∷ 48 ∷ [], refl)
dotted_completes (Second a (Some b)) = (46 ∷ 48 ∷ 46 ∷ 48 ∷ [], refl)
dotted_completes (Third a b None) = (48 ∷ 46 ∷ 48 ∷ [], refl)
dotted_completes (Third a b (Some c)) = (46 ∷ 48 ∷ [], refl)
dotted_completes (Fourth a b c None) = (48 ∷ [], refl)
dotted_completes (Fourth a b c (Some d)) = ([], refl)
