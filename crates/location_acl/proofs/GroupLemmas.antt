-- How large the numbers of groups are.
use Rattle.std.proofs.Common.{◌≡◌, ℕ, ◌+◌, ◌-◌, ◌*◌, ◌^◌, ◌<◌, ◌≤◌, suc, refl, arith, ap, sym, ◌∙◌, lit<, mul_assoc}
use Rattle.std.proofs.Math.Nat.{pow-suc, pow-le-pow_right, mul-le-mul_right}
use Rattle.std.proofs.lemmas.Nat.{pow-add}

-- one more place
pub next_power : (n : ℕ) → 65536 ^ (n + 1) ≡ 65536 ^ n * 65536
next_power n = ap (λ (k : ℕ). 65536 ^ k) (let e : n + 1 ≡ suc n = omega arith in e) ∙ pow-suc 65536 n

pub power-le : (i j : ℕ) → i ≤ j → 65536 ^ i ≤ 65536 ^ j
power-le i j h = pow-le-pow_right (lit< tt) h

-- one more group behind n others
pub pushed : (x n v : ℕ) → n < 8 → x < 65536 ^ n → v < 65536 → (x * 65536 + v < 65536 ^ (n + 1)) × (x * 65536 + v < 2 ^ 128)
pushed x n v few small group =
    let next = next_power n in
    let most : 65536 ^ (n + 1) ≤ 65536 ^ 8 = power-le (n + 1) 8 (omega arith) in
    let below : x * 65536 + v < 65536 ^ (n + 1) = omega arith in
    (below, omega arith)

-- groups before and behind the gap
pub joined_fits : (front m back n : ℕ) → m + n ≤ 8 → front < 65536 ^ m → back < 65536 ^ n → front * 65536 ^ (8 - m) + back < 2 ^ 128
joined_fits front m back n few small other =
    let rest : n ≤ 8 - m = omega arith in
    let fits = power-le n (8 - m) rest in
    let all : 65536 ^ (m + (8 - m)) ≡ 65536 ^ m * 65536 ^ (8 - m) = pow-add 65536 m (8 - m) in
    let eight : m + (8 - m) ≡ 8 = omega arith in
    let whole : 65536 ^ 8 ≡ 65536 ^ m * 65536 ^ (8 - m) = ap (λ (k : ℕ). 65536 ^ k) (sym eight) ∙ all in
    let scaled : (front + 1) * 65536 ^ (8 - m) ≤ 65536 ^ m * 65536 ^ (8 - m) = mul-le-mul_right (65536 ^ (8 - m)) (let h : front + 1 ≤ 65536 ^ m = omega arith in h) in
    let size : 65536 ^ 8 ≡ 2 ^ 128 = refl in
    omega arith

-- moved up by one place more
pub moved_up : (front high n m : ℕ) → high ≡ front * 65536 ^ n → m ≡ n + 1 → high * 65536 ≡ front * 65536 ^ m
moved_up front high n m is one =
    ap (λ (x : ℕ). x * 65536) is ∙ mul_assoc front (65536 ^ n) 65536 ∙ ap (λ (x : ℕ). front * x) (sym (next_power n)) ∙ ap (λ (k : ℕ). front * 65536 ^ k) (sym one)

-- the groups before the gap, moved up to their places
pub raised_fits : (front m back n high last : ℕ) → m + n ≤ 8 → front < 65536 ^ m → back < 65536 ^ n → last ≡ 8 → high ≡ front * 65536 ^ (last - m) → (high + back < 2 ^ 128) × (high + back ≡ front * 65536 ^ (8 - m) + back)
raised_fits front m back n high last few small other eight is =
    let same : high ≡ front * 65536 ^ (8 - m) = is ∙ ap (λ (k : ℕ). front * 65536 ^ (k - m)) eight in
    let fits = joined_fits front m back n few small other in
    (omega arith, omega arith)
