-- Sixteen bytes are told by the number that they write.
use Rattle.std.proofs.Common.{◌≡◌, ℕ, ◌<◌, ◌≤◌, ◌+◌, ◌-◌, ◌*◌, ◌^◌, List, ◌++◌, length, take, drop, get_or, replicate, nat_eq, bytes_eq, w64, refl, ap, sym, ◌∙◌, arith, length-drop, length-take-le, ltb-true, ltb-false, nat_lt, Bool, true, false}
use Rattle.std.specs.Int.{from_le_bytes, to_le_bytes, w128}
use Rattle.std.proofs.lemmas.Bool.{eqb-true, eq-eqb}
use Rattle.std.proofs.lemmas.Bool.Decides.{same_from_decides}
use Rattle.std.proofs.lemmas.Nat.{le_bytes_8}
use Rattle.std.proofs.lemmas.Slice.Eq.{bytes_eq-Decides}
use Rattle.std.proofs.lemmas.List.{take-append-drop, get_or-take, get_or-drop, get_or_past}

abbrev AreBytes : List ℕ → Type 0
AreBytes ys = (i : ℕ) → get_or ys i 0 < 256

below : (ys : List ℕ) → AreBytes ys → from_le_bytes w64 ys < 2 ^ 64
below ys small = omega (arith, small 0, small 1, small 2, small 3, small 4, small 5, small 6, small 7)

same_low : (xs ys : List ℕ) → AreBytes xs → AreBytes ys → length xs ≡ 8 → length ys ≡ 8 → from_le_bytes w64 xs ≡ from_le_bytes w64 ys → xs ≡ ys
same_low xs ys small few eight too is = sym (le_bytes_8 xs (from_le_bytes w64 xs) eight small refl) ∙ ap (to_le_bytes w64) is ∙ le_bytes_8 ys (from_le_bytes w64 ys) too few refl

halves : (ys : List ℕ) → from_le_bytes w128 ys ≡ from_le_bytes w64 (take 8 ys) + 2 ^ 64 * from_le_bytes w64 (drop 8 ys)
halves ys = omega (
  arith,
  get_or-take 8 ys 0 0 (omega arith),
  get_or-take 8 ys 1 0 (omega arith),
  get_or-take 8 ys 2 0 (omega arith),
  get_or-take 8 ys 3 0 (omega arith),
  get_or-take 8 ys 4 0 (omega arith),
  get_or-take 8 ys 5 0 (omega arith),
  get_or-take 8 ys 6 0 (omega arith),
  get_or-take 8 ys 7 0 (omega arith),
  get_or-drop 8 ys 0 0,
  get_or-drop 8 ys 1 0,
  get_or-drop 8 ys 2 0,
  get_or-drop 8 ys 3 0,
  get_or-drop 8 ys 4 0,
  get_or-drop 8 ys 5 0,
  get_or-drop 8 ys 6 0,
  get_or-drop 8 ys 7 0,
)

front_bytes : (n : ℕ) (xs : List ℕ) → n ≤ length xs → AreBytes xs → AreBytes (take n xs)
front_bytes n xs within small i = by_test (nat_lt i n) refl where
  by_test : (b : Bool) → nat_lt i n ≡ b → get_or (take n xs) i 0 < 256
  by_test true is = rw (get_or-take n xs i 0 (ltb-true _ _ is)) (small i)
  by_test false is = rw (get_or_past (take n xs) i 0 (rw (length-take-le n xs within) (ltb-false _ _ is))) (omega arith)

back_bytes : (n : ℕ) (xs : List ℕ) → AreBytes xs → AreBytes (drop n xs)
back_bytes n xs small i = rw (get_or-drop n xs i 0) (small (n + i))

digits : (a b c d : ℕ) → a < 2 ^ 64 → c < 2 ^ 64 → a + 2 ^ 64 * b ≡ c + 2 ^ 64 * d → (a ≡ c) × (b ≡ d)
digits a b c d one other is = (omega (arith, one, other, is), omega (arith, one, other, is))

same_bytes : (xs ys : List ℕ) → ((i : ℕ) → get_or xs i 0 < 256) → ((i : ℕ) → get_or ys i 0 < 256) → length xs ≡ 16 → length ys ≡ 16 → from_le_bytes w128 xs ≡ from_le_bytes w128 ys → xs ≡ ys
same_bytes xs ys small few long too is =
    let x = front_bytes 8 xs (omega (arith, long)) small in
    let y = front_bytes 8 ys (omega (arith, too)) few in
    let numbers : from_le_bytes w64 (take 8 xs) + 2 ^ 64 * from_le_bytes w64 (drop 8 xs) ≡ from_le_bytes w64 (take 8 ys) + 2 ^ 64 * from_le_bytes w64 (drop 8 ys) = sym (halves xs) ∙ is ∙ halves ys in
    let front = same_low (take 8 xs) (take 8 ys) x y (length-take-le 8 xs (omega (arith, long))) (length-take-le 8 ys (omega (arith, too))) (digits _ _ _ _ (below (take 8 xs) x) (below (take 8 ys) y) numbers).0 in
    let back = same_low (drop 8 xs) (drop 8 ys) (back_bytes 8 xs small) (back_bytes 8 ys few) (omega (arith, length-drop 8 xs, long)) (omega (arith, length-drop 8 ys, too)) (digits _ _ _ _ (below (take 8 xs) x) (below (take 8 ys) y) numbers).1 in
    sym (take-append-drop 8 xs) ∙ ap (λ a. a ++ drop 8 xs) front ∙ ap (λ b. take 8 ys ++ b) back ∙ take-append-drop 8 ys

-- the numbers of two arrays are the same where the arrays are
pub same_numbers : (xs ys : List ℕ) (a b : ℕ) → ((i : ℕ) → get_or xs i 0 < 256) → ((i : ℕ) → get_or ys i 0 < 256) → length xs ≡ 16 → length ys ≡ 16 → a ≡ from_le_bytes w128 xs → b ≡ from_le_bytes w128 ys
    → nat_eq a b ≡ bytes_eq xs ys
same_numbers xs ys a b small few long too is is' = same_from_decides (nat_eq a b) (bytes_eq xs ys)
    (λ yes. same_bytes xs ys small few long too (sym is ∙ eqb-true a b yes ∙ is'), λ all. eq-eqb a b (is ∙ ap (from_le_bytes w128) all ∙ sym is'))
    (bytes_eq-Decides xs ys)

-- the fronts of two arrays whose rests are 0 are the same where the arrays are
pub same_fronts : (n m : ℕ) (xs ys : List ℕ) → n ≡ m → drop n xs ≡ replicate (16 - n) 0 → drop m ys ≡ replicate (16 - m) 0 → bytes_eq xs ys ≡ bytes_eq (take n xs) (take m ys)
same_fronts n m xs ys same rest other =
    let rests : drop n xs ≡ drop m ys = rest ∙ ap (λ k. replicate (16 - k) 0) same ∙ sym other in
    let whole : take n xs ≡ take m ys → xs ≡ ys = λ front. sym (take-append-drop n xs) ∙ ap (λ f. f ++ drop n xs) front ∙ ap (λ r. take m ys ++ r) rests ∙ take-append-drop m ys in
    same_from_decides (bytes_eq xs ys) (bytes_eq (take n xs) (take m ys))
    (λ yes. ap (take n) ((bytes_eq-Decides xs ys).0 yes) ∙ ap (λ k. take k ys) same, λ front. (bytes_eq-Decides xs ys).1 (whole front))
    (bytes_eq-Decides (take n xs) (take m ys))
