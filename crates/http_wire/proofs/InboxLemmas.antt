-- Moving and filling the bytes of an inbox.
use Rattle.std.proofs.Common.{◌≡◌, ℕ, ◌+◌, ◌-◌, ◌≤◌, List, ◌++◌, length, take, drop, sym, ◌∙◌, ap, arith, zero-add, length-drop}
use Rattle.std.proofs.Math.Seq.{take-add}
use Rattle.std.proofs.lemmas.List.{drop-take, length-take, drop-append-le}
use Rattle.std.proofs.lemmas.List.Edits.{take-paste}
use Rattle.std.specs.List.{copy_within}
use Rattle.http_wire.specs.Inbox.{HasRoom}

pub settled : (bytes : List ℕ) (from to : ℕ) → from ≤ to → to ≤ length bytes
    → take (to - from) (copy_within bytes from to 0) ≡ drop from (take to bytes)
settled bytes from to ordered within =
    let n = to - from in
    let whole : from + n ≡ to = omega arith in
    let fits : n ≤ length (drop from bytes) = omega (arith, length-drop from bytes) in
    let pasted = take-paste bytes 0 (drop from bytes) n (omega arith) fits in
    ap (λ k. take k (copy_within bytes from to 0)) (sym (zero-add n)) ∙ pasted ∙ sym (drop-take from n bytes) ∙ ap (λ k. drop from (take k bytes)) whole

-- what a read put behind the bytes
pub filled : (before b0 b1 b2 : List ℕ) (from0 to0 from to count : ℕ) → drop from0 (take to0 b0) ≡ before
    → HasRoom b0 from0 to0 b1 (from, to) → take to b2 ≡ take to b1
    → drop from (take (to + count) b2) ≡ before ++ take count (drop to b2)
filled before b0 b1 b2 from0 to0 from to count is room same =
    let short : from ≤ length (take to b2) = omega (arith, ap length same, length-take to b1, room.ordered, room.room) in
    ap (drop from) (take-add to count b2) ∙ drop-append-le from (take to b2) (take count (drop to b2)) short
    ∙ ap (λ front. drop from front ++ take count (drop to b2)) same ∙ ap (λ front. front ++ take count (drop to b2)) (room.same ∙ is)

pub some_filled : (b1 b2 : List ℕ) (to count : ℕ) → length b2 ≡ length b1 → (1 ≤ count) × (count ≤ length b1 - to)
    → 1 ≤ length (take count (drop to b2))
some_filled b1 b2 to count same fits = omega (arith, length-take count (drop to b2), length-drop to b2, same, fits.0, fits.1)
