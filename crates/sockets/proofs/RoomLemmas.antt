-- The bytes of a room, in the vector that has them.
use Rattle.std.proofs.Common.{◌≡◌, ℕ, ◌+◌, ◌-◌, ◌≤◌, min, List, ◌++◌, length, take, drop, sym, ◌∙◌, ap, subst, arith, append_assoc, length-append}
use Rattle.std.proofs.Math.Seq.{take-append-add}
use Rattle.sockets.specs.Ready.{IsMoved}
use Rattle.sockets.specs.declared.ready.Moved.{Moved}
use Rattle.sockets.specs.declared.ready.Moved.TheVariants as moved
use Rattle.std.proofs.lemmas.List.{length-drop, drop-append-le, length-take, length-take-le, take-append-drop, take-append-le, take_min}

-- of a longer front the same is taken
take_within : (n len : ℕ) (bytes : List ℕ) → n ≤ len → n ≤ length bytes → take n (take len bytes) ≡ take n bytes
take_within n len bytes within short =
    sym (take-append-le n (take len bytes) (drop len bytes) (omega (arith, within, short, length-take len bytes))) ∙ ap (take n) (take-append-drop len bytes)

-- bytes came behind those that are there
pub filled : (from to n len : ℕ) (items buf behind rest : List ℕ) → from ≤ to → to ≤ length items → n ≤ length buf → to + n ≤ len
    → drop from (take (to + n) (take len ((take to items ++ (buf ++ behind)) ++ rest))) ≡ drop from (take to items) ++ take n buf
filled from to n len items buf behind rest order there came within =
    let front : length (take to items) ≡ to = length-take-le to items there in
    let all = (take to items ++ (buf ++ behind)) ++ rest in
    let whole : all ≡ take to items ++ (buf ++ (behind ++ rest)) = append_assoc (take to items) (buf ++ behind) rest ∙ ap (λ (l : List ℕ). take to items ++ l) (append_assoc buf behind rest) in
    ap (drop from) (
    take_within (to + n) len all within (omega (arith, front, came, ap length whole, length-append (take to items) (buf ++ (behind ++ rest)), length-append buf (behind ++ rest)))
    ∙ ap (take (to + n)) whole
    ∙ subst (λ (k : ℕ). take (k + n) (take to items ++ (buf ++ (behind ++ rest))) ≡ take to items ++ take n (buf ++ (behind ++ rest))) front (take-append-add (take to items) (buf ++ (behind ++ rest)) n)
    ∙ ap (λ (l : List ℕ). take to items ++ l) (take-append-le n buf (behind ++ rest) came)
    ) ∙ drop-append-le from (take to items) (take n buf) (omega (arith, order, front))

-- so many bytes came behind those that are there
pub fills : (from to n len : ℕ) (items buf behind rest old : List ℕ) (got : Moved) → from ≤ to → to ≤ len → length items ≡ len → length buf ≡ length (take (length items - to) (drop to items)) → got ≡ moved.Some n → IsMoved (length buf) got → drop from (take to items) ≡ old
    → (came : List ℕ) × (drop from (take (to + n) (take len ((take to items ++ (buf ++ behind)) ++ rest))) ≡ old ++ came) × (length came ≡ n)
fills from to n len items buf behind rest old got order there long room some move was =
    let came = (subst (IsMoved (length buf)) some move).1 in
    let least : length buf ≡ len - to = room ∙ length-take (length items - to) (drop to items) ∙ omega (arith, long, there, length-drop to items) in (
      take n buf,
      filled from to n len items buf behind rest order (omega (arith, there, long)) came (omega (arith, came, least, there)) ∙ ap (λ (l : List ℕ). l ++ take n buf) was,
      length-take-le n buf came,
    )

-- bytes that were put in front are those that stand there, as many as there is room for
pub held : (most count len : ℕ) (bytes buf old rest : List ℕ) → count ≡ min (length bytes) most → len ≡ most → buf ≡ take count bytes ++ drop (length (take count bytes)) old
    → take count (take len (buf ++ rest)) ≡ take most bytes
held most count len bytes buf old rest is long put =
    let front = take count bytes in
    let size : length front ≡ count = length-take-le count bytes (omega (arith, is)) in
    let behind = drop (length front) old ++ rest in
    let whole : buf ++ rest ≡ front ++ behind = ap (λ (l : List ℕ). l ++ rest) put ∙ append_assoc front (drop (length front) old) rest in
    let swapped : min (length bytes) most ≡ min most (length bytes) = omega arith in
    let there : count ≤ length (front ++ behind) = omega (arith, size, length-append front behind) in
    ap (λ (l : List ℕ). take count (take len l)) whole
    ∙ take_within count len (front ++ behind) (omega (arith, is, long)) there
    ∙ take-append-le count front behind (omega (arith, size))
    ∙ take_within count count bytes (omega arith) (omega (arith, is))
    ∙ ap (λ (k : ℕ). take k bytes) (is ∙ swapped) ∙ take_min most bytes
