-- Heads that are read one after the other, until that of a final answer comes.
use Rattle.std.proofs.Common.{◌≡◌, ℕ, ◌+◌, ◌*◌, ◌<◌, ◌≤◌, List, [], ◌∷◌, ◌++◌, length, refl, sym, ◌∙◌, ap, subst, arith, inl, inr, Option, append-nil, length-append}
use Rattle.std.specs.Io.KnownBytes.{Consumes}
use Rattle.std.proofs.KnownBytes.{Consumes-nil}
use Rattle.std.proofs.lemmas.Grind.{flat_map-append}
use Rattle.httparse.specs.Grammar.{MayBecomeResponse, print_response}
use Rattle.http_wire.specs.Body.{capped}
use Rattle.http_wire.specs.Moves.{Moves}
use Rattle.http_wire.specs.Reading.{ReadsHead}
use Rattle.http_wire.specs.Response.{ResponseParts, SpellsResponse, HasNoResponseHead, IsHopelessResponse}
use Rattle.http_wire.specs.declared.limits.TheConstants.{HEAD_MAX}
use Rattle.http_wire.specs.declared.reading.HeadRead.{HeadRead}
use Rattle.http_wire.specs.declared.reading.HeadRead.TheVariants as read
use Rattle.http_wire.proofs.MoveLemmas.{moves_then}
use Rattle.http_wire.proofs.ChunkLemmas.{moves_rest}
use Rattle.upstream_http.specs.FinalHead.{SpelledHead, AreInterim, heads_text, ReadsFinal}
use Rattle.upstream_http.specs.declared.final_head.TheConstants.{INTERIM_MAX, FINAL_MIN}
use Rattle.upstream_http.specs.declared.final_head.FinalRead.TheVariants as final

abbrev pub Reads : Option (List ℕ) → Option (List ℕ) → List ℕ → List ℕ → HeadRead ResponseParts → Type 0
Reads old new before after result = ReadsHead SpellsResponse HasNoResponseHead MayBecomeResponse IsHopelessResponse old new before after result

pub size_is : (bytes : List ℕ) (parts : ResponseParts) → SpellsResponse bytes parts → parts.size ≡ length bytes
size_is bytes parts spells = ap (λ (p : ResponseParts). p.size) spells.parts_are ∙ sym (ap length (spells.reads.1 ∙ append-nil (print_response spells.head)))

pub size_short : (bytes : List ℕ) (parts : ResponseParts) → SpellsResponse bytes parts → parts.size ≤ HEAD_MAX
size_short bytes parts spells = omega (arith, size_is bytes parts spells, spells.limits.0)

-- all that came
pub consumed_all : (old new : Option (List ℕ)) (after bytes : List ℕ) → Moves old new [] after bytes → Consumes old new (bytes ++ after)
consumed_all old new after bytes m = subst (Consumes old new) m.parts m.consumed

pub begins_empty : (old : Option (List ℕ)) (inbox : List ℕ) → inbox ≡ [] → Moves old old [] inbox []
begins_empty old inbox none = record { taken = []; consumed = Consumes-nil old; parts = sym none }

abbrev one_head : List ℕ → ResponseParts → SpelledHead
one_head text parts = record { text = text; parts = parts }

are_interim-append : (interim : List SpelledHead) (text : List ℕ) (head : ResponseParts) → AreInterim interim → SpellsResponse text head → head.status < FINAL_MIN → AreInterim (interim ++ one_head text head ∷ [])
are_interim-append [] text head are spells low = (spells, low, tt)
are_interim-append (first ∷ interim) text head are spells low = (are.0, are.1, are_interim-append interim text head are.2 spells low)

heads_text-append : (interim : List SpelledHead) (text : List ℕ) (head : ResponseParts) → heads_text (interim ++ one_head text head ∷ []) ≡ heads_text interim ++ text
heads_text-append interim text head =
    flat_map-append (λ (h : SpelledHead). h.text) interim (one_head text head ∷ []) ∙ ap (λ x. heads_text interim ++ x) (append-nil text)

-- one more interim answer
pub one_more : (old now new : Option (List ℕ)) (middle after text : List ℕ) (interim : List SpelledHead) (head : ResponseParts)
    → Moves old now [] middle (heads_text interim) → AreInterim interim → Moves now new middle after text → SpellsResponse text head → head.status < FINAL_MIN
    → (more : List SpelledHead) × AreInterim more × (length more ≡ length interim + 1) × Moves old new [] after (heads_text more) × (length (heads_text more) ≡ length (heads_text interim) + head.size)
one_more old now new middle after text interim head m are n spells low =
    let text_is = heads_text-append interim text head in (
      interim ++ one_head text head ∷ [],
      are_interim-append interim text head are spells low,
      omega (arith, length-append interim (one_head text head ∷ [])),
      subst (Moves old new [] after) (sym text_is) (moves_then old now new [] middle after (heads_text interim) text m n),
      ap length text_is ∙ omega (arith, length-append (heads_text interim) text, size_is text head spells),
    )

-- the head of the final answer
pub final_is : (old now new : Option (List ℕ)) (middle after text : List ℕ) (interim : List SpelledHead) (head : ResponseParts) (taken : ℕ)
    → Moves old now [] middle (heads_text interim) → AreInterim interim → length interim ≤ INTERIM_MAX → taken ≡ length (heads_text interim)
    → Moves now new middle after text → SpellsResponse text head → FINAL_MIN ≤ head.status → ReadsFinal old new after (final.Head head (taken + head.size))
final_is old now new middle after text interim head taken m are few count n spells high = (
  heads_text interim ++ text,
  moves_then old now new [] middle after (heads_text interim) text m n,
  record { interim = interim; text = text; are_interim = are; few = few; spells = spells; final = high; is = refl },
  omega (arith, count, length-append (heads_text interim) text, size_is text head spells),
)

-- a 17th interim answer
pub one_too_many : (old new : Option (List ℕ)) (after : List ℕ) (interim : List SpelledHead) (taken : ℕ)
    → Moves old new [] after (heads_text interim) → AreInterim interim → length interim ≡ INTERIM_MAX + 1 → taken ≡ capped (length (heads_text interim) + length after)
    → ReadsFinal old new after (final.Malformed taken)
one_too_many old new after interim taken m are many count = (
  heads_text interim ++ after,
  consumed_all old new after (heads_text interim) m,
  (interim, after, record { are_interim = are; is = refl }, inr many),
  omega (arith, count, length-append (heads_text interim) after),
)

-- no head can come
pub bad_head : (old now new : Option (List ℕ)) (middle after : List ℕ) (interim : List SpelledHead) (taken more : ℕ)
    → Moves old now [] middle (heads_text interim) → AreInterim interim → length interim ≤ INTERIM_MAX → taken ≡ length (heads_text interim)
    → Reads now new middle after (read.BadHead more) → ReadsFinal old new after (final.Malformed (capped (taken + more)))
bad_head old now new middle after interim taken more m are few count reads = (
  heads_text interim ++ after,
  consumed_all old new after (heads_text interim) (moves_rest old now new [] middle after (heads_text interim) m reads.0),
  (interim, after, record { are_interim = are; is = refl }, inl (few, (reads.1.none, reads.1.cause))),
  omega (arith, count, reads.1.count, length-append (heads_text interim) after),
)

-- the source ended
pub cut_head : (old now new : Option (List ℕ)) (middle after : List ℕ) (interim : List SpelledHead) (taken more : ℕ)
    → Moves old now [] middle (heads_text interim) → AreInterim interim → length interim ≤ INTERIM_MAX → taken ≡ length (heads_text interim)
    → Reads now new middle after (read.CutShort more) → ReadsFinal old new after (final.Cut (capped (taken + more)))
cut_head old now new middle after interim taken more m are few count reads = (
  heads_text interim ++ after,
  consumed_all old new after (heads_text interim) (moves_rest old now new [] middle after (heads_text interim) m reads.0),
  reads.1,
  (interim, after, record { are_interim = are; is = refl }, few, inr (reads.2.none, reads.2.inside)),
  omega (arith, count, reads.2.count, length-append (heads_text interim) after),
)

pub no_more : (old now new : Option (List ℕ)) (middle after : List ℕ) (interim : List SpelledHead) (taken : ℕ)
    → Moves old now [] middle (heads_text interim) → AreInterim interim → length interim ≤ INTERIM_MAX → taken ≡ length (heads_text interim) → taken ≤ 16 * HEAD_MAX
    → Reads now new middle after read.Ended → ReadsFinal old new after (final.Cut taken)
no_more old now new middle after interim taken m are few count short reads = (
  heads_text interim ++ after,
  consumed_all old new after (heads_text interim) (moves_rest old now new [] middle after (heads_text interim) m reads.0),
  reads.1,
  (interim, after, record { are_interim = are; is = refl }, few, inl reads.2),
  omega (arith, count, ap length reads.2, length-append (heads_text interim) after),
)

pub some_came : (old now new : Option (List ℕ)) (middle after : List ℕ) (interim : List SpelledHead)
    → Moves old now [] middle (heads_text interim) → Moves now new middle after [] → (bytes : List ℕ) × Consumes old new bytes
some_came old now new middle after interim m n = (_, consumed_all old new after (heads_text interim) (moves_rest old now new [] middle after (heads_text interim) m n))
