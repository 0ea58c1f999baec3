-- Why bytes have no head of a response within the limits.
use Rattle.std.proofs.Common.{◌≡◌, ◌≢◌, ℕ, ◌+◌, ◌<◌, ◌≤◌, List, [], ◌++◌, length, take, drop, refl, sym, ◌∙◌, ap, subst, arith, inl, inr, append-nil}
use Rattle.std.proofs.Math.Seq.{take-append_seam}
use Rattle.std.proofs.lemmas.List.{length-take}
use Rattle.httparse.specs.declared.Error.{Error}
use Rattle.httparse.specs.declared.Error.TheVariants as error
use Rattle.httparse.specs.declared.spans.HeaderSpan.{HeaderSpan}
use Rattle.httparse.specs.declared.spans.ResponseSpans.{ResponseSpans}
use Rattle.httparse.specs.Grammar.{ResponseHead, print_response, print_end, lf, ReadsResponse, NeverHasResponse}
use Rattle.httparse.specs.Spans.{IsResponseAt, IsResponseWithin, ResponseOverflows, ResponseExceeds}
use Rattle.httparse.proofs.GrammarLemmas.{response_unique}
use Rattle.http_wire.specs.Limits.{feeds, IsWithinLimits}
use Rattle.http_wire.specs.Response.{ResponseParts, SpellsResponse, HasNoResponseHead, IsHopelessResponse, response_parts_of, response_parts_at}
use Rattle.http_wire.specs.declared.limits.TheConstants.{HEAD_MAX, FEEDS_MAX, FIELDS_MAX}
use Rattle.http_wire.proofs.LimitLemmas.{feeds-append, feeds-take, feeds-end, feeds-lines, lines-end, feeds-le-length}
use Rattle.http_wire.proofs.HeadLemmas.{headers-take}
use Rattle.http_wire.proofs.FoundLemmas.{IsGrammar, shorter, feeds_over}

pub feeds-response : (head : ResponseHead) → length head.fields + 2 ≤ feeds (print_response head)
unfolding print_response
feeds-response head = feeds-lines _ head.line_end head.fields head.last

pub response-ends : (head : ResponseHead) (n : ℕ) → n < length (print_response head) → 1 ≤ feeds (drop n (print_response head))
unfolding print_response
response-ends head n = lines-end _ head.line_end head.fields head.last n

-- a whole head past the limits
pub over_limits : (bytes : List ℕ) (head : ResponseHead) (rest : List ℕ) → ReadsResponse bytes head rest → FEEDS_MAX < feeds (print_response head) → HasNoResponseHead bytes
over_limits bytes head rest reads many other more also limits =
    let same = response_unique bytes head other rest more reads also in
    omega (arith, many, limits.1, ap (λ h. feeds (print_response h)) same.0)

-- a head within the limits has at most 64 fields
pub none_with_room : (bytes : List ℕ) → ResponseOverflows FIELDS_MAX bytes → HasNoResponseHead bytes
none_with_room bytes overflows head rest reads limits =
    let more = overflows [] head rest (reads.0, append-nil bytes ∙ reads.1) in
    omega (arith, more, feeds-response head, limits.1)

-- the lines of 65 fields have 66 line feeds before the empty line
pub many_feeds : (bytes : List ℕ) → ResponseExceeds FIELDS_MAX bytes → FEEDS_MAX ≤ feeds bytes
many_feeds bytes x =
    omega (arith, ap feeds x.2, feeds-append x.0 x.1, feeds-append x.0 (print_end lf), feeds-end lf, ap feeds (x.4.1 ∙ append-nil (print_response x.3)), feeds-response x.3, x.5)

pub refused : (bytes : List ℕ) (e : Error) → (e ≢ error.TooManyHeaders → NeverHasResponse bytes) → (e ≡ error.TooManyHeaders → ResponseExceeds FIELDS_MAX bytes)
    → IsHopelessResponse bytes
refused bytes error.HeaderName invalid many = inl (invalid (λ p. cc))
refused bytes error.HeaderValue invalid many = inl (invalid (λ p. cc))
refused bytes error.NewLine invalid many = inl (invalid (λ p. cc))
refused bytes error.Status invalid many = inl (invalid (λ p. cc))
refused bytes error.Token invalid many = inl (invalid (λ p. cc))
refused bytes error.Version invalid many = inl (invalid (λ p. cc))
refused bytes error.TooManyHeaders invalid many = inr (many_feeds bytes (many refl))

abbrev response_parts : ℕ → ℕ → ℕ → List (List ℕ × List ℕ) → ResponseParts
response_parts size status minor headers = record { size = size; status = status; minor = minor; headers = headers }

same_parts : (size size' status status' minor minor' : ℕ) (headers headers' : List (List ℕ × List ℕ)) → size ≡ size' → status ≡ status' → minor ≡ minor' → headers ≡ headers'
    → response_parts size status minor headers ≡ response_parts size' status' minor' headers'
same_parts size size' status status' minor minor' headers headers' a b c d =
    ap (λ x. response_parts x status minor headers) a ∙ ap (λ x. response_parts size' x minor headers) b ∙ ap (λ x. response_parts size' status' x headers) c ∙ ap (response_parts size' status' minor') d

-- the copy of a head that was found spells it
pub spells_found : (bytes : List ℕ) (spans : List HeaderSpan) (found : ResponseSpans) (head : ResponseHead)
    → IsResponseAt bytes spans found head → IsResponseWithin bytes spans found → feeds (take found.len bytes) ≤ FEEDS_MAX → length bytes ≤ HEAD_MAX
    → SpellsResponse (take found.len bytes) (response_parts_at (take found.len bytes) found (take found.headers spans))
spells_found bytes spans found head at within few short =
    let text = take found.len bytes in
    let is : text ≡ print_response head = ap (take found.len) at.reads.1 ∙ ap (λ k. take k (print_response head ++ drop found.len bytes)) at.len ∙ take-append_seam (print_response head) (drop found.len bytes) in
    record {
      head = head;
      reads = (at.reads.0, is ∙ sym (append-nil (print_response head)));
      limits = (omega (arith, length-take found.len bytes, short), few);
      parts_are = same_parts _ _ _ _ _ _ _ _ (ap length is) at.code at.version (headers-take found.len bytes (take found.headers spans) within.section.headers_fit ∙ at.fields);
    }

pub long_found : (bytes : List ℕ) (spans : List HeaderSpan) (found : ResponseSpans) (head : ResponseHead)
    → IsResponseAt bytes spans found head → FEEDS_MAX < feeds (take found.len bytes) → HasNoResponseHead bytes × (FEEDS_MAX ≤ feeds bytes)
long_found bytes spans found head at many =
    let is : take found.len bytes ≡ print_response head = ap (take found.len) at.reads.1 ∙ ap (λ k. take k (print_response head ++ drop found.len bytes)) at.len ∙ take-append_seam (print_response head) (drop found.len bytes) in
    (over_limits bytes head _ at.reads (omega (arith, many, ap feeds is)), omega (arith, many, feeds-take found.len bytes))

spelled : (bytes : List ℕ) (head : ResponseHead) → ReadsResponse bytes head [] → bytes ≡ print_response head
spelled bytes head reads = reads.1 ∙ append-nil (print_response head)

begins : (bytes rest text : List ℕ) (head : ResponseHead) → ReadsResponse bytes head [] → text ≡ bytes ++ rest → ReadsResponse text head rest
begins bytes rest text head reads is = (reads.0, is ∙ ap (λ x. x ++ rest) (spelled bytes head reads))

none_after : (bytes rest text more : List ℕ) (parts : ResponseParts) → SpellsResponse bytes parts → text ++ more ≡ bytes ++ rest → length bytes ≤ length text → HasNoResponseHead text → ⊥
none_after bytes rest text more parts spells is short none =
    none spells.head _ (begins bytes _ text spells.head spells.reads (shorter bytes rest text more is short)) (subst IsWithinLimits (spelled bytes spells.head spells.reads) spells.limits)

over_after : (bytes rest text more : List ℕ) (parts : ResponseParts) → SpellsResponse bytes parts → text ++ more ≡ bytes ++ rest → HasNoResponseHead text → IsHopelessResponse text → ⊥
over_after bytes rest text more parts spells is none (inl over) = over more spells.head rest (begins bytes rest _ spells.head spells.reads is)
over_after bytes rest text more parts spells is none (inr many) =
    let P : List ℕ → Type 0 = λ x. (n : ℕ) → n < length x → 1 ≤ feeds (drop n x) in
    let ends = subst P (sym (spelled bytes spells.head spells.reads)) (response-ends spells.head) in
    none_after bytes rest text more parts spells is (feeds_over bytes rest text more spells.limits ends is many) none

pub response_grammar : IsGrammar SpellsResponse HasNoResponseHead IsHopelessResponse
response_grammar = record {
  short = λ bytes head spells. spells.limits.0;
  some = λ bytes head spells. omega (arith, feeds-response spells.head, ap feeds (spelled bytes spells.head spells.reads), feeds-le-length bytes);
  one = λ bytes rest other more head last spells spells' same.
      let equal = response_unique (bytes ++ rest) spells.head spells'.head rest more (begins bytes rest _ spells.head spells.reads refl) (begins other more _ spells'.head spells'.reads same) in
      spells'.parts_are ∙ ap response_parts_of (sym equal.0) ∙ sym spells.parts_are;
  none = λ bytes rest text head spells is none.
      none spells.head rest (begins bytes rest text spells.head spells.reads is) (subst IsWithinLimits (spelled bytes spells.head spells.reads) spells.limits);
  over = λ bytes rest text more head spells is none over. over_after bytes rest text more head spells is none over;
}
