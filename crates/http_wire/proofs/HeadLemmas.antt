-- Why bytes have no head of a request within the limits.
use Rattle.std.proofs.Common.{◌≡◌, ◌≢◌, ℕ, ◌+◌, ◌-◌, ◌<◌, ◌≤◌, List, [], ◌∷◌, ◌++◌, length, take, drop, map, refl, sym, ◌∙◌, ap, subst, arith, inl, inr, append-nil, zero, suc}
use Rattle.std.proofs.Math.Seq.{take-append_seam}
use Rattle.std.proofs.lemmas.List.{take-take, drop-take, length-take}
use Rattle.std.specs.List.{All}
use Rattle.httparse.specs.declared.Error.{Error}
use Rattle.httparse.specs.declared.Error.TheVariants as error
use Rattle.httparse.specs.declared.spans.HeaderSpan.{HeaderSpan}
use Rattle.httparse.specs.declared.spans.RequestSpans.{RequestSpans}
use Rattle.httparse.specs.declared.spans.Span.{Span}
use Rattle.httparse.specs.Grammar.{RequestHead, print_request, print_end, lf, ReadsRequest, NeverHasRequest}
use Rattle.httparse.specs.Spans.{IsWithin, IsHeaderWithin, span_bytes, header_bytes, IsRequestAt, IsRequestWithin, RequestOverflows, RequestExceeds}
use Rattle.httparse.proofs.GrammarLemmas.{request_unique}
use Rattle.http_wire.specs.Limits.{feeds, IsWithinLimits}
use Rattle.http_wire.specs.Head.{HeadParts, Spells, HasNoHead, IsHopelessHead, parts_of, parts_at}
use Rattle.http_wire.specs.declared.limits.TheConstants.{HEAD_MAX, FEEDS_MAX, FIELDS_MAX}
use Rattle.http_wire.proofs.LimitLemmas.{feeds-append, feeds-take, feeds-end, feeds-lines, lines-end, feeds-le-length}
use Rattle.http_wire.proofs.FoundLemmas.{IsGrammar, shorter, feeds_over}

pub feeds-request : (head : RequestHead) → length head.fields + 2 ≤ feeds (print_request head)
unfolding print_request
feeds-request head = feeds-lines _ head.line_end head.fields head.last

pub request-ends : (head : RequestHead) (n : ℕ) → n < length (print_request head) → 1 ≤ feeds (drop n (print_request head))
unfolding print_request
request-ends head n = lines-end _ head.line_end head.fields head.last n

-- a whole head past the limits
pub over_limits : (bytes : List ℕ) (head : RequestHead) (rest : List ℕ) → ReadsRequest bytes head rest → FEEDS_MAX < feeds (print_request head) → HasNoHead bytes
over_limits bytes head rest reads many other more also limits =
    let same = request_unique bytes head other rest more reads also in
    omega (arith, many, limits.1, ap (λ h. feeds (print_request h)) same.0)

-- a head within the limits has at most 64 fields
pub none_with_room : (bytes : List ℕ) → RequestOverflows FIELDS_MAX bytes → HasNoHead bytes
none_with_room bytes overflows head rest reads limits =
    let more = overflows [] head rest (reads.0, append-nil bytes ∙ reads.1) in
    omega (arith, more, feeds-request head, limits.1)

-- the lines of 65 fields have 66 line feeds before the empty line
pub many_feeds : (bytes : List ℕ) → RequestExceeds FIELDS_MAX bytes → FEEDS_MAX ≤ feeds bytes
many_feeds bytes x =
    omega (arith, ap feeds x.2, feeds-append x.0 x.1, feeds-append x.0 (print_end lf), feeds-end lf, ap feeds (x.4.1 ∙ append-nil (print_request x.3)), feeds-request x.3, x.5)

pub refused : (bytes : List ℕ) (e : Error) → (e ≢ error.TooManyHeaders → NeverHasRequest bytes) → (e ≡ error.TooManyHeaders → RequestExceeds FIELDS_MAX bytes)
    → IsHopelessHead bytes
refused bytes error.HeaderName invalid many = inl (invalid (λ p. cc))
refused bytes error.HeaderValue invalid many = inl (invalid (λ p. cc))
refused bytes error.NewLine invalid many = inl (invalid (λ p. cc))
refused bytes error.Status invalid many = inl (invalid (λ p. cc))
refused bytes error.Token invalid many = inl (invalid (λ p. cc))
refused bytes error.Version invalid many = inl (invalid (λ p. cc))
refused bytes error.TooManyHeaders invalid many = inr (many_feeds bytes (many refl))

-- what a span covers lies in the front of the bytes
pub span-take : (n : ℕ) (bytes : List ℕ) (span : Span) → IsWithin n span → span_bytes (take n bytes) span ≡ span_bytes bytes span
span-take n bytes span within =
    let m = n - span.start in
    let whole : span.start + m ≡ n = omega (arith, within.0, within.1) in
    ap (λ k. take (span.end - span.start) (drop span.start (take k bytes))) (sym whole)
    ∙ ap (take (span.end - span.start)) (drop-take span.start m bytes)
    ∙ take-take (span.end - span.start) m (drop span.start bytes) (omega (arith, within.0, within.1))

pub headers-take : (n : ℕ) (bytes : List ℕ) (spans : List HeaderSpan) → All (IsHeaderWithin n) spans → map (header_bytes (take n bytes)) spans ≡ map (header_bytes bytes) spans
headers-take n bytes [] within = refl
headers-take n bytes (span ∷ spans) within =
    let first : IsHeaderWithin n span = within zero span (omega arith) in
    let name = span-take n bytes span.name first.0 in
    let value = span-take n bytes span.value first.1 in
    let rest = headers-take n bytes spans (λ k d below. within (suc k) d (omega arith)) in
    let here : header_bytes (take n bytes) span ≡ header_bytes bytes span = ap (λ (b : List ℕ). (b, span_bytes (take n bytes) span.value)) name ∙ ap (λ (b : List ℕ). (span_bytes bytes span.name, b)) value in
    ap (λ h. h ∷ map (header_bytes (take n bytes)) spans) here ∙ ap (λ hs. header_bytes bytes span ∷ hs) rest

abbrev head_parts : List ℕ → List ℕ → ℕ → List (List ℕ × List ℕ) → HeadParts
head_parts method target minor headers = record { method = method; target = target; minor = minor; headers = headers }

same_parts : (method target method' target' : List ℕ) (minor minor' : ℕ) (headers headers' : List (List ℕ × List ℕ))
    → method ≡ method' → target ≡ target' → minor ≡ minor' → headers ≡ headers'
    → head_parts method target minor headers ≡ head_parts method' target' minor' headers'
same_parts method target method' target' minor minor' headers headers' a b c d =
    ap (λ x. head_parts x target minor headers) a ∙ ap (λ x. head_parts method' x minor headers) b ∙ ap (λ x. head_parts method' target' x headers) c ∙ ap (head_parts method' target' minor') d

-- the copy of a head that was found spells it
pub spells_found : (bytes : List ℕ) (spans : List HeaderSpan) (found : RequestSpans) (head : RequestHead)
    → IsRequestAt bytes spans found head → IsRequestWithin bytes spans found → feeds (take found.len bytes) ≤ FEEDS_MAX → length bytes ≤ HEAD_MAX
    → Spells (take found.len bytes) (parts_at (take found.len bytes) found (take found.headers spans))
spells_found bytes spans found head at within few short =
    let text = take found.len bytes in
    let is : text ≡ print_request head = ap (take found.len) at.reads.1 ∙ ap (λ k. take k (print_request head ++ drop found.len bytes)) at.len ∙ take-append_seam (print_request head) (drop found.len bytes) in
    record {
      head = head;
      reads = (at.reads.0, is ∙ sym (append-nil (print_request head)));
      limits = (omega (arith, length-take found.len bytes, short), few);
      parts_are = same_parts _ _ _ _ _ _ _ _
          (span-take found.len bytes found.method within.method ∙ at.method)
          (span-take found.len bytes found.path within.path ∙ at.path)
          at.version
          (headers-take found.len bytes (take found.headers spans) within.section.headers_fit ∙ at.fields);
    }

pub long_found : (bytes : List ℕ) (spans : List HeaderSpan) (found : RequestSpans) (head : RequestHead)
    → IsRequestAt bytes spans found head → FEEDS_MAX < feeds (take found.len bytes) → HasNoHead bytes × (FEEDS_MAX ≤ feeds bytes)
long_found bytes spans found head at many =
    let is : take found.len bytes ≡ print_request head = ap (take found.len) at.reads.1 ∙ ap (λ k. take k (print_request head ++ drop found.len bytes)) at.len ∙ take-append_seam (print_request head) (drop found.len bytes) in
    (over_limits bytes head _ at.reads (omega (arith, many, ap feeds is)), omega (arith, many, feeds-take found.len bytes))

spelled : (bytes : List ℕ) (head : RequestHead) → ReadsRequest bytes head [] → bytes ≡ print_request head
spelled bytes head reads = reads.1 ∙ append-nil (print_request head)

begins : (bytes rest text : List ℕ) (head : RequestHead) → ReadsRequest bytes head [] → text ≡ bytes ++ rest → ReadsRequest text head rest
begins bytes rest text head reads is = (reads.0, is ∙ ap (λ x. x ++ rest) (spelled bytes head reads))

none_after : (bytes rest text more : List ℕ) (parts : HeadParts) → Spells bytes parts → text ++ more ≡ bytes ++ rest → length bytes ≤ length text → HasNoHead text → ⊥
none_after bytes rest text more parts spells is short none =
    none spells.head _ (begins bytes _ text spells.head spells.reads (shorter bytes rest text more is short)) (subst IsWithinLimits (spelled bytes spells.head spells.reads) spells.limits)

over_after : (bytes rest text more : List ℕ) (parts : HeadParts) → Spells bytes parts → text ++ more ≡ bytes ++ rest → HasNoHead text → IsHopelessHead text → ⊥
over_after bytes rest text more parts spells is none (inl over) = over more spells.head rest (begins bytes rest _ spells.head spells.reads is)
over_after bytes rest text more parts spells is none (inr many) =
    let P : List ℕ → Type 0 = λ x. (n : ℕ) → n < length x → 1 ≤ feeds (drop n x) in
    let ends = subst P (sym (spelled bytes spells.head spells.reads)) (request-ends spells.head) in
    none_after bytes rest text more parts spells is (feeds_over bytes rest text more spells.limits ends is many) none

pub request_grammar : IsGrammar Spells HasNoHead IsHopelessHead
request_grammar = record {
  short = λ bytes head spells. spells.limits.0;
  some = λ bytes head spells. omega (arith, feeds-request spells.head, ap feeds (spelled bytes spells.head spells.reads), feeds-le-length bytes);
  one = λ bytes rest other more head last spells spells' same.
      let equal = request_unique (bytes ++ rest) spells.head spells'.head rest more (begins bytes rest _ spells.head spells.reads refl) (begins other more _ spells'.head spells'.reads same) in
      spells'.parts_are ∙ ap parts_of (sym equal.0) ∙ sym spells.parts_are;
  none = λ bytes rest text head spells is none.
      none spells.head rest (begins bytes rest text spells.head spells.reads is) (subst IsWithinLimits (spelled bytes spells.head spells.reads) spells.limits);
  over = λ bytes rest text more head spells is none over. over_after bytes rest text more head spells is none over;
}
