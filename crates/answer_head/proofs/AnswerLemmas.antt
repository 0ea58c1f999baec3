-- Lines of the head of an answer.
use Rattle.std.proofs.Common.{◌≡◌, ◌≢◌, ℕ, ◌+◌, ◌<◌, ◌≤◌, Bool, true, false, List, [], ◌++◌, length, refl, sym, ◌∙◌, ap, subst, arith, codes, decimal, ◌^◌, take, append-nil, append_assoc, length-append}
use Rattle.std.proofs.lemmas.Bool.{ne_eqb, eqb-true, true≢false}
use Rattle.std.proofs.lemmas.Fmt.{length-decimal-le}
use Rattle.std.proofs.Math.Seq.{take-append_seam}
use Rattle.byte_range.specs.Put.{PutsFront, range_text}
use Rattle.cdni_base.specs.Scratch.{Room, Puts}
use Rattle.answer_head.specs.Answer.{Adds, Fits, is_answer_status, status_line, phrase_of}

pub line_200 : codes "HTTP/1.1 200 OK\r\n" ≡ status_line 200
unfolding status_line phrase_of
line_200 = refl

pub line_201 : codes "HTTP/1.1 201 Created\r\n" ≡ status_line 201
unfolding status_line phrase_of
line_201 = refl

pub line_204 : codes "HTTP/1.1 204 No Content\r\n" ≡ status_line 204
unfolding status_line phrase_of
line_204 = refl

pub line_206 : codes "HTTP/1.1 206 Partial Content\r\n" ≡ status_line 206
unfolding status_line phrase_of
line_206 = refl

pub line_400 : codes "HTTP/1.1 400 Bad Request\r\n" ≡ status_line 400
unfolding status_line phrase_of
line_400 = refl

pub line_403 : codes "HTTP/1.1 403 Forbidden\r\n" ≡ status_line 403
unfolding status_line phrase_of
line_403 = refl

pub line_404 : codes "HTTP/1.1 404 Not Found\r\n" ≡ status_line 404
unfolding status_line phrase_of
line_404 = refl

pub line_405 : codes "HTTP/1.1 405 Method Not Allowed\r\n" ≡ status_line 405
unfolding status_line phrase_of
line_405 = refl

pub line_410 : codes "HTTP/1.1 410 Gone\r\n" ≡ status_line 410
unfolding status_line phrase_of
line_410 = refl

pub line_411 : codes "HTTP/1.1 411 Length Required\r\n" ≡ status_line 411
unfolding status_line phrase_of
line_411 = refl

pub line_413 : codes "HTTP/1.1 413 Content Too Large\r\n" ≡ status_line 413
unfolding status_line phrase_of
line_413 = refl

pub line_416 : codes "HTTP/1.1 416 Range Not Satisfiable\r\n" ≡ status_line 416
unfolding status_line phrase_of
line_416 = refl

pub line_502 : codes "HTTP/1.1 502 Bad Gateway\r\n" ≡ status_line 502
unfolding status_line phrase_of
line_502 = refl

pub line_503 : codes "HTTP/1.1 503 Service Unavailable\r\n" ≡ status_line 503
unfolding status_line phrase_of
line_503 = refl

pub last_status : (status : ℕ) → is_answer_status status ≡ true → status ≢ 200 → status ≢ 201 → status ≢ 204 → status ≢ 206 → status ≢ 400 → status ≢ 403
    → status ≢ 404 → status ≢ 405 → status ≢ 410 → status ≢ 411 → status ≢ 413 → status ≢ 416 → status ≢ 502 → status ≡ 503
last_status status is a b c d e f g h i j k l m =
    let left = rw (ne_eqb status 200 a, ne_eqb status 201 b, ne_eqb status 204 c, ne_eqb status 206 d, ne_eqb status 400 e, ne_eqb status 403 f, ne_eqb status 404 g, ne_eqb status 405 h, ne_eqb status 410 i, ne_eqb status 411 j, ne_eqb status 413 k, ne_eqb status 416 l, ne_eqb status 502 m) at is in
    eqb-true status 503 left

abbrev pub room_of : List ℕ → ℕ → Room
room_of text room = record { text = text; room = room }

pub puts_adds : (old new : Room) (text : List ℕ) (result : Bool) → Puts old new text result → Adds old new text result
puts_adds old new text true puts = puts.1
puts_adds old new text false puts = (puts.0, ([], puts.1 ∙ ap (λ x. room_of x old.room) (sym (append-nil old.text))))

pub adds_as : (old new : Room) (text same : List ℕ) (result : Bool) → text ≡ same → Adds old new text result → Adds old new same result
adds_as old new text same result is adds = subst (λ (x : List ℕ). Adds old new x result) is adds

-- one text after another
pub adds_then : (old middle new : Room) (first last : List ℕ) (result : Bool) → Adds old middle first true → Adds middle new last result → Adds old new (first ++ last) result
adds_then old middle new first last true a b =
    b ∙ ap (λ r. room_of (r.text ++ last) r.room) a ∙ ap (λ x. room_of x old.room) (append_assoc old.text first last)
adds_then old middle new first last false a b = (
  omega (arith, b.0, ap (λ r. length r.text) a, ap (λ r. r.room) a, length-append old.text first, length-append first last),
  (first ++ b.1.0, b.1.1 ∙ ap (λ r. room_of (r.text ++ b.1.0) r.room) a ∙ ap (λ x. room_of x old.room) (append_assoc old.text first b.1.0)),
)

pub adds_stop : (old new : Room) (first last : List ℕ) → Adds old new first false → Adds old new (first ++ last) false
adds_stop old new first last a = (omega (arith, a.0, length-append first last), a.1)

pub puts_whole : (old new : Room) (text : List ℕ) (result : Bool) → result ≡ true → Puts old new text result → Adds old new text true
puts_whole old new text result is puts = (subst (λ b. Puts old new text b) is puts).1

pub adds_whole : (old new : Room) (text : List ℕ) (result : Bool) → result ≡ true → Adds old new text result → Adds old new text true
adds_whole old new text result is adds = subst (λ b. Adds old new text b) is adds

pub adds_none : (old new : Room) (text : List ℕ) (result : Bool) → result ≡ false → Adds old new text result → Adds old new text false
adds_none old new text result is adds = subst (λ b. Adds old new text b) is adds

-- how much room a text takes
pub puts_fits : (most : ℕ) (old new : Room) (text : List ℕ) (result : Bool) → length text ≤ most → Puts old new text result → Fits most old new result
puts_fits most old new text true short puts =
    record { grown = omega (arith, short, ap (λ r. length r.text) puts.1, length-append old.text text); same = ap (λ r. r.room) puts.1; all = λ h. refl }
puts_fits most old new text false short puts =
    record { grown = omega (arith, ap (λ r. length r.text) puts.1); same = ap (λ r. r.room) puts.1; all = λ h. absurd (omega (arith, h, short, puts.0)) }

pub fits_then : (first last : ℕ) (old middle new : Room) (done result : Bool) → done ≡ true → Fits first old middle done → Fits last middle new result → Fits (first + last) old new result
fits_then first last old middle new done result is a b = record {
  grown = omega (arith, a.grown, b.grown);
  same = b.same ∙ a.same;
  all = λ h. b.all (omega (arith, a.grown, a.same, h));
}

pub fits_stop : (first last : ℕ) (old new : Room) (done : Bool) → done ≡ false → Fits first old new done → Fits (first + last) old new false
fits_stop first last old new done is a =
    record { grown = omega (arith, a.grown); same = a.same; all = λ h. absurd (true≢false (sym (a.all (omega (arith, h))) ∙ is)) }

pub fits_none : (most : ℕ) (old : Room) → Fits most old old true
fits_none most old = record { grown = omega arith; same = refl; all = λ h. refl }

pub fits_less : (first last : ℕ) (old new : Room) (result : Bool) → first ≤ last → Fits first old new result → Fits last old new result
fits_less first last old new result less a = record { grown = omega (arith, a.grown, less); same = a.same; all = λ h. a.all (omega (arith, h, less)) }

pub short_number : (n : ℕ) → n < 2 ^ 64 → length (decimal n) ≤ 20
short_number n fits = length-decimal-le 20 n (omega arith) (omega (arith, fits)) fits

pub short_range : (first last len : ℕ) → first < 2 ^ 64 → last < 2 ^ 64 → len < 2 ^ 64 → length (range_text first last len) ≤ 68
short_range first last len a b c =
    let one = codes "bytes " ++ decimal first in
    let two = (one ++ codes "-") ++ decimal last in
    omega (arith, length-append (two ++ codes "/") (decimal len), length-append two (codes "/"), length-append (one ++ codes "-") (decimal last), length-append one (codes "-"), length-append (codes "bytes ") (decimal first), short_number first a, short_number last b, short_number len c)

-- what did not fit is taken back
pub taken_back : (old new back : Room) (text before : List ℕ) → before ≡ old.text → PutsFront old new text false
    → back ≡ room_of (take (length before) new.text) new.room → (old.room < length old.text + length text) × (back ≡ old)
taken_back old new back text before is front cut = (
  front.0,
  cut ∙ ap (λ r. room_of (take (length before) r.text) r.room) front.1.1 ∙ ap (λ (b : List ℕ). room_of (take (length b) (old.text ++ front.1.0)) old.room) is
      ∙ ap (λ x. room_of x old.room) (take-append_seam old.text front.1.0),
)
