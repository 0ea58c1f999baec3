-- What was written of an answer.
use Rattle.std.proofs.Common.{◌≡◌, ℕ, ◌+◌, ◌-◌, ◌/◌, ◌^◌, ◌<◌, ◌≤◌, decimal, Bool, true, false, List, [], ◌∷◌, ◌++◌, length, take, drop, refl, sym, ◌∙◌, ap, subst, arith, Some, None, length-append}
use Rattle.std.proofs.Math.Seq.{take-append-add, take-length, take-append_seam, drop-append_seam}
use Rattle.std.proofs.lemmas.Fmt.{length-decimal-le}
use Rattle.std.proofs.lemmas.List.{length-take-le, take-append-le, take-append-drop}
use Rattle.std.proofs.KnownBytes.{Appends-trans}
use Rattle.std.specs.Io.KnownBytes.{Appends}
use Rattle.std.specs.declared.option.Option.{Option}
use Rattle.answer_head.specs.declared.answer.AnswerHead.{AnswerHead}
use Rattle.answer_head.specs.Answer.{head_text, status_line, date_line, length_line, kind_line, kind_line_of, range_lines, link_lines, allow_line, location_line, place_text, close_line, line_end}
use Rattle.answer_head.specs.declared.answer.Location.{Location}
use Rattle.std.specs.Borrow.{Bor}
use Rattle.std.specs.Option.{option_map}
use Rattle.httpdate.specs.declared.date.HttpDate.{HttpDate}
use Rattle.session_base.specs.Answer.{Answer, IsSaid, Says, wire, saying_of, saying_text, kind_in, location_part}
use Rattle.cdni_base.specs.Scratch.{Room, Puts}
use Rattle.answer_head.specs.declared.answer.TheConstants.{ANSWER_HEAD_MAX}
use Rattle.httpdate.specs.Date.{unix_secs}
use Rattle.session_base.specs.declared.answer_room.TheConstants.{TEXT_ROOM}
use Rattle.session_base.specs.declared.send.Sent.{Sent}

-- the sink took the first bytes of an answer
pub says_front : (Is : Answer → Type 0) (answer : Answer) (held held' : Option (List ℕ)) (sent : Sent) (t : ℕ) → Is answer → Appends held held' (take t (wire answer)) → t ≤ length (wire answer)
    → (sent.fault ≡ false → t ≡ length (wire answer)) → (sent.fault ≡ true → t < length (wire answer)) → sent.status ≡ answer.status → sent.taken ≡ t → sent.entity ≡ t - length answer.head
    → Says Is held held' sent
says_front Is answer held held' sent t is put within whole part status taken entity =
    let long = length-take-le t (wire answer) within in
    record {
      answer = answer;
      written = take t (wire answer);
      is = is;
      put = put;
      takes = record {
        front = ap (λ n. take n (wire answer)) (sym long);
        whole = λ f. ap (λ n. take n (wire answer)) (whole f) ∙ take-length (wire answer);
        part = λ f. omega (arith, long, part f);
      };
      counts = record { status = status; taken = taken ∙ sym long; entity = entity ∙ ap (λ n. n - length answer.head) (sym long) };
    }

-- of the head alone, and of the body where it is empty
pub says_head : (Is : Answer → Type 0) (answer : Answer) (held held' : Option (List ℕ)) (sent : Sent) (t : ℕ) → Is answer → Appends held held' (take t answer.head) → t ≤ length answer.head
    → (sent.fault ≡ false → (t ≡ length answer.head) × (length answer.body ≡ 0)) → (sent.fault ≡ true → t < length answer.head) → sent.status ≡ answer.status → sent.taken ≡ t → sent.entity ≡ 0
    → Says Is held held' sent
says_head Is answer held held' sent t is put within whole part status taken entity =
    let long = length-append answer.head answer.body in
    says_front Is answer held held' sent t is (subst (Appends held held') (sym (take-append-le t answer.head answer.body within)) put) (omega (arith, long, within))
    (λ f. let w = whole f in omega (arith, long, w.0, w.1)) (λ f. let p = part f in omega (arith, long, p)) status taken (omega (arith, entity, within))

-- of the head, all of it, and then of the body
pub says_both : (Is : Answer → Type 0) (answer : Answer) (held middle held' : Option (List ℕ)) (sent : Sent) (t u : ℕ) → Is answer → Appends held middle (take t answer.head) → t ≡ length answer.head
    → Appends middle held' (take u answer.body) → u ≤ length answer.body → (sent.fault ≡ false → u ≡ length answer.body) → (sent.fault ≡ true → u < length answer.body)
    → sent.status ≡ answer.status → sent.taken ≡ t + u → sent.entity ≡ u → Says Is held held' sent
says_both Is answer held middle held' sent t u is first all second within whole part status taken entity =
    let long = length-append answer.head answer.body in
    let head = subst (Appends held middle) (ap (λ n. take n answer.head) all ∙ take-length answer.head) first in
    let both = subst (Appends held held') (sym (take-append-add answer.head answer.body u)) (Appends-trans held middle held' answer.head (take u answer.body) head second) in
    says_front Is answer held held' sent (length answer.head + u) is both (omega (arith, long, within))
    (λ f. let w = whole f in omega (arith, long, w)) (λ f. let p = part f in omega (arith, long, p)) status (omega (arith, taken, all)) (omega (arith, entity))

-- of both in one piece
pub says_joined : (Is : Answer → Type 0) (status : ℕ) (piece : List ℕ) (n : ℕ) (held held' : Option (List ℕ)) (sent : Sent) (t : ℕ) → n ≤ length piece
    → Is (record { status = status; head = take n piece; body = drop n piece }) → Appends held held' (take t piece) → t ≤ length piece
    → (sent.fault ≡ false → t ≡ length piece) → (sent.fault ≡ true → t < length piece) → sent.status ≡ status → sent.taken ≡ t → sent.entity ≡ t - n → Says Is held held' sent
says_joined Is status piece n held held' sent t within is put least whole part same taken entity =
    let joined = take-append-drop n piece in
    says_front Is (record { status = status; head = take n piece; body = drop n piece }) held held' sent t is (subst (λ (p : List ℕ). Appends held held' (take t p)) (sym joined) put)
    (subst (λ (p : List ℕ). t ≤ length p) (sym joined) least) (λ f. whole f ∙ ap length (sym joined)) (λ f. subst (λ (p : List ℕ). t < length p) (sym joined) (part f))
    same taken (entity ∙ ap (λ k. t - k) (sym (length-take-le n piece within)))

-- an answer that is one thing is another
pub says_as : (Is Other : Answer → Type 0) (held held' : Option (List ℕ)) (sent : Sent) → ((answer : Answer) → Is answer → Other answer) → Says Is held held' sent → Says Other held held' sent
says_as Is Other held held' sent other s = record { answer = s.answer; written = s.written; is = other s.answer s.is; put = s.put; takes = s.takes; counts = s.counts }

-- a Content-Type that is left out
kind_same : (kind : Option (Bor (List ℕ))) → kind_line_of kind ≡ kind_line (kind_in kind)
unfolding kind_line
kind_same None = refl
kind_same (Some name) = refl

location_same : (location : Option Location) → location_line location ≡ location_part (option_map place_text location)
location_same None = refl
location_same (Some place) = refl

-- a head that is put together of parts
pub head_said : (head : AnswerHead) (date : HttpDate) → head_text head date ≡ saying_text (saying_of head) date
unfolding head_text saying_text
head_said head date =
    ap (λ (x : List ℕ). (status_line head.status ++ date_line date ++ length_line head.length ++ x) ++ range_lines head ++ link_lines head) (kind_same head.kind)
    ∙ ap (λ (x : List ℕ). (status_line head.status ++ date_line date ++ length_line head.length ++ kind_line (kind_in head.kind)) ++ range_lines head ++ (allow_line head.allow ++ x ++ close_line head.close ++ line_end)) (location_same head.location)

-- ---- what was put into a scratch

-- a text that fits was added
pub puts_fits : (old new : Room) (text : List ℕ) (result : Bool) → Puts old new text result → length old.text + length text ≤ old.room → new ≡ record { text = old.text ++ text; room = old.room }
puts_fits old new text true p fits = p.1
puts_fits old new text false p fits = absurd (omega (arith, p.0, fits))

-- some words and a number, as a line
pub counted : (old cleared worded numbered ended : Room) (words : List ℕ) (n : ℕ) (a b c : Bool) → old.room ≡ TEXT_ROOM → length words ≤ 64 → n < 2 ^ 64 → cleared ≡ record { text = []; room = old.room }
    → Puts cleared worded words a → Puts worded numbered (decimal n) b → Puts numbered ended (10 ∷ []) c → ended ≡ record { text = words ++ decimal n ++ 10 ∷ []; room = TEXT_ROOM }
counted old cleared worded numbered ended words n a b c room short below clear p q r =
    let digits = length-decimal-le 20 n (omega arith) (omega (arith, below)) below in
    let none : Room = record { text = []; room = TEXT_ROOM } in
    let one : Room = record { text = words; room = TEXT_ROOM } in
    let two : Room = record { text = words ++ decimal n; room = TEXT_ROOM } in
    let begun : cleared ≡ none = clear ∙ ap (λ (k : ℕ). record { text = []; room = k }) room in
    let first : worded ≡ one = puts_fits none worded words a (subst (λ (x : Room). Puts x worded words a) begun p) (omega (arith, short)) in
    let second : numbered ≡ two = puts_fits one numbered (decimal n) b (subst (λ (x : Room). Puts x numbered (decimal n) b) first q) (omega (arith, short, digits)) in
    let long = length-append words (decimal n) in
    puts_fits two ended (10 ∷ []) c (subst (λ (x : Room). Puts x ended (10 ∷ []) c) second r) (omega (arith, short, digits, long))

-- a head that was put into an empty scratch
pub head_put : (old cleared put : Room) (text : List ℕ) (result : Bool) → old.room ≡ ANSWER_HEAD_MAX → cleared ≡ record { text = []; room = old.room } → Puts cleared put text result
    → (length cleared.text + ANSWER_HEAD_MAX ≤ cleared.room → result ≡ true) → put ≡ record { text = text; room = ANSWER_HEAD_MAX }
head_put old cleared put text result room clear p fits =
    let same : cleared ≡ record { text = []; room = ANSWER_HEAD_MAX } = clear ∙ ap (λ (k : ℕ). record { text = []; room = k }) room in
    let fit : length cleared.text + ANSWER_HEAD_MAX ≤ cleared.room = subst (λ (x : Room). length x.text + ANSWER_HEAD_MAX ≤ x.room) (sym same) (omega arith) in
    let done : Puts (record { text = []; room = ANSWER_HEAD_MAX }) put text true = subst (λ (x : Room). Puts x put text true) same (subst (λ (b : Bool). Puts cleared put text b) (fits fit) p) in
    done.1

-- it was written alone, or in one piece with the body
pub said_apart : (head : AnswerHead) (body piece : List ℕ) (date : HttpDate) → unix_secs date ≡ head.moment / 1000 → piece ≡ head_text head date → (answer : Answer)
    → answer ≡ record { status = head.status; head = piece; body = body } → IsSaid (saying_of head) body answer
said_apart head body piece date second text answer is = record {
  date = date;
  second = second;
  is = is ∙ ap (λ (x : List ℕ). record { status = head.status; head = x; body = body }) (text ∙ head_said head date);
}

pub said_joined : (head : AnswerHead) (body piece : List ℕ) (n : ℕ) (date : HttpDate) → unix_secs date ≡ head.moment / 1000 → n ≡ length (head_text head date) → piece ≡ head_text head date ++ body → (answer : Answer)
    → answer ≡ record { status = head.status; head = take n piece; body = drop n piece } → IsSaid (saying_of head) body answer
said_joined head body piece n date second long text answer is =
    let whole = head_text head date in
    let front : take n piece ≡ whole = ap (λ k. take k piece) long ∙ ap (take (length whole)) text ∙ take-append_seam whole body in
    let back : drop n piece ≡ body = ap (λ k. drop k piece) long ∙ ap (drop (length whole)) text ∙ drop-append_seam whole body in
    said_apart head body (take n piece) date second front answer (is ∙ ap (λ (x : List ℕ). record { status = head.status; head = take n piece; body = x }) back)
