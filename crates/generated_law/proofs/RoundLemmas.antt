-- The rounds of a generated script are lines of the grammar.
use Rattle.std.proofs.Common.{◌≡◌, ℕ, zero, suc, ◌+◌, ◌*◌, ◌/◌, ◌%◌, ◌<◌, ◌≤◌, ◌==◌, ◌^◌, Bool, true, false, cond, List, [], ◌∷◌, ◌++◌, length, sym, ◌∙◌, ap, subst, refl, arith, append_assoc, append-nil, length-append, lit≤, lit<, codes, decimal}
use Rattle.std.specs.Fmt.{digits}
use Rattle.script_line.specs.Line.{Sets}
use Rattle.generated_script.specs.Line.{line, get_line, got_line, finish_line, command_line, advance_line, delete_line, cut_line, droplog_line, first_lines}
use Rattle.generated_script.specs.Course.{pass_of, path_of, purged_path, next_number, drawn_below, drawn_twice, is_marked, round_moment, fetch_lines, delivery_lines, purge_lines, log_lines, with_fetch, delivered, purged, course_of, round_lines, after_round}
use Rattle.generated_script.specs.Script.{rounds_text, script_of}
use Rattle.generated_script.specs.declared.course.Course.{Course}
use Rattle.script_line.specs.declared.answer.TheConstants.{LINE_FEED}
use Rattle.generated_law.specs.Law.{IsScriptLine, with_feed, IsScript}
use Rattle.generated_law.proofs.LineLemmas.{AreLaterLines, text_none, text_line, text_both, text_more, text_if, text_unless, script_of_lines}
use Rattle.generated_law.proofs.SayingLemmas.{lacks_append, lacks_decimal, decimal_short, line_body, line_of_call, line_of_command, get_call, got_call, finish_call, advance_call, delete_call, droplog_call, cut_call, refresh_call, meta_call}

-- ---- lines

ended_body : (pass moment : ℕ) (call : List ℕ) → with_feed (line_body pass moment call) ≡ decimal pass ++ 32 ∷ (decimal moment ++ 32 ∷ (call ++ LINE_FEED ∷ []))
ended_body pass moment call =
    append_assoc (decimal pass) (32 ∷ (decimal moment ++ 32 ∷ call)) (LINE_FEED ∷ [])
    ∙ ap (λ (l : List ℕ). decimal pass ++ 32 ∷ l) (append_assoc (decimal moment) (32 ∷ call) (LINE_FEED ∷ []))

line_parts : (a s b w c r : List ℕ) → ((((a ++ s) ++ b) ++ w) ++ c) ++ r ≡ a ++ (s ++ (b ++ (w ++ (c ++ r))))
line_parts a s b w c r =
    append_assoc (((a ++ s) ++ b) ++ w) c r ∙ append_assoc ((a ++ s) ++ b) w (c ++ r) ∙ append_assoc (a ++ s) b (w ++ (c ++ r)) ∙ append_assoc a s (b ++ (w ++ (c ++ r)))

-- a line of these words, a number and the rest, without its line feed
line_text : (pass moment : ℕ) (words rest : List ℕ) (number : ℕ) → IsScriptLine false (line_body pass moment (words ++ (decimal number ++ rest))) → AreLaterLines 1 (line pass moment (32 ∷ words) number (rest ++ LINE_FEED ∷ []))
line_text pass moment words rest number is =
    subst (AreLaterLines 1)
    (ended_body pass moment (words ++ (decimal number ++ rest))
    ∙ ap (λ (l : List ℕ). decimal pass ++ 32 ∷ (decimal moment ++ 32 ∷ l)) (append_assoc words (decimal number ++ rest) (LINE_FEED ∷ []) ∙ ap (λ (l : List ℕ). words ++ l) (append_assoc (decimal number) rest (LINE_FEED ∷ [])))
    ∙ sym (line_parts (decimal pass) (32 ∷ []) (decimal moment) (32 ∷ words) (decimal number) (rest ++ LINE_FEED ∷ [])))
    (text_line (line_body pass moment (words ++ (decimal number ++ rest))) is)

-- the same where nothing is left
last_text : (pass moment : ℕ) (words : List ℕ) (number : ℕ) → IsScriptLine false (line_body pass moment (words ++ decimal number)) → AreLaterLines 1 (line pass moment (32 ∷ words) number (LINE_FEED ∷ []))
last_text pass moment words number is =
    line_text pass moment words [] number (subst (λ (l : List ℕ). IsScriptLine false (line_body pass moment (words ++ l))) (sym (append-nil (decimal number))) is)

get_text : (pass moment path : ℕ) → pass < 2 ^ 32 → moment < 2 ^ 64 → path < 50 → AreLaterLines 1 (get_line pass moment path)
get_text pass moment path small fits lt =
    last_text pass moment (codes "get GET http/1.1 192.0.2.7 as64496 us http://v.example/o/") path (line_of_call pass moment _ small fits (get_call moment path lt))

got_text : (pass moment fetch : ℕ) → pass < 2 ^ 32 → moment < 2 ^ 64 → fetch < 2 ^ 64 → AreLaterLines 1 (got_line pass moment fetch)
got_text pass moment fetch small fits lt = line_text pass moment (codes "got ") (codes " 200 - 61") fetch (line_of_call pass moment _ small fits (got_call moment fetch lt))

finish_text : (pass moment delivery : ℕ) → pass < 2 ^ 32 → moment < 2 ^ 64 → delivery < 2 ^ 64 → AreLaterLines 1 (finish_line pass moment delivery)
finish_text pass moment delivery small fits lt =
    line_text pass moment (codes "finish ") (codes " 200 1 1") delivery (line_of_call pass moment _ small fits (finish_call moment delivery lt))

advance_text : (moment trigger : ℕ) → moment < 2 ^ 64 → trigger < 2 ^ 64 → AreLaterLines 1 (advance_line moment trigger)
advance_text moment trigger fits lt = last_text 0 moment (codes "advance ") trigger (line_of_call 0 moment _ (lit< tt) fits (advance_call moment trigger lt))

delete_text : (moment trigger : ℕ) → moment < 2 ^ 64 → trigger < 2 ^ 64 → AreLaterLines 1 (delete_line moment trigger)
delete_text moment trigger fits lt = last_text 0 moment (codes "delete ") trigger (line_of_call 0 moment _ (lit< tt) fits (delete_call moment trigger lt))

droplog_text : (moment file : ℕ) → moment < 2 ^ 64 → file < 2 ^ 64 → AreLaterLines 1 (droplog_line moment file)
droplog_text moment file fits lt = last_text 0 moment (codes "droplog ") file (line_of_call 0 moment _ (lit< tt) fits (droplog_call moment file lt))

cut_text : (moment : ℕ) → moment < 2 ^ 64 → AreLaterLines 1 (cut_line moment)
unfolding digits
cut_text moment fits =
    subst (AreLaterLines 1) (ended_body 0 moment (codes "cut") ∙ sym (append_assoc (codes "0 ") (decimal moment) (codes " cut\n")))
    (text_line (line_body 0 moment (codes "cut")) (line_of_call 0 moment _ (lit< tt) fits (cut_call moment)))

-- the JSON text of a command, in front of its path and behind it
json_front : List ℕ
json_front = codes "{\"cdn-path\":[\"AS64500:0\"],\"trigger\":{\"content.urls\":[\"http://v.example/o/"

json_rest : List ℕ
json_rest = codes "\"],\"type\":\"purge\"}}"

command_text : (moment path : ℕ) → moment < 2 ^ 64 → path < 2 ^ 64 → AreLaterLines 1 (command_line moment path)
unfolding json_front json_rest
command_text moment path fits lt =
    let length_is : length (decimal path ++ json_rest) ≡ length (decimal path) + length json_rest = length-append (decimal path) json_rest in
    line_text 0 moment (codes "command " ++ json_front) json_rest path (line_of_command 0 moment (json_front ++ (decimal path ++ json_rest)) (lit< tt) fits
    (lacks_append LINE_FEED (decimal path) json_rest (lacks_decimal LINE_FEED path (lit< tt) lt) refl) (omega (arith, length_is, decimal_short path lt)))

-- ---- rounds

drawn_passes : (x : ℕ) → drawn_below 4 x < 4
unfolding drawn_below
drawn_passes x = omega arith

drawn_paths : (x : ℕ) → drawn_below 50 x < 50
unfolding drawn_below
drawn_paths x = omega arith

delivery_text : (round : ℕ) (course : Course) → round ≤ 1000000 → course.answers ≤ 1000000 → AreLaterLines 3 (delivery_lines round course)
unfolding delivery_lines fetch_lines
delivery_text round course few some =
    let pass : pass_of course < 2 ^ 32 = omega (arith, drawn_passes (next_number course.number)) in
    let moment : round_moment round < 2 ^ 64 = omega (arith, few) in
    let p = pass_of course in
    let t = round_moment round in
    text_both 2 1 _ _ (text_both 1 1 _ _ (get_text p t (path_of course) pass moment (drawn_paths (next_number (next_number course.number))))
    (text_unless (is_marked (drawn_twice course) (path_of course)) 1 (got_line p t (course.answers + 1)) (got_text p t (course.answers + 1) pass moment (omega (arith, some)))))
    (finish_text p t round pass moment (omega (arith, few)))

purge_text : (round path : ℕ) → round ≤ 1000000 → path < 50 → AreLaterLines 4 (purge_lines round path)
unfolding purge_lines
purge_text round path few lt =
    let moment : round_moment round < 2 ^ 64 = omega (arith, few) in
    let trigger : round / 100 < 2 ^ 64 = omega (arith, few) in
    let t = round_moment round in
    let j = round / 100 in
    text_both 3 1 _ _ (text_both 2 1 _ _ (text_both 1 1 _ _ (command_text t path moment (omega (arith, lt))) (advance_text t j moment trigger)) (advance_text t j moment trigger)) (delete_text t j moment trigger)

log_text : (round : ℕ) → round ≤ 1000000 → AreLaterLines 2 (log_lines round)
unfolding log_lines
log_text round few =
    let moment : round_moment round < 2 ^ 64 = omega (arith, few) in
    text_both 1 1 _ _ (cut_text _ moment) (droplog_text _ _ moment (omega (arith, few)))

round_text : (round : ℕ) (course : Course) → round ≤ 1000000 → course.answers ≤ 1000000 → AreLaterLines 9 (round_lines round course)
unfolding round_lines
round_text round course few some =
    text_both 7 2 _ _ (text_both 3 4 _ _ (delivery_text round course few some)
    (text_if (round % 100 == 0) 4 _ (purge_text round (purged_path (delivered course)) few (drawn_paths (next_number (delivered course).number))))) (text_if (round % 1000 == 0) 2 _ (log_text round few))

answers_if : (b : Bool) (c d : Course) (n : ℕ) → c.answers ≤ n → d.answers ≤ n → (cond b c d).answers ≤ n
answers_if true c d n p q = p
answers_if false c d n p q = q

delivered_answers : (course : Course) → (delivered course).answers ≤ course.answers + 1
unfolding delivered with_fetch
delivered_answers course = answers_if (is_marked (drawn_twice course) (path_of course)) _ _ _ (omega arith) (omega arith)

answers_after : (round : ℕ) (course : Course) → (after_round round course).answers ≤ course.answers + 1
unfolding after_round purged
answers_after round course = answers_if (round % 100 == 0) _ _ _ (delivered_answers course) (delivered_answers course)

pub rounds_are : (left round : ℕ) (course : Course) → round + left ≤ 1000001 → course.answers < round → AreLaterLines (9 * left) (rounds_text left round course)
unfolding rounds_text
rounds_are zero round course fits few = text_none (9 * zero)
rounds_are (suc left) round course fits few =
    text_more (9 + 9 * left) (9 * suc left) _ (omega arith)
    (text_both 9 (9 * left) _ _ (round_text round course (omega (arith, fits)) (omega (arith, fits, few)))
    (rounds_are left (round + 1) (after_round round course) (omega (arith, fits)) (omega (arith, few, answers_after round course))))

-- ---- the whole script

limits_line : List ℕ
limits_line = codes "limits 65536 100000 10000 64 60000 4611686018427387904"

limits_is : IsScriptLine true limits_line
unfolding digits limits_line
limits_is = record {
  said = Sets (record { cache = 65536; rows = 100000; triggers = 10000; files = 64; period = 60000; opened = 4611686018427387904 });
  says = record {
    cache = codes "65536";
    rows = codes "100000";
    triggers = codes "10000";
    files = codes "64";
    period = codes "60000";
    opened = codes "4611686018427387904";
    words = (_, refl, refl, (_, refl, refl, (_, refl, refl, (_, refl, refl, (_, refl, refl, (_, refl, refl, refl))))));
    bytes = (refl, lit< tt);
    deliveries = (refl, lit< tt);
    commands = (refl, lit< tt);
    logs = (refl, lit< tt);
    pause = (refl, lit< tt);
    answers = (refl, lit< tt);
    ranged = record {
      cache = lit≤ tt;
      rows = (lit≤ tt, lit≤ tt);
      triggers = (lit≤ tt, lit≤ tt);
      files = (lit≤ tt, lit≤ tt);
      period = lit≤ tt;
      opened = (lit≤ tt, lit≤ tt);
    };
  };
  stands = refl;
  clean = refl;
  short = lit< tt;
}

document : List ℕ
document = codes "{\"hosts\":[{\"host\":\"v.example\",\"host-metadata\":{\"metadata\":["
    ++ codes "{\"generic-metadata-type\":\"MI.SourceMetadata\",\"generic-metadata-value\":"
    ++ codes "{\"sources\":[{\"endpoints\":[\"o.example\"],\"protocol\":\"http/1.1\"}]}}]}}]}"

refresh_text : AreLaterLines 1 (codes "0 1000 refresh\n")
unfolding digits
refresh_text = text_line (line_body 0 1000 (codes "refresh")) (line_of_call 0 1000 _ (lit< tt) (lit< tt) (refresh_call 1000))

meta_text : AreLaterLines 1 (codes "0 1000 meta 1 http://up.example/i " ++ (document ++ LINE_FEED ∷ []))
unfolding digits document
meta_text = text_line (line_body 0 1000 (codes "meta 1 http://up.example/i " ++ document)) (line_of_call 0 1000 _ (lit< tt) (lit< tt) (meta_call document refl (lit≤ tt)))

first_parts : (rest : List ℕ) → with_feed limits_line ++ ((codes "0 1000 refresh\n" ++ (codes "0 1000 meta 1 http://up.example/i " ++ (document ++ LINE_FEED ∷ []))) ++ rest) ≡ first_lines ++ rest
unfolding limits_line document first_lines
first_parts rest = refl

pub script_is : (rounds seed : ℕ) → rounds ≤ 1000000 → IsScript (9 * rounds + 3) (script_of rounds seed)
unfolding script_of
script_is rounds seed few =
    let rest = rounds_text rounds 1 (course_of seed) in
    let many : 1 + (2 + 9 * rounds) ≡ 9 * rounds + 3 = omega arith in
    subst (λ (n : ℕ). IsScript n (first_lines ++ rest)) many (subst (IsScript (1 + (2 + 9 * rounds))) (first_parts rest)
    (script_of_lines (2 + 9 * rounds) limits_line _ limits_is
    (text_both 2 (9 * rounds) _ _ (text_both 1 1 _ _ refresh_text meta_text) (rounds_are rounds 1 (course_of seed) (omega (arith, few)) (lit< tt)))))
