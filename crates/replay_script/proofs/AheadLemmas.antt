-- Line feeds, and bytes without any.
use Rattle.std.proofs.Common.{◌≡◌, ℕ, zero, suc, ◌+◌, ◌-◌, ◌<◌, ◌≤◌, ◌==◌, Bool, true, not, List, [], ◌∷◌, ◌++◌, length, take, drop, get_or, take_all, refl, sym, ◌∙◌, ap, subst, arith, None, Some, min, append_assoc, append-nil, length-append, add-one, drop-cons}
use Rattle.std.specs.List.{list_all}
use Rattle.std.specs.declared.option.Option.{Option}
use Rattle.std.specs.Io.KnownBytes.{Consumes, Keeps}
use Rattle.std.proofs.KnownBytes.{Consumes-trans, Consumes-nil, Consumes-kept}
use Rattle.std.proofs.lemmas.Bool.{and_from, eqb-true, not_from_false, false_from_ne_true}
use Rattle.std.proofs.Math.Seq.{take-length}
use Rattle.std.proofs.lemmas.List.{take-append-drop, drop-take, drop-drop, length-take, length-drop, get_or-take, take-take}
use Rattle.std.proofs.lemmas.List.Folds.{list_all-append}
use Rattle.memchr.specs.Find.{IsFirstByte, is_byte}
use Rattle.replay_script.specs.Lines.{NoFeed}
use Rattle.replay_script.specs.Ahead.{Moves, EndsLine, Goes, StaysShort, TakesPiece}
use Rattle.replay_script.specs.declared.ahead.Piece.TheVariants as piece
use Rattle.replay_script.specs.declared.ahead.TheConstants.{READ_SIZE}
use Rattle.script_line.specs.declared.answer.TheConstants.{LINE_FEED}
use Rattle.replay_script.specs.declared.step.TheConstants.{LINE_LIMIT}

abbrev plain : ℕ → Bool
plain byte = not (byte == LINE_FEED)

all_below : (bytes : List ℕ) (k : ℕ) → ((j : ℕ) → j < k → j < length bytes → plain (get_or bytes j 0) ≡ true) → NoFeed (take k bytes)
all_below bytes zero h = refl
all_below [] (suc k) h = refl
all_below (b ∷ bytes) (suc k) h = and_from _ _ (h zero (omega arith) (omega arith)) (all_below bytes k (λ j below within. h (suc j) (omega arith) (omega arith)))

is_plain : (byte : ℕ) → ((byte == LINE_FEED) ≡ true → ⊥) → plain byte ≡ true
is_plain byte h = not_from_false _ (false_from_ne_true _ h)

-- the first feed, and no feed before it
pub feed_here : (bytes : List ℕ) (k : ℕ) → IsFirstByte (is_byte LINE_FEED) bytes (Some k) → (k < length bytes) × NoFeed (take k bytes) × (get_or bytes k 0 ≡ LINE_FEED)
feed_here bytes k first = (first.0.high, all_below bytes k (λ j below within. is_plain (get_or bytes j 0) (first.0.before j (omega arith) below)), eqb-true _ _ first.1)

pub feed_nowhere : (bytes : List ℕ) → IsFirstByte (is_byte LINE_FEED) bytes None → NoFeed bytes
feed_nowhere bytes none =
    let whole : NoFeed (take (length bytes) bytes) = all_below bytes (length bytes) (λ j below within. is_plain (get_or bytes j 0) (none j (omega arith) below)) in
    rw (take-length bytes) at whole

-- a line that ends within what is ahead
cut_feed : (ahead : List ℕ) (place : ℕ) → place < length ahead → get_or ahead place 0 ≡ LINE_FEED → ahead ≡ (take place ahead ++ LINE_FEED ∷ []) ++ drop (place + 1) ahead
cut_feed ahead place below is =
    let here : drop place ahead ≡ LINE_FEED ∷ drop (place + 1) ahead = rw (drop-cons ahead place 0 below, is, add-one place) refl in
    sym (take-append-drop place ahead) ∙ ap (λ rest. take place ahead ++ rest) here ∙ sym (append_assoc (take place ahead) (LINE_FEED ∷ []) (drop (place + 1) ahead))

take_and_rest : (n : ℕ) (bytes : List ℕ) → take n bytes ++ drop (length (take n bytes)) bytes ≡ bytes
take_and_rest zero bytes = refl
take_and_rest (suc n) [] = refl
take_and_rest (suc n) (b ∷ bytes) = ap (λ rest. b ∷ rest) (take_and_rest n bytes)

window_short : (ahead window : List ℕ) (n : ℕ) → window ≡ take n ahead → length window ≡ min n (length ahead)
window_short ahead window n is = ap length is ∙ length-take n ahead

pub place_within : (ahead window : List ℕ) (n place : ℕ) → window ≡ take n ahead → IsFirstByte (is_byte LINE_FEED) window (Some place) → place + 1 ≤ length ahead
place_within ahead window n place is first = let f = feed_here window place first in let short = window_short ahead window n is in omega (arith, short, f.0)

-- the line ends within the window
pub takes_line : (ahead after line longer window : List ℕ) (n place : ℕ) → window ≡ take n ahead → IsFirstByte (is_byte LINE_FEED) window (Some place)
    → after ≡ drop (place + 1) ahead → longer ≡ line ++ take place window → n + length line ≤ LINE_LIMIT → TakesPiece ahead after line longer piece.Line
takes_line ahead after line longer window n place is first rest grown room =
    let f = feed_here window place first in
    let short = window_short ahead window n is in
    let within : place < n = omega (arith, short, f.0) in
    let inside : place < length ahead = omega (arith, short, f.0) in
    let byte : get_or ahead place 0 ≡ LINE_FEED = sym (get_or-take n ahead place 0 within) ∙ ap (λ bytes. get_or bytes place 0) (sym is) ∙ f.2 in
    let same : take place window ≡ take place ahead = ap (take place) is ∙ take-take place n ahead (omega arith) in (
      (
        take place window,
        record {
          parts = cut_feed ahead place inside byte ∙ ap (λ bytes. (bytes ++ LINE_FEED ∷ []) ++ drop (place + 1) ahead) (sym same) ∙ ap (λ bytes. (take place window ++ LINE_FEED ∷ []) ++ bytes) (sym rest);
          grown = grown;
          plain = f.1;
        },
      ),
      omega (arith, ap length grown, length-append line (take place window), length-take place window),
    )

window_first : (ahead after window : List ℕ) (n : ℕ) → window ≡ take n ahead → after ≡ drop (length window) ahead → ahead ≡ window ++ after
window_first ahead after window n is rest = sym (take_and_rest n ahead) ∙ ap (λ bytes. bytes ++ drop (length bytes) ahead) (sym is) ∙ ap (λ bytes. window ++ bytes) (sym rest)

goes_on : (ahead after line longer window : List ℕ) (n : ℕ) → window ≡ take n ahead → IsFirstByte (is_byte LINE_FEED) window None
    → after ≡ drop (length window) ahead → longer ≡ line ++ window → Goes ahead after line longer window []
goes_on ahead after line longer window n is none rest grown = record {
  parts = window_first ahead after window n is rest ∙ ap (λ bytes. bytes ++ after) (sym (append-nil window));
  grown = grown;
  plain = feed_nowhere window none;
}

pub takes_long : (ahead after line window : List ℕ) (n : ℕ) → window ≡ take n ahead → IsFirstByte (is_byte LINE_FEED) window None
    → after ≡ drop (length window) ahead → length line + length window ≡ LINE_LIMIT → TakesPiece ahead after line line piece.TooLong
takes_long ahead after line window n is none rest long = (window, window_first ahead after window n is rest, feed_nowhere window none, long)

pub takes_more : (ahead after line longer window : List ℕ) (n : ℕ) → window ≡ take n ahead → IsFirstByte (is_byte LINE_FEED) window None
    → after ≡ drop (length window) ahead → longer ≡ line ++ window → n + length line ≤ LINE_LIMIT → 0 < n → 0 < length ahead → (length longer ≡ LINE_LIMIT → ⊥) → TakesPiece ahead after line longer piece.More
takes_more ahead after line longer window n is none rest grown room some there short =
    let w = window_short ahead window n is in
    let l : length longer ≡ length line + length window = ap length grown ∙ length-append line window in
    ((window, goes_on ahead after line longer window n is none rest grown), omega (arith, w, l), omega (arith, w, l))

-- ---- reading goes on

pub moves_nothing : (left : Option (List ℕ)) (before : List ℕ) → Moves left left before before []
moves_nothing left before = record { taken = []; consumed = Consumes-nil left; parts = append-nil before }

pub moves_read : (old mid new : Option (List ℕ)) (before ahead more line taken : List ℕ) → Moves old mid before ahead line → Consumes mid new taken → more ≡ ahead ++ taken → Moves old new before more line
moves_read old mid new before ahead more line taken m consumed is = record {
  taken = m.taken ++ taken;
  consumed = Consumes-trans _ _ _ _ _ m.consumed consumed;
  parts = sym (append_assoc before m.taken taken) ∙ ap (λ bytes. bytes ++ taken) m.parts ∙ append_assoc line ahead taken ∙ ap (λ bytes. line ++ bytes) (sym is);
}

pub moves_kept : (old mid new : Option (List ℕ)) (before ahead more line : List ℕ) → Moves old mid before ahead line → Keeps mid new → ahead ≡ more → Moves old new before more line
moves_kept old mid new before ahead more line m kept is = record { taken = m.taken; consumed = Consumes-kept _ _ _ _ m.consumed kept; parts = m.parts ∙ ap (λ bytes. line ++ bytes) is }

pub moves_on : (old new : Option (List ℕ)) (before ahead after line longer piece feed : List ℕ) → Moves old new before ahead line → Goes ahead after line longer piece feed → Moves old new before after (longer ++ feed)
moves_on old new before ahead after line longer piece feed m g = record { taken = m.taken; consumed = m.consumed; parts = m.parts ∙ ap (λ bytes. line ++ bytes) g.parts ∙ simp (g.grown, append_assoc) }

pub plain_on : (ahead after line longer piece feed : List ℕ) → NoFeed line → Goes ahead after line longer piece feed → NoFeed longer
plain_on ahead after line longer piece feed none g = ap (list_all plain) g.grown ∙ list_all-append plain line piece ∙ and_from _ _ none g.plain

pub moves_on-nil : (old new : Option (List ℕ)) (before ahead after line longer piece : List ℕ) → Moves old new before ahead line → Goes ahead after line longer piece [] → Moves old new before after longer
moves_on-nil old new before ahead after line longer piece m g =
    let n = moves_on old new before ahead after line longer piece [] m g in
    record { taken = n.taken; consumed = n.consumed; parts = n.parts ∙ ap (λ bytes. bytes ++ after) (append-nil longer) }

-- the line so far is too long with the piece that no line feed ends
pub moves_long : (old new : Option (List ℕ)) (before ahead after line p : List ℕ) → Moves old new before ahead line → ahead ≡ p ++ after → Moves old new before after (line ++ p)
moves_long old new before ahead after line p m is = record { taken = m.taken; consumed = m.consumed; parts = m.parts ∙ ap (λ bytes. line ++ bytes) is ∙ sym (append_assoc line p after) }

pub plain_both : (line p : List ℕ) → NoFeed line → NoFeed p → NoFeed (line ++ p)
plain_both line p one two = list_all-append plain line p ∙ and_from _ _ one two

-- want of memory for a piece that a line feed ends, or for all that is ahead
pub stays_line : (ahead line window : List ℕ) (n place : ℕ) → window ≡ take n ahead → IsFirstByte (is_byte LINE_FEED) window (Some place) → n + length line ≤ LINE_LIMIT → StaysShort line ahead
stays_line ahead line window n place is first room =
    let f = feed_here window place first in
    let short = window_short ahead window n is in
    let within : place < n = omega (arith, short, f.0) in
    let inside : place < length ahead = omega (arith, short, f.0) in
    let byte : get_or ahead place 0 ≡ LINE_FEED = sym (get_or-take n ahead place 0 within) ∙ ap (λ bytes. get_or bytes place 0) (sym is) ∙ f.2 in
    let same : take place window ≡ take place ahead = ap (take place) is ∙ take-take place n ahead (omega arith) in (
      take place ahead,
      LINE_FEED ∷ drop (place + 1) ahead,
      cut_feed ahead place inside byte ∙ append_assoc (take place ahead) (LINE_FEED ∷ []) (drop (place + 1) ahead),
      subst NoFeed same f.1,
      refl,
      omega (arith, length-take place ahead),
    )

pub stays_open : (ahead line window : List ℕ) (n : ℕ) → window ≡ take n ahead → IsFirstByte (is_byte LINE_FEED) window None → n + length line ≡ LINE_LIMIT → (length line + length window ≡ LINE_LIMIT → ⊥) → StaysShort line ahead
stays_open ahead line window n is none room short =
    let w = window_short ahead window n is in
    let all : window ≡ ahead = is ∙ take_all n ahead (omega (arith, w, short)) in
    (ahead, [], sym (append-nil ahead), subst NoFeed all (feed_nowhere window none), tt, omega (arith, ap length all, w, short))

-- the first line feed ahead ends the line
pub ends_line : (ahead : List ℕ) (place : ℕ) → IsFirstByte (is_byte LINE_FEED) ahead (Some place) → length ahead ≤ READ_SIZE → EndsLine ahead (drop (place + 1) ahead) (take place ahead)
ends_line ahead place first short =
    let f = feed_here ahead place first in
    (cut_feed ahead place f.0 f.2 ∙ append_assoc (take place ahead) (LINE_FEED ∷ []) (drop (place + 1) ahead), f.1, omega (arith, length-take place ahead))

pub moves_whole : (left : Option (List ℕ)) (before after line : List ℕ) → before ≡ line ++ LINE_FEED ∷ after → Moves left left before after (line ++ LINE_FEED ∷ [])
moves_whole left before after line is = record { taken = []; consumed = Consumes-nil left; parts = append-nil before ∙ is ∙ sym (append_assoc line (LINE_FEED ∷ []) after) }

-- the same in the bytes that were read at once
pub whole_line : (ahead bytes : List ℕ) (from to place : ℕ) → ahead ≡ drop from (take to bytes) → IsFirstByte (is_byte LINE_FEED) ahead (Some place) → length ahead ≤ READ_SIZE
    → EndsLine ahead (drop (from + (place + 1)) (take to bytes)) (drop from (take (from + place) bytes))
whole_line ahead bytes from to place is first short =
    let f = feed_here ahead place first in
    let size : length ahead ≡ min to (length bytes) - from = ap length is ∙ length-drop from (take to bytes) ∙ ap (λ k. k - from) (length-take to bytes) in
    let rest : drop (place + 1) ahead ≡ drop (from + (place + 1)) (take to bytes) = ap (drop (place + 1)) is ∙ drop-drop (place + 1) from (take to bytes) in
    let line : take place ahead ≡ drop from (take (from + place) bytes) =
    ap (take place) is ∙ sym (drop-take from place (take to bytes)) ∙ ap (drop from) (take-take (from + place) to bytes (omega (arith, size, f.0))) in
    subst (λ after. EndsLine ahead after (drop from (take (from + place) bytes))) rest (subst (λ body. EndsLine ahead (drop (place + 1) ahead) body) line (ends_line ahead place first short))
