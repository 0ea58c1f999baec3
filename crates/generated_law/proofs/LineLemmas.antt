-- Texts that are lines of the grammar, one after the other.
use Rattle.std.proofs.Common.{◌≡◌, ℕ, ◌+◌, ◌≤◌, Bool, true, false, cond, List, [], ◌∷◌, ◌++◌, length, sym, ◌∙◌, ap, refl, arith, append-nil, length-append}
use Rattle.std.specs.List.{flat_map}
use Rattle.std.proofs.lemmas.Grind.{flat_map-append}
use Rattle.generated_law.specs.Law.{IsScriptLine, AreScriptLines, with_feed, IsScript}

-- at most so many lines, none of which is the first of a script
pub record AreLaterLines (most : ℕ) (text : List ℕ) : Type 0 where
  pub lines : List (List ℕ)
  pub each : AreScriptLines false lines
  pub few : length lines ≤ most
  pub whole : text ≡ flat_map with_feed lines

lines_both : (a b : List (List ℕ)) → AreScriptLines false a → AreScriptLines false b → AreScriptLines false (a ++ b)
lines_both [] b first second = second
lines_both (line ∷ a) b first second = (first.0, lines_both a b first.1 second)

pub text_none : (most : ℕ) → AreLaterLines most []
text_none most = record { lines = []; each = tt; few = omega arith; whole = refl }

pub text_line : (line : List ℕ) → IsScriptLine false line → AreLaterLines 1 (with_feed line)
text_line line is = record { lines = line ∷ []; each = (is, tt); few = omega arith; whole = sym (append-nil (with_feed line)) }

pub text_both : (m n : ℕ) (a b : List ℕ) → AreLaterLines m a → AreLaterLines n b → AreLaterLines (m + n) (a ++ b)
text_both m n a b first second = record {
  lines = first.lines ++ second.lines;
  each = lines_both first.lines second.lines first.each second.each;
  few = let l : length (first.lines ++ second.lines) ≡ length first.lines + length second.lines = length-append first.lines second.lines in omega (arith, l, first.few, second.few);
  whole = ap (λ (l : List ℕ). l ++ b) first.whole ∙ ap (λ (l : List ℕ). flat_map with_feed first.lines ++ l) second.whole ∙ sym (flat_map-append with_feed first.lines second.lines);
}

pub text_more : (m n : ℕ) (a : List ℕ) → m ≤ n → AreLaterLines m a → AreLaterLines n a
text_more m n a le text = record { lines = text.lines; each = text.each; few = omega (arith, le, text.few); whole = text.whole }

pub text_if : (b : Bool) (n : ℕ) (a : List ℕ) → AreLaterLines n a → AreLaterLines n (cond b a [])
text_if true n a text = text
text_if false n a text = text_none n

pub text_unless : (b : Bool) (n : ℕ) (a : List ℕ) → AreLaterLines n a → AreLaterLines n (cond b [] a)
text_unless true n a text = text_none n
text_unless false n a text = text

pub script_of_lines : (n : ℕ) (line rest : List ℕ) → IsScriptLine true line → AreLaterLines n rest → IsScript (1 + n) (with_feed line ++ rest)
script_of_lines n line rest first text = record {
  lines = line ∷ text.lines;
  each = (first, text.each);
  few = omega (arith, text.few);
  whole = ap (λ (l : List ℕ). with_feed line ++ l) text.whole;
}
