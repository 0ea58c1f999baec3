-- The replay of lines of the grammar, of which only the first sets the limits, meets no line that is none.
use Rattle.std.proofs.Common.{◌≡◌, ℕ, suc, ◌+◌, ◌*◌, ◌^◌, ◌<◌, ◌≤◌, ◌==◌, Bool, true, false, List, [], ◌∷◌, ◌++◌, map, length, refl, sym, ◌∙◌, ap, subst, arith, None, Some, append_assoc}
use Rattle.std.specs.List.{flat_map}
use Rattle.std.specs.Option.{option_and_then}
use Rattle.std.specs.declared.option.Option.{Option}
use Rattle.std.proofs.lemmas.Bool.{le-leb, ne_eqb}
use Rattle.cdni_base.specs.Limits.{default_limits}
use Rattle.script_line.specs.Line.{Said, Sets, Calls, Refuses}
use Rattle.script_line.specs.Grammar.{Says, line_of}
use Rattle.script_line.specs.declared.answer.TheConstants.{LINE_FEED}
use Rattle.generated_law.specs.Law.{MayStand, IsScriptLine, AreScriptLines, IsScript, with_feed}
use Rattle.replay_script.specs.Lines.{Line, lines_of}
use Rattle.replay_script.specs.Script.{is_allowed, fits, next_said, Past, made_with, grown, Answered, Listed, listed_from, listed_of, answers}
use Rattle.replay_script.proofs.ScriptLemmas.{lines_of-line, next_said-here, listed_next, listed_nothing, answers_are}

-- a line with its line feed
abbrev whole_line : List ℕ → Line
whole_line line = record { body = line; ended = true }

-- what says something is read as that
abbrev Reads : Type 0
Reads = (line : List ℕ) (said : Said) → Says line said → line_of line ≡ Some said

lines_are : (first : Bool) (lines : List (List ℕ)) → AreScriptLines first lines → lines_of (flat_map with_feed lines) ≡ map whole_line lines
unfolding lines_of
lines_are first [] each = refl
lines_are first (line ∷ lines) each =
    ap lines_of (append_assoc line (LINE_FEED ∷ []) (flat_map with_feed lines)) ∙ lines_of-line line (flat_map with_feed lines) each.0.clean
    ∙ ap (λ (l : List Line). whole_line line ∷ l) (lines_are false lines each.1)

allowed : (first : Bool) (said : Said) → MayStand first said → is_allowed first said ≡ Some said
allowed first (Sets limits) stands = ap (λ t. is_allowed t (Sets limits)) stands
allowed first (Calls scripted) stands = refl
allowed first (Refuses fault) stands = refl

fits_here : (at len : ℕ) → len ≤ 512 → at + len ≤ 2 ^ 40 → true ≡ fits at len
fits_here at len short in_time = sym (rw (le-leb len 40000000 (omega arith), le-leb (at + len) (2 ^ 40) in_time) refl)

said_here : Reads → (first : Bool) (at : ℕ) (line : List ℕ) (is : IsScriptLine first line) → at + (length line + 1) ≤ 2 ^ 40 → next_said first at (whole_line line) ≡ Some is.said
said_here reads first at line is in_time = next_said-here first at line (fits_here at (length line + 1) (omega (arith, is.short)) in_time)
    ∙ ap (option_and_then (is_allowed first)) (reads line is.said is.says) ∙ allowed first is.said is.stands

goes_on : Reads → (lines : List (List ℕ)) (number at : ℕ) (past : Past) → 1 ≤ number → AreScriptLines (number == 1) lines → at + 512 * length lines ≤ 2 ^ 40
    → (listed_from number at past (map whole_line lines)).stops ≡ None
goes_on reads [] number at past some each in_time = ap (λ (l : Listed). l.stops) (listed_nothing number at past)
goes_on reads (line ∷ lines) number at past some each in_time =
    let said = said_here reads (number == 1) at line each.0 (omega (arith, each.0.short)) in
    let later : (number + 1 == 1) ≡ false = ne_eqb (number + 1) 1 (λ is. omega (arith, is)) in
    ap (λ (l : Listed). l.stops) (listed_next number at past (whole_line line) (map whole_line lines) each.0.said said)
    ∙ goes_on reads lines (number + 1) (at + (length line + 1)) (grown past each.0.said) (omega arith) (subst (λ t. AreScriptLines t lines) (sym later) each.1) (omega (arith, each.0.short, in_time))

pub script_goes_on : Reads → (most : ℕ) (text : List ℕ) → IsScript most text → most * 512 ≤ 2 ^ 40 → (answers text).stops ≡ None
unfolding listed_of
script_goes_on reads most text is in_time =
    ap (λ (a : Answered). a.stops) (answers_are (lines_of text))
    ∙ ap (λ lines. (listed_of lines).stops) (ap lines_of is.whole ∙ lines_are true is.lines is.each)
    ∙ goes_on reads is.lines 1 0 (made_with default_limits) (omega arith) is.each (omega (arith, is.few, in_time))
