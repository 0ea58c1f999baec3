-- Lines of a script, and the answers from a line on.
use Rattle.std.proofs.Common.{◌≡◌, ℕ, ◌+◌, ◌<◌, ◌≤◌, ◌==◌, Bool, true, false, cond, not, List, [], ◌∷◌, ◌++◌, length, filter, refl, sym, ◌∙◌, ap, subst, arith, None, Some, nat_le, append_assoc, append-nil}
use Rattle.std.specs.List.{list_all}
use Rattle.std.specs.declared.option.Option.{Option}
use Rattle.std.proofs.lemmas.Bool.{and_parts, and_left, and_right, cond-false, not-true, lt-leb, le-leb, leb-true, or_right}
use Rattle.std.specs.Option.{option_and_then}
use Rattle.cdni_base.specs.Limits.{Bounds}
use Rattle.script_line.specs.Line.{Calls, Refuses, Said, Scripted, Sets}
use Rattle.script_line.specs.Grammar.{line_of}
use Rattle.trigger_command.specs.declared.fault.CommandFault.{CommandFault}
use Rattle.node_core.specs.Node.{NodeView}
use Rattle.replay_script.specs.Lines.{Line, lines_of, whole_lines, is_whole, on_first, NoFeed}
use Rattle.script_line.specs.declared.answer.TheConstants.{LINE_FEED}
use Rattle.replay_script.specs.declared.step.TheConstants.{LINE_LIMIT}
use Rattle.replay_script.specs.declared.step.TheConstants.{SCRIPT_LIMIT}
use Rattle.replay_script.specs.declared.step.Stepped.{Stepped}
use Rattle.replay_script.specs.declared.step.Stepped.TheVariants as stepped
use Rattle.replay_script.specs.Script.{next_said, is_allowed, fits, Past, grown, answer_of, SetsLimits, Answers, AnswersRefusal, StepsTo, Listed, with_answer, listed_from, listed_of, joined, answers_of}
use Rattle.replay_script.specs.Reading.{with_each}

-- ---- lines

abbrev pub plain : ℕ → Bool
plain byte = not (byte == LINE_FEED)

first_plain : (b : ℕ) (bytes : List ℕ) → NoFeed (b ∷ bytes) → (b == LINE_FEED) ≡ false
first_plain b bytes none = not-true (b == LINE_FEED) (and_parts (plain b) (list_all plain bytes) none).0

rest_plain : (b : ℕ) (bytes : List ℕ) → NoFeed (b ∷ bytes) → NoFeed bytes
rest_plain b bytes none = (and_parts (plain b) (list_all plain bytes) none).1

-- a byte that is no line feed stands in front of the first line
lines_of-plain : (b : ℕ) (bytes : List ℕ) → (b == LINE_FEED) ≡ false → lines_of (b ∷ bytes) ≡ on_first b (lines_of bytes)
unfolding lines_of
lines_of-plain b bytes is = cond-false (b == LINE_FEED) (record { body = []; ended = true } ∷ lines_of bytes) (on_first b (lines_of bytes)) is

pub lines_of-line : (body rest : List ℕ) → NoFeed body → lines_of (body ++ LINE_FEED ∷ rest) ≡ record { body = body; ended = true } ∷ lines_of rest
unfolding lines_of
lines_of-line [] rest none = refl
lines_of-line (b ∷ body) rest none = lines_of-plain b (body ++ LINE_FEED ∷ rest) (first_plain b body none) ∙ ap (on_first b) (lines_of-line body rest (rest_plain b body none))

pub lines_of-open : (b : ℕ) (body : List ℕ) → NoFeed (b ∷ body) → lines_of (b ∷ body) ≡ record { body = b ∷ body; ended = false } ∷ []
unfolding lines_of
lines_of-open b [] none = lines_of-plain b [] (first_plain b [] none)
lines_of-open b (c ∷ body) none = lines_of-plain b (c ∷ body) (first_plain b (c ∷ body) none) ∙ ap (on_first b) (lines_of-open c body (rest_plain b (c ∷ body) none))

filter_first : (line : Line) (lines : List Line) → is_whole line ≡ true → filter is_whole (line ∷ lines) ≡ line ∷ filter is_whole lines
filter_first line lines is = rw is refl

filter_last : (line : Line) → is_whole line ≡ false → filter is_whole (line ∷ []) ≡ []
filter_last line is = rw is refl

pub whole_lines-line : (body rest : List ℕ) → NoFeed body → whole_lines (body ++ LINE_FEED ∷ rest) ≡ record { body = body; ended = true } ∷ whole_lines rest
whole_lines-line body rest none = ap (filter is_whole) (lines_of-line body rest none)

-- a front of a line that is not too long
pub whole_lines-none : (bytes : List ℕ) → NoFeed bytes → length bytes < LINE_LIMIT → whole_lines bytes ≡ []
unfolding lines_of
whole_lines-none [] none short = refl
whole_lines-none (b ∷ bytes) none short = ap (filter is_whole) (lines_of-open b bytes none) ∙ filter_last (record { body = b ∷ bytes; ended = false }) (lt-leb LINE_LIMIT (length (b ∷ bytes)) short)

-- a line that is too long, with a line feed or without
pub whole_lines-long : (bytes body : List ℕ) (ended : Bool) (others : List Line) → lines_of bytes ≡ record { body = body; ended = ended } ∷ others → LINE_LIMIT ≤ length body
    → whole_lines bytes ≡ record { body = body; ended = ended } ∷ filter is_whole others
whole_lines-long bytes body ended others is long = ap (filter is_whole) is ∙ filter_first _ others (or_right ended _ (le-leb LINE_LIMIT (length body) long))

-- the lines begin with one that begins with these bytes
abbrev pub BeginsWith : List ℕ → List Line → Type 0
BeginsWith bytes lines = (more : List ℕ) × (ended : Bool) × (others : List Line) × (lines ≡ record { body = bytes ++ more; ended = ended } ∷ others)

first_begins : (b : ℕ) (lines : List Line) → BeginsWith (b ∷ []) (on_first b lines)
first_begins b [] = ([], false, [], refl)
first_begins b (line ∷ lines) = (line.body, line.ended, lines, refl)

more_begins : (b : ℕ) (bytes : List ℕ) (lines : List Line) → BeginsWith bytes lines → BeginsWith (b ∷ bytes) (on_first b lines)
more_begins b bytes lines begins = (begins.0, begins.1, begins.2, ap (on_first b) begins.3)

pub lines_of-begins : (b : ℕ) (bytes rest : List ℕ) → NoFeed (b ∷ bytes) → BeginsWith (b ∷ bytes) (lines_of (b ∷ (bytes ++ rest)))
lines_of-begins b [] rest none = subst (BeginsWith (b ∷ [])) (sym (lines_of-plain b rest (first_plain b [] none))) (first_begins b (lines_of rest))
lines_of-begins b (c ∷ bytes) rest none =
    subst (BeginsWith (b ∷ c ∷ bytes)) (sym (lines_of-plain b (c ∷ (bytes ++ rest)) (first_plain b (c ∷ bytes) none)))
    (more_begins b (c ∷ bytes) (lines_of (c ∷ (bytes ++ rest))) (lines_of-begins c bytes rest (rest_plain b (c ∷ bytes) none)))

-- ---- lines that are no script lines

pub next_said-open : (first : Bool) (at : ℕ) (body : List ℕ) → next_said first at (record { body = body; ended = false }) ≡ None
unfolding next_said
next_said-open first at body = refl

pub next_said-long : (first : Bool) (at : ℕ) (body : List ℕ) (ended : Bool) → LINE_LIMIT ≤ length body → next_said first at (record { body = body; ended = ended }) ≡ None
unfolding next_said
next_said-long first at body ended long = cond-false _ _ _ (and_right ended _ (and_left _ _ (lt-leb (length body + 1) LINE_LIMIT (omega arith))))

in_time : (t : Bool) (o : Option Said) (e : Said) → cond t o None ≡ Some e → t ≡ true
in_time true o e is = refl
in_time false o e is = absurd (cc)

pub next_said-fits : (first : Bool) (at : ℕ) (body : List ℕ) (e : Said) → next_said first at (record { body = body; ended = true }) ≡ Some e → at + (length body + 1) ≤ SCRIPT_LIMIT
unfolding next_said
next_said-fits first at body e is =
    let both = in_time (fits at (length body + 1)) _ e is in
    leb-true (at + (length body + 1)) SCRIPT_LIMIT (and_parts (nat_le (length body + 1) LINE_LIMIT) (nat_le (at + (length body + 1)) SCRIPT_LIMIT) both).1

-- within the limits the line says what it reads as, where it is allowed there
pub next_said-here : (first : Bool) (at : ℕ) (body : List ℕ) → true ≡ fits at (length body + 1) → next_said first at (record { body = body; ended = true }) ≡ option_and_then (is_allowed first) (line_of body)
unfolding next_said
next_said-here first at body in_limits = ap (λ t. cond t (option_and_then (is_allowed first) (line_of body)) None) (sym in_limits)

-- ---- one line

module _ (old new : NodeView) (first : Bool) (at : ℕ) (body : List ℕ) (in_limits : true ≡ fits at (length body + 1)) where
  sets_steps_by : (limits : Bounds) (r : Stepped) → line_of body ≡ Some (Sets limits) → SetsLimits new first limits r → StepsTo old new first at body [] r
  sets_steps_by limits stepped.Answered reads s =
      (Sets limits, next_said-here first at body in_limits ∙ ap (option_and_then (is_allowed first)) reads ∙ ap (λ t. is_allowed t (Sets limits)) s.0, λ past stands. (s.1, refl))
  sets_steps_by limits stepped.NotALine reads s =
      next_said-here first at body in_limits ∙ ap (option_and_then (is_allowed first)) reads ∙ ap (λ t. is_allowed t (Sets limits)) s
  sets_steps_by limits stepped.Memory reads s = sym in_limits

  pub sets_steps : (limits : Bounds) (r : Stepped) (answer : List ℕ) → answer ≡ [] → line_of body ≡ Some (Sets limits) → SetsLimits new first limits r → StepsTo old new first at body answer r
  sets_steps limits r answer empty reads s = subst (λ text. StepsTo old new first at body text r) (sym empty) (sets_steps_by limits r reads s)

  calls_steps_by : (scripted : Scripted) (answer : List ℕ) (r : Stepped) → line_of body ≡ Some (Calls scripted) → Answers old new scripted [] answer r → StepsTo old new first at body answer r
  calls_steps_by scripted answer stepped.Answered reads s =
      (Calls scripted, next_said-here first at body in_limits ∙ ap (option_and_then (is_allowed first)) reads, λ past stands. s past stands)
  calls_steps_by scripted answer stepped.NotALine reads s = absurd s
  calls_steps_by scripted answer stepped.Memory reads s = sym in_limits

  pub calls_steps : (scripted : Scripted) (before answer : List ℕ) (r : Stepped) → before ≡ [] → line_of body ≡ Some (Calls scripted) → Answers old new scripted before answer r → StepsTo old new first at body answer r
  calls_steps scripted before answer r empty reads s = calls_steps_by scripted answer r reads (subst (λ text. Answers old new scripted text answer r) empty s)

  pub unread_steps : (answer : List ℕ) → line_of body ≡ None → StepsTo old new first at body answer stepped.NotALine
  unread_steps answer reads = next_said-here first at body in_limits ∙ ap (option_and_then (is_allowed first)) reads

module _ (node : NodeView) (first : Bool) (at : ℕ) (body : List ℕ) (in_limits : true ≡ fits at (length body + 1)) where
  refused_steps_by : (fault : CommandFault) (answer : List ℕ) (r : Stepped) → line_of body ≡ Some (Refuses fault) → AnswersRefusal fault [] answer r → StepsTo node node first at body answer r
  refused_steps_by fault answer stepped.Answered reads s =
      (Refuses fault, next_said-here first at body in_limits ∙ ap (option_and_then (is_allowed first)) reads, λ past stands. (stands, s))
  refused_steps_by fault answer stepped.NotALine reads s = absurd s
  refused_steps_by fault answer stepped.Memory reads s = sym in_limits

  pub refused_steps : (fault : CommandFault) (before answer : List ℕ) (r : Stepped) → before ≡ [] → line_of body ≡ Some (Refuses fault) → AnswersRefusal fault before answer r → StepsTo node node first at body answer r
  refused_steps fault before answer r empty reads s = refused_steps_by fault answer r reads (subst (λ text. AnswersRefusal fault text answer r) empty s)

-- ---- answers

module _ (number at : ℕ) (past : Past) (line : Line) (lines : List Line) where
  pub listed_stop : next_said (number == 1) at line ≡ None → listed_from number at past (line ∷ lines) ≡ record { each = []; stops = Some (number, at) }
  unfolding listed_from
  listed_stop none = rw none refl

  pub listed_next : (said : Said) → next_said (number == 1) at line ≡ Some said
      → listed_from number at past (line ∷ lines) ≡ with_answer (answer_of past said) (listed_from (number + 1) (at + (length line.body + 1)) (grown past said) lines)
  unfolding listed_from
  listed_next said some = rw some refl

pub listed_nothing : (number at : ℕ) (past : Past) → listed_from number at past [] ≡ record { each = []; stops = None }
unfolding listed_from
listed_nothing number at past = refl

pub listed_none : (number at : ℕ) (past : Past) → listed_from number at past (lines_of []) ≡ record { each = []; stops = None }
unfolding listed_from lines_of
listed_none number at past = refl

-- one answer more was given
pub with_each-more : (given : List (List ℕ)) (answer : List ℕ) (rest : Listed) → with_each given (with_answer answer rest) ≡ with_each (given ++ answer ∷ []) rest
with_each-more given answer rest = ap (λ (each : List (List ℕ)). record { each = each; stops = rest.stops }) (sym (append_assoc given (answer ∷ []) rest.each))

-- nothing more is given
pub with_each-end : (given : List (List ℕ)) (stops : Option (ℕ × ℕ)) → with_each given (record { each = []; stops = stops }) ≡ record { each = given; stops = stops }
with_each-end given stops = ap (λ (each : List (List ℕ)). record { each = each; stops = stops }) (append-nil given)

-- the answers joined are those of the text
pub answers_are : (lines : List Line) → answers_of lines ≡ joined (listed_of lines)
unfolding answers_of
answers_are lines = refl
