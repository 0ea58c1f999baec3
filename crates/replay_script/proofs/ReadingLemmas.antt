-- A script on its way: what was read so far, with anything behind it, has the answers that were given, and then those of the
-- lines that follow.
use Rattle.std.proofs.Common.{◌≡◌, ℕ, ◌+◌, ◌^◌, ◌<◌, ◌≤◌, ◌==◌, true, false, List, [], ◌∷◌, ◌++◌, length, refl, sym, ◌∙◌, ap, subst, arith, inl, inr, None, Some, append_assoc, append-nil, length-append}
use Rattle.std.specs.declared.option.Option.{Option}
use Rattle.std.specs.Io.KnownBytes.{Consumes, IsAtEnd}
use Rattle.std.proofs.KnownBytes.{Consumes-trans, Consumes-nil}
use Rattle.cdni_base.specs.Limits.{default_limits}
use Rattle.replay_script.specs.Ahead.{Moves}
use Rattle.script_line.specs.Line.{Said}
use Rattle.node_core.specs.Node.{NodeView, Stands}
use Rattle.replay_script.specs.Lines.{Line, lines_of, whole_lines, NoFeed}
use Rattle.replay_script.specs.declared.step.Stepped.TheVariants as stepped
use Rattle.replay_script.specs.Script.{next_said, Past, made_with, grown, answer_of, Listed, listed_from, listed_of, StepsTo}
use Rattle.replay_script.specs.Replay.{IsTold}
use Rattle.replay_script.specs.Reading.{Underway, with_each, Follows, Running, AreFirst, AreAll, AreUpTo, Ended}
use Rattle.script_line.specs.declared.answer.TheConstants.{LINE_FEED}
use Rattle.replay_script.specs.declared.step.TheConstants.{LINE_LIMIT}
use Rattle.replay_script.specs.declared.script.ReplayEnd.{ReplayEnd}
use Rattle.replay_script.specs.declared.script.ReplayEnd.TheVariants as replay_end
use Rattle.replay_script.proofs.ScriptLemmas.{whole_lines-line, whole_lines-none, whole_lines-long, lines_of-line, lines_of-open, lines_of-begins, next_said-open, next_said-long, next_said-fits, listed_stop, listed_next, listed_nothing, listed_none, with_each-more, with_each-end}

-- ---- the start

-- nothing was read yet
abbrev begun : NodeView → List ℕ → List ℕ → Underway
begun node answer ahead = record { node = node; answer = answer; ahead = ahead; number = 1; at = 0 }

follows_start : (cut : List ℕ → List Line) (node : NodeView) (answer ahead : List ℕ) → ahead ≡ [] → Follows cut [] [] (made_with default_limits) (begun node answer ahead)
unfolding listed_of
follows_start cut node answer ahead empty = λ more. ap (λ xs. with_each [] (listed_from 1 0 (made_with default_limits) (cut (xs ++ more)))) (sym empty)

pub running_start : (before : Option (List ℕ)) (node : NodeView) (answer ahead : List ℕ) → ahead ≡ [] → Stands node (made_with default_limits).made [] → Running before before [] (begun node answer ahead)
running_start before node answer ahead empty stands = record {
  past = made_with default_limits;
  stands = stands;
  taken = [];
  consumed = Consumes-nil before;
  all = follows_start lines_of node answer ahead empty;
  whole = follows_start whole_lines node answer ahead empty;
  each = refl;
}

-- ---- what the input tells

told_end : (before after : Option (List ℕ)) (taken : List ℕ) → Consumes before after taken → IsAtEnd after → IsTold before taken
told_end None after taken consumed end = tt
told_end (Some bytes) None taken consumed end = absurd consumed
told_end (Some bytes) (Some rest) taken consumed end = sym (consumed ∙ ap (λ xs. taken ++ xs) end ∙ append-nil taken)

told_whole : (before after : Option (List ℕ)) (taken : List ℕ) → Consumes before after taken → (more : List ℕ) × IsTold before (taken ++ more)
told_whole None after taken consumed = ([], tt)
told_whole (Some bytes) None taken consumed = absurd consumed
told_whole (Some bytes) (Some rest) taken consumed = (rest, sym consumed)

-- nothing was read, for want of memory
pub unstarted : (before : Option (List ℕ)) → Ended before before [] replay_end.Memory
unstarted before =
    let told = told_whole before before [] (Consumes-nil before) in
    record { script = [] ++ told.0; told = told.1; bytes = []; consumed = Consumes-nil before; at = (_, refl) }

-- ---- one turn

-- lines that are cut off the bytes one after the other
module _ (cut : List ℕ → List Line) (cuts : (body rest : List ℕ) → NoFeed body → cut (body ++ LINE_FEED ∷ rest) ≡ record { body = body; ended = true } ∷ cut rest)
    (taken : List ℕ) (given : List (List ℕ)) (way : Underway) (past : Past) (f : Follows cut taken given past way) (after after' : Option (List ℕ)) where
  -- what one turn moved, and more
  moved : (behind bytes more : List ℕ) (m : Moves after after' way.ahead behind bytes)
      → listed_of (cut ((taken ++ m.taken) ++ more)) ≡ with_each given (listed_from way.number way.at past (cut (bytes ++ (behind ++ more))))
  moved behind bytes more m = ap (λ xs. listed_of (cut xs)) (append_assoc taken m.taken more) ∙ f (m.taken ++ more)
      ∙ ap (λ xs. with_each given (listed_from way.number way.at past (cut xs))) (sym (append_assoc way.ahead m.taken more) ∙ ap (λ xs. xs ++ more) m.parts ∙ append_assoc bytes behind more)

  -- a line with its feed
  moved_line : (behind line more : List ℕ) (m : Moves after after' way.ahead behind (line ++ LINE_FEED ∷ [])) → NoFeed line
      → listed_of (cut ((taken ++ m.taken) ++ more)) ≡ with_each given (listed_from way.number way.at past (record { body = line; ended = true } ∷ cut (behind ++ more)))
  moved_line behind line more m none = moved behind (line ++ LINE_FEED ∷ []) more m
      ∙ ap (λ xs. with_each given (listed_from way.number way.at past (cut xs))) (append_assoc line (LINE_FEED ∷ []) (behind ++ more))
      ∙ ap (λ lines. with_each given (listed_from way.number way.at past lines)) (cuts line (behind ++ more) none)

  -- an answered line
  answered : (behind line answer more : List ℕ) (m : Moves after after' way.ahead behind (line ++ LINE_FEED ∷ [])) → NoFeed line
      → (said : Said) → next_said (way.number == 1) way.at (record { body = line; ended = true }) ≡ Some said → answer ≡ answer_of past said
      → listed_of (cut ((taken ++ m.taken) ++ more)) ≡ with_each (given ++ answer ∷ []) (listed_from (way.number + 1) (way.at + (length line + 1)) (grown past said) (cut (behind ++ more)))
  answered behind line answer more m none said is answers = moved_line behind line more m none
      ∙ ap (with_each given) (listed_next way.number way.at past (record { body = line; ended = true }) (cut (behind ++ more)) said is)
      ∙ with_each-more given (answer_of past said) _
      ∙ ap (λ a. with_each (given ++ a ∷ []) (listed_from (way.number + 1) (way.at + (length line + 1)) (grown past said) (cut (behind ++ more)))) (sym answers)

  -- a line that is none
  stopped : (behind line more : List ℕ) (m : Moves after after' way.ahead behind (line ++ LINE_FEED ∷ [])) → NoFeed line → next_said (way.number == 1) way.at (record { body = line; ended = true }) ≡ None
      → AreUpTo way.number way.at given (listed_of (cut ((taken ++ m.taken) ++ more)))
  stopped behind line more m none is = moved_line behind line more m none
      ∙ ap (with_each given) (listed_stop way.number way.at past (record { body = line; ended = true }) (cut (behind ++ more)) is)
      ∙ with_each-end given _

module _ (before after : Option (List ℕ)) (given : List (List ℕ)) (way : Underway) (r : Running before after given way) where
  consumed_too : (after' : Option (List ℕ)) (behind bytes : List ℕ) (m : Moves after after' way.ahead behind bytes) → Consumes before after' (r.taken ++ m.taken)
  consumed_too after' behind bytes m = Consumes-trans _ _ _ _ _ r.consumed m.consumed

  -- what was read, with nothing behind it
  read_so_far : (taken : List ℕ) (listed : Listed) → listed_of (whole_lines (taken ++ [])) ≡ listed → listed_of (whole_lines taken) ≡ listed
  read_so_far taken listed is = ap (λ bytes. listed_of (whole_lines bytes)) (sym (append-nil taken)) ∙ is

  module _ (after' : Option (List ℕ)) (behind line bytes answer : List ℕ) (node : NodeView) (m : Moves after after' way.ahead behind (line ++ LINE_FEED ∷ [])) (none : NoFeed line)
      (step : StepsTo way.node node (way.number == 1) way.at bytes answer stepped.Answered) (same : bytes ≡ line) where
    the_said : next_said (way.number == 1) way.at (record { body = line; ended = true }) ≡ Some step.0
    the_said = ap (λ body. next_said (way.number == 1) way.at (record { body = body; ended = true })) (sym same) ∙ step.1

    pub turn_fits : way.at + (length line + 1) ≤ 2 ^ 40
    turn_fits = next_said-fits (way.number == 1) way.at line step.0 the_said

    pub turn_done : (len : ℕ) → len ≡ length line
        → Running before after' (given ++ answer ∷ []) (record { node = node; answer = answer; ahead = behind; number = way.number + 1; at = way.at + (len + 1) })
    turn_done len is =
        subst (λ k. Running before after' (given ++ answer ∷ []) (record { node = node; answer = answer; ahead = behind; number = way.number + 1; at = way.at + (k + 1) })) (sym is)
        (record {
          past = grown r.past step.0;
          stands = (step.2 r.past r.stands).0;
          taken = r.taken ++ m.taken;
          consumed = consumed_too after' behind _ m;
          all = λ more. answered lines_of lines_of-line r.taken given way r.past r.all after after' behind line answer more m none step.0 the_said (step.2 r.past r.stands).1;
          whole = λ more. answered whole_lines whole_lines-line r.taken given way r.past r.whole after after' behind line answer more m none step.0 the_said (step.2 r.past r.stands).1;
          each = omega (arith, r.each, length-append given (answer ∷ []));
        })

  -- reading or memory failed
  so_far : (after' : Option (List ℕ)) (behind bytes : List ℕ) (m : Moves after after' way.ahead behind bytes) → (more : List ℕ) × IsTold before ((r.taken ++ m.taken) ++ more) × AreFirst given (listed_of (lines_of ((r.taken ++ m.taken) ++ more)))
  so_far after' behind bytes m =
      let told = told_whole before after' (r.taken ++ m.taken) (consumed_too after' behind bytes m) in
      (told.0, told.1, (_, ap (λ (l : Listed). l.each) (moved lines_of lines_of-line r.taken given way r.past r.all after after' behind bytes told.0 m)))

  pub ended_memory : (after' : Option (List ℕ)) (behind bytes : List ℕ) → Moves after after' way.ahead behind bytes → Ended before after' given replay_end.Memory
  ended_memory after' behind bytes m =
      let s = so_far after' behind bytes m in
      record { script = (r.taken ++ m.taken) ++ s.0; told = s.1; bytes = r.taken ++ m.taken; consumed = consumed_too after' behind bytes m; at = s.2 }

  -- only a front of a line that is not too long was read behind the answered lines
  nothing_more : (after' : Option (List ℕ)) (behind bytes : List ℕ) (m : Moves after after' way.ahead behind bytes) → NoFeed bytes → length bytes < LINE_LIMIT → behind ≡ []
      → AreAll given (listed_of (whole_lines (r.taken ++ m.taken)))
  nothing_more after' behind bytes m none short empty =
      read_so_far _ _ (moved whole_lines whole_lines-line r.taken given way r.past r.whole after after' behind bytes [] m
      ∙ ap (λ lines. with_each given (listed_from way.number way.at r.past lines))
      (ap (λ xs. whole_lines (bytes ++ (xs ++ []))) empty ∙ ap (λ xs. whole_lines xs) (append-nil bytes) ∙ whole_lines-none bytes none short)
      ∙ ap (with_each given) (listed_nothing way.number way.at r.past)
      ∙ with_each-end given _)

  pub ended_unread : (after' : Option (List ℕ)) (behind bytes : List ℕ) → Moves after after' way.ahead behind bytes → NoFeed bytes → length bytes < LINE_LIMIT → behind ≡ [] → Ended before after' given replay_end.ReadFault
  ended_unread after' behind bytes m none short empty =
      let s = so_far after' behind bytes m in
      record {
        script = (r.taken ++ m.taken) ++ s.0;
        told = s.1;
        bytes = r.taken ++ m.taken;
        consumed = consumed_too after' behind bytes m;
        at = (s.2, nothing_more after' behind bytes m none short empty);
      }

  -- the input is at its end
  pub ended_done : (after' : Option (List ℕ)) (behind line : List ℕ) → Moves after after' way.ahead behind line → NoFeed line → length line < LINE_LIMIT → length line ≡ 0 → IsAtEnd after' → behind ≡ []
      → Ended before after' given replay_end.Done
  ended_done after' behind (b ∷ line) m plain short empty end none = absurd (omega arith)
  ended_done after' behind [] m plain short empty end none =
      record {
        script = r.taken ++ m.taken;
        told = told_end before after' _ (consumed_too after' behind _ m) end;
        bytes = r.taken ++ m.taken;
        consumed = consumed_too after' behind _ m;
        at = (
          end,
          r.all m.taken ∙ ap (λ xs. with_each given (listed_from way.number way.at r.past (lines_of xs))) (m.parts ∙ none)
              ∙ ap (with_each given) (listed_none way.number way.at r.past) ∙ with_each-end given _,
          nothing_more after' behind [] m plain short none,
        );
      }

  -- a line is none
  stop : (line : Line) (lines : List Line) (listed : Listed) → listed ≡ with_each given (listed_from way.number way.at r.past (line ∷ lines)) → next_said (way.number == 1) way.at line ≡ None
      → AreUpTo way.number way.at given listed
  stop line lines listed is none = is ∙ ap (with_each given) (listed_stop way.number way.at r.past line lines none) ∙ with_each-end given _

  -- what is left has no line feed
  pub ended_open : (after' : Option (List ℕ)) (behind line : List ℕ) → Moves after after' way.ahead behind line → NoFeed line → 0 < length line → IsAtEnd after' → behind ≡ []
      → Ended before after' given (replay_end.NotALine way.number way.at)
  ended_open after' behind [] m none some end empty = absurd (omega arith)
  ended_open after' behind (b ∷ line) m none some end empty =
      let bytes : b ∷ line ++ behind ≡ b ∷ line = ap (λ xs. b ∷ line ++ xs) empty ∙ append-nil (b ∷ line) in
      record {
        script = r.taken ++ m.taken;
        told = told_end before after' _ (consumed_too after' behind _ m) end;
        bytes = r.taken ++ m.taken;
        consumed = consumed_too after' behind _ m;
        at = (
          stop (record { body = b ∷ line; ended = false }) [] _
              (r.all m.taken ∙ ap (λ xs. with_each given (listed_from way.number way.at r.past (lines_of xs))) (m.parts ∙ bytes)
              ∙ ap (λ lines. with_each given (listed_from way.number way.at r.past lines)) (lines_of-open b line none))
              (next_said-open (way.number == 1) way.at (b ∷ line)),
          inr end,
        );
      }

  -- the line is too long
  pub ended_long : (after' : Option (List ℕ)) (behind line : List ℕ) → Moves after after' way.ahead behind line → NoFeed line → length line ≡ LINE_LIMIT → Ended before after' given (replay_end.NotALine way.number way.at)
  ended_long after' behind [] m none long = absurd (cc)
  ended_long after' behind (b ∷ line) m none long =
      let told = told_whole before after' (r.taken ++ m.taken) (consumed_too after' behind _ m) in
      let begins = lines_of-begins b line (behind ++ told.0) none in
      let read = lines_of-begins b line (behind ++ []) none in
      let whole = whole_lines-long (b ∷ line ++ (behind ++ [])) (b ∷ line ++ read.0) read.1 read.2 read.3 (omega (arith, long, length-append (b ∷ line) read.0)) in
      record {
        script = (r.taken ++ m.taken) ++ told.0;
        told = told.1;
        bytes = r.taken ++ m.taken;
        consumed = consumed_too after' behind _ m;
        at = (
          stop (record { body = b ∷ line ++ begins.0; ended = begins.1 }) begins.2 _
              (moved lines_of lines_of-line r.taken given way r.past r.all after after' behind (b ∷ line) told.0 m ∙ ap (λ lines. with_each given (listed_from way.number way.at r.past lines)) begins.3)
              (next_said-long (way.number == 1) way.at (b ∷ line ++ begins.0) begins.1 (omega (arith, long, length-append (b ∷ line) begins.0))),
          inl (read_so_far _ _ (stop (record { body = b ∷ line ++ read.0; ended = read.1 }) _ _
              (moved whole_lines whole_lines-line r.taken given way r.past r.whole after after' behind (b ∷ line) [] m ∙ ap (λ lines. with_each given (listed_from way.number way.at r.past lines)) whole)
              (next_said-long (way.number == 1) way.at (b ∷ line ++ read.0) read.1 (omega (arith, long, length-append (b ∷ line) read.0))))),
        );
      }

  -- the line has no entry
  pub ended_none : (after' : Option (List ℕ)) (behind line : List ℕ) → Moves after after' way.ahead behind (line ++ LINE_FEED ∷ []) → NoFeed line
      → next_said (way.number == 1) way.at (record { body = line; ended = true }) ≡ None → Ended before after' given (replay_end.NotALine way.number way.at)
  ended_none after' behind line m none is =
      let told = told_whole before after' (r.taken ++ m.taken) (consumed_too after' behind _ m) in
      record {
        script = (r.taken ++ m.taken) ++ told.0;
        told = told.1;
        bytes = r.taken ++ m.taken;
        consumed = consumed_too after' behind _ m;
        at = (
          stopped lines_of lines_of-line r.taken given way r.past r.all after after' behind line told.0 m none is,
          inl (read_so_far _ _ (stopped whole_lines whole_lines-line r.taken given way r.past r.whole after after' behind line [] m none is)),
        );
      }

-- ---- all that was given so far is a front of the answers

-- of the answers of the script, and of those of the bytes that were read
pub record GivenSoFar (before after : Option (List ℕ)) (given : List (List ℕ)) : Type 0 where
  pub script : List ℕ
  pub told : IsTold before script
  pub first : AreFirst given (listed_of (lines_of script))
  pub bytes : List ℕ
  pub consumed : Consumes before after bytes
  pub read : AreFirst given (listed_of (whole_lines bytes))

pub given_so_far : (before after : Option (List ℕ)) (given : List (List ℕ)) (way : Underway) → Running before after given way → GivenSoFar before after given
given_so_far before after given way r =
    let told = told_whole before after r.taken r.consumed in
    record {
      script = r.taken ++ told.0;
      told = told.1;
      first = (_, ap (λ (l : Listed). l.each) (r.all told.0));
      bytes = r.taken;
      consumed = r.consumed;
      read = (_, ap (λ (l : Listed). l.each) (read_so_far before after given way r r.taken _ (r.whole [])));
    }

-- the reading of a script ends with no fault of an output
pub never_writes : (before after : Option (List ℕ)) (given : List (List ℕ)) (end : ReplayEnd) → Ended before after given end → end ≡ replay_end.WriteFault → ⊥
never_writes before after given end e is = let w = subst (Ended before after given) is e in w.at
