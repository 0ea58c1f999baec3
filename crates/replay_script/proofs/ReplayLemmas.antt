-- The answers that were given were written, one after the other.
use Rattle.std.proofs.Common.{◌≡◌, ℕ, ◌+◌, ◌<◌, List, [], ◌∷◌, ◌++◌, length, take, refl, sym, ◌∙◌, ap, subst, arith, inl, inr, None, Some, ◌⊎◌, append_assoc, append-nil, length-append}
use Rattle.std.specs.List.{concat}
use Rattle.std.proofs.lemmas.List.Folds.{concat-append}
use Rattle.std.specs.declared.option.Option.{Option}
use Rattle.std.specs.Io.KnownBytes.{Consumes, Appends, IsAtEnd}
use Rattle.std.proofs.KnownBytes.{Appends-trans, Appends-nil}
use Rattle.std.proofs.Math.Seq.{take-append-add, take-append_seam, take-length}
use Rattle.std.proofs.lemmas.List.{take-append-le}
use Rattle.replay_script.specs.Lines.{Line, lines_of, whole_lines}
use Rattle.replay_script.specs.Script.{Listed, listed_of, Answered, joined, answers_of, answers, answers_read}
use Rattle.replay_script.specs.Replay.{IsTold, AppendsFront, AppendsPart, Ends, Reads}
use Rattle.replay_script.specs.Reading.{Underway, Running, AreFirst, AreAll, AreUpTo, EndsWith, Ended}
use Rattle.replay_script.specs.declared.script.ReplayEnd.{ReplayEnd}
use Rattle.replay_script.specs.declared.script.ReplayEnd.TheVariants as replay_end
use Rattle.replay_script.proofs.ScriptLemmas.{answers_are}
use Rattle.replay_script.proofs.ReadingLemmas.{GivenSoFar, given_so_far, unstarted}

-- what was written is these answers
pub Written : Option (List ℕ) → Option (List ℕ) → List (List ℕ) → Type 0
Written old new given = Appends old new (concat given)

pub written_none : (old : Option (List ℕ)) → Written old old []
unfolding Written
written_none old = Appends-nil old

joined_last : (given : List (List ℕ)) (answer : List ℕ) → concat (given ++ answer ∷ []) ≡ concat given ++ answer
joined_last given answer = concat-append given (answer ∷ []) ∙ ap (λ t. concat given ++ t) (append-nil answer)

-- one answer more was written whole
pub written_more : (old now new : Option (List ℕ)) (given : List (List ℕ)) (answer shown : List ℕ) (n : ℕ) → Written old now given → shown ≡ answer → Appends now new (take n shown) → n ≡ length shown
    → Written old new (given ++ answer ∷ [])
unfolding Written
written_more old now new given answer shown n written show put all =
    let whole : take n shown ≡ answer = ap (λ k. take k shown) all ∙ take-length shown ∙ show in
    subst (Appends old new) (ap (λ t. concat given ++ t) whole ∙ sym (joined_last given answer)) (Appends-trans old now new _ _ written put)

-- ---- texts of the answers

text_all : (lines : List Line) (given : List (List ℕ)) → AreAll given (listed_of lines) → (answers_of lines).text ≡ concat given
text_all lines given all = ap (λ (a : Answered). a.text) (answers_are lines) ∙ ap (λ (l : Listed). concat l.each) all

pub stops_none : (lines : List Line) (given : List (List ℕ)) → AreAll given (listed_of lines) → (answers_of lines).stops ≡ None
stops_none lines given all = ap (λ (a : Answered). a.stops) (answers_are lines) ∙ ap (λ (l : Listed). l.stops) all

text_up_to : (lines : List Line) (number at : ℕ) (given : List (List ℕ)) → AreUpTo number at given (listed_of lines) → (answers_of lines).text ≡ concat given
text_up_to lines number at given all = ap (λ (a : Answered). a.text) (answers_are lines) ∙ ap (λ (l : Listed). concat l.each) all

pub stops_at : (lines : List Line) (number at : ℕ) (given : List (List ℕ)) → AreUpTo number at given (listed_of lines) → (answers_of lines).stops ≡ Some (number, at)
stops_at lines number at given all = ap (λ (a : Answered). a.stops) (answers_are lines) ∙ ap (λ (l : Listed). l.stops) all

text_first : (lines : List Line) (given : List (List ℕ)) (first : AreFirst given (listed_of lines)) → (answers_of lines).text ≡ concat given ++ concat first.0
text_first lines given first = ap (λ (a : Answered). a.text) (answers_are lines) ∙ ap concat first.1 ∙ concat-append given first.0

-- ---- ends

front : (old new : Option (List ℕ)) (given : List (List ℕ)) (lines : List Line) → Written old new given → AreFirst given (listed_of lines) → AppendsFront old new (answers_of lines).text
unfolding Written
front old new given lines written first =
    (length (concat given), subst (Appends old new) (sym (ap (take (length (concat given))) (text_first lines given first) ∙ take-append_seam (concat given) (concat first.0))) written)

module _ (before after old new : Option (List ℕ)) (given : List (List ℕ)) (written : Written old new given) where
  pub ends : (end : ReplayEnd) → Ended before after given end → Ends before after old new end
  unfolding Written
  ends replay_end.Done e = (e.script, e.told, (e.at.0, stops_none _ given e.at.1, subst (Appends old new) (sym (text_all _ given e.at.1)) written))
  ends (replay_end.NotALine number at) e = (e.script, e.told, (stops_at _ number at given e.at.0, subst (Appends old new) (sym (text_up_to _ number at given e.at.0)) written))
  ends replay_end.ReadFault e = (e.script, e.told, front old new given _ written e.at.0)
  ends replay_end.WriteFault e = absurd e.at
  ends replay_end.Memory e = (e.script, e.told, front old new given _ written e.at)

  pub reads : (end : ReplayEnd) → Ended before after given end → Reads before after old new end
  unfolding Written
  reads replay_end.Done e = (e.bytes, e.consumed, stops_none _ given e.at.2)
  reads (replay_end.NotALine number at) e = (e.bytes, e.consumed, elim e.at.1 [ inl read ↦ inl (stops_at _ number at given read) | inr end ↦ inr end ])
  reads replay_end.ReadFault e = (e.bytes, e.consumed, (stops_none _ given e.at.1, subst (Appends old new) (sym (text_all _ given e.at.1)) written))
  reads replay_end.WriteFault e = absurd e.at
  reads replay_end.Memory e = (e.bytes, e.consumed, tt)

-- a part of the last answer was written
part : (old now new : Option (List ℕ)) (given : List (List ℕ)) (answer shown : List ℕ) (n : ℕ) (lines : List Line) → Written old now given → shown ≡ answer → Appends now new (take n shown) → n < length shown
    → AreFirst (given ++ answer ∷ []) (listed_of lines) → AppendsPart old new (answers_of lines).text
unfolding Written
part old now new given answer shown n lines written show put short first =
    let text = text_first lines (given ++ answer ∷ []) first ∙ ap (λ t. t ++ concat first.0) (joined_last given answer ∙ ap (λ t. concat given ++ t) (sym show)) in
    let front : take (length (concat given) + n) (answers_of lines).text ≡ concat given ++ take n shown =
    ap (take (length (concat given) + n)) (text ∙ append_assoc (concat given) shown (concat first.0)) ∙ take-append-add (concat given) (shown ++ concat first.0) n
    ∙ ap (λ t. concat given ++ t) (take-append-le n shown (concat first.0) (omega arith)) in
    let long : length (answers_of lines).text ≡ (length (concat given) + length shown) + length (concat first.0) =
    ap length text ∙ length-append (concat given ++ shown) (concat first.0) ∙ ap (λ k. k + length (concat first.0)) (length-append (concat given) shown) in
    (length (concat given) + n, omega (arith, long), subst (Appends old new) (sym front) (Appends-trans old now new _ _ written put))

module _ (before after old now new : Option (List ℕ)) (given : List (List ℕ)) (way : Underway) (answer shown : List ℕ) (n : ℕ) (r : Running before after (given ++ answer ∷ []) way) (written : Written old now given)
    (show : shown ≡ answer) (put : Appends now new (take n shown)) (short : n < length shown) where
  pub cut_ends : Ends before after old new replay_end.WriteFault
  cut_ends = let s = given_so_far before after (given ++ answer ∷ []) way r in (s.script, s.told, part old now new given answer shown n _ written show put short s.first)

  pub cut_reads : Reads before after old new replay_end.WriteFault
  cut_reads = let s = given_so_far before after (given ++ answer ∷ []) way r in (s.bytes, s.consumed, part old now new given answer shown n _ written show put short s.read)

-- nothing was read yet
pub replay_unstarted : (left held : Option (List ℕ)) → Ends left left held held replay_end.Memory
replay_unstarted left held = ends left left held held [] (written_none held) replay_end.Memory (unstarted left)

pub replay_unstarted_reads : (left held : Option (List ℕ)) → Reads left left held held replay_end.Memory
replay_unstarted_reads left held = reads left left held held [] (written_none held) replay_end.Memory (unstarted left)
