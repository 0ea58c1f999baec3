-- A line that was read and is none decides the status.
use Rattle.std.proofs.Common.{◌≡◌, ℕ, ◌-◌, ◌<◌, List, ◌++◌, length, take, refl, sym, ◌∙◌, ap, subst, arith, inl, inr, None, Some, ◌⊎◌, length-append}
use Rattle.std.specs.declared.option.Option.{Option}
use Rattle.std.proofs.Math.Seq.{take-append_seam}
use Rattle.std.proofs.lemmas.List.{length-take}
use Rattle.edge_base.specs.declared.status.Status.TheVariants as status
use Rattle.http_node.specs.Batch.{Stops, MeetsNone, status_of, ReadsSummary, ReadsNone}
use Rattle.replay_script.specs.Script.{answers_read}
use Rattle.replay_script.specs.Replay.{Reads}
use Rattle.replay_script.specs.declared.script.ReplayEnd.{ReplayEnd}
use Rattle.replay_script.specs.declared.script.ReplayEnd.TheVariants as replay_end

front_of : (xs rest : List ℕ) → take (length (xs ++ rest) - length rest) (xs ++ rest) ≡ xs
front_of xs rest =
    let n : length (xs ++ rest) - length rest ≡ length xs = omega (arith, length-append xs rest) in
    ap (λ k. take k (xs ++ rest)) n ∙ take-append_seam xs rest

same_front : (xs ys rest all : List ℕ) → all ≡ xs ++ rest → all ≡ ys ++ rest → ys ≡ xs
same_front xs ys rest all one two = let e = sym two ∙ one in sym (front_of ys rest) ∙ ap (λ l. take (length l - length rest) l) e ∙ front_of xs rest

no_stop : (stops : Option (ℕ × ℕ)) → stops ≡ None → Stops stops → ⊥
no_stop stops is some = subst Stops is some

never_stops : (bytes read : List ℕ) → read ≡ bytes → (answers_read bytes).stops ≡ None → Stops (answers_read read).stops → ⊥
never_stops bytes read same none some = no_stop _ none (subst (λ b. Stops (answers_read b).stops) same some)

not_all : (old new text read : List ℕ) (n : ℕ) → n < length text → new ≡ old ++ take n text → read ≡ text → new ≡ old ++ read → ⊥
not_all old new text read n short one same two =
    omega (arith, short, length-append old (take n text), length-append old read, length-take n text, ap length (sym one ∙ two), ap length same)

pub script_cause : (before after old new : Option (List ℕ)) (end : ReplayEnd) → Reads before after old new end → MeetsNone before after old new
    → (status_of end ≡ status.Script) ⊎ (status_of end ≡ status.Memory)
script_cause before after old new (replay_end.NotALine line at) r m = inl refl
script_cause before after old new replay_end.Memory r m = inr refl
script_cause (Some before) (Some after) (Some old) (Some new) replay_end.Done r m =
    absurd (never_stops r.0 m.0 (same_front r.0 m.0 after before r.1 m.1) r.2 m.2)
script_cause (Some before) (Some after) (Some old) (Some new) replay_end.ReadFault r m =
    absurd (never_stops r.0 m.0 (same_front r.0 m.0 after before r.1 m.1) r.2.0 m.2)
script_cause (Some before) (Some after) (Some old) (Some new) replay_end.WriteFault r m =
    absurd (not_all old new _ (answers_read m.0).text r.2.0 r.2.1 r.2.2 (ap (λ bytes. (answers_read bytes).text) (same_front r.0 m.0 after before r.1 m.1)) m.3)
script_cause None after old new end r m = absurd m
script_cause (Some before) None old new end r m = absurd m
script_cause (Some before) (Some after) None new end r m = absurd m
script_cause (Some before) (Some after) (Some old) None end r m = absurd m

-- ---- the summary

-- a line that was read and is none decides the status
pub summary_cause : (before after : Option (List ℕ)) (end : ReplayEnd) → ReadsSummary before after (status_of end) → ReadsNone before after → (status_of end ≡ status.Script) ⊎ (status_of end ≡ status.Memory)
summary_cause before after (replay_end.NotALine line at) r m = inl refl
summary_cause before after replay_end.Memory r m = inr refl
summary_cause (Some before) (Some after) replay_end.Done r m = absurd (never_stops r.0 m.0 (same_front r.0 m.0 after before r.1 m.1) r.2 m.2)
summary_cause (Some before) (Some after) replay_end.ReadFault r m = absurd (never_stops r.0 m.0 (same_front r.0 m.0 after before r.1 m.1) r.2 m.2)
summary_cause (Some before) (Some after) replay_end.WriteFault r m = absurd (never_stops r.0 m.0 (same_front r.0 m.0 after before r.1 m.1) r.2 m.2)
summary_cause None after end r m = absurd m
summary_cause (Some before) None end r m = absurd m
