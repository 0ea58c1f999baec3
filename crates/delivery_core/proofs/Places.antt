-- What a call adds to what is open.
use Rattle.std.proofs.Common.{◌≡◌, ℕ, ◌+◌, ◌≤◌, [], ◌∷◌, true, false, arith, None, Some, Option}
use Rattle.std.proofs.lemmas.List.{length-append}
use Rattle.history.specs.After.{admission}
use Rattle.history.specs.Event.{Request}
use Rattle.history.specs.declared.begun.Admission.{Admission}
use Rattle.history.specs.declared.reply.Reply.{Reply}
use Rattle.delivery_core.specs.Edge.{EdgeView, admit_after, admit_after_by, admit_reply, admit_reply_by, begin_after, decision_of, entered, entered_reply, full_count}
use Rattle.delivery_core.specs.OpenCount.{begun_count, open_count}
use Rattle.delivery_core.specs.Traces.{reply_of}
use Rattle.delivery_core.specs.declared.decision.Decision.{Decision}
use Rattle.delivery_core.specs.declared.decision.Decision.TheVariants as decision
use Rattle.delivery_core.specs.declared.results.Admitted.{Admitted}
use Rattle.delivery_core.specs.declared.results.Began.TheVariants as began

module _ (edge : EdgeView) (pass : ℕ) where
  entered_places : (what : Admission) (d : Decision) → open_count (entered edge pass what d) ≤ open_count edge + begun_count (reply_of (entered_reply edge d))
  entered_places what (decision.Deny rule) = omega (arith, length-append edge.deliveries (record { number = edge.delivered + 1; pass = pass; what = what } ∷ []))
  entered_places what (decision.Hit key ccid found) = omega (arith, length-append edge.deliveries (record { number = edge.delivered + 1; pass = pass; what = record what { ccid = ccid; cached = true } } ∷ []))
  entered_places what (decision.Miss key ccid plan) =
      omega (
        arith,
        length-append edge.deliveries (record { number = edge.delivered + 1; pass = pass; what = record what { ccid = ccid; cached = false } } ∷ []),
        length-append edge.fetches (record { number = edge.fetched + 1; pass = pass; what = record { fetching = record { key = key; ccid = ccid }; hit = false } } ∷ []),
      )

  admitted_places : (what : Admission) (d : Decision) (full : Option ℕ) → open_count (admit_after_by edge pass what d full) ≤ open_count edge + begun_count (reply_of (admit_reply_by edge d full))
  admitted_places what d (Some count) = omega arith
  admitted_places what d None = entered_places what d

  pub admit_places : (edge' : EdgeView) (opened : ℕ) (request : Request) (moment : ℕ) (a : Admitted) (r : Reply) → a ≡ admit_reply edge opened request.asked request.place moment
      → edge' ≡ admit_after edge pass opened request moment → r ≡ reply_of a → open_count edge' ≤ open_count edge + begun_count r
  admit_places edge' opened request moment a r is left answer =
      rw (left, answer, is) (admitted_places (admission request moment None false) (decision_of edge request.asked request.place moment) (full_count edge opened))

  pub due_places : (edge' : EdgeView) (moment refresh : ℕ) → edge' ≡ begin_after edge pass moment (began.Due refresh) → open_count edge' ≤ open_count edge + 1
  due_places edge' moment refresh left = rw left (omega (arith, length-append edge.refreshes (record { number = refresh; pass = pass; what = record { moment = moment; since = [] } } ∷ [])))
