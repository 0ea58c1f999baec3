-- What a request adds to the counts of the edge.
use Rattle.std.proofs.Common.{◌≡◌, ℕ, ◌+◌, ◌≤◌, ◌==◌, Bool, true, false, cond, refl, arith, None, Some}
use Rattle.std.proofs.lemmas.Bool.{eqb-false}
use Rattle.history.specs.After.{admission, opened_by}
use Rattle.history.specs.Event.{Request}
use Rattle.history.specs.declared.begun.Admission.{Admission}
use Rattle.delivery_core.specs.Edge.{EdgeView, admit_after, admit_after_by, admit_reply, admit_reply_by, decision_of, entered, entered_reply, pending}
use Rattle.delivery_core.specs.Traces.{reply_of}
use Rattle.delivery_core.specs.declared.decision.Decision.{Decision}
use Rattle.delivery_core.specs.declared.decision.Decision.TheVariants as decision

-- a request that opens so many deliveries, where so many answers have opened something
pub record Grows (edge after : EdgeView) (opened many : ℕ) : Type 0 where
  pub limits : after.limits ≡ edge.limits
  pub refreshed : after.refreshed ≡ edge.refreshed
  pub started : after.started ≡ edge.started
  pub delivered : after.delivered ≡ edge.delivered + many
  pub fetched : after.fetched ≤ edge.fetched + many
  pub few : opened ≤ edge.limits.opened → opened + many ≤ edge.limits.opened

module _ (edge : EdgeView) (opened : ℕ) where
  same_grows : Grows edge edge opened 0
  same_grows = record { limits = refl; refreshed = refl; started = refl; delivered = omega arith; fetched = omega arith; few = λ f. omega (arith, f) }

  few_more : (opened == edge.limits.opened) ≡ false → opened ≤ edge.limits.opened → opened + 1 ≤ edge.limits.opened
  few_more room f = omega (arith, f, eqb-false opened edge.limits.opened room)

  entered_grows : (pass : ℕ) (what : Admission) (d : Decision) → (opened == edge.limits.opened) ≡ false
      → Grows edge (entered edge pass what d) opened (opened_by (reply_of (entered_reply edge d)))
  entered_grows pass what (decision.Deny rule) room = record { limits = refl; refreshed = refl; started = refl; delivered = refl; fetched = omega arith; few = few_more room }
  entered_grows pass what (decision.Hit key ccid found) room = record { limits = refl; refreshed = refl; started = refl; delivered = refl; fetched = omega arith; few = few_more room }
  entered_grows pass what (decision.Miss key ccid plan) room = record { limits = refl; refreshed = refl; started = refl; delivered = refl; fetched = omega arith; few = few_more room }

  admit_grows_by : (pass : ℕ) (what : Admission) (n : ℕ) (d : Decision) (full many : Bool) → (opened == edge.limits.opened) ≡ many
      → Grows edge (admit_after_by edge pass what d (cond full (Some n) (cond many (Some opened) None))) opened (opened_by (reply_of (admit_reply_by edge d (cond full (Some n) (cond many (Some opened) None)))))
  admit_grows_by pass what n d true many is = same_grows
  admit_grows_by pass what n d false true is = same_grows
  admit_grows_by pass what n d false false is = entered_grows pass what d is

  pub admit_grows : (pass : ℕ) (request : Request) (moment : ℕ)
      → Grows edge (admit_after edge pass opened request moment) opened (opened_by (reply_of (admit_reply edge opened request.asked request.place moment)))
  admit_grows pass request moment = admit_grows_by pass (admission request moment None false) (pending edge) (decision_of edge request.asked request.place moment) (pending edge == edge.limits.rows) (opened == edge.limits.opened) refl
