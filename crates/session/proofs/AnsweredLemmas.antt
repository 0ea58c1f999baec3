-- How many requests of a connection were answered.
use Rattle.std.proofs.Common.{◌≡◌, ℕ, ◌+◌, ◌-◌, ◌<◌, ◌≤◌, ◌==◌, Bool, true, false, not, ◌&&◌, List, [], ◌∷◌, length, refl, sym, ◌∙◌, ap, subst, arith, cond, inl, inr, ◌↔◌}
use Rattle.std.proofs.lemmas.Bool.{eq-eqb, cases_lt}
use Rattle.cdni_log.specs.declared.field.Field.{Field}
use Rattle.http_wire.specs.Head.{HeadParts}
use Rattle.location_acl.specs.declared.footprint.Place.{Place}
use Rattle.control_request.proofs.ControlLemmas.{serves_goes}
use Rattle.session.specs.Answered.{answered}
use Rattle.content_request.specs.Course.{is_short}
use Rattle.session_base.specs.Doing.{Doing, then}
use Rattle.session_base.specs.Ending.{next_of}
use Rattle.session_base.specs.Moment.{capped}
use Rattle.session_base.specs.Request.{manner_of, says_close}
use Rattle.session.specs.Session.{Runs}
use Rattle.session.specs.Turn.{HasNoRequest, Turn}
use Rattle.session_base.specs.declared.ending.Ending.{Ending}
use Rattle.session_base.specs.declared.ending.Ending.TheVariants as ending
use Rattle.session_base.specs.declared.ending.Next.{Next}
use Rattle.session_base.specs.declared.ending.Next.TheVariants as next
use Rattle.session.specs.declared.serve.TheConstants.{TURNS_MAX}
use Rattle.session_base.specs.declared.settings.Settings.{Settings}

-- ---- what no turn is

turns_not_closed : ending.Turns ≡ ending.Closed → ⊥
turns_not_closed e = cc

never_turns : (leaves short fault : Bool) → next.Stops ending.Turns ≡ next_of leaves short fault → ⊥
never_turns leaves short true e = cc
never_turns leaves true false e = cc
never_turns true false false e = cc
never_turns false false false e = cc

stays_here : (short fault : Bool) → next.Stops ending.Closed ≡ next_of false short fault → ⊥
stays_here short true e = cc
stays_here true false e = cc
stays_here false false e = cc

same_end : (e end : Ending) → next.Stops e ≡ next.Stops end → e ≡ end
same_end e end same = cc

leaves_last : (fields : List Field) (head : HeadParts) (moment : ℕ) → (manner_of fields head moment true).leaves ≡ false
unfolding manner_of
leaves_last fields head moment = refl

-- no turn ends the connection as its last turn does
no_turns : (settings : Settings) (place : Place) (last : Bool) (d : Doing) → Turn settings place last d (next.Stops ending.Turns) → ⊥
no_turns settings place last d (inl (end, is, none)) = let same : end ≡ ending.Turns = sym (same_end ending.Turns end is) in subst (λ (e : Ending). HasNoRequest d.bytes d.written e) same none.cause
no_turns settings place last d (inr (inl refusal)) = never_turns (not last) false refusal.fault refusal.goes
no_turns settings place last d (inr (inr (inl broken))) = broken.breaks
no_turns settings place last d (inr (inr (inr served))) = elim served.answers [
  | inl control ↦ let goes = serves_goes settings served.asked served.whole.content (manner_of settings.fields served.head (capped served.moment) last) served.inner (next.Stops ending.Turns) control.1 in never_turns _ goes.0 goes.1 goes.2
  | inr content ↦ never_turns _ (is_short content.1.course) content.1.fault content.1.goes
]

-- behind the last request the connection does not close for what it or its answer says
not_closed : (settings : Settings) (place : Place) (d : Doing) → Turn settings place true d (next.Stops ending.Closed) → ⊥
not_closed settings place d (inl (end, is, none)) = let same : end ≡ ending.Closed = sym (same_end ending.Closed end is) in subst (λ (e : Ending). HasNoRequest d.bytes d.written e) same none.cause
not_closed settings place d (inr (inl refusal)) = stays_here false refusal.fault refusal.goes
not_closed settings place d (inr (inr (inl broken))) = broken.breaks
not_closed settings place d (inr (inr (inr served))) = elim served.answers [
  | inl control ↦ let goes = serves_goes settings served.asked served.whole.content (manner_of settings.fields served.head (capped served.moment) true) served.inner (next.Stops ending.Closed) control.1 in
      stays_here goes.0 goes.1 (goes.2 ∙ ap (λ (b : Bool). next_of b goes.0 goes.1) (leaves_last settings.fields served.head (capped served.moment)))
  | inr content ↦ stays_here (is_short content.1.course) content.1.fault (content.1.goes ∙ ap (λ (b : Bool). next_of b (is_short content.1.course) content.1.fault) (leaves_last settings.fields served.head (capped served.moment)))
]

-- ---- how many turns there are

pub turns_within : (settings : Settings) (place : Place) (n : ℕ) (done : Doing) (turns : List Doing) (end : Ending) (all : Doing) → Runs settings place n done turns end all → n + length turns ≤ TURNS_MAX
unfolding Runs
turns_within settings place n done [] end all runs = omega (arith, runs.0)
turns_within settings place n done (d ∷ ds) end all (within, next.GoesOn, turn, rest) = omega (arith, turns_within settings place (n + 1) (then done d) ds end all rest)
turns_within settings place n done (d ∷ ds) end all (within, next.Stops e, turn, (last, same, is)) = omega (arith, within, ap (λ (l : List Doing). length l) last)

pub turns_all : (settings : Settings) (place : Place) (n : ℕ) (done : Doing) (turns : List Doing) (end : Ending) (all : Doing) → Runs settings place n done turns end all → end ≡ ending.Turns → n + length turns ≡ TURNS_MAX
unfolding Runs
turns_all settings place n done [] end all runs ends = omega (arith, runs.0)
turns_all settings place n done (d ∷ ds) end all (within, next.GoesOn, turn, rest) ends = omega (arith, turns_all settings place (n + 1) (then done d) ds end all rest ends)
turns_all settings place n done (d ∷ ds) end all (within, next.Stops e, turn, (last, same, is)) ends =
    absurd (no_turns settings place (n == TURNS_MAX - 1) d (subst (λ (x : Ending). Turn settings place (n == TURNS_MAX - 1) d (next.Stops x)) (sym same ∙ ends) turn))

not_last : (settings : Settings) (place : Place) (n : ℕ) (d : Doing) → n < TURNS_MAX → Turn settings place (n == TURNS_MAX - 1) d (next.Stops ending.Closed) → n + 1 < TURNS_MAX
not_last settings place n d within turn = elim (cases_lt (n + 1) TURNS_MAX) [
  | inl below ↦ below
  | inr least ↦ absurd (not_closed settings place d (subst (λ (b : Bool). Turn settings place b d (next.Stops ending.Closed)) (eq-eqb n (TURNS_MAX - 1) (omega (arith, within, least))) turn))
]

pub closed_below : (settings : Settings) (place : Place) (n : ℕ) (done : Doing) (turns : List Doing) (end : Ending) (all : Doing) → Runs settings place n done turns end all → end ≡ ending.Closed → n + length turns < TURNS_MAX
unfolding Runs
closed_below settings place n done [] end all runs ends = absurd (turns_not_closed (sym runs.1 ∙ ends))
closed_below settings place n done (d ∷ ds) end all (within, next.GoesOn, turn, rest) ends = omega (arith, closed_below settings place (n + 1) (then done d) ds end all rest ends)
closed_below settings place n done (d ∷ ds) end all (within, next.Stops e, turn, (last, same, is)) ends =
    omega (arith, ap (λ (l : List Doing). length l) last, not_last settings place n d within (subst (λ (x : Ending). Turn settings place (n == TURNS_MAX - 1) d (next.Stops x)) (sym same ∙ ends) turn))

-- ---- what was answered

pub answered_in_turns : (turns : List Doing) (end : Ending) → end ≡ ending.Turns → length turns ≡ TURNS_MAX → answered turns end ≡ TURNS_MAX
answered_in_turns turns end ends many = ap (λ (e : Ending). answered turns e) ends ∙ many

pub only_turns : (turns : List Doing) (end : Ending) → length turns ≤ TURNS_MAX → (end ≡ ending.Closed → length turns < TURNS_MAX) → answered turns end ≡ TURNS_MAX → end ≡ ending.Turns
only_turns turns ending.Turns most below many = refl
only_turns turns ending.Closed most below many = absurd (omega (arith, below refl, many))
only_turns turns ending.Ended most below many = absurd (omega (arith, most, many))
only_turns turns (ending.BadHead taken) most below many = absurd (omega (arith, most, many))
only_turns turns (ending.CutShort taken) most below many = absurd (omega (arith, most, many))
only_turns turns ending.ReadFault most below many = absurd (omega (arith, most, many))
only_turns turns ending.WriteFault most below many = absurd (omega (arith, most, many))
only_turns turns ending.Memory most below many = absurd (omega (arith, most, many))

pub answered_below : (turns : List Doing) (end : Ending) → end ≡ ending.Closed → length turns < TURNS_MAX → answered turns end < TURNS_MAX
answered_below turns end ends below = subst (λ (n : ℕ). n < TURNS_MAX) (sym (ap (λ (e : Ending). answered turns e) ends)) below
