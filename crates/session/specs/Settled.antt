-- What becomes of the triggers that are created in a list of calls (RFC 8007, sections 2 and 4.3).
use Rattle.std.specs.Prelude.{◌≡◌, ◌⊎◌, ℕ, Bool, true, false, ◌&&◌, ◌==◌, List, [], ◌∷◌, ◌++◌, None, Some}
use Rattle.std.specs.List.{list_any}
use Rattle.std.specs.declared.option.Option.{Option}
use Rattle.history.specs.After.{created_trigger}
use Rattle.history.specs.Event.{History, Command, Advance}
use Rattle.history.specs.History.{world_of}
use Rattle.history.specs.World.{Made}
use Rattle.history.specs.declared.reply.Reply.{Reply}
use Rattle.history.specs.declared.reply.Reply.TheVariants as reply
use Rattle.session_base.specs.Doing.{Called}
use Rattle.trigger_law.specs.FinalTriggers.{IsFinalIn, deletes}

-- the trigger that a call has created
abbrev pub new_trigger : Called → Option ℕ
new_trigger (Command spec moment, answer) = created_trigger answer
new_trigger call = None

-- a step is refused: the trigger is deleted, another pass makes its steps, or a limit is reached
abbrev pub is_refusal : Reply → Bool
is_refusal (reply.Unknown id) = true
is_refusal (reply.Claimed pass) = true
is_refusal (reply.Full count) = true
is_refusal answer = false

-- the step before is open
abbrev pub is_step_open : Reply → Bool
is_step_open (reply.StepOpen number) = true
is_step_open answer = false

-- there is no further step: the trigger has its last status, the step is refused, or the step before is open
abbrev pub is_rest : Reply → Bool
is_rest (reply.Final status) = true
is_rest (reply.StepOpen number) = true
is_rest answer = is_refusal answer

-- a step of this trigger is answered so
abbrev pub steps_so : (Reply → Bool) → ℕ → Called → Bool
steps_so so id (Advance other moment, answer) = other == id && so answer
steps_so so id call = false

-- it makes steps among these calls until there is none more
abbrev pub RestsIn : ℕ → List Called → Type 0
RestsIn id calls = list_any (steps_so is_rest id) calls ≡ true

-- so does each trigger that is created among them, behind its creation
abbrev pub AllRest : List Called → Type 0
AllRest [] = Unit {0}
AllRest (call ∷ calls) = ((id : ℕ) → new_trigger call ≡ Some id → RestsIn id calls) × AllRest calls

-- no step of a trigger that is created among them, behind its creation, is answered that the step before is open
abbrev pub NoStepStaysOpen : List Called → Type 0
NoStepStaysOpen [] = Unit {0}
NoStepStaysOpen (call ∷ calls) = ((id : ℕ) → new_trigger call ≡ Some id → list_any (steps_so is_step_open id) calls ≡ false)
    × NoStepStaysOpen calls

-- none of these calls creates a trigger
abbrev pub CreatesNone : List Called → Type 0
CreatesNone [] = Unit {0}
CreatesNone (call ∷ calls) = (new_trigger call ≡ None) × CreatesNone calls

-- so does each trigger that is created among them, but the last one
abbrev pub AllButLastRest : List Called → Type 0
AllButLastRest [] = Unit {0}
AllButLastRest (call ∷ calls) = ((id : ℕ) → new_trigger call ≡ Some id → RestsIn id calls ⊎ CreatesNone calls) × AllButLastRest calls

-- It came to its last status, and has it in the end, or it was deleted since it came to it.
pub record BecameFinal (made : Made) (last : History) (id : ℕ) : Type 0 where
  pub before : History
  pub since : History
  pub longer : last ≡ before ++ since
  pub final : IsFinalIn (world_of made before) id
  pub stays : IsFinalIn (world_of made last) id ⊎ (list_any (deletes id) since ≡ true)

-- In the history to which these calls lead it came to its last status; or one of its steps among them was refused.
abbrev pub Settles : Made → History → ℕ → List Called → Type 0
Settles made last id calls = BecameFinal made last id ⊎ (list_any (steps_so is_refusal id) calls ≡ true)

-- so is it with each trigger that is created among them
abbrev pub AllSettle : Made → History → List Called → Type 0
AllSettle made last [] = Unit {0}
AllSettle made last (call ∷ calls) = ((id : ℕ) → new_trigger call ≡ Some id → Settles made last id calls) × AllSettle made last calls

-- so is it with each of them but the last one
abbrev pub AllButLastSettle : Made → History → List Called → Type 0
AllButLastSettle made last [] = Unit {0}
AllButLastSettle made last (call ∷ calls) =
    ((id : ℕ) → new_trigger call ≡ Some id → Settles made last id calls ⊎ CreatesNone calls) × AllButLastSettle made last calls
