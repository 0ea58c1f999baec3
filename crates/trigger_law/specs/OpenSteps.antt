-- Steps of triggers that are open (RFC 8007, section 2).
use Rattle.std.specs.Prelude.{◌≡◌, ◌⊎◌, ℕ, Bool}
use Rattle.std.specs.declared.option.Option.{Option}
use Rattle.history.specs.After.{begun_fetch, begun_refresh}
use Rattle.history.specs.Event.{Entry, History, Advance}
use Rattle.history.specs.Laws.{HasBegun, ends_fetch, ends_refresh}
use Rattle.history.specs.World.{Made}
use Rattle.history.specs.declared.reply.Reply.{Reply}

-- what this pass began under this number, and has not asked to end since, it began by a step of this trigger
abbrev pub BegunByStep : Made → (Reply → Option ℕ) → (ℕ → ℕ → Entry → Bool) → History → ℕ → ℕ → ℕ → Type 0
BegunByStep made given ends h number pass id = (begun : HasBegun made given ends h number pass)
    × (moment : ℕ) × (begun.event ≡ Advance id moment)

-- a step of this trigger by this pass began a fetch or a refresh of this number, whose end the pass has not asked for since
abbrev pub IsStepOpen : Made → History → ℕ → ℕ → ℕ → Type 0
IsStepOpen made h number pass id = BegunByStep made begun_fetch ends_fetch h number pass id
    ⊎ BegunByStep made begun_refresh ends_refresh h number pass id
