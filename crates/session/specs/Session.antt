-- A whole connection.
use Rattle.std.specs.Prelude.{◌≡◌, ℕ, ◌+◌, ◌-◌, ◌<◌, List, [], ◌∷◌, ◌==◌}
use Rattle.std.specs.declared.option.Option.{Option}
use Rattle.std.specs.Io.KnownBytes.{IsAtEnd}
use Rattle.location_acl.specs.declared.footprint.Place.{Place}
use Rattle.session_base.specs.Doing.{Doing, nothing, then}
use Rattle.session.specs.Turn.{Turn}
use Rattle.session_base.specs.declared.ending.Ending.{Ending}
use Rattle.session_base.specs.declared.ending.Ending.TheVariants as ending
use Rattle.session_base.specs.declared.ending.Next.{Next}
use Rattle.session_base.specs.declared.ending.Next.TheVariants as next
use Rattle.session.specs.declared.serve.TheConstants.{TURNS_MAX}
use Rattle.session_base.specs.declared.settings.Settings.{Settings}

-- the first where another request follows, else the second of the ending
abbrev pub Goes : Next → Type 0 → (Ending → Type 0) → Type 0
Goes next.GoesOn On Ends = On
Goes (next.Stops end) On Ends = Ends end

-- After so many answered requests, and what was done in them, these turns lead to the ending and to all that was done; a
-- connection has no turn behind its last one.
unfoldable pub Runs : Settings → Place → ℕ → Doing → List Doing → Ending → Doing → Type 0
Runs settings place n done [] end all = (n ≡ TURNS_MAX) × (end ≡ ending.Turns) × (all ≡ done)
Runs settings place n done (d ∷ ds) end all = (n < TURNS_MAX) × (after : Next) × Turn settings place (n == TURNS_MAX - 1) d after
    × Goes after (Runs settings place (n + 1) (then done d) ds end all)
    (λ last. (ds ≡ []) × (end ≡ last) × (all ≡ then done d))

-- what is done in a session that ends so: its turns; or it had no room for them
abbrev pub Session : Settings → Place → Doing → Ending → Type 0
Session settings place d end = (turns : List Doing) × Runs settings place 0 nothing turns end d

-- where the source ended between two requests or within one, nothing is left of it
abbrev pub Leaves : Option (List ℕ) → List ℕ → Ending → Type 0
Leaves left rest ending.Ended = IsAtEnd left × (rest ≡ [])
Leaves left rest (ending.CutShort taken) = IsAtEnd left × (rest ≡ [])
Leaves left rest end = Unit {0}

abbrev pub LeavesNext : Option (List ℕ) → List ℕ → Next → Type 0
LeavesNext left rest next.GoesOn = Unit {0}
LeavesNext left rest (next.Stops end) = Leaves left rest end
