-- What a source gives of a message.
use Rattle.std.specs.Prelude.{◌≡◌, ℕ, ◌-◌, ◌<◌, ◌≤◌, None, Some, option_map}
use Rattle.std.specs.declared.option.Option.{Option}
use Rattle.sockets.specs.declared.ready.Moved.{Moved}
use Rattle.sockets.specs.declared.ready.Moved.TheVariants as moved

-- no byte of the next message is given with this one, where it is known how many bytes of this one are left
abbrev pub IsWithinMessage : Option ℕ → ℕ → Type 0
IsWithinMessage None count = Unit {0}
IsWithinMessage (Some left) count = 0 < left → count ≤ left

-- what was given is no longer left; where nothing was given, what is left is the same
abbrev pub IsPiece : Option ℕ → Option ℕ → Moved → Type 0
IsPiece old new (moved.Some count) = IsWithinMessage old count × (new ≡ option_map (λ left. left - count) old)
IsPiece old new moved.End = new ≡ old
IsPiece old new moved.Later = new ≡ old
IsPiece old new moved.Failed = new ≡ old
