-- What a read or a write of a socket moved.
use Rattle.std.specs.Prelude.{◌≡◌, ℕ, ◌≤◌, List, ◌++◌, length}
use Rattle.sockets.specs.declared.ready.Moved.{Moved}
use Rattle.sockets.specs.declared.ready.Moved.TheVariants as moved

-- one byte or more moved, and no more than there was room for
abbrev pub IsMoved : ℕ → Moved → Type 0
IsMoved room (moved.Some n) = (1 ≤ n) × (n ≤ room)
IsMoved room moved.End = Unit {0}
IsMoved room moved.Later = Unit {0}
IsMoved room moved.Failed = Unit {0}

-- as many bytes as moved stand behind those that were there; else those stand alone
abbrev pub Fills : List ℕ → List ℕ → Moved → Type 0
Fills old new (moved.Some n) = (came : List ℕ) × (new ≡ old ++ came) × (length came ≡ n)
Fills old new moved.End = new ≡ old
Fills old new moved.Later = new ≡ old
Fills old new moved.Failed = new ≡ old
