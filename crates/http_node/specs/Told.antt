-- What is told of the streams of a command.
use Rattle.std.specs.Prelude.{ℕ, List}
use Rattle.std.specs.declared.option.Option.{Option}
use Rattle.http_node.specs.Note.{IsNoted}

-- the bytes that a source has left or a sink holds, where they are told, and its count of faults
pub record StreamTold : Type 0 where
  pub bytes : Option (List ℕ)
  pub faults : ℕ

abbrev pub stream_told : {A : Type 0} → (A → Option (List ℕ)) → (A → ℕ) → A → StreamTold
stream_told bytes faults it = record { bytes = bytes it; faults = faults it }

-- the notes gained this note, or a front of it where they failed
abbrev pub GainsNote : StreamTold → StreamTold → List ℕ → Type 0
GainsNote notes notes' note = IsNoted notes.bytes notes'.bytes notes.faults notes'.faults note
