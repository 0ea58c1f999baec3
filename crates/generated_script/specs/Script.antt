-- The script that two numbers make, and how its writing ends.
use Rattle.std.specs.Prelude.{◌≡◌, ℕ, zero, suc, ◌+◌, ◌<◌, Bool, true, false, List, [], ◌++◌, length, take}
use Rattle.std.specs.declared.option.Option.{Option}
use Rattle.std.specs.Io.KnownBytes.{Appends}
use Rattle.edge_base.specs.declared.status.Status.{Status}
use Rattle.edge_base.specs.declared.status.Status.TheVariants as status
use Rattle.generated_script.specs.Line.{first_lines}
use Rattle.generated_script.specs.Course.{course_of, round_lines, after_round}
use Rattle.generated_script.specs.declared.course.Course.{Course}

-- so many rounds, of which the first has this number
unfoldable pub rounds_text : ℕ → ℕ → Course → List ℕ
rounds_text zero round course = []
rounds_text (suc left) round course =
    round_lines round course ++ rounds_text left (round + 1) (after_round round course)

-- the whole script: its first lines, and the rounds from 1 on
unfoldable pub script_of : ℕ → ℕ → List ℕ
script_of rounds seed = first_lines ++ rounds_text rounds 1 (course_of seed)

-- what the status says of the output: the whole text was added, or at a failed write a part that lacks its end, or for
-- want of memory a front of it
abbrev pub Generates : Option (List ℕ) → Option (List ℕ) → List ℕ → Status → Type 0
Generates old new text status.Done = Appends old new text
Generates old new text status.WriteFault = (n : ℕ) × (n < length text) × Appends old new (take n text)
Generates old new text status.Memory = (n : ℕ) × Appends old new (take n text)
Generates old new text other = ⊥

-- a front of the buffer was written, and the rest is still in it; or a fault ended the writing
abbrev pub MovesOut : Option (List ℕ) → Option (List ℕ) → List ℕ → List ℕ → Bool → Type 0
MovesOut old new before after false = (front : List ℕ) × Appends old new front × (before ≡ front ++ after)
MovesOut old new before after true = (n : ℕ) × (n < length before) × Appends old new (take n before)
