-- What each command that reads and writes streams did.
use Rattle.std.specs.Prelude.{◌≡◌, ◌⊎◌, None, IfSome}
use Rattle.std.specs.Io.KnownBytes.{Keeps}
use Rattle.edge_base.specs.Causes.{Rose}
use Rattle.edge_base.specs.declared.status.Status.{Status}
use Rattle.edge_base.specs.declared.status.Status.TheVariants as status
use Rattle.generated_script.specs.Numbers.{ScriptNumbers}
use Rattle.generated_script.specs.Script.{script_of, Generates}
use Rattle.http_node.specs.Audit.{Audits, IsSettled}
use Rattle.http_node.specs.Batch.{MeetsNone, ReadsNone, ReadsScript, ReadsSummary, Replays, Sums}
use Rattle.http_node.specs.Note.{note_of}
use Rattle.http_node.specs.Told.{GainsNote, StreamTold}
use Rattle.replay_script.specs.Script.{answers}

-- words that are no command: nothing is read or written, and that is noted
pub record RunsNothing (input input' output output' notes notes' : StreamTold) : Type 0 where
  pub unread : Keeps input.bytes input'.bytes
  pub unwritten : Keeps output.bytes output'.bytes
  pub noted : GainsNote notes notes' (note_of status.Usage None)

-- where neither stream failed, a script whose lines all read is done, or memory was wanted
abbrev pub Completes : StreamTold → StreamTold → StreamTold → StreamTold → Status → Type 0
Completes input input' output output' result =
    (Rose input.faults input'.faults → ⊥) → (Rose output.faults output'.faults → ⊥)
    → IfSome input.bytes (λ script. (answers script).stops ≡ None → (result ≡ status.Done) ⊎ (result ≡ status.Memory))

-- `replay`: what was read, written and noted, by the status; and the status, where a line is none
pub record RunsReplay (input input' output output' notes notes' : StreamTold) (result : Status) : Type 0 where
  pub served : Replays input.bytes input'.bytes output.bytes output'.bytes (GainsNote notes notes') result
  pub complete : Completes input input' output output' result
  pub lines : ReadsScript input.bytes input'.bytes output.bytes output'.bytes result
  pub script : MeetsNone input.bytes input'.bytes output.bytes output'.bytes
      → (result ≡ status.Script) ⊎ (result ≡ status.Memory)

-- `replay --summary`: the same of the summary
pub record RunsSummary (input input' output output' notes notes' : StreamTold) (result : Status) : Type 0 where
  pub summed : Sums input.bytes input'.bytes output.bytes output'.bytes (GainsNote notes notes') result
  pub complete : Completes input input' output output' result
  pub lines : ReadsSummary input.bytes input'.bytes result
  pub script : ReadsNone input.bytes input'.bytes → (result ≡ status.Script) ⊎ (result ≡ status.Memory)

-- `generate` with these numbers: what was written and noted, by the status; nothing is read
pub record RunsGenerate (numbers : ScriptNumbers) (input input' output output' notes notes' : StreamTold)
    (result : Status) : Type 0 where
  pub generated : Generates output.bytes output'.bytes (script_of numbers.rounds numbers.seed) result
  pub unread : Keeps input.bytes input'.bytes
  pub noted : GainsNote notes notes' (note_of result None)
  pub complete : (Rose output.faults output'.faults → ⊥) → (result ≡ status.Done) ⊎ (result ≡ status.Memory)

-- `audit`: what was read, written and noted, by the status; and the status, where neither stream failed
pub record RunsAudit (input input' output output' notes notes' : StreamTold) (result : Status) : Type 0 where
  pub audited : Audits input.bytes input'.bytes output.bytes output'.bytes (GainsNote notes notes') result
  pub complete : (Rose input.faults input'.faults → ⊥) → (Rose output.faults output'.faults → ⊥)
      → IfSome input.bytes (λ text. IsSettled text result)
