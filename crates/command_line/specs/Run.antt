-- What each command did, by the contract of the call that it made.
use Rattle.std.specs.Prelude.{◌≡◌, ◌≢◌, ◌⊎◌, ◌↔◌, ℕ, List, true, None, Some, IfSome, String}
use Rattle.std.specs.declared.alloc.Global.{Global}
use Rattle.std.specs.declared.option.Option.{Option}
use Rattle.command_line.specs.Choice.{choice_of}
use Rattle.command_line.specs.declared.choice.Choice.TheVariants as choice
use Rattle.doors.specs.Outside.{Diary}
use Rattle.edge_base.specs.Causes.{Rose}
use Rattle.edge_base.specs.declared.status.Status.{Status}
use Rattle.edge_base.specs.declared.status.Status.TheVariants as status
use Rattle.generated_script.specs.Numbers.{ScriptNumbers}
use Rattle.http_node.specs.Command.{is_replay, is_summary, AsksFor, IsNoCommand}
use Rattle.http_node.specs.Note.{note_of, serve_note}
use Rattle.http_node.specs.Runs.{RunsGenerate, RunsNothing, RunsReplay, RunsSummary}
use Rattle.http_node.specs.Serve.{IsCommand}
use Rattle.http_node.specs.Told.{GainsNote, StreamTold}
use Rattle.serve_words.specs.Options.{options_of}
use Rattle.serve_words.specs.declared.options.Options.{Options}
use Rattle.trigger_cascade.specs.Cascade.{Answers, LinkTold, Notes, Refuses, Serves, Told}
use Rattle.trigger_cascade.specs.Order.{order_of}
use Rattle.trigger_cascade.specs.OrderParts.{OrderParts}
use Rattle.trigger_cascade.specs.Task.{task_in}
use Rattle.trigger_cascade.specs.declared.link.LinkCall.{LinkCall}

-- ---- what is told of what a command is given

-- the calls of the outside, where they are told, how many workers were given back, and the count of faults
pub record OutsideTold : Type 0 where
  pub diary : Option Diary
  pub returned : ℕ
  pub faults : ℕ

abbrev pub outside_told : {A : Type 0} → (A → Option Diary) → (A → ℕ) → (A → ℕ) → A → OutsideTold
outside_told diary returned faults it = record { diary = diary it; returned = returned it; faults = faults it }

abbrev pub link_told : {A : Type 0} → (A → Option (List LinkCall)) → (A → ℕ) → A → LinkTold
link_told calls faults it = record { calls = calls it; faults = faults it }

-- ---- what each command did

-- `serve_main` was called with these words, over this outside
pub record RunsServe (words : List (String Global)) (outside outside' : OutsideTold) (notes notes' : StreamTold)
    (result : Status) : Type 0 where
  pub usage : result ≡ status.Usage → options_of words ≡ None
  pub no_command : options_of words ≡ None → (result ≡ status.Usage) ⊎ (result ≡ status.Memory)
  pub usage_noted : options_of words ≡ None → GainsNote notes notes' (note_of result None)
  pub command : (options : Options) → options_of words ≡ Some options → (line : Option ℕ)
      × IsCommand options outside.diary outside'.diary outside.returned outside'.returned outside.faults outside'.faults
      line result × GainsNote notes notes' (serve_note result line)

-- what `cascade_main` is told of
abbrev pub cascade_told : StreamTold → StreamTold → LinkTold → Told
cascade_told input output link = record { left = input.bytes; held = output.bytes; link = link }

-- `cascade_main` was called with these words, over this input, output and link
pub record RunsCascade (words : List (String Global)) (input input' output output' notes notes' : StreamTold)
    (link link' : LinkTold) (result : Status) : Type 0 where
  pub usage : result ≡ status.Usage → order_of words ≡ None
  pub refused : order_of words ≡ None → Refuses (cascade_told input output link) (cascade_told input' output' link')
      (Notes notes.bytes notes'.bytes notes.faults notes'.faults) result
  pub served : (order : OrderParts) → order_of words ≡ Some order
      → Serves order (cascade_told input output link) (cascade_told input' output' link')
      (Notes notes.bytes notes'.bytes notes.faults notes'.faults) result
  pub complete : (order : OrderParts) → order_of words ≡ Some order
      → (Rose input.faults input'.faults → ⊥) → (Rose output.faults output'.faults → ⊥)
      → IfSome input.bytes (λ text. Answers (task_in order.own text) result)
  pub read : result ≡ status.ReadFault → Rose input.faults input'.faults
  pub read_well : result ≢ status.ReadFault → input'.faults ≡ input.faults
  pub write : result ≡ status.WriteFault → Rose output.faults output'.faults
  pub write_well : result ≢ status.WriteFault → output'.faults ≡ output.faults
  pub outside : result ≢ status.Outside

-- `batch_main` was called with these words, over this input and output
pub record RunsBatch (words : List (String Global)) (input input' output output' notes notes' : StreamTold)
    (result : Status) : Type 0 where
  pub usage : (result ≡ status.Usage) ↔ IsNoCommand words
  pub nothing : result ≡ status.Usage → RunsNothing input input' output output' notes notes'
  pub replay : is_replay words ≡ true → RunsReplay input input' output output' notes notes' result
  pub summary : is_summary words ≡ true → RunsSummary input input' output output' notes notes' result
  pub generate : (numbers : ScriptNumbers) → AsksFor words numbers
      → RunsGenerate numbers input input' output output' notes notes' result
  pub read : result ≡ status.ReadFault → Rose input.faults input'.faults
  pub read_well : result ≢ status.ReadFault → input'.faults ≡ input.faults
  pub write : result ≡ status.WriteFault → Rose output.faults output'.faults
  pub write_well : result ≢ status.WriteFault → output'.faults ≡ output.faults
  pub outside : result ≢ status.Outside

-- ---- the program

-- what is told of all that the program is given
pub record Machine : Type 0 where
  pub input : StreamTold
  pub output : StreamTold
  pub notes : StreamTold
  pub outside : OutsideTold
  pub link : LinkTold

-- these words ran so: the call that they choose was made, and what is not its own was left as it was
pub record RunsWords (words : List (String Global)) (before after : Machine) (result : Status) : Type 0 where
  pub serve : choice_of words ≡ choice.Serve
      → RunsServe words before.outside after.outside before.notes after.notes result
  pub cascade : choice_of words ≡ choice.Cascade
      → RunsCascade words before.input after.input before.output after.output before.notes after.notes
      before.link after.link result
  pub batch : choice_of words ≡ choice.Batch
      → RunsBatch words before.input after.input before.output after.output before.notes after.notes result
  pub unread : choice_of words ≡ choice.Serve → after.input ≡ before.input
  pub unwritten : choice_of words ≡ choice.Serve → after.output ≡ before.output
  pub outside : choice_of words ≢ choice.Serve → after.outside ≡ before.outside
  pub not_served : options_of words ≡ None → after.outside ≡ before.outside
  pub link : choice_of words ≢ choice.Cascade → after.link ≡ before.link
