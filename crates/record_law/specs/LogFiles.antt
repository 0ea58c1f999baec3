-- The record: the row of each delivery, and the log files that have them, by their positions.
use Rattle.std.specs.Prelude.{◌≡◌, ◌↔◌, ℕ, ◌+◌, ◌<◌, Bool, not, IsTrue, List, [], ◌++◌, All, Contains, filter, map, Some, if◌then◌else◌}
use Rattle.std.specs.List.{AllPairs, flat_map, slice_get}
use Rattle.cdni_log.specs.File.{file_text}
use Rattle.delivery_law.specs.LogRows.{HasRow, IsOfOneDelivery}
use Rattle.history.specs.Event.{History, Cut, DropLog, Finish, ListLogs, LogFile}
use Rattle.history.specs.History.{AnsweredAt, reply_to, world_of}
use Rattle.history.specs.Laws.{IsOpen}
use Rattle.history.specs.World.{Filed, Made, Recorded}
use Rattle.history.specs.declared.reply.Reply.{Reply}
use Rattle.history.specs.declared.reply.Reply.TheVariants as reply

-- ---- rows

-- each row is of one delivery and says what was told of it, no two rows are of one, each delivery that was finished has
-- its row, and each open one gets it when it is finished
pub record HasRowsOfDeliveries (made : Made) (h : History) : Type 0 where
  pub one : (place : ℕ) (row : Recorded) → slice_get (world_of made h).delivering.rows place ≡ Some row
      → IsOfOneDelivery made h (place + 1) row
  pub apart : AllPairs (λ one other. one.delivery ≡ other.delivery → ⊥) (world_of made h).delivering.rows
  pub each : (number at pass delivery status total entity end : ℕ)
      → AnsweredAt made h at (pass, Finish delivery status total entity end) (reply.Logged number)
      → HasRow (world_of made h).delivering.rows number at delivery status total entity end
  pub next : (pass delivery status total entity end : ℕ)
      → IsOpen delivery pass (world_of made h).delivering.deliveries
      → (number : ℕ) × (reply_to made h (pass, Finish delivery status total entity end) ≡ reply.Logged number)

-- ---- log files

-- a log file that was cut: its number, the position and the moment of its Cut, its rows, and whether it was dropped
pub record CutFile : Type 0 where
  pub number : ℕ
  pub at : ℕ
  pub moment : ℕ
  pub rows : List Recorded
  pub dropped : Bool

-- those that were not dropped
abbrev pub undropped : List CutFile → List CutFile
undropped files = filter (λ file. not file.dropped) files

-- the file as a node keeps it
abbrev pub as_kept : CutFile → Filed
as_kept file = record { number = file.number; moment = file.moment; rows = map (λ one. one.row) file.rows }

-- its text: that of its rows, under the host that the node claims, with the fields that it logs
abbrev pub text_of : Made → CutFile → List ℕ
text_of made file =
    file_text (record {
      number = file.number;
      moment = file.moment;
      origin = made.heading.origin;
      fields = made.heading.fields;
    }) (as_kept file).rows

-- what its number reads as
abbrev pub reading : Made → CutFile → Reply
reading made file = if file.dropped then reply.Unknown file.number else reply.LogText (text_of made file)

-- what a DropLog of its number is answered
abbrev pub dropping : CutFile → Reply
dropping file = if file.dropped then reply.Unknown file.number else reply.Dropped

-- a DropLog of this number after this position was answered Dropped
pub record WasDropped (made : Made) (h : History) (number after : ℕ) : Type 0 where
  pub at : ℕ
  pub pass : ℕ
  pub later : after < at
  pub answered : AnsweredAt made h at (pass, DropLog number) reply.Dropped

-- a Cut made the file at its position, of rows that were written before, and of at least one; each pass reads its text
-- under its number and can drop it until it is dropped, and it is unknown from then on
pub record WasCut (made : Made) (h : History) (file : CutFile) : Type 0 where
  pub pass : ℕ
  pub answered : AnsweredAt made h file.at (pass, Cut file.moment) (reply.File file.number)
  pub written : All (λ one. one.at < file.at) file.rows
  pub some : file.rows ≡ [] → ⊥
  pub dropped : IsTrue file.dropped ↔ WasDropped made h file.number file.at
  pub reads : (by : ℕ) → reply_to made h (by, LogFile file.number) ≡ reading made file
  pub drops : (by : ℕ) → reply_to made h (by, DropLog file.number) ≡ dropping file

-- the second was cut after the first, and its rows were written after that
pub record Follows (first second : CutFile) : Type 0 where
  pub later : first.at < second.at
  pub since : All (λ one. first.at < one.at) second.rows

-- ---- the whole

-- there is a list of all log files that were ever cut, in order, and the rows of the deliveries are the rows of these
-- files, followed by those that were written after the last Cut; where there are such a Cut cuts them
pub record KeepsRecord (made : Made) (h : History) : Type 0 where
  pub deliveries : HasRowsOfDeliveries made h
  pub files : List CutFile
  pub cut : All (WasCut made h) files
  pub every : (at pass moment number : ℕ) → AnsweredAt made h at (pass, Cut moment) (reply.File number)
      → (file : CutFile) × Contains files file × (file.at ≡ at)
  pub numbered : (place : ℕ) (file : CutFile) → slice_get files place ≡ Some file → file.number ≡ place + 1
  pub in_order : AllPairs Follows files
  pub whole : (world_of made h).delivering.rows
      ≡ flat_map (λ file. file.rows) files ++ (world_of made h).delivering.unfiled
  pub unfiled : All (λ file. All (λ one. file.at < one.at) (world_of made h).delivering.unfiled) files
  pub nothing : (by moment : ℕ) → (reply_to made h (by, Cut moment) ≡ reply.NothingToCut)
      ↔ ((world_of made h).delivering.unfiled ≡ [])
  pub dropped : (at pass number : ℕ) → AnsweredAt made h at (pass, DropLog number) reply.Dropped
      → (file : CutFile) × Contains files file × (file.number ≡ number) × (file.at < at)
  pub kept : (world_of made h).controlling.files ≡ map as_kept (undropped files)
  pub listed : (by : ℕ) → reply_to made h (by, ListLogs) ≡ reply.Numbers (map (λ file. file.number) (undropped files))
  pub unknown : (by number : ℕ) → All (λ file. file.number ≡ number → ⊥) files
      → (reply_to made h (by, LogFile number) ≡ reply.Unknown number)
      × (reply_to made h (by, DropLog number) ≡ reply.Unknown number)
