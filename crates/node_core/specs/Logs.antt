-- What a history leaves of triggers and log files, and the replies that speak of files.
use Rattle.std.specs.Prelude.{ℕ, Bool, true, false, List, map, None, Some}
use Rattle.std.specs.declared.option.Option.{Option}
use Rattle.cdni_log.specs.File.{file_text}
use Rattle.control_core.specs.Control.{ControlView}
use Rattle.control_core.specs.declared.control.LogFile.{LogFile}
use Rattle.history.specs.Reply.{file_head}
use Rattle.history.specs.World.{Filed, World}
use Rattle.history.specs.declared.heading.Heading.{Heading}
use Rattle.history.specs.declared.reply.Reply.{Reply}
use Rattle.history.specs.declared.reply.Reply.TheVariants as reply

-- a log file under this heading, with its bytes
abbrev pub file_in : Heading → Filed → LogFile
file_in heading filed = record {
  number = filed.number;
  text = file_text (file_head heading filed.number filed.moment) filed.rows;
}

abbrev pub control_of : World → ControlView
control_of w = record {
  triggers = record {
    triggers = w.controlling.triggers;
    most = w.made.limits.triggers;
    created = w.counts.created;
  };
  files = map (file_in w.made.heading) w.controlling.files;
  most = w.made.limits.files;
  filed = w.counts.filed;
}

-- the reply where the file of this number has this text
abbrev pub logged : ℕ → Option (List ℕ) → Reply
logged number None = reply.Unknown number
logged number (Some text) = reply.LogText text

-- the reply where the file of this number was dropped, or is unknown
abbrev pub dropped_log : ℕ → Bool → Reply
dropped_log number true = reply.Dropped
dropped_log number false = reply.Unknown number
