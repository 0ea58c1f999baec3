-- The text of a log file, as rows or written.
use Rattle.std.specs.Prelude.{ℕ, List}
use Rattle.cdni_log.specs.File.{file_text}
use Rattle.control_core.specs.declared.file.Form.{Form}
use Rattle.control_core.specs.declared.file.Form.TheVariants as form

-- the bytes of the file of a head and rows, or those that were written
abbrev pub bytes_of : Form → List ℕ
bytes_of (form.Rows head rows) = file_text head rows.items
bytes_of (form.Text text) = text
