use Rattle.std.proofs.Common.{◌≡◌, drop, length}
use Rattle.std.specs.Prelude.{bytes_eq}
use Rattle.std.specs.Str.{str_to_ascii_lowercase}
use Rattle.cdni_base.proofs.key.is_lowered.Given as goal

abbrev pub invariant-bytes : goal.invariant-bytes
invariant-bytes l = record { same_length : length l.lowered ≡ length l.bytes; rest : bytes_eq (drop l.i l.lowered) (str_to_ascii_lowercase (drop l.i l.bytes)) ≡ bytes_eq l.lowered (str_to_ascii_lowercase l.bytes) }
