use Rattle.std.proofs.Common.{◌≡◌, ◌≤◌, ◌+◌, ◌++◌, length, map}
use Rattle.cdni_log.specs.Line.{line_end}
use Rattle.log_audit.specs.declared.place.Place.TheVariants as place
use Rattle.log_audit.specs.Lines.{bad_from, lines_of}
use Rattle.log_audit.proofs.records.read_body.Given as goal

abbrev pub invariant-lines : goal.invariant-lines
invariant-lines l = record {
  small : length l.text ≤ 268435456;
  few : l.number + length l.left ≤ 6 + length l.text;
  lines : map (λ values. values ++ line_end) l.records ++ lines_of l.left ≡ lines_of l.text;
  bad : bad_from l.number (place.Records l.fields) (lines_of l.left) ≡ bad_from 6 (place.Records l.fields) (lines_of l.text);
}

abbrev pub decreases-lines : goal.decreases-lines
decreases-lines l = length l.left
