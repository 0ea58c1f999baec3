use Rattle.std.proofs.Common.{◌≡◌, length}
use Rattle.client_hub.specs.Behind.{lines_of, fields_of, body_of, asks_for_end, asks_for_word}
use Rattle.client_hub.proofs.BehindLemmas.{body_rest, last_rest, expects_rest}
use Rattle.std.specs.Prelude.{◌||◌}
use Rattle.client_hub.proofs.behind.told_by.Given as goal

abbrev pub invariant-lines : goal.invariant-lines
invariant-lines l = record {
  body : body_rest l.told (fields_of (lines_of l.rest)) ≡ body_of (fields_of (lines_of l.fields));
  last : last_rest l.told (fields_of (lines_of l.rest)) ≡ (l.last || asks_for_end (fields_of (lines_of l.fields)));
  expects : expects_rest l.told (fields_of (lines_of l.rest)) ≡ asks_for_word (fields_of (lines_of l.fields));
}

abbrev pub decreases-lines : goal.decreases-lines
decreases-lines l = length l.rest
