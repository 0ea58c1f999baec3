use Rattle.std.proofs.Common.{length}
use Rattle.serve_words.proofs.FormLemmas.{IsLeft}
use Rattle.serve_words.specs.Form.{texts_of}
use Rattle.serve_words.proofs.form.is_named.Given as goal

abbrev pub invariant-options : goal.invariant-options
invariant-options l = record { left : IsLeft l.name (texts_of l.words) (texts_of l.rest) }

abbrev pub decreases-options : goal.decreases-options
decreases-options l = length l.rest
