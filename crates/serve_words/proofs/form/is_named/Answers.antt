use Rattle.std.proofs.Common.{◌∙◌, sym}
use Rattle.serve_words.proofs.FormLemmas.{left_less, named_here}
use Rattle.serve_words.specs.Form.{texts_of}
use Rattle.serve_words.proofs.form.is_named.Goals as goal

pub returns-then-eq : goal.returns-then-eq
returns-then-eq c =
    named_here c.args.name.now (texts_of c.args.words.now) (texts_of c.options.rest.now) (texts_of c.in-Some.first.rest.now) c.in-Some.first.name.now c.in-Some.first.value.now c.options.invariant.left c.in-Some.ensures.some (sym c.eq.ensures ∙ c.if-eq.true)

pub options-preserved : goal.options-preserved
options-preserved c = record {
  left = left_less c.args.name.now (texts_of c.args.words.now) (texts_of c.options.rest.now) (texts_of c.in-Some.first.rest.now) c.in-Some.first.name.now c.in-Some.first.value.now c.options.invariant.left c.in-Some.ensures.some (sym c.eq.ensures ∙ c.if-eq.false);
}
