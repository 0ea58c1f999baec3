use Rattle.std.proofs.Common.{◌∙◌, sym, true}
use Rattle.serve_words.proofs.FormLemmas.{ill_first, well_first}
use Rattle.serve_words.specs.Form.{texts_of}
use Rattle.serve_words.proofs.form.+are_options.Goals as goal

pub returns-then-is_well : goal.returns-then-is_well
returns-then-is_well t c =
    well_first (texts_of c.args.words.now) (texts_of c.in-Some.first.rest.now) c.in-Some.first.name.now c.in-Some.first.value.now c.in-Some.ensures.some true c.are_options.result (λ pairs is. sym c.if-is_well.true ∙ c.is_well.ensures pairs is) c.are_options.ensures

pub returns-else-is_well : goal.returns-else-is_well
returns-else-is_well t c =
    c.if-is_well.false ∙ ill_first (texts_of c.args.words.now) (texts_of c.in-Some.first.rest.now) c.in-Some.first.name.now c.in-Some.first.value.now c.in-Some.ensures.some (λ pairs is. sym c.if-is_well.false ∙ c.is_well.ensures pairs is)
