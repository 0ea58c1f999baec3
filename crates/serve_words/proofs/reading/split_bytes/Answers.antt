use Rattle.std.proofs.Common.{◌∙◌, ◌==◌, rules, refl}
use Rattle.std.proofs.lemmas.Iterator.Consumers.{YieldsList-end}
use Rattle.std.proofs.lemmas.Iterator.Splits.{YieldsList-from_slice_split}
use Rattle.serve_words.proofs.reading.split_bytes.Goals as goal

pub returns : goal.returns
returns c =
    let road = YieldsList-from_slice_split _ (λ x. x == 44) c.args.text.now (search rules) (search rules) refl (λ x b q k. search rules) in
    let whole = YieldsList-end road c.parts.yielded _ c.parts.yielded_by _ _ c.in-None.is c.next.ensures.steps in
    c.parts.invariant.parts ∙ whole.0
