use Rattle.std.proofs.Common.{sym, ap, ◌++◌, ◌∙◌}
use Rattle.http_wire.proofs.BodyLemmas.{is_whole}
use Rattle.http_wire.proofs.body.read_length.Goals as goal

pub returns-in-Whole-clause-found : goal.returns-in-Whole-clause-found
returns-in-Whole-clause-found g c text rest long come =
    let read = c.in-Whole.ensures.bytes in
    c.from_vec.ensures ∙ read.1.grown ∙ ap (λ x. x ++ read.0) c.new-text.ensures.items ∙ is_whole _ _ _ _ read.0 text rest read.1.moves (read.2 ∙ sym long) come
