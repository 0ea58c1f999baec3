use Rattle.std.proofs.Common.{◌≡◌, ◌∙◌, subst, List}
use Rattle.std.specs.Option.{IfSome}
use Rattle.std.specs.declared.option.Option.{Option}
use Rattle.serve_words.proofs.FormLemmas.{behind}
use Rattle.serve_words.specs.Form.{Pair, pairs_of, texts_of, with_pair}
use Rattle.serve_words.proofs.form.first_option.Goals as goal

pub returns-in-len1-up-clause-some : goal.returns-in-len1-up-clause-some
returns-in-len1-up-clause-some c =
    subst (λ (l : Option (List Pair)). IfSome c.option_at.result (λ first. l ≡ with_pair first.name.now first.value.now (pairs_of (texts_of first.rest.now))))
    (behind c.args.words.now c.word-item.result c.as_bytes.result.now c.in-len1-up.len_at_least c.word-item.is (c.as_bytes.ensures.value ∙ c.as_str.ensures.value)) c.option_at.ensures.some
