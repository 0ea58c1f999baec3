use Rattle.std.proofs.lemmas.Result.{IfErr-weaker, IfOk-weaker}
use Rattle.serve_words.proofs.MatchingLemmas.{values_found, words_taken}
use Rattle.serve_words.specs.Form.{texts_of}
use Rattle.serve_words.proofs.matching.parse.Goals as goal

pub returns-clause-values : goal.returns-clause-values
returns-clause-values c =
    let parse = c.try_get_matches_from in
    IfOk-weaker parse.result _ _ (λ m has pairs some name. values_found (texts_of c.args.words.now) pairs m _ c.in_ok-command.ensures has some name) parse.ensures.matches

pub returns-clause-refused : goal.returns-clause-refused
returns-clause-refused c =
    let parse = c.try_get_matches_from in
    IfErr-weaker parse.result _ _ (λ error passes some. passes (words_taken (texts_of c.args.words.now) _ c.in_ok-command.ensures some)) parse.ensures.passes
