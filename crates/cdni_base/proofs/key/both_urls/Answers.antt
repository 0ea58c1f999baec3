use Rattle.std.proofs.Common.{◌∙◌, ap, ℕ, List, [], ◌∷◌, ◌++◌}
use Rattle.targets.specs.Target.{port_text, query_text}
use Rattle.cdni_base.proofs.KeyLemmas.{copied_behind}
use Rattle.cdni_base.proofs.key.both_urls.Goals as goal

pub returns-clause-https : goal.returns-clause-https
returns-clause-https c =
    let rest : List ℕ = 58 ∷ 47 ∷ 47 ∷ (c.args.target.now.host ++ port_text c.args.target.now.port ++ c.args.target.now.path ++ query_text c.args.query.now) in
    copied_behind rest (104 ∷ 116 ∷ 116 ∷ 112 ∷ 115 ∷ []) _ _ _ _ (c.len-secure_from.ensures ∙ c.add_url.new.url.ok.0) (c.in_ok-add_url.ensures ∙ ap (λ (x : List ℕ). x ++ 104 ∷ 116 ∷ 116 ∷ 112 ∷ rest) c.in_ok-urls.ensures.items) c.in_ok-extend_from_slice.ensures.items c.in_ok-extend_from_within.ensures.items
