use Rattle.std.proofs.Common.{ap, sym, subst, ◌∙◌, List, ℕ}
use Rattle.std.proofs.lemmas.Result.{err_from_is_err_and}
use Rattle.metadata_objects.specs.LevelData.{Index}
use Rattle.metadata_objects.specs.Reading.{Fails}
use Rattle.metadata_links.specs.Gathering.{index_of}
use Rattle.metadata_links.proofs.Trees.{no_tree, meta_is_no_fetch}
use Rattle.metadata_links.proofs.tree.tree_of.Goals as goal

pub returns-clause-tree : goal.returns-clause-tree
returns-clause-tree c = (ap index_of (sym (c.deref.ensures.value ∙ c.into_parts-texts.ensures.texts)) ∙ c.in_ok-index.ensures, c.into_parts-texts.ensures.resources)

pub returns-in_err-index-clause-tree : goal.returns-in_err-index-clause-tree
returns-in_err-index-clause-tree c =
    let p = err_from_is_err_and c.from_residual.result c.from_residual.ensures.1 in
    rw (p.1, p.2) (no_tree c.args.gathering _ (subst (λ (texts : List (List ℕ)). Fails {B = Index} c.in_err-index.field-0.0 (index_of texts)) (c.deref.ensures.value ∙ c.into_parts-texts.ensures.texts) c.in_err-index.ensures))

pub returns-in_err-index-clause-no_fetch : goal.returns-in_err-index-clause-no_fetch
returns-in_err-index-clause-no_fetch c =
    let p = err_from_is_err_and c.from_residual.result c.from_residual.ensures.1 in
    rw (p.1, p.2) (meta_is_no_fetch _)
