use Rattle.std.proofs.Common.{[], ◌++◌}
use Rattle.std.proofs.lemmas.Result.{err_from_is_err_and}
use Rattle.upstream_gate.proofs.PlanLemmas.{grows_none, grows_on}
use Rattle.metadata_links.specs.Gathering.{step_to, nothing, root_link}
use Rattle.metadata_links.proofs.Following.{ends_so, no_memory, then_rest, started}
use Rattle.metadata_links.proofs.documents.documents.Goals as goal

pub returns-in_err-link-clause-gathers : goal.returns-in_err-link-clause-gathers
returns-in_err-link-clause-gathers g c =
    let p = err_from_is_err_and c.from_residual.result c.from_residual.ensures.1 in
    rw (p.1, p.2) ([], grows_none _, ends_so (step_to nothing (root_link c.args.root.now)) _ (no_memory (step_to nothing (root_link c.args.root.now))))

pub returns-in_err-follow_one-clause-gathers : goal.returns-in_err-follow_one-clause-gathers
returns-in_err-follow_one-clause-gathers g c =
    let p = err_from_is_err_and c.from_residual-in_err-follow_one.result c.from_residual-in_err-follow_one.ensures.1 in
    let one = c.in_err-follow_one.ensures.follows in
    rw (p.1, p.2) (one.0, one.1, started c.new-gathering.result c.in_ok-link.link c.args.root.now one.0 _ c.new-gathering.ensures c.in_ok-link.ensures one.2)

pub returns-in_err-follow_rest-clause-gathers : goal.returns-in_err-follow_rest-clause-gathers
returns-in_err-follow_rest-clause-gathers g c =
    let p = err_from_is_err_and c.from_residual-in_err-follow_rest.result c.from_residual-in_err-follow_rest.ensures.1 in
    let one = c.in_ok-follow_one.ensures.follows in
    let rest = c.in_err-follow_rest.ensures.reaches in
    rw (p.1, p.2) (
      one.0 ++ rest.0,
      grows_on _ _ _ one.0 rest.0 one.1 rest.1,
      started c.new-gathering.result c.in_ok-link.link c.args.root.now (one.0 ++ rest.0) _ c.new-gathering.ensures c.in_ok-link.ensures (then_rest _ one.0 rest.0 _ c.in_ok-follow_one.field-0 _ one.2 rest.2),
    )

pub returns-clause-gathers : goal.returns-clause-gathers
returns-clause-gathers g c =
    let one = c.in_ok-follow_one.ensures.follows in
    let rest = c.in_ok-follow_rest.ensures.reaches in (
      one.0 ++ rest.0,
      grows_on _ _ _ one.0 rest.0 one.1 rest.1,
      started c.new-gathering.result c.in_ok-link.link c.args.root.now (one.0 ++ rest.0) _ c.new-gathering.ensures c.in_ok-link.ensures (then_rest _ one.0 rest.0 _ c.in_ok-follow_one.field-0 _ one.2 rest.2),
    )
