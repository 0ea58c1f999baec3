use Rattle.std.proofs.Common.{sym, ◌∙◌, arith}
use Rattle.verdict.proofs.Plans.{not_empty}
use Rattle.verdict.proofs.sources.have_no_endpoint.Goals as goal

pub returns-then-len-gt0 : goal.returns-then-len-gt0
returns-then-len-gt0 c = (
  λ is. absurd (cc),
  λ none. absurd (not_empty c.args.sources.now c.sources.source-index c.source-item.result c.sources-test.true c.source-item.is
      (sym c.speaks_http.ensures ∙ c.if-speaks_http.true) (omega (arith, c.len.ensures, c.if-len-gt0.true)) (c.sources.invariant ∙ none)),
)
