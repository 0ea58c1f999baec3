use Rattle.std.proofs.Common.{◌+◌, sym, ◌∙◌, arith}
use Rattle.std.proofs.lemmas.List.{take_rest}
use Rattle.pattern_match.specs.Units.{units}
use Rattle.pattern_match.specs.Matching.{tokens_match}
use Rattle.pattern_match.proofs.WalkLemmas.{resumes_at, remembers, ends_with_any, takes_unit, matches_nothing, goes_back, ends, behind_more}
use Rattle.pattern_match.proofs.walk.walk.Goals as goal

pub returns-then-next-tokens : goal.returns-then-next-tokens
returns-then-next-tokens c =
    let whole = tokens_match c.args.case_sensitive c.args.tokens.now (units c.args.text.now) in
    ends_with_any whole c.args.case_sensitive c.args.tokens.now c.args.text.now (c.walk.next + 1) c.walk.at c.if-next-tokens.true (remembers whole c.args.case_sensitive c.args.tokens.now c.args.text.now c.walk.next c.walk.at c.walk.retry _ (sym c.in-Remember.ensures.step) c.walk.invariant.stands)

pub walk-preserved-in-Remember : goal.walk-preserved-in-Remember
walk-preserved-in-Remember c =
    let whole = tokens_match c.args.case_sensitive c.args.tokens.now (units c.args.text.now) in
    record {
      tokens_left = omega (arith, c.in-Remember.ensures.token);
      text_left = c.walk.invariant.text_left;
      behind = (omega arith, omega arith);
      stands = resumes_at whole c.args.case_sensitive _ _ (remembers whole c.args.case_sensitive c.args.tokens.now c.args.text.now c.walk.next c.walk.at c.walk.retry _ (sym c.in-Remember.ensures.step) c.walk.invariant.stands);
    }

pub walk-preserved-in-Take : goal.walk-preserved-in-Take
walk-preserved-in-Take c =
    let whole = tokens_match c.args.case_sensitive c.args.tokens.now (units c.args.text.now) in
    let first = rw (← c.len-at.ensures) at c.unit_at-unit.ensures.first in
    record {
      tokens_left = omega (arith, c.in-Take.ensures.token);
      text_left = omega (arith, c.unit_at-unit.ensures.within, c.len-at.ensures);
      behind = behind_more c.walk.next c.walk.at _ _ c.walk.retry (omega arith) (omega arith) c.walk.invariant.behind;
      stands = takes_unit whole c.args.case_sensitive c.args.tokens.now c.args.text.now c.walk.next c.walk.at (c.walk.at + c.len-at.result) c.walk.retry c.unit_at-unit.result first (sym c.in-Take.ensures.step) c.walk.invariant.stands;
    }

pub returns-in_default : goal.returns-in_default
returns-in_default c =
    let whole = tokens_match c.args.case_sensitive c.args.tokens.now (units c.args.text.now) in
    let stands = rw c.in_default.is at c.walk.invariant.stands in
    sym (stands ∙ matches_nothing whole c.args.case_sensitive c.args.tokens.now c.args.text.now c.walk.next c.walk.at _ c.unit_at-unit.result c.unit_at-unit.ensures.first (sym c.in-Fail.ensures.step))

pub walk-preserved : goal.walk-preserved
walk-preserved c =
    let whole = tokens_match c.args.case_sensitive c.args.tokens.now (units c.args.text.now) in
    let stands = rw c.in-Some.is at c.walk.invariant.stands in
    let behind = rw c.in-Some.is at c.walk.invariant.behind in
    let first = rw (← c.len.ensures) at c.unit_at.ensures.first in
    record {
      tokens_left = omega (arith, behind.0, c.walk.invariant.tokens_left);
      text_left = omega (arith, c.unit_at.ensures.within, c.len.ensures);
      behind = (omega arith, omega arith);
      stands = goes_back whole c.args.case_sensitive c.args.tokens.now c.args.text.now c.walk.next c.walk.at (c.in-Some.last.at + c.len.result) c.in-Some.last c.unit_at.result first (matches_nothing whole c.args.case_sensitive c.args.tokens.now c.args.text.now c.walk.next c.walk.at _ c.unit_at-unit.result c.unit_at-unit.ensures.first (sym c.in-Fail.ensures.step)) stands;
    }

pub returns : goal.returns
returns c =
    let whole = tokens_match c.args.case_sensitive c.args.tokens.now (units c.args.text.now) in
    rw (c.all_any.ensures, take_rest) (ends whole c.args.case_sensitive c.args.tokens.now c.args.text.now c.walk.next c.walk.at c.walk.retry c.walk-test.false c.walk.invariant.stands)
