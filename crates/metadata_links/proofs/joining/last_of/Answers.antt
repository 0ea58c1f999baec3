use Rattle.std.proofs.Common.{arith, ap, bytes_eq, sym, ◌∙◌}
use Rattle.metadata_links.proofs.Members.{is_last, is_none, none_in}
use Rattle.metadata_links.proofs.joining.last_of.Goals as goal

pub members-init : goal.members-init
members-init c = record { within = omega arith; none = none_in c.args.name.now c.args.members.now }

pub returns-then-eq-clause-last : goal.returns-then-eq-clause-last
returns-then-eq-clause-last c =
    is_last c.args.name.now c.args.members.now c.members.left c.index-members-left.result (omega (arith, c.members-test.true)) c.members.invariant.within c.members.invariant.none c.index-members-left.is (ap (λ m. bytes_eq m.0.now c.args.name.now) c.index-members-left.is ∙ sym c.eq.ensures ∙ c.if-eq.true)

pub members-preserved : goal.members-preserved
members-preserved c = record {
  within = omega (arith, c.members.invariant.within);
  none = is_none c.args.name.now c.args.members.now c.members.left c.index-members-left.result (omega (arith, c.members-test.true)) c.members.invariant.within c.members.invariant.none c.index-members-left.is (ap (λ m. bytes_eq m.0.now c.args.name.now) c.index-members-left.is ∙ sym c.eq.ensures ∙ c.if-eq.false);
}
