use Rattle.std.proofs.Common.{◌∙◌, arith, refl, sym}
use Rattle.control_request.proofs.AdvanceLemmas.{begins, falls_short, goes_on, rests}
use Rattle.control_request.proofs.advance.advance_all.Goals as goal

pub steps-init : goal.steps-init
steps-init g c = record {
  who = refl;
  stays = g.met.H.Home.stays_at _;
  so_far = begins c.args.settings.now.root c.args.id _ _ _ _ _;
  later = omega arith;
}

pub steps-preserved : goal.steps-preserved
steps-preserved g c =
    let made = c.in-Goes.ensures in
    record {
      who = made.who ∙ c.steps.invariant.who;
      stays = g.met.H.Home.stays_on _ _ _ c.steps.invariant.stays made.stays;
      so_far = goes_on c.args.settings.now.root c.args.id _ _ _ _ _ _ _ _ _ _ _ _ _ c.steps.invariant.so_far _ c.steps.invariant.who made.does;
      later = omega (arith, c.steps.invariant.later, made.later);
    }

pub returns-in-Rests-clause-does : goal.returns-in-Rests-clause-does
returns-in-Rests-clause-does g c = rests c.args.settings.now.root c.args.id _ _ _ _ _ _ _ _ _ _ _ _ _ c.steps.invariant.so_far _ c.steps.invariant.who c.in-Rests.ensures.does

pub returns-in-Memory-clause-does : goal.returns-in-Memory-clause-does
returns-in-Memory-clause-does g c = falls_short c.args.settings.now.root c.args.id _ _ _ _ _ _ _ _ _ _ _ _ _ c.steps.invariant.so_far _ c.steps.invariant.who c.in-Memory.ensures.does
