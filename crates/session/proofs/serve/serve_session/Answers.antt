use Rattle.std.proofs.Common.{◌∙◌, arith, refl, sym}
use Rattle.session.proofs.SessionLemmas.{begins, goes_on, no_room, stops, used_up}
use Rattle.session.proofs.serve.serve_session.Goals as goal

pub turns-init : goal.turns-init
turns-init g c = record {
  who = refl;
  stays = g.met.H.Home.stays_at _;
  so_far = begins c.args.settings.now c.args.peer.now.place _ _ _ _ _ _ _ c.in-Ok.inbox c.in-Ok.ensures;
  write_later = omega arith;
  read_later = omega arith;
}

pub turns-preserved : goal.turns-preserved
turns-preserved g c =
    let turn = c.in-GoesOn-serve_one.ensures in
    record {
      who = turn.who ∙ c.turns.invariant.who;
      stays = g.met.H.Home.stays_on _ _ _ c.turns.invariant.stays turn.stays;
      so_far = goes_on c.args.settings.now c.args.peer.now.place c.turns.turn _ _ _ _ _ _ _ _ _ _ _ _ _ _ _ _ _ _ _ _ _ _ c.turns.invariant.so_far refl (omega (arith, c.turns-test.true, c.turns.auto.turn-end)) _ c.turns.invariant.who turn.does;
      write_later = omega (arith, c.turns.invariant.write_later, turn.later);
      read_later = omega (arith, c.turns.invariant.read_later, turn.read_later);
    }

pub returns-clause-session : goal.returns-clause-session
returns-clause-session g c =
    used_up c.args.settings.now c.args.peer.now.place c.turns.turn _ _ _ _ _ _ _ _ _ _ _ _ _ _ c.turns.invariant.so_far (omega (arith, c.turns-test.false, c.turns.auto.turn-end))

pub returns-clause-law : goal.returns-clause-law
returns-clause-law g c = λ h saw at entry answer a. c.every_answer_is_lawful.ensures _ a.before entry.0 entry.1 answer (sym a.answered)

pub returns-in_default-clause-session : goal.returns-in_default-clause-session
returns-in_default-clause-session g c =
    let says = c.fall_short.ensures.says in
    no_room c.args.settings.now c.args.peer.now.place _ _ _ _ _ _ _ _ says.0 _ says.1 (sym c.in-Stops.is ∙ says.2)

pub returns-in_default-clause-law : goal.returns-in_default-clause-law
returns-in_default-clause-law g c = λ h saw at entry answer a. c.every_answer_is_lawful.ensures _ a.before entry.0 entry.1 answer (sym a.answered)

pub returns-in-Stops-serve_one-clause-session : goal.returns-in-Stops-serve_one-clause-session
returns-in-Stops-serve_one-clause-session g c =
    stops c.args.settings.now c.args.peer.now.place c.turns.turn _ _ _ _ _ _ _ _ _ _ _ _ _ _ _ _ _ _ _ _ _ _ _ c.turns.invariant.so_far refl (omega (arith, c.turns-test.true, c.turns.auto.turn-end)) _ c.turns.invariant.who c.in-Stops-serve_one.ensures.does

pub returns-in-Stops-serve_one-clause-law : goal.returns-in-Stops-serve_one-clause-law
returns-in-Stops-serve_one-clause-law g c = λ h saw at entry answer a. c.every_answer_is_lawful.ensures _ a.before entry.0 entry.1 answer (sym a.answered)
