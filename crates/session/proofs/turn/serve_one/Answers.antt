use Rattle.std.proofs.Common.{[], refl}
use Rattle.session_base.specs.declared.ending.Ending.TheVariants as ending
use Rattle.session.proofs.TurnLemmas.{bad_head, cleared, headed, no_head, short_of_head}
use Rattle.session.proofs.turn.serve_one.Goals as goal

pub returns-in-Head-clause-does : goal.returns-in-Head-clause-does
returns-in-Head-clause-does g c =
    let read = c.in-Head.ensures.bytes in
    headed read.0 _ _ _ _ _ _ _ _ _ _ _ _ _ _ _ _ _ c.args.settings.now c.args.place c.args.last c.serve_head.result read.1 (c.serve_head.ensures.does read.0 read.2)

pub returns-in-Ended-clause-does : goal.returns-in-Ended-clause-does
returns-in-Ended-clause-does g c =
    let read = c.in-Ended.ensures.bytes in
    no_head _ _ _ _ _ _ _ _ _ _ [] c.args.settings.now c.args.place c.args.last ending.Ended (refl, refl) read.0 (read.1, read.2)

pub returns-in-CutShort-clause-does : goal.returns-in-CutShort-clause-does
returns-in-CutShort-clause-does g c =
    let read = c.in-CutShort.ensures.bytes in
    no_head _ _ _ _ _ _ _ _ _ _ c.read_head.new.inbox c.args.settings.now c.args.place c.args.last (ending.CutShort c.in-CutShort.taken) (read.2, refl) (cleared _ _ _ _ _ read.0 c.clear.ensures) (read.1, c.clear.ensures)

pub returns-in-BadHead-clause-does : goal.returns-in-BadHead-clause-does
returns-in-BadHead-clause-does g c =
    let read = c.in-BadHead.ensures.bytes in
    let says = c.refuse_head.ensures.says in
    bad_head _ _ _ _ _ _ _ says.0 _ _ _ _ c.read_head.new.inbox c.args.settings.now c.args.place c.args.last c.in-BadHead.taken c.refuse_head.result says.1 says.2 read.1 (cleared _ _ _ _ _ read.0 c.clear-in-BadHead.ensures)

pub returns-in-ReadFault-clause-does : goal.returns-in-ReadFault-clause-does
returns-in-ReadFault-clause-does g c = no_head _ _ _ _ _ _ _ _ _ _ [] c.args.settings.now c.args.place c.args.last ending.ReadFault refl c.in-ReadFault.ensures.bytes tt

pub returns-in-Memory-clause-does : goal.returns-in-Memory-clause-does
returns-in-Memory-clause-does g c =
    let says = c.fall_short.ensures.says in
    short_of_head _ _ _ _ _ _ _ says.0 _ _ _ _ c.args.settings.now c.args.place c.args.last c.fall_short.result says.1 says.2 c.in-Memory.ensures.bytes
