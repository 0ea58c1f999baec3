use Rattle.std.proofs.KnownBytes.{Keeps-refl}
use Rattle.http_node.proofs.AuditLemmas.{told, too_long, unread}
use Rattle.http_node.proofs.audit.audit_input.Goals as goal

pub returns-in-TooLong-clause-ends : goal.returns-in-TooLong-clause-ends
returns-in-TooLong-clause-ends g c =
    let long = c.in-TooLong.ensures.input in
    let held = g.K.Sink.held c.args.output.now in (
      long.0,
      long.1,
      unread _ _ _ _ _ c.refused.ensures,
      too_long long.0 held held c.refused.result 0 long.2 c.refused.ensures (Keeps-refl held),
    )

pub returns-in-ReadFault-clause-ends : goal.returns-in-ReadFault-clause-ends
returns-in-ReadFault-clause-ends g c =
    let some = told (g.S.Source.left c.args.input.now) in
    (some.0, some.1, tt, Keeps-refl (g.K.Sink.held c.args.output.now))

pub returns-in-Memory-clause-ends : goal.returns-in-Memory-clause-ends
returns-in-Memory-clause-ends g c =
    let some = told (g.S.Source.left c.args.input.now) in
    (some.0, some.1, tt, Keeps-refl (g.K.Sink.held c.args.output.now))
