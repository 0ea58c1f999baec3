use Rattle.std.proofs.Common.{length, decimal, arith, ap, lit<, length-append}
use Rattle.std.proofs.lemmas.Fmt.{length-decimal-le}
use Rattle.cdni_base.specs.Scratch.{Room}
use Rattle.http_node.proofs.note.put_number.Goals as goal

pub unreachable-requires : goal.unreachable-requires
unreachable-requires c =
    let short = length-decimal-le 20 c.args.number (lit< tt) (omega arith) (omega arith) in omega (arith, short, c.if-not-append_number.ensures.0)

pub returns-clause-length : goal.returns-clause-length
returns-clause-length c =
    let short = length-decimal-le 20 c.args.number (lit< tt) (omega arith) (omega arith) in
    omega (arith, short, ap (λ (room : Room). length room.text) c.if-not-append_number.ensures.1, length-append c.args.out.now.text (decimal c.args.number))
