use Rattle.std.proofs.Common.{arith, length}
use Rattle.std.proofs.lemmas.Bool.{ltb-true}
use Rattle.http_wire.specs.declared.limits.TheConstants.{FEEDS_MAX}
use Rattle.http_wire.proofs.LimitLemmas.{feeds-le-length}
use Rattle.http_wire.proofs.limits.exceeds_feeds.Goals as goal

pub returns-else-bytes-gt-FEEDS_MAX : goal.returns-else-bytes-gt-FEEDS_MAX
returns-else-bytes-gt-FEEDS_MAX c = (
  λ is. absurd (omega (arith, ltb-true FEEDS_MAX (length c.args.bytes.now) is, c.if-bytes-gt-FEEDS_MAX.false)),
  λ many. absurd (omega (arith, many, feeds-le-length c.args.bytes.now, c.if-bytes-gt-FEEDS_MAX.false)),
)
