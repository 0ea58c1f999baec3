use Rattle.std.proofs.Common.{arith}
use Rattle.location_acl.proofs.GroupLemmas.{pushed}
use Rattle.location_acl.proofs.groups.Groups.with_group.Goals as goal

pub overflow_mul-result : goal.overflow_mul-result
overflow_mul-result c = omega (arith, (pushed c.args.self.back c.args.self.back_len c.args.group (omega arith) c.requires.bounded.back (omega arith)).1)

pub overflow_add-result : goal.overflow_add-result
overflow_add-result c = omega (arith, (pushed c.args.self.back c.args.self.back_len c.args.group (omega arith) c.requires.bounded.back (omega arith)).1)

pub overflow_mul-result-else-self : goal.overflow_mul-result-else-self
overflow_mul-result-else-self c = omega (arith, (pushed c.args.self.front c.args.self.front_len c.args.group (omega arith) c.requires.bounded.front (omega arith)).1)

pub overflow_add-result-else-self : goal.overflow_add-result-else-self
overflow_add-result-else-self c = omega (arith, (pushed c.args.self.front c.args.self.front_len c.args.group (omega arith) c.requires.bounded.front (omega arith)).1)
