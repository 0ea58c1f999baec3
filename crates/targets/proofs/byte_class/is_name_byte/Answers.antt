use Rattle.std.proofs.Common.{refl, arith, get_or, ◌==◌}
use Rattle.targets.specs.declared.byte_class.TheConstants.{CLASSES, NAME}
use Rattle.targets.specs.Endpoint.{is_name_byte}
use Rattle.targets.proofs.TableLemmas.{agree_below, agree_at}
use Rattle.targets.proofs.byte_class.is_name_byte.Goals as goal

pub returns : goal.returns
unfolding agree_below
returns c = agree_at (λ byte. get_or CLASSES byte 0 == NAME) is_name_byte 256 refl c.args.byte (omega arith)
