use Rattle.std.proofs.Common.{refl, arith, get_or}
use Rattle.std.specs.Prelude.{nat_le}
use Rattle.targets.specs.declared.byte_class.TheConstants.{CLASSES, DELIMITER}
use Rattle.targets.specs.Grammar.{is_query_byte}
use Rattle.targets.proofs.TableLemmas.{agree_below, agree_at}
use Rattle.targets.proofs.byte_class.is_query_byte.Goals as goal

pub returns : goal.returns
unfolding agree_below
returns c = agree_at (λ byte. nat_le DELIMITER (get_or CLASSES byte 0)) is_query_byte 256 refl c.args.byte (omega arith)
