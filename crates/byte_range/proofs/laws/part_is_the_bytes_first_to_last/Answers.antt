use Rattle.byte_range.proofs.SpanLemmas.{len_of_part, byte_of_part}
use Rattle.byte_range.proofs.laws.part_is_the_bytes_first_to_last.Goals as goal

pub returns-clause-len : goal.returns-clause-len
returns-clause-len c = len_of_part

pub returns-clause-bytes : goal.returns-clause-bytes
returns-clause-bytes c = byte_of_part
