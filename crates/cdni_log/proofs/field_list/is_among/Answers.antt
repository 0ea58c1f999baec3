use Rattle.std.proofs.Common.{rules}
use Rattle.cdni_log.proofs.FieldListLemmas.{among_is}
use Rattle.cdni_log.proofs.field_list.is_among.Goals as goal

pub returns : goal.returns
returns c = among_is c.contains.result c.args.field.now c.args.others.now (search rules)
