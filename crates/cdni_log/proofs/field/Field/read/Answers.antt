use Rattle.cdni_log.proofs.NameLemmas.{named_of}
use Rattle.cdni_log.proofs.field.Field.read.Goals as goal

pub returns-clause-named : goal.returns-clause-named
returns-clause-named c = named_of c.field_in.result c.args.text.now c.field_in.ensures c.a_text_names_one_field.ensures
