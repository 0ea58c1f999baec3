use Rattle.std.proofs.Common.{arith}
use Rattle.std.proofs.lemmas.Grind.{common_steps}
use Rattle.serde_json.specs.Data.{string}
use Rattle.trigger_status.proofs.ItemLemmas.{list_added}
use Rattle.trigger_status.proofs.items.add_text_list.Goals as goal

pub returns : goal.returns
returns c = list_added string c.args.texts.now _ _ _ c.args.name.now c.args.later (grind (arith, common_steps)) c.in_ok-add_name.ensures c.in_ok-add_texts.ensures
