use Rattle.turn_cell.proofs.Rules.{one_order, one_owner, owners_see, tickets_counted, slot_has_longest}
use Rattle.turn_cell.proofs.laws.rule_of_a_cell.Goals as goal

pub returns : goal.returns
returns g c = record {
  one_order = λ passes s r. one_order g.V.Stands.stands passes s r;
  one_owner = λ passes s r. one_owner g.V.Stands.stands passes s r;
  owners_see = λ passes s r. owners_see g.V.Stands.stands passes s r;
  tickets = λ passes s r. tickets_counted g.V.Stands.stands passes s r;
  slot = λ passes s r. slot_has_longest g.V.Stands.stands passes s r;
}
