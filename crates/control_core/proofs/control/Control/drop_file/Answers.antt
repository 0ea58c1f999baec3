use Rattle.std.proofs.Common.{rules, refl, not}
use Rattle.std.proofs.lemmas.Fn.{filter_same}
use Rattle.control_core.specs.Control.{has_number}
use Rattle.control_core.proofs.control.Control.drop_file.Goals as goal

pub returns-clause-after : goal.returns-clause-after
returns-clause-after c = rw (← c.self.view_is, filter_same _ (λ file. not (has_number c.args.number file)) _ (λ x b f' k. search rules) _ _ c.retain.ensures.filtered) refl
