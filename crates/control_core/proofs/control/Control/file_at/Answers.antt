use Rattle.std.proofs.Common.{ap, sym, ◌∙◌, get_or, Some}
use Rattle.std.specs.Option.{option_map}
use Rattle.control_core.proofs.FindLemmas.{found_none, found_here}
use Rattle.control_core.specs.Control.{ControlView, has_number}
use Rattle.control_core.specs.declared.control.LogFile.{LogFile}
use Rattle.control_core.proofs.control.Control.file_at.Goals as goal

pub returns-in_ok-read-in-Some-clause-text : goal.returns-in_ok-read-in-Some-clause-text
returns-in_ok-read-in-Some-clause-text c = ap Some (c.in_ok-read-in-Some.ensures.value ∙ ap (λ (file : LogFile). file.text) c.index_mut.ensures.value
    ∙ ap (λ (v : ControlView). (get_or v.files c.in-Some.place c.index_mut.result.now).text) c.self.view_is)
    ∙ sym (ap (option_map (λ (file : LogFile). file.text)) (found_here (has_number c.args.number) c.args.self.now.files c.in-Some.place c.index_mut.result.now (sym c.in-Some.is ∙ c.place_of.ensures.place) c.in-Some.ensures.within))

pub returns-in-None-clause-text : goal.returns-in-None-clause-text
returns-in-None-clause-text c = sym (ap (option_map (λ (file : LogFile). file.text)) (found_none (has_number c.args.number) c.args.self.now.files (sym c.in-None.is ∙ c.place_of.ensures.place)))
