use Rattle.footprints.proofs.SettingsLemmas.{shown}
use Rattle.footprints.proofs.laws.a_footprint_is_cut_behind_its_type.Goals as goal

pub returns : goal.returns
returns c = shown
