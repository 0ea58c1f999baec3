use Rattle.location_acl.proofs.LineLemmas.{one_list, one_stop, lines_or_stop}
use Rattle.location_acl.proofs.laws.text_has_one_place_file.Goals as goal

pub returns : goal.returns
returns c = record { lines = one_list; stop = one_stop; never_both = lines_or_stop }
