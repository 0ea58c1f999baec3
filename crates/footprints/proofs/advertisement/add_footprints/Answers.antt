use Rattle.std.proofs.Common.{arith}
use Rattle.std.proofs.lemmas.Grind.{common_steps}
use Rattle.json.specs.Print.{escape_byte}
use Rattle.footprints.proofs.AdvertisementLemmas.{some_added}
use Rattle.footprints.proofs.advertisement.add_footprints.Goals as goal

pub returns : goal.returns
unfolding escape_byte
returns c = some_added _ _ _ _ c.args.footprints.now (grind (arith, common_steps)) c.in_ok-extend_from_slice.ensures.items c.in_ok-add_footprint_items.ensures c.in_ok-extend_from_slice-2.ensures.items
