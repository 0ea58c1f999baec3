use Rattle.std.proofs.Common.{◌∙◌}
use Rattle.json.specs.Print.{escape_byte}
use Rattle.footprints.proofs.AdvertisementLemmas.{footprint_added, object_of}
use Rattle.footprints.proofs.advertisement.add_footprint.Goals as goal

pub returns : goal.returns
unfolding escape_byte
returns c = footprint_added _ _ _ _ _ _ _ c.type_and_value.result.0.now c.type_and_value.result.1.now c.args.later c.in_ok-add_comma.ensures c.in_ok-extend_from_slice.ensures.items c.in_ok-add_quoted.ensures c.in_ok-extend_from_slice-2.ensures.items
    c.in_ok-add_quoted-2.ensures c.in_ok-extend_from_slice-3.ensures.items ∙ object_of _ c.args.later c.args.text.now (c.type_and_value.result.0.now, c.type_and_value.result.1.now) c.type_and_value.ensures
