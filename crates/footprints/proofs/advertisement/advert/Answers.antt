use Rattle.std.proofs.Common.{ℕ, List, ap, ◌∙◌}
use Rattle.json.specs.Print.{escape_byte}
use Rattle.serde_json.specs.Written.{compact_text}
use Rattle.cdni_log.specs.declared.field.Field.{Field}
use Rattle.footprints.specs.Advertisement.{advert_data}
use Rattle.footprints.proofs.AdvertisementLemmas.{whole_added}
use Rattle.footprints.proofs.advertisement.advert.Goals as goal

pub returns : goal.returns
unfolding escape_byte
returns c = c.from_vec.ensures ∙ whole_added (record { protocol = c.settings.inside.protocol; footprints = c.as_slice-footprints.result.now; fields = c.as_slice.result.now }) _ _ _ _ _ _ c.in_ok-out.ensures.items
    c.in_ok-add_capability.ensures c.in_ok-add_capability-2.ensures c.in_ok-add_logging.ensures c.in_ok-add_capability-3.ensures c.in_ok-extend_from_slice.ensures.items
    ∙ ap (λ (footprints : List (List ℕ)). compact_text (advert_data (record { protocol = c.settings.inside.protocol; footprints = footprints; fields = c.as_slice.result.now }))) c.as_slice-footprints.ensures
    ∙ ap (λ (fields : List Field). compact_text (advert_data (record { protocol = c.settings.inside.protocol; footprints = c.settings.inside.footprints; fields = fields }))) c.as_slice.ensures
    ∙ ap (λ parts. compact_text (advert_data parts)) c.settings.view_is
