-- What the words of `serve` say.
use Rattle.std.proofs.Common.{◌≡◌, Bool, true, false, List, ℕ, All, None, Some, is_some, refl, ap, subst}
use Rattle.std.specs.List.{list_all}
use Rattle.std.specs.declared.option.Option.{Option}
use Rattle.cdni_log.specs.declared.field.Field.{Field}
use Rattle.footprints.proofs.SettingsLemmas.{are_texts, texts_are}
use Rattle.footprints.specs.Settings.{IsFootprintText, is_footprint_text}
use Rattle.targets.specs.declared.target.Protocol.{Protocol}
use Rattle.std.specs.Prelude.{String}
use Rattle.std.specs.declared.alloc.Global.{Global}
use Rattle.listing.specs.Word.{◌>>=◌}
use Rattle.serve_words.proofs.FormLemmas.{not_pairs}
use Rattle.serve_words.specs.Form.{Pair, command_pairs, texts_of}
use Rattle.serve_words.specs.Options.{advert_at, advert_of, fields_in, options_in, options_of, parts_in, protocol_of, said_or}
use Rattle.serve_words.specs.Values.{ValueTexts, values_of}
use Rattle.targets.specs.declared.target.Protocol.TheVariants.{Http}

-- footprints that are ones are said under the protocol
pub advert_said : (protocol : Protocol) (footprints : List (List ℕ)) (fields : List Field) → All IsFootprintText footprints → advert_at protocol footprints fields ≡ Some (record { protocol = protocol; footprints = footprints; fields = fields })
unfolding advert_at
advert_said protocol footprints fields all = rw (texts_are footprints all) refl

-- others are not
pub advert_unsaid : (protocol : Protocol) (footprints : List (List ℕ)) (fields : List Field) → (All IsFootprintText footprints → ⊥) → advert_at protocol footprints fields ≡ None
unfolding advert_at
advert_unsaid protocol footprints fields none = by (list_all is_footprint_text footprints) refl
  where
    by : (t : Bool) → list_all is_footprint_text footprints ≡ t → advert_at protocol footprints fields ≡ None
    by true is = absurd (none (are_texts footprints is))
    by false is = rw is refl

pub advert_some : (v : ValueTexts) (protocol : Protocol) (footprints : List (List ℕ)) (fields : List Field) → said_or protocol_of Http v.protocol ≡ Some protocol → footprints ≡ parts_in v.footprints → fields_in v.log_fields ≡ Some fields → All IsFootprintText footprints
    → advert_of v ≡ Some (record { protocol = protocol; footprints = footprints; fields = fields })
unfolding advert_of
advert_some v protocol footprints fields p f l all =
    rw (p, l) (subst (λ (t : List (List ℕ)). advert_at protocol t fields ≡ Some (record { protocol = protocol; footprints = footprints; fields = fields })) f (advert_said protocol footprints fields all))

pub advert_none : (v : ValueTexts) (protocol : Protocol) (footprints : List (List ℕ)) (fields : List Field) → said_or protocol_of Http v.protocol ≡ Some protocol → footprints ≡ parts_in v.footprints → fields_in v.log_fields ≡ Some fields → (All IsFootprintText footprints → ⊥) → advert_of v ≡ None
unfolding advert_of
advert_none v protocol footprints fields p f l none = rw (p, l) (subst (λ (t : List (List ℕ)). advert_at protocol t fields ≡ None) f (advert_unsaid protocol footprints fields none))

-- words that are not in the form say nothing
pub says_nothing : (words : List (String Global)) → is_some (command_pairs (texts_of words)) ≡ false → options_of words ≡ None
says_nothing words is = ap (λ (found : Option (List Pair)). found >>= (λ pairs. options_in (values_of pairs))) (not_pairs (command_pairs (texts_of words)) is)
