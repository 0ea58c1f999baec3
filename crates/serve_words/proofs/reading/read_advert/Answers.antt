use Rattle.std.proofs.Common.{◌∙◌, ap, refl, sym, true≢false, Some}
use Rattle.serve_words.proofs.OptionsLemmas.{advert_none, advert_some}
use Rattle.serve_words.specs.Values.{texts_at}
use Rattle.serve_words.proofs.reading.read_advert.Goals as goal

pub returns-in-Some : goal.returns-in-Some
returns-in-Some c = advert_some (texts_at c.args.values.now) c.in_ok-protocol.protocol c.in_ok-footprints.footprints c.in_ok-fields.fields c.in_ok-protocol.ensures c.in_ok-footprints.ensures c.in_ok-fields.ensures (c.in-Some.ensures.right.0 refl) ∙ ap Some (sym c.in-Some.ensures.parts)

pub returns-in-None : goal.returns-in-None
returns-in-None c = advert_none (texts_at c.args.values.now) c.in_ok-protocol.protocol c.in_ok-footprints.footprints c.in_ok-fields.fields c.in_ok-protocol.ensures c.in_ok-footprints.ensures c.in_ok-fields.ensures (λ all. true≢false (sym (c.in-None.ensures.right.1 all)))
