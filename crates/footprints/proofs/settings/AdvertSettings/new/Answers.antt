use Rattle.std.proofs.Common.{ap, sym, ◌∙◌, refl, true≢false}
use Rattle.std.specs.List.{list_all}
use Rattle.footprints.specs.Settings.{is_footprint_text}
use Rattle.footprints.proofs.SettingsLemmas.{are_texts, texts_are}
use Rattle.footprints.proofs.settings.AdvertSettings.new.Goals as goal

pub returns-then-not-are_footprints-clause-right :
    goal.returns-then-not-are_footprints-clause-right
returns-then-not-are_footprints-clause-right c = (
  λ is. absurd (true≢false (sym is)),
  λ all. c.if-not-are_footprints.ensures.value ∙ ap (list_all is_footprint_text) c.as_slice.ensures ∙ texts_are c.args.footprints all,
)

pub invariant_of-result : goal.invariant_of-result
invariant_of-result c = are_texts c.args.footprints (sym (c.if-not-are_footprints.ensures.value ∙ ap (list_all is_footprint_text) c.as_slice.ensures))

pub returns-clause-right : goal.returns-clause-right
returns-clause-right c = (λ is. are_texts c.args.footprints (sym (c.if-not-are_footprints.ensures.value ∙ ap (list_all is_footprint_text) c.as_slice.ensures)), λ all. refl)
