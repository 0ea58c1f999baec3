-- A plan is not empty where a source that delivers by HTTP/1.1 has an endpoint.
use Rattle.std.proofs.Common.{◌≡◌, ℕ, ◌+◌, ◌<◌, true, List, [], ◌∷◌, ◌++◌, length, drop, get_or, refl, sym, ◌∙◌, ap, arith, add-one, drop-cons, length-append}
use Rattle.targets.specs.declared.endpoint.Endpoint.{Endpoint}
use Rattle.cdni_base.specs.declared.source_item.SourceItem.{SourceItem}
use Rattle.verdict.specs.Plan.{speaks_http, plan_from}

not_nothing : (front back : List Endpoint) → 0 < length front → front ++ back ≡ [] → ⊥
not_nothing front back some none = omega (arith, length-append front back, ap length none)

one_more : (source : SourceItem) (sources : List SourceItem) → speaks_http source ≡ true → plan_from (source ∷ sources) ≡ source.endpoints ++ plan_from sources
unfolding plan_from
one_more source sources speaks = rw speaks refl

pub not_empty : (sources : List SourceItem) (i : ℕ) (source : SourceItem) → i < length sources → source ≡ get_or sources i source
    → speaks_http source ≡ true → 0 < length source.endpoints → plan_from (drop i sources) ≡ [] → ⊥
not_empty sources i source below is speaks some none =
    let here : drop i sources ≡ source ∷ drop (i + 1) sources = rw (drop-cons sources i source below, ← is, add-one i) refl in
    not_nothing source.endpoints (plan_from (drop (i + 1) sources)) some (sym (one_more source (drop (i + 1) sources) speaks) ∙ ap plan_from (sym here) ∙ none)
