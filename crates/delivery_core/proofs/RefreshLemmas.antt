-- The open refreshes, and the starts that are kept for them.
use Rattle.std.proofs.Common.{◌≡◌, ℕ, ◌+◌, ◌-◌, ◌≤◌, Bool, true, false, cond, List, [], ◌∷◌, ◌++◌, drop, length, map, Some, refl, ap, ◌∙◌, arith}
use Rattle.std.specs.List.{filter, find, list_any, slice_get}
use Rattle.std.specs.Option.{option_map}
use Rattle.std.proofs.lemmas.List.{append-nil, at_drop_more, drop-append-le, drop-drop}
use Rattle.std.proofs.lemmas.Option.{get_or_from_slice_get, none-some, slice_get_within}
use Rattle.cdni_base.specs.Key.{KeyParts}
use Rattle.trigger_command.specs.Selection.{hits_metadata}
use Rattle.delivery_core.specs.Refreshes.{AreBetween, Refreshing, RefreshesView, first_noted, least_place, with_since, with_starts}
use Rattle.shelf.specs.declared.open.Open.{Open}
use Rattle.delivery_core.specs.declared.refreshes.Noted.{Noted}
use Rattle.delivery_core.specs.declared.refreshes.Placed.{Placed}

-- ---- places

pub between_low : (low high : ℕ) (all : List (Open Placed)) → AreBetween low high all → low ≤ high
between_low low high [] b = b
between_low low high (one ∷ all) b = let rest = between_low one.what.place high all b.1 in omega (arith, b.0, rest)

pub between_lower : (lower low high : ℕ) (all : List (Open Placed)) → AreBetween low high all → lower ≤ low → AreBetween lower high all
between_lower lower low high [] b l = omega (arith, b, l)
between_lower lower low high (one ∷ all) b l = (omega (arith, b.0, l), b.1)

pub between_higher : (low high higher : ℕ) (all : List (Open Placed)) → AreBetween low high all → high ≤ higher → AreBetween low higher all
between_higher low high higher [] b h = omega (arith, b, h)
between_higher low high higher (one ∷ all) b h = (b.0, between_higher one.what.place high higher all b.1 h)

pub between_push : (low high : ℕ) (all : List (Open Placed)) (one : Open Placed) → AreBetween low high all → one.what.place ≡ high → AreBetween low high (all ++ one ∷ [])
between_push low high [] one b is = (omega (arith, b, is), omega (arith, is))
between_push low high (x ∷ all) one b is = (b.0, between_push x.what.place high all one b.1 is)

pub between_filter : (test : Open Placed → Bool) (low high : ℕ) (all : List (Open Placed)) → AreBetween low high all → AreBetween low high (filter test all)
between_filter test low high [] b = b
between_filter test low high (one ∷ all) b = elim (test one) as (λ t. AreBetween low high (cond t (one ∷ filter test all) (filter test all))) [
  | true ↦ (b.0, between_filter test one.what.place high all b.1)
  | false ↦ between_lower low one.what.place high (filter test all) (between_filter test one.what.place high all b.1) b.0
]

pub between_found : (test : Open Placed → Bool) (low high : ℕ) (all : List (Open Placed)) (one : Open Placed) → AreBetween low high all → find test all ≡ Some one
    → (low ≤ one.what.place) × (one.what.place ≤ high)
between_found test low high [] one b is = absurd (none-some one is)
between_found test low high (x ∷ all) one b is = found_by (test x) is (between_found test x.what.place high all one b.1) (between_low x.what.place high all b.1)
  where
    found_by : (t : Bool) → cond t (Some x) (find test all) ≡ Some one → (find test all ≡ Some one → (x.what.place ≤ one.what.place) × (one.what.place ≤ high))
        → x.what.place ≤ high → (low ≤ one.what.place) × (one.what.place ≤ high)
    found_by true this rest top =
        let same : x ≡ one = cc in
        let place = ap (λ (y : Open Placed). y.what.place) same in
        (omega (arith, place, b.0), omega (arith, place, top))
    found_by false this rest top = let r = rest this in (omega (arith, r.0, b.0), r.1)

-- the least place is one from which all are on
pub between_least : (low high : ℕ) (all : List (Open Placed)) → AreBetween low high all → AreBetween (least_place high all) high all
between_least low high [] b = omega arith
between_least low high (one ∷ all) b = (omega arith, b.1)

pub least_within : (low high : ℕ) (all : List (Open Placed)) → AreBetween low high all → (low ≤ least_place high all) × (least_place high all ≤ high)
least_within low high [] b = (b, omega arith)
least_within low high (one ∷ all) b = (b.0, between_low one.what.place high all b.1)

-- ---- the starts since

since_is : (one : Open Placed) (since more : List Noted) → since ≡ more
    → ◌≡◌ {A = Open Refreshing} (record { number = one.number; pass = one.pass; what = record { moment = one.what.moment; since = since } }) (record { number = one.number; pass = one.pass; what = record { moment = one.what.moment; since = more } })
since_is one since more is = ap (λ (s : List Noted). record { number = one.number; pass = one.pass; what = record { moment = one.what.moment; since = s } }) is

cons_is : {A : Type 0} {x y : A} {xs ys : List A} → x ≡ y → xs ≡ ys → x ∷ xs ≡ y ∷ ys
cons_is p q i = p i ∷ q i

-- starts that are kept more are more for each open refresh
pub with_since_more : (low high first : ℕ) (starts more : List Noted) (all : List (Open Placed)) → AreBetween low high all → first ≤ low → high ≤ first + length starts
    → map (with_since first (starts ++ more)) all ≡ map (with_starts more) (map (with_since first starts) all)
with_since_more low high first starts more [] b l h = refl
with_since_more low high first starts more (one ∷ all) b l h =
    let top = between_low one.what.place high all b.1 in
    let within : one.what.place - first ≤ length starts = omega (arith, top, h, l, b.0) in
    cons_is (since_is one _ _ (drop-append-le (one.what.place - first) starts more within))
    (with_since_more one.what.place high first starts more all b.1 (omega (arith, l, b.0)) h)

-- those before all open refreshes are not missed
pub with_since_later : (low high first least : ℕ) (starts : List Noted) (all : List (Open Placed)) → AreBetween low high all → first ≤ least → least ≤ low
    → map (with_since least (drop (least - first) starts)) all ≡ map (with_since first starts) all
with_since_later low high first least starts [] b f l = refl
with_since_later low high first least starts (one ∷ all) b f l =
    let steps : (least - first) + (one.what.place - least) ≡ one.what.place - first = omega (arith, f, l, b.0) in
    cons_is (since_is one _ _ (drop-drop (one.what.place - least) (least - first) starts ∙ ap (λ n. drop n starts) steps))
    (with_since_later one.what.place high first least starts all b.1 f (omega (arith, l, b.0)))

-- ---- the first start that hits

drop_next : (starts : List Noted) (i : ℕ) (start : Noted) → slice_get starts i ≡ Some start → drop i starts ≡ start ∷ drop (i + 1) starts
drop_next starts i start is =
    at_drop_more (λ rest. rest) starts i start (slice_get_within starts i start is) ∙ ap (λ x. x ∷ drop (i + 1) starts) (get_or_from_slice_get starts i start start is)

module _ (resources : List KeyParts) (starts : List Noted) (i : ℕ) (start : Noted) (is : slice_get starts i ≡ Some start) where
  noted_by : (t : Bool) → list_any (hits_metadata start.selection) resources ≡ t
      → first_noted resources (drop i starts) ≡ option_map (λ (n : Noted). n.trigger) (cond t (Some start) (find (λ (n : Noted). list_any (hits_metadata n.selection) resources) (drop (i + 1) starts)))
  noted_by t hit =
      ap (first_noted resources) (drop_next starts i start is)
      ∙ ap (λ (b : Bool). option_map (λ (n : Noted). n.trigger) (cond b (Some start) (find (λ (n : Noted). list_any (hits_metadata n.selection) resources) (drop (i + 1) starts)))) hit

  pub noted_hit : list_any (hits_metadata start.selection) resources ≡ true → first_noted resources (drop i starts) ≡ Some start.trigger
  noted_hit = noted_by true

  pub noted_miss : list_any (hits_metadata start.selection) resources ≡ false → first_noted resources (drop i starts) ≡ first_noted resources (drop (i + 1) starts)
  noted_miss = noted_by false

-- ---- the whole

abbrev pub refreshes : List (Open Refreshing) → ℕ → ℕ → ℕ → RefreshesView
refreshes all refreshed started spare = record { refreshes = all; refreshed = refreshed; started = started; spare = spare }

pub with_no_starts : (all : List (Open Refreshing)) → map (with_starts []) all ≡ all
with_no_starts [] = refl
with_no_starts (one ∷ all) =
    cons_is (ap (λ (since : List Noted). record one { what = record one.what { since = since } }) (append-nil one.what.since)) (with_no_starts all)
