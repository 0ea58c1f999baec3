-- What came of messages.
use Rattle.std.proofs.Common.{◌≡◌, ℕ, ◌+◌, ◌-◌, ◌^◌, ◌≤◌, ◌<◌, min, Bool, true, false, not, cond, List, [], ◌∷◌, map, filter, refl, sym, ◌∙◌, ap, arith, Option, Some, None}
use Rattle.std.specs.Prelude.{if◌then◌else◌}
use Rattle.std.specs.List.{fold, sum_by}
use Rattle.std.specs.Option.{option_map_or}
use Rattle.std.proofs.lemmas.List.Sums.{sum_by-cons}
use Rattle.indexmap.specs.IndexMap.{values}
use Rattle.client_desk.specs.Parked.{counted, gathered, gathered_by, gathered_for, gathered_in, gathered_without, is_old, is_old_for, is_old_message, left_after}
use Rattle.client_desk.specs.declared.parked.Lot.{Lot}
use Rattle.client_desk.specs.declared.parked.Parked.{Parked}
use Rattle.client_desk.specs.declared.parked.Slot.{Slot}
use Rattle.client_desk.specs.declared.parked.TheConstants.{MESSAGES_MAX}
use Rattle.client_desk.specs.declared.parked.Waiting.{Waiting}
use Rattle.client_desk.specs.declared.parked.Waiting.TheVariants as waiting

step_more : (a b r t most : ℕ) → t ≡ a + r → min (min (b + a) most + r) most ≡ min (b + t) most
step_more a b r t most is = omega (arith, is)

-- a sum that stops at a last number
saturated : (f : Slot → ℕ) (most start : ℕ) (entries : List (ℕ × Slot)) → start ≤ most
    → fold (λ total slot. min (total + f slot) most) start (map (λ entry. entry.1) entries) ≡ min (start + sum_by (λ entry. f entry.1) entries) most
saturated f most start [] within = omega (arith, within)
saturated f most start (entry ∷ entries) within =
    let more = min (start + f entry.1) most in
    saturated f most more entries (omega arith)
    ∙ step_more (f entry.1) start (sum_by (λ e. f e.1) entries) (sum_by (λ e. f e.1) (entry ∷ entries)) most (sum_by-cons (λ e. f e.1) entry entries)

-- of what is left out nothing is added
one_without : (b : Bool) (g : ℕ) → (if b then 0 else g) ≡ cond (not b) g 0
one_without true g = refl
one_without false g = refl

sum_kept : {A : Type 0} (f : A → ℕ) (b : Bool) (x : A) (xs : List A) → sum_by f (cond b (x ∷ xs) xs) ≡ cond b (f x) 0 + sum_by f xs
sum_kept f true x xs = sum_by-cons f x xs
sum_kept f false x xs = omega arith

sum_without : (moment : Option ℕ) (entries : List (ℕ × Slot))
    → sum_by (λ entry. gathered_without moment entry.1) entries ≡ gathered (filter (λ entry. not (is_old moment entry.1)) entries)
sum_without moment [] = refl
sum_without moment (entry ∷ entries) =
    sum_by-cons (λ e. gathered_without moment e.1) entry entries
    ∙ ap (λ n. n + sum_by (λ e. gathered_without moment e.1) entries) (one_without (is_old moment entry.1) (gathered_in entry.1))
    ∙ ap (λ n. cond (not (is_old moment entry.1)) (gathered_in entry.1) 0 + n) (sum_without moment entries)
    ∙ sym (sum_kept (λ e. gathered_in e.1) (not (is_old moment entry.1)) entry (filter (λ e. not (is_old moment e.1)) entries))

below : (total most last count : ℕ) → most + 1 ≤ last → count ≡ min (0 + total) last → count ≤ most → total ≤ most
below total most last count less is within = omega (arith, less, is, within)

-- where so few are counted, there are so few
pub all_within : (lot : Lot) (count : ℕ) → count ≡ counted gathered_in (values lot.slots) → count ≤ MESSAGES_MAX → gathered lot.slots.entries ≤ MESSAGES_MAX
all_within lot count is within =
    below (gathered lot.slots.entries) MESSAGES_MAX (2 ^ 64 - 1) count (omega arith) (is ∙ saturated gathered_in (2 ^ 64 - 1) 0 lot.slots.entries (omega arith)) within

above : (total most last count : ℕ) → count ≡ min (0 + total) last → most + 1 ≤ count → total ≤ most → ⊥
above total most last count is more within = omega (arith, is, more, within)

-- where more are counted, there are more
pub all_above : (lot : Lot) (count : ℕ) → count ≡ counted gathered_in (values lot.slots) → MESSAGES_MAX < count → gathered lot.slots.entries ≤ MESSAGES_MAX → ⊥
all_above lot count is more within =
    above (gathered lot.slots.entries) MESSAGES_MAX (2 ^ 64 - 1) count (is ∙ saturated gathered_in (2 ^ 64 - 1) 0 lot.slots.entries (omega arith)) (omega (arith, more)) within

pub left_within : (lot : Lot) (moment : Option ℕ) (count : ℕ) → count ≡ counted (gathered_without moment) (values lot.slots) → count ≤ MESSAGES_MAX → gathered (left_after moment lot) ≤ MESSAGES_MAX
left_within lot moment count is within =
    below (gathered (left_after moment lot)) MESSAGES_MAX (2 ^ 64 - 1) count (omega arith)
    (is ∙ saturated (gathered_without moment) (2 ^ 64 - 1) 0 lot.slots.entries (omega arith) ∙ ap (λ n. min (0 + n) (2 ^ 64 - 1)) (sum_without moment lot.slots.entries)) within

-- where all messages are closed, nothing is left of them
waiting_none : (w : Waiting) (count born : ℕ) → cond (not (is_old_for w None born)) (gathered_for w count) 0 ≡ 0
waiting_none waiting.Head count born = refl
waiting_none (waiting.Message whole) count born = refl
waiting_none (waiting.End left) count born = refl

parked_none : (p : Option Parked) → cond (not (option_map_or (is_old_message None) p false)) (option_map_or gathered_by p 0) 0 ≡ 0
parked_none None = refl
parked_none (Some parked) = waiting_none parked.waiting _ parked.born

none_more : {a b : ℕ} → a ≡ 0 → b ≡ 0 → a + b ≡ 0
none_more first rest = omega (arith, first, rest)

gathered_none : (entries : List (ℕ × Slot)) → gathered (filter (λ entry. not (is_old None entry.1)) entries) ≡ 0
gathered_none [] = refl
gathered_none (entry ∷ entries) =
    sum_kept (λ e. gathered_in e.1) (not (is_old None entry.1)) entry (filter (λ e. not (is_old None e.1)) entries)
    ∙ none_more (parked_none entry.1.parked) (gathered_none entries)

pub none_within : (lot : Lot) → gathered (left_after None lot) ≤ MESSAGES_MAX
none_within lot = omega (arith, gathered_none lot.slots.entries)
