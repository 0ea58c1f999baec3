-- Numbers that rise.
use Rattle.std.proofs.Common.{◌≡◌, ℕ, zero, suc, ◌<◌, ◌≤◌, length, get_or, Bool, true, false, cond, List, [], ◌∷◌, ◌++◌, subst, arith}
use Rattle.std.specs.List.{filter, remove}
use Rattle.std.proofs.Math.Nat.{le_of_lt}
use Rattle.trigger_status.specs.declared.job.Filter.{Filter}
use Rattle.history.specs.Steps.{is_listed, listed}
use Rattle.history.specs.World.{Trigger}
use Rattle.trigger_table.specs.Triggers.{IsRising, ids_of}

pub rising_bound : (low high : ℕ) (ids : List ℕ) → IsRising low high ids → low ≤ high
rising_bound low high [] up = up
rising_bound low high (id ∷ ids) up = let later = rising_bound id high ids up.1 in omega (arith, later, up.0)

pub rising_above : (low high : ℕ) (ids : List ℕ) → IsRising low high ids → (k : ℕ) → k < length ids → low < get_or ids k 0
rising_above low high [] up k lt = elim lt [ ]
rising_above low high (id ∷ ids) up zero lt = up.0
rising_above low high (id ∷ ids) up (suc k) lt = let later = rising_above id high ids up.1 k (omega arith) in omega (arith, later, up.0)

pub rising_in_order : (low high : ℕ) (ids : List ℕ) → IsRising low high ids → (i j : ℕ) → i ≤ j → j < length ids → get_or ids i 0 ≤ get_or ids j 0
rising_in_order low high [] up i j le lt = elim lt [ ]
rising_in_order low high (id ∷ ids) up (suc i) zero le lt = elim le [ ]
rising_in_order low high (id ∷ ids) up zero zero le lt = omega arith
rising_in_order low high (id ∷ ids) up zero (suc j) le lt = let later = rising_above id high ids up.1 j (omega arith) in omega (arith, later)
rising_in_order low high (id ∷ ids) up (suc i) (suc j) le lt = rising_in_order id high ids up.1 i j (omega arith) (omega arith)

-- a smaller bound below
pub rising_lower : (low lower high : ℕ) (ids : List ℕ) → IsRising low high ids → lower ≤ low → IsRising lower high ids
rising_lower low lower high [] up le = omega (arith, up)
rising_lower low lower high (id ∷ ids) up le = (omega (arith, up.0), up.1)

pub rising_push : (low high id : ℕ) (ids : List ℕ) → IsRising low high ids → high < id → IsRising low id (ids ++ id ∷ [])
rising_push low high id [] up lt = (omega (arith, up), omega arith)
rising_push low high id (x ∷ ids) up lt = (up.0, rising_push x high id ids up.1 lt)

pub rising_remove : (low high : ℕ) (ids : List ℕ) (i : ℕ) → IsRising low high ids → i < length ids → IsRising low high (remove ids i)
rising_remove low high [] i up lt = elim lt [ ]
rising_remove low high (id ∷ ids) zero up lt = rising_lower id low high ids up.1 (omega (arith, up.0))
rising_remove low high (id ∷ ids) (suc i) up lt = (up.0, rising_remove id high ids i up.1 (omega arith))

pub rising_filter : (test : Trigger → Bool) (low high : ℕ) (ts : List Trigger) → IsRising low high (ids_of ts) → IsRising low high (ids_of (filter test ts))
rising_filter test low high [] up = up
rising_filter test low high (t ∷ ts) up =
    let later = rising_filter test t.job.id high ts up.1 in
    elim (test t) as (λ b. IsRising low high (ids_of (cond b (t ∷ filter test ts) (filter test ts)))) [
      | true ↦ (up.0, later)
      | false ↦ rising_lower t.job.id low high (ids_of (filter test ts)) later (le_of_lt up.0)
    ]

-- the numbers that are listed
pub rising_listed : (by : Filter) (high : ℕ) (ts : List Trigger) (ids : List ℕ) → ids ≡ ids_of ts → IsRising 0 high ids → IsRising 0 high (listed by ts)
rising_listed by high ts ids same up = rising_filter (λ t. is_listed by t.job.status) 0 high ts (subst (IsRising 0 high) same up)
