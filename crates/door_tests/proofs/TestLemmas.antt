-- A worker in memory that did nothing yet.
use Rattle.std.proofs.Common.{◌≡◌, ℕ, Bool, true, false, List, [], ◌∷◌, ◌++◌, All, refl, sym, ◌∙◌, ap, subst, map}
use Rattle.std.proofs.lemmas.List.Elements.{All-cons, All-nil}
use Rattle.doors.specs.MemoryDoor.{Hall, book_of, given_at, told_if}
use Rattle.doors.specs.MemoryOutside.{IsFresh, MemoryWorker}
use Rattle.doors.proofs.ServedLemmas.{none_passed}
use Rattle.doors.specs.Outside.{HasPassedNothing, IsAllOf}
use Rattle.doors.specs.Served.{HasServedAll}
use Rattle.edge_base.specs.ListClock.{Ticks, first_moments, moments_given}
use Rattle.upstream_gate.specs.MemoryGate.{Answers, told_of}
use Rattle.upstream_gate.specs.declared.outcome.Outcome.{Outcome}

passes_nothing : (hall : Hall) → hall.telling ≡ true → hall.passed ≡ [] → HasPassedNothing (book_of hall)
passes_nothing hall tells passed = subst (λ (b : Bool). HasPassedNothing (told_if b (record { left = map given_at hall.left; passed = hall.passed }))) (sym tells) passed

passes_nothing_if : (telling : Bool) (hall : Hall) → hall.passed ≡ [] → HasPassedNothing (told_if telling (record { left = map given_at hall.left; passed = hall.passed }))
passes_nothing_if true hall passed = passed
passes_nothing_if false hall passed = tt

-- a door in memory that gave none
pub served_nobody : (hall : Hall) → hall.passed ≡ [] → HasServedAll (book_of hall)
served_nobody hall passed = none_passed (book_of hall) (passes_nothing_if hall.telling hall passed)

none_given : (moments : List ℕ) → first_moments moments 0 ≡ []
unfolding first_moments
none_given moments = refl

pub is_fresh : (worker : MemoryWorker) (outcomes : List Outcome) (moments : List ℕ) → worker.door.faults ≡ 0 → worker.door.passed ≡ [] → worker.door.telling ≡ true
    → worker.gate ≡ record { outcomes = outcomes; given = 0; asks = []; telling = true; faults = 0 } → worker.clock ≡ record { moments = moments; calls = 0 } → IsFresh worker
is_fresh worker outcomes moments faults passed tells gate clock = record {
  faults = faults;
  book = passes_nothing worker.door tells passed;
  exchanges = subst (λ (g : Answers). IsAllOf (told_of g) []) (sym gate) refl;
  moments = subst (λ (c : Ticks). IsAllOf (moments_given c) []) (sym clock) (none_given moments);
}

-- the one worker of a list is fresh
pub all_one : (workers old : List MemoryWorker) (worker : MemoryWorker) → workers ≡ old ++ worker ∷ [] → old ≡ [] → IsFresh worker → All IsFresh workers
all_one workers old worker more none fresh = subst (λ (ws : List MemoryWorker). All IsFresh ws) (sym (more ∙ ap (λ (ws : List MemoryWorker). ws ++ worker ∷ []) none)) (All-cons IsFresh worker [] fresh (All-nil IsFresh))
