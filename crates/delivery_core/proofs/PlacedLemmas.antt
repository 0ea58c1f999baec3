-- What a history leaves is at positions of its own.
use Rattle.std.proofs.Common.{◌≡◌, ℕ, ◌≤◌, Bool, true, false, cond, List, [], ◌∷◌, ◌++◌, All, None, Some, Option, refl, sym, subst, append_assoc, arith}
use Rattle.std.specs.List.{filter, find}
use Rattle.std.specs.Option.{option_and_then, option_map_or, option_to_list}
use Rattle.std.proofs.lemmas.List.Elements.{All-append, All-filter, All-head, All-nil, All-push, All-tail, All-weaker}
use Rattle.std.proofs.lemmas.List.{append-nil}
use Rattle.std.proofs.lemmas.Option.{none-some}
use Rattle.metadata_objects.specs.Tree.{TreeData}
use Rattle.trigger_command.specs.declared.spec.TriggerKind.{TriggerKind}
use Rattle.trigger_command.specs.declared.spec.TriggerKind.TheVariants.{Preposition, Invalidate, Purge}
use Rattle.history.proofs.Cases.{admit_cases, advance_cases, begin_cases, refresh_end_cases}
use Rattle.history.proofs.Words.{world_none, world_push}
use Rattle.history.specs.After.{after, after_reply, fetches_after, installed_by, position, refreshes_after, start_by, start_of, starts_after, tree_after}
use Rattle.history.specs.Event.{Entry, History, Admit, FetchEnd, Finish, RefreshBegin, RefreshEnd, Command, Advance, Cancel, Delete, ReadStatus, Lists, Cut, LogFile, ListLogs, DropLog}
use Rattle.history.specs.History.{world_of}
use Rattle.history.specs.Reply.{reply_in}
use Rattle.history.specs.Steps.{trigger_of}
use Rattle.history.specs.World.{Begun, Installed, Made, Start, Trigger, World, is_open, nothing}
use Rattle.history.specs.declared.begun.Fetching.{Fetching}
use Rattle.history.specs.declared.reply.Reply.{Reply}
use Rattle.delivery_core.specs.Traces.{IsPlaced}

-- what is found in a list is as all of it
found_of_all : {A : Type 0} (P : A → Type 0) (test : A → Bool) (xs : List A) (x : A) → All P xs → find test xs ≡ Some x → P x
found_of_all P test [] x all is = absurd (none-some x is)
found_of_all P test (y ∷ ys) x all is = found_by (test y) is (All-head P y ys all) (found_of_all P test ys x (All-tail P y ys all))
  where
    found_by : (t : Bool) → cond t (Some y) (find test ys) ≡ Some x → P y → (find test ys ≡ Some x → P x) → P x
    found_by true this here rest = let same : y ≡ x = cc in subst P same here
    found_by false this here rest = rest this

module _ (w : World) (placed : IsPlaced w) where
  abbrev Placed : {A : Type 0} → Begun A → Type 0
  Placed begun = begun.at ≤ position w

  later : {A : Type 0} (xs : List (Begun A)) → All (λ begun. begun.at ≤ w.entries) xs → All Placed xs
  later xs all = All-weaker (λ begun. begun.at ≤ w.entries) Placed (λ begun at. omega (arith, at)) xs all

  -- ---- fetches

  abbrev fetches : List (Begun Fetching)
  fetches = w.delivering.fetches

  abbrev old_fetches : All Placed fetches
  old_fetches = later fetches placed.fetches

  abbrev Fetches : Entry → Reply → Type 0
  Fetches e r = All Placed (fetches_after w e r)

  fetches_placed : (e : Entry) → Fetches e (reply_in w e)
  fetches_placed (pass, Admit request moment) = admit_cases w pass request moment (Fetches (pass, Admit request moment))
      (λ n. old_fetches) (λ rule. old_fetches) (λ kept is. old_fetches) (λ is. All-push Placed fetches _ old_fetches (omega arith))
  fetches_placed (pass, FetchEnd fetch outcome moment) = All-filter _ Placed fetches old_fetches
  fetches_placed (pass, Advance id moment) = advance_cases w pass (Fetches (pass, Advance id moment))
      (λ n. old_fetches) (λ status. old_fetches) (λ by. old_fetches) (λ n. old_fetches) old_fetches old_fetches (λ n. old_fetches)
      (λ target. All-push Placed fetches _ old_fetches (omega arith)) id moment old_fetches
  fetches_placed (pass, Finish delivery status total entity moment) = old_fetches
  fetches_placed (pass, RefreshBegin moment) = old_fetches
  fetches_placed (pass, RefreshEnd refresh tree moment) = old_fetches
  fetches_placed (pass, Command spec moment) = old_fetches
  fetches_placed (pass, Cancel ids moment) = old_fetches
  fetches_placed (pass, Delete id) = old_fetches
  fetches_placed (pass, ReadStatus id) = old_fetches
  fetches_placed (pass, Lists filter) = old_fetches
  fetches_placed (pass, Cut moment) = old_fetches
  fetches_placed (pass, LogFile number) = old_fetches
  fetches_placed (pass, ListLogs) = old_fetches
  fetches_placed (pass, DropLog number) = old_fetches

  -- ---- refreshes

  abbrev refreshes : List (Begun ℕ)
  refreshes = w.delivering.refreshes

  abbrev old_refreshes : All Placed refreshes
  old_refreshes = later refreshes placed.refreshes

  abbrev Refreshes : Entry → Reply → Type 0
  Refreshes e r = All Placed (refreshes_after w e r)

  refreshes_placed : (e : Entry) → Refreshes e (reply_in w e)
  refreshes_placed (pass, RefreshBegin moment) = begin_cases w pass (Refreshes (pass, RefreshBegin moment)) moment
      (λ n. old_refreshes) (λ n. old_refreshes) (All-push Placed refreshes _ old_refreshes (omega arith))
  refreshes_placed (pass, RefreshEnd refresh tree moment) = All-filter _ Placed refreshes old_refreshes
  refreshes_placed (pass, Advance id moment) = advance_cases w pass (Refreshes (pass, Advance id moment))
      (λ n. old_refreshes) (λ status. old_refreshes) (λ by. old_refreshes) (λ n. old_refreshes) old_refreshes
      (All-push Placed refreshes _ old_refreshes (omega arith)) (λ n. old_refreshes) (λ target. old_refreshes) id moment old_refreshes
  refreshes_placed (pass, Admit request moment) = old_refreshes
  refreshes_placed (pass, FetchEnd fetch outcome moment) = old_refreshes
  refreshes_placed (pass, Finish delivery status total entity moment) = old_refreshes
  refreshes_placed (pass, Command spec moment) = old_refreshes
  refreshes_placed (pass, Cancel ids moment) = old_refreshes
  refreshes_placed (pass, Delete id) = old_refreshes
  refreshes_placed (pass, ReadStatus id) = old_refreshes
  refreshes_placed (pass, Lists filter) = old_refreshes
  refreshes_placed (pass, Cut moment) = old_refreshes
  refreshes_placed (pass, LogFile number) = old_refreshes
  refreshes_placed (pass, ListLogs) = old_refreshes
  refreshes_placed (pass, DropLog number) = old_refreshes

  -- ---- starts

  abbrev Began : Start → Type 0
  Began start = start.at ≤ position w

  abbrev starts : List Start
  starts = w.delivering.starts

  abbrev old_starts : All Began starts
  old_starts = All-weaker (λ start. start.at ≤ w.entries) Began (λ start at. omega (arith, at)) starts placed.starts

  start_kind : (trigger : Trigger) (kind : TriggerKind) → All Began (option_to_list (start_by (position w) kind trigger))
  start_kind trigger Preposition = All-nil Began
  start_kind trigger Invalidate = All-push Began [] _ (All-nil Began) (omega arith)
  start_kind trigger Purge = All-push Began [] _ (All-nil Began) (omega arith)

  start_found : (found : Option Trigger) → All Began (option_to_list (option_and_then (λ trigger. start_by (position w) trigger.job.spec.kind trigger) found))
  start_found None = All-nil Began
  start_found (Some trigger) = start_kind trigger trigger.job.spec.kind

  abbrev Starts : Entry → Reply → Type 0
  Starts e r = All Began (starts_after w e r)

  starts_placed : (e : Entry) → Starts e (reply_in w e)
  starts_placed (pass, Advance id moment) = advance_cases w pass (Starts (pass, Advance id moment))
      (λ n. old_starts) (λ status. old_starts) (λ by. old_starts) (λ n. old_starts)
      (All-append Began starts (option_to_list (start_of w id)) old_starts (start_found (trigger_of id w.controlling.triggers)))
      old_starts (λ n. old_starts) (λ target. old_starts) id moment old_starts
  starts_placed (pass, Admit request moment) = old_starts
  starts_placed (pass, FetchEnd fetch outcome moment) = old_starts
  starts_placed (pass, Finish delivery status total entity moment) = old_starts
  starts_placed (pass, RefreshBegin moment) = old_starts
  starts_placed (pass, RefreshEnd refresh tree moment) = old_starts
  starts_placed (pass, Command spec moment) = old_starts
  starts_placed (pass, Cancel ids moment) = old_starts
  starts_placed (pass, Delete id) = old_starts
  starts_placed (pass, ReadStatus id) = old_starts
  starts_placed (pass, Lists filter) = old_starts
  starts_placed (pass, Cut moment) = old_starts
  starts_placed (pass, LogFile number) = old_starts
  starts_placed (pass, ListLogs) = old_starts
  starts_placed (pass, DropLog number) = old_starts

  -- ---- the installed metadata

  abbrev IsLate : Option Installed → Type 0
  IsLate tree = (installed : Installed) → tree ≡ Some installed → installed.at ≤ position w

  old_tree : IsLate w.delivering.tree
  old_tree installed is = let at = placed.tree installed is in omega (arith, at)

  abbrev Trees : Entry → Reply → Type 0
  Trees e r = IsLate (tree_after w e r)

  installs : (refresh : ℕ) (tree : TreeData) (found : Option (Begun ℕ)) → ((begun : Begun ℕ) → found ≡ Some begun → begun.at ≤ position w)
      → IsLate (option_map_or (λ begun. Some (installed_by refresh tree begun)) found w.delivering.tree)
  installs refresh tree None at = old_tree
  installs refresh tree (Some begun) at = λ installed is.
      let same : installed_by refresh tree begun ≡ installed = cc in
      subst (λ (i : Installed). i.at ≤ position w) same (at begun refl)

  tree_placed : (e : Entry) → Trees e (reply_in w e)
  tree_placed (pass, RefreshEnd refresh (Some tree) moment) = refresh_end_cases w pass (Trees (pass, RefreshEnd refresh (Some tree) moment)) refresh
      old_tree (λ n. old_tree) (λ n. old_tree)
      (λ is. installs refresh tree (find (is_open refresh pass) refreshes) (λ begun found. found_of_all Placed (is_open refresh pass) refreshes begun old_refreshes found))
      (Some tree) moment old_tree
  tree_placed (pass, RefreshEnd refresh None moment) = old_tree
  tree_placed (pass, RefreshBegin moment) = old_tree
  tree_placed (pass, Advance id moment) = old_tree
  tree_placed (pass, Admit request moment) = old_tree
  tree_placed (pass, FetchEnd fetch outcome moment) = old_tree
  tree_placed (pass, Finish delivery status total entity moment) = old_tree
  tree_placed (pass, Command spec moment) = old_tree
  tree_placed (pass, Cancel ids moment) = old_tree
  tree_placed (pass, Delete id) = old_tree
  tree_placed (pass, ReadStatus id) = old_tree
  tree_placed (pass, Lists filter) = old_tree
  tree_placed (pass, Cut moment) = old_tree
  tree_placed (pass, LogFile number) = old_tree
  tree_placed (pass, ListLogs) = old_tree
  tree_placed (pass, DropLog number) = old_tree

  pub placed_after : (e : Entry) → IsPlaced (after w e)
  unfolding after after_reply
  placed_after e = record { starts = starts_placed e; fetches = fetches_placed e; refreshes = refreshes_placed e; tree = tree_placed e }

-- ---- every history

pub placed_nothing : (made : Made) → IsPlaced (nothing made)
placed_nothing made = record {
  starts = All-nil (λ start. start.at ≤ 0);
  fetches = All-nil (λ begun. begun.at ≤ 0);
  refreshes = All-nil (λ begun. begun.at ≤ 0);
  tree = λ installed is. absurd (none-some installed is);
}

from_right : (P : History → Type 0) → ((h : History) (e : Entry) → P h → P (h ++ e ∷ [])) → (before since : History) → P before → P (before ++ since)
from_right P step before [] p = subst P (sym (append-nil before)) p
from_right P step before (e ∷ since) p = subst P (append_assoc before (e ∷ []) since) (from_right P step (before ++ e ∷ []) since (step before e p))

pub placed : (made : Made) (h : History) → IsPlaced (world_of made h)
placed made h =
    from_right (λ h. IsPlaced (world_of made h)) (λ h e p. subst IsPlaced (sym (world_push made h e)) (placed_after (world_of made h) p e)) [] h
    (subst IsPlaced (sym (world_none made)) (placed_nothing made))
