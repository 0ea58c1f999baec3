-- An open step is of the pass that finds it open, and not ended.
use Rattle.std.proofs.Common.{◌≡◌, ℕ, ◌+◌, ◌==◌, nat_lt, Bool, true, false, not, ◌&&◌, ◌||◌, cond, List, [], ◌∷◌, ◌++◌, refl, sym, ap, ◌∙◌, subst, append_assoc, append-nil, inl, inr, None, Some, Option}
use Rattle.std.specs.List.{find, list_all, list_any, slice_get}
use Rattle.std.specs.Option.{option_and_then, option_map, option_or}
use Rattle.std.proofs.lemmas.Bool.{and_from, and_left, and_parts, both_ways, cases_Bool, cond_both, eq-eqb, eqb-true, not_from_false}
use Rattle.std.proofs.lemmas.List.Folds.{find-append, list_all-append}
use Rattle.std.proofs.lemmas.Option.{none-some, same_Some}
use Rattle.metadata_objects.specs.Tree.{TreeData}
use Rattle.targets.specs.declared.target.Target.{Target}
use Rattle.trigger_command.specs.Spec.{SpecParts}
use Rattle.trigger_command.specs.declared.selection.UrlItem.{UrlItem}
use Rattle.trigger_command.specs.declared.spec.TriggerKind.{TriggerKind}
use Rattle.trigger_command.specs.declared.spec.TriggerKind.TheVariants.{Preposition, Invalidate, Purge}
use Rattle.trigger_status.specs.declared.job.JobStatus.{JobStatus}
use Rattle.trigger_status.specs.declared.job.JobStatus.TheVariants.{Pending, Active, Complete, Failed, Cancelling, Cancelled}
use Rattle.upstream_gate.specs.declared.outcome.Outcome.{Outcome}
use Rattle.history.proofs.Cases.{either, opening_cases, advance_cases, cancel_cases, command_cases}
use Rattle.history.proofs.Opens.{begun_is_open, fetch_changes, refresh_changes}
use Rattle.history.proofs.Words.{world_none, world_push}
use Rattle.history.specs.After.{begun_fetch, begun_refresh, commanded, ended_refresh, is_fetched, triggers_after}
use Rattle.history.specs.Event.{Entry, Event, History, Admit, FetchEnd, Finish, RefreshBegin, RefreshEnd, Command, Advance, Cancel, Delete, ReadStatus, Lists, Cut, LogFile, ListLogs, DropLog}
use Rattle.history.specs.History.{reply_to, world_of}
use Rattle.history.specs.Laws.{IsOpen, ends_fetch, ends_refresh}
use Rattle.history.specs.Metadata.{is_skipped}
use Rattle.history.specs.Reply.{advance_reply, fetch_end_reply, fresh_reply, install_reply, newer_than, opening, refresh_end_reply, reply_in, step_reply, tree_reply, url_reply}
use Rattle.history.specs.Steps.{Step, Ended, Claimed, Waits, Starts, Refreshes, Fetches, Ends, active_step, claimed_step, first_hit, free_step, index_of, invalid_of, metadata_steps, own_step, url_place, url_step, awaits_fetch, awaits_refresh, cancelled_from, changed, ended, ended_as, fetched, is_trigger, refreshed, skipped, started, status_step, step_of, trigger_of, waiting}
use Rattle.history.specs.World.{Awaited, Begun, OneFetch, OneRefresh, Made, Trigger, World, is_open, number_of}
use Rattle.history.specs.declared.begun.Fetching.{Fetching}
use Rattle.history.specs.declared.reply.Reply.{Reply}
use Rattle.history.specs.declared.reply.Reply.TheVariants as reply
use Rattle.trigger_law.proofs.FinalLemmas.{ended_number, ends_last, found_is, left_without, other_number}
use Rattle.trigger_law.proofs.NumberLemmas.{cancel_found, change_found, fetch_found, gone, others_left, refresh_found, triggers_are}
use Rattle.trigger_law.specs.FinalTriggers.{is_final}
use Rattle.trigger_law.specs.OpenSteps.{BegunByStep, IsStepOpen}

-- ---- what a trigger waits for

-- a trigger that is active was made so by a pass
abbrev IsClaimed : JobStatus → Option ℕ → Type 0
IsClaimed Active None = ⊥
IsClaimed status claimant = Unit {0}

-- its step by this pass began what it waits for
abbrev Begins : Made → History → ℕ → ℕ → Awaited → Type 0
Begins made h pass id (OneFetch fetch) = BegunByStep made begun_fetch ends_fetch h fetch pass id
Begins made h pass id (OneRefresh refresh) = BegunByStep made begun_refresh ends_refresh h refresh pass id

-- it waits for nothing, or for what a step by the pass that made it active began
abbrev Awaits : Made → History → ℕ → Option ℕ → Option Awaited → Type 0
Awaits made h id claimant None = Unit {0}
Awaits made h id None (Some awaited) = ⊥
Awaits made h id (Some pass) (Some awaited) = Begins made h pass id awaited

abbrev Fits : Made → History → ℕ → Trigger → Type 0
Fits made h id t = IsClaimed t.job.status t.claimant × Awaits made h id t.claimant t.awaited

-- a trigger that is found does so
abbrev Holds : Made → History → ℕ → Option Trigger → Type 0
Holds made h id None = Unit {0}
Holds made h id (Some t) = Fits made h id t

abbrev HoldsIn : Made → History → Type 0
HoldsIn made h = (id : ℕ) → Holds made h id (trigger_of id (world_of made h).controlling.triggers)

-- ---- one entry more

longer_step : (made : Made) (given : Reply → Option ℕ) (ends : ℕ → ℕ → Entry → Bool) (h : History) (number pass id : ℕ) (e : Entry) → ends number pass e ≡ false → BegunByStep made given ends h number pass id
    → BegunByStep made given ends (h ++ e ∷ []) number pass id
longer_step made given ends h number pass id e other (b, moment, is) = (
  record {
    before = b.before;
    event = b.event;
    since = b.since ++ e ∷ [];
    whole = ap (λ x. x ++ e ∷ []) b.whole ∙ append_assoc b.before ((pass, b.event) ∷ b.since) (e ∷ []);
    begun = b.begun;
    kept = list_all-append (λ x. not (ends number pass x)) b.since (e ∷ []) ∙ and_from (list_all (λ x. not (ends number pass x)) b.since) (list_all (λ x. not (ends number pass x)) (e ∷ [])) b.kept (and_from (not (ends number pass e)) true (not_from_false (ends number pass e) other) refl);
  },
  moment,
  is,
)

-- the entry of a step that begins something
new_step : (made : Made) (given : Reply → Option ℕ) (ends : ℕ → ℕ → Entry → Bool) (h : History) (number pass id moment : ℕ) → given (reply_to made h (pass, Advance id moment)) ≡ Some number
    → BegunByStep made given ends (h ++ (pass, Advance id moment) ∷ []) number pass id
new_step made given ends h number pass id moment is = (record { before = h; event = Advance id moment; since = []; whole = refl; begun = is; kept = refl }, moment, refl)

module _ (made : Made) (h : History) (id : ℕ) (e : Entry) where
  abbrev more : History
  more = h ++ e ∷ []

  -- an entry that ends nothing that the trigger waits for
  abbrev Spares : Option ℕ → Option Awaited → Type 0
  Spares None awaited = Unit {0}
  Spares (Some pass) None = Unit {0}
  Spares (Some pass) (Some (OneFetch fetch)) = ends_fetch fetch pass e ≡ false
  Spares (Some pass) (Some (OneRefresh refresh)) = ends_refresh refresh pass e ≡ false

  spared : (claimant : Option ℕ) (awaited : Option Awaited) → Spares claimant awaited → Awaits made h id claimant awaited → Awaits made more id claimant awaited
  spared claimant None spares waits = tt
  spared None (Some awaited) spares waits = absurd waits
  spared (Some pass) (Some (OneFetch fetch)) spares waits = longer_step made begun_fetch ends_fetch h fetch pass id e spares waits
  spared (Some pass) (Some (OneRefresh refresh)) spares waits = longer_step made begun_refresh ends_refresh h refresh pass id e spares waits

  -- an entry that ends nothing
  abbrev EndsNothing : Type 0
  EndsNothing = (number pass : ℕ) → (ends_fetch number pass e ≡ false) × (ends_refresh number pass e ≡ false)

  module _ (nothing : EndsNothing) where
    spares_all : (claimant : Option ℕ) (awaited : Option Awaited) → Spares claimant awaited
    spares_all None awaited = tt
    spares_all (Some pass) None = tt
    spares_all (Some pass) (Some (OneFetch fetch)) = (nothing fetch pass).0
    spares_all (Some pass) (Some (OneRefresh refresh)) = (nothing refresh pass).1

    same_waits : (claimant : Option ℕ) (awaited : Option Awaited) → Awaits made h id claimant awaited → Awaits made more id claimant awaited
    same_waits claimant awaited = spared claimant awaited (spares_all claimant awaited)

    same_holds : (found : Option Trigger) → Holds made h id found → Holds made more id found
    same_holds None holds = tt
    same_holds (Some t) holds = (holds.0, same_waits t.claimant t.awaited holds.1)

  -- where each trigger is changed so
  map_holds : (f : Trigger → Trigger) → ((t : Trigger) → Fits made h id t → Fits made more id (f t)) → (found : Option Trigger) → Holds made h id found → Holds made more id (option_map f found)
  map_holds f keeps None holds = tt
  map_holds f keeps (Some t) holds = keeps t holds

-- ---- the end of a fetch

turned : (a b : ℕ) → (b == a) ≡ false → (a == b) ≡ false
turned a b differs = elim (cases_Bool (a == b)) [
  | inl same ↦ absurd (both_ways (b == a) differs (eq-eqb b a (sym (eqb-true a b same))))
  | inr other ↦ other
]

found_open : {A : Type 0} (number pass : ℕ) (xs : List (Begun A)) → list_any (is_open number pass) xs ≡ true → find (is_open number pass) xs ≡ None → ⊥
found_open number pass [] is none = both_ways false refl is
found_open number pass (x ∷ xs) is none = elim (cases_Bool (is_open number pass x)) [
  | inl this ↦ none-some x (sym none ∙ ap (λ b. cond b (Some x) (find (is_open number pass) xs)) this)
  | inr other ↦ found_open number pass xs (sym (ap (λ (b : Bool). b || list_any (is_open number pass) xs) other) ∙ is) (sym (ap (λ b. cond b (Some x) (find (is_open number pass) xs)) other) ∙ none)
]

module _ (made : Made) (h : History) (id pass fetch : ℕ) (outcome : Outcome) (moment : ℕ) where
  abbrev fetch_ends : Entry
  fetch_ends = (pass, FetchEnd fetch outcome moment)

  -- none was open to the pass under this number
  no_fetch_spares : (claimant : Option ℕ) (awaited : Option Awaited) → find (is_open fetch pass) (world_of made h).delivering.fetches ≡ None → Awaits made h id claimant awaited → Spares made h id fetch_ends claimant awaited
  no_fetch_spares None awaited none waits = tt
  no_fetch_spares (Some by) None none waits = tt
  no_fetch_spares (Some by) (Some (OneRefresh refresh)) none waits = refl
  no_fetch_spares (Some by) (Some (OneFetch number)) none waits = elim (cases_Bool (fetch == number && pass == by)) [
    | inr other ↦ other
    | inl this ↦
        let same = and_parts (fetch == number) (pass == by) this in
        let is_open_there : IsOpen number by (world_of made h).delivering.fetches = begun_is_open (λ w. w.delivering.fetches) begun_fetch ends_fetch fetch_changes number by (λ made. refl) made h waits.0 in
        absurd (found_open number by (world_of made h).delivering.fetches is_open_there
        (ap (λ k. find (is_open k by) (world_of made h).delivering.fetches) (sym (eqb-true fetch number same.0)) ∙ ap (λ k. find (is_open fetch k) (world_of made h).delivering.fetches) (sym (eqb-true pass by same.1)) ∙ none))
  ]

  -- the trigger does not wait for it
  other_fetch_spares : (claimant : Option ℕ) (awaited : Option Awaited) → awaits_fetch fetch awaited ≡ false → Spares made h id fetch_ends claimant awaited
  other_fetch_spares None awaited other = tt
  other_fetch_spares (Some by) None other = tt
  other_fetch_spares (Some by) (Some (OneRefresh refresh)) other = refl
  other_fetch_spares (Some by) (Some (OneFetch number)) other = and_left (fetch == number) (pass == by) (turned fetch number other)

  no_fetch_fits : (t : Trigger) → find (is_open fetch pass) (world_of made h).delivering.fetches ≡ None → Fits made h id t → Fits made (h ++ fetch_ends ∷ []) id t
  no_fetch_fits t none fits = (fits.0, spared made h id fetch_ends t.claimant t.awaited (no_fetch_spares t.claimant t.awaited none fits.1) fits.1)

  no_fetch_holds : (found : Option Trigger) → find (is_open fetch pass) (world_of made h).delivering.fetches ≡ None → Holds made h id found → Holds made (h ++ fetch_ends ∷ []) id found
  no_fetch_holds None none holds = tt
  no_fetch_holds (Some t) none holds = no_fetch_fits t none holds

  fetched_fits : (good : Bool) (t : Trigger) → Fits made h id t → Fits made (h ++ fetch_ends ∷ []) id (fetched good t)
  fetched_fits true t fits = (fits.0, tt)
  fetched_fits false t fits = (fits.0, tt)

  chosen_fetch_fits : (good : Bool) (t : Trigger) → Fits made h id t → Fits made (h ++ fetch_ends ∷ []) id (cond (awaits_fetch fetch t.awaited) (fetched good t) t)
  chosen_fetch_fits good t fits = cond_both (awaits_fetch fetch t.awaited) (fetched good t) t (Fits made (h ++ fetch_ends ∷ []) id) (λ is. fetched_fits good t fits)
      (λ other. (fits.0, spared made h id fetch_ends t.claimant t.awaited (other_fetch_spares t.claimant t.awaited other) fits.1))

  fetch_holds_by : (found : Option (Begun Fetching)) → find (is_open fetch pass) (world_of made h).delivering.fetches ≡ found → Holds made h id (trigger_of id (world_of made h).controlling.triggers)
      → Holds made (h ++ fetch_ends ∷ []) id (trigger_of id (triggers_after (world_of made h) fetch_ends (fetch_end_reply (world_of made h) fetch outcome found)))
  fetch_holds_by None none holds = no_fetch_holds (trigger_of id (world_of made h).controlling.triggers) none holds
  fetch_holds_by (Some begun) is holds = subst (Holds made (h ++ fetch_ends ∷ []) id) (sym (fetch_found id fetch (is_fetched outcome) (world_of made h).controlling.triggers))
      (map_holds made h id fetch_ends (λ t. cond (awaits_fetch fetch t.awaited) (fetched (is_fetched outcome) t) t) (chosen_fetch_fits (is_fetched outcome)) (trigger_of id (world_of made h).controlling.triggers) holds)

-- ---- the end of a refresh

module _ (made : Made) (h : History) (id pass refresh : ℕ) (tree : Option TreeData) (moment : ℕ) where
  abbrev refresh_ends : Entry
  refresh_ends = (pass, RefreshEnd refresh tree moment)

  no_refresh_spares : (claimant : Option ℕ) (awaited : Option Awaited) → find (is_open refresh pass) (world_of made h).delivering.refreshes ≡ None → Awaits made h id claimant awaited → Spares made h id refresh_ends claimant awaited
  no_refresh_spares None awaited none waits = tt
  no_refresh_spares (Some by) None none waits = tt
  no_refresh_spares (Some by) (Some (OneFetch fetch)) none waits = refl
  no_refresh_spares (Some by) (Some (OneRefresh number)) none waits = elim (cases_Bool (refresh == number && pass == by)) [
    | inr other ↦ other
    | inl this ↦
        let same = and_parts (refresh == number) (pass == by) this in
        let is_open_there : IsOpen number by (world_of made h).delivering.refreshes = begun_is_open (λ w. w.delivering.refreshes) begun_refresh ends_refresh refresh_changes number by (λ made. refl) made h waits.0 in
        absurd (found_open number by (world_of made h).delivering.refreshes is_open_there
        (ap (λ k. find (is_open k by) (world_of made h).delivering.refreshes) (sym (eqb-true refresh number same.0)) ∙ ap (λ k. find (is_open refresh k) (world_of made h).delivering.refreshes) (sym (eqb-true pass by same.1)) ∙ none))
  ]

  other_refresh_spares : (claimant : Option ℕ) (awaited : Option Awaited) → awaits_refresh refresh awaited ≡ false → Spares made h id refresh_ends claimant awaited
  other_refresh_spares None awaited other = tt
  other_refresh_spares (Some by) None other = tt
  other_refresh_spares (Some by) (Some (OneFetch fetch)) other = refl
  other_refresh_spares (Some by) (Some (OneRefresh number)) other = and_left (refresh == number) (pass == by) (turned refresh number other)

  no_refresh_holds : (found : Option Trigger) → find (is_open refresh pass) (world_of made h).delivering.refreshes ≡ None → Holds made h id found → Holds made (h ++ refresh_ends ∷ []) id found
  no_refresh_holds None none holds = tt
  no_refresh_holds (Some t) none holds = (holds.0, spared made h id refresh_ends t.claimant t.awaited (no_refresh_spares t.claimant t.awaited none holds.1) holds.1)

  refreshed_fits : (good : Bool) (t : Trigger) → Fits made h id t → Fits made (h ++ refresh_ends ∷ []) id (refreshed good t)
  refreshed_fits true t fits = (fits.0, tt)
  refreshed_fits false t fits = (fits.0, tt)

  chosen_refresh_fits : (good : Bool) (t : Trigger) → Fits made h id t → Fits made (h ++ refresh_ends ∷ []) id (cond (awaits_refresh refresh t.awaited) (refreshed good t) t)
  chosen_refresh_fits good t fits = cond_both (awaits_refresh refresh t.awaited) (refreshed good t) t (Fits made (h ++ refresh_ends ∷ []) id) (λ is. refreshed_fits good t fits)
      (λ other. (fits.0, spared made h id refresh_ends t.claimant t.awaited (other_refresh_spares t.claimant t.awaited other) fits.1))

  refresh_holds : (good : Bool) → Holds made h id (trigger_of id (world_of made h).controlling.triggers)
      → Holds made (h ++ refresh_ends ∷ []) id (option_map (λ t. cond (awaits_refresh refresh t.awaited) (refreshed good t) t) (trigger_of id (world_of made h).controlling.triggers))
  refresh_holds good holds = map_holds made h id refresh_ends (λ t. cond (awaits_refresh refresh t.awaited) (refreshed good t) t) (chosen_refresh_fits good) (trigger_of id (world_of made h).controlling.triggers) holds

  -- behind an answer that tells how the refresh went
  abbrev HoldsBehind : Reply → Type 0
  HoldsBehind r = Holds made (h ++ refresh_ends ∷ []) id (trigger_of id (triggers_after (world_of made h) refresh_ends r))

  behind_end : (good : Bool) → Holds made h id (trigger_of id (world_of made h).controlling.triggers)
      → Holds made (h ++ refresh_ends ∷ []) id (trigger_of id (ended_refresh refresh good (world_of made h).controlling.triggers))
  behind_end good holds = subst (Holds made (h ++ refresh_ends ∷ []) id) (sym (refresh_found id refresh good (world_of made h).controlling.triggers)) (refresh_holds good holds)

  module _ (holds : Holds made h id (trigger_of id (world_of made h).controlling.triggers)) where
    behind_install : (later : Option ℕ) → HoldsBehind (install_reply (world_of made h).counts.installed later)
    behind_install (Some later) = behind_end false holds
    behind_install None = behind_end true holds

    behind_fresh : (hit : Option ℕ) → HoldsBehind (fresh_reply (world_of made h) refresh hit)
    behind_fresh (Some trigger) = behind_end false holds
    behind_fresh None = behind_install (option_and_then (newer_than refresh) (world_of made h).delivering.tree)

    behind_tree : (begun : Begun ℕ) (brought : Option TreeData) → HoldsBehind (tree_reply (world_of made h) refresh begun brought)
    behind_tree begun None = behind_end false holds
    behind_tree begun (Some brought) = behind_fresh (first_hit (world_of made h).delivering.starts begun.at brought.resources)

    refresh_holds_by : (found : Option (Begun ℕ)) → find (is_open refresh pass) (world_of made h).delivering.refreshes ≡ found → HoldsBehind (refresh_end_reply (world_of made h) refresh tree found)
    refresh_holds_by None none = no_refresh_holds (trigger_of id (world_of made h).controlling.triggers) none holds
    refresh_holds_by (Some begun) is = behind_tree begun tree

-- ---- a step

-- why a step of this pass is the next one of the trigger
abbrev Suits : ℕ → Trigger → Step → Type 0
Suits pass t (Ended status) = is_final status ≡ true
Suits pass t (Claimed by) = Unit {0}
Suits pass t (Waits number) = (t.claimant ≡ Some pass) × (awaited : Awaited) × (t.awaited ≡ Some awaited) × (number_of awaited ≡ number)
Suits pass t Starts = t.awaited ≡ None
Suits pass t Refreshes = t.claimant ≡ Some pass
Suits pass t (Fetches place item) = t.claimant ≡ Some pass
Suits pass t (Ends status) = is_final status ≡ true

module _ (pass : ℕ) (t : Trigger) where
  url_suits : t.claimant ≡ Some pass → (item : Option UrlItem) → Suits pass t (url_step t item)
  url_suits own None = ends_last t.job.emeta t.job.econtent
  url_suits own (Some item) = own

  active_suits : t.claimant ≡ Some pass → (kind : TriggerKind) → Suits pass t (active_step kind t)
  active_suits own Invalidate = refl
  active_suits own Purge = refl
  active_suits own Preposition = cond_suits (nat_lt t.steps (metadata_steps t.job.spec.selection.metadata_urls)) own (url_suits own (slice_get t.job.spec.selection.content_urls (url_place t)))
    where
      cond_suits : (b : Bool) → t.claimant ≡ Some pass → Suits pass t (url_step t (slice_get t.job.spec.selection.content_urls (url_place t)))
          → Suits pass t (cond b Refreshes (url_step t (slice_get t.job.spec.selection.content_urls (url_place t))))
      cond_suits true own rest = own
      cond_suits false own rest = rest

  own_free : t.claimant ≡ Some pass → t.awaited ≡ None → (status : JobStatus) → Suits pass t (free_step status t)
  own_free own none Pending = none
  own_free own none Active = active_suits own t.job.spec.kind
  own_free own none Cancelling = refl
  own_free own none Complete = refl
  own_free own none Failed = refl
  own_free own none Cancelled = refl

  own_suits : t.claimant ≡ Some pass → (awaited : Option Awaited) → t.awaited ≡ awaited → Suits pass t (own_step t awaited)
  own_suits own (Some awaited) is = (own, awaited, is, refl)
  own_suits own None is = own_free own is t.job.status

  -- of one that no pass has made active
  new_free : t.awaited ≡ None → (status : JobStatus) → IsClaimed status None → Suits pass t (free_step status t)
  new_free none Pending claimed = none
  new_free none Active claimed = absurd claimed
  new_free none Cancelling claimed = refl
  new_free none Complete claimed = refl
  new_free none Failed claimed = refl
  new_free none Cancelled claimed = refl

  new_suits : (made : Made) (h : History) (id : ℕ) → IsClaimed t.job.status None → (awaited : Option Awaited) → Awaits made h id None awaited → t.awaited ≡ awaited → Suits pass t (own_step t awaited)
  new_suits made h id claimed (Some awaited) waits is = absurd waits
  new_suits made h id claimed None waits is = new_free is t.job.status claimed

  claimed_suits : (made : Made) (h : History) (id : ℕ) → Fits made h id t → (claimant : Option ℕ) → t.claimant ≡ claimant → Suits pass t (claimed_step pass t claimant)
  claimed_suits made h id fits None is = new_suits made h id (subst (IsClaimed t.job.status) is fits.0) t.awaited (subst (λ (c : Option ℕ). Awaits made h id c t.awaited) is fits.1) refl
  claimed_suits made h id fits (Some by) is = cond_both (by == pass) (own_step t t.awaited) (Claimed by) (Suits pass t) (λ same. own_suits (is ∙ ap Some (eqb-true by pass same)) t.awaited refl) (λ other. tt)

  step_suits : (made : Made) (h : History) (id : ℕ) → Fits made h id t → (status : JobStatus) → Suits pass t (status_step pass t status)
  step_suits made h id fits Complete = refl
  step_suits made h id fits Failed = refl
  step_suits made h id fits Cancelled = refl
  step_suits made h id fits Pending = claimed_suits made h id fits t.claimant refl
  step_suits made h id fits Active = claimed_suits made h id fits t.claimant refl
  step_suits made h id fits Cancelling = claimed_suits made h id fits t.claimant refl

-- an end is no other status than a last one
last_claimed : (status : JobStatus) (claimant : Option ℕ) → is_final status ≡ true → IsClaimed status claimant
last_claimed Pending claimant is = tt
last_claimed Active claimant is = absurd (both_ways false refl is)
last_claimed Complete claimant is = tt
last_claimed Failed claimant is = tt
last_claimed Cancelling claimant is = tt
last_claimed Cancelled claimant is = tt

module _ (made : Made) (h : History) (id pass moment : ℕ) where
  abbrev advances : Entry
  advances = (pass, Advance id moment)

  abbrev world : World
  world = world_of made h

  no_end : EndsNothing made h id advances
  no_end number by = (refl, refl)

  ended_fits : (status : JobStatus) → is_final status ≡ true → (t : Trigger) (before : JobStatus) → Fits made h id t → Fits made (h ++ advances ∷ []) id (ended_as moment status before t)
  ended_fits status last t Pending fits = (last_claimed status t.claimant last, same_waits made h id advances no_end t.claimant t.awaited fits.1)
  ended_fits status last t Active fits = (last_claimed status t.claimant last, same_waits made h id advances no_end t.claimant t.awaited fits.1)
  ended_fits status last t Cancelling fits = (last_claimed status t.claimant last, same_waits made h id advances no_end t.claimant t.awaited fits.1)
  ended_fits status last t Complete fits = (fits.0, same_waits made h id advances no_end t.claimant t.awaited fits.1)
  ended_fits status last t Failed fits = (fits.0, same_waits made h id advances no_end t.claimant t.awaited fits.1)
  ended_fits status last t Cancelled fits = (fits.0, same_waits made h id advances no_end t.claimant t.awaited fits.1)

  -- the trigger that makes the step, changed so
  its_change : (t : Trigger) (f : Trigger → Trigger) → ((u : Trigger) → (f u).job.id ≡ u.job.id) → trigger_of id world.controlling.triggers ≡ Some t → Fits made (h ++ advances ∷ []) id (f t)
      → Holds made (h ++ advances ∷ []) id (trigger_of id (changed id f world.controlling.triggers))
  its_change t f same found fits = subst (Holds made (h ++ advances ∷ []) id)
      (sym (change_found id id f same world.controlling.triggers ∙ ap (option_map (λ u. cond (is_trigger id u) (f u) u)) found ∙ ap (λ (b : Bool). Some (cond b (f t) t)) (found_is id world.controlling.triggers t found))) fits

  abbrev HoldsAnswered : Reply → Type 0
  HoldsAnswered r = reply_to made h advances ≡ r → Holds made (h ++ advances ∷ []) id (trigger_of id (triggers_after world advances r))

  module _ (t : Trigger) (found : trigger_of id world.controlling.triggers ≡ Some t) (fits : Fits made h id t) where
    unchanged : Holds made (h ++ advances ∷ []) id (trigger_of id world.controlling.triggers)
    unchanged = same_holds made h id advances no_end (trigger_of id world.controlling.triggers) (subst (Holds made h id) (sym found) fits)

    waiting_fits : (awaited : Awaited) → t.claimant ≡ Some pass → Begins made (h ++ advances ∷ []) pass id awaited → Fits made (h ++ advances ∷ []) id (waiting awaited t)
    waiting_fits awaited own begins = (fits.0, subst (λ (c : Option ℕ). Awaits made (h ++ advances ∷ []) id c (Some awaited)) (sym own) begins)

    started_fits : t.awaited ≡ None → Fits made (h ++ advances ∷ []) id (started pass moment t)
    started_fits none = (tt, subst (Awaits made (h ++ advances ∷ []) id (Some pass)) (sym none) tt)

    skipped_fits : (place : ℕ) → Fits made (h ++ advances ∷ []) id (skipped place t)
    skipped_fits place = (fits.0, same_waits made h id advances no_end t.claimant t.awaited fits.1)

    step_holds : (step : Step) → Suits pass t step → HoldsAnswered (step_reply world step)
    step_holds (Ended status) suits = λ is. its_change t (ended moment status) (λ u. ended_number moment status u.job.status u) found (ended_fits status suits t t.job.status fits)
    step_holds (Ends status) suits = λ is. its_change t (ended moment status) (λ u. ended_number moment status u.job.status u) found (ended_fits status suits t t.job.status fits)
    step_holds (Claimed by) suits = λ is. unchanged
    step_holds (Waits number) suits = λ is. unchanged
    step_holds Starts suits = opening_cases world HoldsAnswered reply.Started (λ n is. unchanged) (λ is. its_change t (started pass moment) (λ u. refl) found (started_fits suits))
    step_holds Refreshes suits = opening_cases world HoldsAnswered (reply.Refresh (world.counts.refreshed + 1)) (λ n is. unchanged)
        (λ is. its_change t (waiting (OneRefresh (world.counts.refreshed + 1))) (λ u. refl) found
        (waiting_fits (OneRefresh (world.counts.refreshed + 1)) suits (new_step made begun_refresh ends_refresh h (world.counts.refreshed + 1) pass id moment (ap begun_refresh is))))
    step_holds (Fetches place item) suits = either HoldsAnswered (is_skipped (index_of world.delivering) (invalid_of world.delivering) item.target) _ _
        (λ is. its_change t (skipped place) (λ u. refl) found (skipped_fits place))
        (opening_cases world HoldsAnswered _ (λ n is. unchanged)
        (λ is. its_change t (waiting (OneFetch (world.counts.fetched + 1))) (λ u. refl) found
        (waiting_fits (OneFetch (world.counts.fetched + 1)) suits (new_step made begun_fetch ends_fetch h (world.counts.fetched + 1) pass id moment (ap begun_fetch is)))))

  own_step_holds : (found : Option Trigger) → trigger_of id world.controlling.triggers ≡ found → Holds made h id found → HoldsAnswered (advance_reply world pass id found)
  own_step_holds None none holds = λ is. subst (Holds made (h ++ advances ∷ []) id) (sym none) tt
  own_step_holds (Some t) found fits = step_holds t found fits (step_of pass t) (step_suits pass t made h id fits t.job.status)

  answered_so : reply_to made h advances ≡ advance_reply world pass id (trigger_of id world.controlling.triggers)
  unfolding reply_in
  answered_so = refl

  own_advance_holds : Holds made h id (trigger_of id world.controlling.triggers) → Holds made (h ++ advances ∷ []) id (trigger_of id (triggers_after world advances (reply_in world advances)))
  own_advance_holds holds = subst (λ (r : Reply). Holds made (h ++ advances ∷ []) id (trigger_of id (triggers_after world advances r))) (sym answered_so)
      (own_step_holds (trigger_of id world.controlling.triggers) refl holds answered_so)

-- ---- an entry

-- another trigger's step changes nothing of it
other_change : (made : Made) (h : History) (id other : ℕ) (e : Entry) → EndsNothing made h id e → (other == id) ≡ false → (f : Trigger → Trigger) → ((t : Trigger) → (f t).job.id ≡ t.job.id)
    → Holds made h id (trigger_of id (world_of made h).controlling.triggers) → Holds made (h ++ e ∷ []) id (trigger_of id (changed other f (world_of made h).controlling.triggers))
other_change made h id other e nothing differs f same holds = subst (Holds made (h ++ e ∷ []) id) (sym (change_found id other f same (world_of made h).controlling.triggers))
    (by (trigger_of id (world_of made h).controlling.triggers) refl holds)
  where
    by : (found : Option Trigger) → trigger_of id (world_of made h).controlling.triggers ≡ found → Holds made h id found → Holds made (h ++ e ∷ []) id (option_map (λ t. cond (is_trigger other t) (f t) t) found)
    by None is holds = tt
    by (Some t) is holds = subst (λ (b : Bool). Fits made (h ++ e ∷ []) id (cond b (f t) t)) (sym (other_number id other t differs (found_is id (world_of made h).controlling.triggers t is)))
        (same_holds made h id e nothing (Some t) holds)

other_advance_holds : (made : Made) (h : History) (id pass other moment : ℕ) → (other == id) ≡ false → Holds made h id (trigger_of id (world_of made h).controlling.triggers)
    → Holds made (h ++ (pass, Advance other moment) ∷ []) id (trigger_of id (triggers_after (world_of made h) (pass, Advance other moment) (reply_in (world_of made h) (pass, Advance other moment))))
other_advance_holds made h id pass other moment differs holds =
    let e : Entry = (pass, Advance other moment) in
    let nothing : EndsNothing made h id e = λ number by. (refl, refl) in
    let same = same_holds made h id e nothing (trigger_of id (world_of made h).controlling.triggers) holds in
    advance_cases (world_of made h) pass (λ r. Holds made (h ++ e ∷ []) id (trigger_of id (triggers_after (world_of made h) e r))) (λ n. same)
    (λ status. other_change made h id other e nothing differs (ended moment status) (λ t. ended_number moment status t.job.status t) holds)
    (λ by. same) (λ n. same)
    (other_change made h id other e nothing differs (started pass moment) (λ t. refl) holds)
    (other_change made h id other e nothing differs (waiting (OneRefresh _)) (λ t. refl) holds)
    (λ n. other_change made h id other e nothing differs (skipped n) (λ t. refl) holds)
    (λ target. other_change made h id other e nothing differs (waiting (OneFetch _)) (λ t. refl) holds)
    other moment same

cancelled_fits : (made : Made) (h : History) (id : ℕ) (e : Entry) → EndsNothing made h id e → (moment : ℕ) (t : Trigger) (before : JobStatus) → Fits made h id t → Fits made (h ++ e ∷ []) id (cancelled_from moment before t)
cancelled_fits made h id e nothing moment t Pending fits = (tt, same_waits made h id e nothing t.claimant t.awaited fits.1)
cancelled_fits made h id e nothing moment t Active fits = (tt, same_waits made h id e nothing t.claimant t.awaited fits.1)
cancelled_fits made h id e nothing moment t Complete fits = same_holds made h id e nothing (Some t) fits
cancelled_fits made h id e nothing moment t Failed fits = same_holds made h id e nothing (Some t) fits
cancelled_fits made h id e nothing moment t Cancelling fits = same_holds made h id e nothing (Some t) fits
cancelled_fits made h id e nothing moment t Cancelled fits = same_holds made h id e nothing (Some t) fits

-- one trigger more
more_holds : (made : Made) (h : History) (id : ℕ) (found : Option Trigger) (x : Trigger) (b : Bool) → Holds made h id found → Fits made h id x → Holds made h id (option_or found (cond b (Some x) None))
more_holds made h id None x true holds fits = fits
more_holds made h id None x false holds fits = tt
more_holds made h id (Some t) x b holds fits = holds

-- each entry keeps it
abbrev HoldsAfter : Made → History → ℕ → Entry → Type 0
HoldsAfter made h id e = Holds made (h ++ e ∷ []) id (trigger_of id (triggers_after (world_of made h) e (reply_in (world_of made h) e)))

fetch_end_holds : (made : Made) (h : History) (id pass fetch : ℕ) (outcome : Outcome) (moment : ℕ) → Holds made h id (trigger_of id (world_of made h).controlling.triggers) → HoldsAfter made h id (pass, FetchEnd fetch outcome moment)
unfolding reply_in
fetch_end_holds made h id pass fetch outcome moment holds = fetch_holds_by made h id pass fetch outcome moment (find (is_open fetch pass) (world_of made h).delivering.fetches) refl holds

refresh_end_holds : (made : Made) (h : History) (id pass refresh : ℕ) (tree : Option TreeData) (moment : ℕ) → Holds made h id (trigger_of id (world_of made h).controlling.triggers) → HoldsAfter made h id (pass, RefreshEnd refresh tree moment)
unfolding reply_in
refresh_end_holds made h id pass refresh tree moment holds = refresh_holds_by made h id pass refresh tree moment holds (find (is_open refresh pass) (world_of made h).delivering.refreshes) refl

command_holds : (made : Made) (h : History) (id pass : ℕ) (spec : SpecParts) (moment : ℕ) → Holds made h id (trigger_of id (world_of made h).controlling.triggers) → HoldsAfter made h id (pass, Command spec moment)
command_holds made h id pass spec moment holds =
    let e : Entry = (pass, Command spec moment) in
    let same = same_holds made h id e (λ number by. (refl, refl)) (trigger_of id (world_of made h).controlling.triggers) holds in
    command_cases (world_of made h) pass (λ r. Holds made (h ++ e ∷ []) id (trigger_of id (triggers_after (world_of made h) e r))) spec moment (λ n. same)
    (subst (Holds made (h ++ e ∷ []) id) (sym (find-append (is_trigger id) (world_of made h).controlling.triggers (commanded ((world_of made h).counts.created + 1) spec moment ∷ [])))
    (more_holds made (h ++ e ∷ []) id (trigger_of id (world_of made h).controlling.triggers) (commanded ((world_of made h).counts.created + 1) spec moment) ((world_of made h).counts.created + 1 == id) same (tt, tt)))

cancel_holds : (made : Made) (h : History) (id pass : ℕ) (ids : List ℕ) (moment : ℕ) → Holds made h id (trigger_of id (world_of made h).controlling.triggers) → HoldsAfter made h id (pass, Cancel ids moment)
cancel_holds made h id pass ids moment holds =
    let e : Entry = (pass, Cancel ids moment) in
    let nothing : EndsNothing made h id e = λ number by. (refl, refl) in
    let same = same_holds made h id e nothing (trigger_of id (world_of made h).controlling.triggers) holds in
    cancel_cases (world_of made h) pass (λ r. Holds made (h ++ e ∷ []) id (trigger_of id (triggers_after (world_of made h) e r))) ids moment (λ n. same)
    (λ list. subst (Holds made (h ++ e ∷ []) id) (sym (cancel_found id moment ids (world_of made h).controlling.triggers))
    (map_holds made h id e (λ t. cond (list_any (λ one. is_trigger one t) ids) (cancelled_from moment t.job.status t) t)
    (λ t fits. cond_both (list_any (λ one. is_trigger one t) ids) (cancelled_from moment t.job.status t) t (Fits made (h ++ e ∷ []) id) (λ is. cancelled_fits made h id e nothing moment t t.job.status fits) (λ other. same_holds made h id e nothing (Some t) fits))
    (trigger_of id (world_of made h).controlling.triggers) holds))

delete_holds : (made : Made) (h : History) (id pass other : ℕ) → Holds made h id (trigger_of id (world_of made h).controlling.triggers) → HoldsAfter made h id (pass, Delete other)
delete_holds made h id pass other holds = elim (cases_Bool (other == id)) [
  | inl same ↦ subst (λ (n : ℕ). Holds made (h ++ (pass, Delete other) ∷ []) id (trigger_of id (left_without n (world_of made h).controlling.triggers))) (sym (eqb-true other id same))
      (subst (Holds made (h ++ (pass, Delete other) ∷ []) id) (sym (gone id (world_of made h).controlling.triggers)) tt)
  | inr differs ↦ subst (Holds made (h ++ (pass, Delete other) ∷ []) id) (sym (others_left id other differs (world_of made h).controlling.triggers))
      (same_holds made h id (pass, Delete other) (λ number by. (refl, refl)) (trigger_of id (world_of made h).controlling.triggers) holds)
]

holds_after : (made : Made) (h : History) (id pass : ℕ) (event : Event) → Holds made h id (trigger_of id (world_of made h).controlling.triggers) → HoldsAfter made h id (pass, event)
holds_after made h id pass (Admit request moment) holds = same_holds made h id (pass, Admit request moment) (λ number by. (refl, refl)) (trigger_of id (world_of made h).controlling.triggers) holds
holds_after made h id pass (FetchEnd fetch outcome moment) holds = fetch_end_holds made h id pass fetch outcome moment holds
holds_after made h id pass (Finish delivery status total entity moment) holds = same_holds made h id (pass, Finish delivery status total entity moment) (λ number by. (refl, refl)) (trigger_of id (world_of made h).controlling.triggers) holds
holds_after made h id pass (RefreshBegin moment) holds = same_holds made h id (pass, RefreshBegin moment) (λ number by. (refl, refl)) (trigger_of id (world_of made h).controlling.triggers) holds
holds_after made h id pass (RefreshEnd refresh tree moment) holds = refresh_end_holds made h id pass refresh tree moment holds
holds_after made h id pass (Command spec moment) holds = command_holds made h id pass spec moment holds
holds_after made h id pass (Advance other moment) holds = elim (cases_Bool (other == id)) [
  | inl same ↦ subst (λ (n : ℕ). HoldsAfter made h id (pass, Advance n moment)) (sym (eqb-true other id same)) (own_advance_holds made h id pass moment holds)
  | inr differs ↦ other_advance_holds made h id pass other moment differs holds
]
holds_after made h id pass (Cancel ids moment) holds = cancel_holds made h id pass ids moment holds
holds_after made h id pass (Delete other) holds = delete_holds made h id pass other holds
holds_after made h id pass (ReadStatus other) holds = same_holds made h id (pass, ReadStatus other) (λ number by. (refl, refl)) (trigger_of id (world_of made h).controlling.triggers) holds
holds_after made h id pass (Lists filter) holds = same_holds made h id (pass, Lists filter) (λ number by. (refl, refl)) (trigger_of id (world_of made h).controlling.triggers) holds
holds_after made h id pass (Cut moment) holds = same_holds made h id (pass, Cut moment) (λ number by. (refl, refl)) (trigger_of id (world_of made h).controlling.triggers) holds
holds_after made h id pass (LogFile number) holds = same_holds made h id (pass, LogFile number) (λ n by. (refl, refl)) (trigger_of id (world_of made h).controlling.triggers) holds
holds_after made h id pass ListLogs holds = same_holds made h id (pass, ListLogs) (λ number by. (refl, refl)) (trigger_of id (world_of made h).controlling.triggers) holds
holds_after made h id pass (DropLog number) holds = same_holds made h id (pass, DropLog number) (λ n by. (refl, refl)) (trigger_of id (world_of made h).controlling.triggers) holds

-- ---- all entries

one_more_holds : (made : Made) (h : History) (e : Entry) → HoldsIn made h → HoldsIn made (h ++ e ∷ [])
one_more_holds made h e holds id = subst (λ (ts : List Trigger). Holds made (h ++ e ∷ []) id (trigger_of id ts)) (sym (ap (λ (w : World). w.controlling.triggers) (world_push made h e) ∙ triggers_are (world_of made h) e))
    (holds_after made h id e.0 e.1 (holds id))

all_hold : (made : Made) (h since : History) → HoldsIn made h → HoldsIn made (h ++ since)
all_hold made h [] holds = subst (HoldsIn made) (sym (append-nil h)) holds
all_hold made h (e ∷ since) holds = subst (HoldsIn made) (append_assoc h (e ∷ []) since) (all_hold made (h ++ e ∷ []) since (one_more_holds made h e holds))

none_holds : (made : Made) → HoldsIn made []
none_holds made id = subst (λ (w : World). Holds made [] id (trigger_of id w.controlling.triggers)) (sym (world_none made)) tt

-- ---- the answer that a step is open

abbrev told_open : Reply → Option ℕ
told_open (reply.StepOpen number) = Some number
told_open answer = None

untold_open : {A : Type 0} (r : Reply) (number : ℕ) → r ≡ reply.StepOpen number → told_open r ≡ None → A
untold_open r number is none = absurd (none-some number (sym none ∙ ap told_open is))

opening_untold : (w : World) (r : Reply) → told_open r ≡ None → told_open (opening w r) ≡ None
opening_untold w r none = opening_cases w (λ x. told_open x ≡ None) r (λ n. refl) none

url_untold : (w : World) (place : ℕ) (target : Target) → told_open (url_reply w place target) ≡ None
url_untold w place target = either (λ x. told_open x ≡ None) (is_skipped (index_of w.delivering) (invalid_of w.delivering) target) _ _ refl (opening_untold w _ refl)

begins_open : (made : Made) (h : History) (pass id number : ℕ) (awaited : Awaited) → number_of awaited ≡ number → Begins made h pass id awaited → IsStepOpen made h number pass id
begins_open made h pass id number (OneFetch fetch) same begins = inl (subst (λ (n : ℕ). BegunByStep made begun_fetch ends_fetch h n pass id) same begins)
begins_open made h pass id number (OneRefresh refresh) same begins = inr (subst (λ (n : ℕ). BegunByStep made begun_refresh ends_refresh h n pass id) same begins)

step_open : (made : Made) (h : History) (pass id number : ℕ) (t : Trigger) → Fits made h id t → (step : Step) → Suits pass t step → step_reply (world_of made h) step ≡ reply.StepOpen number → IsStepOpen made h number pass id
step_open made h pass id number t fits (Waits other) (own, awaited, waits, counts) is =
    begins_open made h pass id number awaited (counts ∙ same_Some other number (ap told_open is))
    (subst (λ (a : Option Awaited). Awaits made h id (Some pass) a) waits (subst (λ (c : Option ℕ). Awaits made h id c t.awaited) own fits.1))
step_open made h pass id number t fits (Ended status) suits is = untold_open _ number is refl
step_open made h pass id number t fits (Claimed by) suits is = untold_open _ number is refl
step_open made h pass id number t fits Starts suits is = untold_open _ number is (opening_untold (world_of made h) _ refl)
step_open made h pass id number t fits Refreshes suits is = untold_open _ number is (opening_untold (world_of made h) _ refl)
step_open made h pass id number t fits (Fetches place item) suits is = untold_open _ number is (url_untold (world_of made h) place item.target)
step_open made h pass id number t fits (Ends status) suits is = untold_open _ number is refl

found_step_open : (made : Made) (h : History) (pass id number : ℕ) (found : Option Trigger) → Holds made h id found → advance_reply (world_of made h) pass id found ≡ reply.StepOpen number → IsStepOpen made h number pass id
found_step_open made h pass id number None holds is = untold_open _ number is refl
found_step_open made h pass id number (Some t) fits is = step_open made h pass id number t fits (step_of pass t) (step_suits pass t made h id fits t.job.status) is

pub open_step : (made : Made) (h : History) (pass id moment number : ℕ) → reply_to made h (pass, Advance id moment) ≡ reply.StepOpen number → IsStepOpen made h number pass id
open_step made h pass id moment number is =
    found_step_open made h pass id number (trigger_of id (world_of made h).controlling.triggers) (all_hold made [] h (none_holds made) id) (sym (answered_so made h id pass moment) ∙ is)
