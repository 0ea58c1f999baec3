-- A preposition that is complete has had all fetched that it names.
use Rattle.std.proofs.Common.{◌≡◌, ◌≢◌, ◌⊎◌, ℕ, ◌+◌, ◌-◌, ◌<◌, ◌≤◌, Bool, true, false, Contains, List, [], ◌∷◌, ◌++◌, length, nat_lt, refl, sym, ap, ◌∙◌, subst, inl, inr, None, Some, Option, arith, zero, suc}
use Rattle.std.specs.List.{slice_get}
use Rattle.std.specs.Option.{option_map_or}
use Rattle.std.proofs.lemmas.Bool.{both_ways, cases_Bool, eqb-true, ltb-false, ltb-true}
use Rattle.std.proofs.lemmas.List.Elements.{Contains-append_left, Contains-push}
use Rattle.std.proofs.lemmas.Option.{none-some, same_Some}
use Rattle.metadata_objects.specs.Tree.{TreeData}
use Rattle.targets.specs.declared.endpoint.Endpoint.{Endpoint}
use Rattle.targets.specs.declared.target.Target.{Target}
use Rattle.trigger_command.specs.declared.selection.Selection.{Selection}
use Rattle.trigger_command.specs.declared.selection.UrlItem.{UrlItem}
use Rattle.trigger_command.specs.declared.spec.TriggerKind.{TriggerKind}
use Rattle.trigger_command.specs.declared.spec.TriggerKind.TheVariants.{Preposition}
use Rattle.trigger_status.specs.declared.job.JobStatus.{JobStatus}
use Rattle.trigger_status.specs.declared.job.JobStatus.TheVariants.{Pending, Active, Complete, Failed, Cancelling, Cancelled}
use Rattle.upstream_gate.specs.Got.{GotParts}
use Rattle.upstream_gate.specs.declared.outcome.Outcome.{Outcome}
use Rattle.upstream_gate.specs.declared.outcome.Outcome.TheVariants as outcome
use Rattle.history.proofs.Words.{world_none, world_push}
use Rattle.history.specs.After.{is_fetched, is_installed}
use Rattle.history.specs.Event.{Entry, Event, History, Advance, FetchEnd, RefreshEnd}
use Rattle.history.specs.History.{AnsweredAt, reply_to, world_of}
use Rattle.history.specs.Kept.{full_content}
use Rattle.history.specs.Steps.{Ended, Ends, awaits_fetch, awaits_refresh, cancelled_from, ended_as, ends_as, fetched, metadata_steps, refreshed, skipped, trigger_of, url_place, waiting, with_status}
use Rattle.history.specs.World.{Awaited, OneFetch, OneRefresh, Made, Trigger, World}
use Rattle.history.specs.declared.reply.Reply.{Reply}
use Rattle.history.specs.declared.reply.Reply.TheVariants as reply
use Rattle.delivery_law.specs.Starts.{TakesBack}
use Rattle.delivery_law.proofs.Entries.{full_cases}
use Rattle.delivery_law.proofs.Places.{from_right, longer}
use Rattle.trigger_law.proofs.Comes.{Comes, Stays, IsMade, Begins, Refreshing, Fetching, Skipping, Ending, FetchEnds, RefreshEnds, Cancels, EndsSo, Is, comes}
use Rattle.trigger_law.proofs.NumberLemmas.{triggers_are}
use Rattle.trigger_law.specs.Accounts.{IsPrepared, WasFetched, WasRefreshed}

-- ---- words

-- a step of this trigger began this refresh
abbrev RefreshBegun : Made → History → ℕ → ℕ → Type 0
RefreshBegun made h id refresh = (at : ℕ) × (pass : ℕ) × (moment : ℕ) × AnsweredAt made h at (pass, Advance id moment) (reply.Refresh refresh)

abbrev FetchBegun : Made → History → ℕ → ℕ → Target → Type 0
FetchBegun made h id fetch target = (at : ℕ) × (pass : ℕ) × (moment : ℕ) × (plan : List Endpoint) × AnsweredAt made h at (pass, Advance id moment) (reply.Fetch fetch plan target)

-- the metadata was fetched anew, or is waited for
abbrev MetadataSo : Made → History → ℕ → Option Awaited → Type 0
MetadataSo made h id awaited = WasRefreshed made h id ⊎ ((refresh : ℕ) × (awaited ≡ Some (OneRefresh refresh)) × RefreshBegun made h id refresh)

-- the content URL at this place has an error, was fetched, or is waited for
abbrev ContentSo : Made → History → ℕ → Selection → ℕ → Option Awaited → List ℕ → ℕ → Target → Type 0
ContentSo made h id s steps awaited econtent place target = Contains econtent place ⊎ (WasFetched made h id target
    ⊎ ((fetch : ℕ) × (awaited ≡ Some (OneFetch fetch)) × (place + metadata_steps s.metadata_urls + 1 ≡ steps) × FetchBegun made h id fetch target))

-- how far a preposition with this selection has come
record Progress (made : Made) (h : History) (id : ℕ) (s : Selection) (steps : ℕ) (awaited : Option Awaited) (emeta : Bool) (econtent : List ℕ) : Type 0 where
  metadata : s.metadata_urls ≢ [] → 0 < steps → emeta ≡ false → MetadataSo made h id awaited
  content : (place : ℕ) (item : UrlItem) → slice_get s.content_urls place ≡ Some item → place + metadata_steps s.metadata_urls < steps
      → ContentSo made h id s steps awaited econtent place item.target

record Standing (made : Made) (h : History) (id : ℕ) (t : Trigger) : Type 0 where
  progress : Progress made h id t.job.spec.selection t.steps t.awaited t.job.emeta t.job.econtent
  prepared : t.job.spec.kind ≡ Preposition → t.job.status ≡ Complete → IsPrepared made h id t.job.spec.selection

abbrev prepares : TriggerKind → Bool
prepares Preposition = true
prepares kind = false

abbrev is_complete : JobStatus → Bool
is_complete Complete = true
is_complete status = false

abbrev is_error : List ℕ → Bool
is_error [] = false
is_error (place ∷ places) = true

abbrev is_none : Option Awaited → Bool
is_none None = true
is_none (Some awaited) = false

abbrev waits_for_fetch : Option Awaited → Bool
waits_for_fetch (Some (OneFetch fetch)) = true
waits_for_fetch awaited = false

abbrev fetch_in : Option Awaited → ℕ
fetch_in (Some (OneFetch fetch)) = fetch
fetch_in awaited = 0

abbrev refresh_in : Option Awaited → ℕ
refresh_in (Some (OneRefresh refresh)) = refresh
refresh_in awaited = 0

no_preposition : (kind : TriggerKind) → kind ≡ Preposition → TakesBack kind → ⊥
no_preposition kind is (inl other) = both_ways false refl (ap prepares (sym other ∙ is))
no_preposition kind is (inr other) = both_ways false refl (ap prepares (sym other ∙ is))

-- it waits for this fetch
fetch_awaited : (fetch : ℕ) (awaited : Option Awaited) → awaits_fetch fetch awaited ≡ true → awaited ≡ Some (OneFetch fetch)
fetch_awaited fetch (Some (OneFetch number)) is = ap (λ n. Some (OneFetch n)) (eqb-true number fetch is)
fetch_awaited fetch (Some (OneRefresh number)) is = absurd (both_ways false refl is)
fetch_awaited fetch None is = absurd (both_ways false refl is)

refresh_awaited : (refresh : ℕ) (awaited : Option Awaited) → awaits_refresh refresh awaited ≡ true → awaited ≡ Some (OneRefresh refresh)
refresh_awaited refresh (Some (OneRefresh number)) is = ap (λ n. Some (OneRefresh n)) (eqb-true number refresh is)
refresh_awaited refresh (Some (OneFetch number)) is = absurd (both_ways false refl is)
refresh_awaited refresh None is = absurd (both_ways false refl is)

-- content with status 200 came
fetched_so : (came : Outcome) → is_fetched came ≡ true → (got : GotParts) × (came ≡ outcome.Got got) × (got.status ≡ 200)
fetched_so came is = by (full_content came) refl
  where
    by : (found : Option GotParts) → full_content came ≡ found → (got : GotParts) × (came ≡ outcome.Got got) × (got.status ≡ 200)
    by None none = absurd (both_ways false refl (sym (ap (λ o. option_map_or (λ (got : GotParts). true) o false) none) ∙ is))
    by (Some got) some = let so = full_cases came got some in (got, so.0, so.1)

installed_so : (r : Reply) → is_installed r ≡ true → (generation : ℕ) × (r ≡ reply.Installed generation)
installed_so (reply.Installed generation) is = (generation, refl)
installed_so r is = absurd (both_ways false refl is)

-- a list that is not empty takes one step
one_step : (urls : List UrlItem) → urls ≢ [] → metadata_steps urls ≡ 1
one_step [] some = absurd (some refl)
one_step (item ∷ items) some = refl

few_steps : (urls : List UrlItem) → metadata_steps urls ≤ 1
few_steps [] = omega arith
few_steps (item ∷ items) = omega arith

-- places of a list
get_below : {A : Type 0} (xs : List A) (k : ℕ) (x : A) → slice_get xs k ≡ Some x → k < length xs
get_below [] k x is = absurd (none-some x is)
get_below (y ∷ ys) zero x is = omega arith
get_below (y ∷ ys) (suc k) x is = let low = get_below ys k x is in omega (arith, low)

none_above : {A : Type 0} (xs : List A) (k : ℕ) → slice_get xs k ≡ None → length xs ≤ k
none_above [] k is = omega arith
none_above (y ∷ ys) zero is = absurd (none-some y (sym is))
none_above (y ∷ ys) (suc k) is = let high = none_above ys k is in omega (arith, high)

-- it ends complete only without an error
no_error : (emeta : Bool) (places : List ℕ) → ends_as emeta places ≡ Complete → (emeta ≡ false) × (places ≡ [])
no_error true places is = absurd (both_ways false refl (ap is_complete is))
no_error false [] is = (refl, refl)
no_error false (place ∷ places) is = absurd (both_ways false refl (ap is_complete is))

not_in_none : (place : ℕ) → Contains [] place → ⊥
not_in_none place has = let below = has.1 in omega (arith, below)

-- ---- one entry more

module _ (made : Made) (h : History) (e : Entry) (id : ℕ) where
  abbrev h' : History
  h' = h ++ e ∷ []

  abbrev r : Reply
  r = reply_to made h e

  refreshed_longer : WasRefreshed made h id → WasRefreshed made h' id
  refreshed_longer x = record {
    refresh = x.refresh;
    at = x.at;
    pass = x.pass;
    moment = x.moment;
    begun = longer e x.begun;
    ended = x.ended;
    by = x.by;
    tree = x.tree;
    end = x.end;
    generation = x.generation;
    installed = longer e x.installed;
  }

  fetched_longer : {target : Target} → WasFetched made h id target → WasFetched made h' id target
  fetched_longer x = record {
    fetch = x.fetch;
    at = x.at;
    pass = x.pass;
    moment = x.moment;
    plan = x.plan;
    begun = longer e x.begun;
    ended = x.ended;
    by = x.by;
    got = x.got;
    end = x.end;
    kept = x.kept;
    brought = longer e x.brought;
    status = x.status;
  }

  prepared_longer : (s : Selection) → IsPrepared made h id s → IsPrepared made h' id s
  prepared_longer s p = record { metadata = λ some. refreshed_longer (p.metadata some); content = λ place item is. fetched_longer (p.content place item is) }

  metadata_longer : (awaited : Option Awaited) → MetadataSo made h id awaited → MetadataSo made h' id awaited
  metadata_longer awaited (inl x) = inl (refreshed_longer x)
  metadata_longer awaited (inr (refresh, is, (at, pass, moment, begun))) = inr (refresh, is, (at, pass, moment, longer e begun))

  -- where it does not wait for a refresh
  metadata_kept : (awaited now : Option Awaited) → ((refresh : ℕ) → awaited ≡ Some (OneRefresh refresh) → ⊥) → MetadataSo made h id awaited → MetadataSo made h' id now
  metadata_kept awaited now other (inl x) = inl (refreshed_longer x)
  metadata_kept awaited now other (inr (refresh, is, rest)) = absurd (other refresh is)

  content_longer : (s : Selection) (steps : ℕ) (awaited : Option Awaited) (econtent : List ℕ) (place : ℕ) (target : Target) → ContentSo made h id s steps awaited econtent place target → ContentSo made h' id s steps awaited econtent place target
  content_longer s steps awaited econtent place target (inl has) = inl has
  content_longer s steps awaited econtent place target (inr (inl x)) = inr (inl (fetched_longer x))
  content_longer s steps awaited econtent place target (inr (inr (fetch, is, last, (at, pass, moment, plan, begun)))) = inr (inr (fetch, is, last, (at, pass, moment, plan, longer e begun)))

  -- where it does not wait for a fetch, and errors are added
  content_kept : (s : Selection) (steps later : ℕ) (awaited now : Option Awaited) (econtent more : List ℕ) (place : ℕ) (target : Target) → ((fetch : ℕ) → awaited ≡ Some (OneFetch fetch) → ⊥)
      → ContentSo made h id s steps awaited econtent place target → ContentSo made h' id s later now (econtent ++ more) place target
  content_kept s steps later awaited now econtent more place target other (inl has) = inl (Contains-append_left econtent more place has)
  content_kept s steps later awaited now econtent more place target other (inr (inl x)) = inr (inl (fetched_longer x))
  content_kept s steps later awaited now econtent more place target other (inr (inr (fetch, is, last, rest))) = absurd (other fetch is)

  content_same : (s : Selection) (steps later : ℕ) (awaited now : Option Awaited) (econtent : List ℕ) (place : ℕ) (target : Target) → ((fetch : ℕ) → awaited ≡ Some (OneFetch fetch) → ⊥)
      → ContentSo made h id s steps awaited econtent place target → ContentSo made h' id s later now econtent place target
  content_same s steps later awaited now econtent place target other (inl has) = inl has
  content_same s steps later awaited now econtent place target other (inr (inl x)) = inr (inl (fetched_longer x))
  content_same s steps later awaited now econtent place target other (inr (inr (fetch, is, last, rest))) = absurd (other fetch is)

  progress_longer : (s : Selection) (steps : ℕ) (awaited : Option Awaited) (emeta : Bool) (econtent : List ℕ) → Progress made h id s steps awaited emeta econtent → Progress made h' id s steps awaited emeta econtent
  progress_longer s steps awaited emeta econtent p = record {
    metadata = λ some made_one free. metadata_longer awaited (p.metadata some made_one free);
    content = λ place item is low. content_longer s steps awaited econtent place item.target (p.content place item is low);
  }

  -- it waits for nothing
  none_awaited : {awaited : Option Awaited} → awaited ≡ None → (one : Awaited) → awaited ≡ Some one → ⊥
  none_awaited none one some = none-some one (sym none ∙ some)

  module _ (t : Trigger) (had : Standing made h id t) where
    abbrev s : Selection
    s = t.job.spec.selection

    abbrev ms : ℕ
    ms = metadata_steps t.job.spec.selection.metadata_urls

    -- an entry that changes the status alone
    stays : (status : JobStatus) (moment : ℕ) → (t.job.spec.kind ≡ Preposition → status ≡ Complete → IsPrepared made h' id s) → Standing made h' id (with_status moment status t)
    stays status moment prepared = record { progress = progress_longer s t.steps t.awaited t.job.emeta t.job.econtent had.progress; prepared = prepared }

    unchanged : Standing made h' id t
    unchanged = record { progress = progress_longer s t.steps t.awaited t.job.emeta t.job.econtent had.progress; prepared = λ kind done. prepared_longer s (had.prepared kind done) }

    module _ (live : t.job.status ≡ Active) (none : t.awaited ≡ None) where
      not_complete : t.job.status ≡ Complete → ⊥
      not_complete done = both_ways false refl (ap is_complete (sym live ∙ done))

      refreshes : (moment refresh : ℕ) → e.1 ≡ Advance id moment → r ≡ reply.Refresh refresh → nat_lt t.steps ms ≡ true → Standing made h' id (waiting (OneRefresh refresh) t)
      refreshes moment refresh event answer first = record {
        progress = record {
          metadata = λ some made_one free. inr (
            refresh,
            refl,
            (
              length h + 1,
              e.0,
              moment,
              record {
                before = h;
                since = [];
                whole = ap (λ (v : Event). h ++ (e.0, v) ∷ []) event;
                place = refl;
                answered = ap (λ (v : Event). reply_to made h (e.0, v)) (sym event) ∙ answer;
              },
            ),
          );
          content = λ place item is low. absurd (let few = ltb-true t.steps ms first in omega (arith, few, low));
        };
        prepared = λ kind done. absurd (not_complete done);
      }

      module _ (over : nat_lt t.steps ms ≡ false) (place' : ℕ) (own : place' ≡ url_place t) (item' : UrlItem) (there : slice_get s.content_urls place' ≡ Some item') where
        metadata_done : (now : Option Awaited) → s.metadata_urls ≢ [] → t.job.emeta ≡ false → MetadataSo made h' id now
        metadata_done now some free = metadata_kept t.awaited now (λ refresh. none_awaited none (OneRefresh refresh))
            (had.progress.metadata some (let one = one_step s.metadata_urls some in let high = ltb-false t.steps ms over in omega (arith, one, high)) free)

        fetches : (moment fetch : ℕ) (plan : List Endpoint) → e.1 ≡ Advance id moment → r ≡ reply.Fetch fetch plan item'.target → Standing made h' id (waiting (OneFetch fetch) t)
        fetches moment fetch plan event answer = record {
          progress = record {
            metadata = λ some made_one free. metadata_done (Some (OneFetch fetch)) some free;
            content = λ place item is low. elim (cases_Bool (nat_lt (place + ms) t.steps)) [
              | inl before ↦ content_same s t.steps (t.steps + 1) t.awaited (Some (OneFetch fetch)) t.job.econtent place item.target (λ f. none_awaited none (OneFetch f))
                  (had.progress.content place item is (ltb-true (place + ms) t.steps before))
              | inr last ↦
                  let high = ltb-false (place + ms) t.steps last in
                  let now : place' ≡ place = own ∙ (let up = ltb-false t.steps ms over in omega (arith, high, low, up)) in
                  let same : item' ≡ item = same_Some item' item (sym there ∙ ap (slice_get s.content_urls) now ∙ is) in
                  inr (inr (
                    fetch,
                    refl,
                    omega (arith, high, low),
                    (
                      length h + 1,
                      e.0,
                      moment,
                      plan,
                      record {
                        before = h;
                        since = [];
                        whole = ap (λ (v : Event). h ++ (e.0, v) ∷ []) event;
                        place = refl;
                        answered = ap (λ (v : Event). reply_to made h (e.0, v)) (sym event) ∙ answer ∙ ap (λ (i : UrlItem). reply.Fetch fetch plan i.target) same;
                      },
                    ),
                  ))
            ];
          };
          prepared = λ kind done. absurd (not_complete done);
        }

        skips : Standing made h' id (skipped place' t)
        skips = record {
          progress = record {
            metadata = λ some made_one free. metadata_done t.awaited some free;
            content = λ place item is low. elim (cases_Bool (nat_lt (place + ms) t.steps)) [
              | inl before ↦ content_kept s t.steps (t.steps + 1) t.awaited t.awaited t.job.econtent (place' ∷ []) place item.target (λ f. none_awaited none (OneFetch f))
                  (had.progress.content place item is (ltb-true (place + ms) t.steps before))
              | inr last ↦
                  let high = ltb-false (place + ms) t.steps last in
                  let now : place' ≡ place = own ∙ (let up = ltb-false t.steps ms over in omega (arith, high, low, up)) in
                  inl (subst (Contains (t.job.econtent ++ place' ∷ [])) now (Contains-push t.job.econtent place'))
            ];
          };
          prepared = λ kind done. absurd (not_complete done);
        }

    -- it ends so
    ends_well : t.awaited ≡ None → EndsSo t Complete → t.job.spec.kind ≡ Preposition → IsPrepared made h' id s
    ends_well none (inl cancelled) kind = absurd (both_ways false refl (ap is_complete (sym cancelled.1)))
    ends_well none (inr (inl done)) kind = absurd (no_preposition t.job.spec.kind kind done.1)
    ends_well none (inr (inr (live, is, so, over, last))) kind =
        let free = no_error t.job.emeta t.job.econtent (sym so) in
        let up = ltb-false t.steps ms over in
        let all = none_above s.content_urls (url_place t) last in
        record {
          metadata = λ some. to_refreshed (had.progress.metadata some (let one = one_step s.metadata_urls some in omega (arith, one, up)) free.0);
          content = λ place item is. to_fetched place item (had.progress.content place item is (let low = get_below s.content_urls place item is in omega (arith, low, all, up))) free.1;
        }
      where
        to_refreshed : MetadataSo made h id t.awaited → WasRefreshed made h' id
        to_refreshed (inl x) = refreshed_longer x
        to_refreshed (inr (refresh, some, rest)) = absurd (none_awaited none (OneRefresh refresh) some)

        to_fetched : (place : ℕ) (item : UrlItem) → ContentSo made h id s t.steps t.awaited t.job.econtent place item.target → t.job.econtent ≡ [] → WasFetched made h' id item.target
        to_fetched place item (inl has) empty = absurd (not_in_none place (subst (λ (l : List ℕ). Contains l place) empty has))
        to_fetched place item (inr (inl x)) empty = fetched_longer x
        to_fetched place item (inr (inr (fetch, some, last, rest))) empty = absurd (none_awaited none (OneFetch fetch) some)

    to_prepared : (moment : ℕ) (status : JobStatus) → Is t (Ended status) ⊎ Is t (Ends status) → (before : JobStatus) → t.job.status ≡ before → is_complete before ≡ false → t.job.spec.kind ≡ Preposition → status ≡ Complete → IsPrepared made h' id s
    to_prepared moment status (inl tells) before is live kind done = absurd (both_ways (is_complete before) live (ap is_complete (sym is ∙ tells.0 ∙ done)))
    to_prepared moment status (inr tells) before is live kind done = ends_well tells.0 (subst (EndsSo t) done tells.1) kind

    ends_status : (moment : ℕ) (status : JobStatus) → Is t (Ended status) ⊎ Is t (Ends status) → (before : JobStatus) → t.job.status ≡ before → Standing made h' id (ended_as moment status before t)
    ends_status moment status tells Complete is = unchanged
    ends_status moment status tells Failed is = unchanged
    ends_status moment status tells Cancelled is = unchanged
    ends_status moment status tells Pending is = stays status moment (λ kind done. to_prepared moment status tells Pending is refl kind done)
    ends_status moment status tells Active is = stays status moment (λ kind done. to_prepared moment status tells Active is refl kind done)
    ends_status moment status tells Cancelling is = stays status moment (λ kind done. to_prepared moment status tells Cancelling is refl kind done)

    cancels : (moment : ℕ) (before : JobStatus) → t.job.status ≡ before → Standing made h' id (cancelled_from moment before t)
    cancels moment Pending is = stays Cancelled moment (λ kind done. absurd (both_ways false refl (ap is_complete done)))
    cancels moment Active is = stays Cancelling moment (λ kind done. absurd (both_ways false refl (ap is_complete done)))
    cancels moment Complete is = unchanged
    cancels moment Failed is = unchanged
    cancels moment Cancelling is = unchanged
    cancels moment Cancelled is = unchanged

    module _ (fetch : ℕ) (waits : t.awaited ≡ Some (OneFetch fetch)) where
      no_refresh : (refresh : ℕ) → t.awaited ≡ Some (OneRefresh refresh) → ⊥
      no_refresh refresh is = both_ways false refl (ap waits_for_fetch (sym is ∙ waits))

      fetch_ends : (came : Outcome) (moment : ℕ) (kept good : Bool) → is_fetched came ≡ good → e.1 ≡ FetchEnd fetch came moment → r ≡ reply.Ended kept → Standing made h' id (fetched good t)
      fetch_ends came moment kept true is event answer = record {
        progress = record {
          metadata = λ some made_one free. metadata_kept t.awaited None no_refresh (had.progress.metadata some made_one free);
          content = λ place item at low. to_content place item (had.progress.content place item at low);
        };
        prepared = λ kind done. prepared_longer s (had.prepared kind done);
      }
        where
          to_content : (place : ℕ) (item : UrlItem) → ContentSo made h id s t.steps t.awaited t.job.econtent place item.target → ContentSo made h' id s t.steps None t.job.econtent place item.target
          to_content place item (inl has) = inl has
          to_content place item (inr (inl x)) = inr (inl (fetched_longer x))
          to_content place item (inr (inr (number, some, last, (at, pass, then, plan, begun)))) =
              let so = fetched_so came is in
              let same : number ≡ fetch = ap fetch_in (sym some ∙ waits) in
              inr (inl (record {
                fetch = number;
                at = at;
                pass = pass;
                moment = then;
                plan = plan;
                begun = longer e begun;
                ended = length h + 1;
                by = e.0;
                got = so.0;
                end = moment;
                kept = kept;
                brought = record {
                  before = h;
                  since = [];
                  whole = ap (λ (v : Event). h ++ (e.0, v) ∷ []) (event ∙ ap (λ o. FetchEnd fetch o moment) so.1 ∙ ap (λ n. FetchEnd n (outcome.Got so.0) moment) (sym same));
                  place = refl;
                  answered = ap (λ (v : Event). reply_to made h (e.0, v)) (sym (event ∙ ap (λ o. FetchEnd fetch o moment) so.1 ∙ ap (λ n. FetchEnd n (outcome.Got so.0) moment) (sym same))) ∙ answer;
                };
                status = so.2;
              }))
      fetch_ends came moment kept false is event answer = record {
        progress = record {
          metadata = λ some made_one free. metadata_kept t.awaited None no_refresh (had.progress.metadata some made_one free);
          content = λ place item at low. to_content place item (had.progress.content place item at low);
        };
        prepared = λ kind done. prepared_longer s (had.prepared kind done);
      }
        where
          to_content : (place : ℕ) (item : UrlItem) → ContentSo made h id s t.steps t.awaited t.job.econtent place item.target
              → ContentSo made h' id s t.steps None (t.job.econtent ++ (url_place t - 1) ∷ []) place item.target
          to_content place item (inl has) = inl (Contains-append_left t.job.econtent ((url_place t - 1) ∷ []) place has)
          to_content place item (inr (inl x)) = inr (inl (fetched_longer x))
          to_content place item (inr (inr (number, some, last, rest))) =
              inl (subst (Contains (t.job.econtent ++ (url_place t - 1) ∷ [])) (omega (arith, last)) (Contains-push t.job.econtent (url_place t - 1)))

    module _ (refresh : ℕ) (waits : t.awaited ≡ Some (OneRefresh refresh)) where
      no_fetch : (fetch : ℕ) → t.awaited ≡ Some (OneFetch fetch) → ⊥
      no_fetch fetch is = both_ways false refl (ap waits_for_fetch (sym waits ∙ is))

      refresh_ends : (tree : Option TreeData) (moment : ℕ) (good : Bool) → is_installed r ≡ good → e.1 ≡ RefreshEnd refresh tree moment → Standing made h' id (refreshed good t)
      refresh_ends tree moment true is event = record {
        progress = record {
          metadata = λ some made_one free. inl (to_metadata (had.progress.metadata some made_one free));
          content = λ place item at low. content_same s t.steps t.steps t.awaited None t.job.econtent place item.target no_fetch (had.progress.content place item at low);
        };
        prepared = λ kind done. prepared_longer s (had.prepared kind done);
      }
        where
          to_metadata : MetadataSo made h id t.awaited → WasRefreshed made h' id
          to_metadata (inl x) = refreshed_longer x
          to_metadata (inr (number, some, (at, pass, then, begun))) =
              let so = installed_so r is in
              let same : number ≡ refresh = ap refresh_in (sym some ∙ waits) in
              record {
                refresh = number;
                at = at;
                pass = pass;
                moment = then;
                begun = longer e begun;
                ended = length h + 1;
                by = e.0;
                tree = tree;
                end = moment;
                generation = so.0;
                installed = record {
                  before = h;
                  since = [];
                  whole = ap (λ (v : Event). h ++ (e.0, v) ∷ []) (event ∙ ap (λ n. RefreshEnd n tree moment) (sym same));
                  place = refl;
                  answered = ap (λ (v : Event). reply_to made h (e.0, v)) (sym (event ∙ ap (λ n. RefreshEnd n tree moment) (sym same))) ∙ so.1;
                };
              }
      refresh_ends tree moment false is event = record {
        progress = record {
          metadata = λ some made_one free. absurd (both_ways true free refl);
          content = λ place item at low. content_same s t.steps t.steps t.awaited None t.job.econtent place item.target no_fetch (had.progress.content place item at low);
        };
        prepared = λ kind done. prepared_longer s (had.prepared kind done);
      }

  stands : ((t : Trigger) → trigger_of id (world_of made h).controlling.triggers ≡ Some t → Standing made h id t) → (u : Trigger) → Comes (world_of made h) e r id u → Standing made h' id u
  stands old u (Stays found) = unchanged u (old u found)
  stands old u (IsMade spec moment event answer is) = subst (Standing made h' id) (sym is) (record {
    progress = record { metadata = λ some made_one free. absurd (omega (arith, made_one)); content = λ place item at low. absurd (omega (arith, low)) };
    prepared = λ kind done. absurd (both_ways false refl (ap is_complete done));
  })
  stands old u (Begins t moment found event answer tells is) = subst (Standing made h' id) (sym is) (record {
    progress = progress_longer t.job.spec.selection t.steps t.awaited t.job.emeta t.job.econtent (old t found).progress;
    prepared = λ kind done. absurd (both_ways false refl (ap is_complete done));
  })
  stands old u (Refreshing t moment refresh found event answer tells is) = subst (Standing made h' id) (sym is) (refreshes t (old t found) tells.0.0 tells.0.2 moment refresh event answer tells.1)
  stands old u (Fetching t moment fetch place item plan found event answer tells is) = subst (Standing made h' id) (sym is)
      (fetches t (old t found) tells.0.0 tells.0.2 tells.1 place tells.2 item tells.3 moment fetch plan event answer)
  stands old u (Skipping t moment place item found event answer tells is) = subst (Standing made h' id) (sym is) (skips t (old t found) tells.0.0 tells.0.2 tells.1 place tells.2 item tells.3)
  stands old u (Ending t moment status found event answer tells is) = subst (Standing made h' id) (sym is) (ends_status t (old t found) moment status tells t.job.status refl)
  stands old u (FetchEnds t fetch outcome moment kept found event answer awaits is) = subst (Standing made h' id) (sym is) (fetch_ends t (old t found) fetch (fetch_awaited fetch t.awaited awaits) outcome moment kept (is_fetched outcome) refl event answer)
  stands old u (RefreshEnds t refresh tree moment good found event installs awaits is) = subst (Standing made h' id) (sym is) (refresh_ends t (old t found) refresh (refresh_awaited refresh t.awaited awaits) tree moment good installs event)
  stands old u (Cancels t ids moment list found event answer is) = subst (Standing made h' id) (sym is) (cancels t (old t found) moment t.job.status refl)

-- ---- over histories

abbrev AllStand : Made → History → Type 0
AllStand made h = (id : ℕ) (t : Trigger) → trigger_of id (world_of made h).controlling.triggers ≡ Some t → Standing made h id t

all_push : (made : Made) (h : History) (e : Entry) → AllStand made h → AllStand made (h ++ e ∷ [])
all_push made h e old id u found = stands made h e id (old id) u
    (comes (world_of made h) id u e (sym (ap (λ (v : World). trigger_of id v.controlling.triggers) (world_push made h e) ∙ ap (trigger_of id) (triggers_are (world_of made h) e)) ∙ found))

all_stand : (made : Made) (h : History) → AllStand made h
all_stand made = from_right (AllStand made) (λ id t found. absurd (none-some t (sym (ap (λ (v : World). trigger_of id v.controlling.triggers) (world_none made)) ∙ found))) (all_push made)

pub is_prepared : (made : Made) (h : History) (id : ℕ) (t : Trigger) → trigger_of id (world_of made h).controlling.triggers ≡ Some t → t.job.spec.kind ≡ Preposition → t.job.status ≡ Complete
    → IsPrepared made h id t.job.spec.selection
is_prepared made h id t found = (all_stand made h id t found).prepared
