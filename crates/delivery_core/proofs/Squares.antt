-- What an entry leaves of the edge is what the edge's own call leaves: one square a call, over the definitions alone.
use Rattle.std.proofs.Common.{◌≡◌, ℕ, ◌+◌, ◌<◌, ◌≤◌, ◌==◌, nat_lt, Bool, true, false, cond, not, ◌&&◌, ◌||◌, All, List, [], ◌∷◌, ◌++◌, length, map, None, Some, option_to_list, refl, sym, ap, ◌∙◌, arith, Option}
use Rattle.std.specs.List.{filter, find, list_any}
use Rattle.std.specs.Option.{is_some, option_and_then, option_map, option_map_or, option_or}
use Rattle.std.proofs.lemmas.Bool.{le-ltb, lt-ltb, ltb-false, or_parts}
use Rattle.std.proofs.lemmas.List.{append-nil, length-append, length-map, map-append}
use Rattle.std.proofs.lemmas.List.Elements.{All-head, All-tail, All-weaker, filter-append}
use Rattle.std.proofs.lemmas.List.Folds.{find-append, list_any-append}
use Rattle.std.proofs.lemmas.Option.{none-some}
use Rattle.cdni_base.specs.Key.{KeyParts}
use Rattle.cdni_base.specs.declared.rule.Rule.{Rule}
use Rattle.metadata_objects.specs.LevelData.{Index}
use Rattle.metadata_objects.specs.Tree.{TreeData}
use Rattle.metadata_objects.specs.declared.generic.Generic.{Generic}
use Rattle.targets.specs.declared.endpoint.Endpoint.{Endpoint}
use Rattle.targets.specs.declared.target.Target.{Target}
use Rattle.trigger_command.specs.Selection.{hits, hits_metadata, pattern_hits, url_hits}
use Rattle.trigger_command.specs.Spec.{SpecParts}
use Rattle.trigger_command.specs.declared.selection.PatternItem.{PatternItem}
use Rattle.trigger_command.specs.declared.selection.Selection.{Selection}
use Rattle.trigger_command.specs.declared.selection.UrlItem.{UrlItem}
use Rattle.trigger_command.specs.declared.spec.TriggerKind.{TriggerKind}
use Rattle.trigger_command.specs.declared.spec.TriggerKind.TheVariants.{Preposition, Invalidate, Purge}
use Rattle.trigger_status.specs.declared.job.Filter.{Filter}
use Rattle.trigger_status.specs.declared.job.Job.{Job}
use Rattle.trigger_status.specs.declared.job.JobStatus.{JobStatus}
use Rattle.upstream_gate.specs.declared.outcome.Outcome.{Outcome}
use Rattle.cdni_log.specs.declared.row.Row.{Row}
use Rattle.history.specs.After.{admission, after, after_reply, closed, fetching, installed_by, new_rows, opened_by, position, recorded, row_of, start_by, start_of}
use Rattle.history.specs.Event.{Event, Request, Admit, FetchEnd, Finish, RefreshBegin, RefreshEnd, Command, Advance, Cancel, Delete, ReadStatus, Lists, Cut, DropLog, LogFile, ListLogs}
use Rattle.history.specs.Kept.{is_hit_since, kept_of, unhit as unhit_since, used, with_gained}
use Rattle.history.specs.Metadata.{ccid_at, forbidden, is_skipped, key_at, key_by, objects_of, plan_at}
use Rattle.history.specs.Reply as replies
use Rattle.history.specs.Reply.{allowed_reply, judged_reply, pending, reply_in}
use Rattle.history.specs.Steps as steps
use Rattle.history.specs.Steps.{trigger_of}
use Rattle.history.specs.World.{Begun, Installed, Kept, Start, Trigger, World, is_open}
use Rattle.history.specs.declared.begun.Admission.{Admission}
use Rattle.history.specs.declared.begun.Fetching.{Fetching}
use Rattle.history.specs.declared.reply.Reply.{Reply}
use Rattle.history.specs.declared.reply.Reply.TheVariants as reply
use Rattle.shelf.proofs.ListLemmas.{find-map, filter-map, filter_same}
use Rattle.delivery_core.specs.Edge.{EdgeView, admit_after, admit_after_by, admit_reply, admit_reply_by, allowed_by, begin_after, decided, decision_of, entered, entered_reply, fetch_end_after, fetch_end_reply, finish_after, finish_reply, fresh_reply, index_of, install_after, install_reply, invalid_of, newer, newer_than, next_after, next_by, next_due, plan_after, plan_after_by, plan_reply, refresh_end_after, refresh_end_reply, skips, sourced, start_after, with_flight, without_refresh}
use Rattle.delivery_core.specs.Installed.{Seen, invalid_by, invalidated}
use Rattle.shelf.specs.Open.{is_named, unnamed}
use Rattle.delivery_core.specs.Refreshes.{Refreshing, first_noted, metadata_of, noted_of, selects_metadata, with_starts}
use Rattle.shelf.specs.KeptShelf.{struck}
use Rattle.delivery_core.specs.Traces.{IsPlaced, edge_of, fetch_ended, finished, flight, is_noted, note_of, noted_since, refresh_ended, refreshing, reply_of, row_in, seen, unplaced}
use Rattle.delivery_core.specs.declared.decision.Decision.{Decision}
use Rattle.delivery_core.specs.declared.decision.Decision.TheVariants as decision
use Rattle.shelf.specs.declared.open.Open.{Open}
use Rattle.delivery_core.specs.declared.refreshes.Noted.{Noted}
use Rattle.delivery_core.specs.declared.results.Planned.{Planned}
use Rattle.shelf.specs.declared.kept_shelf.Flight.{Flight}
use Rattle.delivery_core.specs.declared.results.Began.TheVariants as began

pair_is : {A B : Type 0} {a a' : A} {b b' : B} → a ≡ a' → b ≡ b' → ◌≡◌ {A = A × B} (a, b) (a', b')
pair_is p q i = (p i, q i)

-- ---- rows

-- where no row is written the unfiled rows are as before
same_rows : (w : World) → map row_in (w.delivering.unfiled ++ []) ≡ map row_in w.delivering.unfiled
same_rows w = ap (map row_in) (append-nil w.delivering.unfiled)

-- ---- starts and positions

cons_is : {A : Type 0} {x y : A} {xs ys : List A} → x ≡ y → xs ≡ ys → x ∷ xs ≡ y ∷ ys
cons_is p q i = p i ∷ q i

same_some : {A : Type 0} {a b : A} → Some a ≡ Some b → a ≡ b
same_some is = cc

or_nothing : (t : Bool) → (t || false) ≡ t
or_nothing true = refl
or_nothing false = refl

-- the starts of a history are not after its next entry
starts_before : (w : World) → IsPlaced w → All (λ start. start.at ≤ position w) w.delivering.starts
starts_before w placed = All-weaker (λ start. start.at ≤ w.entries) (λ start. start.at ≤ position w) (λ start at. omega (arith, at)) w.delivering.starts placed.starts

-- what begins here is hit by no start before, and has to know of none
never_hit : (starts : List Start) (at : ℕ) (key : KeyParts) (ccid : Option (List ℕ)) → All (λ start. start.at ≤ at) starts → is_hit_since starts at key ccid ≡ false
never_hit [] at key ccid before = refl
never_hit (start ∷ starts) at key ccid before =
    ap (λ t. (t && hits start.selection key ccid) || is_hit_since starts at key ccid) (le-ltb at start.at (All-head (λ (s : Start). s.at ≤ at) start starts before))
    ∙ never_hit starts at key ccid (All-tail (λ (s : Start). s.at ≤ at) start starts before)

none_noted : (at : ℕ) (starts : List Start) → All (λ start. start.at ≤ at) starts → noted_since at starts ≡ []
none_noted at [] before = refl
none_noted at (start ∷ starts) before =
    ap (λ t. map note_of (cond (t && selects_metadata start.selection) (start ∷ filter (is_noted at) starts) (filter (is_noted at) starts))) (le-ltb at start.at (All-head (λ (s : Start). s.at ≤ at) start starts before))
    ∙ none_noted at starts (All-tail (λ (s : Start). s.at ≤ at) start starts before)

-- a selection without metadata URLs and patterns hits no document
no_metadata : (urls : List UrlItem) (patterns : List PatternItem) (resource : KeyParts) → (nat_lt 0 (length urls) || nat_lt 0 (length patterns)) ≡ false
    → (list_any (url_hits resource) urls || list_any (pattern_hits resource) patterns) ≡ false
no_metadata [] [] resource none = refl
no_metadata [] (item ∷ patterns) resource none = let none' = ltb-false 0 (length (item ∷ patterns)) none in absurd (omega (arith, none'))
no_metadata (item ∷ urls) patterns resource none =
    let none' = ltb-false 0 (length (item ∷ urls)) (or_parts (nat_lt 0 (length (item ∷ urls))) (nat_lt 0 (length patterns)) none).0 in absurd (omega (arith, none'))

selects_none : (selection : Selection) (resources : List KeyParts) → selects_metadata selection ≡ false → list_any (hits_metadata selection) resources ≡ false
unfolding hits_metadata
selects_none selection [] none = refl
selects_none selection (resource ∷ resources) none =
    ap (λ t. t || list_any (hits_metadata selection) resources) (no_metadata selection.metadata_urls selection.metadata_patterns resource none) ∙ selects_none selection resources none

same_hits : (selection : Selection) (resources : List KeyParts) → list_any (hits_metadata (metadata_of selection)) resources ≡ list_any (hits_metadata selection) resources
unfolding hits_metadata
same_hits selection [] = refl
same_hits selection (resource ∷ resources) = ap (λ t. hits_metadata selection resource || t) (same_hits selection resources)

-- the first start that hits is one of those that a refresh has to know
module _ (resources : List KeyParts) (start : Start) (starts : List Start) (notes : List Noted) (rest : Option Start) (later : first_noted resources notes ≡ option_map (λ (s : Start). s.trigger) rest) where
  abbrev trigger_of_first : Bool → Option ℕ
  trigger_of_first hit = option_map (λ (s : Start). s.trigger) (cond hit (Some start) rest)

  note_found : (t : Bool) → list_any (hits_metadata (metadata_of start.selection)) resources ≡ t → first_noted resources (note_of start ∷ notes) ≡ trigger_of_first t
  note_found true is = ap (λ t. option_map (λ (n : Noted). n.trigger) (cond t (Some (note_of start)) (find (λ (n : Noted). list_any (hits_metadata n.selection) resources) notes))) is
  note_found false is =
      ap (λ t. option_map (λ (n : Noted). n.trigger) (cond t (Some (note_of start)) (find (λ (n : Noted). list_any (hits_metadata n.selection) resources) notes))) is ∙ later

  start_found : (selects : Bool) → selects_metadata start.selection ≡ selects
      → first_noted resources (cond selects (note_of start ∷ notes) notes) ≡ trigger_of_first (list_any (hits_metadata start.selection) resources)
  start_found false is = later ∙ sym (ap trigger_of_first (selects_none start.selection resources is))
  start_found true is = note_found (list_any (hits_metadata start.selection) resources) (same_hits start.selection resources)

map_cond : (t : Bool) (start : Start) (starts : List Start) → map note_of (cond t (start ∷ starts) starts) ≡ cond t (note_of start ∷ map note_of starts) (map note_of starts)
map_cond true start starts = refl
map_cond false start starts = refl

first_noted_is : (at : ℕ) (resources : List KeyParts) (starts : List Start) → first_noted resources (noted_since at starts) ≡ steps.first_hit starts at resources
first_noted_is at resources [] = refl
first_noted_is at resources (start ∷ starts) = after_by (nat_lt at start.at) (first_noted_is at resources starts)
  where
    after_by : (t : Bool) → first_noted resources (noted_since at starts) ≡ steps.first_hit starts at resources
        → first_noted resources (map note_of (cond (t && selects_metadata start.selection) (start ∷ filter (is_noted at) starts) (filter (is_noted at) starts)))
        ≡ option_map (λ (s : Start). s.trigger) (cond (t && list_any (hits_metadata start.selection) resources) (Some start) (find (λ (s : Start). nat_lt at s.at && list_any (hits_metadata s.selection) resources) starts))
    after_by false later = later
    after_by true later =
        ap (first_noted resources) (map_cond (selects_metadata start.selection) start (filter (is_noted at) starts))
        ∙ start_found resources start starts (noted_since at starts) (find (λ (s : Start). nat_lt at s.at && list_any (hits_metadata s.selection) resources) starts) later (selects_metadata start.selection) refl

-- ---- metadata

index_seen : (starts : List Start) (tree : Option Installed) → option_map (λ s. s.tree.index) (option_map (seen starts) tree) ≡ option_map (λ (i : Installed). i.tree.index) tree
index_seen starts None = refl
index_seen starts (Some i) = refl

invalid_seen : (starts : List Start) (tree : Option Installed) → option_and_then (λ s. s.invalid) (option_map (seen starts) tree)
    ≡ option_and_then (λ (i : Installed). steps.first_hit starts i.at i.tree.resources) tree
invalid_seen starts None = refl
invalid_seen starts (Some i) = refl

module _ (w : World) where
  pub index_is : index_of (edge_of w) ≡ steps.index_of w.delivering
  index_is = index_seen w.delivering.starts w.delivering.tree

  pub invalid_is : invalid_of (edge_of w) ≡ steps.invalid_of w.delivering
  invalid_is = invalid_seen w.delivering.starts w.delivering.tree

-- ---- what begins here

-- no start has hit it, and none has to be known
flights_push : (w : World) → IsPlaced w → (pass : ℕ) (what : Fetching)
    → map (flight w.delivering.starts) (w.delivering.fetches ++ record { number = w.counts.fetched + 1; pass = pass; at = position w; what = what } ∷ []) ≡ with_flight (edge_of w) pass what
flights_push w placed pass what =
    map-append (flight w.delivering.starts) w.delivering.fetches _
    ∙ ap (λ hit. map (flight w.delivering.starts) w.delivering.fetches ++ record { number = w.counts.fetched + 1; pass = pass; what = record { fetching = what; hit = hit } } ∷ []) (never_hit w.delivering.starts (position w) what.key what.ccid (starts_before w placed))

refreshes_push : (w : World) → IsPlaced w → (pass refresh moment : ℕ)
    → map (refreshing w.delivering.starts) (w.delivering.refreshes ++ record { number = refresh; pass = pass; at = position w; what = moment } ∷ [])
    ≡ (edge_of w).refreshes ++ record { number = refresh; pass = pass; what = record { moment = moment; since = [] } } ∷ []
refreshes_push w placed pass refresh moment =
    map-append (refreshing w.delivering.starts) w.delivering.refreshes _
    ∙ ap (λ since. map (refreshing w.delivering.starts) w.delivering.refreshes ++ record { number = refresh; pass = pass; what = record { moment = moment; since = since } } ∷ []) (none_noted (position w) w.delivering.starts (starts_before w placed))

-- ---- a request

module _ (w : World) (pass : ℕ) (request : Request) (moment : ℕ) where
  abbrev v : EdgeView
  v = edge_of w

  abbrev index : Option Index
  index = steps.index_of w.delivering

  abbrev invalid : Option ℕ
  invalid = steps.invalid_of w.delivering

  abbrev rule : Option Rule
  rule = forbidden index invalid request.asked request.place moment

  -- what is decided of it, by what the history has left
  abbrev taken : Decision
  taken = decided index v.kept request.asked.target rule

  taken_is : decision_of v request.asked request.place moment ≡ taken
  taken_is =
      ap (λ i. decided i v.kept request.asked.target (forbidden i (invalid_of v) request.asked request.place moment)) (index_is w)
      ∙ ap (λ t. decided index v.kept request.asked.target (forbidden index t request.asked request.place moment)) (invalid_is w)

  found_is : (objects : List Generic) → objects ≡ objects_of index request.asked.target → (found : Option Kept)
      → reply_of (entered_reply v (allowed_by objects request.asked.target found)) ≡ allowed_reply w request.asked found
  found_is objects is None = ap (λ os. reply_of (entered_reply v (allowed_by os request.asked.target None))) is
  found_is objects is (Some kept) = refl

  entered_is : (rule : Option Rule) → reply_of (entered_reply v (decided index v.kept request.asked.target rule)) ≡ judged_reply w request.asked rule
  entered_is (Some forbids) = refl
  entered_is None = found_is (objects_of index request.asked.target) refl (kept_of (key_by (objects_of index request.asked.target) request.asked.target) w.delivering.kept)

  pending_is : length (map unplaced w.delivering.deliveries) + length (map row_in w.delivering.unfiled) ≡ pending w.delivering
  pending_is = omega (arith, length-map w.delivering.deliveries unplaced, length-map w.delivering.unfiled row_in)

  limited : (full many : Bool) (n : ℕ) (d : Decision) (r : Reply) → reply_of (entered_reply v d) ≡ r
      → reply_of (admit_reply_by v d (cond full (Some n) (cond many (Some w.counts.opened) None))) ≡ cond full (reply.Full n) (cond many (reply.Full w.counts.opened) r)
  limited true many n d r is = refl
  limited false true n d r is = refl
  limited false false n d r is = is

  pub admit_replies : reply_of (admit_reply v w.counts.opened request.asked request.place moment) ≡ reply_in w (pass, Admit request moment)
  unfolding reply_in
  admit_replies =
      ap (λ n. reply_of (admit_reply_by v (decision_of v request.asked request.place moment) (cond (n == w.made.limits.rows) (Some n) (cond (w.counts.opened == w.made.limits.opened) (Some w.counts.opened) None)))) pending_is
      ∙ limited (pending w.delivering == w.made.limits.rows) (w.counts.opened == w.made.limits.opened) (pending w.delivering) _ _
      (ap (λ d. reply_of (entered_reply v d)) taken_is ∙ entered_is rule)

  found_after : IsPlaced w → (found : Option Kept) → edge_of (after_reply w (pass, Admit request moment) (allowed_reply w request.asked found)) ≡ entered v pass (admission request moment None false) (allowed_by (objects_of index request.asked.target) request.asked.target found)
  unfolding after_reply
  found_after placed None = ap (λ (lists : (List (Open Flight) × List (Open Admission)) × List Row). record v { fetches = lists.0.0; fetched = w.counts.fetched + 1; deliveries = lists.0.1; delivered = w.counts.delivered + 1; unfiled = lists.1 })
      (pair_is (pair_is (flights_push w placed pass (fetching w request.asked.target)) (map-append unplaced w.delivering.deliveries _)) (same_rows w))
  found_after placed (Some kept) = ap (λ (lists : List (Open Admission) × List Row). record v { kept = used (key_by (objects_of index request.asked.target) request.asked.target) w.delivering.kept; deliveries = lists.0; delivered = w.counts.delivered + 1; unfiled = lists.1 })
      (pair_is (map-append unplaced w.delivering.deliveries _) (same_rows w))

  denied_after : (rule : Rule) → edge_of (after_reply w (pass, Admit request moment) (reply.Denied (w.counts.delivered + 1) rule)) ≡ entered v pass (admission request moment None false) (decision.Deny rule)
  unfolding after_reply
  denied_after forbids = ap (λ (lists : List (Open Admission) × List Row). record v { deliveries = lists.0; delivered = w.counts.delivered + 1; unfiled = lists.1 })
      (pair_is (map-append unplaced w.delivering.deliveries _) (same_rows w))

  full_after : (n : ℕ) → edge_of (after_reply w (pass, Admit request moment) (reply.Full n)) ≡ v
  unfolding after_reply
  full_after n = ap (λ rows. record v { unfiled = rows }) (same_rows w)

  judged_after : IsPlaced w → (rule : Option Rule) → edge_of (after_reply w (pass, Admit request moment) (judged_reply w request.asked rule)) ≡ entered v pass (admission request moment None false) (decided index v.kept request.asked.target rule)
  judged_after placed (Some forbids) = denied_after forbids
  judged_after placed None = found_after placed (kept_of (key_by (objects_of index request.asked.target) request.asked.target) w.delivering.kept)

  limited_after : (full many : Bool) (n : ℕ) (d : Decision) (r : Reply) → edge_of (after_reply w (pass, Admit request moment) r) ≡ entered v pass (admission request moment None false) d
      → edge_of (after_reply w (pass, Admit request moment) (cond full (reply.Full n) (cond many (reply.Full w.counts.opened) r)))
      ≡ admit_after_by v pass (admission request moment None false) d (cond full (Some n) (cond many (Some w.counts.opened) None))
  limited_after true many n d r is = full_after n
  limited_after false true n d r is = full_after w.counts.opened
  limited_after false false n d r is = is

  pub admit_leaves : IsPlaced w → edge_of (after w (pass, Admit request moment)) ≡ admit_after v pass w.counts.opened request moment
  unfolding reply_in after
  admit_leaves placed =
      limited_after (pending w.delivering == w.made.limits.rows) (w.counts.opened == w.made.limits.opened) (pending w.delivering) taken _ (judged_after placed rule)
      ∙ sym (ap (λ d. admit_after_by v pass (admission request moment None false) d (cond (pending w.delivering == w.made.limits.rows) (Some (pending w.delivering)) (cond (w.counts.opened == w.made.limits.opened) (Some w.counts.opened) None))) taken_is)
      ∙ sym (ap (λ n. admit_after_by v pass (admission request moment None false) (decision_of v request.asked request.place moment) (cond (n == w.made.limits.rows) (Some n) (cond (w.counts.opened == w.made.limits.opened) (Some w.counts.opened) None))) pending_is)

-- ---- the end of a fetch

module _ (w : World) (pass fetch : ℕ) (outcome : Outcome) (moment : ℕ) where
  found_named : find (is_named fetch pass) (map (flight w.delivering.starts) w.delivering.fetches) ≡ option_map (flight w.delivering.starts) (find (is_open fetch pass) w.delivering.fetches)
  found_named = find-map (flight w.delivering.starts) (is_named fetch pass) w.delivering.fetches

  fetch_end_by : (found : Option (Begun Fetching)) → fetch_ended fetch (fetch_end_reply (edge_of w) outcome (option_map (flight w.delivering.starts) found)) ≡ replies.fetch_end_reply w fetch outcome found
  fetch_end_by None = refl
  fetch_end_by (Some begun) = refl

  pub fetch_end_replies : fetch_ended fetch (fetch_end_reply (edge_of w) outcome (find (is_named fetch pass) (edge_of w).fetches)) ≡ reply_in w (pass, FetchEnd fetch outcome moment)
  unfolding reply_in
  fetch_end_replies = ap (λ f. fetch_ended fetch (fetch_end_reply (edge_of w) outcome f)) found_named ∙ fetch_end_by (find (is_open fetch pass) w.delivering.fetches)

  fetch_end_leaves_by : (found : Option (Begun Fetching)) → find (is_open fetch pass) w.delivering.fetches ≡ found
      → edge_of (after_reply w (pass, FetchEnd fetch outcome moment) (replies.fetch_end_reply w fetch outcome found)) ≡ fetch_end_after (edge_of w) pass fetch outcome (option_map (flight w.delivering.starts) found)
  unfolding after_reply
  fetch_end_leaves_by None is =
      ap (λ (x : (List (Begun Fetching) × Option (Begun Fetching)) × List Row). record (edge_of w) { fetches = map (flight w.delivering.starts) x.0.0; kept = with_gained w.made.limits.cache w.delivering.kept (option_and_then (replies.gained_of w outcome) x.0.1); unfiled = x.1 })
      (pair_is (pair_is (filter_same (is_open fetch pass) w.delivering.fetches is) is) (same_rows w))
  fetch_end_leaves_by (Some begun) is =
      ap (λ (x : (List (Open Flight) × Option (Begun Fetching)) × List Row). record (edge_of w) { fetches = x.0.0; kept = with_gained w.made.limits.cache w.delivering.kept (option_and_then (replies.gained_of w outcome) x.0.1); unfiled = x.1 })
      (pair_is (pair_is (sym (filter-map (flight w.delivering.starts) (λ one. not (is_named fetch pass one)) w.delivering.fetches)) is) (same_rows w))

  pub fetch_end_leaves : edge_of (after w (pass, FetchEnd fetch outcome moment)) ≡ fetch_end_after (edge_of w) pass fetch outcome (find (is_named fetch pass) (edge_of w).fetches)
  unfolding after reply_in
  fetch_end_leaves = fetch_end_leaves_by (find (is_open fetch pass) w.delivering.fetches) refl ∙ sym (ap (fetch_end_after (edge_of w) pass fetch outcome) found_named)

  opens_none : (found : Option (Begun Fetching)) → w.counts.opened + opened_by (replies.fetch_end_reply w fetch outcome found) ≡ w.counts.opened
  opens_none None = omega arith
  opens_none (Some begun) = omega arith

  pub fetch_end_opens : (after w (pass, FetchEnd fetch outcome moment)).counts.opened ≡ w.counts.opened
  unfolding after after_reply reply_in
  fetch_end_opens = opens_none (find (is_open fetch pass) w.delivering.fetches)

-- ---- the end of a delivery

any_found : {A : Type 0} (test : A → Bool) (xs : List A) → list_any test xs ≡ is_some (find test xs)
any_found test [] = refl
any_found test (x ∷ xs) = elim (test x) as (λ t. (t || list_any test xs) ≡ is_some (cond t (Some x) (find test xs))) [
  | true ↦ refl
  | false ↦ any_found test xs
]

module _ (w : World) (pass delivery status total entity moment : ℕ) where
  abbrev finish : Event
  finish = Finish delivery status total entity moment

  abbrev row : Admission → Row
  row = row_of status total entity moment

  delivery_named : find (is_named delivery pass) (map unplaced w.delivering.deliveries) ≡ option_map unplaced (find (is_open delivery pass) w.delivering.deliveries)
  delivery_named = find-map unplaced (is_named delivery pass) w.delivering.deliveries

  finish_by : (found : Option (Begun Admission)) → finished delivery (finish_reply (edge_of w) (option_map unplaced found)) ≡ replies.finish_reply w delivery (is_some found)
  finish_by None = refl
  finish_by (Some begun) = refl

  found_is_any : replies.finish_reply w delivery (list_any (is_open delivery pass) w.delivering.deliveries) ≡ replies.finish_reply w delivery (is_some (find (is_open delivery pass) w.delivering.deliveries))
  found_is_any = ap (replies.finish_reply w delivery) (any_found (is_open delivery pass) w.delivering.deliveries)

  pub finish_replies : finished delivery (finish_reply (edge_of w) (find (is_named delivery pass) (edge_of w).deliveries)) ≡ reply_in w (pass, finish)
  unfolding reply_in
  finish_replies = ap (λ f. finished delivery (finish_reply (edge_of w) f)) delivery_named ∙ finish_by (find (is_open delivery pass) w.delivering.deliveries) ∙ sym found_is_any

  new_rows_by : (found : Option (Begun Admission)) → find (is_open delivery pass) w.delivering.deliveries ≡ found
      → map row_in (w.delivering.unfiled ++ new_rows w (pass, finish)) ≡ map row_in (w.delivering.unfiled ++ option_to_list (option_map (recorded (position w) status total entity moment) found))
  new_rows_by found is = ap (λ f. map row_in (w.delivering.unfiled ++ option_to_list (option_map (recorded (position w) status total entity moment) f))) is

  finish_leaves_by : (found : Option (Begun Admission)) → find (is_open delivery pass) w.delivering.deliveries ≡ found
      → edge_of (after_reply w (pass, finish) (replies.finish_reply w delivery (is_some found))) ≡ finish_after (edge_of w) pass delivery row (option_map unplaced found)
  unfolding after_reply
  finish_leaves_by None is =
      ap (λ (x : List (Open Admission) × List Row). record (edge_of w) { deliveries = x.0; unfiled = x.1 })
      (pair_is (ap (map unplaced) (filter_same (is_open delivery pass) w.delivering.deliveries is)) (new_rows_by None is ∙ same_rows w))
  finish_leaves_by (Some begun) is =
      ap (λ (x : List (Open Admission) × List Row). record (edge_of w) { deliveries = x.0; unfiled = x.1; logged = w.counts.logged + 1 })
      (pair_is (sym (filter-map unplaced (λ one. not (is_named delivery pass one)) w.delivering.deliveries)) (new_rows_by (Some begun) is ∙ map-append row_in w.delivering.unfiled _))

  pub finish_leaves : edge_of (after w (pass, finish)) ≡ finish_after (edge_of w) pass delivery row (find (is_named delivery pass) (edge_of w).deliveries)
  unfolding after reply_in
  finish_leaves = ap (λ r. edge_of (after_reply w (pass, finish) r)) found_is_any ∙ finish_leaves_by (find (is_open delivery pass) w.delivering.deliveries) refl
      ∙ sym (ap (finish_after (edge_of w) pass delivery row) delivery_named)

  finish_opens_by : (found : Bool) → w.counts.opened + opened_by (replies.finish_reply w delivery found) ≡ w.counts.opened
  finish_opens_by true = omega arith
  finish_opens_by false = omega arith

  pub finish_opens : (after w (pass, finish)).counts.opened ≡ w.counts.opened
  unfolding after after_reply reply_in
  finish_opens = finish_opens_by (list_any (is_open delivery pass) w.delivering.deliveries)

-- ---- a refresh begins

module _ (w : World) (pass moment : ℕ) where
  due_some : (installed : Installed) (t : Option ℕ) → next_by w.made.limits.period moment (seen w.delivering.starts installed) t ≡ replies.next_due w.made.limits.period moment t (Some installed)
  due_some installed None = refl
  due_some installed (Some trigger) = refl

  due_by : (tree : Option Installed) → option_and_then (next_after w.made.limits.period moment) (option_map (seen w.delivering.starts) tree)
      ≡ replies.next_due w.made.limits.period moment (option_and_then (λ (i : Installed). steps.first_hit w.delivering.starts i.at i.tree.resources) tree) tree
  due_by None = refl
  due_by (Some installed) = due_some installed (steps.first_hit w.delivering.starts installed.at installed.tree.resources)

  due_is : next_due (edge_of w) moment ≡ replies.next_due w.made.limits.period moment (steps.invalid_of w.delivering) w.delivering.tree
  due_is = due_by w.delivering.tree

  pub not_due_replies : (next : ℕ) → next_due (edge_of w) moment ≡ Some next → reply_in w (pass, RefreshBegin moment) ≡ reply.NotDue next
  unfolding reply_in
  not_due_replies next is = ap (replies.begin_reply w) (sym due_is ∙ is)

  begun_replies : next_due (edge_of w) moment ≡ None → reply_in w (pass, RefreshBegin moment) ≡ replies.opening w (reply.Due (w.counts.refreshed + 1))
  unfolding reply_in
  begun_replies is = ap (replies.begin_reply w) (sym due_is ∙ is)

  pub full_replies : next_due (edge_of w) moment ≡ None → (w.counts.opened == w.made.limits.opened) ≡ true → reply_in w (pass, RefreshBegin moment) ≡ reply.Full w.counts.opened
  full_replies is full = begun_replies is ∙ ap (λ t. cond t (reply.Full w.counts.opened) (reply.Due (w.counts.refreshed + 1))) full

  pub due_replies : next_due (edge_of w) moment ≡ None → (w.counts.opened == w.made.limits.opened) ≡ false → reply_in w (pass, RefreshBegin moment) ≡ reply.Due (w.counts.refreshed + 1)
  due_replies is full = begun_replies is ∙ ap (λ t. cond t (reply.Full w.counts.opened) (reply.Due (w.counts.refreshed + 1))) full

  pub not_due_leaves : (next : ℕ) → edge_of (after_reply w (pass, RefreshBegin moment) (reply.NotDue next)) ≡ edge_of w
  unfolding after_reply
  not_due_leaves next = ap (λ rows. record (edge_of w) { unfiled = rows }) (same_rows w)

  pub full_leaves : (count : ℕ) → edge_of (after_reply w (pass, RefreshBegin moment) (reply.Full count)) ≡ edge_of w
  unfolding after_reply
  full_leaves count = ap (λ rows. record (edge_of w) { unfiled = rows }) (same_rows w)

  pub due_leaves : IsPlaced w → (refresh : ℕ) → edge_of (after_reply w (pass, RefreshBegin moment) (reply.Due refresh)) ≡ begin_after (edge_of w) pass moment (began.Due refresh)
  unfolding after_reply
  due_leaves placed refresh = ap (λ (lists : List (Open Refreshing) × List Row). record (edge_of w) { refreshes = lists.0; refreshed = refresh; unfiled = lists.1 })
      (pair_is (refreshes_push w placed pass refresh moment) (same_rows w))

-- ---- a refresh ends

module _ (w : World) (pass refresh : ℕ) (tree : Option TreeData) (moment : ℕ) where
  abbrev see : Begun ℕ → Open Refreshing
  see = refreshing w.delivering.starts

  refresh_named : find (is_named refresh pass) (map see w.delivering.refreshes) ≡ option_map see (find (is_open refresh pass) w.delivering.refreshes)
  refresh_named = find-map see (is_named refresh pass) w.delivering.refreshes

  newer_by : (installed : Option Installed) → option_and_then (newer_than refresh) (option_map (seen w.delivering.starts) installed) ≡ option_and_then (replies.newer_than refresh) installed
  newer_by None = refl
  newer_by (Some installed) = refl

  install_by : (later : Option ℕ) → refresh_ended refresh (install_reply (edge_of w) later) ≡ replies.install_reply w.counts.installed later
  install_by None = refl
  install_by (Some later) = refl

  fresh_by : (hit : Option ℕ) → refresh_ended refresh (fresh_reply (edge_of w) refresh hit) ≡ replies.fresh_reply w refresh hit
  fresh_by None = install_by (newer (edge_of w) refresh) ∙ ap (replies.install_reply w.counts.installed) (newer_by w.delivering.tree)
  fresh_by (Some trigger) = refl

  refresh_end_by : (tree : Option TreeData) (found : Option (Begun ℕ)) → refresh_ended refresh (refresh_end_reply (edge_of w) refresh tree (option_map see found)) ≡ replies.refresh_end_reply w refresh tree found
  refresh_end_by tree None = refl
  refresh_end_by None (Some begun) = refl
  refresh_end_by (Some brought) (Some begun) =
      ap (λ hit. refresh_ended refresh (fresh_reply (edge_of w) refresh hit)) (first_noted_is begun.at brought.resources w.delivering.starts)
      ∙ fresh_by (steps.first_hit w.delivering.starts begun.at brought.resources)

  pub refresh_end_replies : refresh_ended refresh (refresh_end_reply (edge_of w) refresh tree (find (is_named refresh pass) (edge_of w).refreshes)) ≡ reply_in w (pass, RefreshEnd refresh tree moment)
  unfolding reply_in
  refresh_end_replies = ap (λ f. refresh_ended refresh (refresh_end_reply (edge_of w) refresh tree f)) refresh_named ∙ refresh_end_by tree (find (is_open refresh pass) w.delivering.refreshes)

  closed_is : map see (closed refresh pass w.delivering.refreshes) ≡ unnamed refresh pass (map see w.delivering.refreshes)
  closed_is = sym (filter-map see (λ one. not (is_named refresh pass one)) w.delivering.refreshes)

  -- these refreshes are open then, and no row is written
  refreshes_left : {rs rs' : List (Open Refreshing)} → rs ≡ rs' → record (edge_of w) { refreshes = rs; unfiled = map row_in (w.delivering.unfiled ++ []) } ≡ record (edge_of w) { refreshes = rs' }
  refreshes_left is = ap (λ (x : List (Open Refreshing) × List Row). record (edge_of w) { refreshes = x.0; unfiled = x.1 }) (pair_is is (same_rows w))

  -- it is installed, and no start since it began hits it
  installs_by : (brought : TreeData) (begun : Begun ℕ) → find (is_open refresh pass) w.delivering.refreshes ≡ Some begun → steps.first_hit w.delivering.starts begun.at brought.resources ≡ None → (later : Option ℕ)
      → edge_of (after_reply w (pass, RefreshEnd refresh (Some brought) moment) (replies.install_reply w.counts.installed later))
      ≡ install_after (without_refresh (edge_of w) refresh pass) refresh brought begun.what (install_reply (edge_of w) later)
  unfolding after_reply
  installs_by brought begun is unhit None =
      ap (λ (x : (List (Open Refreshing) × Option Installed) × List Row). record (edge_of w) { refreshes = x.0.0; tree = option_map (seen w.delivering.starts) x.0.1; installed = w.counts.installed + 1; unfiled = x.1 })
      (pair_is (pair_is closed_is (ap (λ found. option_map_or (λ b. Some (installed_by refresh brought b)) found w.delivering.tree) is)) (same_rows w))
      ∙ ap (λ (t : Option ℕ). record (without_refresh (edge_of w) refresh pass) { tree = Some (record { tree = brought; refresh = refresh; moment = begun.what; invalid = t }); installed = w.counts.installed + 1 }) unhit
  installs_by brought begun is unhit (Some later) = refreshes_left closed_is

  not_open_after : (tree : Option TreeData) → find (is_open refresh pass) w.delivering.refreshes ≡ None → edge_of (after_reply w (pass, RefreshEnd refresh tree moment) (reply.NotOpen refresh)) ≡ edge_of w
  unfolding after_reply
  not_open_after None is = refreshes_left (ap (map see) (filter_same (is_open refresh pass) w.delivering.refreshes is))
  not_open_after (Some brought) is = refreshes_left (ap (map see) (filter_same (is_open refresh pass) w.delivering.refreshes is))

  failed_after : edge_of (after_reply w (pass, RefreshEnd refresh None moment) reply.Failed) ≡ without_refresh (edge_of w) refresh pass
  unfolding after_reply
  failed_after = refreshes_left closed_is

  fresh_after : (brought : TreeData) (begun : Begun ℕ) → find (is_open refresh pass) w.delivering.refreshes ≡ Some begun → (hit : Option ℕ) → steps.first_hit w.delivering.starts begun.at brought.resources ≡ hit
      → edge_of (after_reply w (pass, RefreshEnd refresh (Some brought) moment) (replies.fresh_reply w refresh hit)) ≡ install_after (without_refresh (edge_of w) refresh pass) refresh brought begun.what (fresh_reply (edge_of w) refresh hit)
  unfolding after_reply
  fresh_after brought begun is (Some trigger) stale = refreshes_left closed_is
  fresh_after brought begun is None unhit =
      installs_by brought begun is unhit (option_and_then (replies.newer_than refresh) w.delivering.tree)
      ∙ ap (λ later. install_after (without_refresh (edge_of w) refresh pass) refresh brought begun.what (install_reply (edge_of w) later)) (sym (newer_by w.delivering.tree))

  refresh_end_leaves_by : (tree : Option TreeData) (found : Option (Begun ℕ)) → find (is_open refresh pass) w.delivering.refreshes ≡ found
      → edge_of (after_reply w (pass, RefreshEnd refresh tree moment) (replies.refresh_end_reply w refresh tree found)) ≡ refresh_end_after (edge_of w) pass refresh tree (option_map see found)
  refresh_end_leaves_by tree None is = not_open_after tree is
  refresh_end_leaves_by None (Some begun) is = failed_after
  refresh_end_leaves_by (Some brought) (Some begun) is =
      fresh_after brought begun is (steps.first_hit w.delivering.starts begun.at brought.resources) refl
      ∙ ap (λ hit. install_after (without_refresh (edge_of w) refresh pass) refresh brought begun.what (fresh_reply (edge_of w) refresh hit)) (sym (first_noted_is begun.at brought.resources w.delivering.starts))

  pub refresh_end_leaves : edge_of (after w (pass, RefreshEnd refresh tree moment)) ≡ refresh_end_after (edge_of w) pass refresh tree (find (is_named refresh pass) (edge_of w).refreshes)
  unfolding after reply_in
  refresh_end_leaves = refresh_end_leaves_by tree (find (is_open refresh pass) w.delivering.refreshes) refl ∙ sym (ap (refresh_end_after (edge_of w) pass refresh tree) refresh_named)

  installs_none : (later : Option ℕ) → w.counts.opened + opened_by (replies.install_reply w.counts.installed later) ≡ w.counts.opened
  installs_none None = omega arith
  installs_none (Some later) = omega arith

  fresh_opens : (hit : Option ℕ) → w.counts.opened + opened_by (replies.fresh_reply w refresh hit) ≡ w.counts.opened
  fresh_opens None = installs_none (option_and_then (replies.newer_than refresh) w.delivering.tree)
  fresh_opens (Some trigger) = omega arith

  refresh_opens : (tree : Option TreeData) (found : Option (Begun ℕ)) → w.counts.opened + opened_by (replies.refresh_end_reply w refresh tree found) ≡ w.counts.opened
  refresh_opens tree None = omega arith
  refresh_opens None (Some begun) = omega arith
  refresh_opens (Some brought) (Some begun) = fresh_opens (steps.first_hit w.delivering.starts begun.at brought.resources)

  pub refresh_end_opens : (after w (pass, RefreshEnd refresh tree moment)).counts.opened ≡ w.counts.opened
  unfolding after after_reply reply_in
  refresh_end_opens = refresh_opens tree (find (is_open refresh pass) w.delivering.refreshes)

-- ---- log files

module _ (w : World) (pass moment : ℕ) where
  -- a log file has all rows
  pub cut_leaves : (number : ℕ) → edge_of (after_reply w (pass, Cut moment) (reply.File number)) ≡ record (edge_of w) { unfiled = [] }
  unfolding after_reply
  cut_leaves number = refl

  pub uncut_leaves : edge_of (after_reply w (pass, Cut moment) reply.NothingToCut) ≡ edge_of w
  unfolding after_reply
  uncut_leaves = ap (λ rows. record (edge_of w) { unfiled = rows }) (same_rows w)

  pub full_cut_leaves : (count : ℕ) → edge_of (after_reply w (pass, Cut moment) (reply.Full count)) ≡ edge_of w
  unfolding after_reply
  full_cut_leaves count = ap (λ rows. record (edge_of w) { unfiled = rows }) (same_rows w)

module _ (w : World) (pass number : ℕ) where
  pub dropped_leaves : edge_of (after_reply w (pass, DropLog number) reply.Dropped) ≡ edge_of w
  unfolding after_reply
  dropped_leaves = ap (λ rows. record (edge_of w) { unfiled = rows }) (same_rows w)

  pub undropped_leaves : edge_of (after_reply w (pass, DropLog number) (reply.Unknown number)) ≡ edge_of w
  unfolding after_reply
  undropped_leaves = ap (λ rows. record (edge_of w) { unfiled = rows }) (same_rows w)

  pub log_leaves : (text : List ℕ) → edge_of (after_reply w (pass, LogFile number) (reply.LogText text)) ≡ edge_of w
  unfolding after_reply
  log_leaves text = ap (λ rows. record (edge_of w) { unfiled = rows }) (same_rows w)

  pub no_log_leaves : edge_of (after_reply w (pass, LogFile number) (reply.Unknown number)) ≡ edge_of w
  unfolding after_reply
  no_log_leaves = ap (λ rows. record (edge_of w) { unfiled = rows }) (same_rows w)

pub list_leaves : (w : World) (pass : ℕ) (numbers : List ℕ) → edge_of (after_reply w (pass, ListLogs) (reply.Numbers numbers)) ≡ edge_of w
unfolding after_reply
list_leaves w pass numbers = ap (λ rows. record (edge_of w) { unfiled = rows }) (same_rows w)

-- ---- one start more

module _ (starts : List Start) (start : Start) where
  abbrev more : List Start
  more = starts ++ start ∷ []

  since_more : (at : ℕ) (key : KeyParts) (ccid : Option (List ℕ)) → nat_lt at start.at ≡ true → is_hit_since more at key ccid ≡ (is_hit_since starts at key ccid || hits start.selection key ccid)
  since_more at key ccid is =
      list_any-append (λ (s : Start). nat_lt at s.at && hits s.selection key ccid) starts (start ∷ [])
      ∙ ap (λ t. is_hit_since starts at key ccid || ((t && hits start.selection key ccid) || false)) is
      ∙ ap (λ t. is_hit_since starts at key ccid || t) (or_nothing (hits start.selection key ccid))

  note_by : (t : Bool) → map note_of (cond t (start ∷ []) []) ≡ cond t (note_of start ∷ []) []
  note_by true = refl
  note_by false = refl

  noted_more : (at : ℕ) → nat_lt at start.at ≡ true → noted_since at more ≡ noted_since at starts ++ noted_of start.trigger start.selection
  noted_more at is =
      ap (map note_of) (filter-append (is_noted at) starts (start ∷ []))
      ∙ map-append note_of (filter (is_noted at) starts) (filter (is_noted at) (start ∷ []))
      ∙ ap (λ t. noted_since at starts ++ map note_of (cond (t && selects_metadata start.selection) (start ∷ []) [])) is
      ∙ ap (λ notes. noted_since at starts ++ notes) (note_by (selects_metadata start.selection))

  first_of : (trigger : ℕ) (t : Bool) (seen : Seen) (found : Option Start) → trigger ≡ start.trigger → list_any (hits_metadata start.selection) seen.tree.resources ≡ t
      → option_map (λ (s : Start). s.trigger) (option_or found (cond t (Some start) None)) ≡ invalid_by trigger start.selection seen (option_map (λ (s : Start). s.trigger) found)
  first_of trigger t seen (Some first) same is = refl
  first_of trigger true seen None same is = ap (λ n. Some n) (sym same) ∙ ap (λ b. cond b (Some trigger) None) (sym is)
  first_of trigger false seen None same is = ap (λ b. cond b (Some trigger) None) (sym is)

  first_more : (installed : Installed) → nat_lt installed.at start.at ≡ true
      → steps.first_hit more installed.at installed.tree.resources ≡ invalid_by start.trigger start.selection (seen starts installed) (steps.first_hit starts installed.at installed.tree.resources)
  first_more installed is =
      let test = λ (s : Start). nat_lt installed.at s.at && list_any (hits_metadata s.selection) installed.tree.resources in
      ap (option_map (λ (s : Start). s.trigger)) (find-append test starts (start ∷ []))
      ∙ ap (λ t. option_map (λ (s : Start). s.trigger) (option_or (find test starts) (cond (t && list_any (hits_metadata start.selection) installed.tree.resources) (Some start) None))) is
      ∙ first_of start.trigger (list_any (hits_metadata start.selection) installed.tree.resources) (seen starts installed) (find test starts) refl refl

  module _ (before : ℕ) (after_it : before < start.at) where
    is_after : (at : ℕ) → at ≤ before → nat_lt at start.at ≡ true
    is_after at within = lt-ltb at start.at (omega (arith, within, after_it))

    flights_more : (all : List (Begun Fetching)) → All (λ begun. begun.at ≤ before) all → map (flight more) all ≡ map (struck start.selection) (map (flight starts) all)
    flights_more [] within = refl
    flights_more (begun ∷ all) within =
        cons_is (ap (λ hit. record { number = begun.number; pass = begun.pass; what = record { fetching = begun.what; hit = hit } }) (since_more begun.at begun.what.key begun.what.ccid (is_after begun.at (All-head (λ (b : Begun Fetching). b.at ≤ before) begun all within))))
        (flights_more all (All-tail (λ (b : Begun Fetching). b.at ≤ before) begun all within))

    refreshes_more : (all : List (Begun ℕ)) → All (λ begun. begun.at ≤ before) all → map (refreshing more) all ≡ map (with_starts (noted_of start.trigger start.selection)) (map (refreshing starts) all)
    refreshes_more [] within = refl
    refreshes_more (begun ∷ all) within =
        cons_is (ap (λ since. record { number = begun.number; pass = begun.pass; what = record { moment = begun.what; since = since } }) (noted_more begun.at (is_after begun.at (All-head (λ (b : Begun ℕ). b.at ≤ before) begun all within))))
        (refreshes_more all (All-tail (λ (b : Begun ℕ). b.at ≤ before) begun all within))

    tree_more : (tree : Option Installed) → ((installed : Installed) → tree ≡ Some installed → installed.at ≤ before)
        → option_map (seen more) tree ≡ option_map (invalidated start.trigger start.selection) (option_map (seen starts) tree)
    tree_more None within = refl
    tree_more (Some installed) within =
        ap (λ invalid. Some (record { tree = installed.tree; refresh = installed.refresh; moment = installed.moment; invalid = invalid })) (first_more installed (is_after installed.at (within installed refl)))

more_leaves : (w : World) → IsPlaced w → (start : Start) → start.at ≡ position w
    → record (edge_of w) {
      tree = option_map (seen (w.delivering.starts ++ start ∷ [])) w.delivering.tree;
      kept = unhit_since (Some start) w.delivering.kept;
      fetches = map (flight (w.delivering.starts ++ start ∷ [])) w.delivering.fetches;
      refreshes = map (refreshing (w.delivering.starts ++ start ∷ [])) w.delivering.refreshes;
      started = length (w.delivering.starts ++ start ∷ []);
    } ≡ start_after (edge_of w) start.trigger start.selection
more_leaves w placed start is =
    let later : w.entries < start.at = omega (arith, is) in
    let starts = w.delivering.starts in
    ap (λ (x : ((Option Seen × List (Open Flight)) × List (Open Refreshing)) × ℕ). record (edge_of w) { tree = x.0.0.0; kept = unhit_since (Some start) w.delivering.kept; fetches = x.0.0.1; refreshes = x.0.1; started = x.1 })
    (pair_is (pair_is (pair_is (tree_more starts start w.entries later w.delivering.tree placed.tree) (flights_more starts start w.entries later w.delivering.fetches placed.fetches)) (refreshes_more starts start w.entries later w.delivering.refreshes placed.refreshes))
    (length-append starts (start ∷ [])))

-- ---- a trigger starts

abbrev start_now : ℕ → TriggerKind → Trigger → Start
start_now at kind trigger = record { at = at; trigger = trigger.job.id; kind = kind; selection = trigger.job.spec.selection }

-- where it is one of an invalidate or a purge, it starts here
start_kind_at : (at : ℕ) (trigger : Trigger) (kind : TriggerKind) (start : Start) → start_by at kind trigger ≡ Some start → start.at ≡ at
start_kind_at at trigger Preposition start is = absurd (none-some start is)
start_kind_at at trigger Invalidate start is = let same : start_now at Invalidate trigger ≡ start = cc in ap (λ (s : Start). s.at) (sym same)
start_kind_at at trigger Purge start is = let same : start_now at Purge trigger ≡ start = cc in ap (λ (s : Start). s.at) (sym same)

start_found_at : (at : ℕ) (found : Option Trigger) (start : Start) → option_and_then (λ (trigger : Trigger). start_by at trigger.job.spec.kind trigger) found ≡ Some start → start.at ≡ at
start_found_at at None start is = absurd (none-some start is)
start_found_at at (Some trigger) start is = start_kind_at at trigger trigger.job.spec.kind start is

module _ (w : World) (pass id moment : ℕ) where
  abbrev advance : Event
  advance = Advance id moment

  -- the edge with these starts
  edge_with : List Start → List Kept → EdgeView
  edge_with starts kept = record (edge_of w) {
    tree = option_map (seen starts) w.delivering.tree;
    kept = kept;
    fetches = map (flight starts) w.delivering.fetches;
    refreshes = map (refreshing starts) w.delivering.refreshes;
    started = length starts;
  }

  started_by : (found : Option Start) → start_of w id ≡ found
      → edge_of (after_reply w (pass, advance) reply.Started) ≡ edge_with (w.delivering.starts ++ option_to_list found) (unhit_since found w.delivering.kept)
  unfolding after_reply edge_with
  started_by found is =
      ap (λ rows. record (edge_with (w.delivering.starts ++ option_to_list (start_of w id)) (unhit_since (start_of w id) w.delivering.kept)) { unfiled = rows }) (same_rows w)
      ∙ ap (λ f. edge_with (w.delivering.starts ++ option_to_list f) (unhit_since f w.delivering.kept)) is

  -- an invalidate or a purge that becomes active
  pub start_leaves : IsPlaced w → (start : Start) → start_of w id ≡ Some start → edge_of (after_reply w (pass, advance) reply.Started) ≡ start_after (edge_of w) start.trigger start.selection
  unfolding edge_with
  start_leaves placed start is =
      let at : start.at ≡ position w = start_found_at (position w) (trigger_of id w.controlling.triggers) start is in
      started_by (Some start) is ∙ more_leaves w placed start at

  -- a preposition that does
  pub no_start_leaves : start_of w id ≡ None → edge_of (after_reply w (pass, advance) reply.Started) ≡ edge_of w
  unfolding edge_with
  no_start_leaves is = started_by None is ∙ ap (λ starts. edge_with starts w.delivering.kept) (append-nil w.delivering.starts)

-- ---- a trigger's fetch of a URL

module _ (w : World) (pass id moment : ℕ) (url : Target) where
  abbrev is_left_out : Bool
  is_left_out = is_skipped (steps.index_of w.delivering) (steps.invalid_of w.delivering) url

  pub skips_is : skips (edge_of w) url ≡ is_left_out
  skips_is = ap (λ i. is_skipped i (invalid_of (edge_of w)) url) (index_is w) ∙ ap (λ t. is_skipped (steps.index_of w.delivering) t url) (invalid_is w)

  abbrev planned_of : Fetching × List Endpoint → Planned
  planned_of found = record { fetch = w.counts.fetched + 1; plan = found.1 }

  -- what the edge's own metadata says is what the history's does
  sourced_is : sourced (edge_of w) url ≡ cond is_left_out None (Some (fetching w url, plan_at (steps.index_of w.delivering) url))
  sourced_is =
      ap (λ t. cond t None (Some (record { key = key_at (index_of (edge_of w)) url; ccid = ccid_at (index_of (edge_of w)) url }, plan_at (index_of (edge_of w)) url))) skips_is
      ∙ ap (λ i. cond is_left_out None (Some (record { key = key_at i url; ccid = ccid_at i url }, plan_at i url))) (index_is w)

  abbrev fetch : Reply
  fetch = reply.Fetch (w.counts.fetched + 1) (plan_at (steps.index_of w.delivering) url) url

  planned_cases : (t : Bool) (found : Option (Fetching × List Endpoint)) → found ≡ cond t None (Some (fetching w url, plan_at (steps.index_of w.delivering) url)) → (planned : Planned)
      → option_map planned_of found ≡ Some planned → (place : ℕ)
      → cond t (reply.Skipped place) (replies.opening w fetch) ≡ replies.opening w (reply.Fetch planned.fetch planned.plan url)
  planned_cases true found is planned some place = absurd (none-some planned (sym (ap (option_map planned_of) is) ∙ some))
  planned_cases false found is planned some place =
      let same : Some (planned_of (fetching w url, plan_at (steps.index_of w.delivering) url)) ≡ Some planned = sym (ap (option_map planned_of) is) ∙ some in
      ap (λ (p : Planned). replies.opening w (reply.Fetch p.fetch p.plan url)) (same_some same)

  -- where a fetch is planned the URL's fetch begins, or the node is full
  pub planned_replies : (planned : Planned) → plan_reply (edge_of w) url ≡ Some planned → (place : ℕ) → replies.url_reply w place url ≡ replies.opening w (reply.Fetch planned.fetch planned.plan url)
  planned_replies planned is place = planned_cases is_left_out (sourced (edge_of w) url) sourced_is planned is place

  skipped_cases : (t : Bool) (found : Option (Fetching × List Endpoint)) → found ≡ cond t None (Some (fetching w url, plan_at (steps.index_of w.delivering) url))
      → option_map planned_of found ≡ None → (place : ℕ)
      → cond t (reply.Skipped place) (replies.opening w fetch) ≡ reply.Skipped place
  skipped_cases true found is none place = refl
  skipped_cases false found is none place = absurd (none-some _ (sym none ∙ ap (option_map planned_of) is))

  -- and where none is, it is skipped
  pub skipped_replies : plan_reply (edge_of w) url ≡ None → (place : ℕ) → replies.url_reply w place url ≡ reply.Skipped place
  skipped_replies is place = skipped_cases is_left_out (sourced (edge_of w) url) sourced_is is place

  planned_after : IsPlaced w → (plan : List Endpoint) → edge_of (after_reply w (pass, Advance id moment) (reply.Fetch (w.counts.fetched + 1) plan url)) ≡ record (edge_of w) { fetches = with_flight (edge_of w) pass (fetching w url); fetched = w.counts.fetched + 1 }
  unfolding after_reply
  planned_after placed plan =
      ap (λ (lists : List (Open Flight) × List Row). record (edge_of w) { fetches = lists.0; fetched = w.counts.fetched + 1; unfiled = lists.1 }) (pair_is (flights_push w placed pass (fetching w url)) (same_rows w))

  plan_cases : IsPlaced w → (t : Bool) (found : Option (Fetching × List Endpoint)) → found ≡ cond t None (Some (fetching w url, plan_at (steps.index_of w.delivering) url)) → (planned : Planned)
      → option_map planned_of found ≡ Some planned
      → edge_of (after_reply w (pass, Advance id moment) (reply.Fetch planned.fetch planned.plan url)) ≡ plan_after_by (edge_of w) pass found
  plan_cases placed true found is planned some = absurd (none-some planned (sym (ap (option_map planned_of) is) ∙ some))
  plan_cases placed false found is planned some =
      let same : Some (planned_of (fetching w url, plan_at (steps.index_of w.delivering) url)) ≡ Some planned = sym (ap (option_map planned_of) is) ∙ some in
      ap (λ (p : Planned). edge_of (after_reply w (pass, Advance id moment) (reply.Fetch p.fetch p.plan url))) (sym (same_some same))
      ∙ planned_after placed (plan_at (steps.index_of w.delivering) url) ∙ sym (ap (plan_after_by (edge_of w) pass) is)

  pub plan_leaves : IsPlaced w → (planned : Planned) → plan_reply (edge_of w) url ≡ Some planned
      → edge_of (after_reply w (pass, Advance id moment) (reply.Fetch planned.fetch planned.plan url)) ≡ plan_after (edge_of w) pass url
  plan_leaves placed planned is = plan_cases placed is_left_out (sourced (edge_of w) url) sourced_is planned is

  -- nothing is left of a URL that is skipped
  pub no_plan_leaves : plan_reply (edge_of w) url ≡ None → edge_of w ≡ plan_after (edge_of w) pass url
  no_plan_leaves is = no_plan (sourced (edge_of w) url) is
    where
      no_plan : (found : Option (Fetching × List Endpoint)) → option_map planned_of found ≡ None → edge_of w ≡ plan_after_by (edge_of w) pass found
      no_plan None none = refl
      no_plan (Some f) none = absurd (none-some _ (sym none))

-- ---- other steps of a trigger

module _ (w : World) (pass id moment : ℕ) where
  -- a preposition's refresh of its metadata begins, due or not
  pub step_refresh_leaves : IsPlaced w → (refresh : ℕ) → edge_of (after_reply w (pass, Advance id moment) (reply.Refresh refresh)) ≡ begin_after (edge_of w) pass moment (began.Due refresh)
  unfolding after_reply
  step_refresh_leaves placed refresh = ap (λ (lists : List (Open Refreshing) × List Row). record (edge_of w) { refreshes = lists.0; refreshed = refresh; unfiled = lists.1 })
      (pair_is (refreshes_push w placed pass refresh moment) (same_rows w))

  pub step_skipped_leaves : (place : ℕ) → edge_of (after_reply w (pass, Advance id moment) (reply.Skipped place)) ≡ edge_of w
  unfolding after_reply
  step_skipped_leaves place = ap (λ rows. record (edge_of w) { unfiled = rows }) (same_rows w)

  pub step_full_leaves : (count : ℕ) → edge_of (after_reply w (pass, Advance id moment) (reply.Full count)) ≡ edge_of w
  unfolding after_reply
  step_full_leaves count = ap (λ rows. record (edge_of w) { unfiled = rows }) (same_rows w)

  pub step_final_leaves : (status : JobStatus) → edge_of (after_reply w (pass, Advance id moment) (reply.Final status)) ≡ edge_of w
  unfolding after_reply
  step_final_leaves status = ap (λ rows. record (edge_of w) { unfiled = rows }) (same_rows w)

  pub step_claimed_leaves : (claimant : ℕ) → edge_of (after_reply w (pass, Advance id moment) (reply.Claimed claimant)) ≡ edge_of w
  unfolding after_reply
  step_claimed_leaves claimant = ap (λ rows. record (edge_of w) { unfiled = rows }) (same_rows w)

  pub step_open_leaves : (number : ℕ) → edge_of (after_reply w (pass, Advance id moment) (reply.StepOpen number)) ≡ edge_of w
  unfolding after_reply
  step_open_leaves number = ap (λ rows. record (edge_of w) { unfiled = rows }) (same_rows w)

  pub step_unknown_leaves : edge_of (after_reply w (pass, Advance id moment) (reply.Unknown id)) ≡ edge_of w
  unfolding after_reply
  step_unknown_leaves = ap (λ rows. record (edge_of w) { unfiled = rows }) (same_rows w)

-- ---- other calls of triggers

module _ (w : World) (pass : ℕ) where
  pub command_leaves : (spec : SpecParts) (moment id : ℕ) → edge_of (after_reply w (pass, Command spec moment) (reply.Created id)) ≡ edge_of w
  unfolding after_reply
  command_leaves spec moment id = ap (λ rows. record (edge_of w) { unfiled = rows }) (same_rows w)

  pub full_command_leaves : (spec : SpecParts) (moment count : ℕ) → edge_of (after_reply w (pass, Command spec moment) (reply.Full count)) ≡ edge_of w
  unfolding after_reply
  full_command_leaves spec moment count = ap (λ rows. record (edge_of w) { unfiled = rows }) (same_rows w)

  pub cancel_leaves : (ids : List ℕ) (moment : ℕ) (statuses : List JobStatus) → edge_of (after_reply w (pass, Cancel ids moment) (reply.Statuses statuses)) ≡ edge_of w
  unfolding after_reply
  cancel_leaves ids moment statuses = ap (λ rows. record (edge_of w) { unfiled = rows }) (same_rows w)

  pub no_cancel_leaves : (ids : List ℕ) (moment id : ℕ) → edge_of (after_reply w (pass, Cancel ids moment) (reply.Unknown id)) ≡ edge_of w
  unfolding after_reply
  no_cancel_leaves ids moment id = ap (λ rows. record (edge_of w) { unfiled = rows }) (same_rows w)

  pub delete_leaves : (id : ℕ) → edge_of (after_reply w (pass, Delete id) reply.Deleted) ≡ edge_of w
  unfolding after_reply
  delete_leaves id = ap (λ rows. record (edge_of w) { unfiled = rows }) (same_rows w)

  pub no_delete_leaves : (id : ℕ) → edge_of (after_reply w (pass, Delete id) (reply.Unknown id)) ≡ edge_of w
  unfolding after_reply
  no_delete_leaves id = ap (λ rows. record (edge_of w) { unfiled = rows }) (same_rows w)

  pub status_leaves : (id : ℕ) (job : Job) → edge_of (after_reply w (pass, ReadStatus id) (reply.Resource job)) ≡ edge_of w
  unfolding after_reply
  status_leaves id job = ap (λ rows. record (edge_of w) { unfiled = rows }) (same_rows w)

  pub no_status_leaves : (id : ℕ) → edge_of (after_reply w (pass, ReadStatus id) (reply.Unknown id)) ≡ edge_of w
  unfolding after_reply
  no_status_leaves id = ap (λ rows. record (edge_of w) { unfiled = rows }) (same_rows w)

  pub collection_leaves : (filter : Filter) (ids : List ℕ) → edge_of (after_reply w (pass, Lists filter) (reply.Collection filter ids)) ≡ edge_of w
  unfolding after_reply
  collection_leaves filter ids = ap (λ rows. record (edge_of w) { unfiled = rows }) (same_rows w)
