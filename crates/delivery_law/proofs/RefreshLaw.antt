-- When a refresh is due, and what becomes of what it brings.
use Rattle.std.proofs.Common.{◌≡◌, ℕ, ◌+◌, ◌-◌, ◌^◌, ◌<◌, ◌≤◌, ◌==◌, Bool, true, false, min, List, [], ◌∷◌, ◌++◌, All, refl, sym, ap, ◌∙◌, subst, arith, append_assoc, None, Some, Option, nat_lt, inl, inr}
use Rattle.std.specs.List.{Any, find}
use Rattle.std.specs.Option.{option_and_then, option_map_or}
use Rattle.std.proofs.lemmas.Bool.{and_parts, cases_Bool, cond-true, cond-false, eqb-true, lt-ltb, ltb-true}
use Rattle.std.proofs.lemmas.Option.{none-some, same_Some}
use Rattle.cdni_base.specs.Key.{KeyParts}
use Rattle.metadata_objects.specs.Tree.{TreeData}
use Rattle.trigger_command.specs.Selection.{HitsMetadata}
use Rattle.history.proofs.Cases.{opening_cases}
use Rattle.history.proofs.Numbers.{installed_never_falls, tree_is}
use Rattle.history.proofs.Words.{world_none, world_push}
use Rattle.history.specs.After.{after, after_reply, installed_by, tree_after}
use Rattle.history.specs.Event.{Entry, History, RefreshBegin, RefreshEnd}
use Rattle.history.specs.History.{AnsweredAt, reply_to, world_of}
use Rattle.history.specs.Laws.{installed_refresh}
use Rattle.history.specs.Reply.{begin_reply, fresh_reply, install_reply, newer_than, next_after, next_due, refresh_end_reply, reply_in}
use Rattle.history.specs.Steps.{first_hit}
use Rattle.history.specs.World.{Begun, Delivering, Installed, Made, Start, World, is_open}
use Rattle.history.specs.declared.reply.Reply.{Reply}
use Rattle.history.specs.declared.reply.Reply.TheVariants as reply
use Rattle.delivery_law.specs.Denials.{IsInForce}
use Rattle.delivery_law.specs.Metadata.{NoStartHitsMetadata, RefreshBegan}
use Rattle.delivery_law.specs.Starts.{NoneTookBackMetadata}
use Rattle.delivery_law.specs.Refreshes.{IsFreshAt, IsUntouched, WasTakenBack}
use Rattle.delivery_law.proofs.DenialLaw.{all_middle, first_to_hit}
use Rattle.delivery_law.proofs.Lists.{found_is}
use Rattle.delivery_law.proofs.Places.{from_right}
use Rattle.delivery_law.proofs.StartLaw.{unhit_by, untaken}
use Rattle.delivery_law.proofs.MetadataLaw.{HasBegun, any_unhit, metadata_law, none_any, not_since, unhit_any}

-- ---- what the answers tell

abbrev next_told : Reply → Option ℕ
next_told (reply.NotDue next) = Some next
next_told answer = None

abbrev stale_told : Reply → Option ℕ
stale_told (reply.Stale trigger) = Some trigger
stale_told answer = None

abbrev installed_told : Reply → Option ℕ
installed_told (reply.Installed generation) = Some generation
installed_told answer = None

abbrev older_told : Reply → Option ℕ
older_told (reply.Older later) = Some later
older_told answer = None

-- what no start hits nothing took back, and the other way round
none_took : (made : Made) (h : History) (at : ℕ) (resources : List KeyParts)
    → All (λ (start : Start). at < start.at → All (λ resource. HitsMetadata start.selection resource → ⊥) resources) (world_of made h).delivering.starts → NoneTookBackMetadata made h at resources
none_took made h at resources unhit = untaken made h at (λ selection. Any (HitsMetadata selection) resources) (any_unhit at resources (world_of made h).delivering.starts unhit)

nothing_hits : (made : Made) (h : History) (at : ℕ) (resources : List KeyParts) → NoneTookBackMetadata made h at resources
    → All (λ (start : Start). at < start.at → All (λ resource. HitsMetadata start.selection resource → ⊥) resources) (world_of made h).delivering.starts
nothing_hits made h at resources none = unhit_any at resources (world_of made h).delivering.starts (unhit_by made h at (λ selection. Any (HitsMetadata selection) resources) none)

-- ---- RefreshBegin

module _ (made : Made) (h : History) (moment : ℕ) where
  abbrev w : World
  w = world_of made h

  abbrev d : Delivering
  d = (world_of made h).delivering

  abbrev period : ℕ
  period = (world_of made h).made.limits.period

  -- with the limits that the world keeps
  abbrev IsEarly : ℕ → Type 0
  IsEarly next = (i : Installed) × IsInForce made h i × NoStartHitsMetadata made h i.at i.tree × (moment < i.moment + period) × (next ≡ min (i.moment + period) (2 ^ 64 - 1))

  abbrev SaysEarly : Reply → Type 0
  SaysEarly r = (next : ℕ) → next_told r ≡ Some next → IsEarly next

  none_early : SaysEarly (begin_reply w None)
  none_early = opening_cases w SaysEarly _ (λ n next is. absurd (none-some next is)) (λ next is. absurd (none-some next is))

  module _ (i : Installed) (is : d.tree ≡ Some i) where
    force : IsInForce made h i
    force = record { is = is; was = (metadata_law made h).tree i is }

    by_time : first_hit d.starts i.at i.tree.resources ≡ None → (b : Bool) → nat_lt moment (i.moment + period) ≡ b → SaysEarly (begin_reply w (next_after period moment i))
    by_time valid true before = subst (λ (o : Option ℕ). SaysEarly (begin_reply w o)) (sym (cond-true (nat_lt moment (i.moment + period)) (Some (min (i.moment + period) (2 ^ 64 - 1))) None before))
        (λ next told. (i, force, not_since i.at i.tree.resources d.starts valid, ltb-true moment (i.moment + period) before, sym (same_Some (min (i.moment + period) (2 ^ 64 - 1)) next told)))
    by_time valid false over = subst (λ (o : Option ℕ). SaysEarly (begin_reply w o)) (sym (cond-false (nat_lt moment (i.moment + period)) (Some (min (i.moment + period) (2 ^ 64 - 1))) None over)) none_early

    by_hit : (hit : Option ℕ) → first_hit d.starts i.at i.tree.resources ≡ hit → SaysEarly (begin_reply w (next_due period moment hit (Some i)))
    by_hit None valid = by_time valid (nat_lt moment (i.moment + period)) refl
    by_hit (Some trigger) taken = none_early

  by_tree : (tree : Option Installed) → d.tree ≡ tree → SaysEarly (begin_reply w (next_due period moment (option_and_then (λ (x : Installed). first_hit d.starts x.at x.tree.resources) tree) tree))
  by_tree None is = none_early
  by_tree (Some i) is = by_hit i is (first_hit d.starts i.at i.tree.resources) refl

  early : (pass : ℕ) → SaysEarly (reply_in w (pass, RefreshBegin moment))
  unfolding reply_in
  early pass = by_tree d.tree refl

  -- nothing has hit it
  unhit_is : (at : ℕ) (resources : List KeyParts) (hit : Option ℕ) → first_hit d.starts at resources ≡ hit
      → All (λ (start : Start). at < start.at → All (λ resource. HitsMetadata start.selection resource → ⊥) resources) d.starts → hit ≡ None
  unhit_is at resources None is unhit = refl
  unhit_is at resources (Some trigger) is unhit =
      let first = first_to_hit made h at resources trigger is in
      absurd (none_any (HitsMetadata first.start.selection) resources
      (all_middle (λ (start : Start). at < start.at → All (λ resource. HitsMetadata start.selection resource → ⊥) resources) first.earlier first.later first.start
      (subst (All (λ (start : Start). at < start.at → All (λ resource. HitsMetadata start.selection resource → ⊥) resources)) first.among unhit) first.since) first.hits)

  recent_is : (i : Installed) → d.tree ≡ Some i → NoStartHitsMetadata made h i.at i.tree → moment < i.moment + period → (pass : ℕ)
      → reply_in w (pass, RefreshBegin moment) ≡ reply.NotDue (min (i.moment + period) (2 ^ 64 - 1))
  unfolding reply_in
  recent_is i is valid recent pass =
      ap (λ (tree : Option Installed). begin_reply w (next_due period moment (option_and_then (λ (x : Installed). first_hit d.starts x.at x.tree.resources) tree) tree)) is
      ∙ ap (λ (hit : Option ℕ). begin_reply w (next_due period moment hit (Some i))) (unhit_is i.at i.tree.resources (first_hit d.starts i.at i.tree.resources) refl valid)
      ∙ ap (begin_reply w) (cond-true (nat_lt moment (i.moment + period)) (Some (min (i.moment + period) (2 ^ 64 - 1))) None (lt-ltb moment (i.moment + period) recent))

-- ---- RefreshEnd

module _ (made : Made) (h : History) (pass refresh moment : ℕ) (tree : TreeData) where
  abbrev v : World
  v = world_of made h

  abbrev starts : List Start
  starts = (world_of made h).delivering.starts

  -- what an answer tells of what the refresh brought
  record Ends (r : Reply) : Type 0 where
    stale : (trigger : ℕ) → stale_told r ≡ Some trigger → WasTakenBack made h pass refresh tree.resources trigger
    installed : (generation : ℕ) → installed_told r ≡ Some generation → IsUntouched made h pass refresh tree
    older : (later : ℕ) → older_told r ≡ Some later → IsUntouched made h pass refresh tree
    later : (later : ℕ) → older_told r ≡ Some later → (i : Installed) × IsInForce made h i × (i.refresh ≡ later) × (refresh < later)

  module _ (at then : ℕ) (begun : RefreshBegan made h at pass refresh then) (valid : first_hit starts at tree.resources ≡ None) where
    untouched : IsUntouched made h pass refresh tree
    untouched = record { at = at; moment = then; begun = begun; untaken = none_took made h at tree.resources (not_since at tree.resources starts valid) }

    newer : (newest : Option Installed) → v.delivering.tree ≡ newest → (found : Option ℕ) → option_and_then (newer_than refresh) newest ≡ found → (later : ℕ) → found ≡ Some later
        → (i : Installed) × IsInForce made h i × (i.refresh ≡ later) × (refresh < later)
    newer None is found by later told = absurd (none-some later (by ∙ told))
    newer (Some i) is found by later told = elim (cases_Bool (nat_lt refresh i.refresh)) [
      | inl below ↦
          let same : i.refresh ≡ later = same_Some i.refresh later (sym (cond-true (nat_lt refresh i.refresh) (Some i.refresh) None below) ∙ by ∙ told) in
          (i, record { is = is; was = (metadata_law made h).tree i is }, same, subst (λ n. refresh < n) same (ltb-true refresh i.refresh below))
      | inr over ↦ absurd (none-some later (sym (cond-false (nat_lt refresh i.refresh) (Some i.refresh) None over) ∙ by ∙ told))
    ]

    by_newer : (found : Option ℕ) → option_and_then (newer_than refresh) v.delivering.tree ≡ found → Ends (install_reply v.counts.installed found)
    by_newer None is = record {
      stale = λ trigger told. absurd (none-some trigger told);
      installed = λ generation told. untouched;
      older = λ later told. absurd (none-some later told);
      later = λ later told. absurd (none-some later told);
    }
    by_newer (Some newest) is = record {
      stale = λ trigger told. absurd (none-some trigger told);
      installed = λ generation told. absurd (none-some generation told);
      older = λ later told. untouched;
      later = λ later told. newer v.delivering.tree refl (Some newest) is later told;
    }

  ends_hit : (at then : ℕ) → RefreshBegan made h at pass refresh then → (hit : Option ℕ) → first_hit starts at tree.resources ≡ hit → Ends (fresh_reply v refresh hit)
  ends_hit at then begun None valid = by_newer at then begun valid (option_and_then (newer_than refresh) v.delivering.tree) refl
  ends_hit at then begun (Some first) is = record {
    stale = λ trigger told. record { at = at; moment = then; begun = begun; hit = first_to_hit made h at tree.resources trigger (is ∙ told) };
    installed = λ generation told. absurd (none-some generation told);
    older = λ later told. absurd (none-some later told);
    later = λ later told. absurd (none-some later told);
  }

  -- of the one that is open
  began : (f : Begun ℕ) → find (is_open refresh pass) v.delivering.refreshes ≡ Some f → RefreshBegan made h f.at pass refresh f.what
  began f is =
      let found = found_is (HasBegun made h) (is_open refresh pass) v.delivering.refreshes f (metadata_law made h).opened is in
      let same = and_parts (f.number == refresh) (f.pass == pass) found.1 in
      subst (λ n. RefreshBegan made h f.at pass n f.what) (eqb-true f.number refresh same.0)
      (subst (λ p. RefreshBegan made h f.at p f.number f.what) (eqb-true f.pass pass same.1) found.0)

  ends_by : (found : Option (Begun ℕ)) → find (is_open refresh pass) v.delivering.refreshes ≡ found → Ends (refresh_end_reply v refresh (Some tree) found)
  ends_by None is = record {
    stale = λ trigger told. absurd (none-some trigger told);
    installed = λ generation told. absurd (none-some generation told);
    older = λ later told. absurd (none-some later told);
    later = λ later told. absurd (none-some later told);
  }
  ends_by (Some f) is = ends_hit f.at f.what (began f is) (first_hit starts f.at tree.resources) refl

  ends : Ends (reply_to made h (pass, RefreshEnd refresh (Some tree) moment))
  unfolding reply_in
  ends = ends_by (find (is_open refresh pass) v.delivering.refreshes) refl

-- ---- what is installed

module _ (w : World) (pass refresh moment : ℕ) where
  abbrev number_in : Option Installed → ℕ
  number_in tree = option_map_or (λ (i : Installed). i.refresh) tree 0

  abbrev Installs : Option TreeData → Reply → Type 0
  Installs tree r = (generation : ℕ) → installed_told r ≡ Some generation → number_in (tree_after w (pass, RefreshEnd refresh tree moment) r) ≡ refresh

  installs_by : (tree : TreeData) (f : Begun ℕ) → find (is_open refresh pass) w.delivering.refreshes ≡ Some f → (found : Option ℕ) → Installs (Some tree) (install_reply w.counts.installed found)
  installs_by tree f is None generation told = ap (λ (o : Option (Begun ℕ)). number_in (option_map_or (λ b. Some (installed_by refresh tree b)) o w.delivering.tree)) is
  installs_by tree f is (Some later) generation told = absurd (none-some generation told)

  installs_hit : (tree : TreeData) (f : Begun ℕ) → find (is_open refresh pass) w.delivering.refreshes ≡ Some f → (hit : Option ℕ) → Installs (Some tree) (fresh_reply w refresh hit)
  installs_hit tree f is None = installs_by tree f is (option_and_then (newer_than refresh) w.delivering.tree)
  installs_hit tree f is (Some trigger) = λ generation told. absurd (none-some generation told)

  installs_found : (tree : Option TreeData) (found : Option (Begun ℕ)) → find (is_open refresh pass) w.delivering.refreshes ≡ found → Installs tree (refresh_end_reply w refresh tree found)
  installs_found None None is = λ generation told. absurd (none-some generation told)
  installs_found None (Some f) is = λ generation told. absurd (none-some generation told)
  installs_found (Some tree) None is = λ generation told. absurd (none-some generation told)
  installs_found (Some tree) (Some f) is = installs_hit tree f is (first_hit w.delivering.starts f.at tree.resources)

  installs : (tree : Option TreeData) → Installs tree (reply_in w (pass, RefreshEnd refresh tree moment))
  unfolding reply_in
  installs tree = installs_found tree (find (is_open refresh pass) w.delivering.refreshes) refl

-- ---- the laws

made_after : (w : World) (e : Entry) → (after w e).made ≡ w.made
unfolding after after_reply
made_after w e = refl

-- a history leaves with what it was made
pub made_is : (made : Made) (h : History) → (world_of made h).made ≡ made
made_is made = from_right (λ h. (world_of made h).made ≡ made) (ap (λ (v : World). v.made) (world_none made))
    (λ h e is. ap (λ (v : World). v.made) (world_push made h e) ∙ made_after (world_of made h) e ∙ is)

-- the time at which the next refresh is due, under this period
abbrev next_by : Installed → ℕ → ℕ
next_by i period = min (i.moment + period) (2 ^ 64 - 1)

pub early_told : (made : Made) (h : History) (pass moment next : ℕ) → reply_to made h (pass, RefreshBegin moment) ≡ reply.NotDue next
    → (i : Installed) × IsFreshAt made h moment i × (next ≡ next_by i made.limits.period)
early_told made h pass moment next is =
    let e = early made h moment pass next (ap next_told is) in
    let same : (world_of made h).made.limits.period ≡ made.limits.period = ap (λ (m : Made). m.limits.period) (made_is made h) in
    (e.0, record { force = e.1; valid = none_took made h e.0.at e.0.tree.resources e.2; recent = subst (λ (p : ℕ). moment < e.0.moment + p) same e.3 }, e.4 ∙ ap (next_by e.0) same)

pub recent_told : (made : Made) (h : History) (pass moment : ℕ) (i : Installed) → IsFreshAt made h moment i
    → reply_to made h (pass, RefreshBegin moment) ≡ reply.NotDue (next_by i made.limits.period)
recent_told made h pass moment i fresh =
    let same : (world_of made h).made.limits.period ≡ made.limits.period = ap (λ (m : Made). m.limits.period) (made_is made h) in
    recent_is made h moment i fresh.force.is (nothing_hits made h i.at i.tree.resources fresh.valid) (subst (λ (p : ℕ). moment < i.moment + p) (sym same) fresh.recent) pass
    ∙ ap (λ (p : ℕ). reply.NotDue (next_by i p)) same

pub stale_is : (made : Made) (h : History) (pass refresh moment trigger : ℕ) (tree : TreeData) → reply_to made h (pass, RefreshEnd refresh (Some tree) moment) ≡ reply.Stale trigger
    → WasTakenBack made h pass refresh tree.resources trigger
stale_is made h pass refresh moment trigger tree is = (ends made h pass refresh moment tree).stale trigger (ap stale_told is)

pub installed_is : (made : Made) (h : History) (pass refresh moment generation : ℕ) (tree : TreeData) → reply_to made h (pass, RefreshEnd refresh (Some tree) moment) ≡ reply.Installed generation
    → IsUntouched made h pass refresh tree
installed_is made h pass refresh moment generation tree is = (ends made h pass refresh moment tree).installed generation (ap installed_told is)

pub older_is : (made : Made) (h : History) (pass refresh moment later : ℕ) (tree : TreeData) → reply_to made h (pass, RefreshEnd refresh (Some tree) moment) ≡ reply.Older later
    → IsUntouched made h pass refresh tree
older_is made h pass refresh moment later tree is = (ends made h pass refresh moment tree).older later (ap older_told is)

pub later_is : (made : Made) (h : History) (pass refresh moment later : ℕ) (tree : TreeData) → reply_to made h (pass, RefreshEnd refresh (Some tree) moment) ≡ reply.Older later
    → (i : Installed) × IsInForce made h i × (i.refresh ≡ later) × (refresh < later)
later_is made h pass refresh moment later tree is = (ends made h pass refresh moment tree).later later (ap older_told is)

pub latest_is : (made : Made) (h : History) (i : Installed) → IsInForce made h i → (at pass refresh moment generation : ℕ) (tree : Option TreeData)
    → AnsweredAt made h at (pass, RefreshEnd refresh tree moment) (reply.Installed generation) → refresh ≤ i.refresh
latest_is made h i force at pass refresh moment generation tree answered =
    let before : History = answered.before in
    let e : Entry = (pass, RefreshEnd refresh tree moment) in
    let now : installed_refresh (world_of made (before ++ e ∷ [])) ≡ refresh =
    ap installed_refresh (world_push made before e) ∙ ap (number_in (world_of made before) pass refresh moment) (tree_is (world_of made before) e)
    ∙ installs (world_of made before) pass refresh moment tree generation (ap installed_told answered.answered) in
    let grown = installed_never_falls made (before ++ e ∷ []) answered.since in
    let whole : (before ++ e ∷ []) ++ answered.since ≡ h = append_assoc before (e ∷ []) answered.since ∙ sym answered.whole in
    let end : installed_refresh (world_of made ((before ++ e ∷ []) ++ answered.since)) ≡ i.refresh =
    ap (λ (x : History). installed_refresh (world_of made x)) whole ∙ ap (number_in (world_of made h) pass refresh moment) force.is in
    omega (arith, now, grown, end)
