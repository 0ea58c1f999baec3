-- What is in memory stays free of what purges took back.
use Rattle.std.proofs.Common.{◌≡◌, ℕ, ◌<◌, ◌⊎◌, Bool, true, All, Contains, List, [], ◌∷◌, ◌++◌, refl, sym, ap, ap₂, ◌∙◌, subst, append_assoc, inl, inr, Option, Some, None, IfNone, false}
use Rattle.std.specs.Option.{is_some, option_map, option_map_or}
use Rattle.std.proofs.lemmas.Bool.{both_ways}
use Rattle.std.proofs.lemmas.List.{append-nil}
use Rattle.std.proofs.lemmas.Option.{none-some}
use Rattle.std.proofs.lemmas.List.Elements.{All-cons, All-contains, All-head, All-nil, All-tail, All-weaker}
use Rattle.delivery_core.specs.Edge.{Holding}
use Rattle.delivery_law.proofs.FetchLaw.{fetch_law, starts_push}
use Rattle.delivery_law.proofs.Places.{longer, split_last}
use Rattle.delivery_law.specs.Fetches.{FetchBegan, Fetched, NoStartHits}
use Rattle.history.specs.Event.{Entry, History, Advance}
use Rattle.history.specs.History.{reply_to, world_of}
use Rattle.history.specs.Steps.{trigger_of}
use Rattle.history.specs.World.{Kept, Made, Start, Trigger}
use Rattle.history.specs.declared.begun.Fetching.{Fetching}
use Rattle.history.specs.declared.reply.Reply.TheVariants as reply
use Rattle.node_core.specs.Purged.{IsFreeOfPurged, IsUnhitBy}
use Rattle.node_core.specs.Triggering.{completes_purge, is_purge, is_purge_of, swept_as, swept_by}
use Rattle.shelf.proofs.HeldLemmas.{part_or_kept, part_or_same}
use Rattle.shelf.specs.KeptShelf.{IsPartOf, IsPartOfOrKept}
use Rattle.trigger_command.specs.Selection.{Hits}
use Rattle.trigger_command.specs.declared.spec.TriggerKind.{TriggerKind}
use Rattle.trigger_command.specs.declared.spec.TriggerKind.TheVariants.{Preposition, Invalidate, Purge}
use Rattle.trigger_status.specs.declared.job.Job.{Job}
use Rattle.trigger_status.specs.declared.job.JobStatus.{JobStatus}
use Rattle.trigger_status.specs.declared.job.JobStatus.TheVariants as status

-- ---- histories

all_left : {A : Type 0} (P : A → Type 0) (xs ys : List A) → All P (xs ++ ys) → All P xs
all_left P [] ys all = All-nil P
all_left P (x ∷ xs) ys all = All-cons P x xs (All-head P x (xs ++ ys) all) (all_left P xs ys (All-tail P x (xs ++ ys) all))

-- the starts of a longer history
more_starts : (made : Made) (part more : History) → (rest : List Start) × ((world_of made (part ++ more)).delivering.starts ≡ (world_of made part).delivering.starts ++ rest)
more_starts made part [] = ([], ap (λ x. (world_of made x).delivering.starts) (append-nil part) ∙ sym (append-nil (world_of made part).delivering.starts))
more_starts made part (e ∷ more) =
    let later = more_starts made (part ++ e ∷ []) more in (
      _ ++ later.0,
      ap (λ x. (world_of made x).delivering.starts) (sym (append_assoc part (e ∷ []) more)) ∙ later.1 ∙ ap (λ x. x ++ later.0) (starts_push made part e) ∙ append_assoc (world_of made part).delivering.starts _ later.0,
    )

no_start_before : (made : Made) (part more : History) (at : ℕ) (what : Fetching) → NoStartHits made (part ++ more) at what → NoStartHits made part at what
no_start_before made part more at what none =
    let unhit : Start → Type 0 = λ start. at < start.at → Hits start.selection what.key what.ccid → ⊥ in
    let all = more_starts made part more in all_left unhit (world_of made part).delivering.starts all.0 (subst (λ starts. All unhit starts) all.1 none)

began_longer : (made : Made) (h : History) (e : Entry) {at pass fetch : ℕ} {what : Fetching} → FetchBegan made h at pass fetch what → FetchBegan made (h ++ e ∷ []) at pass fetch what
began_longer made h e b = record { event = b.event; answer = b.answer; answered = longer e b.answered; number = b.number; target = b.target; targeted = b.targeted; key = b.key; ccid = b.ccid }

module _ (made : Made) (h : History) (e : Entry) where
  abbrev h' : History
  h' = h ++ e ∷ []

  abbrev WasFetched : Kept → Type 0
  WasFetched k = Fetched made h' k.fetch (record { key = k.key; ccid = k.ccid }) k.kind k.body

  -- what is kept was fetched, and no start since hits it
  kept_unhit : (part more : History) → h' ≡ part ++ more → (k : Kept) → WasFetched k → IsUnhitBy made h' part k
  kept_unhit part more is k f = record {
    pass = f.pass;
    began = f.began;
    begun = f.begun;
    unhit = no_start_before made part more f.began (record { key = k.key; ccid = k.ccid }) (subst (λ x. NoStartHits made x f.began (record { key = k.key; ccid = k.ccid })) is f.unhit);
  }

  still_unhit : (part : History) (k : Kept) → IsUnhitBy made h part k → IsUnhitBy made h' part k
  still_unhit part k u = record { pass = u.pass; began = u.began; begun = began_longer made h e u.begun; unhit = u.unhit }

  pub purged_push : (old new : List Kept) → IsFreeOfPurged made h old → IsPartOfOrKept new old (world_of made h').delivering.kept
      → (completes_purge (world_of made h).controlling.triggers e.1 (reply_to made h e) ≡ true → new ≡ (world_of made h').delivering.kept) → IsFreeOfPurged made h' new
  purged_push old new free part swept = λ before since entry whole completes. elim (split_last h before since e entry whole) [
    | inl within ↦
        let kept = (world_of made h').delivering.kept in
        let first = before ++ entry ∷ [] in
        let is : h' ≡ first ++ (within.0 ++ e ∷ []) = ap (λ x. x ++ e ∷ []) within.1 ∙ append_assoc before (entry ∷ within.0) (e ∷ []) ∙ sym (append_assoc before (entry ∷ []) (within.0 ++ e ∷ [])) in
        All-weaker (λ one. Contains old one ⊎ Contains kept one) (IsUnhitBy made h' first) (λ one there. elim there [
          | inl was ↦ still_unhit first one (All-contains (IsUnhitBy made h first) old one (free before within.0 entry within.1 completes) was)
          | inr is_kept ↦ kept_unhit first (within.0 ++ e ∷ []) is one (All-contains WasFetched kept one (fetch_law made h').kept is_kept)
        ]) new part
    | inr last ↦
        let so : completes_purge (world_of made h).controlling.triggers e.1 (reply_to made h e) ≡ true =
        ap₂ (λ (x : History) (y : Entry). completes_purge (world_of made x).controlling.triggers y.1 (reply_to made x y)) last.0 last.1 ∙ completes in
        let is : h' ≡ before ++ entry ∷ [] = ap₂ (λ (x : History) (y : Entry). x ++ y ∷ []) last.0 last.1 in
        subst (All (IsUnhitBy made h' (before ++ entry ∷ []))) (sym (swept so))
        (All-weaker WasFetched (IsUnhitBy made h' (before ++ entry ∷ [])) (λ one f. kept_unhit (before ++ entry ∷ []) [] (is ∙ sym (append-nil (before ++ entry ∷ []))) one f) (world_of made h').delivering.kept (fetch_law made h').kept)
  ]

-- ---- the end of a purge

seen_as : (v : Holding) (kind : TriggerKind) → (swept_as v kind).seen ≡ v.seen
seen_as v Preposition = refl
seen_as v Invalidate = refl
seen_as v Purge = refl

pub swept_seen : (v : Holding) (job : Option Job) → (swept_by v job).seen ≡ v.seen
swept_seen v None = refl
swept_seen v (Some job) = seen_as v job.spec.kind

held_as : (v : Holding) (kind : TriggerKind) → IsPartOfOrKept (swept_as v kind).held v.held (swept_as v kind).seen.kept
held_as v Preposition = part_or_same v.held v.seen.kept
held_as v Invalidate = part_or_same v.held v.seen.kept
held_as v Purge = part_or_kept v.seen.kept v.held v.seen.kept refl

held_by : (v : Holding) (job : Option Job) → IsPartOfOrKept (swept_by v job).held v.held (swept_by v job).seen.kept
held_by v None = part_or_same v.held v.seen.kept
held_by v (Some job) = held_as v job.spec.kind

pub swept_held : (v new : Holding) (job : Option Job) → new ≡ swept_by v job → IsPartOfOrKept new.held v.held new.seen.kept
swept_held v new job is = subst (λ (x : Holding). IsPartOfOrKept x.held v.held x.seen.kept) (sym is) (held_by v job)

purge_as : (v : Holding) (kind : TriggerKind) → is_purge_of kind ≡ true → (swept_as v kind).held ≡ v.seen.kept
purge_as v Preposition is = absurd (cc)
purge_as v Invalidate is = absurd (cc)
purge_as v Purge is = refl

-- where the trigger is a purge, nothing is in memory but what is kept
pub swept_purge : (v : Holding) (id : ℕ) (triggers : List Trigger) (found : Option Trigger) → trigger_of id triggers ≡ found → is_purge id triggers ≡ true
    → (swept_by v (option_map (λ (t : Trigger). t.job) found)).held ≡ v.seen.kept
swept_purge v id triggers None is so = absurd (both_ways _ (ap (λ o. option_map_or (λ (t : Trigger). is_purge_of t.job.spec.kind) o false) is) so)
swept_purge v id triggers (Some trigger) is so = purge_as v trigger.job.spec.kind (sym (ap (λ o. option_map_or (λ (t : Trigger). is_purge_of t.job.spec.kind) o false) is) ∙ so)

-- only where the answer is complete
pub completes_is : (triggers : List Trigger) (id moment : ℕ) (ended : JobStatus) → completes_purge triggers (Advance id moment) (reply.Final ended) ≡ true → is_purge id triggers ≡ true
completes_is triggers id moment status.Complete is = is
completes_is triggers id moment ended is = absurd (cc)

-- ---- what calls leave in memory

pub part_or_eq : (new old kept : List Kept) → new ≡ old → IsPartOfOrKept new old kept
part_or_eq new old kept is = subst (λ held. IsPartOfOrKept held old kept) (sym is) (part_or_same old kept)

pub part_or_part : (new old kept : List Kept) → IsPartOf new old → IsPartOfOrKept new old kept
part_or_part new old kept part = All-weaker (Contains old) (λ one. Contains old one ⊎ Contains kept one) (λ one there. inl there) new part

-- what is not open ends nothing
pub closed_of : {A : Type 0} (found : Option A) (result : Option Bool) (new old : Holding) (reply_of : A → Bool) → result ≡ option_map reply_of found → is_some found ≡ false → IfNone result (new ≡ old) → new.held ≡ old.held
closed_of None None new old reply_of is none same = ap (λ (v : Holding). v.held) same
closed_of None (Some kept) new old reply_of is none same = absurd (none-some kept (sym is))
closed_of (Some one) result new old reply_of is none same = absurd (both_ways _ none refl)
