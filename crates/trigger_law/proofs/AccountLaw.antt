-- By which calls a trigger came to stand where it does.
use Rattle.std.proofs.Common.{◌≡◌, ◌≢◌, ◌⊎◌, ℕ, ◌+◌, Bool, true, false, [], ◌∷◌, ◌++◌, length, refl, sym, ap, ◌∙◌, subst, append_assoc, inl, inr, Some, arith}
use Rattle.std.specs.Option.{option_map}
use Rattle.std.proofs.lemmas.Bool.{both_ways}
use Rattle.std.proofs.lemmas.Option.{none-some, same_Some}
use Rattle.trigger_command.specs.Spec.{SpecParts}
use Rattle.trigger_status.specs.declared.job.JobStatus.{JobStatus}
use Rattle.trigger_status.specs.declared.job.JobStatus.TheVariants.{Pending, Active, Complete, Failed, Cancelling, Cancelled}
use Rattle.history.proofs.Words.{world_none, world_push}
use Rattle.history.specs.After.{commanded, created_trigger}
use Rattle.history.specs.Event.{Entry, Event, History, Advance, Command}
use Rattle.history.specs.History.{reply_to, world_of}
use Rattle.history.specs.Steps.{Ended, Ends, cancelled_from, ended_as, fetched, refreshed, skipped, started, trigger_of, waiting, with_status}
use Rattle.history.specs.World.{Made, Trigger, World}
use Rattle.history.specs.declared.reply.Reply.{Reply}
use Rattle.history.specs.declared.reply.Reply.TheVariants as reply
use Rattle.delivery_law.specs.Starts.{BecameActive, TakesBack}
use Rattle.delivery_law.proofs.Places.{from_right, longer}
use Rattle.trigger_law.proofs.Comes.{Comes, Stays, IsMade, Begins, Refreshing, Fetching, Skipping, Ending, FetchEnds, RefreshEnds, Cancels, Is, comes}
use Rattle.trigger_law.proofs.FinalLemmas.{ends_last}
use Rattle.trigger_law.proofs.PreparedLaw.{is_prepared}
use Rattle.trigger_law.proofs.NumberLemmas.{given_next, triggers_are, unused_in}
use Rattle.trigger_law.specs.Accounts.{HasStarted, IsAccountedFor, WasChanged, WasCreated, has_begun, moment_of, status_in}
use Rattle.trigger_law.specs.FinalTriggers.{is_final}

-- ---- beginnings of histories

abbrev head_or : Entry → History → Entry
head_or e [] = e
head_or e (x ∷ xs) = x

abbrev tail_of : History → History
tail_of [] = []
tail_of (x ∷ xs) = xs

none_both : (xs ys : History) → [] ≡ xs ++ ys → (xs ≡ []) × (ys ≡ [])
none_both [] ys is = (refl, sym is)
none_both (x ∷ xs) ys is = absurd (omega (arith, ap length is))

-- a beginning of a list with one more at its end is the whole, or a beginning of the list
cut_last : (xs : History) (e : Entry) (front back : History) → xs ++ e ∷ [] ≡ front ++ back → (front ≡ xs ++ e ∷ []) ⊎ ((more : History) × (xs ≡ front ++ more))
cut_last xs e [] back is = inr (xs, refl)
cut_last [] e (f ∷ front) back is =
    let none = none_both front back (ap tail_of is) in
    inl (ap (λ (ys : History). f ∷ ys) none.0 ∙ ap (λ (ys : History). head_or e ys ∷ []) (sym is))
cut_last (x ∷ xs) e (f ∷ front) back is = elim (cut_last xs e front back (ap tail_of is)) [
  | inl whole ↦ inl (ap (λ (ys : History). f ∷ ys) whole ∙ ap (λ (ys : History). head_or x ys ∷ (xs ++ e ∷ [])) (sym is))
  | inr part ↦ inr (part.0, ap (λ (ys : History). head_or x ys ∷ xs) is ∙ ap (λ (ys : History). f ∷ ys) part.1)
]

-- what is said of a trigger, but for what it has prepared
record Accounted (made : Made) (h : History) (id : ℕ) (trigger : Trigger) : Type 0 where
  number : trigger.job.id ≡ id
  created : WasCreated made h id trigger.job.spec trigger.job.ctime
  changed : WasChanged made h id trigger.job.status trigger.job.mtime
  started : TakesBack trigger.job.spec.kind → has_begun trigger.job.status ≡ true → HasStarted made h id trigger.job.spec

-- ---- one entry more

module _ (made : Made) (h : History) (e : Entry) (id : ℕ) where
  abbrev w : World
  w = world_of made h

  abbrev h' : History
  h' = h ++ e ∷ []

  abbrev r : Reply
  r = reply_to made h e

  created_longer : {spec : SpecParts} {moment : ℕ} → WasCreated made h id spec moment → WasCreated made h' id spec moment
  created_longer was = record { at = was.at; pass = was.pass; answered = longer e was.answered }

  active_longer : {at : ℕ} {trigger : Trigger} → BecameActive made h at trigger → BecameActive made h' at trigger
  active_longer b = record { pass = b.pass; id = b.id; moment = b.moment; answered = longer e b.answered; this = b.this; takes_back = b.takes_back }

  started_longer : {spec : SpecParts} → HasStarted made h id spec → HasStarted made h' id spec
  started_longer s = record { at = s.at; trigger = s.trigger; active = active_longer s.active; number = s.number; same = s.same }

  -- it has the status that it had
  changed_longer : (status : JobStatus) (moment : ℕ) → WasChanged made h id status moment → status_in (world_of made h') id ≡ Some status → WasChanged made h' id status moment
  changed_longer status moment c now = record {
    before = c.before;
    entry = c.entry;
    since = c.since ++ e ∷ [];
    whole = ap (λ x. x ++ e ∷ []) c.whole ∙ append_assoc c.before (c.entry ∷ c.since) (e ∷ []);
    then = c.then;
    new = c.new;
    kept = λ between later is. elim (cut_last c.since e between later is) [
      | inl whole ↦ ap (λ (x : History). status_in (world_of made (c.before ++ c.entry ∷ x)) id) whole
          ∙ ap (λ (x : History). status_in (world_of made x) id) (sym (append_assoc c.before (c.entry ∷ c.since) (e ∷ [])) ∙ ap (λ x. x ++ e ∷ []) (sym c.whole)) ∙ now
      | inr part ↦ c.kept between part.0 part.1
    ];
  }

  -- the entry gave it the status
  newly : (status : JobStatus) (moment : ℕ) → status_in (world_of made h') id ≡ Some status → moment_of e.1 ≡ Some moment → (status_in w id ≢ Some status) → WasChanged made h' id status moment
  newly status moment now then new = record {
    before = h;
    entry = e;
    since = [];
    whole = refl;
    then = then;
    new = new;
    kept = λ between later is. ap (λ (x : History). status_in (world_of made (h ++ e ∷ x)) id) (none_both between later is).0 ∙ now;
  }

  -- what is found after the entry
  module _ (u : Trigger) (is_found : trigger_of id (world_of made h').controlling.triggers ≡ Some u) where
    abbrev Account : Trigger → Type 0
    Account v = Accounted made h' id v

    now_has : (v : Trigger) → u ≡ v → status_in (world_of made h') id ≡ Some v.job.status
    now_has v is = ap (option_map (λ (x : Trigger). x.job.status)) (is_found ∙ ap Some is)

    module _ (t : Trigger) (found : trigger_of id w.controlling.triggers ≡ Some t) (a : Accounted made h id t) where
      other : (s : JobStatus) → (t.job.status ≡ s → ⊥) → status_in w id ≢ Some s
      other s differs is = differs (same_Some t.job.status s (sym (ap (option_map (λ (x : Trigger). x.job.status)) found) ∙ is))

      -- what is said of a trigger with the same number, specification, status and times
      same_account : (v : Trigger) → v.job.id ≡ t.job.id → v.job.spec ≡ t.job.spec → v.job.ctime ≡ t.job.ctime → v.job.status ≡ t.job.status → v.job.mtime ≡ t.job.mtime → u ≡ v → Account u
      same_account v number spec ctime status mtime is = subst Account (sym is) (record {
        number = number ∙ a.number;
        created = subst (λ s. WasCreated made h' id s v.job.ctime) (sym spec) (subst (λ m. WasCreated made h' id t.job.spec m) (sym ctime) (created_longer a.created));
        changed = subst (λ s. WasChanged made h' id s v.job.mtime) (sym status) (subst (λ m. WasChanged made h' id t.job.status m) (sym mtime)
            (changed_longer t.job.status t.job.mtime a.changed (now_has v is ∙ ap Some status)));
        started = λ takes has. subst (λ s. HasStarted made h' id s) (sym spec)
            (started_longer (a.started (subst (λ (s : SpecParts). TakesBack s.kind) spec takes) (ap has_begun (sym status) ∙ has)));
      })

      -- its status changed at this moment
      new_account : (moment : ℕ) (status : JobStatus) → moment_of e.1 ≡ Some moment → (t.job.status ≡ status → ⊥) → (TakesBack t.job.spec.kind → has_begun status ≡ true → HasStarted made h' id t.job.spec)
          → u ≡ with_status moment status t → Account u
      new_account moment status then differs begun is = subst Account (sym is) (record {
        number = a.number;
        created = created_longer a.created;
        changed = newly status moment (now_has (with_status moment status t) is) then (other status differs);
        started = begun;
      })

      stays : u ≡ t → Account u
      stays is = same_account t refl refl refl refl refl is

      begins : (moment : ℕ) → e.1 ≡ Advance id moment → r ≡ reply.Started → t.job.status ≡ Pending → u ≡ started e.0 moment t → Account u
      begins moment event answer pending is = subst Account (sym is) (record {
        number = a.number;
        created = created_longer a.created;
        changed = newly Active moment (now_has (started e.0 moment t) is) (ap moment_of event) (other Active (λ live. both_ways false refl (ap is_pending (sym live ∙ pending))));
        started = λ takes has. record {
          at = length h + 1;
          trigger = t;
          active = record {
            pass = e.0;
            id = id;
            moment = moment;
            answered = record {
              before = h;
              since = [];
              whole = ap (λ (v : Event). h ++ (e.0, v) ∷ []) event;
              place = refl;
              answered = ap (λ (v : Event). reply_to made h (e.0, v)) (sym event) ∙ answer;
            };
            this = found;
            takes_back = takes;
          };
          number = a.number;
          same = refl;
        };
      })
        where
          is_pending : JobStatus → Bool
          is_pending Pending = true
          is_pending status = false

      -- a last status, where it had none
      ends_in : (moment : ℕ) (status before : JobStatus) → t.job.status ≡ before → is_final before ≡ false → is_final status ≡ true → (before ≡ Pending → ⊥) → moment_of e.1 ≡ Some moment
          → u ≡ with_status moment status t → Account u
      ends_in moment status before is live last begun then now = new_account moment status then
          (λ same. both_ways false refl (sym live ∙ ap is_final (sym is ∙ same) ∙ last))
          (λ takes has. started_longer (a.started takes (ap has_begun is ∙ live_begun before live begun))) now
        where
          live_begun : (before : JobStatus) → is_final before ≡ false → (before ≡ Pending → ⊥) → has_begun before ≡ true
          live_begun Pending live begun = absurd (begun refl)
          live_begun Active live begun = refl
          live_begun Complete live begun = absurd (both_ways true live refl)
          live_begun Failed live begun = absurd (both_ways true live refl)
          live_begun Cancelling live begun = refl
          live_begun Cancelled live begun = absurd (both_ways true live refl)

      ending : (moment : ℕ) (status : JobStatus) → moment_of e.1 ≡ Some moment → is_final status ≡ true → (t.job.status ≡ Pending → ⊥) → (before : JobStatus) → t.job.status ≡ before → u ≡ ended_as moment status before t → Account u
      ending moment status then last begun Pending is now = absurd (begun is)
      ending moment status then last begun Active is now = ends_in moment status Active is refl last (λ same. begun (is ∙ same)) then now
      ending moment status then last begun Cancelling is now = ends_in moment status Cancelling is refl last (λ same. begun (is ∙ same)) then now
      ending moment status then last begun Complete is now = stays now
      ending moment status then last begun Failed is now = stays now
      ending moment status then last begun Cancelled is now = stays now

      cancels : (moment : ℕ) → moment_of e.1 ≡ Some moment → (before : JobStatus) → t.job.status ≡ before → u ≡ cancelled_from moment before t → Account u
      cancels moment then Pending is now = new_account moment Cancelled then (λ same. both_ways false refl (ap is_final (sym is ∙ same))) (λ takes has. absurd (both_ways false refl has)) now
      cancels moment then Active is now = new_account moment Cancelling then (λ same. both_ways false refl (ap is_active (sym same ∙ is)))
          (λ takes has. started_longer (a.started takes (ap has_begun is))) now
        where
          is_active : JobStatus → Bool
          is_active Active = true
          is_active status = false
      cancels moment then Complete is now = stays now
      cancels moment then Failed is now = stays now
      cancels moment then Cancelling is now = stays now
      cancels moment then Cancelled is now = stays now

      fetch_ends : (good : Bool) → u ≡ fetched good t → Account u
      fetch_ends true is = same_account (fetched true t) refl refl refl refl refl is
      fetch_ends false is = same_account (fetched false t) refl refl refl refl refl is

      refresh_ends : (good : Bool) → u ≡ refreshed good t → Account u
      refresh_ends true is = same_account (refreshed true t) refl refl refl refl refl is
      refresh_ends false is = same_account (refreshed false t) refl refl refl refl refl is

    -- a trigger that is made
    made_now : (spec : SpecParts) (moment : ℕ) → e.1 ≡ Command spec moment → r ≡ reply.Created id → u ≡ commanded id spec moment → Account u
    made_now spec moment event answer is = subst Account (sym is) (record {
      number = refl;
      created = record {
        at = length h + 1;
        pass = e.0;
        answered = record {
          before = h;
          since = [];
          whole = ap (λ (v : Event). h ++ (e.0, v) ∷ []) event;
          place = refl;
          answered = ap (λ (v : Event). reply_to made h (e.0, v)) (sym event) ∙ answer;
        };
      };
      changed = newly Pending moment (now_has (commanded id spec moment) is) (ap moment_of event)
          (λ had. none-some Pending (sym (ap (option_map (λ (x : Trigger). x.job.status)) (unused_in made h id (given_next w e id (ap created_trigger answer)))) ∙ had));
      started = λ takes has. absurd (both_ways false refl has);
    })

    last_of : (t : Trigger) (status : JobStatus) → Is t (Ended status) ⊎ Is t (Ends status) → is_final status ≡ true
    last_of t status (inl tells) = tells.1
    last_of t status (inr (none, inl cancelled)) = ap is_final cancelled.1
    last_of t status (inr (none, inr (inl done))) = ap is_final done.2
    last_of t status (inr (none, inr (inr done))) = ap is_final done.2 ∙ ends_last t.job.emeta t.job.econtent

    begun_of : (t : Trigger) (status : JobStatus) → Is t (Ended status) ⊎ Is t (Ends status) → t.job.status ≡ Pending → ⊥
    begun_of t status (inl tells) pending = both_ways false refl (ap is_final (sym pending ∙ tells.0) ∙ tells.1)
    begun_of t status (inr (none, inl cancelled)) pending = both_ways false refl (ap has_begun (sym pending ∙ cancelled.0))
    begun_of t status (inr (none, inr (inl done))) pending = both_ways false refl (ap has_begun (sym pending ∙ done.0))
    begun_of t status (inr (none, inr (inr done))) pending = both_ways false refl (ap has_begun (sym pending ∙ done.0))

    account : ((t : Trigger) → trigger_of id w.controlling.triggers ≡ Some t → Accounted made h id t) → Comes w e r id u → Account u
    account old (Stays found) = stays u found (old u found) refl
    account old (IsMade spec moment event answer is) = made_now spec moment event answer is
    account old (Begins t moment found event answer tells is) = begins t found (old t found) moment event answer tells is
    account old (Refreshing t moment refresh found event answer tells is) = same_account t found (old t found) (waiting _ t) refl refl refl refl refl is
    account old (Fetching t moment fetch place item plan found event answer tells is) = same_account t found (old t found) (waiting _ t) refl refl refl refl refl is
    account old (Skipping t moment place item found event answer tells is) = same_account t found (old t found) (skipped place t) refl refl refl refl refl is
    account old (Ending t moment status found event answer tells is) = ending t found (old t found) moment status (ap moment_of event) (last_of t status tells) (begun_of t status tells) t.job.status refl is
    account old (FetchEnds t fetch outcome moment kept found event answer awaits is) = fetch_ends t found (old t found) _ is
    account old (RefreshEnds t refresh tree moment good found event answer awaits is) = refresh_ends t found (old t found) good is
    account old (Cancels t ids moment list found event answer is) = cancels t found (old t found) moment (ap moment_of event) t.job.status refl is

-- ---- over histories

abbrev Accounts : Made → History → Type 0
Accounts made h = (id : ℕ) (t : Trigger) → trigger_of id (world_of made h).controlling.triggers ≡ Some t → Accounted made h id t

accounts_push : (made : Made) (h : History) (e : Entry) → Accounts made h → Accounts made (h ++ e ∷ [])
accounts_push made h e old id u found = account made h e id u found (old id)
    (comes (world_of made h) id u e (sym (ap (λ (v : World). trigger_of id v.controlling.triggers) (world_push made h e) ∙ ap (trigger_of id) (triggers_are (world_of made h) e)) ∙ found))

all_accounts : (made : Made) (h : History) → Accounts made h
all_accounts made = from_right (Accounts made) (λ id t found. absurd (none-some t (sym (ap (λ (v : World). trigger_of id v.controlling.triggers) (world_none made)) ∙ found))) (accounts_push made)

pub accounts : (made : Made) (h : History) (id : ℕ) (t : Trigger) → trigger_of id (world_of made h).controlling.triggers ≡ Some t → IsAccountedFor made h id t
accounts made h id t found = let a = all_accounts made h id t found in record {
  number = a.number;
  created = a.created;
  changed = a.changed;
  started = a.started;
  prepared = is_prepared made h id t found;
}
