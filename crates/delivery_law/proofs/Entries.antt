-- What an entry leaves of fetches, kept objects and starts: what was there before, or what this entry began or gained.
use Rattle.std.proofs.Common.{◌≡◌, ℕ, ◌+◌, ◌==◌, Bool, true, false, not, List, [], ◌∷◌, ◌++◌, All, refl, sym, ap, ◌∙◌, subst, inl, inr, None, Some, Option, nat_le}
use Rattle.std.specs.List.{filter, find}
use Rattle.std.specs.Option.{is_some, option_and_then, option_to_list}
use Rattle.std.proofs.lemmas.Bool.{cases_Bool, cond-true, cond-false, and_parts, eqb-true, not-true}
use Rattle.std.proofs.lemmas.List.{append-nil}
use Rattle.std.proofs.lemmas.List.Elements.{All-append, All-cons, All-filter, All-nil, All-push, All-tail, All-weaker}
use Rattle.std.proofs.lemmas.Option.{none-some, cond_some}
use Rattle.targets.specs.declared.target.Target.{Target}
use Rattle.trigger_command.specs.Selection.{hits}
use Rattle.upstream_gate.specs.Got.{GotParts}
use Rattle.upstream_gate.specs.declared.outcome.Outcome.{Outcome}
use Rattle.upstream_gate.specs.declared.outcome.Outcome.TheVariants as outcome
use Rattle.history.proofs.Cases.{admit_cases, advance_cases}
use Rattle.history.specs.After.{after, after_reply, begun_fetch, fetches_after, fetching, kept_after, position, start_of, starts_after}
use Rattle.history.specs.Event.{Entry, Admit, FetchEnd, Finish, RefreshBegin, RefreshEnd, Command, Advance, Cancel, Delete, ReadStatus, Lists, Cut, LogFile, ListLogs, DropLog}
use Rattle.history.specs.Kept.{brought, evicted, full_content, is_kept, is_of, kept_content, others, total, unhit, with_gained}
use Rattle.history.specs.Reply.{fetch_end_reply, gained_of, is_hit, reply_in}
use Rattle.history.specs.World.{Begun, Kept, Start, World, is_open}
use Rattle.history.specs.declared.begun.Fetching.{Fetching}
use Rattle.history.specs.declared.reply.Reply.{Reply}
use Rattle.history.specs.declared.reply.Reply.TheVariants as reply
use Rattle.delivery_law.specs.Fetches.{fetched_target}
use Rattle.delivery_law.proofs.Lists.{all_optional, all_passed, found_is}

-- ---- fetches

pub fetches_are : (w : World) (e : Entry) → (after w e).delivering.fetches ≡ fetches_after w e (reply_in w e)
unfolding after after_reply
fetches_are w e = refl

-- what this entry begins under this number for this target
abbrev pub begun_by : World → Entry → ℕ → Target → Begun Fetching
begun_by w e fetch target = record { number = fetch; pass = e.0; at = position w; what = fetching w target }

module _ (w : World) (P : Begun Fetching → Type 0) (old : All P w.delivering.fetches) where
  abbrev Passes : Entry → Reply → Type 0
  Passes e r = ((fetch : ℕ) (target : Target) → begun_fetch r ≡ Some fetch → fetched_target e.1 r ≡ Some target → P (begun_by w e fetch target)) → All P (fetches_after w e r)

  fetches_pass : (e : Entry) → Passes e (reply_in w e)
  fetches_pass (pass, Admit request moment) = admit_cases w pass request moment (Passes (pass, Admit request moment))
      (λ n new. old) (λ rule new. old) (λ kept is new. old)
      (λ is new. All-push P w.delivering.fetches _ old (new (w.counts.fetched + 1) request.asked.target refl refl))
  fetches_pass (pass, FetchEnd fetch outcome moment) = λ new. All-filter _ P w.delivering.fetches old
  fetches_pass (pass, Advance id moment) = advance_cases w pass (Passes (pass, Advance id moment))
      (λ n new. old) (λ status new. old) (λ by new. old) (λ n new. old) (λ new. old) (λ new. old) (λ n new. old)
      (λ target new. All-push P w.delivering.fetches _ old (new (w.counts.fetched + 1) target refl refl)) id moment (λ new. old)
  fetches_pass (pass, Finish delivery status total entity moment) = λ new. old
  fetches_pass (pass, RefreshBegin moment) = λ new. old
  fetches_pass (pass, RefreshEnd refresh tree moment) = λ new. old
  fetches_pass (pass, Command spec moment) = λ new. old
  fetches_pass (pass, Cancel ids moment) = λ new. old
  fetches_pass (pass, Delete id) = λ new. old
  fetches_pass (pass, ReadStatus id) = λ new. old
  fetches_pass (pass, Lists filter) = λ new. old
  fetches_pass (pass, Cut moment) = λ new. old
  fetches_pass (pass, LogFile number) = λ new. old
  fetches_pass (pass, ListLogs) = λ new. old
  fetches_pass (pass, DropLog number) = λ new. old

  pub each_fetch : (e : Entry) → ((fetch : ℕ) (target : Target) → begun_fetch (reply_in w e) ≡ Some fetch → fetched_target e.1 (reply_in w e) ≡ Some target → P (begun_by w e fetch target)) → All P (after w e).delivering.fetches
  each_fetch e new = subst (All P) (sym (fetches_are w e)) (fetches_pass e new)

-- ---- starts

pub starts_are : (w : World) (e : Entry) → (after w e).delivering.starts ≡ starts_after w e (reply_in w e)
unfolding after after_reply
starts_are w e = refl

-- what starts with an entry that is answered so
abbrev pub new_starts : World → Entry → Reply → List Start
new_starts w (pass, Advance id moment) reply.Started = option_to_list (start_of w id)
new_starts w e r = []

abbrev Starts : World → Entry → Reply → Type 0
Starts w e r = starts_after w e r ≡ w.delivering.starts ++ new_starts w e r

same_starts : (w : World) → w.delivering.starts ≡ w.delivering.starts ++ []
same_starts w = sym (append-nil w.delivering.starts)

starts_more : (w : World) (e : Entry) → Starts w e (reply_in w e)
starts_more w (pass, Advance id moment) = advance_cases w pass (Starts w (pass, Advance id moment))
    (λ n. same_starts w) (λ status. same_starts w) (λ by. same_starts w) (λ n. same_starts w) refl (same_starts w) (λ n. same_starts w)
    (λ target. same_starts w) id moment (same_starts w)
starts_more w (pass, Admit request moment) = same_starts w
starts_more w (pass, FetchEnd fetch outcome moment) = same_starts w
starts_more w (pass, Finish delivery status total entity moment) = same_starts w
starts_more w (pass, RefreshBegin moment) = same_starts w
starts_more w (pass, RefreshEnd refresh tree moment) = same_starts w
starts_more w (pass, Command spec moment) = same_starts w
starts_more w (pass, Cancel ids moment) = same_starts w
starts_more w (pass, Delete id) = same_starts w
starts_more w (pass, ReadStatus id) = same_starts w
starts_more w (pass, Lists filter) = same_starts w
starts_more w (pass, Cut moment) = same_starts w
starts_more w (pass, LogFile number) = same_starts w
starts_more w (pass, ListLogs) = same_starts w
starts_more w (pass, DropLog number) = same_starts w

pub starts_grow : (w : World) (e : Entry) → (after w e).delivering.starts ≡ w.delivering.starts ++ new_starts w e (reply_in w e)
starts_grow w e = starts_are w e ∙ starts_more w e

-- ---- kept objects

pub kept_are : (w : World) (e : Entry) → (after w e).delivering.kept ≡ kept_after w e (reply_in w e)
unfolding after after_reply
kept_are w e = refl

-- an open fetch that ended so gained this
pub record Gained (w : World) (pass : ℕ) (ends : Outcome) (found : Option (Begun Fetching)) (kept : Kept) : Type 0 where
  pub begun : Begun Fetching
  pub got : GotParts
  pub is : found ≡ Some begun
  pub ended : ends ≡ outcome.Got got
  pub status : got.status ≡ 200
  pub unhit : is_hit w.delivering begun ≡ false
  pub this : kept ≡ brought begun.number begun.what got

-- an entry gained it
pub record GainedBy (w : World) (e : Entry) (r : Reply) (kept : Kept) : Type 0 where
  pub fetch : ℕ
  pub ends : Outcome
  pub moment : ℕ
  pub event : e.1 ≡ FetchEnd fetch ends moment
  pub gained : Gained w e.0 ends (find (is_open fetch e.0) w.delivering.fetches) kept
  pub answer : r ≡ reply.Ended true
  pub quiet : new_starts w e r ≡ []

all_evicted : (P : Kept → Type 0) (most : ℕ) (xs : List Kept) → All P xs → All P (evicted most xs)
all_evicted P most [] all = All-nil P
all_evicted P most (x ∷ xs) all = elim (cases_Bool (nat_le (total (x ∷ xs)) most)) [
  | inl fits ↦ subst (All P) (sym (cond-true _ (x ∷ xs) (evicted most xs) fits)) all
  | inr large ↦ subst (All P) (sym (cond-false _ (x ∷ xs) (evicted most xs) large)) (all_evicted P most xs (All-tail P x xs all))
]

all_with : (P : Kept → Type 0) (most : ℕ) (xs : List Kept) (more : Option Kept) → All P xs → ((kept : Kept) → more ≡ Some kept → P kept) → All P (with_gained most xs more)
all_with P most xs None all new = all
all_with P most xs (Some kept) all new = all_evicted P most (others kept.key xs ++ kept ∷ []) (All-push P (others kept.key xs) kept (All-filter _ P xs all) (new kept refl))

-- a start does not hit it
abbrev pub Misses : Kept → Start → Type 0
Misses kept start = hits start.selection kept.key kept.ccid ≡ false

all_unhit : (P Q : Kept → Type 0) (start : Option Start) (xs : List Kept) → All P xs → ((kept : Kept) → P kept → All (Misses kept) (option_to_list start) → Q kept) → All Q (unhit start xs)
all_unhit P Q None xs all each = All-weaker P Q (λ kept p. each kept p (All-nil (Misses kept))) xs all
all_unhit P Q (Some start) xs all each = all_passed P Q (λ kept. not (hits start.selection kept.key kept.ccid)) xs all
    (λ kept p passes. each kept p (All-cons (Misses kept) start [] (not-true (hits start.selection kept.key kept.ccid) passes) (All-nil (Misses kept))))

-- what an ended fetch gained
content_cases : (w : World) (begun : Begun Fetching) (kept : Kept) (found : Option GotParts) (P : Type 0)
    → option_and_then (kept_content w.made.limits.cache (is_hit w.delivering begun) w.delivering.kept begun.number begun.what) found ≡ Some kept
    → ((got : GotParts) → found ≡ Some got → is_hit w.delivering begun ≡ false → kept ≡ brought begun.number begun.what got → P) → P
content_cases w begun kept None P is each = absurd (none-some kept is)
content_cases w begun kept (Some got) P is each =
    let parts = cond_some (is_kept w.made.limits.cache (is_hit w.delivering begun) w.delivering.kept begun.number begun.what got) (brought begun.number begun.what got) kept is in
    let free = and_parts _ (not (is_hit w.delivering begun)) parts.0 in
    each got refl (not-true (is_hit w.delivering begun) free.1) (sym parts.1)

pub full_cases : (ends : Outcome) (got : GotParts) → full_content ends ≡ Some got → (ends ≡ outcome.Got got) × (got.status ≡ 200)
full_cases (outcome.Got had) got is =
    let p = cond_some (had.status == 200) had got is in (ap outcome.Got p.1, ap (λ (g : GotParts). g.status) (sym p.1) ∙ eqb-true had.status 200 p.0)
full_cases (outcome.Refused status) got is = absurd (none-some got is)
full_cases (outcome.TooLong length) got is = absurd (none-some got is)
full_cases (outcome.Malformed taken) got is = absurd (none-some got is)
full_cases (outcome.Cut taken) got is = absurd (none-some got is)
full_cases outcome.Failed got is = absurd (none-some got is)
full_cases outcome.Memory got is = absurd (none-some got is)

gained_is : (w : World) (pass : ℕ) (ends : Outcome) (found : Option (Begun Fetching)) (kept : Kept) → option_and_then (gained_of w ends) found ≡ Some kept → Gained w pass ends found kept
gained_is w pass ends None kept is = absurd (none-some kept is)
gained_is w pass ends (Some begun) kept is = content_cases w begun kept (full_content ends) (Gained w pass ends (Some begun) kept) is (λ got full free this.
    let f = full_cases ends got full in record {
      begun = begun;
      got = got;
      is = refl;
      ended = f.0;
      status = f.1;
      unhit = free;
      this = this;
    })

module _ (w : World) (P Q : Kept → Type 0) (old : All P w.delivering.kept) where
  abbrev Keeps : Entry → Reply → Type 0
  Keeps e r = ((kept : Kept) → P kept → All (Misses kept) (new_starts w e r) → Q kept)
      → ((kept : Kept) → GainedBy w e r kept → Q kept) → All Q (kept_after w e r)

  same : ((kept : Kept) → P kept → All (Misses kept) [] → Q kept) → All Q w.delivering.kept
  same stays = All-weaker P Q (λ kept p. stays kept p (All-nil (Misses kept))) w.delivering.kept old

  moved_ones : (test : Kept → Bool) (xs : List Kept) → All Q xs → All Q (filter (λ kept. not (test kept)) xs ++ option_to_list (find test xs))
  moved_ones test xs all = All-append Q _ _ (All-filter _ Q xs all) (all_optional Q (find test xs) (λ kept is. (found_is Q test xs kept all is).0))

  -- the reply to a FetchEnd tells whether something was gained
  ended_by : (pass fetch : ℕ) (ends : Outcome) (moment : ℕ) (found : Option (Begun Fetching)) → found ≡ find (is_open fetch pass) w.delivering.fetches
      → ((kept : Kept) → GainedBy w (pass, FetchEnd fetch ends moment) (fetch_end_reply w fetch ends found) kept → Q kept)
      → (kept : Kept) → option_and_then (gained_of w ends) found ≡ Some kept → Q kept
  ended_by pass fetch ends moment None is new kept gains = absurd (none-some kept gains)
  ended_by pass fetch ends moment (Some begun) is new kept gains = new kept (record {
    fetch = fetch;
    ends = ends;
    moment = moment;
    event = refl;
    gained = subst (λ f. Gained w pass ends f kept) is (gained_is w pass ends (Some begun) kept gains);
    answer = ap reply.Ended (ap is_some gains);
    quiet = refl;
  })

  keeps_ended : (pass fetch : ℕ) (ends : Outcome) (moment : ℕ) → Keeps (pass, FetchEnd fetch ends moment) (reply_in w (pass, FetchEnd fetch ends moment))
  unfolding reply_in
  keeps_ended pass fetch ends moment = λ stays new.
      all_with Q w.made.limits.cache w.delivering.kept _ (same stays) (ended_by pass fetch ends moment (find (is_open fetch pass) w.delivering.fetches) refl new)

  keeps : (e : Entry) → Keeps e (reply_in w e)
  keeps (pass, Admit request moment) = admit_cases w pass request moment (Keeps (pass, Admit request moment))
      (λ n stays new. same stays) (λ rule stays new. same stays)
      (λ kept is stays new. moved_ones (is_of _) w.delivering.kept (same stays)) (λ is stays new. same stays)
  keeps (pass, FetchEnd fetch ends moment) = keeps_ended pass fetch ends moment
  keeps (pass, Advance id moment) = advance_cases w pass (Keeps (pass, Advance id moment))
      (λ n stays new. same stays) (λ status stays new. same stays) (λ by stays new. same stays) (λ n stays new. same stays)
      (λ stays new. all_unhit P Q (start_of w id) w.delivering.kept old stays)
      (λ stays new. same stays) (λ n stays new. same stays) (λ target stays new. same stays) id moment (λ stays new. same stays)
  keeps (pass, Finish delivery status total entity moment) = λ stays new. same stays
  keeps (pass, RefreshBegin moment) = λ stays new. same stays
  keeps (pass, RefreshEnd refresh tree moment) = λ stays new. same stays
  keeps (pass, Command spec moment) = λ stays new. same stays
  keeps (pass, Cancel ids moment) = λ stays new. same stays
  keeps (pass, Delete id) = λ stays new. same stays
  keeps (pass, ReadStatus id) = λ stays new. same stays
  keeps (pass, Lists filter) = λ stays new. same stays
  keeps (pass, Cut moment) = λ stays new. same stays
  keeps (pass, LogFile number) = λ stays new. same stays
  keeps (pass, ListLogs) = λ stays new. same stays
  keeps (pass, DropLog number) = λ stays new. same stays

  pub each_kept : (e : Entry) → ((kept : Kept) → P kept → All (Misses kept) (new_starts w e (reply_in w e)) → Q kept)
      → ((kept : Kept) → GainedBy w e (reply_in w e) kept → Q kept) → All Q (after w e).delivering.kept
  each_kept e stays new = subst (All Q) (sym (kept_are w e)) (keeps e stays new)
