-- What a pass of a cell has seen after a call.
use Rattle.std.proofs.Common.{◌≡◌, ℕ, ◌+◌, ◌==◌, ◌&&◌, Bool, true, false, not, IsTrue, List, [], ◌∷◌, ◌++◌, map, refl, sym, ap, ◌∙◌, subst, Option, Result, Ok, Err, IfOk, IsOk}
use Rattle.std.specs.List.{All, Contains, list_all}
use Rattle.atomic_table.specs.Seated.{TableId}
use Rattle.std.specs.Result.{MatchResult}
use Rattle.std.specs.declared.alloc.AllocError.{AllocError}
use Rattle.std.proofs.lemmas.Bool.{ne_eqb}
use Rattle.std.proofs.lemmas.List.{append_assoc, map-append}
use Rattle.std.proofs.lemmas.List.Elements.{All-head, All-tail}
use Rattle.std.proofs.lemmas.List.Folds.{list_all-append}
use Rattle.history.specs.After.{begun_delivery, begun_fetch, begun_refresh}
use Rattle.history.specs.Event.{Entry, Event, History, Admit, FetchEnd, Finish, RefreshBegin, RefreshEnd, Command, Advance, Cancel, Delete, ReadStatus, Lists, Cut, LogFile, ListLogs, DropLog, event_of}
use Rattle.history.specs.History.{reply_to}
use Rattle.history.specs.Laws.{HasBegun, ends_delivery, ends_fetch, ends_refresh}
use Rattle.history.specs.World.{Made}
use Rattle.history.specs.declared.call.Call.{Call}
use Rattle.history.specs.declared.reply.Reply.{Reply}
use Rattle.node_cell.specs.Entries.{entry_of, history_of}
use Rattle.node_core.specs.Home.{AreOthers, EndsOpen, IsAnswered, IsUnanswered, Who}
use Rattle.turn_cell.specs.Cell.{IsResting, SitsAt, number_of, numbers_in, numbers_of}
use Rattle.turn_cell.specs.History.{FollowedByOthers, NoneOf}
use Rattle.turn_cell.specs.declared.pass.Pass.{Pass}
use Rattle.turn_cell.specs.declared.view.View.{View}

-- ---- the pass's own number

pub own_of : (table : TableId) (passes : ℕ) (pass : Pass Call) → SitsAt table passes pass → Contains (numbers_of pass) (number_of pass)
own_of table passes pass sits = subst (λ vs. Contains (numbers_in vs) pass.number) (sym sits.2.1) (own_in sits.2.0 sits.2.2)
  where
    own_in : (v : View Call) → IsResting passes pass.number v → Contains v.numbers pass.number
    own_in v rests = rests.2

-- ---- others' calls

others_apart : (number : ℕ) (numbers : List ℕ) → Contains numbers number → (others : List (ℕ × Call)) → NoneOf numbers others → AreOthers number (history_of others)
others_apart number numbers own [] none = tt
others_apart number numbers own (called ∷ others) none = (
  (λ same. All-head (λ (e : ℕ × Call). ¬ (Contains numbers e.0)) called others none (subst (Contains numbers) (sym same) own)),
  others_apart number numbers own others (All-tail (λ (e : ℕ × Call). ¬ (Contains numbers e.0)) called others none),
)

-- ---- what is open stays open while others call

not_ended : (n : ℕ) (number pass by : ℕ) → (by ≡ pass → ⊥) → not (n == number && by == pass) ≡ true
not_ended n number pass by other = ap (λ t. not (n == number && t)) (ne_eqb by pass other) ∙ ap not (and_no (n == number))
  where
    and_no : (t : Bool) → (t && false) ≡ false
    and_no true = refl
    and_no false = refl

no_delivery : (number pass : ℕ) (entry : Entry) → (entry.0 ≡ pass → ⊥) → not (ends_delivery number pass entry) ≡ true
no_delivery number pass (by, Finish delivery status total entity moment) other = not_ended delivery number pass by other
no_delivery number pass (by, Admit request moment) other = refl
no_delivery number pass (by, FetchEnd fetch outcome moment) other = refl
no_delivery number pass (by, RefreshBegin moment) other = refl
no_delivery number pass (by, RefreshEnd refresh tree moment) other = refl
no_delivery number pass (by, Command spec moment) other = refl
no_delivery number pass (by, Advance id moment) other = refl
no_delivery number pass (by, Cancel ids moment) other = refl
no_delivery number pass (by, Delete id) other = refl
no_delivery number pass (by, ReadStatus id) other = refl
no_delivery number pass (by, Lists filter) other = refl
no_delivery number pass (by, Cut moment) other = refl
no_delivery number pass (by, LogFile file) other = refl
no_delivery number pass (by, ListLogs) other = refl
no_delivery number pass (by, DropLog file) other = refl

no_fetch : (number pass : ℕ) (entry : Entry) → (entry.0 ≡ pass → ⊥) → not (ends_fetch number pass entry) ≡ true
no_fetch number pass (by, FetchEnd fetch outcome moment) other = not_ended fetch number pass by other
no_fetch number pass (by, Admit request moment) other = refl
no_fetch number pass (by, Finish delivery status total entity moment) other = refl
no_fetch number pass (by, RefreshBegin moment) other = refl
no_fetch number pass (by, RefreshEnd refresh tree moment) other = refl
no_fetch number pass (by, Command spec moment) other = refl
no_fetch number pass (by, Advance id moment) other = refl
no_fetch number pass (by, Cancel ids moment) other = refl
no_fetch number pass (by, Delete id) other = refl
no_fetch number pass (by, ReadStatus id) other = refl
no_fetch number pass (by, Lists filter) other = refl
no_fetch number pass (by, Cut moment) other = refl
no_fetch number pass (by, LogFile file) other = refl
no_fetch number pass (by, ListLogs) other = refl
no_fetch number pass (by, DropLog file) other = refl

no_refresh : (number pass : ℕ) (entry : Entry) → (entry.0 ≡ pass → ⊥) → not (ends_refresh number pass entry) ≡ true
no_refresh number pass (by, RefreshEnd refresh tree moment) other = not_ended refresh number pass by other
no_refresh number pass (by, Admit request moment) other = refl
no_refresh number pass (by, FetchEnd fetch outcome moment) other = refl
no_refresh number pass (by, Finish delivery status total entity moment) other = refl
no_refresh number pass (by, RefreshBegin moment) other = refl
no_refresh number pass (by, Command spec moment) other = refl
no_refresh number pass (by, Advance id moment) other = refl
no_refresh number pass (by, Cancel ids moment) other = refl
no_refresh number pass (by, Delete id) other = refl
no_refresh number pass (by, ReadStatus id) other = refl
no_refresh number pass (by, Lists filter) other = refl
no_refresh number pass (by, Cut moment) other = refl
no_refresh number pass (by, LogFile file) other = refl
no_refresh number pass (by, ListLogs) other = refl
no_refresh number pass (by, DropLog file) other = refl

module _ (made : Made) (given : Reply → Option ℕ) (ends : ℕ → ℕ → Entry → Bool) (apart : (number pass : ℕ) (entry : Entry) → (entry.0 ≡ pass → ⊥) → not (ends number pass entry) ≡ true) where
  none_ends : (number pass : ℕ) (others : History) → AreOthers pass others → list_all (λ entry. not (ends number pass entry)) others ≡ true
  none_ends number pass [] are = refl
  none_ends number pass (entry ∷ others) are = ap (λ t. t && list_all (λ e. not (ends number pass e)) others) (apart number pass entry are.0) ∙ none_ends number pass others are.1

  begun_over : (h others : History) (number pass : ℕ) → AreOthers pass others → HasBegun made given ends h number pass → HasBegun made given ends (h ++ others) number pass
  begun_over h others number pass are b = record {
    before = b.before;
    event = b.event;
    since = b.since ++ others;
    whole = ap (λ es. es ++ others) b.whole ∙ append_assoc b.before ((pass, b.event) ∷ b.since) others;
    begun = b.begun;
    kept = subst IsTrue (sym (list_all-append (λ entry. not (ends number pass entry)) b.since others ∙ ap (λ t. list_all (λ entry. not (ends number pass entry)) b.since && t) (none_ends number pass others are) ∙ and_yes (list_all (λ entry. not (ends number pass entry)) b.since))) b.kept;
  }
    where
      and_yes : (t : Bool) → (t && true) ≡ t
      and_yes true = refl
      and_yes false = refl

pub ends_open_over : (made : Made) (h others : History) (pass : ℕ) (event : Event) → AreOthers pass others → EndsOpen made h pass event → EndsOpen made (h ++ others) pass event
ends_open_over made h others pass (FetchEnd fetch outcome moment) are begun = begun_over made begun_fetch ends_fetch no_fetch h others fetch pass are begun
ends_open_over made h others pass (RefreshEnd refresh tree moment) are begun = begun_over made begun_refresh ends_refresh no_refresh h others refresh pass are begun
ends_open_over made h others pass (Finish delivery status total entity moment) are begun = begun_over made begun_delivery ends_delivery no_delivery h others delivery pass are begun
ends_open_over made h others pass (Admit request moment) are begun = absurd begun
ends_open_over made h others pass (RefreshBegin moment) are begun = absurd begun
ends_open_over made h others pass (Command spec moment) are begun = absurd begun
ends_open_over made h others pass (Advance id moment) are begun = absurd begun
ends_open_over made h others pass (Cancel ids moment) are begun = absurd begun
ends_open_over made h others pass (Delete id) are begun = absurd begun
ends_open_over made h others pass (ReadStatus id) are begun = absurd begun
ends_open_over made h others pass (Lists filter) are begun = absurd begun
ends_open_over made h others pass (Cut moment) are begun = absurd begun
ends_open_over made h others pass (LogFile file) are begun = absurd begun
ends_open_over made h others pass (ListLogs) are begun = absurd begun
ends_open_over made h others pass (DropLog file) are begun = absurd begun

-- ---- the answer

module _ (made : Made) (number : ℕ) (numbers : List ℕ) (own : Contains numbers number) (seen taken : List (ℕ × Call)) (goes : FollowedByOthers numbers seen taken) where
  -- what others have called since
  abbrev pub since : History
  since = history_of goes.0

  pub taken_is : history_of taken ≡ history_of seen ++ since
  taken_is = ap history_of goes.1 ∙ map-append entry_of seen goes.0

  pub are_since : AreOthers number since
  are_since = others_apart number numbers own goes.0 goes.2

  pub answered : (sees : History → Type 0) (call : Call) (r : Reply) → r ≡ reply_to made (history_of taken) (number, event_of call) → sees (history_of (taken ++ (number, call) ∷ []))
      → IsAnswered (record { made = made; number = number }) (history_of seen) (event_of call) r sees
  answered sees call r is has = record {
    others = since;
    are_others = are_since;
    answer = is ∙ ap (λ h. reply_to made h (number, event_of call)) taken_is;
    seen = subst sees (map-append entry_of taken ((number, call) ∷ []) ∙ ap (λ h. h ++ (number, event_of call) ∷ []) taken_is) has;
  }

  pub unanswered : (sees : History → Type 0) → sees (history_of taken) → IsUnanswered (record { made = made; number = number }) (history_of seen) sees
  unanswered sees has = record { others = since; are_others = are_since; seen = subst sees taken_is has }

  pub answered_at : (h : History) → history_of seen ≡ h → (sees : History → Type 0) (call : Call) (r : Reply) → r ≡ reply_to made (history_of taken) (number, event_of call) → sees (history_of (taken ++ (number, call) ∷ []))
      → IsAnswered (record { made = made; number = number }) h (event_of call) r sees
  answered_at h is sees call r answer has = subst (λ x. IsAnswered (record { made = made; number = number }) x (event_of call) r sees) is (answered sees call r answer has)

  pub unanswered_at : (h : History) → history_of seen ≡ h → (sees : History → Type 0) → sees (history_of taken) → IsUnanswered (record { made = made; number = number }) h sees
  unanswered_at h is sees has = subst (λ x. IsUnanswered (record { made = made; number = number }) x sees) is (unanswered sees has)

  pub open_at : (h : History) → history_of seen ≡ h → (event : Event) → EndsOpen made h number event → EndsOpen made (history_of taken) number event
  open_at h is event begun = subst (λ x. EndsOpen made x number event) (sym taken_is) (ends_open_over made (history_of seen) since number event are_since (subst (λ x. EndsOpen made x number event) (sym is) begun))
