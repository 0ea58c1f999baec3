-- What a call opened stays open to its pass over the calls that do not end it.
use Rattle.std.proofs.Common.{◌≡◌, ℕ, Bool, true, false, not, ◌==◌, List, [], ◌∷◌, ◌++◌, refl, sym, ◌∙◌, ap, subst, append_assoc, Some}
use Rattle.std.proofs.lemmas.Bool.{and_parts, and_from, both_ways, eqb-true}
use Rattle.std.proofs.lemmas.List.Folds.{list_all-append}
use Rattle.std.specs.List.{list_all}
use Rattle.std.specs.declared.option.Option.{Option}
use Rattle.history.specs.Event.{Entry, History, Event, Admit, FetchEnd, Finish, RefreshBegin, RefreshEnd, Command, Advance, Cancel, Delete, ReadStatus, Lists, Cut, LogFile, ListLogs, DropLog}
use Rattle.history.specs.Laws.{HasBegun, ends_delivery, ends_fetch, ends_refresh}
use Rattle.history.specs.declared.reply.Reply.{Reply}
use Rattle.history.specs.declared.reply.Reply.TheVariants as reply
use Rattle.node_core.specs.Home.{AreOthers, EndsOpen, IsAnswered, IsUnanswered, Who}
use Rattle.std.specs.Prelude.{IsOk, Ok, Err}
use Rattle.std.specs.Result.{MatchResult}
use Rattle.std.specs.declared.alloc.AllocError.{AllocError}
use Rattle.std.specs.declared.result.Result.{Result}
use Rattle.session_base.specs.Doing.{Called, Makes, Told}
use Rattle.session_base.specs.Open.{NeedsOpen}
use Rattle.session_base.proofs.DoingLemmas.{told_one}

-- an entry that asks for the end is of the pass
abbrev pub IsOwn : (ℕ → ℕ → Entry → Bool) → Type 0
IsOwn ends = (number pass : ℕ) (entry : Entry) → ends number pass entry ≡ true → entry.0 ≡ pass

no_end : (b : Bool) → (b ≡ true → ⊥) → not b ≡ true
no_end true none = absurd (none refl)
no_end false none = refl

-- one own call is not the end
abbrev pub Spares : (ℕ → ℕ → Entry → Bool) → Who → ℕ → List Called → Type 0
Spares ends who number calls = list_all (λ call. not (ends number who.number (who.number, call.0))) calls ≡ true

module _ (given : Reply → Option ℕ) (ends : ℕ → ℕ → Entry → Bool) (own : IsOwn ends) where
  others_keep : (number pass : ℕ) (xs : History) → AreOthers pass xs → list_all (λ e. not (ends number pass e)) xs ≡ true
  others_keep number pass [] are = refl
  others_keep number pass (x ∷ xs) are = and_from (not (ends number pass x)) (list_all (λ e. not (ends number pass e)) xs) (no_end (ends number pass x) (λ p. are.0 (own number pass x p))) (others_keep number pass xs are.1)

  grown : (who : Who) (h : History) (number : ℕ) (more : History) → HasBegun who.made given ends h number who.number → list_all (λ e. not (ends number who.number e)) more ≡ true
      → HasBegun who.made given ends (h ++ more) number who.number
  grown who h number more b keep = record {
    before = b.before;
    event = b.event;
    since = b.since ++ more;
    whole = ap (λ x. x ++ more) b.whole ∙ append_assoc b.before ((who.number, b.event) ∷ b.since) more;
    begun = b.begun;
    kept = list_all-append (λ e. not (ends number who.number e)) b.since more ∙ and_from (list_all (λ e. not (ends number who.number e)) b.since) (list_all (λ e. not (ends number who.number e)) more) b.kept keep;
  }

  pub stays_open : (who : Who) (number : ℕ) (calls : List Called) (h last : History) → Spares ends who number calls → HasBegun who.made given ends h number who.number → Told who h calls last
      → HasBegun who.made given ends last number who.number
  stays_open who number [] h last spares begun (others, are, is) = subst (λ hs. HasBegun who.made given ends hs number who.number) (sym is) (grown who h number others begun (others_keep number who.number others are))
  stays_open who number (call ∷ calls) h last spares begun (others, are, answer, told) =
      let p = and_parts (not (ends number who.number (who.number, call.0))) (list_all (λ c. not (ends number who.number (who.number, c.0))) calls) spares in
      let b = grown who h number others begun (others_keep number who.number others are) in
      stays_open who number calls ((h ++ others) ++ (who.number, call.0) ∷ []) last p.1 (grown who (h ++ others) number ((who.number, call.0) ∷ []) b (and_from _ true p.0 refl)) told

  -- the call that was answered with the number has opened it
  pub is_opened : (who : Who) (number : ℕ) (call : Called) (h last : History) → given call.1 ≡ Some number → Told who h (call ∷ []) last → HasBegun who.made given ends last number who.number
  is_opened who number call h last opens (others, are, answer, (more, are_more, is)) = record {
    before = h ++ others;
    event = call.0;
    since = more;
    whole = is ∙ append_assoc (h ++ others) ((who.number, call.0) ∷ []) more;
    begun = ap given (sym answer) ∙ opens;
    kept = others_keep number who.number more are_more;
  }

pub own_delivery : IsOwn ends_delivery
own_delivery number pass (by, (Admit request moment)) p = absurd (both_ways _ refl p)
own_delivery number pass (by, (FetchEnd fetch outcome moment)) p = absurd (both_ways _ refl p)
own_delivery number pass (by, (Finish delivery status total entity moment)) p = eqb-true by pass (and_parts (delivery == number) (by == pass) p).1
own_delivery number pass (by, (RefreshBegin moment)) p = absurd (both_ways _ refl p)
own_delivery number pass (by, (RefreshEnd refresh tree moment)) p = absurd (both_ways _ refl p)
own_delivery number pass (by, (Command spec moment)) p = absurd (both_ways _ refl p)
own_delivery number pass (by, (Advance id moment)) p = absurd (both_ways _ refl p)
own_delivery number pass (by, (Cancel ids moment)) p = absurd (both_ways _ refl p)
own_delivery number pass (by, (Delete id)) p = absurd (both_ways _ refl p)
own_delivery number pass (by, (ReadStatus id)) p = absurd (both_ways _ refl p)
own_delivery number pass (by, (Lists filter)) p = absurd (both_ways _ refl p)
own_delivery number pass (by, (Cut moment)) p = absurd (both_ways _ refl p)
own_delivery number pass (by, (LogFile file)) p = absurd (both_ways _ refl p)
own_delivery number pass (by, ListLogs) p = absurd (both_ways _ refl p)
own_delivery number pass (by, (DropLog file)) p = absurd (both_ways _ refl p)

pub own_fetch : IsOwn ends_fetch
own_fetch number pass (by, (Admit request moment)) p = absurd (both_ways _ refl p)
own_fetch number pass (by, (FetchEnd fetch outcome moment)) p = eqb-true by pass (and_parts (fetch == number) (by == pass) p).1
own_fetch number pass (by, (Finish delivery status total entity moment)) p = absurd (both_ways _ refl p)
own_fetch number pass (by, (RefreshBegin moment)) p = absurd (both_ways _ refl p)
own_fetch number pass (by, (RefreshEnd refresh tree moment)) p = absurd (both_ways _ refl p)
own_fetch number pass (by, (Command spec moment)) p = absurd (both_ways _ refl p)
own_fetch number pass (by, (Advance id moment)) p = absurd (both_ways _ refl p)
own_fetch number pass (by, (Cancel ids moment)) p = absurd (both_ways _ refl p)
own_fetch number pass (by, (Delete id)) p = absurd (both_ways _ refl p)
own_fetch number pass (by, (ReadStatus id)) p = absurd (both_ways _ refl p)
own_fetch number pass (by, (Lists filter)) p = absurd (both_ways _ refl p)
own_fetch number pass (by, (Cut moment)) p = absurd (both_ways _ refl p)
own_fetch number pass (by, (LogFile file)) p = absurd (both_ways _ refl p)
own_fetch number pass (by, ListLogs) p = absurd (both_ways _ refl p)
own_fetch number pass (by, (DropLog file)) p = absurd (both_ways _ refl p)

pub own_refresh : IsOwn ends_refresh
own_refresh number pass (by, (Admit request moment)) p = absurd (both_ways _ refl p)
own_refresh number pass (by, (FetchEnd fetch outcome moment)) p = absurd (both_ways _ refl p)
own_refresh number pass (by, (Finish delivery status total entity moment)) p = absurd (both_ways _ refl p)
own_refresh number pass (by, (RefreshBegin moment)) p = absurd (both_ways _ refl p)
own_refresh number pass (by, (RefreshEnd refresh tree moment)) p = eqb-true by pass (and_parts (refresh == number) (by == pass) p).1
own_refresh number pass (by, (Command spec moment)) p = absurd (both_ways _ refl p)
own_refresh number pass (by, (Advance id moment)) p = absurd (both_ways _ refl p)
own_refresh number pass (by, (Cancel ids moment)) p = absurd (both_ways _ refl p)
own_refresh number pass (by, (Delete id)) p = absurd (both_ways _ refl p)
own_refresh number pass (by, (ReadStatus id)) p = absurd (both_ways _ refl p)
own_refresh number pass (by, (Lists filter)) p = absurd (both_ways _ refl p)
own_refresh number pass (by, (Cut moment)) p = absurd (both_ways _ refl p)
own_refresh number pass (by, (LogFile file)) p = absurd (both_ways _ refl p)
own_refresh number pass (by, ListLogs) p = absurd (both_ways _ refl p)
own_refresh number pass (by, (DropLog file)) p = absurd (both_ways _ refl p)

-- a call that ends what is open is answered
pub is_ended : (result : Result Reply AllocError) (who : Who) (old new : History → Type 0) (event : Event) → ((h : History) → old h → MatchResult result (λ r. IsAnswered who h event r new) (λ _. IsUnanswered who h new))
    → ((h : History) → old h → EndsOpen who.made h who.number event → IsOk result) → (line : Reply) × Makes who (NeedsOpen who event) old new ((event, line) ∷ [])
is_ended (Ok r) who old new event seen ended = (r, λ h saw need. told_one who h event r new (seen h saw))
is_ended (Err e) who old new event seen ended = (reply.Deleted, λ h saw need. absurd (both_ways _ refl (ended h saw need)))
