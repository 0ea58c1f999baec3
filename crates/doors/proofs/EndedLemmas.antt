-- What is opened in a list of calls is ended behind it.
use Rattle.std.proofs.Common.{◌≡◌, ℕ, ◌<◌, ◌≤◌, ◌==◌, Bool, true, false, ◌||◌, ◌⊎◌, List, [], ◌∷◌, ◌++◌, length, Some, refl, sym, ◌∙◌, ap, subst, inl, inr, arith, append_assoc}
use Rattle.std.proofs.lemmas.Bool.{and_from, and_parts, both_ways, eq-eqb, or_left, or_right}
use Rattle.std.proofs.lemmas.List.{append_cancel_left}
use Rattle.std.proofs.lemmas.List.Folds.{list_any-append}
use Rattle.std.specs.List.{list_any}
use Rattle.std.specs.declared.option.Option.{Option}
use Rattle.history.specs.Event.{Entry, Event, History, Admit, FetchEnd, Finish, RefreshBegin, RefreshEnd, Command, Advance, Cancel, Delete, ReadStatus, Lists, Cut, LogFile, ListLogs, DropLog}
use Rattle.history.specs.History.{AnsweredAt, reply_to}
use Rattle.history.specs.Laws.{ends_delivery, ends_fetch, ends_refresh}
use Rattle.history.specs.declared.reply.Reply.{Reply}
use Rattle.node_core.specs.Home.{AreOthers, Who}
use Rattle.session_base.specs.Doing.{Any, Called, Makes, Told}
use Rattle.session.specs.Ended.{AllEnded, IsEndedIn, opened_delivery, opened_fetch, opened_refresh}
use Rattle.doors.specs.Ended.{EndsItsOwn, EndsSince}

later_too : (ends : ℕ → ℕ → Entry → Bool) (number : ℕ) (calls more : List Called) → IsEndedIn ends number calls → IsEndedIn ends number (calls ++ more)
later_too ends number calls more is = list_any-append (λ call. ends number 0 (0, call.0)) calls more ∙ or_left _ _ is

-- calls after calls
pub all_then : (calls more : List Called) → AllEnded calls → AllEnded more → AllEnded (calls ++ more)
all_then [] more p q = q
all_then (call ∷ calls) more p q = (
  record {
    delivery = λ number opens. later_too ends_delivery number calls more (p.0.delivery number opens);
    fetch = λ number opens. later_too ends_fetch number calls more (p.0.fetch number opens);
    refresh = λ number opens. later_too ends_refresh number calls more (p.0.refresh number opens);
  },
  all_then calls more p.1 q,
)

-- ---- places in lists

first_or : {A : Type 0} → A → List A → A
first_or d [] = d
first_or d (x ∷ xs) = x

rest_of : {A : Type 0} → List A → List A
rest_of [] = []
rest_of (x ∷ xs) = xs

-- the list from a place behind the first so many
split : {A : Type 0} (xs ys before : List A) (e : A) (since : List A) → xs ++ ys ≡ before ++ e ∷ since → length xs ≤ length before → (b : List A) × (before ≡ xs ++ b)
unfolding rest_of first_or
split [] ys before e since is enough = (before, refl)
split (x ∷ xs) ys [] e since is enough = absurd (omega (arith, enough))
split (x ∷ xs) ys (y ∷ before) e since is enough =
    let r = split xs ys before e since (ap rest_of is) (omega (arith, enough)) in
    (r.0, ap (λ l. l ++ before) (ap (λ z. z ∷ []) (sym (ap (first_or x) is))) ∙ ap (λ l. x ∷ l) r.1)

-- an element that stands in a list is among the first, or is the one behind these, or stands behind it
abbrev pub Among : {A : Type 0} → List A → List A → A → List A → Type 0
Among {A} xs b e since = (o : List A) × (xs ≡ b ++ e ∷ o)

abbrev pub Behind : {A : Type 0} → List A → A → List A → List A → A → List A → Type 0
Behind {A} xs x ys b e since = (c : List A) × (b ≡ xs ++ x ∷ c) × (ys ≡ c ++ e ∷ since)

abbrev pub Here : {A : Type 0} → List A → A → List A → List A → A → List A → Type 0
Here xs x ys b e since = (b ≡ xs) × (e ≡ x) × (since ≡ ys)

place : {A : Type 0} (xs : List A) (x : A) (ys b : List A) (e : A) (since : List A) → xs ++ x ∷ ys ≡ b ++ e ∷ since → Among xs b e since ⊎ (Here xs x ys b e since ⊎ Behind xs x ys b e since)
unfolding rest_of first_or
place [] x ys [] e since is = inr (inl (refl, sym (ap (first_or x) is), sym (ap rest_of is)))
place [] x ys (c ∷ b) e since is = inr (inr (b, ap (λ z. z ∷ b) (sym (ap (first_or x) is)), ap rest_of is))
place (w ∷ xs) x ys [] e since is = inl (xs, ap (λ z. z ∷ xs) (ap (first_or w) is))
place (w ∷ xs) x ys (c ∷ b) e since is =
    let same = sym (ap (first_or w) is) in
    elim (place xs x ys b e since (ap rest_of is)) [
      | inl among ↦ inl (among.0, ap (λ l. w ∷ l) among.1 ∙ ap (λ z. z ∷ (b ++ e ∷ among.0)) (sym same))
      | inr (inl here) ↦ inr (inl (ap (λ z. z ∷ b) same ∙ ap (λ l. w ∷ l) here.0, here.1, here.2))
      | inr (inr behind) ↦ inr (inr (behind.0, ap (λ z. z ∷ b) same ∙ ap (λ l. w ∷ l) behind.1, behind.2))
    ]

-- no entry of the pass stands among others'
not_among : (number : ℕ) (xs since : History) (e : Entry) → e.0 ≡ number → AreOthers number (xs ++ e ∷ since) → ⊥
not_among number [] since e own are = are.0 own
not_among number (x ∷ xs) since e own are = not_among number xs since e own are.1

either : (p q p' q' : Bool) → (p ≡ true → p' ≡ true) → (q ≡ true → q' ≡ true) → (p || q) ≡ true → (p' || q') ≡ true
either true q p' q' f g is = or_left p' q' (f refl)
either false q p' q' f g is = or_right p' q' (g is)

-- ---- what is opened

-- the end that a call asks for is that of its entry
abbrev pub Asks : (ℕ → ℕ → Entry → Bool) → Type 0
Asks ends = (number pass : ℕ) (event : Event) → ends number 0 (0, event) ≡ true → ends number pass (pass, event) ≡ true

module _ (opened : Called → Option ℕ) (ends : ℕ → ℕ → Entry → Bool) (asks : Asks ends) where
  abbrev pub EachEnded : List Called → Type 0
  EachEnded [] = Unit {0}
  EachEnded (call ∷ calls) = ((number : ℕ) → opened call ≡ Some number → IsEndedIn ends number calls) × EachEnded calls

  -- what calls leave begins with what there was, and has the ends for which they ask
  told_on : (who : Who) (h : History) (calls : List Called) (last : History) → Told who h calls last
      → (more : History) × (last ≡ h ++ more) × ((number : ℕ) → IsEndedIn ends number calls → list_any (ends number who.number) more ≡ true)
  told_on who h [] last (others, are, is) = (others, is, λ number ended. absurd (both_ways _ refl ended))
  told_on who h (call ∷ calls) last (others, are, answer, told) =
      let entry : Entry = (who.number, call.0) in
      let r = told_on who ((h ++ others) ++ entry ∷ []) calls last told in (
        others ++ entry ∷ r.0,
        r.1 ∙ append_assoc (h ++ others) (entry ∷ []) r.0 ∙ append_assoc h others (entry ∷ r.0),
        λ number ended. list_any-append (ends number who.number) others (entry ∷ r.0) ∙ or_right _ _ (either (ends number 0 (0, call.0)) _ (ends number who.number entry) _ (asks number who.number call.0) (r.2 number) ended),
      )

  ended_behind : (who : Who) (h : History) (calls : List Called) (last : History) → EachEnded calls → Told who h calls last → (b since : History) (event : Event) (number : ℕ)
      → last ≡ (h ++ b) ++ (who.number, event) ∷ since → opened (event, reply_to who.made (h ++ b) (who.number, event)) ≡ Some number → list_any (ends number who.number) since ≡ true
  ended_behind who h [] last each (others, are, is) b since event number place opens =
      absurd (not_among who.number b since (who.number, event) refl (subst (AreOthers who.number) (append_cancel_left h _ _ (sym is ∙ place ∙ append_assoc h b ((who.number, event) ∷ since))) are))
  ended_behind who h (call ∷ calls) last each (others, are, answer, told) b since event number stands opens =
      let entry : Entry = (who.number, call.0) in
      let r = told_on who ((h ++ others) ++ entry ∷ []) calls last told in
      let whole = sym (append_assoc h others (entry ∷ r.0)) ∙ sym (append_assoc (h ++ others) (entry ∷ []) r.0) ∙ sym r.1 ∙ stands ∙ append_assoc h b ((who.number, event) ∷ since) in
      elim (place others entry r.0 b (who.number, event) since (append_cancel_left h _ _ whole)) [
        | inl among ↦ absurd (not_among who.number b among.0 (who.number, event) refl (subst (AreOthers who.number) among.1 are))
        | inr (inl here) ↦
            let events : event ≡ call.0 = ap (λ (e : Entry). e.1) here.1 in
            let same : opened (call.0, reply_to who.made (h ++ others) (who.number, call.0)) ≡ Some number =
            subst (λ (e : Event). opened (e, reply_to who.made (h ++ others) (who.number, e)) ≡ Some number) events (subst (λ (l : History). opened (event, reply_to who.made (h ++ l) (who.number, event)) ≡ Some number) here.0 opens) in
            subst (λ (l : History). list_any (ends number who.number) l ≡ true) (sym here.2) (r.2 number (each.0 number (subst (λ (a : Reply). opened (call.0, a) ≡ Some number) (sym answer) same)))
        | inr (inr behind) ↦
            let same : h ++ b ≡ ((h ++ others) ++ entry ∷ []) ++ behind.0 = ap (λ (l : History). h ++ l) behind.1 ∙ sym (append_assoc h others (entry ∷ behind.0)) ∙ sym (append_assoc (h ++ others) (entry ∷ []) behind.0) in
            ended_behind who ((h ++ others) ++ entry ∷ []) calls last each.1 told behind.0 since event number (stands ∙ ap (λ (l : History). l ++ (who.number, event) ∷ since) same)
            (subst (λ (l : History). opened (event, reply_to who.made l (who.number, event)) ≡ Some number) same opens)
      ]

  pub ended_at : (who : Who) (h : History) (calls : List Called) (last : History) → EachEnded calls → Told who h calls last → (at number : ℕ) (event : Event) (answer : Reply) → length h < at
      → (a : AnsweredAt who.made last at (who.number, event) answer) → opened (event, answer) ≡ Some number → list_any (ends number who.number) a.since ≡ true
  ended_at who h calls last each told at number event answer late a opens =
      let grown = told_on who h calls last told in
      let s = split h grown.0 a.before (who.number, event) a.since (sym grown.1 ∙ a.whole) (omega (arith, late, a.place)) in
      ended_behind who h calls last each told s.0 a.since event number (a.whole ∙ ap (λ (l : History). l ++ (who.number, event) ∷ a.since) s.1)
      (subst (λ (l : History). opened (event, reply_to who.made l (who.number, event)) ≡ Some number) s.1 (subst (λ (x : Reply). opened (event, x) ≡ Some number) (sym a.answered) opens))

asks_delivery : Asks ends_delivery
asks_delivery number pass (Admit request moment) is = absurd (both_ways _ refl is)
asks_delivery number pass (FetchEnd fetch outcome moment) is = absurd (both_ways _ refl is)
asks_delivery number pass (Finish delivery status total entity moment) is = and_from (delivery == number) (pass == pass) (and_parts (delivery == number) (0 == 0) is).0 (eq-eqb pass pass refl)
asks_delivery number pass (RefreshBegin moment) is = absurd (both_ways _ refl is)
asks_delivery number pass (RefreshEnd refresh tree moment) is = absurd (both_ways _ refl is)
asks_delivery number pass (Command spec moment) is = absurd (both_ways _ refl is)
asks_delivery number pass (Advance id moment) is = absurd (both_ways _ refl is)
asks_delivery number pass (Cancel ids moment) is = absurd (both_ways _ refl is)
asks_delivery number pass (Delete id) is = absurd (both_ways _ refl is)
asks_delivery number pass (ReadStatus id) is = absurd (both_ways _ refl is)
asks_delivery number pass (Lists filter) is = absurd (both_ways _ refl is)
asks_delivery number pass (Cut moment) is = absurd (both_ways _ refl is)
asks_delivery number pass (LogFile file) is = absurd (both_ways _ refl is)
asks_delivery number pass ListLogs is = absurd (both_ways _ refl is)
asks_delivery number pass (DropLog file) is = absurd (both_ways _ refl is)

asks_fetch : Asks ends_fetch
asks_fetch number pass (Admit request moment) is = absurd (both_ways _ refl is)
asks_fetch number pass (FetchEnd fetch outcome moment) is = and_from (fetch == number) (pass == pass) (and_parts (fetch == number) (0 == 0) is).0 (eq-eqb pass pass refl)
asks_fetch number pass (Finish delivery status total entity moment) is = absurd (both_ways _ refl is)
asks_fetch number pass (RefreshBegin moment) is = absurd (both_ways _ refl is)
asks_fetch number pass (RefreshEnd refresh tree moment) is = absurd (both_ways _ refl is)
asks_fetch number pass (Command spec moment) is = absurd (both_ways _ refl is)
asks_fetch number pass (Advance id moment) is = absurd (both_ways _ refl is)
asks_fetch number pass (Cancel ids moment) is = absurd (both_ways _ refl is)
asks_fetch number pass (Delete id) is = absurd (both_ways _ refl is)
asks_fetch number pass (ReadStatus id) is = absurd (both_ways _ refl is)
asks_fetch number pass (Lists filter) is = absurd (both_ways _ refl is)
asks_fetch number pass (Cut moment) is = absurd (both_ways _ refl is)
asks_fetch number pass (LogFile file) is = absurd (both_ways _ refl is)
asks_fetch number pass ListLogs is = absurd (both_ways _ refl is)
asks_fetch number pass (DropLog file) is = absurd (both_ways _ refl is)

asks_refresh : Asks ends_refresh
asks_refresh number pass (Admit request moment) is = absurd (both_ways _ refl is)
asks_refresh number pass (FetchEnd fetch outcome moment) is = absurd (both_ways _ refl is)
asks_refresh number pass (Finish delivery status total entity moment) is = absurd (both_ways _ refl is)
asks_refresh number pass (RefreshBegin moment) is = absurd (both_ways _ refl is)
asks_refresh number pass (RefreshEnd refresh tree moment) is = and_from (refresh == number) (pass == pass) (and_parts (refresh == number) (0 == 0) is).0 (eq-eqb pass pass refl)
asks_refresh number pass (Command spec moment) is = absurd (both_ways _ refl is)
asks_refresh number pass (Advance id moment) is = absurd (both_ways _ refl is)
asks_refresh number pass (Cancel ids moment) is = absurd (both_ways _ refl is)
asks_refresh number pass (Delete id) is = absurd (both_ways _ refl is)
asks_refresh number pass (ReadStatus id) is = absurd (both_ways _ refl is)
asks_refresh number pass (Lists filter) is = absurd (both_ways _ refl is)
asks_refresh number pass (Cut moment) is = absurd (both_ways _ refl is)
asks_refresh number pass (LogFile file) is = absurd (both_ways _ refl is)
asks_refresh number pass ListLogs is = absurd (both_ways _ refl is)
asks_refresh number pass (DropLog file) is = absurd (both_ways _ refl is)

each_delivery : (calls : List Called) → AllEnded calls → EachEnded opened_delivery ends_delivery asks_delivery calls
each_delivery [] all = tt
each_delivery (call ∷ calls) all = (all.0.delivery, each_delivery calls all.1)

each_fetch : (calls : List Called) → AllEnded calls → EachEnded opened_fetch ends_fetch asks_fetch calls
each_fetch [] all = tt
each_fetch (call ∷ calls) all = (all.0.fetch, each_fetch calls all.1)

each_refresh : (calls : List Called) → AllEnded calls → EachEnded opened_refresh ends_refresh asks_refresh calls
each_refresh [] all = tt
each_refresh (call ∷ calls) all = (all.0.refresh, each_refresh calls all.1)

pub ends_own : (who : Who) (h : History) (calls : List Called) (last : History) → AllEnded calls → Told who h calls last → EndsItsOwn who (length h) last
ends_own who h calls last all told = record {
  delivery = λ at number event answer. ended_at opened_delivery ends_delivery asks_delivery who h calls last (each_delivery calls all) told at number event answer;
  fetch = λ at number event answer. ended_at opened_fetch ends_fetch asks_fetch who h calls last (each_fetch calls all) told at number event answer;
  refresh = λ at number event answer. ended_at opened_refresh ends_refresh asks_refresh who h calls last (each_refresh calls all) told at number event answer;
}

-- what is seen behind the calls begins with what was seen, and has the ends
pub since : (who : Who) (a b : History → Type 0) (calls : List Called) (h : History) → Makes who Any a b calls → a h → ((last : History) → Told who h calls last → EndsItsOwn who (length h) last) → EndsSince who h b
since who a b calls h makes saw law =
    let m = makes h saw tt in
    let grown = told_on opened_delivery ends_delivery asks_delivery who h calls m.0 m.1 in
    record {
      more = grown.0;
      seen = subst b grown.1 m.2;
      ended = subst (λ (l : History). EndsItsOwn who (length h) l) grown.1 (law m.0 m.1);
    }
