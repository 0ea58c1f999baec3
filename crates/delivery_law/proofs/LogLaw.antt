-- Each row is of one delivery, no two rows are of one, and each finished delivery has its row.
use Rattle.std.proofs.Common.{◌≡◌, ℕ, ◌+◌, ◌-◌, ◌≤◌, ◌==◌, suc, zero, Bool, true, not, List, [], ◌∷◌, ◌++◌, length, All, AllPairs, get_or, refl, sym, ap, ◌∙◌, subst, inl, inr, ◌⊎◌, None, Some, arith}
use Rattle.std.specs.List.{filter, find, slice_get}
use Rattle.std.proofs.lemmas.Bool.{and_parts, cases_Bool, cond-true, cond-false, eqb-true, not_from_true, not_from_false}
use Rattle.std.proofs.lemmas.List.{length_push}
use Rattle.std.proofs.lemmas.List.Elements.{All-cons, All-filter, All-nil, All-push, All-weaker}
use Rattle.std.proofs.lemmas.List.Kept.{AllPairs-filter}
use Rattle.std.proofs.lemmas.List.Quantifiers.{all_pairs_push}
use Rattle.std.proofs.lemmas.Option.{none-some, same_Some}
use Rattle.history.proofs.Numbers.{entries_are}
use Rattle.history.proofs.Words.{world_none, world_push}
use Rattle.history.specs.After.{admission, begun_delivery, closed, logged_row, position, recorded}
use Rattle.history.specs.Event.{Entry, Event, History, Admit, Finish, Request}
use Rattle.history.specs.History.{AnsweredAt, reply_to, world_of}
use Rattle.history.specs.World.{Begun, Made, Recorded, World, is_open}
use Rattle.history.specs.declared.begun.Admission.{Admission}
use Rattle.history.specs.declared.reply.Reply.{Reply}
use Rattle.history.specs.declared.reply.Reply.TheVariants as reply
use Rattle.delivery_law.specs.Fetches.{index_after}
use Rattle.delivery_law.specs.LogRows.{HasRow, IsOfOneDelivery, named_ccid, was_kept}
use Rattle.delivery_law.proofs.Deliveries.{Begins, Books, Finishes, Quiet, books_after, books_are, books_of, change}
use Rattle.delivery_law.proofs.Lists.{found_is}
use Rattle.delivery_law.proofs.Places.{answered_push, from_right, length_push as entries_push, longer, within}

-- ---- no two of one number

abbrev Differ : Begun Admission → Begun Admission → Type 0
Differ a b = a.number ≡ b.number → ⊥

abbrev RowsDiffer : Recorded → Recorded → Type 0
RowsDiffer a b = a.delivery ≡ b.delivery → ⊥

abbrev IsBelow : ℕ → Begun Admission → Type 0
IsBelow n f = f.number ≤ n

abbrev IsRowBelow : ℕ → Recorded → Type 0
IsRowBelow n r = r.delivery ≤ n

-- it has another number
abbrev HasNot : ℕ → Begun Admission → Type 0
HasNot number f = f.number ≡ number → ⊥

-- the delivery of the row is none of these
abbrev IsShut : List (Begun Admission) → Recorded → Type 0
IsShut opened r = All (HasNot r.delivery) opened

-- those that are open and those that have a row are different, and none is above what was given
record Apart (opened : List (Begun Admission)) (rows : List Recorded) (n : ℕ) : Type 0 where
  open_below : All (IsBelow n) opened
  open_apart : AllPairs Differ opened
  rows_below : All (IsRowBelow n) rows
  rows_apart : AllPairs RowsDiffer rows
  shut : All (IsShut opened) rows

apart_quiet : (opened : List (Begun Admission)) (rows : List Recorded) (n : ℕ) (test : Begun Admission → Bool) → Apart opened rows n → Apart (filter test opened) rows n
apart_quiet opened rows n test a = record {
  open_below = All-filter test (IsBelow n) opened a.open_below;
  open_apart = AllPairs-filter Differ test opened a.open_apart;
  rows_below = a.rows_below;
  rows_apart = a.rows_apart;
  shut = All-weaker (IsShut opened) (IsShut (filter test opened)) (λ r all. All-filter test (HasNot r.delivery) opened all) rows a.shut;
}

apart_begins : (opened : List (Begun Admission)) (rows : List Recorded) (n : ℕ) (one : Begun Admission) → one.number ≡ n + 1 → Apart opened rows n → Apart (opened ++ one ∷ []) rows (n + 1)
apart_begins opened rows n one is a = record {
  open_below = All-push (IsBelow (n + 1)) opened one (All-weaker (IsBelow n) (IsBelow (n + 1)) (λ f low. omega (arith, low)) opened a.open_below) (omega (arith, is));
  open_apart = all_pairs_push Differ opened one a.open_apart (All-weaker (IsBelow n) (λ (f : Begun Admission). Differ f one) (λ f low same. omega (arith, low, same, is)) opened a.open_below);
  rows_below = All-weaker (IsRowBelow n) (IsRowBelow (n + 1)) (λ r low. omega (arith, low)) rows a.rows_below;
  rows_apart = a.rows_apart;
  shut = λ k d below. let low = a.rows_below k d below in All-push (HasNot (get_or rows k d).delivery) opened one (a.shut k d below) (λ same. omega (arith, same, is, low));
}

pub first_pairs : {A : Type 0} (R : A → A → Type 0) (x : A) (xs : List A) → AllPairs R (x ∷ xs) → All (R x) xs
first_pairs R x xs pairs = λ k d below. pairs 0 (suc k) d (omega arith) (omega (arith, below))

pub rest_pairs : {A : Type 0} (R : A → A → Type 0) (x : A) (xs : List A) → AllPairs R (x ∷ xs) → AllPairs R xs
rest_pairs R x xs pairs = λ i j d order below. pairs (suc i) (suc j) d (omega (arith, order)) (omega (arith, below))

-- none but the one that was closed has its number
closed_apart : (d p : ℕ) (opened : List (Begun Admission)) (one : Begun Admission) → AllPairs Differ opened → find (is_open d p) opened ≡ Some one → All (HasNot one.number) (closed d p opened)
closed_apart d p [] one pairs is = absurd (none-some one is)
closed_apart d p (x ∷ xs) one pairs is = elim (cases_Bool (is_open d p x)) [
  | inl passes ↦
      let same : x ≡ one = same_Some x one (sym (cond-true (is_open d p x) (Some x) (find (is_open d p) xs) passes) ∙ is) in
      subst (All (HasNot one.number)) (sym (cond-false (not (is_open d p x)) (x ∷ closed d p xs) (closed d p xs) (not_from_true (is_open d p x) passes)))
      (All-filter _ (HasNot one.number) xs (All-weaker (Differ x) (HasNot one.number) (λ f other is_one. other (ap (λ (y : Begun Admission). y.number) same ∙ sym is_one)) xs (first_pairs Differ x xs pairs)))
  | inr fails ↦
      let found : find (is_open d p) xs ≡ Some one = sym (cond-false (is_open d p x) (Some x) (find (is_open d p) xs) fails) ∙ is in
      subst (All (HasNot one.number)) (sym (cond-true (not (is_open d p x)) (x ∷ closed d p xs) (closed d p xs) (not_from_false (is_open d p x) fails)))
      (All-cons (HasNot one.number) x (closed d p xs) (found_is (Differ x) (is_open d p) xs one (first_pairs Differ x xs pairs) found).0 (closed_apart d p xs one (rest_pairs Differ x xs pairs) found))
]

apart_ends : (d p : ℕ) (opened : List (Begun Admission)) (rows : List Recorded) (n : ℕ) (one : Begun Admission) (row : Recorded) → find (is_open d p) opened ≡ Some one → row.delivery ≡ one.number
    → Apart opened rows n → Apart (closed d p opened) (rows ++ row ∷ []) n
apart_ends d p opened rows n one row is of a =
    let low = (found_is (IsBelow n) (is_open d p) opened one a.open_below is).0 in
    let quiet = apart_quiet opened rows n (λ x. not (is_open d p x)) a in
    record {
      open_below = quiet.open_below;
      open_apart = quiet.open_apart;
      rows_below = All-push (IsRowBelow n) rows row a.rows_below (omega (arith, low, of));
      rows_apart = all_pairs_push RowsDiffer rows row a.rows_apart
          (All-weaker (IsShut opened) (λ (r : Recorded). RowsDiffer r row) (λ r shut same. (found_is (HasNot r.delivery) (is_open d p) opened one shut is).0 (sym of ∙ sym same)) rows a.shut);
      shut = All-push (IsShut (closed d p opened)) rows row quiet.shut
          (All-weaker (HasNot one.number) (HasNot row.delivery) (λ f other same. other (same ∙ of)) (closed d p opened) (closed_apart d p opened one a.open_apart is));
    }

-- ---- rows by their places

pub got_push : {A : Type 0} (xs : List A) (y : A) (k : ℕ) (x : A) → slice_get (xs ++ y ∷ []) k ≡ Some x → (slice_get xs k ≡ Some x) ⊎ ((k ≡ length xs) × (y ≡ x))
got_push [] y zero x is = inr (refl, same_Some y x is)
got_push [] y (suc k) x is = absurd (none-some x is)
got_push (z ∷ zs) y zero x is = inl is
got_push (z ∷ zs) y (suc k) x is = elim (got_push zs y k x is) [
  | inl old ↦ inl old
  | inr new ↦ inr (omega (arith, new.0), new.1)
]

got_last : {A : Type 0} (xs : List A) (y : A) → slice_get (xs ++ y ∷ []) (length xs) ≡ Some y
got_last [] y = refl
got_last (x ∷ xs) y = got_last xs y

got_longer : {A : Type 0} (xs : List A) (y : A) (k : ℕ) (x : A) → slice_get xs k ≡ Some x → slice_get (xs ++ y ∷ []) k ≡ Some x
got_longer [] y k x is = absurd (none-some x is)
got_longer (z ∷ zs) y zero x is = is
got_longer (z ∷ zs) y (suc k) x is = got_longer zs y k x is

-- ---- over histories

-- an open delivery was admitted
record WasAdmitted (made : Made) (h : History) (f : Begun Admission) : Type 0 where
  request : Request
  moment : ℕ
  answer : Reply
  admitted : AnsweredAt made h f.at (f.pass, Admit request moment) answer
  delivery : begun_delivery answer ≡ Some f.number
  what : f.what ≡ admission request moment (named_ccid (index_after made admitted.before) request.asked.target answer) (was_kept answer)

-- what is said of the rows, and of what is open
record Rows (made : Made) (h : History) (b : Books) : Type 0 where
  opened : All (WasAdmitted made h) b.opened
  apart : Apart b.opened b.rows b.delivered
  counted : b.logged ≡ length b.rows
  one : (place : ℕ) (row : Recorded) → slice_get b.rows place ≡ Some row → IsOfOneDelivery made h (place + 1) row
  each : (number at pass delivery status total entity end : ℕ) → AnsweredAt made h at (pass, Finish delivery status total entity end) (reply.Logged number)
      → HasRow b.rows number at delivery status total entity end

abbrev finish_delivery : Event → ℕ
finish_delivery (Finish delivery status total entity moment) = delivery
finish_delivery e = 0

abbrev finish_status : Event → ℕ
finish_status (Finish delivery status total entity moment) = status
finish_status e = 0

abbrev finish_total : Event → ℕ
finish_total (Finish delivery status total entity moment) = total
finish_total e = 0

abbrev finish_entity : Event → ℕ
finish_entity (Finish delivery status total entity moment) = entity
finish_entity e = 0

abbrev finish_moment : Event → ℕ
finish_moment (Finish delivery status total entity moment) = moment
finish_moment e = 0

longer_row : (rows : List Recorded) (row : Recorded) (number at delivery status total entity end : ℕ) → HasRow rows number at delivery status total entity end → HasRow (rows ++ row ∷ []) number at delivery status total entity end
longer_row rows row number at delivery status total entity end has = record {
  one = has.one;
  is = got_longer rows row (number - 1) has.one has.is;
  position_is = has.position_is;
  delivery_is = has.delivery_is;
  status_is = has.status_is;
  total_is = has.total_is;
  entity_is = has.entity_is;
  finished_is = has.finished_is;
}

module _ (made : Made) (h : History) (e : Entry) (entries : (world_of made h).entries ≡ length h) (law : Rows made h (books_of (world_of made h))) where
  abbrev w : World
  w = world_of made h

  abbrev h' : History
  h' = h ++ e ∷ []

  abbrev r : Reply
  r = reply_to made h e

  admitted_longer : (f : Begun Admission) → WasAdmitted made h f → WasAdmitted made h' f
  admitted_longer f was = record { request = was.request; moment = was.moment; answer = was.answer; admitted = longer e was.admitted; delivery = was.delivery; what = was.what }

  one_longer : (number : ℕ) (row : Recorded) → IsOfOneDelivery made h number row → IsOfOneDelivery made h' number row
  one_longer number row one = record {
    pass = one.pass;
    in_order = one.in_order;
    request = one.request;
    moment = one.moment;
    answer = one.answer;
    admitted = longer e one.admitted;
    delivery = one.delivery;
    status = one.status;
    total = one.total;
    entity = one.entity;
    end = one.end;
    finished = longer e one.finished;
    row = one.row;
  }

  -- where the entry has no row
  each_same : (rows : List Recorded) → rows ≡ w.delivering.rows → logged_row r ≡ None → (number at pass delivery status total entity end : ℕ)
      → AnsweredAt made h' at (pass, Finish delivery status total entity end) (reply.Logged number) → HasRow rows number at delivery status total entity end
  each_same rows same none number at pass delivery status total entity end answered = elim (answered_push made h e at (pass, Finish delivery status total entity end) (reply.Logged number) answered) [
    | inl old ↦ subst (λ k. HasRow k number at delivery status total entity end) (sym same) (law.each number at pass delivery status total entity end old)
    | inr last ↦ absurd (none-some number (sym none ∙ ap logged_row last.2))
  ]

  quiet : (new : Books) → Quiet w r new → Rows made h' new
  quiet new q = subst (Rows made h') (sym q.fewer) (record {
    opened = All-filter q.test (WasAdmitted made h') w.delivering.deliveries (All-weaker (WasAdmitted made h) (WasAdmitted made h') admitted_longer w.delivering.deliveries law.opened);
    apart = apart_quiet w.delivering.deliveries w.delivering.rows w.counts.delivered q.test law.apart;
    counted = law.counted;
    one = λ place row is. one_longer (place + 1) row (law.one place row is);
    each = each_same w.delivering.rows refl q.none;
  })

  begins : (new : Books) → Begins w e r new → Rows made h' new
  begins new b = subst (Rows made h') (sym b.more) (record {
    opened = All-push (WasAdmitted made h') w.delivering.deliveries _ (All-weaker (WasAdmitted made h) (WasAdmitted made h') admitted_longer w.delivering.deliveries law.opened) (record {
      request = b.request;
      moment = b.moment;
      answer = r;
      admitted = record {
        before = h;
        since = [];
        whole = ap (λ (v : Event). h ++ (e.0, v) ∷ []) b.event;
        place = ap (λ n. n + 1) entries;
        answered = ap (λ (v : Event). reply_to made h (e.0, v)) (sym b.event);
      };
      delivery = b.begun;
      what = refl;
    });
    apart = apart_begins w.delivering.deliveries w.delivering.rows w.counts.delivered _ refl law.apart;
    counted = law.counted;
    one = λ place row is. one_longer (place + 1) row (law.one place row is);
    each = each_same w.delivering.rows refl b.none;
  })

  module _ (new : Books) (f : Finishes w e r new) where
    abbrev the_row : Recorded
    the_row = recorded (position w) f.status f.total f.entity f.moment f.one

    was_open : WasAdmitted made h f.one × (is_open f.delivery e.0 f.one ≡ true)
    was_open = found_is (WasAdmitted made h) (is_open f.delivery e.0) w.delivering.deliveries f.one law.opened f.found

    number_is : f.one.number ≡ f.delivery
    number_is = eqb-true f.one.number f.delivery (and_parts (f.one.number == f.delivery) (f.one.pass == e.0) was_open.1).0

    pass_is : f.one.pass ≡ e.0
    pass_is = eqb-true f.one.pass e.0 (and_parts (f.one.number == f.delivery) (f.one.pass == e.0) was_open.1).1

    new_one : IsOfOneDelivery made h' (w.counts.logged + 1) the_row
    new_one =
        let was = was_open.0 in
        let event : e.1 ≡ Finish f.one.number f.status f.total f.entity f.moment = f.event ∙ ap (λ n. Finish n f.status f.total f.entity f.moment) (sym number_is) in
        record {
          pass = f.one.pass;
          in_order = omega (arith, within was.admitted, entries);
          request = was.request;
          moment = was.moment;
          answer = was.answer;
          admitted = longer e was.admitted;
          delivery = was.delivery;
          status = f.status;
          total = f.total;
          entity = f.entity;
          end = f.moment;
          finished = record {
            before = h;
            since = [];
            whole = ap (λ (v : Event). h ++ (e.0, v) ∷ []) event ∙ ap (λ p. h ++ (p, Finish f.one.number f.status f.total f.entity f.moment) ∷ []) (sym pass_is);
            place = ap (λ n. n + 1) entries;
            answered = ap (λ p. reply_to made h (p, Finish f.one.number f.status f.total f.entity f.moment)) pass_is ∙ ap (λ (v : Event). reply_to made h (e.0, v)) (sym event) ∙ f.answer;
          };
          row = ap (λ (a : Admission). (recorded (position w) f.status f.total f.entity f.moment (record { number = f.one.number; pass = f.one.pass; at = f.one.at; what = a })).row) was.what;
        }

    new_each : (number at pass delivery status total entity end : ℕ) → AnsweredAt made h' at (pass, Finish delivery status total entity end) (reply.Logged number)
        → HasRow (w.delivering.rows ++ the_row ∷ []) number at delivery status total entity end
    new_each number at pass delivery status total entity end answered = elim (answered_push made h e at (pass, Finish delivery status total entity end) (reply.Logged number) answered) [
      | inl old ↦ longer_row w.delivering.rows the_row number at delivery status total entity end (law.each number at pass delivery status total entity end old)
      | inr last ↦
          let event : Finish delivery status total entity end ≡ Finish f.delivery f.status f.total f.entity f.moment = ap (λ (x : Entry). x.1) last.1 ∙ f.event in
          let given : w.counts.logged + 1 ≡ number = same_Some (w.counts.logged + 1) number (ap logged_row (sym f.answer ∙ last.2)) in
          let counted = law.counted in
          let place : length w.delivering.rows ≡ number - 1 = omega (arith, given, counted) in
          record {
            one = the_row;
            is = subst (λ k. slice_get (w.delivering.rows ++ the_row ∷ []) k ≡ Some the_row) place (got_last w.delivering.rows the_row);
            position_is = ap (λ n. n + 1) entries ∙ sym last.0;
            delivery_is = number_is ∙ sym (ap finish_delivery event);
            status_is = sym (ap finish_status event);
            total_is = sym (ap finish_total event);
            entity_is = sym (ap finish_entity event);
            finished_is = sym (ap finish_moment event);
          }
    ]

    finishes : Rows made h' new
    finishes = subst (Rows made h') (sym f.more) (record {
      opened = All-filter _ (WasAdmitted made h') w.delivering.deliveries (All-weaker (WasAdmitted made h) (WasAdmitted made h') admitted_longer w.delivering.deliveries law.opened);
      apart = apart_ends f.delivery e.0 w.delivering.deliveries w.delivering.rows w.counts.delivered f.one the_row f.found refl law.apart;
      counted = ap (λ n. n + 1) law.counted ∙ sym (length_push w.delivering.rows the_row);
      one = λ place row is. elim (got_push w.delivering.rows the_row place row is) [
        | inl old ↦ one_longer (place + 1) row (law.one place row old)
        | inr last ↦ subst (λ n. IsOfOneDelivery made h' (n + 1) row) (law.counted ∙ sym last.0) (subst (IsOfOneDelivery made h' (w.counts.logged + 1)) last.1 new_one)
      ];
      each = new_each;
    })

  rows_push : Rows made h' (books_of (world_of made h'))
  rows_push = subst (λ v. Rows made h' (books_of v)) (sym (world_push made h e)) (subst (Rows made h') (sym (books_are w e)) (elim (change w e) [
    | inl q ↦ quiet (books_after w e r) q
    | inr more ↦ elim more [
      | inl b ↦ begins (books_after w e r) b
      | inr f ↦ finishes (books_after w e r) f
    ]
  ]))

record LogLaw (made : Made) (h : History) : Type 0 where
  entries : (world_of made h).entries ≡ length h
  rows : Rows made h (books_of (world_of made h))

law_push : (made : Made) (h : History) (e : Entry) → LogLaw made h → LogLaw made (h ++ e ∷ [])
law_push made h e law = record {
  entries = ap (λ (v : World). v.entries) (world_push made h e) ∙ entries_are (world_of made h) e ∙ ap (λ n. n + 1) law.entries ∙ sym (entries_push h e);
  rows = rows_push made h e law.entries law.rows;
}

no_entry : (made : Made) (at : ℕ) (entry : Entry) (answer : Reply) → AnsweredAt made [] at entry answer → ⊥
no_entry made at entry answer a = let low = within a in let place = a.place in omega (arith, low, place)

law_none : (made : Made) → LogLaw made []
law_none made = record {
  entries = ap (λ (v : World). v.entries) (world_none made);
  rows = subst (λ (v : World). Rows made [] (books_of v)) (sym (world_none made)) (record {
    opened = All-nil _;
    apart = record { open_below = All-nil _; open_apart = λ i j d order below. absurd (omega (arith, below)); rows_below = All-nil _; rows_apart = λ i j d order below. absurd (omega (arith, below)); shut = All-nil _ };
    counted = refl;
    one = λ place row is. absurd (none-some row is);
    each = λ number at pass delivery status total entity end answered. absurd (no_entry made at _ _ answered);
  });
}

log_law : (made : Made) (h : History) → LogLaw made h
log_law made = from_right (LogLaw made) (law_none made) (law_push made)

pub row_of_one : (made : Made) (h : History) (place : ℕ) (row : Recorded) → slice_get (world_of made h).delivering.rows place ≡ Some row → IsOfOneDelivery made h (place + 1) row
row_of_one made h = (log_law made h).rows.one

pub rows_apart : (made : Made) (h : History) → AllPairs RowsDiffer (world_of made h).delivering.rows
rows_apart made h = (log_law made h).rows.apart.rows_apart

pub row_of_each : (made : Made) (h : History) (number at pass delivery status total entity end : ℕ) → AnsweredAt made h at (pass, Finish delivery status total entity end) (reply.Logged number)
    → HasRow (world_of made h).delivering.rows number at delivery status total entity end
row_of_each made h = (log_law made h).rows.each
