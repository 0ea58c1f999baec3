-- What the calls leave open, and which replies they are answered.
use Rattle.std.proofs.Common.{◌≡◌, ℕ, ◌<◌, ◌||◌, Bool, true, false, cond, not, List, [], ◌∷◌, length, refl, sym, ap, ◌∙◌, subst, arith, None, Some, Option, Result, Ok}
use Rattle.std.specs.List.{filter, find, list_any}
use Rattle.std.specs.Option.{is_some}
use Rattle.control_core.specs.Control.{ControlView}
use Rattle.shelf.proofs.ListLemmas.{filter_shorter}
use Rattle.delivery_core.specs.Edge.{EdgeView, fetch_end_after, fetch_end_reply, finish_after, finish_reply, fresh_reply, install_after, install_reply, newer, refresh_end_after, refresh_end_reply}
use Rattle.shelf.specs.Open.{is_named, unnamed}
use Rattle.delivery_core.specs.OpenCount.{open_count}
use Rattle.delivery_core.specs.Traces.{fetch_ended, finished, refresh_ended, reply_of}
use Rattle.shelf.specs.declared.open.Open.{Open}
use Rattle.delivery_core.specs.declared.results.Admitted.{Admitted}
use Rattle.delivery_core.specs.declared.results.Admitted.TheVariants as admitted
use Rattle.delivery_core.specs.declared.results.RefreshEnded.{RefreshEnded}
use Rattle.delivery_core.specs.declared.results.RefreshEnded.TheVariants as ended_as
use Rattle.cdni_log.specs.declared.row.Row.{Row}
use Rattle.history.specs.declared.begun.Admission.{Admission}
use Rattle.delivery_core.specs.Refreshes.{Refreshing, first_noted}
use Rattle.shelf.specs.declared.kept_shelf.Flight.{Flight}
use Rattle.history.specs.declared.reply.Reply.{Reply}
use Rattle.history.specs.declared.heading.Heading.{Heading}
use Rattle.metadata_objects.specs.Tree.{TreeData}
use Rattle.node_core.proofs.StateLemmas.{state}
use Rattle.node_core.specs.Answers.{answers_admit, answers_drop_log, answers_fetch_end, answers_finish, answers_log_file, answers_refresh_end}
use Rattle.node_core.specs.Logs.{dropped_log, logged}
use Rattle.node_core.specs.State.{Ends, is_not_open}
use Rattle.node_core.specs.Triggering.{fetch_told, refresh_told}
use Rattle.upstream_gate.specs.declared.outcome.Outcome.{Outcome}

pub same_ok : {A E : Type 0} {a b : A} → ◌≡◌ {A = Result A E} (Ok a) (Ok b) → a ≡ b
same_ok is = cc

-- ---- lists

pub any_found : {A : Type 0} (test : A → Bool) (xs : List A) → list_any test xs ≡ is_some (find test xs)
any_found test [] = refl
any_found test (x ∷ xs) = elim (test x) as (λ t. (t || list_any test xs) ≡ is_some (cond t (Some x) (find test xs))) [
  | true ↦ refl
  | false ↦ any_found test xs
]

-- what is found is taken out
shorter : {A : Type 0} (test : A → Bool) (xs : List A) → is_some (find test xs) ≡ true → length (filter (λ x. not (test x)) xs) < length xs
shorter test [] is = absurd (cc)
shorter test (x ∷ xs) is =
    elim (test x) as (λ t. is_some (cond t (Some x) (find test xs)) ≡ true → length (cond (not t) (x ∷ filter (λ x. not (test x)) xs) (filter (λ x. not (test x)) xs)) < length (x ∷ xs)) [
      | true ↦ λ _. let rest = filter_shorter (λ x. not (test x)) xs in omega (arith, rest)
      | false ↦ λ found. let rest = shorter test xs found in omega (arith, rest)
    ] is

-- ---- ends

module _ (edge edge' : EdgeView) (control control' : ControlView) (heading : Heading) (opened : ℕ) where
  fetch_by : (pass fetch : ℕ) (outcome : Outcome) (found : Option (Open Flight)) → find (is_named fetch pass) edge.fetches ≡ found → (ended : Option Bool) (r : Reply) → ended ≡ fetch_end_reply edge outcome found
      → edge' ≡ fetch_end_after edge pass fetch outcome found → r ≡ fetch_ended fetch ended → (good : Bool) → control' ≡ fetch_told control fetch ended good → Ends (state edge control heading opened) (state edge' control' heading opened) (is_some found) r
  fetch_by pass fetch outcome None there ended r is left answer good moved = record {
    found = ap is_not_open (answer ∙ ap (fetch_ended fetch) is);
    closed = λ _. ap (λ e. state e control' heading opened) left ∙ ap (λ c. state edge c heading opened) (moved ∙ ap (λ x. fetch_told control fetch x good) is);
    freed = λ no. absurd (cc);
  }
  fetch_by pass fetch outcome (Some flight) there ended r is left answer good moved = record {
    found = ap is_not_open (answer ∙ ap (fetch_ended fetch) is);
    closed = λ no. absurd (cc);
    freed = λ _. (let less = shorter (is_named fetch pass) edge.fetches (ap is_some there) in rw left (omega (arith, less)));
  }

  pub fetch_ends : (pass fetch : ℕ) (outcome : Outcome) (ended : Option Bool) (r : Reply) → ended ≡ fetch_end_reply edge outcome (find (is_named fetch pass) edge.fetches)
      → edge' ≡ fetch_end_after edge pass fetch outcome (find (is_named fetch pass) edge.fetches) → r ≡ fetch_ended fetch ended → (good : Bool) → control' ≡ fetch_told control fetch ended good
      → Ends (state edge control heading opened) (state edge' control' heading opened) (list_any (is_named fetch pass) edge.fetches) r
  fetch_ends pass fetch outcome ended r is left answer good moved =
      subst (λ t. Ends (state edge control heading opened) (state edge' control' heading opened) t r) (sym (any_found (is_named fetch pass) edge.fetches))
      (fetch_by pass fetch outcome (find (is_named fetch pass) edge.fetches) refl ended r is left answer good moved)

module _ (edge edge' : EdgeView) (control : ControlView) (heading : Heading) (opened : ℕ) where
  finish_by : (pass delivery : ℕ) (row : Admission → Row) (found : Option (Open Admission)) → find (is_named delivery pass) edge.deliveries ≡ found → (number : Option ℕ) (r : Reply) → number ≡ finish_reply edge found
      → edge' ≡ finish_after edge pass delivery row found → r ≡ finished delivery number → Ends (state edge control heading opened) (state edge' control heading opened) (is_some found) r
  finish_by pass delivery row None there number r is left answer = record {
    found = ap is_not_open (answer ∙ ap (finished delivery) is);
    closed = λ _. ap (λ e. state e control heading opened) left;
    freed = λ no. absurd (cc);
  }
  finish_by pass delivery row (Some one) there number r is left answer = record {
    found = ap is_not_open (answer ∙ ap (finished delivery) is);
    closed = λ no. absurd (cc);
    freed = λ _. (let less = shorter (is_named delivery pass) edge.deliveries (ap is_some there) in rw left (omega (arith, less)));
  }

  pub finish_ends : (pass delivery : ℕ) (row : Admission → Row) (number : Option ℕ) (r : Reply) → number ≡ finish_reply edge (find (is_named delivery pass) edge.deliveries)
      → edge' ≡ finish_after edge pass delivery row (find (is_named delivery pass) edge.deliveries) → r ≡ finished delivery number
      → Ends (state edge control heading opened) (state edge' control heading opened) (list_any (is_named delivery pass) edge.deliveries) r
  finish_ends pass delivery row number r is left answer =
      subst (λ t. Ends (state edge control heading opened) (state edge' control heading opened) t r) (sym (any_found (is_named delivery pass) edge.deliveries))
      (finish_by pass delivery row (find (is_named delivery pass) edge.deliveries) refl number r is left answer)

module _ (edge edge' : EdgeView) (control control' : ControlView) (heading : Heading) (opened : ℕ) where
  installed_open : (without : EdgeView) (refresh moment : ℕ) (tree : TreeData) (later : Option ℕ) → open_count (install_after without refresh tree moment (install_reply edge later)) ≡ open_count without
  installed_open without refresh moment tree None = refl
  installed_open without refresh moment tree (Some later) = refl

  installed_found : (refresh : ℕ) (later : Option ℕ) → is_not_open (refresh_ended refresh (install_reply edge later)) ≡ false
  installed_found refresh None = refl
  installed_found refresh (Some later) = refl

  fresh_open : (without : EdgeView) (refresh moment : ℕ) (tree : TreeData) (hit : Option ℕ) → open_count (install_after without refresh tree moment (fresh_reply edge refresh hit)) ≡ open_count without
  fresh_open without refresh moment tree (Some trigger) = refl
  fresh_open without refresh moment tree None = installed_open without refresh moment tree (newer edge refresh)

  fresh_found : (refresh : ℕ) (hit : Option ℕ) → is_not_open (refresh_ended refresh (fresh_reply edge refresh hit)) ≡ false
  fresh_found refresh (Some trigger) = refl
  fresh_found refresh None = installed_found refresh (newer edge refresh)

  refresh_by : (pass refresh : ℕ) (tree : Option TreeData) (found : Option (Open Refreshing)) → find (is_named refresh pass) edge.refreshes ≡ found → (ended : RefreshEnded) (r : Reply) → ended ≡ refresh_end_reply edge refresh tree found
      → edge' ≡ refresh_end_after edge pass refresh tree found → r ≡ refresh_ended refresh ended → control' ≡ refresh_told control refresh ended → Ends (state edge control heading opened) (state edge' control' heading opened) (is_some found) r
  refresh_by pass refresh tree None there ended r is left answer moved = record {
    found = ap is_not_open (answer ∙ ap (refresh_ended refresh) is);
    closed = λ _. ap (λ e. state e control' heading opened) left ∙ ap (λ c. state edge c heading opened) (moved ∙ ap (refresh_told control refresh) is);
    freed = λ no. absurd (cc);
  }
  refresh_by pass refresh None (Some begun) there ended r is left answer moved = record {
    found = ap is_not_open (answer ∙ ap (refresh_ended refresh) is);
    closed = λ no. absurd (cc);
    freed = λ _. (let less = shorter (is_named refresh pass) edge.refreshes (ap is_some there) in rw left (omega (arith, less)));
  }
  refresh_by pass refresh (Some tree) (Some begun) there ended r is left answer moved = record {
    found = ap is_not_open (answer ∙ ap (refresh_ended refresh) is) ∙ fresh_found refresh (first_noted tree.resources begun.what.since);
    closed = λ no. absurd (cc);
    freed = λ _. (let less = shorter (is_named refresh pass) edge.refreshes (ap is_some there) in
        rw (left, fresh_open (record edge { refreshes = unnamed refresh pass edge.refreshes }) refresh begun.what.moment tree (first_noted tree.resources begun.what.since)) (omega (arith, less)));
  }

  pub refresh_ends : (pass refresh : ℕ) (tree : Option TreeData) (ended : RefreshEnded) (r : Reply) → ended ≡ refresh_end_reply edge refresh tree (find (is_named refresh pass) edge.refreshes)
      → edge' ≡ refresh_end_after edge pass refresh tree (find (is_named refresh pass) edge.refreshes) → r ≡ refresh_ended refresh ended → control' ≡ refresh_told control refresh ended
      → Ends (state edge control heading opened) (state edge' control' heading opened) (list_any (is_named refresh pass) edge.refreshes) r
  refresh_ends pass refresh tree ended r is left answer moved =
      subst (λ t. Ends (state edge control heading opened) (state edge' control' heading opened) t r) (sym (any_found (is_named refresh pass) edge.refreshes))
      (refresh_by pass refresh tree (find (is_named refresh pass) edge.refreshes) refl ended r is left answer moved)

-- ---- which replies

pub admit_kind : (a : Admitted) (r : Reply) → r ≡ reply_of a → answers_admit r ≡ true
admit_kind (admitted.Denied delivery rule) r is = ap answers_admit is
admit_kind (admitted.Hit delivery fetch kind body) r is = ap answers_admit is
admit_kind (admitted.Miss delivery fetch plan) r is = ap answers_admit is
admit_kind (admitted.Full count) r is = ap answers_admit is

pub fetch_end_kind : (fetch : ℕ) (ended : Option Bool) (r : Reply) → r ≡ fetch_ended fetch ended → answers_fetch_end r ≡ true
fetch_end_kind fetch None r is = ap answers_fetch_end is
fetch_end_kind fetch (Some kept) r is = ap answers_fetch_end is

pub finish_kind : (delivery : ℕ) (row : Option ℕ) (r : Reply) → r ≡ finished delivery row → answers_finish r ≡ true
finish_kind delivery None r is = ap answers_finish is
finish_kind delivery (Some row) r is = ap answers_finish is

pub refresh_end_kind : (refresh : ℕ) (ended : RefreshEnded) (r : Reply) → r ≡ refresh_ended refresh ended → answers_refresh_end r ≡ true
refresh_end_kind refresh (ended_as.Installed generation) r is = ap answers_refresh_end is
refresh_end_kind refresh (ended_as.Stale trigger) r is = ap answers_refresh_end is
refresh_end_kind refresh (ended_as.Older later) r is = ap answers_refresh_end is
refresh_end_kind refresh ended_as.Failed r is = ap answers_refresh_end is
refresh_end_kind refresh ended_as.NotOpen r is = ap answers_refresh_end is

pub log_kind : (number : ℕ) (text : Option (List ℕ)) → answers_log_file (logged number text) ≡ true
log_kind number None = refl
log_kind number (Some text) = refl

pub drop_kind : (number : ℕ) (dropped : Bool) (r : Reply) → r ≡ dropped_log number dropped → answers_drop_log r ≡ true
drop_kind number true r is = ap answers_drop_log is
drop_kind number false r is = ap answers_drop_log is
