-- What a worker of a crew does.
use Rattle.std.proofs.Common.{◌≡◌, ℕ, zero, suc, ◌+◌, ◌<◌, ◌≤◌, List, [], ◌∷◌, ◌++◌, All, length, get_or, map, None, Some, refl, sym, ◌∙◌, ap, subst, arith}
use Rattle.std.proofs.lemmas.List.Elements.{All-nil, All-cons}
use Rattle.std.specs.List.{flat_map, slice_index_or}
use Rattle.std.specs.declared.option.Option.{Option}
use Rattle.atomic_table.specs.Seated.{TableId}
use Rattle.doors.specs.Door.{Book}
use Rattle.doors.specs.Outside.{HasPassedNothing, IsAllOf, IsNew, Tellings}
use Rattle.doors.specs.Served.{HasServedAll}
use Rattle.doors.specs.Visit.{Visit, Visited, calls_of, passed_of}
use Rattle.doors.proofs.ServedLemmas.{none_passed}
use Rattle.edge_base.specs.Clock.{Grows}
use Rattle.history.specs.Event.{History}
use Rattle.history.specs.World.{Made}
use Rattle.history.specs.declared.call.Call.{Call}
use Rattle.node_cell.specs.Entries.{history_of}
use Rattle.node_core.specs.Home.{Who}
use Rattle.session_base.specs.Doing.{Called, Told}
use Rattle.workers.specs.Crew.{IsBookOf, IsShift, Shift, shift_calls}
use Rattle.workers.specs.Job.{AllWorked, DoneFrom, IsDone, IsInCell, IsReady, Post, ReadyFrom, Worked}
use Rattle.workers.specs.declared.crew.Crew.{Crew}

-- ---- each of a list, one after the other

module _ {X : Type 0} (post : X → Post) (by : Made) (crew : Crew) where
  pub all_worked : (olds news : List X) → length news ≡ length olds → ((i : ℕ) (d : X) → i < length olds → Worked by crew (post (get_or olds i d)) (post (get_or news i d))) → AllWorked by crew (map post olds) (map post news)
  all_worked [] [] same each = tt
  all_worked [] (new ∷ news) same each = absurd (omega (arith, same))
  all_worked (old ∷ olds) [] same each = absurd (omega (arith, same))
  all_worked (old ∷ olds) (new ∷ news) same each = (each 0 old (omega arith), all_worked olds news (omega (arith, same)) (λ i d less. each (suc i) d (omega (arith, less))))

-- ---- a shift

all_of : {A : Type 0} (old new : Option (List A)) (more : List A) → IsAllOf old [] → Grows old new more → IsAllOf new more
all_of None None more none grows = tt
all_of None (Some new) more none grows = elim grows [ ]
all_of (Some old) None more none grows = tt
all_of (Some old) (Some new) more none grows = grows ∙ ap (λ l. l ++ more) none

book_of : (old new : Option Book) (visits : List Visit) → HasPassedNothing old → Visited old new visits → IsBookOf new visits
book_of None None visits none visited = tt
book_of None (Some new) visits none visited = elim visited [ ]
book_of (Some old) None visits none visited = tt
book_of (Some old) (Some new) visits none visited = visited.passed ∙ ap (λ l. l ++ flat_map passed_of visits) none

-- the shift of a worker that had not begun
abbrev pub shift_of : (by : Made) (crew : Crew) (old new : Post) → Worked by crew old new → Shift
shift_of by crew old new worked = record { visits = worked.visits; end = new.end }

is_shift : (by : Made) (crew : Crew) (old new : Post) → IsNew old.tells → (worked : Worked by crew old new) → IsShift crew.settings crew.places crew.connections (shift_of by crew old new worked) new.tells
is_shift by crew old new fresh worked = record {
  each = worked.serves.each;
  door = book_of old.tells.book new.tells.book worked.visits fresh.book worked.serves.door;
  exchanges = all_of old.tells.exchanges new.tells.exchanges _ fresh.exchanges worked.serves.exchanges;
  moments = all_of old.tells.moments new.tells.moments _ fresh.moments worked.serves.moments;
  ends = worked.ends;
}

told_since : (by : Made) (number number' : ℕ) (calls : List Called) (seen seen' : List (ℕ × Call)) → seen ≡ [] → number ≡ number'
    → ((h : History) → history_of seen ≡ h → Unit {0} → (last : History) × Told (record { made = by; number = number }) h calls last × (history_of seen' ≡ last))
    → Told (record { made = by; number = number' }) [] calls (history_of seen')
told_since by number number' calls seen seen' none same makes =
    let m = makes [] (ap history_of none) tt in
    subst (λ (n : ℕ). Told (record { made = by; number = n }) [] calls (history_of seen')) same (subst (λ (h : History). Told (record { made = by; number = number }) [] calls h) (sym m.2) m.1)

-- a worker that was ready and has worked is done
pub done_one : (by : Made) (crew : Crew) (table : TableId) (passes number : ℕ) (old new : Post) → IsReady table passes number old → (worked : Worked by crew old new) → IsDone by crew table passes number new (shift_of by crew old new worked)
done_one by crew table passes number old new ready worked = record {
  cell = (worked.stays.table ∙ ready.cell.0, worked.stays.passes ∙ ready.cell.1);
  numbers = worked.stays.numbers ∙ ready.numbers;
  told = told_since by old.home.number number (flat_map calls_of worked.visits) old.home.seen new.home.seen ready.unseen ready.numbered worked.serves.calls;
  tell = is_shift by crew old new ready.fresh worked;
  ends_so = refl;
  failed = λ is. omega (arith, worked.failed is, ready.fresh.faults);
}

pub all_done : (by : Made) (crew : Crew) (table : TableId) (passes number : ℕ) (olds news : List Post) → ReadyFrom table passes number olds → AllWorked by crew olds news → (shifts : List Shift) × DoneFrom by crew table passes number news shifts
all_done by crew table passes number [] [] ready worked = ([], tt)
all_done by crew table passes number [] (new ∷ news) ready worked = elim worked [ ]
all_done by crew table passes number (old ∷ olds) [] ready worked = elim worked [ ]
all_done by crew table passes number (old ∷ olds) (new ∷ news) ready worked =
    let rest = all_done by crew table passes (number + 1) olds news ready.1 worked.1 in
    (shift_of by crew old new worked.0 ∷ rest.0, (done_one by crew table passes number old new ready.0 worked.0, rest.1))

-- they are in the cell
pub in_cell : (by : Made) (crew : Crew) (table : TableId) (passes number : ℕ) (posts : List Post) (shifts : List Shift) → DoneFrom by crew table passes number posts shifts → All (IsInCell table passes) posts
in_cell by crew table passes number [] shifts done = All-nil (IsInCell table passes)
in_cell by crew table passes number (post ∷ posts) [] done = elim done [ ]
in_cell by crew table passes number (post ∷ posts) (shift ∷ shifts) done = All-cons (IsInCell table passes) post posts done.0.cell (in_cell by crew table passes (number + 1) posts shifts done.1)

pub as_many : (by : Made) (crew : Crew) (table : TableId) (passes number : ℕ) (posts : List Post) (shifts : List Shift) → DoneFrom by crew table passes number posts shifts → length shifts ≡ length posts
as_many by crew table passes number [] [] done = refl
as_many by crew table passes number [] (shift ∷ shifts) done = elim done [ ]
as_many by crew table passes number (post ∷ posts) [] done = elim done [ ]
as_many by crew table passes number (post ∷ posts) (shift ∷ shifts) done = ap suc (as_many by crew table passes (number + 1) posts shifts done.1)

-- workers that have not begun tell nothing yet
pub all_new : (table : TableId) (passes number : ℕ) (posts : List Post) → ReadyFrom table passes number posts → All IsNew (map (λ post. post.tells) posts)
all_new table passes number [] ready = All-nil IsNew
all_new table passes number (post ∷ posts) ready = All-cons IsNew post.tells (map (λ post. post.tells) posts) ready.0.fresh (all_new table passes (number + 1) posts ready.1)

-- at the door of a worker that has not begun nothing waits to be served
at_rest : {A : Type 0} (f : A → Post) (table : TableId) (passes number : ℕ) (jobs : List A) → ReadyFrom table passes number (map f jobs) → (i : ℕ) (d : A) → i < length jobs → HasServedAll (f (slice_index_or jobs i d)).tells.book
at_rest f table passes number [] ready i d below = absurd (omega (arith, below))
at_rest f table passes number (job ∷ jobs) ready zero d below = none_passed (f job).tells.book ready.0.fresh.book
at_rest f table passes number (job ∷ jobs) ready (suc i) d below = at_rest f table passes (number + 1) jobs ready.1 i d (omega (arith, below))

pub all_at_rest : {A : Type 0} (f : A → Post) (table : TableId) (passes : ℕ) (items olds : List A) → olds ≡ items → ReadyFrom table passes 0 (map f items) → (i : ℕ) (d : A) → i < length olds → HasServedAll (f (slice_index_or olds i d)).tells.book
all_at_rest f table passes items olds same ready i d = subst (λ (l : List _). i < length l → HasServedAll (f (slice_index_or l i d)).tells.book) (sym same) (at_rest f table passes 0 items ready i d)
