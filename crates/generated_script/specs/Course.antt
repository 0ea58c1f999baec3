-- The rounds of a generated script: what they draw, what they say and what they leave.
use Rattle.std.specs.Prelude.{ℕ, ◌+◌, ◌*◌, ◌/◌, ◌%◌, ◌^◌, Bool, false, true, List, [], ◌++◌, get_or, set, replicate, ◌==◌, if◌then◌else◌}
use Rattle.generated_script.specs.Line.{get_line, got_line, finish_line, command_line, advance_line, delete_line, cut_line, droplog_line}
use Rattle.generated_script.specs.declared.course.Course.{Course}
use Rattle.generated_script.specs.declared.course.TheConstants.{PASSES, PATHS}

-- ---- draws

-- the number that follows this one
unfoldable pub next_number : ℕ → ℕ
next_number x = (1103515245 * x + 12345) % 2 ^ 31

-- what this number gives below a bound; its low bits are left out
unfoldable pub drawn_below : ℕ → ℕ → ℕ
drawn_below bound x = (x / 65536) % bound

-- the pass of a round, by the first draw
abbrev pub pass_of : Course → ℕ
pass_of course = drawn_below PASSES (next_number course.number)

-- the path of a round, by the second draw
abbrev pub path_of : Course → ℕ
path_of course = drawn_below PATHS (next_number (next_number course.number))

-- what the two draws of a round leave
abbrev pub drawn_twice : Course → Course
drawn_twice course = record course { number = next_number (next_number course.number) }

-- the path that is purged, by one draw
abbrev pub purged_path : Course → ℕ
purged_path course = drawn_below PATHS (next_number course.number)

-- ---- what a round says

abbrev pub is_marked : Course → ℕ → Bool
is_marked course path = get_or course.marks path false

-- the first round is one millisecond after the metadata came, and each is one after the one before
abbrev pub round_moment : ℕ → ℕ
round_moment round = 1000 + round

-- the answer to the next fetch, where the path is not marked
unfoldable pub fetch_lines : ℕ → ℕ → ℕ → Course → List ℕ
fetch_lines pass moment path course =
    if is_marked course path then [] else got_line pass moment (course.answers + 1)

-- a delivery: the request, the fetch where there is one, and the end
unfoldable pub delivery_lines : ℕ → Course → List ℕ
delivery_lines round course = get_line (pass_of course) (round_moment round) (path_of course)
    ++ fetch_lines (pass_of course) (round_moment round) (path_of course) (drawn_twice course)
    ++ finish_line (pass_of course) (round_moment round) round

-- in each hundredth round: a purge of the path, which is done and deleted
unfoldable pub purge_lines : ℕ → ℕ → List ℕ
purge_lines round path = command_line (round_moment round) path
    ++ advance_line (round_moment round) (round / 100)
    ++ advance_line (round_moment round) (round / 100)
    ++ delete_line (round_moment round) (round / 100)

-- in each thousandth round: a log file is cut and dropped
unfoldable pub log_lines : ℕ → List ℕ
log_lines round = cut_line (round_moment round) ++ droplog_line (round_moment round) (round / 1000)

-- ---- what it leaves

-- the path was fetched, unless it is marked
unfoldable pub with_fetch : ℕ → Course → Course
with_fetch path course = if is_marked course path then course
    else record course { marks = set course.marks path true; answers = course.answers + 1 }

-- two numbers were drawn, and the path was fetched
unfoldable pub delivered : Course → Course
delivered course = with_fetch (path_of course) (drawn_twice course)

-- one number was drawn, and the mark of the path is taken away
unfoldable pub purged : Course → Course
purged course = record course {
  number = next_number course.number;
  marks = set course.marks (purged_path course) false;
}

-- ---- rounds

-- the draws begin with the seed, no path is marked and nothing was fetched
abbrev pub course_of : ℕ → Course
course_of seed = record { number = seed; marks = replicate PATHS false; answers = 0 }

-- what a round of this number says
unfoldable pub round_lines : ℕ → Course → List ℕ
round_lines round course = delivery_lines round course
    ++ (if round % 100 == 0 then purge_lines round (purged_path (delivered course)) else [])
    ++ (if round % 1000 == 0 then log_lines round else [])

-- what it leaves
unfoldable pub after_round : ℕ → Course → Course
after_round round course = if round % 100 == 0 then purged (delivered course) else delivered course
