-- What `clap` makes of words in the form of options.
use Rattle.std.proofs.Common.{suc, ◌≡◌, ℕ, ◌+◌, ◌==◌, Bool, true, false, not, ◌&&◌, ◌||◌, List, [], ◌∷◌, ◌++◌, length, take, map, None, Some, refl, sym, ◌∙◌, ap, subst, arith, append_assoc, append-nil, codes, cond, true≢false}
use Rattle.std.proofs.lemmas.Bool.{and_from, and_parts, or_parts, eqb-true, false_from_ne_true, not-true}
use Rattle.std.proofs.lemmas.List.{map-append}
use Rattle.std.proofs.lemmas.List.Folds.{list_any-append}
use Rattle.std.proofs.lemmas.Option.{none-some, same_Some}
use Rattle.std.proofs.lemmas.Slice.Eq.{bytes_eq-Decides}
use Rattle.std.specs.Prelude.{bytes_eq, find, fold, nat_lt, is_some, slice_get}
use Rattle.std.specs.Borrow.{Bor}
use Rattle.std.specs.List.{list_any, list_all, position_or_len}
use Rattle.std.specs.Option.{option_map, option_and_then}
use Rattle.std.specs.declared.option.Option.{Option}
use Rattle.clap.specs.Facts.{Entry}
use Rattle.clap.specs.Lexer.{long_of, name_and_value, short_of}
use Rattle.clap.specs.Matches.{first_value, found_of}
use Rattle.clap.specs.Simple.{App, HasMatchesOf, Shape, app_of, app_of_fields, built, entered, names_of, is_simple, matches_of, new_app, new_rule}
use Rattle.clap.specs.Takes.{built_takes, default_passes, entered_passes, level_passes, settle_passes, takes, turn_passes, use_passes, walk_passes}
use Rattle.clap.specs.Values.{reading_of}
use Rattle.clap.specs.Walk.{Held, Row, Rule, Walk, arg_by_id, arg_by_long, at_row, first_of, has_row, idle, more_values, nothing_held, option, row_of, rows_after, rows_of, settled_rows, stop_after, used, walked, with_default}
use Rattle.clap.specs.declared.builder.action.ArgAction.TheVariants.{Set}
use Rattle.clap.specs.declared.builder.command.Command.{Command}
use Rattle.clap.specs.declared.builder.command.Command.TheViews.{out-Command}
use Rattle.clap.specs.declared.builder.value_parser.ValueParser.TheVariants as vp
use Rattle.clap.specs.declared.parser.matches.ArgMatches.{ArgMatches}
use Rattle.clap.specs.declared.parser.matches.Found.{Found}
use Rattle.clap.specs.declared.parser.matches.ValueSource.TheVariants.{CommandLine}
use Rattle.clap.proofs.OnLiterals.{clap_on_literals}
use Rattle.listing.specs.Word.{parts_at, parts_or_whole}
use Rattle.serve_words.specs.Form.{Pair, NAMES, are_well, command_pairs, has_name, is_name, is_value, is_well, option_in, pairs_from, value_of, well_pairs, with_pair}
use Rattle.serve_words.specs.Matching.{serve_app, without_help}

-- ---- texts that are equal

same_text : (a b : List ℕ) → bytes_eq a b ≡ true → a ≡ b
same_text a b = (bytes_eq-Decides a b).0

text_same : (a b : List ℕ) → a ≡ b → bytes_eq a b ≡ true
text_same a b = (bytes_eq-Decides a b).1

other_way : (a b : List ℕ) → bytes_eq a b ≡ false → bytes_eq b a ≡ false
other_way a b apart = false_from_ne_true (bytes_eq b a) (λ same. true≢false (sym (text_same a b (sym (same_text b a same))) ∙ apart))

-- ---- an option, made ready

abbrev pub ready : List ℕ → Rule
ready name = record (new_rule name) {
  long = Some name;
  action = Some Set;
  parser = Some vp.String;
  range = Some (record { start_inclusive = 1; end_inclusive = 1 });
}

abbrev pub rules : List (List ℕ) → List Rule
rules names = map ready names

abbrev pub knows : List (List ℕ) → List ℕ → Bool
knows names name = list_any (λ known. bytes_eq known name) names

by_id : (names : List (List ℕ)) (name : List ℕ) → knows names name ≡ true → arg_by_id (rules names) name ≡ Some (ready name)
by_id [] name known = absurd (true≢false (sym known))
by_id (first ∷ names) name known = go (by_id names name) (bytes_eq first name) refl
  where
    go : (knows names name ≡ true → arg_by_id (rules names) name ≡ Some (ready name)) → (t : Bool) → bytes_eq first name ≡ t
        → cond (bytes_eq first name) (Some (ready first)) (arg_by_id (rules names) name) ≡ Some (ready name)
    go rest true is = rw is (ap (λ (n : List ℕ). Some (ready n)) (same_text first name is))
    go rest false is = rw is (rest (sym (ap (λ t. t || knows names name) is) ∙ known))

by_long : (names : List (List ℕ)) (name : List ℕ) → knows names name ≡ true → arg_by_long (rules names) name ≡ Some (ready name)
by_long [] name known = absurd (true≢false (sym known))
by_long (first ∷ names) name known = go (by_long names name) (bytes_eq first name) refl
  where
    go : (knows names name ≡ true → arg_by_long (rules names) name ≡ Some (ready name)) → (t : Bool) → bytes_eq first name ≡ t
        → cond (bytes_eq first name || false) (Some (ready first)) (arg_by_long (rules names) name) ≡ Some (ready name)
    go rest true is = rw is (ap (λ (n : List ℕ). Some (ready n)) (same_text first name is))
    go rest false is = rw is (rest (sym (ap (λ t. t || knows names name) is) ∙ known))

-- ---- rows

abbrev pub row_at : Pair → Row
row_at pair = record {
  id = pair.0;
  values = pair.1 ∷ [];
  count = None;
  source = Some CommandLine;
  reading = reading_of vp.String;
}

abbrev pub rows_at : List Pair → List Row
rows_at pairs = map row_at pairs

has_row_at : (name : List ℕ) (pairs : List Pair) → has_row name (rows_at pairs) ≡ has_name name pairs
has_row_at name [] = refl
has_row_at name (pair ∷ pairs) = ap (λ t. bytes_eq pair.0 name || t) (has_row_at name pairs)

at_no_row : (id : List ℕ) (change : Row → List Row) (missing : List Row) (rows : List Row) → has_row id rows ≡ false → at_row id change missing rows ≡ rows ++ missing
at_no_row id change missing [] none = refl
at_no_row id change missing (row ∷ rows) none =
    let parts = or_parts (bytes_eq row.id id) (has_row id rows) none in
    rw parts.0 (ap (λ l. row ∷ l) (at_no_row id change missing rows parts.1))

used_once : (name value : List ℕ) (pairs : List Pair) → has_name name pairs ≡ false → used (ready name) (value ∷ []) (rows_at pairs) ≡ rows_at (pairs ++ (name, value) ∷ [])
used_once name value pairs none =
    let apart = has_row_at name pairs ∙ none in
    let gone : at_row name (λ r. []) [] (rows_at pairs) ≡ rows_at pairs = at_no_row name (λ r. []) [] (rows_at pairs) apart ∙ append-nil (rows_at pairs) in
    rw gone (at_no_row name (more_values CommandLine (value ∷ [])) (row_at (name, value) ∷ []) (rows_at pairs) apart ∙ sym (map-append row_at pairs ((name, value) ∷ [])))

passes_once : (name value : List ℕ) (pairs : List Pair) → has_name name pairs ≡ false → use_passes false (ready name) (value ∷ []) (rows_at pairs) ≡ true
passes_once name value pairs none = rw (has_row_at name pairs ∙ none) refl

-- ---- what a word is

lt_one : (a b : ℕ) → nat_lt (1 + a) (suc b) ≡ nat_lt a b
lt_one a b = grind arith

lt_none : (n : ℕ) → nat_lt 0 (suc n) ≡ true
lt_none n = grind arith

take_one : (n : ℕ) (byte : ℕ) (text : List ℕ) → take (1 + n) (byte ∷ text) ≡ byte ∷ take n text
take_one n byte text = let e : 1 + n ≡ suc n = omega arith in rw e refl

any_place : (test : ℕ → Bool) (text : List ℕ) → list_any test text ≡ nat_lt (position_or_len test text) (length text)
any_place test [] = refl
any_place test (byte ∷ text) = go (any_place test text) (test byte) refl
  where
    go : list_any test text ≡ nat_lt (position_or_len test text) (length text) → (t : Bool) → test byte ≡ t
        → (test byte || list_any test text) ≡ nat_lt (cond (not (test byte)) (1 + position_or_len test text) 0) (suc (length text))
    go rest true is = rw is (sym (lt_none (length text)))
    go rest false is = rw is (rest ∙ sym (lt_one (position_or_len test text) (length text)))

whole_front : (test : ℕ → Bool) (text : List ℕ) → list_any test text ≡ false → take (position_or_len test text) text ≡ text
whole_front test [] none = refl
whole_front test (byte ∷ text) none =
    let parts = or_parts (test byte) (list_any test text) none in
    rw parts.0 (take_one (position_or_len test text) byte text ∙ ap (λ (l : List ℕ). byte ∷ l) (whole_front test text parts.1))

cut_same : (text : List ℕ) → name_and_value text ≡ parts_or_whole 61 text
unfolding parts_at
cut_same text = go (list_any (λ x. x == 61) text) refl
  where
    place : nat_lt (position_or_len (λ x. x == 61) text) (length text) ≡ list_any (λ x. x == 61) text
    place = sym (any_place (λ x. x == 61) text)

    go : (t : Bool) → list_any (λ x. x == 61) text ≡ t → name_and_value text ≡ parts_or_whole 61 text
    go true is = rw (place, is) refl
    go false is = rw (place, is) (ap (λ (l : List ℕ). (l, None)) (whole_front (λ x. x == 61) text is))

is_hyphen : (byte : ℕ) → (byte == 45) ≡ true → byte ≡ 45
is_hyphen byte is = eqb-true byte 45 is

-- what an option's word is to `clap`
option_word : (word name : List ℕ) (value : Option (List ℕ)) → option_in word ≡ Some (name, value) → (name ≡ [] → ⊥) → (long_of word ≡ Some (name, value)) × (bytes_eq word (45 ∷ 45 ∷ []) ≡ false)
unfolding parts_at
option_word [] name value is some = absurd (none-some _ is)
option_word (a ∷ []) name value is some = absurd (none-some _ is)
option_word (a ∷ b ∷ rest) name value is some = go (a == 45) (b == 45) refl refl
  where
    at : (rest : List ℕ) → Some (parts_or_whole 61 rest) ≡ Some (name, value) → (long_of (45 ∷ 45 ∷ rest) ≡ Some (name, value)) × (bytes_eq (45 ∷ 45 ∷ rest) (45 ∷ 45 ∷ []) ≡ false)
    at [] same = absurd (some (sym (ap (λ (p : List ℕ × Option (List ℕ)). p.0) (same_Some _ _ same))))
    at (x ∷ xs) same = (ap Some (cut_same (x ∷ xs)) ∙ same, refl)

    go : (s t : Bool) → (a == 45) ≡ s → (b == 45) ≡ t → (long_of (a ∷ b ∷ rest) ≡ Some (name, value)) × (bytes_eq (a ∷ b ∷ rest) (45 ∷ 45 ∷ []) ≡ false)
    go true true p q =
        let same : Some (parts_or_whole 61 rest) ≡ Some (name, value) = rw (p, q) at is in
        subst (λ (n : ℕ). (long_of (n ∷ b ∷ rest) ≡ Some (name, value)) × (bytes_eq (n ∷ b ∷ rest) (45 ∷ 45 ∷ []) ≡ false)) (sym (is_hyphen a p))
        (subst (λ (n : ℕ). (long_of (45 ∷ n ∷ rest) ≡ Some (name, value)) × (bytes_eq (45 ∷ n ∷ rest) (45 ∷ 45 ∷ []) ≡ false)) (sym (is_hyphen b q)) (at rest same))
    go true false p q = absurd (none-some _ (rw (p, q) at is))
    go false t p q = absurd (none-some _ (rw p at is))

-- what a value is to it
value_word : (value : List ℕ) → is_value value ≡ true → (long_of value ≡ None) × (short_of value ≡ None) × (bytes_eq value (45 ∷ 45 ∷ []) ≡ false)
value_word [] is = absurd (true≢false (sym is))
value_word (byte ∷ bytes) is = go (byte == 45) refl
  where
    go : (t : Bool) → (byte == 45) ≡ t → (long_of (byte ∷ bytes) ≡ None) × (short_of (byte ∷ bytes) ≡ None) × (bytes_eq (byte ∷ bytes) (45 ∷ 45 ∷ []) ≡ false)
    go true p = absurd (true≢false (sym (rw p at is)))
    go false p = (rw p refl, rw p refl, rw p refl)

-- ---- a walk over words

abbrev pub shape : List (List ℕ) → Shape
shape names = record (built serve_app).top { rules = rules names }

-- between two options
abbrev pub between : Held → ℕ → Walk
between h place = record {
  held = h;
  waiting = idle;
  position = place;
  is_trailing = false;
  stopped = None;
}

-- before the value of this option
abbrev pub before_value : List Row → ℕ → ℕ → List ℕ → Walk
before_value rows skip place name = record {
  held = record { rows = rows; pending = Some (name, []); skip = skip };
  waiting = option name;
  position = place;
  is_trailing = false;
  stopped = None;
}

-- these options were used
pub record HasUsed (names : List (List ℕ)) (pairs : List Pair) (h : Held) : Type 0 where
  pub rows : settled_rows (rules names) h.pending h.rows ≡ rows_at pairs
  pub passes : settle_passes (rules names) false h ≡ true

-- the word passes, and after it these were used
abbrev pub Uses : List (List ℕ) → List Pair → Walk → List ℕ → ℕ → Type 0
Uses names pairs w word place = (turn_passes (shape names) [] w word ≡ true)
    × (h : Held) × (walked (rules names) [] w word ≡ between h place) × HasUsed names pairs h

joined_word : (names : List (List ℕ)) (pairs : List Pair) (h : Held) (place : ℕ) (word name value : List ℕ) → HasUsed names pairs h → long_of word ≡ Some (name, Some value) → bytes_eq word (45 ∷ 45 ∷ []) ≡ false
    → knows names name ≡ true → has_name name pairs ≡ false → Uses names (pairs ++ (name, value) ∷ []) (between h place) word place
unfolding walked
joined_word names pairs h place word name value has long other known once = (
  rw (other, long, by_long names name known, has.passes, has.rows, passes_once name value pairs once) refl,
  record { rows = used (ready name) (value ∷ []) (settled_rows (rules names) h.pending h.rows); pending = None; skip = h.skip },
  rw (other, long, by_long names name known) refl,
  record { rows = rw has.rows (used_once name value pairs once); passes = refl },
)

split_word : (names : List (List ℕ)) (pairs : List Pair) (h : Held) (place : ℕ) (word name : List ℕ) → HasUsed names pairs h → long_of word ≡ Some (name, None) → bytes_eq word (45 ∷ 45 ∷ []) ≡ false → knows names name ≡ true
    → (turn_passes (shape names) [] (between h place) word ≡ true) × (walked (rules names) [] (between h place) word ≡ before_value (rows_at pairs) h.skip place name)
unfolding walked
split_word names pairs h place word name has long other known = (
  rw (other, long, by_long names name known, has.passes) refl,
  rw (other, long, by_long names name known, has.rows) refl,
)

split_value : (names : List (List ℕ)) (pairs : List Pair) (skip place : ℕ) (name value : List ℕ) → is_value value ≡ true → knows names name ≡ true → has_name name pairs ≡ false
    → Uses names (pairs ++ (name, value) ∷ []) (before_value (rows_at pairs) skip place name) value place
unfolding walked
split_value names pairs skip place name value is known once =
    let v = value_word value is in (
      rw (v.2, v.0, v.1) refl,
      record { rows = rows_at pairs; pending = Some (name, value ∷ []); skip = skip },
      rw (v.2, v.0, v.1, by_id names name known, text_same name name refl) refl,
      record {
        rows = rw (by_id names name known) (used_once name value pairs once);
        passes = rw (by_id names name known) (passes_once name value pairs once);
      },
    )

-- ---- all words

-- none of these options is among those
abbrev pub Apart : List Pair → List Pair → Type 0
Apart before [] = Unit {0}
Apart before (pair ∷ pairs) = (has_name pair.0 before ≡ false) × Apart before pairs

apart_none : (pairs : List Pair) → Apart [] pairs
apart_none [] = tt
apart_none (pair ∷ pairs) = (refl, apart_none pairs)

apart_more : (before : List Pair) (name value : List ℕ) (pairs : List Pair) → Apart before pairs → has_name name pairs ≡ false → Apart (before ++ (name, value) ∷ []) pairs
apart_more before name value [] apart once = tt
apart_more before name value (pair ∷ pairs) apart once =
    let parts = or_parts (bytes_eq pair.0 name) (has_name name pairs) once in (
      list_any-append (λ (p : Pair). bytes_eq p.0 pair.0) before ((name, value) ∷ []) ∙ rw (apart.0, other_way pair.0 name parts.0) refl,
      apart_more before name value pairs apart.1 parts.1,
    )

-- what is well with an option and those behind it
record Well (name value : List ℕ) (pairs : List Pair) : Type 0 where
  pub known : is_name name ≡ true
  pub valued : is_value value ≡ true
  pub once : has_name name pairs ≡ false
  pub others : are_well pairs ≡ true

well_parts : (name value : List ℕ) (pairs : List Pair) → are_well ((name, value) ∷ pairs) ≡ true → Well name value pairs
well_parts name value pairs well =
    let first = and_parts (is_well (name, value) pairs) (are_well pairs) well in
    let second = and_parts (is_name name) _ first.0 in
    let third = and_parts (is_value value) _ second.1 in
    record { known = second.0; valued = third.0; once = not-true _ third.1; others = first.1 }

name_some : (name : List ℕ) → is_name name ≡ true → name ≡ [] → ⊥
name_some name known none = true≢false (sym (subst (λ (n : List ℕ). is_name n ≡ true) none known))

-- the pairs of one option more
pair_of : (name value : List ℕ) (others : Option (List Pair)) (pairs : List Pair) → with_pair name value others ≡ Some pairs → (rest : List Pair) × (others ≡ Some rest) × (pairs ≡ (name, value) ∷ rest)
pair_of name value None pairs is = absurd (none-some _ is)
pair_of name value (Some rest) pairs is = (rest, refl, sym (same_Some _ _ is))

-- the words pass from here on, and in the end these were used
abbrev Runs : List Pair → Walk → List (List ℕ) → Type 0
Runs pairs w words = (walk_passes (shape NAMES) [] w words ≡ true)
    × (h : Held) × (place : ℕ) × (fold (walked (rules NAMES) []) w words ≡ between h place) × HasUsed NAMES pairs h

more_runs : (pairs : List Pair) (w next : Walk) (word : List ℕ) (words : List (List ℕ)) → turn_passes (shape NAMES) [] w word ≡ true → walked (rules NAMES) [] w word ≡ next → Runs pairs next words → Runs pairs w (word ∷ words)
unfolding walk_passes
more_runs pairs w next word words turn is runs = (
  and_from _ _ turn (subst (λ (x : Walk). walk_passes (shape NAMES) [] x words ≡ true) (sym is) runs.0),
  runs.1,
  runs.2,
  ap (λ (x : Walk). fold (walked (rules NAMES) []) x words) is ∙ runs.3,
  runs.4,
)

-- a walk between two options, or before the value of one
abbrev pub start : Option (List ℕ) → List Pair → Held → ℕ → Walk
start None before h place = between h place
start (Some name) before h place = before_value (rows_at before) h.skip place name

abbrev pub Stands : Option (List ℕ) → List Pair → Held → Type 0
Stands None before h = HasUsed NAMES before h
Stands (Some name) before h = Unit {0}

-- one option more was used
uses_then : (words : List (List ℕ)) (before rest : List Pair) (name value : List ℕ) (w : Walk) (word : List ℕ) (place : ℕ)
    → ((h : Held) → HasUsed NAMES (before ++ (name, value) ∷ []) h → Runs ((before ++ (name, value) ∷ []) ++ rest) (between h place) words)
    → Uses NAMES (before ++ (name, value) ∷ []) w word place → Runs (before ++ (name, value) ∷ rest) w (word ∷ words)
uses_then words before rest name value w word place then uses =
    subst (λ (l : List Pair). Runs l w (word ∷ words)) (append_assoc before ((name, value) ∷ []) rest)
    (more_runs _ w (between uses.1 place) word words uses.0 uses.2 (then uses.1 uses.3))

run_none : (pairs : List Pair) (h : Held) (place : ℕ) → HasUsed NAMES pairs h → Runs pairs (between h place) []
unfolding walk_passes
run_none pairs h place has = (refl, h, place, refl, has)

first_known : (words : List (List ℕ)) (name : List ℕ) (pairs : List Pair) → pairs_from (Some name) words ≡ Some pairs → are_well pairs ≡ true → is_name name ≡ true
first_known [] name pairs none well = absurd (none-some _ none)
first_known (value ∷ words) name pairs some well =
    let more = pair_of name value (pairs_from None words) pairs some in
    (well_parts name value more.0 (subst (λ (l : List Pair). are_well l ≡ true) more.2 well)).known

pub runs : (words : List (List ℕ)) (wait : Option (List ℕ)) (before pairs : List Pair) (h : Held) (place : ℕ) → pairs_from wait words ≡ Some pairs → are_well pairs ≡ true → Apart before pairs → Stands wait before h
    → Runs (before ++ pairs) (start wait before h place) words
runs [] None before pairs h place is well apart has =
    let none : pairs ≡ [] = sym (same_Some _ _ is) in
    subst (λ (l : List Pair). Runs l (between h place) []) (sym (append-nil before) ∙ ap (λ (l : List Pair). before ++ l) (sym none)) (run_none before h place has)
runs [] (Some name) before pairs h place is well apart has = absurd (none-some _ is)
runs (value ∷ words) (Some name) before pairs h place is well apart has =
    let more = pair_of name value (pairs_from None words) pairs is in
    let w = well_parts name value more.0 (subst (λ (l : List Pair). are_well l ≡ true) more.2 well) in
    let a = subst (λ (l : List Pair). Apart before l) more.2 apart in
    subst (λ (l : List Pair). Runs (before ++ l) (before_value (rows_at before) h.skip place name) (value ∷ words)) (sym more.2)
    (uses_then words before more.0 name value (before_value (rows_at before) h.skip place name) value place
    (λ next used. runs words None (before ++ (name, value) ∷ []) more.0 next place more.1 w.others (apart_more before name value more.0 a.1 w.once) used)
    (split_value NAMES before h.skip place name value w.valued w.known a.0))
runs (word ∷ words) None before pairs h place is well apart has = go (λ wait b ps k. runs words wait b ps k place) (option_in word) refl
  where
    go : ((wait : Option (List ℕ)) (b ps : List Pair) (k : Held) → pairs_from wait words ≡ Some ps → are_well ps ≡ true → Apart b ps → Stands wait b k → Runs (b ++ ps) (start wait b k place) words)
        → (o : Option (List ℕ × Option (List ℕ))) → option_in word ≡ o → Runs (before ++ pairs) (between h place) (word ∷ words)
    go next None p = absurd (none-some _ (rw p at is))
    go next (Some (name, Some value)) p =
        let more = pair_of name value (pairs_from None words) pairs (rw p at is) in
        let w = well_parts name value more.0 (subst (λ (l : List Pair). are_well l ≡ true) more.2 well) in
        let a = subst (λ (l : List Pair). Apart before l) more.2 apart in
        let o = option_word word name (Some value) p (name_some name w.known) in
        subst (λ (l : List Pair). Runs (before ++ l) (between h place) (word ∷ words)) (sym more.2)
        (uses_then words before more.0 name value (between h place) word place
        (λ k used. next None (before ++ (name, value) ∷ []) more.0 k more.1 w.others (apart_more before name value more.0 a.1 w.once) used)
        (joined_word NAMES before h place word name value has o.0 o.1 w.known a.0))
    go next (Some (name, None)) p =
        let some : pairs_from (Some name) words ≡ Some pairs = rw p at is in
        let known = first_known words name pairs some well in
        let o = option_word word name None p (name_some name known) in
        let s = split_word NAMES before h place word name has o.0 o.1 known in
        more_runs (before ++ pairs) (between h place) (before_value (rows_at before) h.skip place name) word words s.0 s.1 (next (Some name) before pairs h some well apart tt)

-- ---- what the matches are

kept_rows : (names : List (List ℕ)) (rows : List Row) → fold with_default rows (rules names) ≡ rows
kept_rows [] rows = refl
kept_rows (name ∷ names) rows = go (λ more. kept_rows names more) (has_row name rows) refl
  where
    go : ((more : List Row) → fold with_default more (rules names) ≡ more) → (t : Bool) → has_row name rows ≡ t → fold with_default (with_default rows (ready name)) (rules names) ≡ rows
    go rest true is = rw is (rest rows)
    go rest false is = rw is (rest rows)

no_defaults : (names : List (List ℕ)) → list_all default_passes (rules names) ≡ true
no_defaults [] = refl
no_defaults (name ∷ names) = no_defaults names

built_is : (built serve_app).top.rules ≡ rules NAMES
unfolding clap_on_literals
built_is = refl

simple_is : is_simple serve_app ≡ true
unfolding clap_on_literals
simple_is = refl

-- the parse ends with these options used
after_all : (words : List (List ℕ)) (pairs : List Pair) → pairs_from None words ≡ Some pairs → are_well pairs ≡ true → Runs pairs (between nothing_held 1) words
after_all words pairs is well = runs words None [] pairs nothing_held 1 is well (apart_none pairs) (record { rows = refl; passes = refl })

level_is : (words : List (List ℕ)) (pairs : List Pair) → pairs_from None words ≡ Some pairs → are_well pairs ≡ true → level_passes (shape NAMES) [] nothing_held words false ≡ true
level_is words pairs is well =
    let r = after_all words pairs is well in
    rw (r.0, r.3, r.4.passes, no_defaults NAMES) refl

stops_not : (words : List (List ℕ)) (pairs : List Pair) → pairs_from None words ≡ Some pairs → are_well pairs ≡ true → stop_after (rules NAMES) [] words ≡ None
stops_not words pairs is well =
    let r = after_all words pairs is well in
    ap (λ (w : Walk). w.stopped) r.3

rows_are : (words : List (List ℕ)) (pairs : List Pair) → pairs_from None words ≡ Some pairs → are_well pairs ≡ true → rows_after (rules NAMES) [] words ≡ rows_at pairs
rows_are words pairs is well =
    let r = after_all words pairs is well in
    rw (r.3, kept_rows NAMES (settled_rows (rules NAMES) r.1.pending r.1.rows)) r.4.rows

app_is : built serve_app ≡ record { top = shape NAMES; subs = [] }
unfolding clap_on_literals
app_is = refl

taken : (words : List (List ℕ)) (pairs : List Pair) → pairs_from None words ≡ Some pairs → are_well pairs ≡ true → built_takes (record { top = shape NAMES; subs = [] }) nothing_held words ≡ true
taken words pairs is well =
    let a : App = record { top = shape NAMES; subs = [] } in
    subst (λ (stop : Option (List ℕ × List (List ℕ))). (entered_passes a stop && level_passes (shape NAMES) [] nothing_held words (is_some (entered a stop))) ≡ true) (sym (stops_not words pairs is well)) (level_is words pairs is well)

pub are_taken : (word : List ℕ) (words : List (List ℕ)) (pairs : List Pair) → pairs_from None words ≡ Some pairs → are_well pairs ≡ true → takes serve_app (word ∷ words) ≡ true
are_taken word words pairs is well = and_from (is_simple serve_app) (built_takes (built serve_app) nothing_held words) simple_is
    (subst (λ (a : App). built_takes a nothing_held words ≡ true) (sym app_is) (taken words pairs is well))

pub are_matched : (word : List ℕ) (words : List (List ℕ)) (pairs : List Pair) → pairs_from None words ≡ Some pairs → are_well pairs ≡ true → matches_of serve_app (word ∷ words) ≡ rows_at pairs
are_matched word words pairs is well = subst (λ (a : App). rows_after a.top.rules (names_of a) words ≡ rows_at pairs) (sym app_is) (rows_are words pairs is well)

-- ---- what is read of the matches

first_at : (values : List (Bor (List ℕ))) → option_map (λ s. s.now) (slice_get values 0) ≡ slice_get (map (λ s. s.now) values) 0
first_at [] = refl
first_at (value ∷ values) = refl

in_rows : (name : List ℕ) (entries : List Entry)
    → option_and_then (λ a. option_map (λ s. s.now) (slice_get a.vals.items 0)) (option_map (λ e. e.1) (find (λ e. bytes_eq e.0.now name) entries)) ≡ first_of name (map row_of entries)
in_rows name [] = refl
in_rows name (entry ∷ entries) = go (in_rows name entries) (bytes_eq entry.0.now name) refl
  where
    go : option_and_then (λ a. option_map (λ s. s.now) (slice_get a.vals.items 0)) (option_map (λ e. e.1) (find (λ e. bytes_eq e.0.now name) entries)) ≡ first_of name (map row_of entries) → (t : Bool) → bytes_eq entry.0.now name ≡ t
        → option_and_then (λ a. option_map (λ s. s.now) (slice_get a.vals.items 0)) (option_map (λ e. e.1) (find (λ e. bytes_eq e.0.now name) (entry ∷ entries))) ≡ first_of name (map row_of (entry ∷ entries))
    go rest true is = rw is (first_at entry.1.vals.items)
    go rest false is = rw is rest

first_found : (f : Found) (name : List ℕ) → first_value f name ≡ first_of name (rows_of f)
first_found f name = in_rows name f.entries.items

value_found : (name : List ℕ) (pairs : List Pair) → first_of name (rows_at pairs) ≡ value_of name pairs
value_found name [] = refl
value_found name (pair ∷ pairs) = go (value_found name pairs) (bytes_eq pair.0 name) refl
  where
    go : first_of name (rows_at pairs) ≡ value_of name pairs → (t : Bool) → bytes_eq pair.0 name ≡ t → first_of name (rows_at (pair ∷ pairs)) ≡ value_of name (pair ∷ pairs)
    go rest true is = rw is refl
    go rest false is = rw is rest

-- what is known of the options of a command
pub command_parts : (word : List ℕ) (words : List (List ℕ)) (pairs : List Pair) → command_pairs (word ∷ words) ≡ Some pairs → (pairs_from None words ≡ Some pairs) × (are_well pairs ≡ true)
command_parts word words pairs some = named (bytes_eq word (codes "serve")) refl
  where
    of : (found : Option (List Pair)) → pairs_from None words ≡ found → well_pairs found ≡ Some pairs → (pairs_from None words ≡ Some pairs) × (are_well pairs ≡ true)
    of None is some = absurd (none-some _ some)
    of (Some all) is some = well (are_well all) refl
      where
        well : (t : Bool) → are_well all ≡ t → (pairs_from None words ≡ Some pairs) × (are_well pairs ≡ true)
        well true w =
            let same : all ≡ pairs = same_Some _ _ (rw w at some) in
            (is ∙ ap Some same, subst (λ (l : List Pair). are_well l ≡ true) same w)
        well false w = absurd (none-some _ (rw w at some))

    named : (t : Bool) → bytes_eq word (codes "serve") ≡ t → (pairs_from None words ≡ Some pairs) × (are_well pairs ≡ true)
    named true is = of (pairs_from None words) refl (rw is at some)
    named false is = absurd (none-some _ (rw is at some))

-- the options that words write are what is found of them
pub values_found : (words : List (List ℕ)) (pairs : List Pair) (m : ArgMatches) (a : App) → a ≡ serve_app → HasMatchesOf a words m → command_pairs words ≡ Some pairs → (name : List ℕ) → first_value (found_of m) name ≡ value_of name pairs
values_found [] pairs m a app has some name = absurd (none-some _ some)
values_found (word ∷ words) pairs m a app has some name =
    let parts = command_parts word words pairs some in
    let rows = (subst (λ (b : App). HasMatchesOf b (word ∷ words) m) app has simple_is).0 in
    first_found (found_of m) name ∙ ap (first_of name) (rows ∙ are_matched word words pairs parts.0 parts.1) ∙ value_found name pairs

pub words_taken : (words : List (List ℕ)) (a : App) → a ≡ serve_app → is_some (command_pairs words) ≡ true → takes a words ≡ true
words_taken [] a app some = absurd (true≢false (sym some))
words_taken (word ∷ words) a app some = go (command_pairs (word ∷ words)) refl
  where
    go : (found : Option (List Pair)) → command_pairs (word ∷ words) ≡ found → takes a (word ∷ words) ≡ true
    go None is = absurd (true≢false (sym (rw is at some)))
    go (Some pairs) is =
        let parts = command_parts word words pairs is in
        subst (λ (b : App). takes b (word ∷ words) ≡ true) (sym app) (are_taken word words pairs parts.0 parts.1)

-- ---- the command

-- a command whose flag for help is taken away
pub flagless : (c d : Command) (name : List ℕ) → out-Command d ≡ record (out-Command c) { disable_help_flag = true } → app_of c ≡ new_app name → app_of d ≡ without_help (new_app name)
flagless c d name is app =
    let first : app_of d ≡ without_help (app_of c) = ap app_of_fields is in
    let second : without_help (app_of c) ≡ without_help (new_app name) = ap without_help app in
    first ∙ second
