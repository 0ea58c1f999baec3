-- Lines of a head, and what their fields tell one after the other.
use Rattle.std.proofs.Common.{◌≡◌, ℕ, ◌+◌, ◌<◌, Bool, true, false, ◌||◌, ◌&&◌, ◌==◌, cond, List, [], ◌∷◌, length, map, take, drop, refl, sym, ◌∙◌, ap, arith, Option, Some, None, ltb, codes, ⊎_elim}
use Rattle.std.specs.List.{slice_split, position_or_len, filter, cons_option, list_any}
use Rattle.std.specs.Option.{option_map, option_map_or}
use Rattle.std.proofs.lemmas.Bool.{cases_Bool, cond-true, cond-false, ltb-true, ltb-false}
use Rattle.std.proofs.lemmas.List.{length-drop}
use Rattle.std.proofs.lemmas.List.Splits.{slice_split_first, slice_split_none, length-slice_split}
use Rattle.std.proofs.lemmas.List.Sums.{fails_before_first}
use Rattle.http_wire.specs.Fields.{is_name, values_of}
use Rattle.listing.specs.Number.{number_of_digits}
use Rattle.listing.specs.Word.{parts_at}
use Rattle.client_hub.specs.Behind.{trimmed, but_last, lines_of, is_empty_line, head_lines, one_length, length_beside, body_of, fields_of, says_close, says_continue, asks_for_end, asks_for_word, with_field, with_line}
use Rattle.client_hub.specs.declared.ahead.TheConstants.{LINE_FEED}
use Rattle.client_hub.specs.declared.behind.Told.{Told}

abbrev is_byte : ℕ → ℕ → Bool
is_byte one byte = byte == one

abbrev parts_at_place : List ℕ → Option ℕ → Option (List ℕ × List ℕ)
parts_at_place text place = option_map (λ i. (take i text, drop (i + 1) text)) place

some_same : {A : Type 0} (a b : A) → Some a ≡ Some b → a ≡ b
some_same a b h = cc

some_none : {A : Type 0} {a : A} → Some a ≡ None → ⊥
some_none h = cc

-- where a part is cut off, it is the first one
pub part_cut_off : (one : ℕ) (text part others : List ℕ) → Some (part, others) ≡ parts_at one text
    → (slice_split (is_byte one) text ≡ part ∷ slice_split (is_byte one) others) × (length others < length text)
unfolding parts_at
part_cut_off one text part others e =
    let n = position_or_len (is_byte one) text in
    ⊎_elim (λ found.
    let at : parts_at one text ≡ Some (take n text, drop (n + 1) text) = ap (parts_at_place text) (cond-true (ltb n (length text)) (Some n) None found) in
    let pair : (part, others) ≡ (take n text, drop (n + 1) text) = some_same _ _ (e ∙ at) in
    let within = ltb-true _ _ found in
    let first : part ≡ take n text = ap (λ p. p.0) pair in
    let rest : others ≡ drop (n + 1) text = ap (λ p. p.1) pair in
    let shorter : length (drop (n + 1) text) < length text = omega (arith, within, length-drop (n + 1) text) in
    (rw (first, rest) (slice_split_first (is_byte one) text 0 within), rw rest shorter))
    (λ none. absurd (some_none (e ∙ ap (parts_at_place text) (cond-false (ltb n (length text)) (Some n) None none))))
    (cases_Bool (ltb n (length text)))

-- where none is cut off, the text is one part
pub no_part_cut_off : (one : ℕ) (text : List ℕ) → None ≡ parts_at one text → slice_split (is_byte one) text ≡ text ∷ []
unfolding parts_at
no_part_cut_off one text e =
    let n = position_or_len (is_byte one) text in
    ⊎_elim (λ found. absurd (some_none (sym (e ∙ ap (parts_at_place text) (cond-true (ltb n (length text)) (Some n) None found)))))
    (λ none. slice_split_none (is_byte one) text (λ k d below. fails_before_first (is_byte one) text k d (omega (arith, below, ltb-false _ _ none))))
    (cases_Bool (ltb n (length text)))

but_last-cons : (part : List ℕ) (parts : List (List ℕ)) → 0 < length parts → but_last (part ∷ parts) ≡ part ∷ but_last parts
but_last-cons part [] some = absurd (omega (arith, some))
but_last-cons part (other ∷ parts) some = refl

-- where a line is cut off, it is the first one
pub line_cut_off : (text line others : List ℕ) → Some (line, others) ≡ parts_at LINE_FEED text → (lines_of text ≡ line ∷ lines_of others) × (length others < length text)
unfolding lines_of
line_cut_off text line others e =
    let cut = part_cut_off LINE_FEED text line others e in
    let more : 0 < length (slice_split (is_byte LINE_FEED) others) = omega (arith, length-slice_split (is_byte LINE_FEED) others) in
    (ap but_last cut.0 ∙ but_last-cons line (slice_split (is_byte LINE_FEED) others) more, cut.1)

-- where none is cut off, no line ends
pub no_line_cut_off : (text : List ℕ) → None ≡ parts_at LINE_FEED text → lines_of text ≡ []
unfolding lines_of
no_line_cut_off text e = ap but_last (no_part_cut_off LINE_FEED text e)

-- a line that is not empty begins the head
pub head_begins : (line : List ℕ) (lines : List (List ℕ)) → is_empty_line line ≡ false → head_lines (line ∷ lines) ≡ line ∷ lines
head_begins line lines some = cond-false (is_empty_line line) (head_lines lines) (line ∷ lines) some

-- an empty one in front is none of it
pub head_skips : (line : List ℕ) (lines : List (List ℕ)) → is_empty_line line ≡ true → head_lines (line ∷ lines) ≡ head_lines lines
head_skips line lines none = cond-true (is_empty_line line) (head_lines lines) (line ∷ lines) none

-- the length that is told by those that stand behind others
abbrev pub one_rest : Option ℕ → Bool → List (List ℕ) → Option ℕ
one_rest body framed [] = body
one_rest body framed (value ∷ []) = cond framed None (number_of_digits (trimmed value))
one_rest body framed (value ∷ other ∷ values) = None

-- the same beside codings
abbrev pub rest_beside : Option ℕ → Bool → List (List ℕ) → List (List ℕ) → Option ℕ
rest_beside body framed lengths [] = one_rest body framed lengths
rest_beside body framed lengths (coding ∷ codings) = None

-- what fields tell behind what is told so far
abbrev pub body_rest : Told → List (List ℕ × List ℕ) → Option ℕ
body_rest told fields =
    rest_beside told.body told.framed (values_of (codes "content-length") fields) (values_of (codes "transfer-encoding") fields)

abbrev pub last_rest : Told → List (List ℕ × List ℕ) → Bool
last_rest told fields = told.last || asks_for_end fields

abbrev pub expects_rest : Told → List (List ℕ × List ℕ) → Bool
expects_rest told fields = told.expects || asks_for_word fields

-- behind nothing they tell what they tell
one_rest_first : (values : List (List ℕ)) → one_rest (Some 0) false values ≡ one_length values
one_rest_first [] = refl
one_rest_first (value ∷ []) = refl
one_rest_first (value ∷ other ∷ values) = refl

rest_first : (lengths codings : List (List ℕ)) → rest_beside (Some 0) false lengths codings ≡ length_beside lengths codings
rest_first lengths [] = one_rest_first lengths
rest_first lengths (coding ∷ codings) = refl

pub body_first : (last : Bool) (fields : List (List ℕ × List ℕ)) → body_rest (record { body = Some 0; framed = false; last = last; expects = false }) fields ≡ body_of fields
body_first last fields = rest_first (values_of (codes "content-length") fields) (values_of (codes "transfer-encoding") fields)

-- what is not told any more stays so
none_stays : (lengths codings : List (List ℕ)) → rest_beside None true lengths codings ≡ None
none_stays [] [] = refl
none_stays (value ∷ []) [] = refl
none_stays (value ∷ other ∷ values) [] = refl
none_stays lengths (coding ∷ codings) = refl

or_true : (a : Bool) → (a || true) ≡ true
or_true true = refl
or_true false = refl

pub or_false : (a : Bool) → (a || false) ≡ a
or_false true = refl
or_false false = refl

-- a length behind others
length_more : (body : Option ℕ) (framed : Bool) (value : List ℕ) (lengths codings : List (List ℕ))
    → rest_beside (cond framed None (number_of_digits (trimmed value))) true lengths codings ≡ rest_beside body framed (value ∷ lengths) codings
length_more body framed value [] [] = refl
length_more body framed value (other ∷ []) [] = refl
length_more body framed value (other ∷ more ∷ lengths) [] = refl
length_more body framed value lengths (coding ∷ codings) = refl

-- one field more, which tells a length, a coding, both or none
field_more : (body : Option ℕ) (framed is_length is_coding : Bool) (value : List ℕ) (lengths codings : List (List ℕ))
    → rest_beside (cond is_coding None (cond is_length (cond framed None (number_of_digits (trimmed value))) body)) (framed || (is_length || is_coding)) lengths codings
    ≡ rest_beside body framed (cond is_length (value ∷ lengths) lengths) (cond is_coding (value ∷ codings) codings)
field_more body framed is_length true value lengths codings =
    ap (λ f. rest_beside None f lengths codings) (ap (λ b. framed || b) (or_true is_length) ∙ or_true framed) ∙ none_stays lengths codings
field_more body framed true false value lengths codings =
    ap (λ f. rest_beside (cond framed None (number_of_digits (trimmed value))) f lengths codings) (or_true framed) ∙ length_more body framed value lengths codings
field_more body framed false false value lengths codings =
    ap (λ f. rest_beside body f lengths codings) (or_false framed)

map_cond : (b : Bool) (field : List ℕ × List ℕ) (fields : List (List ℕ × List ℕ)) → map (λ header. header.1) (cond b (field ∷ fields) fields) ≡ cond b (field.1 ∷ map (λ header. header.1) fields) (map (λ header. header.1) fields)
map_cond true field fields = refl
map_cond false field fields = refl

values_more : (name : List ℕ) (field : List ℕ × List ℕ) (fields : List (List ℕ × List ℕ)) → values_of name (field ∷ fields) ≡ cond (is_name name field) (field.1 ∷ values_of name fields) (values_of name fields)
values_more name field fields = map_cond (is_name name field) field (filter (is_name name) fields)

body_more : (told : Told) (field : List ℕ × List ℕ) (fields : List (List ℕ × List ℕ)) → body_rest (with_field told field) fields ≡ body_rest told (field ∷ fields)
body_more told field fields =
    let lengths = values_of (codes "content-length") fields in
    let codings = values_of (codes "transfer-encoding") fields in
    field_more told.body told.framed (is_name (codes "content-length") field) (is_name (codes "transfer-encoding") field) field.1 lengths codings
    ∙ ap (λ values. rest_beside told.body told.framed values (cond (is_name (codes "transfer-encoding") field) (field.1 ∷ codings) codings)) (sym (values_more (codes "content-length") field fields))
    ∙ ap (λ values. rest_beside told.body told.framed (values_of (codes "content-length") (field ∷ fields)) values) (sym (values_more (codes "transfer-encoding") field fields))

any_more : (says : List ℕ → Bool) (told is_it : Bool) (value : List ℕ) (values : List (List ℕ))
    → ((told || (is_it && says value)) || list_any says values) ≡ (told || list_any says (cond is_it (value ∷ values) values))
any_more says true is_it value values = refl
any_more says false true value values = refl
any_more says false false value values = refl

last_more : (told : Told) (field : List ℕ × List ℕ) (fields : List (List ℕ × List ℕ)) → last_rest (with_field told field) fields ≡ last_rest told (field ∷ fields)
last_more told field fields =
    any_more says_close told.last (is_name (codes "connection") field) field.1 (values_of (codes "connection") fields)
    ∙ ap (λ values. told.last || list_any says_close values) (sym (values_more (codes "connection") field fields))

expects_more : (told : Told) (field : List ℕ × List ℕ) (fields : List (List ℕ × List ℕ)) → expects_rest (with_field told field) fields ≡ expects_rest told (field ∷ fields)
expects_more told field fields =
    any_more says_continue told.expects (is_name (codes "expect") field) field.1 (values_of (codes "expect") fields)
    ∙ ap (λ values. told.expects || list_any says_continue values) (sym (values_more (codes "expect") field fields))

body_found : (told : Told) (found : Option (List ℕ × List ℕ)) (fields : List (List ℕ × List ℕ)) → body_rest (option_map_or (with_field told) found told) fields ≡ body_rest told (cons_option found fields)
body_found told None fields = refl
body_found told (Some field) fields = body_more told field fields

last_found : (told : Told) (found : Option (List ℕ × List ℕ)) (fields : List (List ℕ × List ℕ)) → last_rest (option_map_or (with_field told) found told) fields ≡ last_rest told (cons_option found fields)
last_found told None fields = refl
last_found told (Some field) fields = last_more told field fields

expects_found : (told : Told) (found : Option (List ℕ × List ℕ)) (fields : List (List ℕ × List ℕ)) → expects_rest (option_map_or (with_field told) found told) fields ≡ expects_rest told (cons_option found fields)
expects_found told None fields = refl
expects_found told (Some field) fields = expects_more told field fields

-- one line more
pub body_line : (told : Told) (line : List ℕ) (lines : List (List ℕ)) → body_rest (with_line told line) (fields_of lines) ≡ body_rest told (fields_of (line ∷ lines))
body_line told line lines = body_found told (parts_at 58 line) (fields_of lines)

pub last_line : (told : Told) (line : List ℕ) (lines : List (List ℕ)) → last_rest (with_line told line) (fields_of lines) ≡ last_rest told (fields_of (line ∷ lines))
last_line told line lines = last_found told (parts_at 58 line) (fields_of lines)

pub expects_line : (told : Told) (line : List ℕ) (lines : List (List ℕ)) → expects_rest (with_line told line) (fields_of lines) ≡ expects_rest told (fields_of (line ∷ lines))
expects_line told line lines = expects_found told (parts_at 58 line) (fields_of lines)
