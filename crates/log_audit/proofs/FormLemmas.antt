-- A value of each form is what the standards say.
use Rattle.std.proofs.Common.{◌≡◌, ℕ, ◌+◌, ◌-◌, ◌<◌, ◌≤◌, ◌^◌, inl, inr, ⊎_elim, ◌==◌, ◌&&◌, true, false, List, ◌∷◌, ◌++◌, Option, None, Some, length, take, drop, refl, ap, sym, ◌∙◌, codes, decimal, is_some, take-append-drop, arith, position, get_or}
use Rattle.std.proofs.lemmas.Bool.{and_parts, eqb-true, leb-true, ltb-true, or_cases, false≢true}
use Rattle.std.proofs.lemmas.List.{drop-drop, drop_more}
use Rattle.std.proofs.lemmas.List.Quantifiers.{position-Some}
use Rattle.std.proofs.lemmas.Option.{none-some, some_pair_parts}
use Rattle.std.proofs.lemmas.Slice.Eq.{bytes_eq-Decides}
use Rattle.std.specs.Prelude.{bytes_eq, nat_le, nat_lt, slice_index, slice_range}
use Rattle.std.specs.Option.{option_map, option_map_or}
use Rattle.listing.specs.Number.{number_of}
use Rattle.listing.specs.Word.{parts_at}
use Rattle.listing.proofs.Decimals.{some_decimal}
use Rattle.log_audit.proofs.UrlLemmas.{url_is}
use Rattle.cdni_log.specs.Columns.{undoubled}
use Rattle.cdni_log.specs.Date.{clock_text, date_text, three_digits}
use Rattle.cdni_log.specs.Line.{quoted}
use Rattle.cdni_log.specs.declared.field.Field.{Field}
use Rattle.cdni_log.specs.declared.field.Field.TheVariants as field
use Rattle.log_audit.specs.Forms.{AreThreeDigits, IsDateText, IsGroupText, IsNumberText, IsOptionalText, IsSecondsText, IsTimeText, IsValueOf}
use Rattle.log_audit.specs.Value.{are_three_digits, date_in, digits_of, has_form, is_date, is_date_of_years, is_group, is_method, is_number, is_optional, is_seconds, is_status, is_time, second_in}

same_text : (a b : List ℕ) → bytes_eq a b ≡ true → a ≡ b
same_text a b = (bytes_eq-Decides a b).0

date_is : (text : List ℕ) → is_date text ≡ true → IsDateText text
unfolding is_date
date_is text is =
    let both = and_parts (is_date_of_years (date_in text)) _ is in
    let e = and_parts _ _ both.0 in
    let d = and_parts _ _ e.0 in
    let c = and_parts _ _ d.0 in
    let b = and_parts _ _ c.0 in
    let a = and_parts _ _ b.0 in
    (date_in text, same_text text (date_text (date_in text)) both.1, ((leb-true _ _ a.0, leb-true _ _ a.1), (leb-true _ _ b.1, leb-true _ _ c.1), (leb-true _ _ d.1, leb-true _ _ e.1)))

time_is : (text : List ℕ) → is_time text ≡ true → IsTimeText text
unfolding is_time
time_is text is =
    let both = and_parts _ (bytes_eq text (clock_text (second_in text) ++ 46 ∷ three_digits (digits_of (slice_range text 9 12)))) is in
    let first = and_parts (nat_lt (second_in text) 86400) (nat_lt (digits_of (slice_range text 9 12)) 1000) both.0 in
    (second_in text, digits_of (slice_range text 9 12), same_text _ _ both.1, ltb-true (second_in text) 86400 first.0, ltb-true (digits_of (slice_range text 9 12)) 1000 first.1)

number_by : (text : List ℕ) (read : Option ℕ) → read ≡ number_of text → is_some read ≡ true → IsNumberText text
number_by text None e is = absurd (false≢true is)
number_by text (Some n) e is = (n, some_decimal text (Some n) e)

number_is : (text : List ℕ) → is_number text ≡ true → IsNumberText text
number_is text is = number_by text (number_of text) refl is

three_is : (text : List ℕ) → are_three_digits text ≡ true → AreThreeDigits text
three_is text is = let parts = and_parts (length text == 3) _ is in (eqb-true (length text) 3 parts.0, parts.1)

-- what stands before the first such byte, and behind it
abbrev parts_by : List ℕ → Option ℕ → Option (List ℕ × List ℕ)
parts_by text found = option_map (λ place. (take place text, drop (place + 1) text)) found

cut_is : (text before behind : List ℕ) → parts_at 46 text ≡ Some (before, behind) → text ≡ before ++ 46 ∷ behind
unfolding parts_at
cut_is text before behind is = by (position (λ x. x == 46) text) refl is
  where
    by : (found : Option ℕ) → position (λ x. x == 46) text ≡ found → parts_by text found ≡ Some (before, behind) → text ≡ before ++ 46 ∷ behind
    by None at whole = absurd (none-some (before, behind) whole)
    by (Some place) at whole =
        let p = some_pair_parts (take place text) before (drop (place + 1) text) behind whole in
        let here = position-Some (λ x. x == 46) text place 0 at in
        let point : get_or text place 0 ≡ 46 = eqb-true (get_or text place 0) 46 here.1 in
        sym (take-append-drop place text) ∙ ap (λ rest. take place text ++ rest) (drop_more text place 0 here.0)
        ∙ ap (λ x. take place text ++ x ∷ drop (place + 1) text) point ∙ ap (λ t. t ++ 46 ∷ drop (place + 1) text) p.0 ∙ ap (λ t. before ++ 46 ∷ t) p.1

seconds_by : (text : List ℕ) (parts : Option (List ℕ × List ℕ)) → parts_at 46 text ≡ parts → option_map_or (λ p. is_number p.0 && are_three_digits p.1) parts false ≡ true → IsSecondsText text
seconds_by text None e is = absurd (false≢true is)
seconds_by text (Some (whole, decimals)) e is =
    let both = and_parts (is_number whole) (are_three_digits decimals) is in
    let n = number_is whole both.0 in
    (n.0, decimals, cut_is text whole decimals e ∙ ap (λ t. t ++ 46 ∷ decimals) n.1, three_is decimals both.1)

seconds_is : (text : List ℕ) → is_seconds text ≡ true → IsSecondsText text
unfolding is_seconds
seconds_is text is = seconds_by text (parts_at 46 text) refl is

group_by : (digits : List ℕ) (read : Option ℕ) → read ≡ number_of digits → option_map_or (λ n. nat_lt n (2 ^ 32)) read false ≡ true → (n : ℕ) × (digits ≡ decimal n) × (n < 2 ^ 32)
group_by digits None e is = absurd (false≢true is)
group_by digits (Some n) e is = (n, some_decimal digits (Some n) e, ltb-true n (2 ^ 32) is)

group_is : (text : List ℕ) → is_group text ≡ true → IsGroupText text
unfolding is_group
group_is text is = ⊎_elim (λ none. inl (same_text text (codes "-") none)) (λ some. inr (numbered some)) (or_cases (bytes_eq text (codes "-")) _ is)
  where
    numbered : (bytes_eq (take 2 text) (codes "as") && option_map_or (λ n. nat_lt n (2 ^ 32)) (number_of (drop 2 text)) false) ≡ true → (n : ℕ) × (text ≡ codes "as" ++ decimal n) × (n < 2 ^ 32)
    numbered some =
        let both = and_parts (bytes_eq (take 2 text) (codes "as")) _ some in
        let n = group_by (drop 2 text) (number_of (drop 2 text)) refl both.1 in
        (n.0, sym (take-append-drop 2 text) ∙ (ap (λ t. t ++ drop 2 text) (same_text (take 2 text) (codes "as") both.0) ∙ ap (λ t. codes "as" ++ t) n.1), n.2)

value_by : (inner text : List ℕ) (read : Option (List ℕ)) → text ≡ quoted inner → undoubled false inner ≡ read → is_some read ≡ true → IsOptionalText text
value_by inner text None q e is = absurd (false≢true is)
value_by inner text (Some value) q e is = (Some value, (inner, q, e))

-- a text of this form is `"`, what is between, and `"`
quoted_is : (text : List ℕ) → 2 ≤ length text → take 1 text ≡ codes "\"" → drop (length text - 1) text ≡ codes "\"" → text ≡ quoted (slice_range text 1 (length text - 1))
quoted_is text long front back =
    let middle = length text - 1 - 1 in
    let behind : drop 1 text ≡ take middle (drop 1 text) ++ codes "\"" = sym (take-append-drop middle (drop 1 text)) ∙ ap (λ t. take middle (drop 1 text) ++ t) (drop-drop middle 1 text ∙ (ap (λ n. drop n text) (omega (arith, long)) ∙ back)) in
    sym (take-append-drop 1 text) ∙ (ap (λ t. t ++ drop 1 text) front ∙ ap (λ t. codes "\"" ++ t) behind)

optional_is : (text : List ℕ) → is_optional text ≡ true → IsOptionalText text
unfolding is_optional
optional_is text is = ⊎_elim (λ none. (None, same_text text (codes "-") none)) some (or_cases (bytes_eq text (codes "-")) _ is)
  where
    some : (nat_le 2 (length text) && bytes_eq (take 1 text) (codes "\"") && bytes_eq (drop (length text - 1) text) (codes "\"") && is_some (undoubled false (slice_range text 1 (length text - 1)))) ≡ true → IsOptionalText text
    some all =
        let third = and_parts _ (is_some (undoubled false (slice_range text 1 (length text - 1)))) all in
        let second = and_parts _ (bytes_eq (drop (length text - 1) text) (codes "\"")) third.0 in
        let first = and_parts (nat_le 2 (length text)) (bytes_eq (take 1 text) (codes "\"")) second.0 in
        let inner = slice_range text 1 (length text - 1) in
        value_by inner text (undoubled false inner) (quoted_is text (leb-true 2 (length text) first.0) (same_text _ _ first.1) (same_text _ _ second.1)) refl third.1

-- a value of a field's form is a value of the field
pub form_is : (column : Field) (text : List ℕ) → has_form column text ≡ true → IsValueOf column text
unfolding has_form is_method is_status
form_is field.Date text is = date_is text is
form_is field.Time text is = time_is text is
form_is field.TimeTaken text is = seconds_is text is
form_is field.GroupId text is = group_is text is
form_is field.Method text is = let parts = and_parts (nat_lt 0 (length text)) _ is in (ltb-true 0 (length text) parts.0, parts.1)
form_is field.CsUri text is = url_is text is
form_is field.UUri text is = url_is text is
form_is field.Protocol text is = same_text text (codes "HTTP/1.1") is
form_is field.Status text is = let parts = and_parts (are_three_digits text) _ is in (three_is text parts.0, leb-true 49 (slice_index text 0) parts.1)
form_is field.TotalBytes text is = number_is text is
form_is field.EntityBytes text is = number_is text is
form_is field.Ccid text is = optional_is text is
form_is field.Cached text is = ⊎_elim (λ zero. inl (same_text text (codes "0") zero)) (λ one. inr (same_text text (codes "1") one)) (or_cases (bytes_eq text (codes "0")) _ is)
form_is (field.Header header) text is = optional_is text is
