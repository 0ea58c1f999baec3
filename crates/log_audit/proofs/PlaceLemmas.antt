-- Which line may stand at a place.
use Rattle.std.proofs.Common.{◌≡◌, ℕ, ◌+◌, ◌≤◌, ◌⊎◌, inl, inr, ◌==◌, ◌&&◌, Bool, true, false, not, cond, List, [], ◌∷◌, ◌++◌, Option, None, Some, length, refl, ap, sym, subst, ◌∙◌, codes, arith, take_at}
use Rattle.std.proofs.lemmas.Bool.{and_parts, and_from, leb-true, not-true, false≢true}
use Rattle.std.proofs.lemmas.List.{length-append}
use Rattle.std.proofs.lemmas.List.Elements.{All-cons, All-nil}
use Rattle.std.proofs.lemmas.List.Folds.{list_all-append}
use Rattle.std.proofs.lemmas.List.Splits.{slice_split_at, slice_split_none}
use Rattle.std.proofs.lemmas.Option.{none-some, same_Some}
use Rattle.std.proofs.lemmas.Slice.Eq.{bytes_eq-Decides}
use Rattle.std.specs.Prelude.{bytes_eq, nat_le}
use Rattle.std.specs.List.{All, AllByRecursion, list_all, slice_split}
use Rattle.listing.specs.Word.{◌>>=◌, parts_at}
use Rattle.cdni_log.specs.declared.field.Field.{Field}
use Rattle.cdni_log.specs.declared.field.Field.TheVariants as field
use Rattle.cdni_log.specs.FieldList.{are_apart, are_fields, fields_of, named, names_in}
use Rattle.cdni_log.specs.Line.{directive, line_end, tabbed}
use Rattle.log_audit.specs.declared.place.Place.{Place}
use Rattle.log_audit.specs.declared.place.Place.TheVariants as place
use Rattle.log_audit.specs.LogFile.{hash_line, is_hash, is_origin, is_uuid, names_text, record_line, urn}
use Rattle.log_audit.specs.Lines.{between, is_directive, is_record_line, is_urn, next, parts_in, records_behind, then_to, values_in}
use Rattle.log_audit.specs.Value.{are_values, has_form, is_date, is_group, is_method, is_optional, is_plain, is_record, is_seconds, is_status, is_time, is_unbroken, is_url, is_value}
use Rattle.log_audit.proofs.LineLemmas.{is_line}

same_text : (a b : List ℕ) → bytes_eq a b ≡ true → a ≡ b
same_text a b = (bytes_eq-Decides a b).0

itself : (a : List ℕ) → bytes_eq a a ≡ true
itself a = (bytes_eq-Decides a a).1 refl

-- ---- no LF before the end

abbrev no_feed : List ℕ → Bool
no_feed text = list_all (λ byte. not (byte == 10)) text

unbroken_has_none : (text : List ℕ) → is_unbroken text ≡ true → no_feed text ≡ true
unbroken_has_none [] is = refl
unbroken_has_none (byte ∷ bytes) is =
    let parts = and_parts (not (byte == 10) && not (byte == 13)) (is_unbroken bytes) is in
    let first = and_parts (not (byte == 10)) (not (byte == 13)) parts.0 in
    and_from (not (byte == 10)) (no_feed bytes) first.0 (unbroken_has_none bytes parts.1)

plain_has_none : (text : List ℕ) → is_plain text ≡ true → no_feed text ≡ true
plain_has_none [] is = refl
plain_has_none (byte ∷ bytes) is =
    let parts = and_parts (not (byte == 9) && not (byte == 10) && not (byte == 13)) (is_plain bytes) is in
    let first = and_parts (not (byte == 9) && not (byte == 10)) (not (byte == 13)) parts.0 in
    let second = and_parts (not (byte == 9)) (not (byte == 10)) first.0 in
    and_from (not (byte == 10)) (no_feed bytes) second.1 (plain_has_none bytes parts.1)

line_ends : (text : List ℕ) → no_feed text ≡ true → is_line (text ++ 13 ∷ 10 ∷ []) ≡ true
line_ends [] is = refl
line_ends (byte ∷ bytes) is =
    let parts = and_parts (not (byte == 10)) (no_feed bytes) is in
    rw (not-true (byte == 10) parts.0) (line_ends bytes parts.1)

-- ---- values of directives

back_version : (value : List ℕ) → between 10 2 (directive (codes "version") value) ≡ value
unfolding directive
back_version value = take_at value (13 ∷ 10 ∷ []) _ (omega (arith, length-append value (13 ∷ 10 ∷ [])))

back_uuid : (value : List ℕ) → between 7 2 (directive (codes "UUID") value) ≡ value
unfolding directive
back_uuid value = take_at value (13 ∷ 10 ∷ []) _ (omega (arith, length-append value (13 ∷ 10 ∷ [])))

back_origin : (value : List ℕ) → between 17 2 (directive (codes "claimed-origin") value) ≡ value
unfolding directive
back_origin value = take_at value (13 ∷ 10 ∷ []) _ (omega (arith, length-append value (13 ∷ 10 ∷ [])))

back_kind : (value : List ℕ) → between 14 2 (directive (codes "record-type") value) ≡ value
unfolding directive
back_kind value = take_at value (13 ∷ 10 ∷ []) _ (omega (arith, length-append value (13 ∷ 10 ∷ [])))

back_fields : (value : List ℕ) → between 9 2 (directive (codes "fields") value) ≡ value
unfolding directive
back_fields value = take_at value (13 ∷ 10 ∷ []) _ (omega (arith, length-append value (13 ∷ 10 ∷ [])))

back_hash : (value : List ℕ) → between 14 2 (directive (codes "SHA256-hash") value) ≡ value
unfolding directive
back_hash value = take_at value (13 ∷ 10 ∷ []) _ (omega (arith, length-append value (13 ∷ 10 ∷ [])))

back_urn : (uuid : List ℕ) → between 10 1 (urn uuid) ≡ uuid
back_urn uuid = take_at uuid (34 ∷ []) _ (omega (arith, length-append uuid (34 ∷ [])))

-- ---- what an accepted line is

then_true : (t : Bool) (p q : Place) → then_to p t ≡ Some q → (t ≡ true) × (p ≡ q)
then_true true p q is = (refl, same_Some p q is)
then_true false p q is = absurd (none-some q is)

formed : (name : List ℕ) (form : List ℕ → Bool) (line : List ℕ) → is_directive name form line ≡ true → (form (between (length name + 3) 2 line) ≡ true) × (line ≡ directive name (between (length name + 3) 2 line))
formed name form line is =
    let parts = and_parts (form (between (length name + 3) 2 line)) _ is in
    (parts.0, same_text line _ parts.1)

pub told_version : (line : List ℕ) (after : Place) → next place.Version line ≡ Some after → (line ≡ directive (codes "version") (codes "cdni/1.0")) × (place.Uuid ≡ after)
unfolding next
told_version line after is =
    let t = then_true _ place.Uuid after is in
    let f = formed (codes "version") (bytes_eq (codes "cdni/1.0")) line t.0 in
    (f.1 ∙ ap (directive (codes "version")) (sym (same_text (codes "cdni/1.0") _ f.0)), t.1)

pub told_uuid : (line : List ℕ) (after : Place) → next place.Uuid line ≡ Some after → (uuid : List ℕ) × (line ≡ directive (codes "UUID") (urn uuid)) × (is_uuid uuid ≡ true) × (place.Origin ≡ after)
unfolding next
told_uuid line after is =
    let t = then_true _ place.Origin after is in
    let f = formed (codes "UUID") is_urn line t.0 in
    let value = between 7 2 line in
    let u = and_parts (is_uuid (between 10 1 value)) _ f.0 in
    (between 10 1 value, f.1 ∙ ap (directive (codes "UUID")) (same_text value _ u.1), u.0, t.1)

pub told_origin : (line : List ℕ) (after : Place) → next place.Origin line ≡ Some after → (origin : List ℕ) × (line ≡ directive (codes "claimed-origin") origin) × (is_origin origin ≡ true) × (place.Kind ≡ after)
unfolding next
told_origin line after is =
    let t = then_true _ place.Kind after is in
    let f = formed (codes "claimed-origin") is_origin line t.0 in
    (between 17 2 line, f.1, f.0, t.1)

pub told_kind : (line : List ℕ) (after : Place) → next place.Kind line ≡ Some after → (line ≡ directive (codes "record-type") (codes "cdni_http_request_v1")) × (place.Fields ≡ after)
unfolding next
told_kind line after is =
    let t = then_true _ place.Fields after is in
    let f = formed (codes "record-type") (bytes_eq (codes "cdni_http_request_v1")) line t.0 in
    (f.1 ∙ ap (directive (codes "record-type")) (sym (same_text (codes "cdni_http_request_v1") _ f.0)), t.1)

abbrev pub NamesFields : List ℕ → Place → Type 0
NamesFields line after = (fields : List Field) × (line ≡ directive (codes "fields") (names_text fields)) × (is_unbroken (names_text fields) ≡ true) × (fields_of 9 (names_text fields) ≡ Some fields) × (place.Records fields ≡ after)

pub told_fields : (line : List ℕ) (after : Place) → next place.Fields line ≡ Some after → NamesFields line after
unfolding next
told_fields line after is = by (fields_of 9 (between 9 2 line)) refl is
  where
    by : (found : Option (List Field)) → fields_of 9 (between 9 2 line) ≡ found → records_behind line found ≡ Some after → NamesFields line after
    by None e some = absurd (none-some after some)
    by (Some fields) e some =
        let t = then_true _ (place.Records fields) after some in
        let parts = and_parts (is_unbroken (names_text fields)) _ t.0 in
        let printed = same_text line _ parts.1 in
        (fields, printed, parts.0, ap (fields_of 9) (sym (ap (between 9 2) printed ∙ back_fields (names_text fields))) ∙ e, t.1)

abbrev pub IsRecordOf : List Field → List ℕ → Place → Type 0
IsRecordOf fields line after = (is_record fields (values_in line) ≡ true) × (line ≡ record_line (values_in line)) × (place.Records fields ≡ after)

abbrev pub IsHashOf : List ℕ → Place → Type 0
IsHashOf line after = (hash : List ℕ) × (line ≡ hash_line hash) × (is_hash hash ≡ true) × (place.End ≡ after)

pub told_record : (fields : List Field) (line : List ℕ) (after : Place) → next (place.Records fields) line ≡ Some after → IsRecordOf fields line after ⊎ IsHashOf line after
unfolding next
told_record fields line after is = by (is_record_line fields line) refl is
  where
    by : (t : Bool) → is_record_line fields line ≡ t → cond t (Some (place.Records fields)) (then_to place.End (is_directive (codes "SHA256-hash") is_hash line)) ≡ Some after → IsRecordOf fields line after ⊎ IsHashOf line after
    by true e some =
        let parts = and_parts (is_record fields (values_in line)) _ e in
        inl (parts.0, same_text line _ parts.1, same_Some _ after some)
    by false e some =
        let t = then_true _ place.End after some in
        let f = formed (codes "SHA256-hash") is_hash line t.0 in
        inr (between 14 2 line, f.1, f.0, t.1)

pub told_end : (line : List ℕ) (after : Place) → next place.End line ≡ Some after → ⊥
unfolding next
told_end line after is = none-some after is

-- ---- each is one line

abbrev pub ArePlain : List (List ℕ) → Type 0
ArePlain values = AllByRecursion (λ value. is_plain value ≡ true) values

pub record_plain : (fields : List Field) (values : List (List ℕ)) → are_values fields values ≡ true → ArePlain values
record_plain [] [] is = tt
record_plain [] (value ∷ values) is = absurd (false≢true is)
record_plain (column ∷ fields) [] is = absurd (false≢true is)
record_plain (column ∷ fields) (value ∷ values) is =
    let parts = and_parts (is_value column value) (are_values fields values) is in
    ((and_parts (is_plain value) (has_form column value) parts.0).0, record_plain fields values parts.1)

tabbed_has_none : (values : List (List ℕ)) → ArePlain values → no_feed (tabbed values) ≡ true
tabbed_has_none [] all = refl
tabbed_has_none (value ∷ []) all = plain_has_none value all.0
tabbed_has_none (value ∷ other ∷ values) all =
    list_all-append (λ byte. not (byte == 10)) value (9 ∷ tabbed (other ∷ values)) ∙ and_from (no_feed value) (no_feed (tabbed (other ∷ values))) (plain_has_none value all.0) (tabbed_has_none (other ∷ values) all.1)

urn_unbroken : (uuid : List ℕ) → is_uuid uuid ≡ true → is_unbroken (urn uuid) ≡ true
unfolding is_uuid
urn_unbroken uuid is =
    let first = and_parts _ _ (and_parts _ _ (and_parts _ _ (and_parts _ _ is).0).0).0 in
    list_all-append (λ byte. not (byte == 10) && not (byte == 13)) uuid (34 ∷ []) ∙ and_from (is_unbroken uuid) true first.0 refl

origin_unbroken : (origin : List ℕ) → is_origin origin ≡ true → is_unbroken origin ≡ true
unfolding is_origin
origin_unbroken origin is = (and_parts (is_unbroken origin) _ (and_parts _ _ is).0).0

hash_unbroken : (hash : List ℕ) → is_hash hash ≡ true → is_unbroken hash ≡ true
unfolding is_hash
hash_unbroken hash is = (and_parts (is_unbroken hash) _ (and_parts _ _ is).0).0

pub record_values : (fields : List Field) (values : List (List ℕ)) → is_record fields values ≡ true → are_values fields values ≡ true
unfolding is_record
record_values fields values is = (and_parts (are_values fields values) _ is).0

-- a line that may stand at its place is ended
pub next_line : (at after : Place) (line : List ℕ) → next at line ≡ Some after → is_line line ≡ true
unfolding directive
next_line place.Version after line is = ap is_line (told_version line after is).0
next_line place.Uuid after line is =
    let t = told_uuid line after is in
    ap is_line t.1 ∙ line_ends (urn t.0) (unbroken_has_none (urn t.0) (urn_unbroken t.0 t.2))
next_line place.Origin after line is =
    let t = told_origin line after is in
    ap is_line t.1 ∙ line_ends t.0 (unbroken_has_none t.0 (origin_unbroken t.0 t.2))
next_line place.Kind after line is = ap is_line (told_kind line after is).0
next_line place.Fields after line is =
    let t = told_fields line after is in
    ap is_line t.1 ∙ line_ends (names_text t.0) (unbroken_has_none (names_text t.0) t.2)
next_line (place.Records fields) after line is = by (told_record fields line after is)
  where
    by : IsRecordOf fields line after ⊎ IsHashOf line after → is_line line ≡ true
    by (inl t) = ap is_line t.1 ∙ line_ends (tabbed (values_in line)) (tabbed_has_none (values_in line) (record_plain fields (values_in line) (record_values fields (values_in line) t.0)))
    by (inr t) = ap is_line t.1 ∙ line_ends t.0 (unbroken_has_none t.0 (hash_unbroken t.0 t.2))
next_line place.End after line is = absurd (told_end line after is)

-- ---- what is printed may stand

stands : (name : List ℕ) (form : List ℕ → Bool) (value : List ℕ) → between (length name + 3) 2 (directive name value) ≡ value → form value ≡ true → is_directive name form (directive name value) ≡ true
stands name form value back is =
    and_from _ _ (ap form back ∙ is) (ap (λ v. bytes_eq (directive name value) (directive name v)) back ∙ itself (directive name value))

pub stand_version : next place.Version (directive (codes "version") (codes "cdni/1.0")) ≡ Some place.Uuid
unfolding next
stand_version = ap (then_to place.Uuid) (stands (codes "version") (bytes_eq (codes "cdni/1.0")) (codes "cdni/1.0") (back_version (codes "cdni/1.0")) refl)

pub stand_uuid : (uuid : List ℕ) → is_uuid uuid ≡ true → next place.Uuid (directive (codes "UUID") (urn uuid)) ≡ Some place.Origin
unfolding next
stand_uuid uuid is =
    let urn_is : is_urn (urn uuid) ≡ true = and_from _ _ (ap is_uuid (back_urn uuid) ∙ is) (ap (λ u. bytes_eq (urn uuid) (urn u)) (back_urn uuid) ∙ itself (urn uuid)) in
    ap (then_to place.Origin) (stands (codes "UUID") is_urn (urn uuid) (back_uuid (urn uuid)) urn_is)

pub stand_origin : (origin : List ℕ) → is_origin origin ≡ true → next place.Origin (directive (codes "claimed-origin") origin) ≡ Some place.Kind
unfolding next
stand_origin origin is = ap (then_to place.Kind) (stands (codes "claimed-origin") is_origin origin (back_origin origin) is)

pub stand_kind : next place.Kind (directive (codes "record-type") (codes "cdni_http_request_v1")) ≡ Some place.Fields
unfolding next
stand_kind = ap (then_to place.Fields) (stands (codes "record-type") (bytes_eq (codes "cdni_http_request_v1")) (codes "cdni_http_request_v1") (back_kind (codes "cdni_http_request_v1")) refl)

pub stand_fields : (fields : List Field) → is_unbroken (names_text fields) ≡ true → fields_of 9 (names_text fields) ≡ Some fields → next place.Fields (directive (codes "fields") (names_text fields)) ≡ Some (place.Records fields)
unfolding next
stand_fields fields unbroken is =
    let line = directive (codes "fields") (names_text fields) in
    ap (records_behind line) (ap (fields_of 9) (back_fields (names_text fields)) ∙ is) ∙ ap (then_to (place.Records fields)) (and_from (is_unbroken (names_text fields)) _ unbroken (itself line))

-- ---- records and the hash

-- plain values are cut apart again at the tabs between them
all_but_tab : (value : List ℕ) → is_plain value ≡ true → All (λ byte. (byte == 9) ≡ false) value
all_but_tab [] is = All-nil (λ byte. (byte == 9) ≡ false)
all_but_tab (byte ∷ bytes) is =
    let parts = and_parts (not (byte == 9) && not (byte == 10) && not (byte == 13)) (is_plain bytes) is in
    let first = and_parts (not (byte == 9) && not (byte == 10)) (not (byte == 13)) parts.0 in
    All-cons (λ b. (b == 9) ≡ false) byte bytes (not-true (byte == 9) (and_parts (not (byte == 9)) (not (byte == 10)) first.0).0) (all_but_tab bytes parts.1)

split_tabbed : (value : List ℕ) (values : List (List ℕ)) → ArePlain (value ∷ values) → slice_split (λ byte. byte == 9) (tabbed (value ∷ values)) ≡ value ∷ values
split_tabbed value [] all = slice_split_none (λ byte. byte == 9) value (all_but_tab value all.0)
split_tabbed value (other ∷ values) all =
    slice_split_at (λ byte. byte == 9) value 9 (tabbed (other ∷ values)) (all_but_tab value all.0) refl ∙ ap (λ l. value ∷ l) (split_tabbed other values all.1)

back_record : (text : List ℕ) → between 0 2 (text ++ line_end) ≡ text
back_record text = take_at text (13 ∷ 10 ∷ []) _ (omega (arith, length-append text (13 ∷ 10 ∷ [])))

values_back : (value : List ℕ) (values : List (List ℕ)) → ArePlain (value ∷ values) → values_in (record_line (value ∷ values)) ≡ value ∷ values
values_back value values all = ap (slice_split (λ byte. byte == 9)) (back_record (tabbed (value ∷ values))) ∙ split_tabbed value values all

is_line_of : (fields : List Field) (values : List (List ℕ)) → values_in (record_line values) ≡ values → is_record fields values ≡ true → is_record_line fields (record_line values) ≡ true
is_line_of fields values back is = and_from _ _ (ap (is_record fields) back ∙ is) (ap (λ v. bytes_eq (record_line values) (record_line v)) back ∙ itself (record_line values))

-- no field's value is the beginning of the hash's line
no_value : (column : Field) → is_value column (codes "#SHA256-hash:") ≡ false
unfolding has_form parts_at is_date is_time is_seconds is_group is_method is_url is_status is_optional
no_value field.Date = refl
no_value field.Time = refl
no_value field.TimeTaken = refl
no_value field.GroupId = refl
no_value field.Method = refl
no_value field.CsUri = refl
no_value field.UUri = refl
no_value field.Protocol = refl
no_value field.Status = refl
no_value field.TotalBytes = refl
no_value field.EntityBytes = refl
no_value field.Ccid = refl
no_value field.Cached = refl
no_value (field.Header header) = refl

abbrev hash_front : List ℕ
hash_front = codes "#SHA256-hash:"

-- the values of the hash's line, if it were a record
hash_values : (hash : List ℕ) → values_in (hash_line hash) ≡ hash_front ∷ slice_split (λ byte. byte == 9) hash
unfolding directive
hash_values hash = ap (slice_split (λ byte. byte == 9)) (take_at (hash_front ++ 9 ∷ hash) (13 ∷ 10 ∷ []) _ (omega (arith, length-append hash (13 ∷ 10 ∷ []))))

no_values : (fields : List Field) (values : List (List ℕ)) → are_values fields (hash_front ∷ values) ≡ false
no_values [] values = refl
no_values (column ∷ fields) values = rw (no_value column) refl

no_record : (fields : List Field) (hash : List ℕ) → is_record_line fields (hash_line hash) ≡ false
unfolding is_record
no_record fields hash = rw (ap (are_values fields) (hash_values hash) ∙ no_values fields (slice_split (λ byte. byte == 9) hash)) refl

pub stand_hash : (fields : List Field) (hash : List ℕ) → is_hash hash ≡ true → next (place.Records fields) (hash_line hash) ≡ Some place.End
unfolding next
stand_hash fields hash is =
    ap (λ t. cond t (Some (place.Records fields)) (then_to place.End (is_directive (codes "SHA256-hash") is_hash (hash_line hash)))) (no_record fields hash)
    ∙ ap (then_to place.End) (stands (codes "SHA256-hash") is_hash hash (back_hash hash) is)

-- some fields have some values
some_values : (fields : List Field) (values : List (List ℕ)) → 1 ≤ length fields → are_values fields values ≡ true → values_in (record_line values) ≡ values
some_values [] values some is = absurd (omega (arith, some))
some_values (column ∷ fields) [] some is = absurd (false≢true is)
some_values (column ∷ fields) (value ∷ values) some is = values_back value values (record_plain (column ∷ fields) (value ∷ values) is)

pub stand_record : (fields : List Field) (values : List (List ℕ)) → 1 ≤ length fields → is_record fields values ≡ true → next (place.Records fields) (record_line values) ≡ Some (place.Records fields)
unfolding next
stand_record fields values some is =
    ap (λ t. cond t (Some (place.Records fields)) (then_to place.End (is_directive (codes "SHA256-hash") is_hash (record_line values)))) (is_line_of fields values (some_values fields values some (record_values fields values is)) is)

-- fields that a text names are some
fields_by : (columns fields : List Field) (t : Bool) → are_fields columns ≡ t → cond t (Some columns) None ≡ Some fields → are_fields fields ≡ true
fields_by columns fields true is some = subst (λ (l : List Field). are_fields l ≡ true) (same_Some columns fields some) is
fields_by columns fields false is some = absurd (none-some fields some)

fields_well : (text : List ℕ) (fields : List Field) → fields_of 9 text ≡ Some fields → are_fields fields ≡ true
unfolding fields_of
fields_well text fields is = by (named (names_in 9 (Some text))) is
  where
    by : (found : Option (List Field)) → (found >>= (λ columns. cond (are_fields columns) (Some columns) None)) ≡ Some fields → are_fields fields ≡ true
    by None some = absurd (none-some fields some)
    by (Some columns) some = fields_by columns fields (are_fields columns) refl some

pub some_fields : (text : List ℕ) (fields : List Field) → fields_of 9 text ≡ Some fields → 1 ≤ length fields
unfolding are_fields
some_fields text fields is =
    leb-true 1 (length fields) (and_parts (nat_le 1 (length fields)) _ (and_parts _ _ (and_parts _ _ (fields_well text fields is)).0).0).0

pub fields_apart : (text : List ℕ) (fields : List Field) → fields_of 9 text ≡ Some fields → are_apart fields ≡ true
unfolding are_fields
fields_apart text fields is = (and_parts _ (are_apart fields) (fields_well text fields is)).1

-- the values of a record are cut apart again
pub tabbed_back : (fields : List Field) (values : List (List ℕ)) → 1 ≤ length fields → is_record fields values ≡ true → parts_in (Some (tabbed values)) ≡ values
tabbed_back [] values some is = absurd (omega (arith, some))
tabbed_back (column ∷ fields) [] some is = absurd (false≢true (record_values (column ∷ fields) [] is))
tabbed_back (column ∷ fields) (value ∷ values) some is = split_tabbed value values (record_plain (column ∷ fields) (value ∷ values) (record_values (column ∷ fields) (value ∷ values) is))
