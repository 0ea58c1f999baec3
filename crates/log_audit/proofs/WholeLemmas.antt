-- Log files and walks to the end.
use Rattle.std.proofs.Common.{◌≡◌, ℕ, ◌≤◌, ◌⊎◌, inl, inr, true, false, List, [], ◌∷◌, ◌++◌, Some, length, map, refl, ap, sym, subst, ◌∙◌, codes, append-nil, append_assoc}
use Rattle.std.proofs.lemmas.Bool.{false≢true}
use Rattle.std.proofs.lemmas.Option.{same_Some}
use Rattle.std.specs.List.{AllByRecursion, concat, flat_map}
use Rattle.cdni_log.specs.declared.field.Field.{Field}
use Rattle.cdni_log.specs.declared.field.Field.TheVariants as field
use Rattle.cdni_log.specs.Field.{field_name, plain_field}
use Rattle.cdni_log.specs.FieldList.{are_fields, fields_of}
use Rattle.targets.specs.Endpoint.{host_length}
use Rattle.cdni_log.specs.Line.{directive}
use Rattle.log_audit.specs.declared.place.Place.{Place}
use Rattle.log_audit.specs.declared.place.Place.TheVariants as place
use Rattle.log_audit.specs.Lines.{is_end, lines_of, next, values_in}
use Rattle.log_audit.specs.LogFile.{hash_line, is_hash, is_origin, is_uuid, names_text, hashed_text, print, record_line, urn, LogFile, IsLogFile, IsWell}
use Rattle.log_audit.specs.Value.{is_record, is_unbroken}
use Rattle.log_audit.proofs.LineLemmas.{cut_lines, joined}
use Rattle.log_audit.proofs.PlaceLemmas.{IsHashOf, IsRecordOf, NamesFields, some_fields, stand_fields, stand_hash, stand_kind, stand_origin, stand_record, stand_uuid, stand_version, told_end, told_fields, told_kind, told_origin, told_record, told_uuid, told_version}
use Rattle.log_audit.proofs.WalkLemmas.{gone, walk, walked_lines}

-- one line more in front
step : (at after : Place) (line : List ℕ) (lines : List (List ℕ)) → next at line ≡ Some after → walk after lines ≡ Some place.End → walk at (line ∷ lines) ≡ Some place.End
step at after line lines stands leads = rw stands leads

-- ---- a file as lines

abbrev pub record_lines : LogFile → List (List ℕ)
record_lines file = map record_line file.records ++ hash_line file.hash ∷ []

abbrev pub from_fields : LogFile → List (List ℕ)
from_fields file = directive (codes "fields") (names_text file.fields) ∷ record_lines file

abbrev pub from_kind : LogFile → List (List ℕ)
from_kind file = directive (codes "record-type") (codes "cdni_http_request_v1") ∷ from_fields file

abbrev pub from_origin : LogFile → List (List ℕ)
from_origin file = directive (codes "claimed-origin") file.origin ∷ from_kind file

abbrev pub from_uuid : LogFile → List (List ℕ)
from_uuid file = directive (codes "UUID") (urn file.uuid) ∷ from_origin file

abbrev pub file_lines : LogFile → List (List ℕ)
file_lines file = directive (codes "version") (codes "cdni/1.0") ∷ from_uuid file

records_joined : (records : List (List (List ℕ))) (last : List ℕ) → concat (map record_line records ++ last ∷ []) ≡ flat_map record_line records ++ last
records_joined [] last = append-nil last
records_joined (values ∷ records) last =
    ap (λ t. record_line values ++ t) (records_joined records last) ∙ sym (append_assoc (record_line values) (flat_map record_line records) last)

five : (a b c d e x y : List ℕ) → x ≡ y → a ++ (b ++ (c ++ (d ++ (e ++ x)))) ≡ a ++ (b ++ (c ++ (d ++ (e ++ y))))
five a b c d e x y same = ap (λ t. a ++ (b ++ (c ++ (d ++ (e ++ t))))) same

in_front : (a b c d e records hash : List ℕ) → (a ++ (b ++ (c ++ (d ++ (e ++ records))))) ++ hash ≡ a ++ (b ++ (c ++ (d ++ (e ++ (records ++ hash)))))
in_front a b c d e records hash = simp append_assoc

print_joined : (file : LogFile) → concat (file_lines file) ≡ print file
unfolding hashed_text
print_joined file =
    five (directive (codes "version") (codes "cdni/1.0")) (directive (codes "UUID") (urn file.uuid)) (directive (codes "claimed-origin") file.origin) (directive (codes "record-type") (codes "cdni_http_request_v1"))
    (directive (codes "fields") (names_text file.fields)) (concat (record_lines file)) (flat_map record_line file.records ++ hash_line file.hash) (records_joined file.records (hash_line file.hash))
    ∙ sym (in_front (directive (codes "version") (codes "cdni/1.0")) (directive (codes "UUID") (urn file.uuid)) (directive (codes "claimed-origin") file.origin) (directive (codes "record-type") (codes "cdni_http_request_v1"))
    (directive (codes "fields") (names_text file.fields)) (flat_map record_line file.records) (hash_line file.hash))

records_walk : (fields : List Field) (records : List (List (List ℕ))) (hash : List ℕ) → 1 ≤ length fields → AllByRecursion (λ values. is_record fields values ≡ true) records → is_hash hash ≡ true → walk (place.Records fields) (map record_line records ++ hash_line hash ∷ []) ≡ Some place.End
records_walk fields [] hash some all is = step (place.Records fields) place.End (hash_line hash) [] (stand_hash fields hash is) refl
records_walk fields (values ∷ records) hash some all is =
    step (place.Records fields) (place.Records fields) (record_line values) (map record_line records ++ hash_line hash ∷ []) (stand_record fields values some all.0) (records_walk fields records hash some all.1 is)

fields_walk : (file : LogFile) → IsWell file → walk place.Fields (from_fields file) ≡ Some place.End
fields_walk file well =
    step place.Fields (place.Records file.fields) (directive (codes "fields") (names_text file.fields)) (record_lines file) (stand_fields file.fields well.names well.fields)
    (records_walk file.fields file.records file.hash (some_fields (names_text file.fields) file.fields well.fields) well.records well.hash)

kind_walk : (file : LogFile) → IsWell file → walk place.Kind (from_kind file) ≡ Some place.End
kind_walk file well = step place.Kind place.Fields (directive (codes "record-type") (codes "cdni_http_request_v1")) (from_fields file) stand_kind (fields_walk file well)

origin_walk : (file : LogFile) → IsWell file → walk place.Origin (from_origin file) ≡ Some place.End
origin_walk file well = step place.Origin place.Kind (directive (codes "claimed-origin") file.origin) (from_kind file) (stand_origin file.origin well.origin) (kind_walk file well)

uuid_walk : (file : LogFile) → IsWell file → walk place.Uuid (from_uuid file) ≡ Some place.End
uuid_walk file well = step place.Uuid place.Origin (directive (codes "UUID") (urn file.uuid)) (from_origin file) (stand_uuid file.uuid well.uuid) (origin_walk file well)

file_walk : (file : LogFile) → IsWell file → walk place.Version (file_lines file) ≡ Some place.End
file_walk file well = step place.Version place.Uuid (directive (codes "version") (codes "cdni/1.0")) (from_uuid file) stand_version (uuid_walk file well)

-- the lines of the text of a file
pub lines_are : (text : List ℕ) (file : LogFile) → IsLogFile text file → lines_of text ≡ file_lines file
lines_are text file is =
    let all = walked_lines place.Version place.End (file_lines file) (file_walk file is.well) in
    ap lines_of (is.printed ∙ (sym (print_joined file) ∙ sym (append-nil (concat (file_lines file))))) ∙ (cut_lines (file_lines file) [] all ∙ append-nil (file_lines file))

pub of_file : (text : List ℕ) (file : LogFile) → IsLogFile text file → walk place.Version (lines_of text) ≡ Some place.End
of_file text file is =
    let leads = file_walk file is.well in
    let all = walked_lines place.Version place.End (file_lines file) leads in
    let cut : lines_of text ≡ file_lines file = ap lines_of (is.printed ∙ (sym (print_joined file) ∙ sym (append-nil (concat (file_lines file))))) ∙ (cut_lines (file_lines file) [] all ∙ append-nil (file_lines file)) in
    ap (walk place.Version) cut ∙ leads

-- ---- lines as a file

first_line : (at : Place) (lines : List (List ℕ)) → is_end at ≡ false → walk at lines ≡ Some place.End → (line : List ℕ) × (rest : List (List ℕ)) × (after : Place) × (concat lines ≡ line ++ concat rest) × (next at line ≡ Some after) × (walk after rest ≡ Some place.End)
first_line at [] early is = absurd (false≢true (sym early ∙ ap is_end (same_Some at place.End is)))
first_line at (line ∷ lines) early is =
    let on = gone (next at line) (λ after. walk after lines) place.End is in
    (line, lines, on.0, refl, on.1, on.2)

ended_walk : (lines : List (List ℕ)) → walk place.End lines ≡ Some place.End → concat lines ≡ []
ended_walk [] is = refl
ended_walk (line ∷ lines) is =
    let on = gone (next place.End line) (λ after. walk after lines) place.End is in
    absurd (told_end line on.0 on.1)

-- what lines from the records on say
abbrev RecordsOf : List Field → List ℕ → Type 0
RecordsOf fields text = (records : List (List (List ℕ))) × (hash : List ℕ) × (text ≡ flat_map record_line records ++ hash_line hash) × AllByRecursion (λ values. is_record fields values ≡ true) records × (is_hash hash ≡ true)

to_records : (fields : List Field) (lines : List (List ℕ)) → walk (place.Records fields) lines ≡ Some place.End → RecordsOf fields (concat lines)
to_records fields [] is = absurd (false≢true (ap is_end (same_Some (place.Records fields) place.End is)))
to_records fields (line ∷ lines) is = by (to_records fields lines) (told_record fields line on.0 on.1)
  where
    on : (after : Place) × (next (place.Records fields) line ≡ Some after) × (walk after lines ≡ Some place.End)
    on = gone (next (place.Records fields) line) (λ after. walk after lines) place.End is

    by : (walk (place.Records fields) lines ≡ Some place.End → RecordsOf fields (concat lines)) → IsRecordOf fields line on.0 ⊎ IsHashOf line on.0 → RecordsOf fields (line ++ concat lines)
    by others (inl t) =
        let more = others (subst (λ (p : Place). walk p lines ≡ Some place.End) (sym t.2) on.2) in
        let values = values_in line in
        let text = ap (λ l. l ++ concat lines) t.1 ∙ (ap (λ x. record_line values ++ x) more.2 ∙ sym (append_assoc (record_line values) (flat_map record_line more.0) (hash_line more.1))) in
        (values ∷ more.0, more.1, text, (t.0, more.3), more.4)
    by others (inr t) =
        let out = ended_walk lines (subst (λ (p : Place). walk p lines ≡ Some place.End) (sym t.3) on.2) in
        ([], t.0, ap (λ x. line ++ x) out ∙ (append-nil line ∙ t.1), tt, t.2)

-- what lines from each place on say
abbrev FieldsOf : List ℕ → Type 0
FieldsOf text = (fields : List Field) × (tail : List ℕ) × (text ≡ directive (codes "fields") (names_text fields) ++ tail) × (is_unbroken (names_text fields) ≡ true) × (fields_of 9 (names_text fields) ≡ Some fields) × RecordsOf fields tail

abbrev KindOf : List ℕ → Type 0
KindOf text = (tail : List ℕ) × (text ≡ directive (codes "record-type") (codes "cdni_http_request_v1") ++ tail) × FieldsOf tail

abbrev OriginOf : List ℕ → Type 0
OriginOf text = (origin : List ℕ) × (tail : List ℕ) × (text ≡ directive (codes "claimed-origin") origin ++ tail) × (is_origin origin ≡ true) × KindOf tail

abbrev UuidOf : List ℕ → Type 0
UuidOf text = (uuid : List ℕ) × (tail : List ℕ) × (text ≡ directive (codes "UUID") (urn uuid) ++ tail) × (is_uuid uuid ≡ true) × OriginOf tail

abbrev VersionOf : List ℕ → Type 0
VersionOf text = (tail : List ℕ) × (text ≡ directive (codes "version") (codes "cdni/1.0") ++ tail) × UuidOf tail

go_on : (after to : Place) (lines : List (List ℕ)) → to ≡ after → walk after lines ≡ Some place.End → walk to lines ≡ Some place.End
go_on after to lines same leads = rw same leads

-- the first line as it is printed
first_is : (whole line printed tail : List ℕ) → whole ≡ line ++ tail → line ≡ printed → whole ≡ printed ++ tail
first_is whole line printed tail cut same = rw (cut, same) refl

fields_from : (text line tail : List ℕ) (rest : List (List ℕ)) (after : Place) → text ≡ line ++ tail → tail ≡ concat rest → NamesFields line after → walk after rest ≡ Some place.End → FieldsOf text
fields_from text line tail rest after cut is t leads =
    (t.0, tail, first_is text line (directive (codes "fields") (names_text t.0)) tail cut t.1, t.2, t.3, subst (RecordsOf t.0) (sym is) (to_records t.0 rest (go_on after (place.Records t.0) rest t.4 leads)))

to_fields : (lines : List (List ℕ)) → walk place.Fields lines ≡ Some place.End → FieldsOf (concat lines)
to_fields lines is =
    let l = first_line place.Fields lines refl is in
    fields_from (concat lines) l.0 (concat l.1) l.1 l.2 l.3 refl (told_fields l.0 l.2 l.4) l.5

to_kind : (lines : List (List ℕ)) → walk place.Kind lines ≡ Some place.End → KindOf (concat lines)
to_kind lines is =
    let l = first_line place.Kind lines refl is in
    let t = told_kind l.0 l.2 l.4 in
    (concat l.1, first_is (concat lines) l.0 (directive (codes "record-type") (codes "cdni_http_request_v1")) (concat l.1) l.3 t.0, to_fields l.1 (go_on l.2 place.Fields l.1 t.1 l.5))

to_origin : (lines : List (List ℕ)) → walk place.Origin lines ≡ Some place.End → OriginOf (concat lines)
to_origin lines is =
    let l = first_line place.Origin lines refl is in
    let t = told_origin l.0 l.2 l.4 in
    (t.0, concat l.1, first_is (concat lines) l.0 (directive (codes "claimed-origin") t.0) (concat l.1) l.3 t.1, t.2, to_kind l.1 (go_on l.2 place.Kind l.1 t.3 l.5))

to_uuid : (lines : List (List ℕ)) → walk place.Uuid lines ≡ Some place.End → UuidOf (concat lines)
to_uuid lines is =
    let l = first_line place.Uuid lines refl is in
    let t = told_uuid l.0 l.2 l.4 in
    (t.0, concat l.1, first_is (concat lines) l.0 (directive (codes "UUID") (urn t.0)) (concat l.1) l.3 t.1, t.2, to_origin l.1 (go_on l.2 place.Origin l.1 t.3 l.5))

to_version : (lines : List (List ℕ)) → walk place.Version lines ≡ Some place.End → VersionOf (concat lines)
to_version lines is =
    let l = first_line place.Version lines refl is in
    let t = told_version l.0 l.2 l.4 in
    (concat l.1, first_is (concat lines) l.0 (directive (codes "version") (codes "cdni/1.0")) (concat l.1) l.3 t.0, to_uuid l.1 (go_on l.2 place.Uuid l.1 t.1 l.5))

printed_by : (text version a uuid b origin c kind d fields e records : List ℕ) → text ≡ version ++ a → a ≡ uuid ++ b → b ≡ origin ++ c → c ≡ kind ++ d → d ≡ fields ++ e → e ≡ records → text ≡ version ++ (uuid ++ (origin ++ (kind ++ (fields ++ records))))
printed_by text version a uuid b origin c kind d fields e records one two three four five six = rw (one, two, three, four, five, six) refl

made : (text : List ℕ) → VersionOf text → (file : LogFile) × IsLogFile text file
unfolding hashed_text
made text (a, a_is, (uuid, b, b_is, uuid_well, (origin, c, c_is, origin_well, (d, d_is, (fields, e, e_is, unbroken, named, (records, hash, f_is, records_well, hash_well)))))) =
    let file : LogFile = record { uuid = uuid; origin = origin; fields = fields; records = records; hash = hash } in
    let well : IsWell file = record { uuid = uuid_well; origin = origin_well; names = unbroken; fields = named; records = records_well; hash = hash_well } in
    let printed = printed_by text _ a _ b _ c _ d _ e _ a_is b_is c_is d_is e_is f_is in
    let whole = in_front (directive (codes "version") (codes "cdni/1.0")) (directive (codes "UUID") (urn uuid)) (directive (codes "claimed-origin") origin) (directive (codes "record-type") (codes "cdni_http_request_v1"))
    (directive (codes "fields") (names_text fields)) (flat_map record_line records) (hash_line hash) in
    (file, record { printed = printed ∙ sym whole; well = well })

pub to_file : (text : List ℕ) → walk place.Version (lines_of text) ≡ Some place.End → (file : LogFile) × IsLogFile text file
to_file text is = made text (subst VersionOf (joined text) (to_version (lines_of text) is))

-- ---- the shortest way to the end

abbrev zeros : List ℕ
zeros = codes "0000000000000000000000000000000000000000000000000000000000000000"

-- the shortest log file
abbrev shortest : LogFile
shortest = record { uuid = codes "00000000-0000-5000-8000-000000000000"; origin = codes "a"; fields = field.Date ∷ []; records = []; hash = zeros }

shortest_well : IsWell shortest
unfolding is_uuid is_origin host_length fields_of are_fields field_name plain_field is_hash
shortest_well = record { uuid = refl; origin = refl; names = refl; fields = refl; records = tt; hash = refl }

-- lines that lead from a place to the end
pub ending : Place → List (List ℕ)
ending place.Version = file_lines shortest
ending place.Uuid = from_uuid shortest
ending place.Origin = from_origin shortest
ending place.Kind = from_kind shortest
ending place.Fields = from_fields shortest
ending (place.Records fields) = hash_line zeros ∷ []
ending place.End = []

pub ending_walks : (at : Place) → walk at (ending at) ≡ Some place.End
unfolding ending
ending_walks place.Version = file_walk shortest shortest_well
ending_walks place.Uuid = uuid_walk shortest shortest_well
ending_walks place.Origin = origin_walk shortest shortest_well
ending_walks place.Kind = kind_walk shortest shortest_well
ending_walks place.Fields = fields_walk shortest shortest_well
ending_walks (place.Records fields) = step (place.Records fields) place.End (hash_line zeros) [] (stand_hash fields zeros shortest_well.hash) refl
ending_walks place.End = refl
