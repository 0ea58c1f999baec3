-- The head of a log file, line by line.
use Rattle.std.proofs.Common.{◌≡◌, ℕ, ◌+◌, ◌≤◌, Bool, true, false, cond, List, [], ◌∷◌, ◌++◌, Option, None, Some, Ok, Err, IfOk, ◌==◌, length, map, refl, ap, sym, subst, ◌∙◌, codes, append_assoc, arith}
use Rattle.std.proofs.lemmas.Bool.{and_parts, eqb-true, false≢true}
use Rattle.std.proofs.lemmas.List.{length-append}
use Rattle.std.proofs.lemmas.Option.{same_Some}
use Rattle.std.proofs.lemmas.Slice.Eq.{bytes_eq-Decides}
use Rattle.std.specs.Prelude.{bytes_eq}
use Rattle.std.specs.Option.{option_map}
use Rattle.cdni_log.specs.declared.field.Field.{Field}
use Rattle.cdni_log.specs.FieldList.{fields_of}
use Rattle.cdni_log.specs.Line.{directive, line_end}
use Rattle.log_audit.specs.declared.place.Place.{Place}
use Rattle.log_audit.specs.declared.place.Place.TheVariants as place
use Rattle.log_audit.specs.LogFile.{hash_line, is_hash, is_origin, names_text}
use Rattle.log_audit.specs.Lines.{after_of, bad_from, is_directive, is_end, is_record_line, is_fixed, is_urn, lines_of, next, onto_line, then_to, IsBody, IsCutOff, IsHead, Passes, Reaches}
use Rattle.log_audit.specs.Value.{is_unbroken}
use Rattle.std.specs.List.{concat}
use Rattle.std.specs.declared.result.Result.{Result}
use Rattle.cdni_log.specs.declared.field.FieldNameFault.{FieldNameFault}
use Rattle.cdni_log.specs.declared.field.FieldNameFault.TheVariants as field_name_fault
use Rattle.cdni_log.specs.Field.{Reads}
use Rattle.log_audit.specs.Audit.{IsLast}
use Rattle.log_audit.proofs.LineLemmas.{joined}
use Rattle.log_audit.proofs.FrameLemmas.{frame_inside}
use Rattle.log_audit.proofs.PlaceLemmas.{stand_fields, stand_hash, stand_kind, stand_version, told_fields, told_kind, told_version}

-- ---- lines that are passed

pub bad_on : (n : ℕ) (at after : Place) (text line rest : List ℕ) → lines_of text ≡ line ∷ lines_of rest → next at line ≡ Some after → bad_from n at (lines_of text) ≡ bad_from (n + 1) after (lines_of rest)
unfolding bad_from
bad_on n at after text line rest cut is = rw (cut, is) refl

pub bad_here : (n : ℕ) (at : Place) (text line rest : List ℕ) → lines_of text ≡ line ∷ lines_of rest → next at line ≡ None → bad_from n at (lines_of text) ≡ Some n
unfolding bad_from
bad_here n at text line rest cut is = rw (cut, is) refl

pub bad_empty : (n : ℕ) (at : Place) (text : List ℕ) → text ≡ [] → is_end at ≡ false → bad_from n at (lines_of text) ≡ Some n
unfolding bad_from
bad_empty n at text empty is = rw (empty, is) refl

pub reach_start : (text : List ℕ) → Reaches text 1 place.Version text
reach_start text = record { bad = refl; front = []; lines = refl; count = refl }

pub reach_on : (text rest more : List ℕ) (n : ℕ) (at after : Place) → Reaches text n at rest → Passes at after rest (Some more) → Reaches text (n + 1) after more
reach_on text rest more n at after reach pass = record {
  bad = reach.bad ∙ bad_on n at after rest pass.0 more pass.1 pass.2;
  front = reach.front ++ pass.0 ∷ [];
  lines = reach.lines ∙ (ap (λ l. reach.front ++ l) pass.1 ∙ sym (append_assoc reach.front (pass.0 ∷ []) (lines_of more)));
  count = omega (arith, length-append reach.front (pass.0 ∷ []), reach.count);
}

-- ---- the line of the fields

abbrev front : List ℕ
front = codes "#fields:" ++ 9 ∷ []

pub fields_none : (line : List ℕ) → ((fields : List Field) → line ≡ front ++ (names_text fields ++ line_end) → is_unbroken (names_text fields) ≡ true → fields_of 9 (names_text fields) ≡ Some fields → ⊥) → next place.Fields line ≡ None
unfolding directive
fields_none line never = by (next place.Fields line) refl
  where
    by : (found : Option Place) → next place.Fields line ≡ found → found ≡ None
    by None e = refl
    by (Some after) e = let t = told_fields line after e in absurd (never t.0 t.1 t.2 t.3)

pub same_names : (line names others : List ℕ) → line ≡ front ++ (names ++ line_end) → line ≡ front ++ (others ++ line_end) → names ≡ others
same_names line names others one two = sym (frame_inside front names line_end line one) ∙ frame_inside front others line_end line two

pub named_is : (line names : List ℕ) (fields : List Field) (found : Option (List Field)) → line ≡ front ++ (names ++ line_end) → is_unbroken names ≡ true → fields_of 9 names ≡ Some fields → found ≡ cond (bytes_eq names (names_text fields)) (Some fields) None → next place.Fields line ≡ option_map place.Records found
unfolding directive
named_is line names fields found framed unbroken named e = by (bytes_eq names (names_text fields)) refl e
  where
    by : (t : Bool) → bytes_eq names (names_text fields) ≡ t → found ≡ cond t (Some fields) None → next place.Fields line ≡ option_map place.Records found
    by true same is =
        let names_are : names ≡ names_text fields = (bytes_eq-Decides names (names_text fields)).0 same in
        ap (next place.Fields) (framed ∙ ap (λ t. front ++ (t ++ line_end)) names_are)
        ∙ (stand_fields fields (ap is_unbroken (sym names_are) ∙ unbroken) (ap (fields_of 9) (sym names_are) ∙ named) ∙ ap (option_map place.Records) (sym is))
    by false same is =
        fields_none line (λ others printed plain read.
        let names_are = same_names line names (names_text others) framed printed in
        let one : others ≡ fields = same_Some others fields (sym read ∙ (ap (fields_of 9) (sym names_are) ∙ named)) in
        false≢true (sym same ∙ (bytes_eq-Decides names (names_text fields)).1 (names_are ∙ ap names_text one)))
        ∙ ap (option_map place.Records) (sym is)

-- ---- the line of the hash

pub hash_bad : (number : ℕ) (fields : List Field) (line rest : List ℕ) → is_record_line fields line ≡ false → is_directive (codes "SHA256-hash") is_hash line ≡ false → bad_from number (place.Records fields) (line ∷ lines_of rest) ≡ Some number
unfolding bad_from next
hash_bad number fields line rest none other = rw (none, other) refl

-- ---- which lines may stand at the places before the fields

exact_by : (at after : Place) (printed line : List ℕ) (is : Bool) → is ≡ bytes_eq line printed → next at printed ≡ Some after → ((to : Place) → next at line ≡ Some to → line ≡ printed) → next at line ≡ then_to after is
exact_by at after printed line true e stands told = ap (next at) ((bytes_eq-Decides line printed).0 (sym e)) ∙ stands
exact_by at after printed line false e stands told = by (next at line) refl
  where
    by : (found : Option Place) → next at line ≡ found → found ≡ None
    by None f = refl
    by (Some to) f = absurd (false≢true (e ∙ (bytes_eq-Decides line printed).1 (told to f)))

pub version_stands : (at : Place) (line : List ℕ) (is : Bool) → at ≡ place.Version → is ≡ bytes_eq line (directive (codes "version") (codes "cdni/1.0")) → next at line ≡ then_to (after_of at) is
version_stands at line is same e = rw same (exact_by place.Version place.Uuid (directive (codes "version") (codes "cdni/1.0")) line is e stand_version (λ to f. (told_version line to f).0))

pub kind_stands : (at : Place) (line : List ℕ) (is : Bool) → at ≡ place.Kind → is ≡ bytes_eq line (directive (codes "record-type") (codes "cdni_http_request_v1")) → next at line ≡ then_to (after_of at) is
kind_stands at line is same e = rw same (exact_by place.Kind place.Fields (directive (codes "record-type") (codes "cdni_http_request_v1")) line is e stand_kind (λ to f. (told_kind line to f).0))

pub uuid_stands : (at : Place) (line : List ℕ) (is : Bool) → at ≡ place.Uuid → is ≡ is_directive (codes "UUID") is_urn line → next at line ≡ then_to (after_of at) is
unfolding next
uuid_stands at line is same e = rw (same, e) refl

pub origin_stands : (at : Place) (line : List ℕ) (is : Bool) → at ≡ place.Origin → is ≡ is_directive (codes "claimed-origin") is_origin line → next at line ≡ then_to (after_of at) is
unfolding next
origin_stands at line is same e = rw (same, e) refl

pub fixed_goes_on : (at : Place) → is_fixed at ≡ true → is_end at ≡ false
fixed_goes_on place.Version is = refl
fixed_goes_on place.Uuid is = refl
fixed_goes_on place.Origin is = refl
fixed_goes_on place.Kind is = refl
fixed_goes_on place.Fields is = refl
fixed_goes_on (place.Records fields) is = refl
fixed_goes_on place.End is = absurd (false≢true is)

-- ---- the head

pub none_found : (line : List ℕ) (found : Option (List Field)) → next place.Fields line ≡ option_map place.Records found → found ≡ None → next place.Fields line ≡ None
none_found line found is none = is ∙ ap (option_map place.Records) none

pub head_is : (text behind line rest : List ℕ) (fields : List Field) (found : Option (List Field)) → Reaches text 5 place.Fields behind → IsCutOff behind line rest → next place.Fields line ≡ option_map place.Records found → found ≡ Some fields → IsHead text fields rest
head_is text behind line rest fields found reach cut is some =
    let named : next place.Fields line ≡ Some (place.Records fields) = is ∙ ap (option_map place.Records) some in
    record {
      before = reach.front;
      line = line;
      lines = reach.lines ∙ ap (λ l. reach.front ++ l) cut.0;
      count = omega (arith, reach.count);
      named = named;
      bad = reach.bad ∙ bad_on 5 place.Fields (place.Records fields) behind line rest cut.0 named;
    }

concat_more : (lines others : List (List ℕ)) → length (concat others) ≤ length (concat (lines ++ others))
concat_more [] others = omega arith
concat_more (line ∷ lines) others = omega (arith, concat_more lines others, length-append line (concat (lines ++ others)))

pub head_shorter : (text rest : List ℕ) (fields : List Field) → IsHead text fields rest → length rest ≤ length text
head_shorter text rest fields head =
    omega (arith, concat_more head.before (head.line ∷ lines_of rest), ap (λ l. length (concat l)) head.lines, ap length (joined text), ap length (joined rest), length-append head.line (concat (lines_of rest)))

-- ---- the body

onto_some : (byte : ℕ) (lines : List (List ℕ)) → (line : List ℕ) × (others : List (List ℕ)) × (onto_line byte lines ≡ line ∷ others)
onto_some byte [] = (byte ∷ [], [], refl)
onto_some byte (line ∷ lines) = (byte ∷ line, lines, refl)

some_line : (byte : ℕ) (bytes : List ℕ) → (line : List ℕ) × (others : List (List ℕ)) × (lines_of (byte ∷ bytes) ≡ line ∷ others)
some_line byte bytes = by (byte == 10)
  where
    by : (t : Bool) → (line : List ℕ) × (others : List (List ℕ)) × (cond t ((10 ∷ []) ∷ lines_of bytes) (onto_line byte (lines_of bytes)) ≡ line ∷ others)
    by true = (10 ∷ [], lines_of bytes, refl)
    by false = onto_some byte (lines_of bytes)

end_more : (n : ℕ) (rest : List ℕ) → (rest ≡ [] → ⊥) → bad_from n place.End (lines_of rest) ≡ Some n
unfolding bad_from next
end_more n [] some = absurd (some refl)
end_more n (byte ∷ bytes) some = rw (some_line byte bytes).2 refl

hash_next : (fields : List Field) (line hash : List ℕ) → line ≡ hash_line hash → is_hash hash ≡ true → next (place.Records fields) line ≡ Some place.End
hash_next fields line hash printed is = ap (next (place.Records fields)) printed ∙ stand_hash fields hash is

pub hash_more : (number : ℕ) (fields : List Field) (line rest hash : List ℕ) → line ≡ hash_line hash → is_hash hash ≡ true → (rest ≡ [] → ⊥) → bad_from number (place.Records fields) (line ∷ lines_of rest) ≡ Some (number + 1)
unfolding bad_from
hash_more number fields line rest hash printed is some = rw (hash_next fields line hash printed is) (end_more (number + 1) rest some)

abbrev ended : List ℕ → List ℕ
ended values = values ++ line_end

map_on : (records : List (List ℕ)) (values : List ℕ) (rest : List (List ℕ)) → map ended (records ++ values ∷ []) ++ rest ≡ map ended records ++ (ended values ∷ rest)
map_on [] values rest = refl
map_on (first ∷ records) values rest = ap (λ l. ended first ∷ l) (map_on records values rest)

pub body_on : (text left line rest values : List ℕ) (records more : List (List ℕ)) → map ended records ++ lines_of left ≡ lines_of text → lines_of left ≡ line ∷ lines_of rest → line ≡ ended values → more ≡ records ++ values ∷ [] → map ended more ++ lines_of rest ≡ lines_of text
body_on text left line rest values records more whole cut printed pushed =
    ap (λ l. map ended l ++ lines_of rest) pushed ∙ (map_on records values (lines_of rest) ∙ (ap (λ l. map ended records ++ (l ∷ lines_of rest)) (sym printed) ∙ (ap (λ l. map ended records ++ l) (sym cut) ∙ whole)))

record_next : (fields : List Field) (line : List ℕ) → is_record_line fields line ≡ true → next (place.Records fields) line ≡ Some (place.Records fields)
unfolding next
record_next fields line is = rw is refl

pub body_bad : (n : ℕ) (fields : List Field) (left line rest : List ℕ) (whole : Option ℕ) → bad_from n (place.Records fields) (lines_of left) ≡ whole → lines_of left ≡ line ∷ lines_of rest → is_record_line fields line ≡ true → bad_from (n + 1) (place.Records fields) (lines_of rest) ≡ whole
body_bad n fields left line rest whole so_far cut is = sym (bad_on n (place.Records fields) (place.Records fields) left line rest cut (record_next fields line is)) ∙ so_far

pub body_is : (n : ℕ) (fields : List Field) (text left line rest hash : List ℕ) (records given : List (List ℕ)) → map ended records ++ lines_of left ≡ lines_of text
    → bad_from n (place.Records fields) (lines_of left) ≡ bad_from 6 (place.Records fields) (lines_of text) → lines_of left ≡ line ∷ lines_of rest → IsLast line rest hash → given ≡ records → IsBody fields text given hash
unfolding bad_from
body_is n fields text left line rest hash records given whole bad cut last same =
    let out : lines_of rest ≡ [] = ap lines_of last.2 in
    let lines : lines_of left ≡ hash_line hash ∷ [] = cut ∙ (ap (λ l. line ∷ l) out ∙ ap (λ l. l ∷ []) last.0) in
    record {
      lines = sym whole ∙ (ap (λ l. map ended records ++ l) lines ∙ ap (λ r. map ended r ++ hash_line hash ∷ []) (sym same));
      form = last.1;
      good = sym bad ∙ (bad_on n (place.Records fields) place.End left line rest cut (hash_next fields line hash last.0 last.1) ∙ ap (bad_from (n + 1) place.End) out);
    }

pub two_ok : {A E : Type 0} (result : Result A E) (P Q R : A → Type 0) → ((a : A) → P a → Q a → R a) → IfOk result P → IfOk result Q → IfOk result R
two_ok (Ok a) P Q R both p q = both a p q
two_ok (Err e) P Q R both p q = tt

pub empty_is : (text : List ℕ) → true ≡ (length text == 0) → text ≡ []
empty_is [] e = refl
empty_is (byte ∷ bytes) e = absurd (omega (arith, eqb-true (length (byte ∷ bytes)) 0 (sym e)))

pub unknown_is : (fault : FieldNameFault) (said : Option (List Field)) → fault ≡ field_name_fault.Unknown → Reads (Err fault) said → said ≡ None
unknown_is fault said same reads = subst (λ (f : FieldNameFault). Reads (Err f) said) same reads

concat_last : (lines : List (List ℕ)) (last : List ℕ) → length last ≤ length (concat (lines ++ last ∷ []))
concat_last [] last = omega (arith, length-append last [])
concat_last (line ∷ lines) last = omega (arith, concat_last lines last, length-append line (concat (lines ++ last ∷ [])))

pub hash_long : (hash : List ℕ) → is_hash hash ≡ true → length (hash_line hash) ≡ 80
unfolding directive is_hash
hash_long hash is = omega (arith, eqb-true (length hash) 64 (and_parts _ (length hash == 64) (and_parts _ _ is).0).1, length-append hash line_end)

pub body_long : (fields : List Field) (text : List ℕ) (records : List (List ℕ)) (hash : List ℕ) → IsBody fields text records hash → 80 ≤ length text
body_long fields text records hash body =
    omega (arith, concat_last (map ended records) (hash_line hash), ap (λ l. length (concat l)) body.lines, ap length (joined text), hash_long hash body.form)
