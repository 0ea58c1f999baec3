-- Lists of fields (RFC 7937, section 3.3).
use Rattle.std.specs.Prelude.{ℕ, Bool, true, not, List, [], ◌∷◌, bytes_eq, length, None, Some, ◌==◌, ◌&&◌, nat_le, if◌then◌else◌}
use Rattle.std.specs.List.{count_by, list_any, slice_split}
use Rattle.std.specs.declared.option.Option.{Option}
use Rattle.listing.specs.Word.{◌>>=◌}
use Rattle.cdni_log.specs.declared.field.Field.{Field}
use Rattle.cdni_log.specs.declared.field.Field.TheVariants as field
use Rattle.cdni_log.specs.Field.{field_name, field_of, is_header}

-- the fields of a record that are no headers, in the order of a file where nothing else is asked for
abbrev pub default_fields : List Field
default_fields = field.Date ∷ field.Time ∷ field.TimeTaken ∷ field.GroupId ∷ field.Method ∷ field.CsUri ∷ field.UUri
    ∷ field.Protocol ∷ field.Status ∷ field.TotalBytes ∷ field.EntityBytes ∷ field.Ccid ∷ field.Cached ∷ []

-- both have one name
abbrev pub is_same : Field → Field → Bool
is_same column other = bytes_eq (field_name column) (field_name other)

-- none is there twice
abbrev pub are_apart : List Field → Bool
are_apart [] = true
are_apart (column ∷ columns) = not (list_any (is_same column) columns) && are_apart columns

-- they can be the fields of a record: 1 to 21, of which at most eight are headers, and none twice
unfoldable pub are_fields : List Field → Bool
are_fields columns = nat_le 1 (length columns) && nat_le (length columns) 21
    && nat_le (count_by is_header columns) 8 && are_apart columns

-- the names in a text that has this byte between each two; no names where there is no text
abbrev pub names_in : ℕ → Option (List ℕ) → List (List ℕ)
names_in between None = []
names_in between (Some text) = slice_split (λ byte. byte == between) text

-- the fields of these names, where each is one
abbrev pub named : List (List ℕ) → Option (List Field)
named [] = Some []
named (name ∷ names) = field_of name >>= λ column. named names >>= λ columns. Some (column ∷ columns)

-- the fields whose names the text has with this byte between each two, where they can be those of a record
unfoldable pub fields_of : ℕ → List ℕ → Option (List Field)
fields_of between text =
    named (names_in between (Some text)) >>= λ columns. if are_fields columns then Some columns else None
