-- Sums over the lines of records.
use Rattle.std.specs.Prelude.{◌≡◌, ℕ, Bool, true, false, List, [], ◌∷◌, bytes_eq, codes, Some, if◌then◌else◌}
use Rattle.std.specs.List.{count_by, sum_by}
use Rattle.std.specs.Option.{unwrap_or}
use Rattle.listing.specs.Number.{number_of}
use Rattle.cdni_log.specs.declared.field.Field.{Field}
use Rattle.cdni_log.specs.declared.field.Field.TheVariants as field
use Rattle.log_audit.specs.declared.audited.Audited.{Audited}
use Rattle.log_audit.specs.Lines.{parts_in}

abbrev pub is_total : Field → Bool
is_total field.TotalBytes = true
is_total other = false

abbrev pub is_entity : Field → Bool
is_entity field.EntityBytes = true
is_entity other = false

abbrev pub is_cached : Field → Bool
is_cached field.Cached = true
is_cached other = false

-- this value where it stands below such a field, and else the one before
abbrev pub value_after : (Field → Bool) → List ℕ → Field → List ℕ → List ℕ
value_after is_it before column value = if is_it column then value else before

-- the last value that stands below such a field, and else the one before
abbrev pub last_below : (Field → Bool) → List ℕ → List Field → List (List ℕ) → List ℕ
last_below is_it before (column ∷ columns) (value ∷ values) =
    last_below is_it (value_after is_it before column value) columns values
last_below is_it before columns values = before

-- the value below such a field in the line of a record, empty where no field is one
abbrev pub value_in : (Field → Bool) → List Field → List ℕ → List ℕ
value_in is_it fields line = last_below is_it [] fields (parts_in (Some line))

-- the number that is written, 0 where none is
abbrev pub number_in : List ℕ → ℕ
number_in text = unwrap_or (number_of text) 0

-- the sum of the numbers below such a field
abbrev pub sum_below : (Field → Bool) → List Field → List (List ℕ) → ℕ
sum_below is_it fields lines = sum_by (λ line. number_in (value_in is_it fields line)) lines

abbrev pub is_one : List ℕ → Bool
is_one text = bytes_eq (codes "1") text

-- how many lines have `1` below such a field
abbrev pub ones_below : (Field → Bool) → List Field → List (List ℕ) → ℕ
ones_below is_it fields lines = count_by (λ line. is_one (value_in is_it fields line)) lines

-- the sums are those of these lines
pub record AreSums (audited : Audited) : Type 0 where
  pub total : audited.total ≡ sum_below is_total audited.fields audited.records
  pub entity : audited.entity ≡ sum_below is_entity audited.fields audited.records
  pub cached : audited.cached ≡ ones_below is_cached audited.fields audited.records
