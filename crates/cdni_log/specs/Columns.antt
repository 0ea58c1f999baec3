-- A log file as a table: what stands below each name of the line of fields (RFC 7937, sections 3.3 and 3.4.1).
use Rattle.std.specs.Prelude.{◌≡◌, ℕ, ◌-◌, Bool, true, false, List, [], ◌∷◌, ◌++◌, codes, bytes_eq, decimal, length, take, slice_get, None, Some, ◌==◌, if◌then◌else◌}
use Rattle.std.specs.List.{AllZip, count_by, flat_map}
use Rattle.std.specs.Option.{option_map}
use Rattle.std.specs.declared.option.Option.{Option}
use Rattle.cdni_log.specs.declared.row.Row.{Row}
use Rattle.cdni_log.specs.Date.{date_field, time_field}
use Rattle.cdni_log.specs.Line.{directive, line_end, quoted, tabbed}
use Rattle.cdni_log.specs.Row.{cached_text, extra_at, group_text, seconds_text}

-- a text in which each `"` stood twice, read back: of two `"` one is left, and one alone can't be read; the first says
-- whether one `"` was read that waits for its second
abbrev pub undoubled : Bool → List ℕ → Option (List ℕ)
undoubled true [] = None
undoubled false [] = Some []
undoubled true (byte ∷ bytes) =
    if byte == 34 then option_map (λ text. 34 ∷ text) (undoubled false bytes) else None
undoubled false (byte ∷ bytes) =
    if byte == 34 then undoubled true bytes else option_map (λ text. byte ∷ text) (undoubled false bytes)

-- `-` stands for no text; a text stands in quotes and is read back from between them
abbrev pub IsOptional : Option (List ℕ) → List ℕ → Type 0
IsOptional None value = value ≡ codes "-"
IsOptional (Some text) value = (inner : List ℕ) × (value ≡ quoted inner) × (undoubled false inner ≡ Some text)

-- below the k-th name there is a value, and it is as told
abbrev pub HasAt : List (List ℕ) → ℕ → (List ℕ → Type 0) → Type 0
HasAt values k IsValue = (value : List ℕ) × (slice_get values k ≡ Some value) × IsValue value

-- below each name that is this one there is such a value
abbrev pub Below : List (List ℕ) → List (List ℕ) → List ℕ → (List ℕ → Type 0) → Type 0
Below names values name IsValue = (k : ℕ) → slice_get names k ≡ Some name → HasAt values k IsValue

-- the name of a column with the value of a header
abbrev pub is_header_name : List ℕ → Bool
is_header_name name = bytes_eq (take 3 name) (codes "cs(")

-- the value below the k-th name, where it is a header's: there are as many header names before it as values of headers
-- before its own
abbrev pub IsBelowHeader : List (List ℕ) → Row → List (List ℕ) → ℕ → Type 0
IsBelowHeader names row values k =
    HasAt values k (IsOptional (extra_at row.extra (count_by is_header_name (take k names))))

-- the values of a row: as many as names, each the one that its name says
pub record AreColumns (names : List (List ℕ)) (row : Row) (values : List (List ℕ)) : Type 0 where
  pub same : length values ≡ length names
  pub date : Below names values (codes "date") (λ value. value ≡ date_field row.finished)
  pub time : Below names values (codes "time") (λ value. value ≡ time_field row.finished)
  pub taken : Below names values (codes "time-taken") (λ value. value ≡ seconds_text (row.finished - row.admitted))
  pub group : Below names values (codes "c-groupid") (λ value. value ≡ group_text row.asn)
  pub method : Below names values (codes "cs-method") (λ value. value ≡ row.method)
  pub uri : Below names values (codes "cs-uri") (λ value. value ≡ row.uri)
  pub upstream_uri : Below names values (codes "u-uri") (λ value. value ≡ row.uri)
  pub protocol : Below names values (codes "protocol") (λ value. value ≡ codes "HTTP/1.1")
  pub status : Below names values (codes "sc-status") (λ value. value ≡ decimal row.status)
  pub total : Below names values (codes "sc-total-bytes") (λ value. value ≡ decimal row.total)
  pub entity : Below names values (codes "sc-entity-bytes") (λ value. value ≡ decimal row.entity)
  pub ccid : Below names values (codes "s-ccid") (IsOptional row.ccid)
  pub cached : Below names values (codes "s-cached") (λ value. value ≡ cached_text row.cached)
  pub header : (k : ℕ) (header : List ℕ) → slice_get names k ≡ Some (codes "cs(" ++ header ++ codes ")") →
      IsBelowHeader names row values k

-- the text is a log file whose line of fields has these names and whose records are of these rows, in order, with the
-- values that the names say
pub record IsTable (names : List (List ℕ)) (rows : List Row) (text : List ℕ) : Type 0 where
  pub uuid : List ℕ
  pub origin : List ℕ
  pub records : List (List (List ℕ))
  pub hash : List ℕ
  pub text_is : text ≡ directive (codes "version") (codes "cdni/1.0")
      ++ directive (codes "UUID") uuid
      ++ directive (codes "claimed-origin") origin
      ++ directive (codes "record-type") (codes "cdni_http_request_v1")
      ++ directive (codes "fields") (tabbed names)
      ++ flat_map (λ values. tabbed values ++ line_end) records
      ++ directive (codes "SHA256-hash") hash
  pub columns : AllZip (AreColumns names) rows records
