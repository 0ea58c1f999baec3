-- The forms of the values of a record (RFC 7937, section 3.4.1).
use Rattle.std.specs.Prelude.{ℕ, ◌+◌, ◌-◌, ◌*◌, ◌^◌, Bool, true, false, not, List, [], ◌∷◌, ◌++◌, bytes_eq, codes, drop, length, slice_range, take, None, Some, is_some, ◌==◌, ◌&&◌, ◌||◌, nat_lt, nat_le, if◌then◌else◌, slice_index}
use Rattle.std.specs.Char.{is_ascii_digit, to_ascii_lowercase}
use Rattle.std.specs.List.{fold, list_all, prefix_len}
use Rattle.std.specs.Option.{option_map_or}
use Rattle.std.specs.declared.option.Option.{Option}
use Rattle.httpdate.specs.Calendar.{days_in_month}
use Rattle.listing.specs.Number.{number_of}
use Rattle.listing.specs.Word.{parts_at}
use Rattle.targets.specs.Endpoint.{host_length}
use Rattle.targets.specs.Target.{is_taken}
use Rattle.cdni_log.specs.Columns.{undoubled}
use Rattle.cdni_log.specs.Date.{CivilDate, clock_text, date_text, three_digits}
use Rattle.cdni_log.specs.Field.{is_token_byte}
use Rattle.cdni_log.specs.declared.field.Field.{Field}
use Rattle.cdni_log.specs.declared.field.Field.TheVariants as field

-- neither CR nor LF
abbrev pub is_unbroken : List ℕ → Bool
is_unbroken text = list_all (λ byte. not (byte == 10) && not (byte == 13)) text

-- no tab, CR or LF
abbrev pub is_plain : List ℕ → Bool
is_plain text = list_all (λ byte. not (byte == 9) && not (byte == 10) && not (byte == 13)) text

-- the number that digits write
abbrev pub digits_of : List ℕ → ℕ
digits_of text = fold (λ number byte. number * 10 + (byte - 48)) 0 text

abbrev pub date_in : List ℕ → CivilDate
date_in text = record {
  year = digits_of (slice_range text 0 4);
  month = digits_of (slice_range text 5 7);
  day = digits_of (slice_range text 8 10);
}

-- the calendar has the date, in the years 1970 to 9999
abbrev pub is_date_of_years : CivilDate → Bool
is_date_of_years date = nat_le 1970 date.year && nat_le date.year 9999
    && nat_le 1 date.month && nat_le date.month 12
    && nat_le 1 date.day && nat_le date.day (days_in_month date.year date.month)

-- `YYYY-MM-DD`
unfoldable pub is_date : List ℕ → Bool
is_date text = is_date_of_years (date_in text) && bytes_eq text (date_text (date_in text))

-- the second of a day that `HH:MM:SS` writes
abbrev pub second_in : List ℕ → ℕ
second_in text = digits_of (slice_range text 0 2) * 3600 + digits_of (slice_range text 3 5) * 60
    + digits_of (slice_range text 6 8)

-- `HH:MM:SS.mmm`
unfoldable pub is_time : List ℕ → Bool
is_time text = nat_lt (second_in text) 86400 && nat_lt (digits_of (slice_range text 9 12)) 1000
    && bytes_eq text (clock_text (second_in text) ++ 46 ∷ three_digits (digits_of (slice_range text 9 12)))

-- a number below 2 ^ 64 without leading zeros
abbrev pub is_number : List ℕ → Bool
is_number text = is_some (number_of text)

-- three decimal digits
abbrev pub are_three_digits : List ℕ → Bool
are_three_digits text = length text == 3 && list_all is_ascii_digit text

-- a number, a point and three digits
unfoldable pub is_seconds : List ℕ → Bool
is_seconds text =
    option_map_or (λ parts. is_number parts.0 && are_three_digits parts.1) (parts_at 46 text) false

-- `as` and the number of an autonomous system, or `-`
unfoldable pub is_group : List ℕ → Bool
is_group text = bytes_eq text (codes "-") || (bytes_eq (take 2 text) (codes "as")
    && option_map_or (λ number. nat_lt number (2 ^ 32)) (number_of (drop 2 text)) false)

-- one byte of a token or more (RFC 9110, section 5.6.2)
unfoldable pub is_method : List ℕ → Bool
is_method text = nat_lt 0 (length text) && list_all is_token_byte text

-- what stands behind `http://` or `https://`
abbrev pub behind_scheme : List ℕ → Option (List ℕ)
behind_scheme text = if bytes_eq (take 7 text) (codes "http://") then Some (drop 7 text)
    else (if bytes_eq (take 8 text) (codes "https://") then Some (drop 8 text) else None)

-- a port that a URL writes: 80 stands for an absent one
abbrev pub is_port : ℕ → Bool
is_port n = nat_le 1 n && nat_le n 65535 && not (n == 80)

-- nothing, or `:` and a port
abbrev pub is_port_part : List ℕ → Bool
is_port_part [] = true
is_port_part (byte ∷ digits) = byte == 58 && option_map_or is_port (number_of digits) false

-- a host of so many bytes in lower case, and a port where it is not 80
abbrev pub is_authority_at : ℕ → List ℕ → Bool
is_authority_at n text = nat_lt 0 n && list_all (λ byte. to_ascii_lowercase byte == byte) (take n text)
    && is_port_part (drop n text)

abbrev pub is_authority : List ℕ → Bool
is_authority text = is_authority_at (host_length text) text

-- each byte is one of a path or a query, and two hexadecimal digits follow each `%`
abbrev pub are_taken : List ℕ → Bool
are_taken [] = true
are_taken (byte ∷ bytes) = is_taken byte bytes && are_taken bytes

-- how many bytes stand before the path
abbrev pub authority_length : List ℕ → ℕ
authority_length text = prefix_len (λ byte. not (byte == 47)) text

-- what follows the scheme in a URL: the path begins with `/`
abbrev pub is_behind_scheme : List ℕ → Bool
is_behind_scheme text = is_authority (take (authority_length text) text)
    && slice_index text (authority_length text) == 47 && are_taken (drop (authority_length text) text)

-- an absolute URL as it is written: scheme and host in lower case, no port of 80, and a path
unfoldable pub is_url : List ℕ → Bool
is_url text = option_map_or is_behind_scheme (behind_scheme text) false

-- three digits from 100: the first is no 0
unfoldable pub is_status : List ℕ → Bool
is_status text = are_three_digits text && nat_le 49 (slice_index text 0)

-- whether a `"` waits for its second after this byte, where the byte may stand there
abbrev pub waits_after : Bool → ℕ → Option Bool
waits_after true byte = if byte == 34 then Some false else None
waits_after false byte = Some (byte == 34)

-- a text in quotes with each `"` in it doubled
abbrev pub is_quoted : List ℕ → Bool
is_quoted text = nat_le 2 (length text)
    && bytes_eq (take 1 text) (codes "\"") && bytes_eq (drop (length text - 1) text) (codes "\"")
    && is_some (undoubled false (slice_range text 1 (length text - 1)))

-- the same, or `-`
unfoldable pub is_optional : List ℕ → Bool
is_optional text = bytes_eq text (codes "-") || is_quoted text

-- the form of a value of this field
unfoldable pub has_form : Field → List ℕ → Bool
has_form field.Date text = is_date text
has_form field.Time text = is_time text
has_form field.TimeTaken text = is_seconds text
has_form field.GroupId text = is_group text
has_form field.Method text = is_method text
has_form field.CsUri text = is_url text
has_form field.UUri text = is_url text
has_form field.Protocol text = bytes_eq text (codes "HTTP/1.1")
has_form field.Status text = is_status text
has_form field.TotalBytes text = is_number text
has_form field.EntityBytes text = is_number text
has_form field.Ccid text = is_optional text
has_form field.Cached text = bytes_eq text (codes "0") || bytes_eq text (codes "1")
has_form (field.Header header) text = is_optional text

-- a value of this field
abbrev pub is_value : Field → List ℕ → Bool
is_value column text = is_plain text && has_form column text

-- one value for each field, in order
abbrev pub are_values : List Field → List (List ℕ) → Bool
are_values [] [] = true
are_values [] (value ∷ values) = false
are_values (column ∷ columns) [] = false
are_values (column ∷ columns) (value ∷ values) = is_value column value && are_values columns values

abbrev pub is_uri : Field → Bool
is_uri field.CsUri = true
is_uri field.UUri = true
is_uri other = false

-- the values of the two URLs, where they are there
abbrev pub uris : List Field → List (List ℕ) → List (List ℕ)
uris (column ∷ columns) (value ∷ values) = if is_uri column then value ∷ uris columns values else uris columns values
uris columns values = []

-- all are the first
abbrev pub are_one : List (List ℕ) → Bool
are_one [] = true
are_one (value ∷ values) = list_all (λ other. bytes_eq other value) values

-- the value is the URL before it, where both are URLs
abbrev pub agrees : Field → Option (List ℕ) → List ℕ → Bool
agrees column None value = true
agrees column (Some url) value = if is_uri column then bytes_eq value url else true

-- the URL behind which the others stand
abbrev pub url_after : Field → Option (List ℕ) → List ℕ → Option (List ℕ)
url_after column url value = if is_uri column then Some value else url

-- one value for each field, and each URL is the one before it
abbrev pub goes_on : List Field → Option (List ℕ) → List (List ℕ) → Bool
goes_on [] url [] = true
goes_on [] url (value ∷ values) = false
goes_on (column ∷ columns) url [] = false
goes_on (column ∷ columns) url (value ∷ values) =
    is_value column value && agrees column url value && goes_on columns (url_after column url value) values

-- a record of these fields: one value for each, and one URL in both of its columns
unfoldable pub is_record : List Field → List (List ℕ) → Bool
is_record columns values = are_values columns values && are_one (uris columns values)
