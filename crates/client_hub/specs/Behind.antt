-- What follows a head (RFC 9112, sections 2, 5, 6 and 9.6).
use Rattle.std.specs.Prelude.{ℕ, ◌-◌, Bool, true, false, not, List, [], ◌∷◌, length, take, drop, codes, bytes_eq, nat_eq, ◌==◌, ◌||◌, ◌&&◌, if◌then◌else◌, None, Some}
use Rattle.std.specs.List.{slice_split, prefix_len, suffix_len, filter_map, list_any, ends_with}
use Rattle.std.specs.Char.{is_ascii_whitespace}
use Rattle.std.specs.Option.{option_map_or}
use Rattle.std.specs.Str.{str_eq_ignore_ascii_case}
use Rattle.std.specs.declared.option.Option.{Option}
use Rattle.http_wire.specs.Fields.{is_name, values_of}
use Rattle.listing.specs.Number.{number_of_digits}
use Rattle.listing.specs.Word.{parts_at}
use Rattle.client_hub.specs.declared.ahead.TheConstants.{LINE_FEED, RETURN}
use Rattle.client_hub.specs.declared.behind.Told.{Told}

-- the text without the white space in front
abbrev pub without_front : List ℕ → List ℕ
without_front text = drop (prefix_len is_ascii_whitespace text) text

-- the text without the white space at its end
abbrev pub without_end : List ℕ → List ℕ
without_end text = take (length text - suffix_len is_ascii_whitespace text) text

-- the text without the white space around it
unfoldable pub trimmed : List ℕ → List ℕ
trimmed text = without_end (without_front text)

-- the parts but the last
abbrev pub but_last : List (List ℕ) → List (List ℕ)
but_last [] = []
but_last (part ∷ []) = []
but_last (part ∷ other ∷ parts) = part ∷ but_last (other ∷ parts)

-- the lines that a line feed ends, each without it
unfoldable pub lines_of : List ℕ → List (List ℕ)
lines_of bytes = but_last (slice_split (λ byte. byte == LINE_FEED) bytes)

-- nothing, or a carriage return
abbrev pub is_empty_line : List ℕ → Bool
is_empty_line line = length line == 0 || bytes_eq line (RETURN ∷ [])

-- the request line and those behind it: no empty line stands in front (section 2.2)
abbrev pub head_lines : List (List ℕ) → List (List ℕ)
head_lines [] = []
head_lines (line ∷ lines) = if is_empty_line line then head_lines lines else line ∷ lines

-- the names and values of the lines with a colon (section 5)
abbrev pub fields_of : List (List ℕ) → List (List ℕ × List ℕ)
fields_of lines = filter_map (parts_at 58) lines

-- without a length there is no body; one length tells how many bytes it has, in digits
abbrev pub one_length : List (List ℕ) → Option ℕ
one_length [] = Some 0
one_length (value ∷ []) = number_of_digits (trimmed value)
one_length (value ∷ other ∷ values) = None

-- how many bytes these lengths tell beside these codings: with a coding none is told
abbrev pub length_beside : List (List ℕ) → List (List ℕ) → Option ℕ
length_beside lengths [] = one_length lengths
length_beside lengths (coding ∷ codings) = None

-- how many bytes of a body these fields tell (section 6.3)
abbrev pub body_of : List (List ℕ × List ℕ) → Option ℕ
body_of fields =
    length_beside (values_of (codes "content-length") fields) (values_of (codes "transfer-encoding") fields)

-- an option is `close`, in any case
abbrev pub is_close : List ℕ → Bool
is_close option = str_eq_ignore_ascii_case (trimmed option) (codes "close")

-- one of the options, between commas, is `close` (section 9.6)
abbrev pub says_close : List ℕ → Bool
says_close options = list_any is_close (slice_split (λ byte. byte == 44) options)

-- a Connection field asks for the end of the connection
abbrev pub asks_for_end : List (List ℕ × List ℕ) → Bool
asks_for_end fields = list_any says_close (values_of (codes "connection") fields)

-- `100-continue` is expected, in any case (RFC 9110, section 10.1.1)
abbrev pub says_continue : List ℕ → Bool
says_continue value = str_eq_ignore_ascii_case (trimmed value) (codes "100-continue")

-- an Expect field says that the client waits for word before it sends its body
abbrev pub asks_for_word : List (List ℕ × List ℕ) → Bool
asks_for_word fields = list_any says_continue (values_of (codes "expect") fields)

-- the line of a request ends with `HTTP/1.0`
abbrev pub says_old_version : List ℕ → Bool
says_old_version line = ends_with nat_eq (trimmed line) (codes "HTTP/1.0")

-- the client asked for the end: by its version, or by a field; or there is no request line
abbrev pub is_last : List (List ℕ) → Bool
is_last [] = true
is_last (line ∷ lines) = says_old_version line || asks_for_end (fields_of lines)

-- the client waits for word; what a client of the old version says of that is passed over
abbrev pub waits_for_word : List (List ℕ) → Bool
waits_for_word [] = false
waits_for_word (line ∷ lines) = asks_for_word (fields_of lines) && not (says_old_version line)

-- how many bytes of a body a head tells
abbrev pub body_behind : List ℕ → Option ℕ
body_behind head = body_of (fields_of (drop 1 (head_lines (lines_of head))))

-- the head asks for the end of the connection
abbrev pub ends_behind : List ℕ → Bool
ends_behind head = is_last (head_lines (lines_of head))

-- the client waits for word that it may send the body
abbrev pub expects_behind : List ℕ → Bool
expects_behind head = waits_for_word (head_lines (lines_of head))

-- the length that is told with one field more
abbrev pub body_with : Told → Bool → Bool → List ℕ → Option ℕ
body_with told is_length is_coding value =
    if is_coding then None
    else (if is_length then (if told.framed then None else number_of_digits (trimmed value)) else told.body)

-- what is told with one field more
abbrev pub with_field : Told → List ℕ × List ℕ → Told
with_field told field = record {
  body = body_with told (is_name (codes "content-length") field) (is_name (codes "transfer-encoding") field) field.1;
  framed = told.framed || (is_name (codes "content-length") field || is_name (codes "transfer-encoding") field);
  last = told.last || (is_name (codes "connection") field && says_close field.1);
  expects = told.expects || (is_name (codes "expect") field && says_continue field.1);
}

-- what is told with one line more
abbrev pub with_line : Told → List ℕ → Told
with_line told line = option_map_or (with_field told) (parts_at 58 line) told
