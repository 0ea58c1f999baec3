-- Heads of answers (RFC 9112, sections 4 and 5).
use Rattle.std.specs.Prelude.{◌≡◌, ℕ, ◌+◌, ◌/◌, ◌%◌, ◌<◌, ◌≤◌, Bool, true, false, List, [], ◌∷◌, ◌++◌, length, codes, decimal, None, Some, ◌==◌, ◌||◌, if◌then◌else◌}
use Rattle.std.specs.Borrow.{Bor}
use Rattle.std.specs.declared.option.Option.{Option}
use Rattle.byte_range.specs.Put.{range_text}
use Rattle.cdni_base.specs.Scratch.{Room}
use Rattle.httpdate.specs.Date.{date_text}
use Rattle.httpdate.specs.declared.date.HttpDate.{HttpDate}
use Rattle.answer_head.specs.declared.answer.TheConstants.{DIGIT_ZERO}
use Rattle.answer_head.specs.declared.answer.AnswerHead.{AnswerHead}
use Rattle.answer_head.specs.declared.answer.Location.{Location}
use Rattle.answer_head.specs.declared.answer.ContentRange.{ContentRange}
use Rattle.answer_head.specs.declared.answer.ContentRange.TheVariants as range
use Rattle.answer_head.specs.declared.answer.Allow.{Allow}
use Rattle.answer_head.specs.declared.answer.Allow.TheVariants as allow
use Rattle.answer_head.specs.declared.answer.Made.{Made}
use Rattle.answer_head.specs.declared.answer.Made.TheVariants as made

-- the end of a line (RFC 9112, section 2.1)
abbrev pub line_end : List ℕ
line_end = codes "\r\n"

-- reason phrases (RFC 9110, section 15)
unfoldable pub phrase_of : ℕ → List ℕ
phrase_of status =
    if status == 200 then codes "OK" else if status == 201 then codes "Created"
    else if status == 204 then codes "No Content"
    else if status == 206 then codes "Partial Content" else if status == 400 then codes "Bad Request"
    else if status == 403 then codes "Forbidden" else if status == 404 then codes "Not Found"
    else if status == 405 then codes "Method Not Allowed" else if status == 410 then codes "Gone"
    else if status == 411 then codes "Length Required" else if status == 413 then codes "Content Too Large"
    else if status == 416 then codes "Range Not Satisfiable" else if status == 502 then codes "Bad Gateway"
    else codes "Service Unavailable"

-- the statuses that are answered
abbrev pub is_answer_status : ℕ → Bool
is_answer_status status =
    status == 200 || status == 201 || status == 204 || status == 206 || status == 400 || status == 403 || status == 404
    || status == 405 || status == 410 || status == 411 || status == 413 || status == 416 || status == 502
    || status == 503

-- status-code: three digits (RFC 9112, section 4)
abbrev pub three_digits : ℕ → List ℕ
three_digits n = (DIGIT_ZERO + n / 100) ∷ (DIGIT_ZERO + n / 10 % 10) ∷ (DIGIT_ZERO + n % 10) ∷ []

-- status-line (RFC 9112, section 4)
unfoldable pub status_line : ℕ → List ℕ
status_line status = codes "HTTP/1.1 " ++ three_digits status ++ codes " " ++ phrase_of status ++ line_end

-- field-line, with one space before the value (RFC 9112, section 5)
abbrev pub field_line : List ℕ → List ℕ → List ℕ
field_line name value = name ++ codes ": " ++ value ++ line_end

-- Date (RFC 9110, section 6.6.1)
unfoldable pub date_line : HttpDate → List ℕ
date_line date = field_line (codes "Date") (date_text date)

-- Content-Length (RFC 9110, section 8.6), where there is one
unfoldable pub length_line : Option ℕ → List ℕ
length_line None = []
length_line (Some n) = field_line (codes "Content-Length") (decimal n)

-- Content-Type (RFC 9110, section 8.3), where it is not empty
unfoldable pub kind_line : List ℕ → List ℕ
kind_line kind = if length kind == 0 then [] else field_line (codes "Content-Type") kind

-- Accept-Ranges (RFC 9110, section 14.3)
unfoldable pub ranges_line : Bool → List ℕ
ranges_line false = []
ranges_line true = field_line (codes "Accept-Ranges") (codes "bytes")

-- a part of the body, or that no part of it is asked for
abbrev pub content_range_text : ContentRange → List ℕ
content_range_text (range.Part first last len) = range_text first last len
content_range_text (range.None len) = codes "bytes */" ++ decimal len

-- Content-Range (RFC 9110, section 14.4)
unfoldable pub content_range_line : Option ContentRange → List ℕ
content_range_line None = []
content_range_line (Some given) = field_line (codes "Content-Range") (content_range_text given)

-- the methods of content, and those of control
abbrev pub allow_text : Allow → List ℕ
allow_text allow.Content = codes "GET, HEAD"
allow_text allow.Control = codes "GET, POST, DELETE"

-- Allow (RFC 9110, section 10.2.1)
unfoldable pub allow_line : Option Allow → List ℕ
allow_line None = []
allow_line (Some given) = field_line (codes "Allow") (allow_text given)

-- the path at which something that was made stands
abbrev pub made_path : Made → List ℕ
made_path made.Trigger = codes "/triggers/"
made_path made.LogFile = codes "/logs/"

-- `http://HOST/triggers/NUMBER`, `http://HOST/logs/NUMBER`
abbrev pub location_text : List ℕ → Made → ℕ → List ℕ
location_text host made number = codes "http://" ++ host ++ made_path made ++ decimal number

-- Connection (RFC 9110, section 7.6.1)
unfoldable pub close_line : Bool → List ℕ
close_line false = []
close_line true = field_line (codes "Connection") (codes "close")

abbrev pub place_text : Location → List ℕ
place_text location = location_text location.host.now location.made location.number

-- Location (RFC 9110, section 10.2.2)
abbrev pub location_line : Option Location → List ℕ
location_line None = []
location_line (Some given) = field_line (codes "Location") (place_text given)

-- Content-Type of a name
abbrev pub kind_line_of : Option (Bor (List ℕ)) → List ℕ
kind_line_of None = []
kind_line_of (Some name) = kind_line name.now

abbrev pub message_lines : AnswerHead → HttpDate → List ℕ
message_lines head date = status_line head.status ++ date_line date ++ length_line head.length ++ kind_line_of head.kind

abbrev pub range_lines : AnswerHead → List ℕ
range_lines head = ranges_line head.ranges ++ content_range_line head.content_range

abbrev pub link_lines : AnswerHead → List ℕ
link_lines head = allow_line head.allow ++ location_line head.location ++ close_line head.close ++ line_end

-- the head: a status line, the fields that are there, and an empty line (RFC 9112, section 2.1)
unfoldable pub head_text : AnswerHead → HttpDate → List ℕ
head_text head date = message_lines head date ++ range_lines head ++ link_lines head

-- the text was added; or it does not fit, and some bytes were
abbrev pub Adds : Room → Room → List ℕ → Bool → Type 0
Adds old new text true = new ≡ record { text = old.text ++ text; room = old.room }
Adds old new text false = (old.room < length old.text + length text) × ((some : List ℕ)
    × (new ≡ record { text = old.text ++ some; room = old.room }))

-- at most so many bytes were added, and all were where there is room for so many
pub record Fits (most : ℕ) (old new : Room) (result : Bool) : Type 0 where
  pub grown : length new.text ≤ length old.text + most
  pub same : new.room ≡ old.room
  pub all : length old.text + most ≤ old.room → result ≡ true
