-- Answers (RFC 9112, section 2.1).
use Rattle.std.specs.Prelude.{◌≡◌, ℕ, ◌-◌, ◌/◌, ◌<◌, Bool, true, false, List, [], ◌++◌, length, take, codes, None, Some}
use Rattle.std.specs.Borrow.{Bor}
use Rattle.std.specs.Io.KnownBytes.{Appends}
use Rattle.std.specs.Option.{option_map}
use Rattle.std.specs.declared.option.Option.{Option}
use Rattle.answer_head.specs.Answer.{status_line, field_line, date_line, length_line, kind_line, ranges_line, content_range_line, allow_line, place_text, close_line, line_end}
use Rattle.answer_head.specs.declared.answer.Allow.{Allow}
use Rattle.answer_head.specs.declared.answer.AnswerHead.{AnswerHead}
use Rattle.answer_head.specs.declared.answer.ContentRange.{ContentRange}
use Rattle.httpdate.specs.Date.{unix_secs}
use Rattle.httpdate.specs.declared.date.HttpDate.{HttpDate}
use Rattle.session_base.specs.declared.constant.Constant.{Constant}
use Rattle.session_base.specs.declared.constant.Constant.TheVariants as constant
use Rattle.session_base.specs.declared.send.Sent.{Sent}

-- what the head of an answer says: the status, the moment of Date, Content-Length, Content-Type, which is left out where
-- it is empty, Accept-Ranges, Content-Range, Allow, Location, and whether the connection closes
pub record Saying : Type 0 where
  pub status : ℕ
  pub moment : ℕ
  pub size : Option ℕ
  pub kind : List ℕ
  pub ranges : Bool
  pub range : Option ContentRange
  pub allow : Option Allow
  pub location : Option (List ℕ)
  pub close : Bool

-- Location (RFC 9110, section 10.2.2), where there is one
abbrev pub location_part : Option (List ℕ) → List ℕ
location_part None = []
location_part (Some text) = field_line (codes "Location") text

-- the head, with this date
unfoldable pub saying_text : Saying → HttpDate → List ℕ
saying_text saying date =
    (status_line saying.status ++ date_line date ++ length_line saying.size ++ kind_line saying.kind)
    ++ (ranges_line saying.ranges ++ content_range_line saying.range)
    ++ (allow_line saying.allow ++ location_part saying.location ++ close_line saying.close ++ line_end)

abbrev pub kind_in : Option (Bor (List ℕ)) → List ℕ
kind_in None = []
kind_in (Some kind) = kind.now

-- what a head says that is put together of parts
abbrev pub saying_of : AnswerHead → Saying
saying_of head = record {
  status = head.status;
  moment = head.moment;
  size = head.length;
  kind = kind_in head.kind;
  ranges = head.ranges;
  range = head.content_range;
  allow = head.allow;
  location = option_map place_text head.location;
  close = head.close;
}

-- an answer as bytes, with its status
pub record Answer : Type 0 where
  pub status : ℕ
  pub head : List ℕ
  pub body : List ℕ

abbrev pub wire : Answer → List ℕ
wire answer = answer.head ++ answer.body

-- the answer has this head, with the date of its moment, and these bytes behind it
pub record IsSaid (saying : Saying) (body : List ℕ) (answer : Answer) : Type 0 where
  pub date : HttpDate
  pub second : unix_secs date ≡ saying.moment / 1000
  pub is : answer ≡ record { status = saying.status; head = saying_text saying date; body = body }

-- the constant answers, of no body, behind which the connection closes
unfoldable pub constant_text : Constant → List ℕ
constant_text constant.BadRequest = codes "HTTP/1.1 400 Bad Request\r\nContent-Length: 0\r\nConnection: close\r\n\r\n"
constant_text constant.LengthRequired =
    codes "HTTP/1.1 411 Length Required\r\nContent-Length: 0\r\nConnection: close\r\n\r\n"
constant_text constant.ContentTooLarge =
    codes "HTTP/1.1 413 Content Too Large\r\nContent-Length: 0\r\nConnection: close\r\n\r\n"
constant_text constant.Unavailable =
    codes "HTTP/1.1 503 Service Unavailable\r\nContent-Length: 0\r\nConnection: close\r\n\r\n"

abbrev pub constant_status : Constant → ℕ
constant_status constant.BadRequest = 400
constant_status constant.LengthRequired = 411
constant_status constant.ContentTooLarge = 413
constant_status constant.Unavailable = 503

abbrev pub constant_answer : Constant → Answer
constant_answer which = record { status = constant_status which; head = constant_text which; body = [] }

abbrev pub IsConstant : Constant → Answer → Type 0
IsConstant which answer = answer ≡ constant_answer which

-- the sink took the whole answer, or what it took before its first fault
pub record Takes (answer : Answer) (written : List ℕ) (fault : Bool) : Type 0 where
  pub front : written ≡ take (length written) (wire answer)
  pub whole : fault ≡ false → written ≡ wire answer
  pub part : fault ≡ true → length written < length (wire answer)

-- what is told of it: the status, how many bytes the sink took, and how many of them were of the body
pub record Counts (answer : Answer) (written : List ℕ) (sent : Sent) : Type 0 where
  pub status : sent.status ≡ answer.status
  pub taken : sent.taken ≡ length written
  pub entity : sent.entity ≡ length written - length answer.head

-- such an answer was written, and this is told of it
pub record Says (Is : Answer → Type 0) (held held' : Option (List ℕ)) (sent : Sent) : Type 0 where
  pub answer : Answer
  pub written : List ℕ
  pub is : Is answer
  pub put : Appends held held' written
  pub takes : Takes answer written sent.fault
  pub counts : Counts answer written sent
