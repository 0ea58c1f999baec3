-- What the values of a record are, in the words of the standards (RFC 7937, section 3.4.1).
use Rattle.std.specs.Prelude.{◌≡◌, ◌<◌, ◌≤◌, ◌⊎◌, ℕ, ◌^◌, Bool, IsTrue, List, ◌∷◌, ◌++◌, codes, decimal, length, slice_index}
use Rattle.std.specs.Char.{is_ascii_digit}
use Rattle.std.specs.List.{list_all}
use Rattle.std.specs.Str.{str_to_ascii_lowercase}
use Rattle.std.specs.declared.option.Option.{Option}
use Rattle.httpdate.specs.Calendar.{IsCivilDate}
use Rattle.targets.specs.Grammar.{IsHost, IsPath, IsQuery}
use Rattle.targets.specs.Target.{url_of}
use Rattle.cdni_log.specs.Columns.{IsOptional}
use Rattle.cdni_log.specs.Date.{CivilDate, clock_text, date_text, three_digits}
use Rattle.cdni_log.specs.Field.{is_token_byte}
use Rattle.cdni_log.specs.declared.field.Field.{Field}
use Rattle.cdni_log.specs.declared.field.Field.TheVariants as field

-- a date of the calendar, in the years 1970 to 9999
abbrev pub IsDateText : List ℕ → Type 0
IsDateText text = (date : CivilDate) × (text ≡ date_text date) × IsCivilDate date.year date.month date.day

-- a time of day with milliseconds
abbrev pub IsTimeText : List ℕ → Type 0
IsTimeText text = (second : ℕ) × (thousandth : ℕ) × (text ≡ clock_text second ++ 46 ∷ three_digits thousandth)
    × (second < 86400) × (thousandth < 1000)

-- a number below 2 ^ 64
abbrev pub IsNumberText : List ℕ → Type 0
IsNumberText text = (n : ℕ) × (text ≡ decimal n)

-- three digits
abbrev pub AreThreeDigits : List ℕ → Type 0
AreThreeDigits text = (length text ≡ 3) × IsTrue (list_all is_ascii_digit text)

-- seconds with three decimals
abbrev pub IsSecondsText : List ℕ → Type 0
IsSecondsText text = (n : ℕ) × (decimals : List ℕ) × (text ≡ decimal n ++ 46 ∷ decimals) × AreThreeDigits decimals

-- the number of an autonomous system, or none
abbrev pub IsGroupText : List ℕ → Type 0
IsGroupText text = (text ≡ codes "-") ⊎ ((n : ℕ) × (text ≡ codes "as" ++ decimal n) × (n < 2 ^ 32))

-- an absolute URL as it is written (RFC 3986, section 5.3): the scheme `http` or `https`, a host in lower case, the
-- port where it is not 80, a path and a query, where there is one
abbrev pub IsUrlText : List ℕ → Type 0
IsUrlText text = (secure : Bool) × (host : List ℕ) × (port : ℕ) × (path : List ℕ) × (query : Option (List ℕ))
    × (text ≡ url_of secure host port path query) × IsHost host × (str_to_ascii_lowercase host ≡ host)
    × (1 ≤ port) × (port ≤ 65535) × IsPath path × IsQuery query

-- a text in quotes that is read back, or none
abbrev pub IsOptionalText : List ℕ → Type 0
IsOptionalText text = (value : Option (List ℕ)) × IsOptional value text

-- a value of a field
abbrev pub IsValueOf : Field → List ℕ → Type 0
IsValueOf field.Date text = IsDateText text
IsValueOf field.Time text = IsTimeText text
IsValueOf field.TimeTaken text = IsSecondsText text
IsValueOf field.GroupId text = IsGroupText text
IsValueOf field.Method text = (0 < length text) × IsTrue (list_all is_token_byte text)
IsValueOf field.CsUri text = IsUrlText text
IsValueOf field.UUri text = IsUrlText text
IsValueOf field.Protocol text = text ≡ codes "HTTP/1.1"
IsValueOf field.Status text = AreThreeDigits text × (49 ≤ slice_index text 0)
IsValueOf field.TotalBytes text = IsNumberText text
IsValueOf field.EntityBytes text = IsNumberText text
IsValueOf field.Ccid text = IsOptionalText text
IsValueOf field.Cached text = (text ≡ codes "0") ⊎ (text ≡ codes "1")
IsValueOf (field.Header header) text = IsOptionalText text
