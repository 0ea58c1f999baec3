-- The date of a second as the kit's `httpdate` shows it.
use Rattle.std.specs.Prelude.{ℕ, ◌/◌, ◌%◌, List, codes, bytes_eq, if◌then◌else◌}
use Rattle.httpdate.specs.Calendar.{weekday}
use Rattle.httpdate.specs.declared.parts.Parts.{Parts}
use Rattle.cdni_log.specs.Date.{CivilDate, date_of}

abbrev pub parts_at : CivilDate → ℕ → ℕ → Parts
parts_at date day second = record {
  year = date.year;
  mon = date.month;
  day = date.day;
  hour = second / 3600;
  min = second % 3600 / 60;
  sec = second % 60;
  wday = weekday day;
}

-- the numbers of the date and time of a second since 1970
abbrev pub parts_of : ℕ → Parts
parts_of second = parts_at (date_of (second / 86400)) (second / 86400) (second % 86400)

-- the number of the month of this name, of three letters
abbrev pub number_of_month : List ℕ → ℕ
number_of_month name = if bytes_eq name (codes "Jan") then 1 else
    (if bytes_eq name (codes "Feb") then 2 else
    (if bytes_eq name (codes "Mar") then 3 else
    (if bytes_eq name (codes "Apr") then 4 else
    (if bytes_eq name (codes "May") then 5 else
    (if bytes_eq name (codes "Jun") then 6 else
    (if bytes_eq name (codes "Jul") then 7 else
    (if bytes_eq name (codes "Aug") then 8 else
    (if bytes_eq name (codes "Sep") then 9 else
    (if bytes_eq name (codes "Oct") then 10 else
    (if bytes_eq name (codes "Nov") then 11 else 12))))))))))
