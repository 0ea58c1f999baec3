-- What holds at a door whenever it is asked for a connection, and when one is closed: in a run without end too.
use Rattle.std.specs.Prelude.{◌≡◌, List, [], ◌∷◌, ◌++◌, All, None, Some}
use Rattle.std.specs.List.{flat_map}
use Rattle.std.specs.declared.option.Option.{Option}
use Rattle.location_acl.specs.declared.line.PlaceLine.{PlaceLine}
use Rattle.session_base.specs.declared.settings.Settings.{Settings}
use Rattle.doors.specs.Door.{Book, Gave, Given, Shut}
use Rattle.doors.specs.Visit.{IsVisit, Visit, passed_of}

-- the connection was served by a session, under some settings and places
abbrev pub IsServed : Visit → Type 0
IsServed v = (settings : Settings) × (table : List PlaceLine) × IsVisit settings table v

-- each connection that the door gave was served, and closed before the next one was given
pub record HasServedAllIn (book : Book) : Type 0 where
  pub visits : List Visit
  pub served : All IsServed visits
  pub passed : book.passed ≡ flat_map passed_of visits

abbrev pub HasServedAll : Option Book → Type 0
HasServedAll None = Unit {0}
HasServedAll (Some book) = HasServedAllIn book

-- the door gave this connection last, and each one before it was served and closed
pub record HasGivenLastIn (book : Book) (given : Given) : Type 0 where
  pub visits : List Visit
  pub served : All IsServed visits
  pub passed : book.passed ≡ flat_map passed_of visits ++ Gave given ∷ []

abbrev pub HasGivenLast : Option Book → Given → Type 0
HasGivenLast None given = Unit {0}
HasGivenLast (Some book) given = HasGivenLastIn book given

-- the connection that is to be closed so was given last, and it was served
abbrev pub WasServed : Option Book → Shut → Type 0
WasServed book shut = (v : Visit) × IsServed v × (v.shut ≡ shut) × HasGivenLast book v.given
