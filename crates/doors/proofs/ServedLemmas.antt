-- Each connection that a door gives is served before the next one is asked for.
use Rattle.std.proofs.Common.{◌≡◌, List, [], ◌∷◌, ◌++◌, All, None, Some, Option, refl, sym, ap, ◌∙◌, subst, append_assoc}
use Rattle.std.proofs.lemmas.List.Elements.{All-append, All-cons, All-nil}
use Rattle.std.proofs.lemmas.Grind.{flat_map-append}
use Rattle.std.specs.List.{flat_map}
use Rattle.location_acl.specs.declared.line.PlaceLine.{PlaceLine}
use Rattle.session_base.specs.declared.settings.Settings.{Settings}
use Rattle.doors.specs.Door.{Accepts, Book, Gave, Given, Passed, Shut, Shuts, Took, One, Closed, Failed, Memory}
use Rattle.doors.specs.Outside.{HasPassedNothing}
use Rattle.doors.specs.Served.{HasGivenLast, HasGivenLastIn, HasServedAll, HasServedAllIn, IsServed, WasServed}
use Rattle.doors.specs.Visit.{IsVisit, Visit, passed_of}

pub is_served : (settings : Settings) (table : List PlaceLine) (v : Visit) → IsVisit settings table v → IsServed v
is_served settings table v visit = (settings, table, visit)

-- a door at which nothing has passed
pub none_passed : (book : Option Book) → HasPassedNothing book → HasServedAll book
none_passed None new = tt
none_passed (Some book) new = record { visits = []; served = All-nil IsServed; passed = new }

-- nothing is given
still : (old new : Book) → new ≡ old → HasServedAllIn old → HasServedAllIn new
still old new same all = subst HasServedAllIn (sym same) all

pub at_closed : (old new : Option Book) → Accepts old new Closed → HasServedAll old → HasServedAll new
at_closed None None is all = tt
at_closed None (Some new) is all = elim is [ ]
at_closed (Some old) None is all = tt
at_closed (Some old) (Some new) is all = still old new is.1 all

pub at_failed : (old new : Option Book) → Accepts old new Failed → HasServedAll old → HasServedAll new
at_failed None None is all = tt
at_failed None (Some new) is all = elim is [ ]
at_failed (Some old) None is all = tt
at_failed (Some old) (Some new) is all = still old new is.1 all

pub at_memory : (old new : Option Book) → Accepts old new Memory → HasServedAll old → HasServedAll new
at_memory None None is all = tt
at_memory None (Some new) is all = elim is [ ]
at_memory (Some old) None is all = tt
at_memory (Some old) (Some new) is all = still old new is all

-- one is given
pub at_given : (old new : Option Book) (given : Given) → Accepts old new (One given) → HasServedAll old → HasGivenLast new given
at_given None None given is all = tt
at_given None (Some new) given is all = elim is [ ]
at_given (Some old) None given is all = tt
at_given (Some old) (Some new) given is all = record { visits = all.visits; served = all.served; passed = is.1 ∙ ap (λ (l : List Passed). l ++ Gave given ∷ []) all.passed }

-- and closed
pub at_close : (old new : Option Book) (v : Visit) → IsServed v → HasGivenLast old v.given → Shuts old new v.shut → HasServedAll new
at_close None None v served last shuts = tt
at_close None (Some new) v served last shuts = elim shuts [ ]
at_close (Some old) None v served last shuts = tt
at_close (Some old) (Some new) v served last shuts = record {
  visits = last.visits ++ v ∷ [];
  served = All-append IsServed last.visits (v ∷ []) last.served (All-cons IsServed v [] served (All-nil IsServed));
  passed = shuts.passed ∙ ap (λ (l : List Passed). l ++ Took v.shut ∷ []) last.passed
      ∙ append_assoc (flat_map passed_of last.visits) (Gave v.given ∷ []) (Took v.shut ∷ [])
      ∙ sym (flat_map-append passed_of last.visits (v ∷ []));
}
