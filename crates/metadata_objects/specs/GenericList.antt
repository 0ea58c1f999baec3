-- What is found of a list of metadata objects (RFC 8006, section 4.1.7).
use Rattle.std.specs.Prelude.{◌≡◌, ℕ, Bool, true, false, not, bytes_eq, codes, List, slice_get, None, Some, ◌&&◌}
use Rattle.std.specs.List.{find}
use Rattle.std.specs.declared.option.Option.{Option}
use Rattle.metadata_objects.specs.declared.generic.Generic.{Generic}
use Rattle.metadata_objects.specs.declared.generic.Held.{Held}
use Rattle.metadata_objects.specs.declared.generic.Held.TheVariants as held
use Rattle.metadata_objects.specs.declared.generic_list.Places.{Places}
use Rattle.metadata_objects.specs.declared.generic_list.Understood.{Understood}
use Rattle.metadata_objects.specs.declared.generic_list.Understood.TheVariants as understood

-- the object is of this type
abbrev pub is_of_kind : List ℕ → Generic → Bool
is_of_kind kind object = bytes_eq object.kind kind

abbrev pub is_understood : Held → Bool
is_understood held.NotUnderstood = false
is_understood _ = true

-- the object must be enforced and is not understood
abbrev pub is_unenforceable : Generic → Bool
is_unenforceable object = object.mandatory && not (is_understood object.held)

-- the name of a type that is understood, in lower case
abbrev pub kind_name : Understood → List ℕ
kind_name understood.Source = codes "mi.sourcemetadata"
kind_name understood.Location = codes "mi.locationacl"
kind_name understood.Time = codes "mi.timewindowacl"
kind_name understood.Protocol = codes "mi.protocolacl"
kind_name understood.Cache = codes "mi.cache"
kind_name understood.Grouping = codes "mi.grouping"

-- the place of the type among these
abbrev pub place_of : Places → Understood → Option ℕ
place_of first understood.Source = first.source
place_of first understood.Location = first.location
place_of first understood.Time = first.time
place_of first understood.Protocol = first.protocol
place_of first understood.Cache = first.cache
place_of first understood.Grouping = first.grouping

-- the first object of the type stands there, or there is none
abbrev pub IsFirstAt : List ℕ → List Generic → Option ℕ → Type 0
IsFirstAt kind objects None = find (is_of_kind kind) objects ≡ None
IsFirstAt kind objects (Some place) = (object : Generic) × (find (is_of_kind kind) objects ≡ Some object)
    × (slice_get objects place ≡ Some object)

-- the places are those of the first objects of the types that are understood
abbrev pub AreFirst : List Generic → Places → Type 0
AreFirst objects first = (kind : Understood) → IsFirstAt (kind_name kind) objects (place_of first kind)

-- no type stands anywhere
abbrev pub no_places : Places
no_places = record { source = None; location = None; time = None; protocol = None; cache = None; grouping = None }
