-- Fields of a JSON value: each reading is the value, or the first fault with its place and cause.
use Rattle.std.specs.Prelude.{◌≡◌, ℕ, Bool, List, None, Some, Ok, Err, nat_le, if◌then◌else◌}
use Rattle.std.specs.Option.{option_and_then}
use Rattle.std.specs.declared.option.Option.{Option}
use Rattle.std.specs.declared.result.Result.{Result}
use Rattle.serde_json.specs.Data.{Data, Items}
use Rattle.serde_json.specs.Find.{get_member, as_object, as_str, as_array, as_bool, as_number, as_u64}
use Rattle.json_read.specs.declared.fault.FieldCause.{FieldCause}
use Rattle.json_read.specs.declared.fault.FieldCause.TheVariants.{Missing, WrongKind, OutOfRange}
use Rattle.json_read.specs.declared.fault.FieldFault.{FieldFault}
use Rattle.json_read.specs.declared.fault.JsonFault.{JsonFault}
use Rattle.json_read.specs.declared.fault.JsonFault.TheVariants as json_fault
use Rattle.json_read.specs.Path.{child_of}

-- the first reading, and then the second with its value; the first fault of the two
infixl 10 ◌>>=◌
abbrev pub ◌>>=◌ : {A B F : Type 0} → Result A F → (A → Result B F) → Result B F
◌>>=◌ (Ok a) next = next a
◌>>=◌ (Err fault) next = Err fault

-- what was found, or this cause at this place
abbrev pub or_fault : {A : Type 0} → List ℕ → FieldCause → Option A → Result A FieldFault
or_fault path cause None = Err (record { path = path; cause = cause })
or_fault path cause (Some a) = Ok a

-- a member that may be absent
abbrev pub looked_up : List ℕ → List ℕ → Data → Result (Option Data) FieldFault
looked_up path name value = or_fault path WrongKind (as_object value) >>= λ members. Ok (get_member name members)

-- a member that must be there
abbrev pub needed : List ℕ → List ℕ → Data → Result Data FieldFault
needed path name value = looked_up path name value >>= λ found. or_fault (child_of path name) Missing found

abbrev pub text_of : List ℕ → Data → Result (List ℕ) FieldFault
text_of path value = or_fault path WrongKind (as_str value)

abbrev pub items_of : List ℕ → Data → Result Items FieldFault
items_of path value = or_fault path WrongKind (as_array value)

abbrev pub flag_of : List ℕ → Data → Result Bool FieldFault
flag_of path value = or_fault path WrongKind (as_bool value)

-- a whole number from 0 to 2^64 - 1 that is not above max
abbrev pub whole_of : List ℕ → ℕ → Data → Result ℕ FieldFault
whole_of path max value = or_fault path WrongKind (option_and_then as_u64 (as_number value))
    >>= λ n. or_fault path OutOfRange (if nat_le n max then Some n else None)

-- the fault is this one, or want of memory
abbrev pub IsFaultAt : List ℕ → FieldCause → JsonFault → Type 0
IsFaultAt path cause (json_fault.Field fault) = fault ≡ record { path = path; cause = cause }
IsFaultAt path cause json_fault.Memory = Unit {0}

-- the fault is that of the reading, or want of memory
abbrev pub Fails : {B : Type 0} → JsonFault → Result B FieldFault → Type 0
Fails (json_fault.Field fault) reading = reading ≡ Err fault
Fails json_fault.Memory reading = Unit {0}

-- a reader answers the reading, its value as it is seen, or finds no memory
abbrev pub Gives : {A B : Type 0} → (A → B) → Result A JsonFault → Result B FieldFault → Type 0
Gives seen (Ok a) reading = reading ≡ Ok (seen a)
Gives seen (Err fault) reading = Fails fault reading
