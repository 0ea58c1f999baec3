-- Reading a metadata object: the value, or the first fault in the order of reading.
use Rattle.std.specs.Prelude.{◌≡◌, ℕ, ◌+◌, Bool, List, [], ◌∷◌, codes, None, Some, Ok, Err, nat_lt, if◌then◌else◌}
use Rattle.std.specs.Option.{is_some}
use Rattle.std.specs.declared.option.Option.{Option}
use Rattle.std.specs.declared.result.Result.{Result}
use Rattle.serde_json.specs.Data.{Data, Items, no_items, item}
use Rattle.serde_json.specs.Find.{get, as_object}
use Rattle.json_read.specs.Field.{◌>>=◌, or_fault, looked_up, needed, text_of, flag_of}
use Rattle.json_read.specs.Path.{child_of, item_of}
use Rattle.json_read.specs.declared.fault.FieldCause.TheVariants.{OutOfRange}
use Rattle.json_read.specs.declared.fault.FieldFault.{FieldFault}
use Rattle.json_read.specs.declared.fault.JsonFault.{JsonFault}
use Rattle.json_read.specs.declared.fault.JsonFault.TheVariants as json_fault
use Rattle.metadata_objects.specs.declared.object.TheConstants.{OBJECTS_MAX}
use Rattle.metadata_objects.specs.declared.fault.MetaFault.{MetaFault}
use Rattle.metadata_objects.specs.declared.fault.MetaFault.TheVariants as meta_fault

-- the value, or the first fault
abbrev pub Reading : Type 0 → Type 0
Reading A = Result A MetaFault

abbrev pub fault_of : JsonFault → MetaFault
fault_of (json_fault.Field fault) = meta_fault.Field fault
fault_of json_fault.Memory = meta_fault.Memory

-- a reading of a field
abbrev pub field : {A : Type 0} → Result A FieldFault → Reading A
field (Ok a) = Ok a
field (Err fault) = Err (meta_fault.Field fault)

-- one object more than n, of which there are at most 10,000
abbrev pub counted : ℕ → Reading ℕ
counted n = if nat_lt n OBJECTS_MAX then Ok (n + 1) else Err (meta_fault.TooMany (OBJECTS_MAX + 1))

-- a Link stands where an object has a property `href`
abbrev pub no_link : List ℕ → Data → Reading (Unit {0})
no_link path value = if is_some (get (codes "href") value) then Err (meta_fault.Link path) else Ok tt

-- what a text stands for, which is out of range where it stands for nothing
abbrev pub in_range : {A : Type 0} → List ℕ → Option A → Reading A
in_range path found = field (or_fault path OutOfRange found)

abbrev pub needed_text : List ℕ → List ℕ → Data → Reading (List ℕ)
needed_text path name value = field (needed path name value >>= λ member. text_of (child_of path name) member)

abbrev pub flag_of_found : List ℕ → Bool → Option Data → Result Bool FieldFault
flag_of_found path absent None = Ok absent
flag_of_found path absent (Some member) = flag_of path member

-- the flag of a property, or what its absence means
abbrev pub flag_or : List ℕ → List ℕ → Bool → Data → Reading Bool
flag_or path name absent value = field (looked_up path name value
    >>= λ found. flag_of_found (child_of path name) absent found)

-- the items one after the other, from the i-th on, each read at its own place after n objects were counted
unfoldable pub all_of : {A : Type 0} → (List ℕ → ℕ → Data → Reading (A × ℕ)) → List ℕ → ℕ → ℕ → Items
    → Reading (List A × ℕ)
all_of read path i n no_items = Ok ([], n)
all_of read path i n (item value values) = do
  first ← read (item_of path i) n value
  others ← all_of read path (i + 1) first.1 values
  Ok (first.0 ∷ others.0, others.1)

-- the fault is this one, or want of memory
abbrev pub IsOutOfRange : List ℕ → List ℕ → MetaFault → Type 0
IsOutOfRange path name meta_fault.Memory = Unit {0}
IsOutOfRange path name fault = fault ≡ meta_fault.Field (record { path = child_of path name; cause = OutOfRange })

-- the fault is that of the reading, or want of memory
abbrev pub Fails : {B : Type 0} → MetaFault → Reading B → Type 0
Fails meta_fault.Memory reading = Unit {0}
Fails fault reading = reading ≡ Err fault

-- a reader answers the reading, its value as it is seen, or finds no memory
abbrev pub Gives : {A B : Type 0} → (A → B) → Result A MetaFault → Reading B → Type 0
Gives seen (Ok a) reading = reading ≡ Ok (seen a)
Gives seen (Err fault) reading = Fails fault reading

-- they have the same at each of these names
abbrev pub AgreeAt : List (List ℕ) → Data → Data → Type 0
AgreeAt [] value other = Unit {0}
AgreeAt (name ∷ names) value other = (get name value ≡ get name other) × AgreeAt names value other

-- both are objects, or neither is, and they have the same at each of these names
pub record AgreeOn (names : List (List ℕ)) (value other : Data) : Type 0 where
  pub objects : is_some (as_object value) ≡ is_some (as_object other)
  pub members : AgreeAt names value other
