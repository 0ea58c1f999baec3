-- Values of the kit's `json` as documents.
use Rattle.std.specs.Prelude.{◌≡◌, ℕ, zero, suc, Bool, List, [], ◌∷◌, map, None, Some, Ok, Err, bytes_eq, if◌then◌else◌}
use Rattle.std.specs.Borrow.{Bor}
use Rattle.std.specs.declared.option.Option.{Option}
use Rattle.std.specs.declared.result.Result.{Result}
use Rattle.std.specs.declared.vec.IntoIter.{IntoIter}
use Rattle.std.specs.declared.vec.Vec.{Vec}
use Rattle.std.specs.Vec.Iter.{into_iter_items}
use Rattle.std.specs.declared.alloc.Global.{Global}
use Rattle.json.specs.Value.{value_view, members_view}
use Rattle.json.specs.declared.value.Value.{Value}
use Rattle.json.specs.declared.value.Value.TheVariants as variant
use Rattle.json_read.specs.Text.{json_of}
use Rattle.json_read.specs.Borrowed.{data_of, members_data}
use Rattle.metadata_objects.specs.declared.fault.MetaFault.{MetaFault}
use Rattle.metadata_objects.specs.declared.fault.MetaFault.TheVariants as meta_fault
use Rattle.serde_json.specs.Data.{Data, object, Members, no_members}
use Rattle.serde_json.specs.Find.{get_member, as_array, as_object}
use Rattle.serde_json.specs.View.{items_of}
use Rattle.metadata_links.specs.Gathering.{values_of}
use Rattle.metadata_links.specs.Joined.{Filling, items_filled, member_filled}

-- what a value is for `serde_json`
abbrev pub seen : Value Global → Data
seen value = data_of (value_view value)

-- a member of an object of the kit's `json`: its name and its value
abbrev pub Member : Type 0
Member = Bor (List ℕ) × Value Global

abbrev pub all_seen : List (Value Global) → List Data
all_seen values = map seen values

-- the value and the documents that were left are filled to these
abbrev pub Fills : Filling → Value Global → IntoIter (Value Global) Global → Value Global → IntoIter (Value Global) Global → Type 0
Fills filling before documents after left =
    filling (seen before) (all_seen (into_iter_items documents)) ≡ (seen after, all_seen (into_iter_items left))

-- the items of a list and the documents that were left are filled to these
abbrev pub FillsEach : Filling → List (Value Global) → IntoIter (Value Global) Global → List (Value Global) → IntoIter (Value Global) Global → Type 0
FillsEach filling before documents after left =
    items_filled filling (items_of (all_seen before)) (all_seen (into_iter_items documents)) ≡ (items_of (all_seen after), all_seen (into_iter_items left))

-- the members of an object are for `serde_json` one of each name, the last that there is
abbrev pub seen_members : List Member → Members
seen_members members = members_data (members_view members) no_members

-- the member of this name and the documents that were left are filled to these
abbrev pub FillsMember : List ℕ → Filling → List Member → IntoIter (Value Global) Global → List Member → IntoIter (Value Global) Global → Type 0
FillsMember name filling before documents after left =
    member_filled name (seen_members before) filling (get_member name (seen_members before)) (all_seen (into_iter_items documents))
    ≡ (object (seen_members after), all_seen (into_iter_items left))

-- the value is a list of these items, or it is another one
abbrev pub HasItems : Value Global → Result (Vec (Value Global) Global) (Value Global) → Type 0
HasItems value (Ok items) = as_array (seen value) ≡ Some (items_of (all_seen items.items))
HasItems value (Err other) = (as_array (seen value) ≡ None) × (other ≡ value)

-- the value is an object of these members, or it is another one
abbrev pub HasMembers : Value Global → Result (Vec Member Global) (Value Global) → Type 0
HasMembers value (Ok members) = as_object (seen value) ≡ Some (seen_members members.items)
HasMembers value (Err other) = (as_object (seen value) ≡ None) × (other ≡ value)

-- the members, of which the i-th has this value
unfoldable pub with_member : List Member → ℕ → Value Global → List Member
with_member [] i value = []
with_member (member ∷ members) zero value = (member.0, value) ∷ members
with_member (member ∷ members) (suc i) value = member ∷ with_member members i value

-- the value of the i-th member was taken, which is null then
abbrev pub IsTaken : List Member → ℕ → Value Global → List Member → Type 0
IsTaken before i value after = (before ≡ with_member before i value) × (after ≡ with_member before i variant.Null)

-- the place behind this one, or else the first place where the first name is the one sought
abbrev pub place_behind : Option ℕ → Bool → Option ℕ
place_behind (Some i) is_first = Some (suc i)
place_behind None is_first = if is_first then Some 0 else None

-- the place of the last member of this name
unfoldable pub last_of : List ℕ → List Member → Option ℕ
last_of name [] = None
last_of name (member ∷ members) = place_behind (last_of name members) (bytes_eq member.0.now name)

-- the value of the text was read, or it is no JSON
abbrev pub IsValueOf : List ℕ → Result (Value Global) MetaFault → Type 0
IsValueOf text (Ok value) = json_of text ≡ Some (seen value)
IsValueOf text (Err meta_fault.NotJson) = json_of text ≡ None
IsValueOf text (Err meta_fault.Memory) = Unit {0}
IsValueOf text (Err fault) = ⊥

-- the values of the texts were read, or one is no JSON
abbrev pub AreValuesOf : List (List ℕ) → Result (Vec (Value Global) Global) MetaFault → Type 0
AreValuesOf texts (Ok values) = values_of texts ≡ Some (all_seen values.items)
AreValuesOf texts (Err meta_fault.NotJson) = values_of texts ≡ None
AreValuesOf texts (Err meta_fault.Memory) = Unit {0}
AreValuesOf texts (Err fault) = ⊥
