-- What is added to the text of an object that has begun.
use Rattle.std.specs.Prelude.{◌≡◌, ℕ, Bool, true, List, ◌++◌}
use Rattle.serde_json.specs.Data.{Data, Items, Members, member}
use Rattle.serde_json.specs.Written.{members_text}
use Rattle.trigger_status.specs.Items.{with_list}

-- A member with this list was added, unless the list is empty: whatever members follow, the text is the same as if this
-- one stood before them. Something stands before the next member, or not.
abbrev pub AddsMember : List ℕ → Bool → List ℕ → List ℕ → Items → Bool → Type 0
AddsMember before later after name items next =
    (others : Members) → after ++ members_text next others ≡ before ++ members_text later (with_list name items others)

-- a member with this value was added: whatever members follow, the text is the same as if this one stood before them
abbrev pub AddsOne : List ℕ → Bool → List ℕ → List ℕ → Data → Type 0
AddsOne before later after name value =
    (others : Members) → after ++ members_text true others ≡ before ++ members_text later (member name value others)
