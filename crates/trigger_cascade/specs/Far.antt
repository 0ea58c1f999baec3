-- Statuses of triggers at other CDNs (RFC 8007, section 5.2.3).
use Rattle.std.specs.Prelude.{◌≡◌, ℕ, Bool, true, false, List, None, Some, codes, bytes_eq, if◌then◌else◌}
use Rattle.std.specs.declared.option.Option.{Option}
use Rattle.json_read.specs.Text.{json_of}
use Rattle.listing.specs.Word.{◌>>=◌}
use Rattle.serde_json.specs.Data.{Data, string}
use Rattle.serde_json.specs.Find.{as_str, get}
use Rattle.trigger_cascade.specs.declared.far.Far.{Far}
use Rattle.trigger_cascade.specs.declared.far.Far.TheVariants.{Pending, Active, Complete, Processed, Failed}
use Rattle.trigger_cascade.specs.declared.far.Far.TheVariants.{Cancelling, Cancelled}

abbrev pub far_name : Far → List ℕ
far_name Pending = codes "pending"
far_name Active = codes "active"
far_name Complete = codes "complete"
far_name Processed = codes "processed"
far_name Failed = codes "failed"
far_name Cancelling = codes "cancelling"
far_name Cancelled = codes "cancelled"

-- no other status follows
abbrev pub is_final : Far → Bool
is_final Pending = false
is_final Active = false
is_final Complete = true
is_final Processed = true
is_final Failed = true
is_final Cancelling = false
is_final Cancelled = true

-- the JSON text of an object whose `status` is this one (section 5.1.2)
abbrev pub HasStatus : List ℕ → Far → Type 0
HasStatus body far =
    (value : Data) × (json_of body ≡ Some value) × (get (codes "status") value ≡ Some (string (far_name far)))

-- the status of this name
abbrev pub far_in : List ℕ → Option Far
far_in name = if bytes_eq name (codes "pending") then Some Pending
    else (if bytes_eq name (codes "active") then Some Active
    else (if bytes_eq name (codes "complete") then Some Complete
    else (if bytes_eq name (codes "processed") then Some Processed
    else (if bytes_eq name (codes "failed") then Some Failed
    else (if bytes_eq name (codes "cancelling") then Some Cancelling
    else (if bytes_eq name (codes "cancelled") then Some Cancelled else None))))))

-- the status that a value has, if it is an object that has one
abbrev pub far_of_value : Data → Option Far
far_of_value value = get (codes "status") value >>= λ status. as_str status >>= far_in

unfoldable pub far_of : List ℕ → Option Far
far_of body = json_of body >>= far_of_value
