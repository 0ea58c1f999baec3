-- Messages whose rest is waited for.
use Rattle.std.specs.Prelude.{◌≡◌, ℕ, ◌+◌, ◌-◌, ◌^◌, min, List, ◌++◌, nat_lt, nat_le, Option, None, Some, ◌&&◌, if◌then◌else◌}
use Rattle.std.specs.Option.{option_and_then}
use Rattle.client_hub.specs.declared.behind.Behind.{Behind}
use Rattle.client_hub.specs.declared.message.TheConstants.{BODY_MAX}

-- how many bytes a message has with its head, which ends at byte `end`: where its body has a length that is gathered, and
-- not all of it came
abbrev pub awaited_with : ℕ → ℕ → ℕ → Option ℕ
awaited_with body end came =
    let whole = min (end + body) (2 ^ 64 - 1) in
    if nat_le body BODY_MAX && nat_lt came whole then Some whole else None

abbrev pub awaited : Behind → ℕ → ℕ → Option ℕ
awaited behind end came = option_and_then (λ body. awaited_with body end came) behind.body

-- the bytes that came stand behind those that were there
abbrev pub Follows : List ℕ → List ℕ → Type 0
Follows old new = (came : List ℕ) × (new ≡ old ++ came)
