-- JSON texts (RFC 8259).
use Rattle.std.specs.Prelude.{◌≡◌, ℕ, List, None, Some, Ok, Err, if◌then◌else◌}
use Rattle.std.specs.Str.{is_utf8}
use Rattle.std.specs.declared.option.Option.{Option}
use Rattle.std.specs.declared.result.Result.{Result}
use Rattle.serde_json.specs.Data.{Data}
use Rattle.serde_json.specs.Read.{read}
use Rattle.json_read.specs.declared.fault.ParseFault.{ParseFault}
use Rattle.json_read.specs.declared.fault.ParseFault.TheVariants.{NotJson, Memory}

-- the value of a JSON text of at most 127 levels, if the bytes are one
unfoldable pub json_of : List ℕ → Option Data
json_of bytes = if is_utf8 bytes then read bytes else None

-- a reader of JSON texts answers the value, as it is seen, that there is none, or that it found no memory
abbrev pub Parses : {A : Type 0} → (A → Data) → List ℕ → Result A ParseFault → Type 0
Parses seen bytes (Ok value) = json_of bytes ≡ Some (seen value)
Parses seen bytes (Err NotJson) = json_of bytes ≡ None
Parses seen bytes (Err Memory) = Unit {0}
