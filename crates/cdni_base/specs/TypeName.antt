-- Names of types.
use Rattle.std.specs.Prelude.{ℕ, List, length, None, Some, nat_le, if◌then◌else◌}
use Rattle.std.specs.declared.option.Option.{Option}
use Rattle.cdni_base.specs.declared.type_name.TheConstants.{TYPE_NAME_MAX}

-- these bytes as a type's name, which has at most 127
abbrev pub named : List ℕ → Option (List ℕ)
named bytes = if nat_le (length bytes) TYPE_NAME_MAX then Some bytes else None
