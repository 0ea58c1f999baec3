-- The line by which a trigger command is refused.
use Rattle.std.specs.Prelude.{ℕ, List, [], ◌++◌, codes, decimal}
use Rattle.json_read.specs.declared.fault.FieldCause.{FieldCause}
use Rattle.json_read.specs.declared.fault.FieldCause.TheVariants.{Missing, WrongKind, OutOfRange}
use Rattle.trigger_command.specs.declared.fault.CommandFault.{CommandFault}
use Rattle.trigger_command.specs.declared.fault.CommandFault.TheVariants as fault

-- why a field does not read
abbrev pub cause_text : FieldCause → List ℕ
cause_text Missing = codes "missing"
cause_text WrongKind = codes "wrong-kind"
cause_text OutOfRange = codes "out-of-range"

-- the fault of a command; want of memory is none
abbrev pub fault_text : CommandFault → List ℕ
fault_text fault.NotJson = codes "not-json"
fault_text (fault.Field field) = codes "field " ++ field.path ++ codes " " ++ cause_text field.cause
fault_text fault.Loop = codes "loop"
fault_text fault.NoSelection = codes "no-selection"
fault_text fault.PatternInPreposition = codes "pattern-in-preposition"
fault_text fault.CcidInPreposition = codes "ccid-in-preposition"
fault_text (fault.TooMany n) = codes "too-many " ++ decimal n
fault_text (fault.BadUrl index) = codes "bad-url " ++ decimal index
fault_text (fault.BadPattern index) = codes "bad-pattern " ++ decimal index
fault_text fault.Memory = []

-- the line, without its end
abbrev pub refusal_text : CommandFault → List ℕ
refusal_text wrong = codes "refused " ++ fault_text wrong
