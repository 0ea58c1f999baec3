-- Why a line is none whose URL is none.
use Rattle.targets.specs.declared.target.TargetFault.{TargetFault}
use Rattle.targets.specs.declared.target.TargetFault.TheVariants as target_fault
use Rattle.script_line.specs.declared.line.ScriptFault.{ScriptFault}
use Rattle.script_line.specs.declared.line.ScriptFault.TheVariants as script_fault

-- want of memory stays that, and whatever else is wrong with a URL, its line says nothing
abbrev pub fault_of : TargetFault → ScriptFault
fault_of target_fault.Memory = script_fault.Memory
fault_of wrong = script_fault.NotALine
