-- Faults of a gathering.
use Rattle.metadata_objects.specs.declared.fault.MetaFault.{MetaFault}
use Rattle.metadata_objects.specs.declared.fault.MetaFault.TheVariants as meta_fault
use Rattle.metadata_links.specs.declared.fault.LinkFault.{LinkFault}
use Rattle.metadata_links.specs.declared.fault.LinkFault.TheVariants as link_fault

-- the fault of a reading as one of a gathering, where want of memory is its own
abbrev pub of_meta : MetaFault → LinkFault
of_meta meta_fault.Memory = link_fault.Memory
of_meta fault = link_fault.Meta fault
