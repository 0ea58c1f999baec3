-- Gathering the metadata from the root document (RFC 8006, section 6.3).
use Rattle.std.specs.Prelude.{◌≡◌, List, None, Some, Ok, Err}
use Rattle.std.specs.Option.{option_map}
use Rattle.std.specs.declared.option.Option.{Option}
use Rattle.std.specs.declared.result.Result.{Result}
use Rattle.std.specs.declared.alloc.AllocError.{AllocError}
use Rattle.metadata_links.specs.Gathering.{Gathers as GathersLinks}
use Rattle.metadata_links.specs.declared.fault.LinkFault.{LinkFault}
use Rattle.metadata_links.specs.declared.fault.LinkFault.TheVariants as link_fault
use Rattle.metadata_objects.specs.Tree.{TreeData, tree_view}
use Rattle.metadata_objects.specs.declared.tree.Tree.{Tree}
use Rattle.targets.specs.declared.target.Target.{Target}
use Rattle.upstream_gate.specs.Outcome.{Exchange}

-- the metadata that a gathering gives; none where it has a fault, of which want of memory is none
abbrev pub IsGiven : Result Tree LinkFault → Option TreeData → Type 0
IsGiven (Ok tree) given = given ≡ Some (tree_view tree)
IsGiven (Err link_fault.Memory) given = ⊥
IsGiven (Err fault) given = given ≡ None

-- the root document and the documents of its Links were asked for, and this is the metadata that they give
abbrev pub Brings : Target → List Exchange → Option TreeData → Type 0
Brings root made tree = (end : Result Tree LinkFault) × GathersLinks root made end × IsGiven end tree

-- they were asked for until no memory was found
abbrev pub Asks : Target → List Exchange → Type 0
Asks root made = GathersLinks root made (Err link_fault.Memory)

-- the metadata was gathered; or no memory was found
abbrev pub Gathers : Target → List Exchange → Result (Option Tree) AllocError → Type 0
Gathers root made (Ok tree) = Brings root made (option_map tree_view tree)
Gathers root made (Err error) = Asks root made
