use Rattle.std.proofs.Common.{◌≡◌, ◌++◌, flat_map, take}
use Rattle.json.specs.Print.{escape_byte}
use Rattle.footprints.proofs.write.add_escaped.Given as goal

abbrev pub invariant-bytes : goal.invariant-bytes
invariant-bytes l = l.out.items ≡ l.initial.out.items ++ flat_map escape_byte (take l.byte-index l.text)
