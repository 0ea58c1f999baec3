use Rattle.std.proofs.Common.{◌≤◌, length}
use Rattle.std.specs.Io.KnownBytes.{Consumes}
use Rattle.tcp_door.specs.declared.place_file.TheConstants.{PLACES_MAX}
use Rattle.tcp_door.proofs.place_file.read_text.Given as goal

abbrev pub invariant-pieces : goal.invariant-pieces
invariant-pieces g l = record {
  so_far : Consumes (g.R.Read.remaining l.fn.reader) (g.R.Read.remaining l.reader) l.text.items;
  most : length l.text.items ≤ PLACES_MAX;
}
