use Rattle.std.proofs.Common.{◌+◌, ◌∷◌, [], List, length, length-append, sym, ap, arith, subst}
use Rattle.location_acl.specs.declared.line.PlaceLine.{PlaceLine}
use Rattle.location_acl.proofs.LineLemmas.{ReadSoFar, read_more, read_stops, some_bytes}
use Rattle.location_acl.proofs.table.PlaceTable.read.Goals as goal

pub returns-in_default : goal.returns-in_default
returns-in_default c =
    let i = c.lines.invariant in
    read_stops c.args.bytes.now c.lines.rest.now c.lines.index.lines.items (c.lines.number + 1) i.read (sym c.in_default.ensures.value) (some_bytes (length c.lines.rest.now) c.is_empty.result c.is_empty.ensures c.lines-test.true) (omega (arith, i.numbered))

pub lines-preserved : goal.lines-preserved
lines-preserved c =
    let i = c.lines.invariant in
    let lines = c.in_ok-add.ensures.lines in
    record {
      read = subst (λ (xs : List PlaceLine). ReadSoFar c.args.bytes.now c.in-Some.after.now xs) (sym lines) (read_more c.args.bytes.now c.lines.rest.now c.lines.index.lines.items c.in-Some.line c.in-Some.after.now i.read (sym c.in-Some.ensures.value));
      numbered = omega (arith, i.numbered, ap length lines, length-append c.lines.index.lines.items (c.in-Some.line ∷ []));
      counted = omega (arith, i.counted, c.in-Some.ensures.shorter);
      indexed = c.in_ok-add.ensures.indexed;
    }
