use Rattle.std.proofs.Common.{◌-◌, length, arith, refl}
use Rattle.std.proofs.lemmas.Option.{slice_get_read}
use Rattle.std.specs.HashMap.{get}
use Rattle.location_acl.specs.Table.{key_of, same_key}
use Rattle.location_acl.proofs.TableLemmas.{all_fit, found_longest, found_within, found_place, none_found}
use Rattle.location_acl.proofs.table.PlaceTable.place_of.Goals as goal

pub lengths-init : goal.lengths-init
lengths-init c = λ j other there held.
    omega (arith, all_fit c.self.inside.index.lines.items (get same_key c.self.inside.index.firsts) c.self.inside.index.lengths c.args.ip c.self.invariant j other there held, c.width_of-length.ensures)

pub index-line-requires : goal.index-line-requires
index-line-requires c =
    omega (arith, found_within c.self.inside.index.lines.items (get same_key c.self.inside.index.firsts) c.self.inside.index.lengths (key_of c.args.ip (c.lengths.length - 1)) c.in-Some.i c.self.invariant c.in-Some.ensures.found, c.self.inside.index.lines.ok.0)

pub returns-in-Some : goal.returns-in-Some
returns-in-Some c =
    let within = found_within c.self.inside.index.lines.items (get same_key c.self.inside.index.firsts) c.self.inside.index.lengths (key_of c.args.ip (c.lengths.length - 1)) c.in-Some.i c.self.invariant c.in-Some.ensures.found in
    let at = slice_get_read c.self.inside.index.lines.items (length c.self.inside.index.lines.items) c.in-Some.i c.index-line.result.now refl within c.index-line.ensures in
    rw (← c.self.view_is) (found_place c.self.inside.index.lines.items c.args.ip c.in-Some.i c.index-line.result.now
    (found_longest c.self.inside.index.lines.items (get same_key c.self.inside.index.firsts) c.self.inside.index.lengths c.args.ip (c.lengths.length - 1) c.in-Some.i c.index-line.result.now c.self.invariant
    (λ j other there held. omega (arith, c.lengths.invariant j other there held)) c.in-Some.ensures.found at))

pub lengths-preserved : goal.lengths-preserved
lengths-preserved c =
    none_found c.self.inside.index.lines.items (get same_key c.self.inside.index.firsts) c.self.inside.index.lengths c.args.ip (c.lengths.length - 1) c.self.invariant
    (λ j other there held. omega (arith, c.lengths.invariant j other there held)) c.in_default.ensures.none
