use Rattle.std.proofs.Common.{◌∷◌, length, length-append, ap, arith, sym, ◌∙◌, refl}
use Rattle.location_acl.proofs.PartLemmas.{parts_are, front_is_free, text_is_free}
use Rattle.location_acl.proofs.BlockLemmas.{no_cut, no_base, no_length, parts_have}
use Rattle.location_acl.proofs.BlockFrontLemmas.{place_without, place_before, place_behind}
use Rattle.location_acl.proofs.block.Block.read.Goals as goal

pub overflow_sub-result : goal.overflow_sub-result
overflow_sub-result c =
    let h = parts_are 47 c.args.text.now c.in-Some.front.now c.in-Some.digits.now (sym c.in-Some.ensures) in
    omega (arith, ap length h, length-append c.in-Some.front.now (47 ∷ c.in-Some.digits.now))

pub returns-in_default-clause-grammar : goal.returns-in_default-clause-grammar
returns-in_default-clause-grammar c =
    let none = sym c.in_default.ensures in
    (no_cut c.args.six c.args.text.now none, place_without c.args.six c.args.text.now c.begun_base.result (text_is_free 47 c.args.text.now none) c.begun_base.ensures)

pub returns-in-Err-default-clause-grammar : goal.returns-in-Err-default-clause-grammar
returns-in-Err-default-clause-grammar c =
    let cut = sym c.in-Some.ensures in
    let none = sym c.in-Err-default.ensures.value in (
      no_base c.args.six c.args.text.now c.in-Some.front.now c.in-Some.digits.now cut none,
      place_before c.args.six c.args.text.now c.in-Some.front.now c.in-Some.digits.now c.in-Err-default.at (parts_are 47 c.args.text.now c.in-Some.front.now c.in-Some.digits.now cut) (front_is_free 47 c.args.text.now c.in-Some.front.now c.in-Some.digits.now cut) none c.in-Err-default.ensures.place,
    )

pub returns-in-Ok-Some-clause-grammar : goal.returns-in-Ok-Some-clause-grammar
returns-in-Ok-Some-clause-grammar c =
    (parts_have c.args.six c.args.text.now c.in-Some.front.now c.in-Some.digits.now c.in-Ok-Some.base c.in-Ok-Some.length (sym c.in-Some.ensures) (sym c.in-Ok-Some.ensures.value) (sym c.in-Ok-Some.ensures'), omega (arith, c.if-length-most_of.true, c.most_of.ensures))

pub returns-in-Ok-Some-2-clause-grammar : goal.returns-in-Ok-Some-2-clause-grammar
returns-in-Ok-Some-2-clause-grammar c =
    (c.in-Ok-Some.base, parts_have c.args.six c.args.text.now c.in-Some.front.now c.in-Some.digits.now c.in-Ok-Some.base c.in-Ok-Some.length (sym c.in-Some.ensures) (sym c.in-Ok-Some.ensures.value) (sym c.in-Ok-Some.ensures'), omega (arith, c.if-length-most_of.false, c.most_of.ensures))

pub returns-in-Ok-None-clause-grammar : goal.returns-in-Ok-None-clause-grammar
returns-in-Ok-None-clause-grammar c =
    let cut = sym c.in-Some.ensures in (
      no_length c.args.six c.args.text.now c.in-Some.front.now c.in-Some.digits.now cut (sym c.length_of.ensures ∙ c.in-Ok-None.is-1),
      place_behind c.args.six c.args.text.now c.in-Some.front.now c.in-Some.digits.now c.in-Ok-None.field-0-0 _ c.begun_length.result (parts_are 47 c.args.text.now c.in-Some.front.now c.in-Some.digits.now cut) (front_is_free 47 c.args.text.now c.in-Some.front.now c.in-Some.digits.now cut) (sym c.in-Ok-None.ensures.value) c.begun_length.ensures refl,
    )
