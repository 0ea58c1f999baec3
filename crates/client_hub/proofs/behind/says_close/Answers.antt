use Rattle.std.proofs.Common.{◌||◌, sym, ◌∙◌, ap}
use Rattle.std.specs.List.{list_any}
use Rattle.client_hub.specs.Behind.{is_close, says_close}
use Rattle.client_hub.proofs.BehindLemmas.{part_cut_off, no_part_cut_off, or_false}
use Rattle.client_hub.proofs.behind.says_close.Goals as goal

pub returns-then-is_close : goal.returns-then-is_close
returns-then-is_close c =
    let cut = part_cut_off 44 c.options.rest.now c.in-Some.option.now c.in-Some.others.now c.in-Some.ensures in
    sym (sym c.options.invariant ∙ ap (list_any is_close) cut.0 ∙ ap (λ b. b || says_close c.in-Some.others.now) (sym c.is_close.ensures ∙ c.if-is_close.true))

pub options-smaller : goal.options-smaller
options-smaller c = (part_cut_off 44 c.options.rest.now c.in-Some.option.now c.in-Some.others.now c.in-Some.ensures).1

pub options-preserved : goal.options-preserved
options-preserved c =
    let cut = part_cut_off 44 c.options.rest.now c.in-Some.option.now c.in-Some.others.now c.in-Some.ensures in
    sym (ap (list_any is_close) cut.0 ∙ ap (λ b. b || says_close c.in-Some.others.now) (sym c.is_close.ensures ∙ c.if-is_close.false)) ∙ c.options.invariant

pub returns-in-None : goal.returns-in-None
returns-in-None c =
    c.is_close-in-None.ensures ∙ sym (or_false (is_close c.options.rest.now)) ∙ sym (ap (list_any is_close) (no_part_cut_off 44 c.options.rest.now c.in-None.ensures)) ∙ c.options.invariant
