use Rattle.std.proofs.Common.{◌++◌, sym, ◌∙◌, ap}
use Rattle.hex.specs.Hex.{encode_lower}
use Rattle.std.proofs.lemmas.List.{take-append-drop}
use Rattle.script_line.specs.declared.answer.TheConstants.{HEX_BLOCK}
use Rattle.script_line.proofs.HexLemmas.{block_written}
use Rattle.script_line.proofs.answer.put_hex.Goals as goal

pub parts-preserved : goal.parts-preserved
parts-preserved c =
    let s = c.split_at.ensures in
    ap (λ text. text ++ encode_lower c.split_at.result.1.now) c.in_ok-put_block.ensures
    ∙ block_written c.parts.out.items c.split_at.result.0.now c.split_at.result.1.now c.parts.rest.now (sym (rw (s.front, s.back) (take-append-drop HEX_BLOCK c.parts.rest.now))) ∙ c.parts.invariant
