use Rattle.std.proofs.Common.{ℕ, List, subst}
use Rattle.cdni_base.specs.Scratch.{Puts}
use Rattle.cdni_base.proofs.date.put_date.Goals as goal

pub returns : goal.returns
returns c = (c.in-Ok.date, c.in-Ok.ensures.value, subst (λ (text : List ℕ). Puts c.args.out.now c.append.new.self text c.append.result) c.to_bytes.ensures c.append.ensures)
