use Rattle.std.proofs.Common.{◌≡◌, sym, subst, IfOk}
use Rattle.trigger_cascade.specs.declared.link.Posted.{Posted}
use Rattle.trigger_cascade.proofs.MemoryLinkLemmas.{post_is}
use Rattle.trigger_cascade.proofs.memory_link.post_at.Goals as goal

pub returns-then-place-len : goal.returns-then-place-len
returns-then-place-len c =
    subst (λ (next : Posted). IfOk c.copy.result (λ answer. answer ≡ next)) (sym (post_is c.args.posts.now c.args.place c.at.result.now c.at.ensures)) c.copy.ensures
