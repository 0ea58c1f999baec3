use Rattle.std.proofs.Common.{sym, ◌∙◌}
use Rattle.std.proofs.lemmas.Bool.{and_parts}
use Rattle.upstream_gate.proofs.MemoryGateLemmas.{told_more, shared_next}
use Rattle.upstream_gate.proofs.memory_gate.MemoryGateGate.fetch.Goals as goal

pub returns-clause-told : goal.returns-clause-told
returns-clause-told c =
    rw (← c.self.view_is) (told_more c.self.inside.outcomes c.self.inside.asks.items c.note-noted.new.asks.items c.args.ask.now c.self.inside.given c.or_memory-outcome.result c.self.inside.telling c.are_all-self-inside.result
    c.self.invariant.each
    (λ is.
    let all = and_parts _ _ (sym c.are_all-self-inside.ensures ∙ is) in
    let both = and_parts _ _ all.1 in
    (all.0, c.note-noted.ensures both.0, c.or_memory-outcome.ensures ∙ shared_next _ _ c.shared_at-shared.ensures (sym c.is_ok.ensures.value ∙ both.1))))
