-- The law of deliveries over a history that a home has seen.
use Rattle.std.specs.Prelude.{ℕ}
use Rattle.history.specs.Event.{Entry, History}
use Rattle.history.specs.History.{AnsweredAt}
use Rattle.history.specs.World.{Made}
use Rattle.history.specs.declared.reply.Reply.{Reply}
use Rattle.node_core.specs.Law.{IsLawful}

-- each of its entries is answered by the law
abbrev pub KeepsTheLaw : Made → History → Type 0
KeepsTheLaw made h = (at : ℕ) (entry : Entry) (answer : Reply) → (a : AnsweredAt made h at entry answer)
    → IsLawful made a.before entry.0 entry.1 answer
