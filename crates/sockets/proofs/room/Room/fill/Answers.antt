use Rattle.std.proofs.Common.{◌≡◌, ℕ, ◌+◌, take, drop, length, List, ◌++◌, sym, ◌∙◌, ap, subst}
use Rattle.sockets.proofs.RoomLemmas.{fills}
use Rattle.sockets.specs.declared.room.Room.TheInside.{Inside}
use Rattle.sockets.proofs.room.Room.fill.Goals as goal
use Rattle.sockets.proofs.room.Room.fill.Goals.{then-soon, else-soon}

pub returns-in-Some : goal.returns-in-Some
returns-in-Some c = elim c.if-soon.branch [
  | then-soon w ↦
      subst (λ (x : Inside). (came : List ℕ) × (drop x.from (take (c.self.inside.to + c.in-Some.count) x.bytes.items) ≡ c.args.self.now ++ came) × (length came ≡ c.in-Some.count)) (sym w.self-inside-is)
      (fills c.self.inside.from c.self.inside.to c.in-Some.count c.self.inside.bytes.len w.deref_mut.result.now w.read_soon-got.new.buf _ _ c.args.self.now w.read_soon-got.result c.self.invariant.0 c.self.invariant.1 w.deref_mut.ensures.len w.read_soon-got.auto.buf
      (sym w.got-is ∙ c.in-Some.is) w.read_soon-got.ensures (ap (λ (l : List ℕ). drop c.self.inside.from (take c.self.inside.to l)) w.deref_mut.ensures.value ∙ (c.self.view_is ∙ c.settle.ensures)))
  | else-soon w ↦
      subst (λ (x : Inside). (came : List ℕ) × (drop x.from (take (c.self.inside.to + c.in-Some.count) x.bytes.items) ≡ c.args.self.now ++ came) × (length came ≡ c.in-Some.count)) (sym w.self-inside-is)
      (fills c.self.inside.from c.self.inside.to c.in-Some.count c.self.inside.bytes.len w.deref_mut-else-soon.result.now w.read_now-got.new.buf _ _ c.args.self.now w.read_now-got.result c.self.invariant.0 c.self.invariant.1 w.deref_mut-else-soon.ensures.len w.read_now-got.auto.buf
      (sym w.got-is ∙ c.in-Some.is) w.read_now-got.ensures (ap (λ (l : List ℕ). drop c.self.inside.from (take c.self.inside.to l)) w.deref_mut-else-soon.ensures.value ∙ (c.self.view_is ∙ c.settle.ensures)))
]
