use Rattle.std.proofs.Common.{refl, ◌∙◌, sym, rules}
use Rattle.doors.proofs.MemoryDoorLemmas.{first_of, next_left, none_left, rest_all, some_left}
use Rattle.doors.specs.MemoryDoor.{IsUnhurt}
use Rattle.doors.proofs.memory_door.MemoryDoorDoor.accept.Goals as goal

pub returns-then-is_empty-clause-next : goal.returns-then-is_empty-clause-next
returns-then-is_empty-clause-next g c =
    rw (← c.self.view_is, c.saturating_add-self-inside.ensures) (none_left c.self.inside.left.items (search rules), refl)

pub returns-then-contains-clause-next : goal.returns-then-contains-clause-next
returns-then-contains-clause-next g c =
    rw (← c.self.view_is, c.saturating_add-self-inside-then-contains.ensures, c.saturating_add-self-inside.ensures) (
      some_left c.self.inside.left.items (search rules),
      sym (rw (c.deref.ensures.value, c.saturating_add-self-inside.ensures) at c.contains.ensures.value) ∙ c.if-contains.true,
      refl,
    )

pub invariant_of-self-2 : goal.invariant_of-self-2
invariant_of-self-2 g c = rest_all IsUnhurt _ _ _ c.self.invariant (next_left _ _ _ c.in-Some.ensures.taken)

pub returns-clause-fresh : goal.returns-clause-fresh
returns-clause-fresh g c = first_of IsUnhurt _ _ _ c.self.invariant (next_left _ _ _ c.in-Some.ensures.taken)
