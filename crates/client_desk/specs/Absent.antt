-- Workers that wait elsewhere.
use Rattle.std.specs.Prelude.{ℕ, Bool, ◌-◌, nat_le, ◌&&◌}
use Rattle.std.specs.List.{list_all}
use Rattle.indexmap.specs.IndexMap.{values}
use Rattle.client_desk.specs.declared.absent.Absent.{Absent}
use Rattle.client_desk.specs.declared.absent.TheConstants.{LAST_WAIT}

-- nobody waits longer than since this moment
abbrev pub is_first : Absent → ℕ → Bool
is_first absent since = list_all (λ other. nat_le since other) (values absent.list)

-- who waits since this moment waits for as long as one may, and nobody waits longer
abbrev pub is_longest : Absent → ℕ → ℕ → Bool
is_longest absent since now = nat_le LAST_WAIT (now - since) && is_first absent since
