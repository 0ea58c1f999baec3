-- Sets of origins.
use Rattle.std.specs.Prelude.{ℕ, Bool, is_some, nat_eq}
use Rattle.indexmap.specs.IndexMap.{get}
use Rattle.client_desk.specs.declared.origins.Origins.{Origins}

-- this origin is among them
abbrev pub is_among : ℕ → Origins → Bool
is_among origin origins = is_some (get nat_eq origins.numbers origin)
