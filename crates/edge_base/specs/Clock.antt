-- What an object tells of its answers.
use Rattle.std.specs.Prelude.{◌≡◌, List, ◌++◌, None, Some}
use Rattle.std.specs.declared.option.Option.{Option}

-- what is told grew by these; an object may stop telling, and then never tells again
abbrev pub Grows : {A : Type 0} → Option (List A) → Option (List A) → List A → Type 0
Grows (Some told) (Some now) more = now ≡ told ++ more
Grows (Some told) None more = Unit {0}
Grows None (Some now) more = ⊥
Grows None None more = Unit {0}
