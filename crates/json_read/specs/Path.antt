-- JSON pointers (RFC 6901).
use Rattle.std.specs.Prelude.{ℕ, not, List, ◌∷◌, ◌++◌, ◌==◌, ◌&&◌, IsTrue, decimal}
use Rattle.std.specs.List.{list_all}

-- a member's name that stands in a pointer as it is: without `/` and `~`
abbrev pub IsName : List ℕ → Type 0
IsName name = IsTrue (list_all (λ byte. not (byte == 47) && not (byte == 126)) name)

-- the pointer of a member
unfoldable pub child_of : List ℕ → List ℕ → List ℕ
child_of path name = path ++ 47 ∷ name

-- the pointer of an item, counted from 0
abbrev pub item_of : List ℕ → ℕ → List ℕ
item_of path i = child_of path (decimal i)
