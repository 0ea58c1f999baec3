-- The objects that a node keeps of what its fetches brought, and which of them stay where there are too many bytes.
use Rattle.std.specs.Prelude.{◌≡◌, ℕ, All, Contains, take, Bool, false, not, nat_lt, nat_le, ◌&&◌, if◌then◌else◌, List, [], ◌∷◌, ◌++◌, None, Some, length, filter, find, map, option_to_list, sum_by}
use Rattle.std.specs.declared.option.Option.{Option}
use Rattle.cdni_base.specs.Key.{KeyParts, same_key}
use Rattle.object_cache.specs.declared.object.Object.{Object}

-- the most bytes that are kept, the objects, the least recently used first, how many more can be filled in without memory,
-- and how many of them, from the first on, a walk has passed
pub record Kept : Type 0 where
  pub limit : ℕ
  pub objects : List Object
  pub spare : ℕ
  pub passed : ℕ

-- a walk had passed all that it has passed now
abbrev pub ArePassed : Kept → Kept → Type 0
ArePassed old new = All (Contains (take old.passed old.objects)) (take new.passed new.objects)

-- how long an object is
abbrev pub length_of : Object → ℕ
length_of object = length object.body

-- the lengths of these objects together
abbrev pub total : List Object → ℕ
total objects = sum_by length_of objects

-- the object is kept under the key
abbrev pub is_of : KeyParts → Object → Bool
is_of key object = same_key key object.key

-- the object that is kept under the key
abbrev pub kept_of : KeyParts → List Object → Option Object
kept_of key objects = find (is_of key) objects

-- the others
abbrev pub others : KeyParts → List Object → List Object
others key objects = filter (λ object. not (is_of key object)) objects

-- no start up to this one need be tried on the object
abbrev pub renewed_one : ℕ → Object → Object
renewed_one begun object = record object { begun = begun }

-- the key's object is so, and goes to the end
abbrev pub renewed : KeyParts → ℕ → List Object → List Object
renewed key begun objects = others key objects ++ map (renewed_one begun) (option_to_list (kept_of key objects))

-- no object has the key of one before it, nor of one of the first list, which stands before them all
abbrev pub AreApart : List Object → List Object → Type 0
AreApart before [] = Unit {0}
AreApart before (object ∷ objects) = (kept_of object.key before ≡ None) × AreApart (before ++ object ∷ []) objects

-- what is kept comes from a later fetch than this one
abbrev pub is_newer : ℕ → Option Object → Bool
is_newer fetch None = false
is_newer fetch (Some object) = nat_lt fetch object.fetch

-- the first objects leave until the lengths together are at most this
abbrev pub evicted : ℕ → List Object → List Object
evicted most [] = []
evicted most (object ∷ objects) =
    if nat_le (total (object ∷ objects)) most then object ∷ objects else evicted most objects

-- the object is kept, since its length is at most the limit and no kept object of its key has a greater fetch
abbrev pub is_filled : ℕ → List Object → Object → Bool
is_filled limit objects object =
    nat_le (length_of object) limit && not (is_newer object.fetch (kept_of object.key objects))

-- what is kept then: it takes the place of the key's object and goes to the end, and the first leave
abbrev pub filled : ℕ → List Object → Object → List Object
filled limit objects object =
    if is_filled limit objects object then evicted limit (others object.key objects ++ object ∷ []) else objects
