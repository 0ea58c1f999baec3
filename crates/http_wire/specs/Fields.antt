-- The header fields of a head (RFC 9110, section 5).
use Rattle.std.specs.Prelude.{◌≡◌, ℕ, ◌≤◌, Bool, List, [], ◌∷◌, length, bytes_eq, map}
use Rattle.std.specs.List.{filter}
use Rattle.std.specs.Str.{str_to_ascii_lowercase}
use Rattle.http_wire.specs.declared.fields.Found.{Found}
use Rattle.http_wire.specs.declared.fields.Found.TheVariants as found

-- the bytes of a head, and the name and value of each of its header fields
pub record FieldsParts : Type 0 where
  pub text : List ℕ
  pub headers : List (List ℕ × List ℕ)

-- names are compared without regard to case (section 5.1)
abbrev pub is_name : List ℕ → List ℕ × List ℕ → Bool
is_name name header = bytes_eq (str_to_ascii_lowercase header.0) (str_to_ascii_lowercase name)

-- the values of the header fields of this name, in order
abbrev pub values_of : List ℕ → List (List ℕ × List ℕ) → List (List ℕ)
values_of name headers = map (λ header. header.1) (filter (is_name name) headers)

-- there is none, exactly this one, or several
abbrev pub IsFound : List (List ℕ) → Found → Type 0
IsFound values found.None = values ≡ []
IsFound values (found.One value) = values ≡ value.now ∷ []
IsFound values found.Many = 2 ≤ length values
