-- Lines of a log file (RFC 7937, sections 3.2 and 3.3).
use Rattle.std.specs.Prelude.{ℕ, List, [], ◌∷◌, ◌++◌, codes}
use Rattle.std.specs.List.{flat_map, join_with_byte}
use Rattle.cdni_log.specs.declared.line.TheConstants.{TAB}

-- the end of a line: CR LF
abbrev pub line_end : List ℕ
line_end = 13 ∷ 10 ∷ []

-- fields, joined by tabs
abbrev pub tabbed : List (List ℕ) → List ℕ
tabbed fields = join_with_byte TAB fields

-- the same, behind other fields
abbrev pub tabbed_behind : List (List ℕ) → List ℕ
tabbed_behind fields = flat_map (λ field. TAB ∷ field) fields

-- a directive: `#`, its name, `:`, a tab and its value
unfoldable pub directive : List ℕ → List ℕ → List ℕ
directive name value = codes "#" ++ name ++ codes ":" ++ TAB ∷ value ++ line_end

-- the text in quotes
abbrev pub quoted : List ℕ → List ℕ
quoted text = codes "\"" ++ text ++ codes "\""
