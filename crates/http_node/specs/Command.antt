-- The words of the commands that read and write streams.
use Rattle.std.specs.Prelude.{◌≡◌, Bool, true, false, List, [], ◌∷◌, codes, bytes_eq, ◌&&◌, String, string_bytes}
use Rattle.std.specs.declared.alloc.Global.{Global}
use Rattle.generated_script.specs.Numbers.{ScriptNumbers, WriteNumbers}

-- the one word `replay`
abbrev pub is_replay : List (String Global) → Bool
is_replay [] = false
is_replay (word ∷ []) = bytes_eq (string_bytes word) (codes "replay")
is_replay (word ∷ next ∷ words) = false

-- the words `replay` and `--summary`
abbrev pub is_summary : List (String Global) → Bool
is_summary [] = false
is_summary (word ∷ []) = false
is_summary (word ∷ option ∷ []) =
    bytes_eq (string_bytes word) (codes "replay") && bytes_eq (string_bytes option) (codes "--summary")
is_summary (word ∷ option ∷ next ∷ words) = false

-- the one word `audit`
abbrev pub is_audit : List (String Global) → Bool
is_audit [] = false
is_audit (word ∷ []) = bytes_eq (string_bytes word) (codes "audit")
is_audit (word ∷ next ∷ words) = false

-- the word `generate` and two that write these numbers
abbrev pub AsksFor : List (String Global) → ScriptNumbers → Type 0
AsksFor [] numbers = ⊥
AsksFor (word ∷ []) numbers = ⊥
AsksFor (word ∷ rounds ∷ []) numbers = ⊥
AsksFor (word ∷ rounds ∷ seed ∷ []) numbers = (bytes_eq (string_bytes word) (codes "generate") ≡ true)
    × WriteNumbers (string_bytes rounds) (string_bytes seed) numbers
AsksFor (word ∷ rounds ∷ seed ∷ next ∷ words) numbers = ⊥

-- the words are none of these commands
pub record IsNoCommand (words : List (String Global)) : Type 0 where
  pub replay : is_replay words ≡ false
  pub summary : is_summary words ≡ false
  pub audit : is_audit words ≡ false
  pub generate : (numbers : ScriptNumbers) → AsksFor words numbers → ⊥
