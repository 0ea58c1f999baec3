-- The text of a part, as the value of a Content-Range header (RFC 9110, section 14.4).
use Rattle.std.specs.Prelude.{◌≡◌, ℕ, ◌+◌, ◌<◌, ◌≤◌, Bool, true, false, List, ◌++◌, length, codes, decimal}
use Rattle.cdni_base.specs.Scratch.{Room}

-- `bytes FIRST-LAST/LEN`
abbrev pub range_text : ℕ → ℕ → ℕ → List ℕ
range_text first last len = codes "bytes " ++ decimal first ++ codes "-" ++ decimal last ++ codes "/" ++ decimal len

-- all of the text was added, or it does not fit and some bytes were
abbrev pub PutsFront : Room → Room → List ℕ → Bool → Type 0
PutsFront old new text true = (length old.text + length text ≤ old.room)
    × (new ≡ record { text = old.text ++ text; room = old.room })
PutsFront old new text false = (old.room < length old.text + length text) × ((some : List ℕ)
    × (new ≡ record { text = old.text ++ some; room = old.room }))
