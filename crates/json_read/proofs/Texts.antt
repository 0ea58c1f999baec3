-- Which bytes are a JSON text.
use Rattle.std.proofs.Common.{◌≡◌, ℕ, inl, inr, List, ◌∙◌, None}
use Rattle.std.specs.Str.{is_utf8, IsUtf8}
use Rattle.serde_json.specs.Read.{read}
use Rattle.json_read.specs.Text.{json_of}
use Rattle.std.proofs.lemmas.Bool.{cond-true, cond-false, cases_Bool}
use Rattle.std.proofs.lemmas.Str.{is_utf8-from_IsUtf8, IsUtf8-from_is_utf8}

-- bytes in UTF-8 are the value that they are read as
pub json_of-utf8 : (bytes : List ℕ) → IsUtf8 bytes → json_of bytes ≡ read bytes
unfolding json_of
json_of-utf8 bytes utf8 = cond-true _ _ _ (is_utf8-from_IsUtf8 bytes utf8)

-- bytes that are no value where they are in UTF-8 are none
pub json_of-none : (bytes : List ℕ) → (IsUtf8 bytes → read bytes ≡ None) → json_of bytes ≡ None
unfolding json_of
json_of-none bytes none = elim (cases_Bool (is_utf8 bytes)) [
  | inl is ↦ cond-true _ _ _ is ∙ none (IsUtf8-from_is_utf8 bytes is)
  | inr is_not ↦ cond-false _ _ _ is_not
]
