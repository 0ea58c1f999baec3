-- The digits of a text that is cut.
use Rattle.std.proofs.Common.{◌≡◌, ℕ, List, [], ◌∷◌, ◌++◌, refl, sym, ◌∙◌, ap, append_assoc}
use Rattle.hex.specs.Hex.{encode_with, encode_lower, lower_digits}
use Rattle.std.specs.Prelude.{slice_index, ◌/◌, ◌%◌}

encoded_parts : (digits front rest : List ℕ) → encode_with digits (front ++ rest) ≡ encode_with digits front ++ encode_with digits rest
unfolding encode_with
encoded_parts digits [] rest = refl
encoded_parts digits (byte ∷ front) rest = ap (λ text. slice_index digits (byte / 16) ∷ slice_index digits (byte % 16) ∷ text) (encoded_parts digits front rest)

-- the digits of a block are written, and those of what follows are to be written
pub block_written : (before block more rest : List ℕ) → rest ≡ block ++ more → (before ++ encode_lower block) ++ encode_lower more ≡ before ++ encode_lower rest
block_written before block more rest is =
    append_assoc before (encode_lower block) (encode_lower more) ∙ ap (λ text. before ++ text) (sym (encoded_parts lower_digits block more)) ∙ ap (λ text. before ++ encode_lower text) (sym is)
