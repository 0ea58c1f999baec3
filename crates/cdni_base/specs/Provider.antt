-- Provider ids (RFC 8007, section 4.6): `AS`, a number, `:` and a qualifier.
use Rattle.std.specs.Prelude.{◌≡◌, ℕ, ◌+◌, ◌≤◌, IsTrue, List, ◌∷◌, ◌++◌, length, drop, slice_index, min, None, Some, Ok, Err, IsOk, ◌==◌, ◌&&◌, nat_lt, nat_le, if◌then◌else◌}
use Rattle.std.specs.List.{prefix_len, list_all}
use Rattle.std.specs.Option.{option_map_or}
use Rattle.std.specs.Char.{is_ascii_digit}
use Rattle.std.specs.Str.{all_ascii_digits}
use Rattle.std.specs.declared.option.Option.{Option}
use Rattle.std.specs.declared.result.Result.{Result}
use Rattle.cdni_base.specs.declared.provider.ProviderId.{ProviderId}
use Rattle.cdni_base.specs.declared.provider.ProviderFault.{ProviderFault}
use Rattle.cdni_base.specs.declared.provider.ProviderFault.TheVariants.{Bad, Memory}
use Rattle.targets.specs.Endpoint.{is_name_byte}
use Rattle.listing.specs.Fronts.{IsLongestFront}
use Rattle.targets.specs.declared.byte.TheConstants.{COLON}
use Rattle.cdni_base.specs.declared.provider.TheConstants.{AS_DIGITS, QUALIFIER_MAX}

-- the text is `AS`, 1 to 10 digits, `:`, and 1 to 64 letters, digits, `-`, `.` and `_`
abbrev pub IsProvider : List ℕ → Type 0
IsProvider text =
    (digits : List ℕ) × (qualifier : List ℕ) × (text ≡ 65 ∷ 83 ∷ (digits ++ COLON ∷ qualifier)) ×
    (1 ≤ length digits) × (length digits ≤ AS_DIGITS) × IsTrue (all_ascii_digits digits) ×
    (1 ≤ length qualifier) × (length qualifier ≤ QUALIFIER_MAX) × IsTrue (list_all is_name_byte qualifier)

-- the text is this provider id, which is kept as it was sent
abbrev pub IsProviderId : List ℕ → ProviderId → Type 0
IsProviderId text id = IsProvider text × (id.0 ≡ text)

-- how many bytes of `AS` stand at the front
abbrev pub as_length : List ℕ → ℕ
as_length text = if slice_index text 0 == 65 then (if slice_index text 1 == 83 then 2 else 1) else 0

-- The place of the first byte with which no provider id goes on, or of the end where more has to follow; none where the
-- text is one. First of a qualifier that begins at this place and has so many bytes, then of a number with so many
-- digits.
abbrev pub wrong_qualifier : List ℕ → ℕ → ℕ → Option ℕ
wrong_qualifier text start count = if nat_lt 0 count && nat_le count QUALIFIER_MAX
    && start + count == length text then None else Some (start + min count QUALIFIER_MAX)

abbrev pub wrong_number : List ℕ → ℕ → Option ℕ
wrong_number text count = if nat_lt 0 count && nat_le count AS_DIGITS && slice_index text (count + 2) == COLON
    then wrong_qualifier text (count + 3) (prefix_len is_name_byte (drop (count + 3) text))
    else Some (min count AS_DIGITS + 2)

unfoldable pub wrong_place : List ℕ → Option ℕ
wrong_place text = if as_length text == 2 then wrong_number text (prefix_len is_ascii_digit (drop 2 text))
    else Some (as_length text)

-- the provider id that the text writes, or its fault
abbrev pub provider_of : List ℕ → Result ProviderId ProviderFault
provider_of text = option_map_or (λ at. Err (Bad at)) (wrong_place text) (Ok (record { 0 = text }))

-- a reader of provider ids answers the reading of the text; only where the text is one may it find no memory
abbrev pub ReadsProvider : List ℕ → Result ProviderId ProviderFault → Type 0
ReadsProvider text (Ok id) = provider_of text ≡ Ok id
ReadsProvider text (Err Memory) = IsOk (provider_of text)
ReadsProvider text (Err fault) = provider_of text ≡ Err fault

-- it answers the value of the text; or a fault, where the text has none; or finds no memory
abbrev pub AnswersProvider : List ℕ → Result ProviderId ProviderFault → Type 0
AnswersProvider text (Ok id) = IsProviderId text id
AnswersProvider text (Err Memory) = Unit {0}
AnswersProvider text (Err fault) = (id : ProviderId) → IsProviderId text id → ⊥

-- its fault stands where no provider id goes on
abbrev pub ProviderStands : List ℕ → Result ProviderId ProviderFault → Type 0
ProviderStands text (Err (Bad at)) = IsLongestFront IsProvider text at
ProviderStands text (Err Memory) = Unit {0}
ProviderStands text (Ok id) = Unit {0}
