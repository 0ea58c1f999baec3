-- The trigger that a status resource shows is read again.
use Rattle.std.proofs.Common.{◌≡◌, ℕ, ◌<◌, Bool, true, false, List, [], ◌∷◌, ◌++◌, All, Contains, IsTrue, refl, sym, ◌∙◌, subst, inl, inr, Ok, IsUtf8, arith, append-nil, codes, rules}
use Rattle.std.specs.List.{list_all}
use Rattle.std.specs.Char.{is_ascii_digit}
use Rattle.std.proofs.lemmas.Bool.{and_parts, cases_lt}
use Rattle.std.proofs.lemmas.Bool.Decides.{nat_tests}
use Rattle.std.proofs.lemmas.List.Elements.{All-weaker}
use Rattle.std.proofs.lemmas.Str.{IsUtf8-nil}
use Rattle.cdni_base.specs.Provider.{IsProvider}
use Rattle.cdni_base.specs.declared.provider.ProviderId.{ProviderId}
use Rattle.cdni_base.proofs.ProviderLemmas.{digits_all}
use Rattle.serde_json.specs.Data.{Data}
use Rattle.targets.specs.Endpoint.{is_name_byte}
use Rattle.trigger_command.specs.Reading.{command_of}
use Rattle.trigger_command.specs.Spec.{SpecParts}
use Rattle.trigger_command.specs.declared.command.Act.{Act}
use Rattle.trigger_command.specs.declared.command.Act.TheVariants as act
use Rattle.trigger_command.specs.declared.command.Command.{Command}
use Rattle.command_law.specs.Grammar.{IsAct, IsSpec}
use Rattle.trigger_status.specs.Command.{command_data, command_text}
use Rattle.command_law.proofs.Commands.{text_meets}
use Rattle.command_law.proofs.Kept.{IsInUtf8, property_utf8, command_read_back}
use Rattle.command_law.proofs.Shown.{shown_is_command}
use Rattle.command_law.proofs.Utf8Texts.{ascii_then}
use Rattle.command_law.proofs.Utf8Values.{json_utf8}

-- ---- a provider id is in UTF-8

name_byte_ascii : (byte : ℕ) → is_name_byte byte ≡ true → byte < 128
name_byte_ascii byte is = elim (cases_lt byte 128) [ inl small ↦ small | inr big ↦ grind (arith, nat_tests) ]

digit_ascii : (byte : ℕ) → is_ascii_digit byte ≡ true → byte < 128
digit_ascii byte is = elim (cases_lt byte 128) [ inl small ↦ small | inr big ↦ grind (arith, nat_tests) ]

all_ascii : (test : ℕ → Bool) → ((byte : ℕ) → test byte ≡ true → byte < 128) → (bytes rest : List ℕ) → list_all test bytes ≡ true → IsUtf8 rest → IsUtf8 (bytes ++ rest)
all_ascii test small [] rest all utf8 = utf8
all_ascii test small (byte ∷ bytes) rest all utf8 = let p = and_parts (test byte) (list_all test bytes) all in
    ascii_then byte (bytes ++ rest) (small byte p.0) (all_ascii test small bytes rest p.1 utf8)

from_true : (b : Bool) → IsTrue b → b ≡ true
from_true true is = refl
from_true false is = absurd (search rules)

id_utf8 : (id : ProviderId) → IsProvider id.0 → IsUtf8 id.0
id_utf8 id so =
    let digits = so.0 in let qualifier = so.1 in
    let last : IsUtf8 (qualifier ++ []) = all_ascii is_name_byte name_byte_ascii qualifier [] (from_true _ so.8) IsUtf8-nil in
    let tail : IsUtf8 qualifier = subst IsUtf8 (append-nil qualifier) last in
    subst IsUtf8 (sym so.2) (ascii_then 65 _ (omega arith) (ascii_then 83 _ (omega arith)
    (all_ascii is_ascii_digit digit_ascii digits (58 ∷ qualifier) (sym (digits_all digits) ∙ from_true _ so.5) (ascii_then 58 qualifier (omega arith) tail))))

-- ---- the specification of a command that was read

spec_of_act : (control : List ℕ) (value : Data) (a : Act) (spec : SpecParts) → IsInUtf8 value → a ≡ act.Trigger spec → IsAct control value a → (trigger : Data) × IsSpec trigger spec × IsInUtf8 trigger
spec_of_act control value a spec utf8 is so =
    let there = subst (IsAct control value) is so in (there.0, there.3, property_utf8 (codes "trigger") value there.0 utf8 there.1)

pub shown_again : (own other : ProviderId) (control elsewhere text : List ℕ) (command : Command) (spec : SpecParts) (path : List ProviderId)
    → command_of own control text ≡ Ok command → command.act ≡ act.Trigger spec → All (λ id. IsProvider id.0) path → (Contains path other → ⊥)
    → command_of other elsewhere (command_text path spec) ≡ Ok (record { path = path; act = act.Trigger spec })
shown_again own other control elsewhere text command spec path reads is ids foreign =
    let written = (text_meets own control text).read command reads in
    let there = spec_of_act control written.0 command.act spec (json_utf8 text written.0 written.1) is written.2.act in
    (text_meets other elsewhere (command_text path spec)).is_read (record { path = path; act = act.Trigger spec }) (
      command_data path spec,
      command_read_back path there.0 spec (All-weaker (λ id. IsProvider id.0) (λ id. IsUtf8 id.0) (λ id so. id_utf8 id so) path ids) there.1 there.2,
      shown_is_command other elsewhere path spec there.0 there.1 ids foreign,
    )
