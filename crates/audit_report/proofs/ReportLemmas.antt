-- Lines of records, and the values in them.
use Rattle.std.proofs.Common.{◌≡◌, ℕ, ◌+◌, ◌<◌, ◌==◌, true, List, [], ◌∷◌, length, drop, sym, ◌∙◌, ap, ap₂, arith, drop-cons, add-one}
use Rattle.std.specs.List.{count_by}
use Rattle.std.proofs.lemmas.Bool.{and_parts, eqb-true}
use Rattle.std.proofs.lemmas.List.{drop_all}
use Rattle.std.proofs.lemmas.List.Splits.{join_with_byte-slice_split, length-slice_split}
use Rattle.cdni_log.specs.Line.{tabbed}
use Rattle.audit_report.specs.Report.{are_next, value_at, values_at, values_of}

-- the values at the places from one on are those from there on
next_values : (values : List (List ℕ)) (at : ℕ) (places : List ℕ) → are_next at places ≡ true → at + length places ≡ length values → values_at values places ≡ drop at values
next_values values at [] next long = sym (drop_all at values (omega (arith, long)))
next_values values at (place ∷ places) next long =
    let parts = and_parts (place == at) (are_next (at + 1) places) next in
    let below : at < length values = omega (arith, long) in
    ap₂ (λ v vs. v ∷ vs) (ap (value_at values) (eqb-true place at parts.0))
    (next_values values (at + 1) places parts.1 (omega (arith, long)) ∙ ap (λ n. drop n values) (add-one at)) ∙ sym (drop-cons values at [] below)

-- a line whose values are printed in its own order is printed as it stands
pub printed_so : (line : List ℕ) (places : List ℕ) → are_next 0 places ≡ true → length (values_of line) ≡ length places → tabbed (values_at (values_of line) places) ≡ line
printed_so line places next long = ap tabbed (next_values (values_of line) 0 places next (omega (arith, long))) ∙ join_with_byte-slice_split 9 line

-- a tab stands between each two values
pub values_counted : (line : List ℕ) → length (values_of line) ≡ count_by (λ byte. byte == 9) line + 1
values_counted line = length-slice_split (λ (byte : ℕ). byte == 9) line
