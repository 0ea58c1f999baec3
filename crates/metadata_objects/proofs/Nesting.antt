-- How many PathMatch objects may nest.
use Rattle.std.proofs.Common.{◌≡◌, ℕ, zero, suc, ◌+◌, ◌-◌, ◌<◌, List, refl, ◌∙◌, arith, Ok, Err}
use Rattle.serde_json.specs.Data.{Data}
use Rattle.json_read.specs.Field.{◌>>=◌}
use Rattle.metadata_objects.specs.Reading.{Reading, counted, Fails}
use Rattle.metadata_objects.specs.Level.{path_match_of, path_match_with}
use Rattle.metadata_objects.specs.declared.host.TheConstants.{NESTING_MAX}
use Rattle.metadata_objects.specs.declared.fault.MetaFault.{MetaFault}
use Rattle.metadata_objects.specs.declared.fault.MetaFault.TheVariants.{TooLong, NotJson, Link, Field, TooMany, TooDeep, Memory}

pub none_left : (left : ℕ) (path : List ℕ) (n : ℕ) (value : Data) → left ≡ 0 → path_match_of left path n value ≡ (counted n >>= λ m. Err (TooDeep (NESTING_MAX + 1)))
unfolding path_match_of
none_left left path n value is = rw is refl

pub some_left : (left : ℕ) (path : List ℕ) (n : ℕ) (value : Data) → 0 < left
    → path_match_of left path n value ≡ path_match_with (path_match_of (left - 1)) path n value
unfolding path_match_of
some_left zero path n value more = absurd (omega arith)
some_left (suc left) path n value more = let e : suc left - 1 ≡ left = omega arith in rw e refl

-- a fault that the reading has is the reader's
pub is_fault : {B : Type 0} (fault : MetaFault) (reading : Reading B) → reading ≡ Err fault → Fails fault reading
is_fault (TooLong len) reading is = is
is_fault NotJson reading is = is
is_fault (Link path) reading is = is
is_fault (Field fault) reading is = is
is_fault (TooMany n) reading is = is
is_fault (TooDeep n) reading is = is
is_fault Memory reading is = tt

pub uncounted : (left : ℕ) (path : List ℕ) (n : ℕ) (value : Data) (fault : MetaFault) → left ≡ 0 → counted n ≡ Err fault → path_match_of left path n value ≡ Err fault
uncounted left path n value fault none is = none_left left path n value none ∙ rw is refl

pub too_deep : (left : ℕ) (path : List ℕ) (n m : ℕ) (value : Data) → left ≡ 0 → counted n ≡ Ok m → path_match_of left path n value ≡ Err (TooDeep (NESTING_MAX + 1))
too_deep left path n m value none is = none_left left path n value none ∙ rw is refl
