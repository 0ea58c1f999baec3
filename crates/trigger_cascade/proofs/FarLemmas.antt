-- Names of statuses.
use Rattle.std.proofs.Common.{◌≡◌, ℕ, Bool, true, false, List, codes, bytes_eq, None, Some, Ok, Err, IfOk, IfSome, refl, sym, ◌∙◌, ap, subst, if◌then◌else◌}
use Rattle.std.proofs.lemmas.Slice.Eq.{bytes_eq-Decides}
use Rattle.std.specs.declared.option.Option.{Option}
use Rattle.std.specs.declared.result.Result.{Result}
use Rattle.json_read.specs.Text.{json_of}
use Rattle.listing.specs.Word.{◌>>=◌}
use Rattle.serde_json.specs.Data.{Data, null, boolean, number, string, array, object}
use Rattle.serde_json.specs.Find.{as_str, get}
use Rattle.trigger_cascade.specs.Far.{far_in, far_name, far_of, far_of_value, HasStatus}
use Rattle.trigger_cascade.specs.declared.far.Far.{Far}
use Rattle.trigger_cascade.specs.declared.far.Far.TheVariants.{Pending, Active, Complete, Processed, Failed, Cancelling, Cancelled}

-- a name that was found is that of its status
named_by : (test : Bool) (name : List ℕ) (far : Far) (others : Option Far) (found : Far) → (test ≡ true → name ≡ far_name far)
    → (others ≡ Some found → name ≡ far_name found) → (if test then Some far else others) ≡ Some found → name ≡ far_name found
named_by true name far others found same rest is = let e : far ≡ found = cc in subst (λ (f : Far). name ≡ far_name f) e (same refl)
named_by false name far others found same rest is = rest is

named_at : (name : List ℕ) (far : Far) (others : Option Far) (found : Far) → (others ≡ Some found → name ≡ far_name found)
    → (if bytes_eq name (far_name far) then Some far else others) ≡ Some found → name ≡ far_name found
named_at name far others found = named_by (bytes_eq name (far_name far)) name far others found (bytes_eq-Decides name (far_name far)).0

named : (name : List ℕ) (found : Far) → far_in name ≡ Some found → name ≡ far_name found
named name found = named_at name Pending _ found (named_at name Active _ found (named_at name Complete _ found
    (named_at name Processed _ found (named_at name Failed _ found (named_at name Cancelling _ found
    (named_at name Cancelled None found (λ is. absurd (cc))))))))

-- each name is found
found_name : (far : Far) → far_in (far_name far) ≡ Some far
found_name Pending = refl
found_name Active = refl
found_name Complete = refl
found_name Processed = refl
found_name Failed = refl
found_name Cancelling = refl
found_name Cancelled = refl

is_string : (value : Data) (text : List ℕ) → as_str value ≡ Some text → value ≡ string text
is_string null text is = absurd (cc)
is_string (boolean b) text is = absurd (cc)
is_string (number n) text is = absurd (cc)
is_string (string s) text is = let e : s ≡ text = cc in ap string e
is_string (array ds) text is = absurd (cc)
is_string (object ms) text is = absurd (cc)

module _ (body : List ℕ) (far : Far) where
  by_text : (value status : Data) (text : Option (List ℕ)) → json_of body ≡ Some value → get (codes "status") value ≡ Some status → as_str status ≡ text
      → (text >>= far_in) ≡ Some far → HasStatus body far
  by_text value status None json found text is = absurd (cc)
  by_text value status (Some name) json found text is = (value, json, found ∙ ap Some (is_string status name text ∙ ap string (named name far is)))

  by_status : (value : Data) (status : Option Data) → json_of body ≡ Some value → get (codes "status") value ≡ status
      → (status >>= λ s. as_str s >>= far_in) ≡ Some far → HasStatus body far
  by_status value None json found is = absurd (cc)
  by_status value (Some status) json found is = by_text value status (as_str status) json found refl is

  by_json : (value : Option Data) → json_of body ≡ value → (value >>= far_of_value) ≡ Some far → HasStatus body far
  by_json None json is = absurd (cc)
  by_json (Some value) json is = by_status value (get (codes "status") value) json refl is

  -- a status that is found is shown, and one that is shown is found
  pub is_shown : far_of body ≡ Some far → HasStatus body far
  unfolding far_of
  is_shown is = by_json (json_of body) refl is

  pub is_found : HasStatus body far → far_of body ≡ Some far
  unfolding far_of
  is_found shown = ap (λ value. value >>= far_of_value) shown.1
      ∙ ap (λ status. status >>= λ s. as_str s >>= far_in) shown.2 ∙ found_name far

shown_by : (body : List ℕ) (found : Option Far) → found ≡ far_of body → IfSome found (λ far. HasStatus body far)
shown_by body None is = tt
shown_by body (Some far) is = is_shown body far (sym is)

pub shown_status : {E : Type 0} (body : List ℕ) (result : Result (Option Far) E) → IfOk result (λ far. far ≡ far_of body)
    → IfOk result (λ found. IfSome found (λ far. HasStatus body far))
shown_status body (Ok found) is = shown_by body found is
shown_status body (Err wrong) is = tt

pub found_status : {E : Type 0} (body : List ℕ) (far : Far) → HasStatus body far → (result : Result (Option Far) E)
    → IfOk result (λ found. found ≡ far_of body) → IfOk result (λ found. found ≡ Some far)
found_status body far shown (Ok found) is = is ∙ is_found body far shown
found_status body far shown (Err wrong) is = tt
