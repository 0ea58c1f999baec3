-- A delivery is denied by the first rule that forbids it.
use Rattle.std.proofs.Common.{◌≡◌, ◌↔◌, ◌⊎◌, ℕ, ◌<◌, ◌≤◌, Bool, true, false, List, [], ◌∷◌, refl, sym, ◌∙◌, ap, subst, inl, inr, ⊎_elim, arith, None, Some}
use Rattle.std.specs.Option.{option_or, option_map, option_map_or, option_and_then}
use Rattle.std.specs.declared.option.Option.{Option}
use Rattle.std.proofs.lemmas.Option.{same_Some, none-some}
use Rattle.targets.specs.declared.endpoint.Endpoint.{Endpoint}
use Rattle.cdni_base.specs.declared.rule.Rule.{Rule}
use Rattle.cdni_base.specs.declared.rule.Rule.TheVariants as rule
use Rattle.targets.specs.declared.target.Protocol.{Protocol}
use Rattle.listing.specs.FirstMatch.{first_match}
use Rattle.listing.proofs.FirstMatchLemmas.{decided_is, is_only_answer}
use Rattle.location_acl.specs.Acl as location
use Rattle.location_acl.specs.declared.footprint.Place.{Place}
use Rattle.protocol_acl.specs.Acl as protocol
use Rattle.time_window.specs.Acl as time
use Rattle.metadata_objects.specs.declared.generic.Generic.{Generic}
use Rattle.inheritance.specs.Held.{unenforceable_of, location_of, time_of, protocol_of}
use Rattle.verdict.specs.Plan.{plan_of}
use Rattle.verdict.specs.Verdict.{protocol_name, denied_by, unenforceable_rule, location_rule, time_rule, protocol_rule, no_source, source_rule, list_rule, first_rule, verdict_of, NoneForbids, IsDenied, Forbids, order_of, IsFirstToForbid}
use Rattle.verdict.proofs.Rules.{allowed_exactly}
use Rattle.verdict.specs.declared.judging.Verdict.{Verdict}
use Rattle.verdict.specs.declared.judging.Verdict.TheVariants.{Allow, Deny}

-- ---- a list that allows

-- an answer that allows denies by no rule
pub none_denied : (of : Option ℕ → Rule) (answer computed : Bool × Option ℕ) → answer ≡ computed → answer.0 ≡ true → None ≡ denied_by of computed
none_denied of answer computed same allowed = subst (λ (a : Bool × Option ℕ). None ≡ denied_by of a) same (by answer allowed)
  where
    by : (a : Bool × Option ℕ) → a.0 ≡ true → None ≡ denied_by of a
    by (true, number) is = refl
    by (false, number) is = absurd (cc)

-- ---- a list that denies

module _ {R : Type 0} (of : Option ℕ → Rule) (holds allows : R → Bool) where
  denied : (answer : Bool × Option ℕ) (r : Rule) → denied_by of answer ≡ Some r → (answer.0 ≡ false) × (r ≡ of answer.1)
  denied (true, number) r is = absurd (none-some r is)
  denied (false, number) r is = (refl, sym (same_Some (of number) r is))

  -- a list that denies forbids
  pub list_forbids : (found : Option (Option (List R))) (r : Rule) → option_and_then (λ rules. denied_by of (first_match holds allows rules)) found ≡ Some r
      → (number : Option ℕ) × (r ≡ of number) × IsDenied holds allows found number
  list_forbids None r is = absurd (none-some r is)
  list_forbids (Some rules) r is =
      let h = denied (first_match holds allows rules) r is in
      ((first_match holds allows rules).1, h.1, decided_is holds allows rules (false, (first_match holds allows rules).1) (λ i. (h.0 i, (first_match holds allows rules).1)))

  -- and what forbids is a list that denies
  pub list_denies : (found : Option (Option (List R))) (number : Option ℕ) → IsDenied holds allows found number
      → option_and_then (λ rules. denied_by of (first_match holds allows rules)) found ≡ Some (of number)
  list_denies None number is = absurd is
  list_denies (Some rules) number is = ap (denied_by of) (is_only_answer holds allows rules (false, number) is)

-- ---- each rule

mapped : {A B : Type 0} (f : A → B) (o : Option A) (y : B) → option_map f o ≡ Some y → (x : A) × (y ≡ f x) × (o ≡ Some x)
mapped f None y is = absurd (none-some y is)
mapped f (Some x) y is = (x, sym (same_Some (f x) y is), refl)

no_plan : (plan : List Endpoint) (r : Rule) → no_source plan ≡ Some r → (r ≡ rule.NoSource) × (plan ≡ [])
no_plan [] r is = (sym (same_Some rule.NoSource r is), refl)
no_plan (endpoint ∷ endpoints) r is = absurd (none-some r is)

or_some : {A : Type 0} (a b : Option A) (x : A) → option_or a b ≡ Some x → (a ≡ Some x) ⊎ ((a ≡ None) × (b ≡ Some x))
or_some None b x is = inr (refl, is)
or_some (Some y) b x is = inl is

none_where : {A : Type 0} (o : Option A) → ((x : A) → o ≡ Some x → ⊥) → o ≡ None
none_where None none = refl
none_where (Some x) none = absurd (none x refl)

clash : {A : Type 0} (o : Option A) (x : A) → o ≡ None → o ≡ Some x → ⊥
clash o x none some = none-some x (sym none ∙ some)

module _ (objects : List Generic) (spoken : Protocol) (place : Place) (moment : ℕ) where
  abbrev Forbidden : Rule → Type 0
  Forbidden r = Forbids objects spoken place moment r

  abbrev First : Rule → Type 0
  First r = IsFirstToForbid objects spoken place moment r

  unenforceable_is : (r : Rule) → unenforceable_rule objects ≡ Some r → (kind : List ℕ) × (r ≡ rule.Unenforceable kind) × (unenforceable_of objects ≡ Some kind)
  unenforceable_is r is = mapped rule.Unenforceable (unenforceable_of objects) r is

  location_is : (r : Rule) → location_rule objects place ≡ Some r → (number : Option ℕ) × (r ≡ rule.Location number) × Forbidden (rule.Location number)
  location_is r is = list_forbids rule.Location (location.rule_holds place) (λ one. one.allow) (location_of objects) r is

  time_is : (r : Rule) → time_rule objects moment ≡ Some r → (number : Option ℕ) × (r ≡ rule.Time number) × Forbidden (rule.Time number)
  time_is r is = list_forbids rule.Time (time.holds_moment moment) (λ one. one.allow) (time_of objects) r is

  protocol_is : (r : Rule) → protocol_rule objects spoken ≡ Some r → (number : Option ℕ) × (r ≡ rule.Protocol number) × Forbidden (rule.Protocol number)
  protocol_is r is = list_forbids rule.Protocol (protocol.names (protocol_name spoken)) (λ one. one.allow) (protocol_of objects) r is

  unenforceable_of_it : (kind : List ℕ) → Forbidden (rule.Unenforceable kind) → unenforceable_rule objects ≡ Some (rule.Unenforceable kind)
  unenforceable_of_it kind is = ap (λ (o : Option (List ℕ)). option_map rule.Unenforceable o) is

  location_of_it : (number : Option ℕ) → Forbidden (rule.Location number) → location_rule objects place ≡ Some (rule.Location number)
  location_of_it number is = list_denies rule.Location (location.rule_holds place) (λ one. one.allow) (location_of objects) number is

  time_of_it : (number : Option ℕ) → Forbidden (rule.Time number) → time_rule objects moment ≡ Some (rule.Time number)
  time_of_it number is = list_denies rule.Time (time.holds_moment moment) (λ one. one.allow) (time_of objects) number is

  protocol_of_it : (number : Option ℕ) → Forbidden (rule.Protocol number) → protocol_rule objects spoken ≡ Some (rule.Protocol number)
  protocol_of_it number is = list_denies rule.Protocol (protocol.names (protocol_name spoken)) (λ one. one.allow) (protocol_of objects) number is

  -- no rule with a lower place forbids, where the computed ones with a lower place are none
  record NoneBelow (n : ℕ) : Type 0 where
    unenforceable : 5 < n → unenforceable_rule objects ≡ None
    location : 6 < n → location_rule objects place ≡ None
    time : 7 < n → time_rule objects moment ≡ None
    protocol : 8 < n → protocol_rule objects spoken ≡ None
    last : n ≤ 9

  none_forbids : (n : ℕ) → NoneBelow n → (other : Rule) → order_of other < n → Forbidden other → ⊥
  none_forbids n none rule.Method less is = is
  none_forbids n none rule.NoMetadata less is = is
  none_forbids n none (rule.MetadataInvalid trigger) less is = is
  none_forbids n none rule.NoHost less is = is
  none_forbids n none (rule.Unenforceable kind) less is = clash _ _ (none.unenforceable less) (unenforceable_of_it kind is)
  none_forbids n none (rule.Location number) less is = clash _ _ (none.location less) (location_of_it number is)
  none_forbids n none (rule.Time number) less is = clash _ _ (none.time less) (time_of_it number is)
  none_forbids n none (rule.Protocol number) less is = clash _ _ (none.protocol less) (protocol_of_it number is)
  none_forbids n none rule.NoSource less is = let last = none.last in omega arith

  -- ---- the rule that is computed is the first

  first_is : (r : Rule) → first_rule objects spoken place moment ≡ Some r → First r
  unfolding first_rule
  first_is r is =
      ⊎_elim (λ here. let h = unenforceable_is r here in
      subst First (sym h.1) (h.2, none_forbids 5 (record { unenforceable = λ x. absurd (omega arith); location = λ x. absurd (omega arith); time = λ x. absurd (omega arith); protocol = λ x. absurd (omega arith); last = omega arith })))
      (λ rest. ⊎_elim (by_list rest.0) (λ last. let parts = list_none last.0 in let h = no_plan (plan_of objects) r last.1 in
      subst First (sym h.0) (h.1, none_forbids 9 (record { unenforceable = λ x. rest.0; location = λ x. parts.0; time = λ x. parts.1; protocol = λ x. parts.2; last = omega arith })))
      (or_some (list_rule objects spoken place moment) (source_rule objects) r rest.1))
      (or_some (unenforceable_rule objects) _ r is)
    where
      list_none : list_rule objects spoken place moment ≡ None → (location_rule objects place ≡ None) × (time_rule objects moment ≡ None) × (protocol_rule objects spoken ≡ None)
      list_none none = three _ _ _ none
        where
          three : (a b c : Option Rule) → option_or a (option_or b c) ≡ None → (a ≡ None) × (b ≡ None) × (c ≡ None)
          three None None c h = (refl, refl, h)
          three None (Some y) c h = absurd (none-some y (sym h))
          three (Some x) b c h = absurd (none-some x (sym h))

      by_list : unenforceable_rule objects ≡ None → list_rule objects spoken place moment ≡ Some r → First r
      by_list fine here =
          ⊎_elim (λ location. let h = location_is r location in
          subst First (sym h.1) (h.2, none_forbids 6 (record { unenforceable = λ x. fine; location = λ x. absurd (omega arith); time = λ x. absurd (omega arith); protocol = λ x. absurd (omega arith); last = omega arith })))
          (λ rest. ⊎_elim (λ time. let h = time_is r time in
          subst First (sym h.1) (h.2, none_forbids 7 (record { unenforceable = λ x. fine; location = λ x. rest.0; time = λ x. absurd (omega arith); protocol = λ x. absurd (omega arith); last = omega arith })))
          (λ last. let h = protocol_is r last.1 in
          subst First (sym h.1) (h.2, none_forbids 8 (record { unenforceable = λ x. fine; location = λ x. rest.0; time = λ x. last.0; protocol = λ x. absurd (omega arith); last = omega arith })))
          (or_some (time_rule objects moment) (protocol_rule objects spoken) r rest.1))
          (or_some (location_rule objects place) _ r here)

  -- ---- and the first is computed

  no_unenforceable : ((kind : List ℕ) → Forbidden (rule.Unenforceable kind) → ⊥) → unenforceable_rule objects ≡ None
  no_unenforceable none = none_where _ (λ r is. let h = unenforceable_is r is in none h.0 h.2)

  no_location : ((number : Option ℕ) → Forbidden (rule.Location number) → ⊥) → location_rule objects place ≡ None
  no_location none = none_where _ (λ r is. let h = location_is r is in none h.0 h.2)

  no_time : ((number : Option ℕ) → Forbidden (rule.Time number) → ⊥) → time_rule objects moment ≡ None
  no_time none = none_where _ (λ r is. let h = time_is r is in none h.0 h.2)

  no_protocol : ((number : Option ℕ) → Forbidden (rule.Protocol number) → ⊥) → protocol_rule objects spoken ≡ None
  no_protocol none = none_where _ (λ r is. let h = protocol_is r is in none h.0 h.2)

  none_or : {A : Type 0} (a b : Option A) → a ≡ None → option_or a b ≡ b
  none_or a b is = ap (λ (o : Option _). option_or o b) is

  some_or : {A : Type 0} (a b : Option A) (x : A) → a ≡ Some x → option_or a b ≡ Some x
  some_or a b x is = ap (λ (o : Option _). option_or o b) is

  first_of : (r : Rule) → First r → first_rule objects spoken place moment ≡ Some r
  unfolding first_rule
  first_of rule.Method is = absurd is.0
  first_of rule.NoMetadata is = absurd is.0
  first_of (rule.MetadataInvalid trigger) is = absurd is.0
  first_of rule.NoHost is = absurd is.0
  first_of (rule.Unenforceable kind) is = some_or _ _ _ (unenforceable_of_it kind is.0)
  first_of (rule.Location number) is =
      none_or _ _ (no_unenforceable (λ kind. is.1 (rule.Unenforceable kind) (omega arith))) ∙ some_or _ _ _ (some_or _ _ _ (location_of_it number is.0))
  first_of (rule.Time number) is =
      none_or _ _ (no_unenforceable (λ kind. is.1 (rule.Unenforceable kind) (omega arith)))
      ∙ some_or _ _ _ (none_or _ _ (no_location (λ n. is.1 (rule.Location n) (omega arith))) ∙ some_or _ _ _ (time_of_it number is.0))
  first_of (rule.Protocol number) is =
      none_or _ _ (no_unenforceable (λ kind. is.1 (rule.Unenforceable kind) (omega arith)))
      ∙ some_or _ _ _ (none_or _ _ (no_location (λ n. is.1 (rule.Location n) (omega arith))) ∙ none_or _ _ (no_time (λ n. is.1 (rule.Time n) (omega arith))) ∙ protocol_of_it number is.0)
  first_of rule.NoSource is =
      none_or _ _ (no_unenforceable (λ kind. is.1 (rule.Unenforceable kind) (omega arith)))
      ∙ none_or _ _ (none_or _ _ (no_location (λ n. is.1 (rule.Location n) (omega arith))) ∙ none_or _ _ (no_time (λ n. is.1 (rule.Time n) (omega arith))) ∙ no_protocol (λ n. is.1 (rule.Protocol n) (omega arith)))
      ∙ ap no_source is.0

denied_some : (found : Option Rule) (r : Rule) → option_map_or Deny found Allow ≡ Deny r → found ≡ Some r
denied_some None r is = absurd (cc)
denied_some (Some x) r is = let e : x ≡ r = cc in ap Some e

pub denied_by_first : (objects : List Generic) (spoken : Protocol) (place : Place) (moment : ℕ) (r : Rule)
    → (verdict_of objects spoken place moment ≡ Deny r) ↔ IsFirstToForbid objects spoken place moment r
denied_by_first objects spoken place moment r = (
  λ is. first_is objects spoken place moment r (denied_some (first_rule objects spoken place moment) r is),
  λ first. ap (λ (found : Option Rule). option_map_or Deny found Allow) (first_of objects spoken place moment r first),
)

-- the same of a verdict that is the computed one
pub denied_exactly : (objects : List Generic) (spoken : Protocol) (place : Place) (moment : ℕ) (verdict : Verdict) → verdict ≡ verdict_of objects spoken place moment
    → (r : Rule) → (verdict ≡ Deny r) ↔ IsFirstToForbid objects spoken place moment r
denied_exactly objects spoken place moment verdict is r =
    let h = denied_by_first objects spoken place moment r in (λ denied. h.0 (sym is ∙ denied), λ first. is ∙ h.1 first)

pub judged_allowed : (objects : List Generic) (spoken : Protocol) (place : Place) (moment : ℕ) (verdict : Verdict) → verdict ≡ verdict_of objects spoken place moment
    → (verdict ≡ Allow) ↔ NoneForbids objects spoken place moment
judged_allowed objects spoken place moment verdict is =
    let h = allowed_exactly objects spoken place moment in (λ allowed. h.0 (sym is ∙ allowed), λ none. is ∙ h.1 none)
