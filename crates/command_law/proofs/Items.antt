-- The items of a command: what the checks behind the fields answer of each URL, pattern and id.
use Rattle.std.proofs.Common.{◌≡◌, ℕ, zero, suc, ◌+◌, ◌<◌, ◌≤◌, Bool, true, false, List, [], ◌∷◌, map, length, bytes_eq, All, Contains, refl, sym, ap, ◌∙◌, subst, inl, inr, Ok, Err, None, Some, Option, arith}
use Rattle.std.specs.List.{AllZip}
use Rattle.std.specs.Prelude.{if◌then◌else◌, nat_lt}
use Rattle.std.specs.Option.{option_map_or}
use Rattle.std.specs.Result.{result_ok}
use Rattle.std.specs.declared.result.Result.{Result}
use Rattle.std.proofs.lemmas.Bool.{both_ways, ltb-true, ltb-false, or_cases, or_left, or_right}
use Rattle.std.proofs.lemmas.List.Elements.{All-cons, All-head, All-nil, All-tail}
use Rattle.std.proofs.lemmas.Option.{none-some, same_Some}
use Rattle.std.proofs.lemmas.Slice.Eq.{bytes_eq-Decides}
use Rattle.cdni_base.specs.declared.provider.ProviderId.{ProviderId}
use Rattle.json_read.specs.Field.{◌>>=◌}
use Rattle.targets.specs.Grammar.{IsTarget}
use Rattle.targets.specs.Target.{target_of}
use Rattle.targets.specs.declared.target.Target.{Target}
use Rattle.targets.specs.declared.target.TargetFault.{TargetFault}
use Rattle.targets.proofs.TargetLemmas.{target_is_read, target_read}
use Rattle.trigger_command.specs.Draft.{each_from}
use Rattle.trigger_command.specs.Reading.{url_at, pattern_item, pattern_item_at, number_at, has_own}
use Rattle.trigger_command.specs.TriggerUrl.{trigger_number}
use Rattle.trigger_command.specs.declared.fault.CommandFault.{CommandFault}
use Rattle.trigger_command.specs.declared.fault.CommandFault.TheVariants as fault
use Rattle.trigger_command.specs.declared.selection.PatternItem.{PatternItem}
use Rattle.trigger_command.specs.declared.selection.UrlItem.{UrlItem}
use Rattle.command_law.specs.Grammar.{IsStatusUrl}
use Rattle.command_law.specs.Faults.{IsAbsoluteUrl, IsSomeStatusUrl, IsShort, WrittenPattern}
use Rattle.command_law.proofs.Meets.{Meets, ok_err, same_ok, meets_ok, meets_err, meets_also}
use Rattle.command_law.proofs.Fields.{pattern_draft}
use Rattle.command_law.proofs.StatusUrl.{status_is, status_number}

-- ---- a URL

abbrev pub IsUrlItem : List ℕ → UrlItem → Type 0
IsUrlItem text item = (text ≡ item.text) × IsTarget item.text None false item.target

abbrev url_or_not : ℕ → List ℕ → Result Target TargetFault → Result UrlItem CommandFault
url_or_not i text target = option_map_or (λ t. Ok (record { text = text; target = t })) (result_ok target) (Err (fault.BadUrl i))

url_found : (i : ℕ) (text : List ℕ) (target : Result Target TargetFault) → target_of text None false ≡ target
    → Meets (url_or_not i text target) (IsUrlItem text) (λ wrong. (IsAbsoluteUrl text → ⊥) × (wrong ≡ fault.BadUrl i))
url_found i text (Ok target) is = let url : UrlItem = record { text = text; target = target } in meets_also (Ok url) (meets_ok url)
    (λ item same. subst (IsUrlItem text) same (refl, target_read text None false target is))
    (λ item so. url_same text target item so.0 (same_ok target item.target (sym is ∙ target_is_read text None false item.target (subst (λ t. IsTarget t None false item.target) (sym so.0) so.1))))
    (λ wrong none. absurd none) (λ wrong so. so.0 (target, target_read text None false target is))
  where
    url_same : (text : List ℕ) (target : Target) (item : UrlItem) → text ≡ item.text → target ≡ item.target → ◌≡◌ {A = UrlItem} (record { text = text; target = target }) item
    url_same text target item a b = rw (a, b) refl
url_found i text (Err why) is = meets_also (Err (fault.BadUrl i)) (meets_err (fault.BadUrl i))
    (λ item none. absurd none) (λ item so. ok_err item.target why (sym (target_is_read text None false item.target (subst (λ t. IsTarget t None false item.target) (sym so.0) so.1)) ∙ is))
    (λ wrong so. (λ (absolute : IsAbsoluteUrl text). ok_err absolute.0 why (sym (target_is_read text None false absolute.0 absolute.1) ∙ is), so)) (λ wrong so. so.1)

pub url_meets : (i : ℕ) (text : List ℕ) → Meets (url_at i text) (IsUrlItem text) (λ wrong. (IsAbsoluteUrl text → ⊥) × (wrong ≡ fault.BadUrl i))
url_meets i text = url_found i text (target_of text None false) refl

-- ---- a pattern

abbrev pub IsItemOf : WrittenPattern → PatternItem → Type 0
IsItemOf pattern item = IsShort pattern × (pattern_item (pattern_draft pattern) ≡ item)

abbrev pattern_or_not : Bool → ℕ → WrittenPattern → Result PatternItem CommandFault
pattern_or_not long i pattern = if long then Err (fault.BadPattern i) else Ok (pattern_item (pattern_draft pattern))

pattern_by : (long : Bool) (i : ℕ) (pattern : WrittenPattern) → nat_lt 1024 (length pattern.text) ≡ long
    → Meets (pattern_or_not long i pattern) (IsItemOf pattern) (λ wrong. (IsShort pattern → ⊥) × (wrong ≡ fault.BadPattern i))
pattern_by true i pattern is = let far : 1024 < length pattern.text = ltb-true 1024 (length pattern.text) is in meets_also (Err (fault.BadPattern i)) (meets_err (fault.BadPattern i))
    (λ item none. absurd none) (λ item so. absurd (omega (arith, so.0)))
    (λ wrong so. (λ short. omega (arith, short), so)) (λ wrong so. so.1)
pattern_by false i pattern is = let near : length pattern.text ≤ 1024 = ltb-false 1024 (length pattern.text) is in meets_also (Ok (pattern_item (pattern_draft pattern))) (meets_ok (pattern_item (pattern_draft pattern)))
    (λ item same. (near, same)) (λ item so. so.1) (λ wrong none. absurd none) (λ wrong so. so.0 near)

pub pattern_item_meets : (i : ℕ) (pattern : WrittenPattern) → Meets (pattern_item_at i (pattern_draft pattern)) (IsItemOf pattern) (λ wrong. (IsShort pattern → ⊥) × (wrong ≡ fault.BadPattern i))
pattern_item_meets i pattern = pattern_by (nat_lt 1024 (length pattern.text)) i pattern refl

-- patterns as the reader has them
pub each_of_drafts : (n : ℕ) (patterns : List WrittenPattern) → each_from pattern_item_at n (map pattern_draft patterns) ≡ each_from (λ i pattern. pattern_item_at i (pattern_draft pattern)) n patterns
unfolding each_from
each_of_drafts n [] = refl
each_of_drafts n (pattern ∷ patterns) = ap (λ rest. pattern_item_at n (pattern_draft pattern) >>= λ first. rest >>= λ others. Ok (first ∷ others)) (each_of_drafts (n + 1) patterns)

-- ---- an id in a cancel

abbrev number_or_not : ℕ → Option ℕ → Result ℕ CommandFault
number_or_not i found = option_map_or (λ n. Ok n) found (Err (fault.BadUrl i))

number_found : (control : List ℕ) (i : ℕ) (text : List ℕ) (found : Option ℕ) → trigger_number control text ≡ found
    → Meets (number_or_not i found) (IsStatusUrl control text) (λ wrong. (IsSomeStatusUrl control text → ⊥) × (wrong ≡ fault.BadUrl i))
number_found control i text (Some n) is = meets_also (Ok n) (meets_ok n)
    (λ m same. subst (IsStatusUrl control text) same (status_is control text n is)) (λ m so. same_Some n m (sym is ∙ status_number control text m so))
    (λ wrong none. absurd none) (λ wrong so. so.0 (n, status_is control text n is))
number_found control i text None is = meets_also (Err (fault.BadUrl i)) (meets_err (fault.BadUrl i))
    (λ m none. absurd none) (λ m so. none-some m (sym is ∙ status_number control text m so))
    (λ wrong so. (λ (some : IsSomeStatusUrl control text). none-some some.0 (sym is ∙ status_number control text some.0 some.1), so)) (λ wrong so. so.1)

pub number_meets : (control : List ℕ) (i : ℕ) (text : List ℕ) → Meets (number_at control i text) (IsStatusUrl control text) (λ wrong. (IsSomeStatusUrl control text → ⊥) × (wrong ≡ fault.BadUrl i))
number_meets control i text = number_found control i text (trigger_number control text) refl

-- ---- this CDN's own id in the path

id_same : (id own : ProviderId) → id.0 ≡ own.0 → id ≡ own
id_same id own is = ap (λ (t : List ℕ). record { 0 = t }) is

pub own_is_there : (own : ProviderId) (path : List ProviderId) → has_own own path ≡ true → Contains path own
own_is_there own [] is = absurd (both_ways false refl is)
own_is_there own (id ∷ path) is = elim (or_cases (bytes_eq id.0 own.0) (has_own own path) is) [
  | inl here ↦ (0, omega arith, id_same id own ((bytes_eq-Decides id.0 own.0).0 here))
  | inr later ↦ let so = own_is_there own path later in (suc so.0, omega (arith, so.1), so.2)
]

pub there_is_own : (own : ProviderId) (path : List ProviderId) → Contains path own → has_own own path ≡ true
there_is_own own [] so = absurd (omega (arith, so.1))
there_is_own own (id ∷ path) (zero, below, is) = or_left (bytes_eq id.0 own.0) (has_own own path) ((bytes_eq-Decides id.0 own.0).1 (ap (λ (x : ProviderId). x.0) is))
there_is_own own (id ∷ path) (suc k, below, is) = or_right (bytes_eq id.0 own.0) (has_own own path) (there_is_own own path (k, omega (arith, below), is))

-- ---- the first item that is wrong, in the words of the faults

module _ {A B : Type 0} (IsRight : B → A → Type 0) where
  abbrev Some_right : B → Type 0
  Some_right x = (a : A) × IsRight x a

  pub each_is_right : (xs : List B) (found : List A) → AllZip IsRight xs found → All (λ x. (a : A) × IsRight x a) xs
  each_is_right [] found all = All-nil Some_right
  each_is_right (x ∷ xs) [] all = absurd all
  each_is_right (x ∷ xs) (a ∷ found) all = All-cons Some_right x xs (a, all.0) (each_is_right xs found all.1)

  pub right_each : (xs : List B) → All (λ x. (a : A) × IsRight x a) xs → (found : List A) × AllZip IsRight xs found
  right_each [] all = ([], tt)
  right_each (x ∷ xs) all = let first = All-head Some_right x xs all in let rest = right_each xs (All-tail Some_right x xs all) in (first.0 ∷ rest.0, (first.1, rest.1))
