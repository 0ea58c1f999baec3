-- The tests of keys decide whether the keys are the same.
use Rattle.std.specs.Prelude.{◌≡◌, ℕ, Bool, true, false, ◌&&◌, List, None, Some, bytes_eq, nat_eq}
use Rattle.std.specs.Bool.{Decides}
use Rattle.std.specs.Cmp.{unsigned_Decides}
use Rattle.std.specs.Cmp.Lexicographic.{pointwise_decides, bytes_decides}
use Rattle.std.specs.Option.{option_eq}
use Rattle.std.specs.declared.option.Option.{Option}
use mathlib.Core.Path.{refl, sym, ap}
use mathlib.Core.Bool.{true≢false}
use Rattle.cdni_base.specs.declared.key.Ignored.{Ignored}
use Rattle.cdni_base.specs.declared.key.Ignored.TheVariants as ignored
use Rattle.cdni_base.specs.Key.{KeyParts, same_ignored, same_key}

-- two tests together decide both facts
both : {P Q : Type 0} (a b : Bool) → Decides a P → Decides b Q → Decides (a && b) (P × Q)
both true b p q = (λ e. (p.0 refl, q.0 e), λ e. q.1 e.1)
both false b p q = (λ e. absurd (true≢false (sym e)), λ e. absurd (true≢false (sym (p.1 e.0))))

abbrev texts_of : Ignored → List (List ℕ) → List (List ℕ)
texts_of (ignored.Names names) other = names
texts_of other names = names

abbrev is_none : Ignored → Bool
is_none ignored.None = true
is_none other = false

abbrev is_all : Ignored → Bool
is_all ignored.All = true
is_all other = false

pub ignored_decides : (a b : Ignored) → Decides (same_ignored a b) (a ≡ b)
ignored_decides ignored.None ignored.None = (λ e. refl, λ e. refl)
ignored_decides ignored.All ignored.All = (λ e. refl, λ e. refl)
ignored_decides (ignored.Names names) (ignored.Names others) =
    let texts =
    pointwise_decides bytes_decides names others in (
      λ e. ap (λ (xs : List (List ℕ)). ignored.Names xs)
          (texts.0 e),
      λ e. texts.1 (ap (λ (i : Ignored). texts_of i names) e),
    )
ignored_decides ignored.None ignored.All = (λ e. absurd (true≢false (sym e)), λ e. sym (ap is_none e))
ignored_decides ignored.None (ignored.Names others) = (λ e. absurd (true≢false (sym e)), λ e. sym (ap is_none e))
ignored_decides ignored.All ignored.None = (λ e. absurd (true≢false (sym e)), λ e. sym (ap is_all e))
ignored_decides ignored.All (ignored.Names others) = (λ e. absurd (true≢false (sym e)), λ e. sym (ap is_all e))
ignored_decides (ignored.Names names) ignored.None = (λ e. absurd (true≢false (sym e)), λ e. ap is_none e)
ignored_decides (ignored.Names names) ignored.All = (λ e. absurd (true≢false (sym e)), λ e. ap is_all e)

abbrev query_or : List ℕ → Option (List ℕ) → List ℕ
query_or text None = text
query_or text (Some query) = query

abbrev is_there : Option (List ℕ) → Bool
is_there None = false
is_there (Some query) = true

query_decides : (a b : Option (List ℕ)) → Decides (option_eq bytes_eq a b) (a ≡ b)
query_decides None None = (λ e. refl, λ e. refl)
query_decides None (Some other) = (λ e. absurd (true≢false (sym e)), λ e. ap is_there e)
query_decides (Some query) None = (λ e. absurd (true≢false (sym e)), λ e. sym (ap is_there e))
query_decides (Some query) (Some other) =
    let texts =
    bytes_decides query other in (
      λ e. ap (λ (xs : List ℕ). Some xs) (texts.0 e),
      λ e. texts.1 (ap
          (query_or query) e),
    )

-- the parts are the same
abbrev SameParts : KeyParts → KeyParts → Type 0
SameParts a b = (a.port ≡ b.port) × ((a.path ≡ b.path) × ((a.host ≡ b.host) × ((a.query ≡ b.query)
    × (a.ignored ≡ b.ignored))))

parts_decide : (a b : KeyParts) → Decides (same_key a b) (SameParts a b)
parts_decide a b =
    both (nat_eq a.port b.port) _ (unsigned_Decides a.port b.port)
    (both (bytes_eq a.path b.path) _ (bytes_decides a.path b.path)
    (both (bytes_eq a.host b.host) _ (bytes_decides a.host b.host)
    (both (option_eq bytes_eq a.query b.query) (same_ignored a.ignored b.ignored) (query_decides a.query b.query)
    (ignored_decides a.ignored b.ignored))))

pub key_decides : (a b : KeyParts) → Decides (same_key a b) (a ≡ b)
key_decides a b = (
  λ e. let same = (parts_decide a b).0 e in λ i. record {
    host = same.1.1.0 i;
    port = same.0 i;
    path = same.1.0 i;
    query = same.1.1.1.0 i;
    ignored = same.1.1.1.1 i;
  },
  λ e. (parts_decide a b).1 (
    ap (λ k. k.port) e,
    (
      ap (λ k. k.path) e,
      (
        ap (λ k. k.host) e,
        (
          ap (λ k. k.query) e,
          ap
              (λ k. k.ignored) e,
        ),
      ),
    ),
  ),
)
