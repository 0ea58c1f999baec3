-- The URL of a status resource: the number that is read of it is the one that it is written with.
use Rattle.std.proofs.Common.{◌≡◌, ℕ, ◌+◌, ◌-◌, ◌*◌, ◌^◌, ◌<◌, Bool, true, false, cond, List, [], ◌∷◌, ◌++◌, length, take, drop, codes, decimal, bytes_eq, refl, sym, ap, ◌∙◌, subst, inl, inr, None, Some, Option, lit<, take_at, drop_at, take-append-drop}
use Rattle.std.specs.Prelude.{◌⊎◌}
use Rattle.std.proofs.lemmas.Bool.{cases_Bool, cond-true, cond-false, ltb-true, and_parts}
use Rattle.std.proofs.lemmas.Option.{none-some, same_Some}
use Rattle.std.proofs.lemmas.Slice.Eq.{bytes_eq-Decides}
use Rattle.listing.specs.Number.{number_of, number_after, is_unpadded}
use Rattle.listing.specs.Word.{◌>>=◌}
use Rattle.listing.proofs.Decimals.{some_decimal, decimal_some}
use Rattle.trigger_command.specs.TriggerUrl.{behind, number_behind, or_other, trigger_number}
use Rattle.command_law.specs.Grammar.{IsLowerScheme, IsStatusUrl}

behind_is : (front text rest : List ℕ) → behind front text ≡ Some rest → text ≡ front ++ rest
behind_is front text rest is = elim (cases_Bool (bytes_eq (take (length front) text) front)) [
  | inl same ↦
      let tail : drop (length front) text ≡ rest = same_Some _ rest (sym (cond-true _ (Some (drop (length front) text)) None same) ∙ is) in
      sym (take-append-drop (length front) text) ∙ ap (λ t. t ++ drop (length front) text) ((bytes_eq-Decides (take (length front) text) front).0 same) ∙ ap (λ t. front ++ t) tail
  | inr differs ↦ absurd (none-some rest (sym (cond-false _ (Some (drop (length front) text)) None differs) ∙ is))
]

behind_front : (front rest : List ℕ) → behind front (front ++ rest) ≡ Some rest
behind_front front rest =
    let first : take (length front) (front ++ rest) ≡ front = take_at front rest (length front) refl in
    cond-true _ (Some (drop (length front) (front ++ rest))) None ((bytes_eq-Decides (take (length front) (front ++ rest)) front).1 first) ∙ ap Some (drop_at front rest (length front) refl)

guarded : {A : Type 0} (t : Bool) (o : Option A) (m : A) → cond t o None ≡ Some m → (t ≡ true) × (o ≡ Some m)
guarded true o m is = (refl, is)
guarded false o m is = absurd (none-some m is)

small_after : (n m : ℕ) (bytes : List ℕ) → n < 2 ^ 64 → number_after n bytes ≡ Some m → m < 2 ^ 64
small_after n m [] small is = subst (λ k. k < 2 ^ 64) (same_Some n m is) small
small_after n m (byte ∷ bytes) small is = let g = guarded _ _ m is in let p = and_parts _ _ g.0 in small_after (n * 10 + (byte - 48)) m bytes (ltb-true _ _ p.1) g.1

small_number : (text : List ℕ) (n : ℕ) → number_of text ≡ Some n → n < 2 ^ 64
small_number text n is = let g = guarded (is_unpadded text) _ n is in small_after 0 n text (lit< tt) g.1

decimal_is : (text : List ℕ) (n : ℕ) → number_of text ≡ Some n → text ≡ decimal n
decimal_is text n is = some_decimal text (Some n) (sym is)

bound : {A B P : Type 0} (o : Option A) (f : A → Option B) (b : B) → o >>= f ≡ Some b → ((a : A) → o ≡ Some a → f a ≡ Some b → P) → P
bound None f b is then = absurd (none-some b is)
bound (Some a) f b is then = then a refl is

abbrev status_text : List ℕ → List ℕ → ℕ → List ℕ
status_text scheme control n = scheme ++ (control ++ (codes "/triggers/" ++ decimal n))

number_behind_is : (scheme control text : List ℕ) (n : ℕ) → number_behind scheme control text ≡ Some n → (text ≡ status_text scheme control n) × (n < 2 ^ 64)
number_behind_is scheme control text n is =
    bound (behind scheme text >>= behind control >>= behind (codes "/triggers/")) number_of n is (λ digits a last.
    bound (behind scheme text >>= behind control) (behind (codes "/triggers/")) digits a (λ path b then.
    bound (behind scheme text) (behind control) path b (λ rest c next. (
      behind_is scheme text rest c ∙ ap (λ t. scheme ++ t) (behind_is control rest path next ∙ ap (λ t. control ++ t) (behind_is (codes "/triggers/") path digits then ∙ ap (λ t. codes "/triggers/" ++ t) (decimal_is digits n last))),
      small_number digits n last,
    ))))

number_behind_status : (scheme control : List ℕ) (n : ℕ) → n < 2 ^ 64 → number_behind scheme control (status_text scheme control n) ≡ Some n
number_behind_status scheme control n small =
    ap (λ o. o >>= behind control >>= behind (codes "/triggers/") >>= number_of) (behind_front scheme (control ++ (codes "/triggers/" ++ decimal n)))
    ∙ ap (λ o. o >>= behind (codes "/triggers/") >>= number_of) (behind_front control (codes "/triggers/" ++ decimal n))
    ∙ ap (λ o. o >>= number_of) (behind_front (codes "/triggers/") (decimal n))
    ∙ decimal_some (decimal n) (number_of (decimal n)) refl n small refl

other_scheme : (rest : List ℕ) → behind (codes "http://") (codes "https://" ++ rest) ≡ None
other_scheme rest = refl

either : (first second : Option ℕ) (n : ℕ) → or_other first second ≡ Some n → (first ≡ Some n) ⊎ (second ≡ Some n)
either (Some m) second n is = inl is
either None second n is = inr is

pub status_is : (control text : List ℕ) (n : ℕ) → trigger_number control text ≡ Some n → IsStatusUrl control text n
unfolding trigger_number
status_is control text n is = elim (either (number_behind (codes "http://") control text) (number_behind (codes "https://") control text) n is) [
  | inl plain ↦ let so = number_behind_is (codes "http://") control text n plain in (codes "http://", inl refl, so.0, so.1)
  | inr secure ↦ let so = number_behind_is (codes "https://") control text n secure in (codes "https://", inr refl, so.0, so.1)
]

status_number_of : (control text scheme : List ℕ) (n : ℕ) → IsLowerScheme scheme → text ≡ status_text scheme control n → n < 2 ^ 64 → trigger_number control text ≡ Some n
unfolding trigger_number
status_number_of control text scheme n (inl plain) is small =
    let same : text ≡ status_text (codes "http://") control n = is ∙ ap (λ s. status_text s control n) plain in
    rw same (ap (λ o. or_other o (number_behind (codes "https://") control (status_text (codes "http://") control n))) (number_behind_status (codes "http://") control n small))
status_number_of control text scheme n (inr secure) is small =
    let same : text ≡ status_text (codes "https://") control n = is ∙ ap (λ s. status_text s control n) secure in
    rw same (ap (λ o. or_other (o >>= behind control >>= behind (codes "/triggers/") >>= number_of) (number_behind (codes "https://") control (status_text (codes "https://") control n))) (other_scheme (control ++ (codes "/triggers/" ++ decimal n)))
    ∙ number_behind_status (codes "https://") control n small)

pub status_number : (control text : List ℕ) (n : ℕ) → IsStatusUrl control text n → trigger_number control text ≡ Some n
status_number control text n is = status_number_of control text is.0 n is.1 is.2 is.3
