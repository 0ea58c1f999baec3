-- A seat that was a pass, and has a turn.
use Rattle.std.proofs.Common.{◌≡◌, ℕ, suc, ◌+◌, ◌<◌, List, [], ◌∷◌, ◌++◌, map, length, Contains, Option, Some, None, sym, refl, ap, ◌∙◌, subst, arith}
use mathlib.Core.List.{map-append}
use Rattle.atomic_table.specs.Table.{Step, Me, rest}
use Rattle.turn_cell.specs.declared.view.View.{View}
use Rattle.turn_cell.specs.declared.view.Stage.{Stage}
use Rattle.turn_cell.specs.declared.view.Stage.TheVariants.{Resting, Serving}
use Rattle.turn_cell.specs.History.{AllBelow, FollowedByOthers, longer, numbers_from}
use Rattle.turn_cell.specs.View.{at_stage, having_seen, joined, maker_with, without_first}
use Rattle.turn_cell.specs.Plays.{learned}
use Rattle.turn_cell.specs.declared.pass.Pass.{Pass}
use Rattle.turn_cell.specs.Cell.{IsResting, seen_in, numbers_in, number_of}
use Rattle.turn_cell.proofs.Histories.{numbers_from-push}

module _ {E : Type 0} where
  pub one_view : (views : List (View E)) (v w : View E) → views ≡ v ∷ [] → views ≡ w ∷ [] → v ≡ w
  one_view views v w p q = let e : v ∷ [] ≡ w ∷ [] = sym p ∙ q in cc

  pub resting : (n number : ℕ) (views : List (View E)) (w : View E) → views ≡ w ∷ [] → (v : View E) × (views ≡ v ∷ []) × IsResting n number v → IsResting n number w
  resting n number views w e r = subst (IsResting n number) (one_view views r.0 w r.1 e) r.2

  pub followed : (views : List (View E)) (w : View E) (h h' : List (ℕ × E)) → views ≡ w ∷ [] → h' ≡ h → FollowedByOthers w.numbers w.seen h → FollowedByOthers (numbers_in views) (seen_in views) h'
  followed views w h h' e same f = subst (λ (z : List (View E)). FollowedByOthers (numbers_in z) (seen_in z) h') (sym e) (subst (FollowedByOthers w.numbers w.seen) (sym same) f)

pub has_some : (ns : List ℕ) (x : ℕ) → Contains ns x → 0 < length ns
has_some ns x c = let lt = c.1 in omega arith

-- what a seat holds is what it took last and the rest
pub last_taken : {S : Type 0} (l m : List (ℕ × S)) (x : S) → l ≡ (0, x) ∷ m → l ≡ (0, x) ∷ rest l
last_taken l m x e = e ∙ sym (ap (λ z. (0, x) ∷ rest z) e)

abbrev Sat : Type 0 → Type 0 → Type 0
Sat V E = Me (Option V) (View E)

module _ {V E : Type 0} where
  -- a seat that drew a ticket, got the turn and took the value out
  pub the_turn : (m0 m1 m2 m3 : Sat V E) (st : Stage E) (k : ℕ) (x : V) (h : List (ℕ × E)) → m0.1 ≡ [] → m1 ≡ (at_stage st m0.0, m0.1) → m2 ≡ (having_seen h (Serving k) m1.0, (0, Some x) ∷ m1.1) → m3 ≡ (m2.0, (0, None) ∷ rest m2.1)
      → m3 ≡ (having_seen h (Serving k) m0.0, (0, None) ∷ [])
  the_turn m0 m1 m2 m3 st k x h none drew gets took =
      took ∙ (ap (λ (m : Sat V E). let r : Sat V E = (m.0, (0, None) ∷ rest m.1) in r) gets ∙ (ap (λ (m : Sat V E). let r : Sat V E = (having_seen h (Serving k) m.0, (0, None) ∷ m.1) in r) drew ∙ ap (λ c. let r : Sat V E = (having_seen h (Serving k) m0.0, (0, None) ∷ c) in r) none))

  -- what such a seat was told of the history, by what it was before
  pub told : (m0 m1 : Sat V E) (st : Stage E) (h : List (ℕ × E)) → m1 ≡ (at_stage st m0.0, m0.1) → FollowedByOthers m1.0.numbers m1.0.seen h × AllBelow m1.0.passes h → FollowedByOthers m0.0.numbers m0.0.seen h × AllBelow m0.0.passes h
  told m0 m1 st h drew t = subst (λ (m : Sat V E). FollowedByOthers m.0.numbers m.0.seen h × AllBelow m.0.passes h) drew t

  -- what a seat is and knows that took in another
  pub merged : (st : Step (Option V)) (m1 m2 : Sat V E) (found : ℕ) (v w : View E) (cs : List (ℕ × Option V)) → m1 ≡ (joined v w, cs) → learned st m1 found m2
      → (m2 ≡ (at_stage Resting (joined v w), cs)) × FollowedByOthers v.numbers v.seen (longer v.seen w.seen) × FollowedByOthers w.numbers w.seen (longer v.seen w.seen) × AllBelow v.passes (longer v.seen w.seen)
  merged st m1 m2 found v w cs is =
      let Q : Sat V E → Type 0 = λ m. learned st m found m2 → (m2 ≡ (at_stage Resting (joined v w), cs)) × FollowedByOthers v.numbers v.seen (longer v.seen w.seen) × FollowedByOthers w.numbers w.seen (longer v.seen w.seen) × AllBelow v.passes (longer v.seen w.seen) in
      subst Q (sym is) (λ l. let t = l.1 v.numbers w.numbers v.seen w.seen refl in (l.0, t.0, t.1, t.2))

pub same_some : {V : Type 0} (o : Option V) (x y : V) → o ≡ Some x → o ≡ Some y → x ≡ y
same_some o x y p q = let e : Some x ≡ Some y = sym p ∙ q in cc

module _ {V E : Type 0} where
  -- what is left of the maker's seat, and the new one, as a pass is cut off
  pub cut_me : (m m' : Sat V E) (p x k : ℕ) → m.0 ≡ maker_with p (numbers_from x (suc k)) → m.1 ≡ [] → m' ≡ (without_first m.0, m.1) → m' ≡ (maker_with p (numbers_from (x + 1) k), [])
  cut_me m m' p x k is none cut = cut ∙ (λ i. let r : Sat V E = (without_first (is i), none i) in r)

module _ {E : Type 0} where
  -- the numbers of a list with one pass more
  pub numbered_push : (list list' : List (Pass E)) (pass : Pass E) (n : ℕ) → list' ≡ list ++ pass ∷ [] → number_of pass ≡ n → map number_of list ≡ numbers_from 0 n → map number_of list' ≡ numbers_from 0 (n + 1)
  numbered_push list list' pass n pushed is before =
      let last : number_of pass ≡ 0 + n = omega arith in
      ap (map number_of) pushed ∙ (map-append number_of list (pass ∷ []) ∙ ((λ i. before i ++ last i ∷ []) ∙ sym (numbers_from-push 0 n)))
