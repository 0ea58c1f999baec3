-- The table's objects as kept objects.
use Rattle.std.proofs.Common.{◌≡◌, ℕ, Bool, true, false, cond, not, nat_le, List, [], ◌∷◌, ◌++◌, length, map, None, Some, refl, sym, ap, ◌∙◌, ◌&&◌, ◌==◌}
use Rattle.std.specs.List.{filter, find}
use Rattle.std.specs.Option.{is_some, option_and_then, option_map, option_to_list}
use Rattle.std.specs.declared.option.Option.{Option}
use Rattle.std.proofs.lemmas.List.{map-append}
use Rattle.cdni_base.specs.Key.{KeyParts}
use Rattle.rows.specs.Row.{moved}
use Rattle.object_cache.specs.ObjectTable as objects
use Rattle.object_cache.specs.declared.object.Object.{Object}
use Rattle.upstream_gate.specs.Got.{GotParts}
use Rattle.upstream_gate.specs.declared.outcome.Outcome.{Outcome}
use Rattle.upstream_gate.specs.declared.outcome.Outcome.TheVariants as outcome
use Rattle.std.proofs.lemmas.Bool.{and_right, not_from_true}
use Rattle.history.specs.Kept.{is_of, kept_of, used, total, size_of, evicted, put, is_newer, is_kept, kept_content, full_content, with_gained}
use Rattle.history.specs.Kept.{brought as content}
use Rattle.history.specs.World.{Kept}
use Rattle.shelf.proofs.ListLemmas.{find-map, filter-map, option_to_list-map, sum_by-map}
use Rattle.shelf.specs.KeptShelf.{ShelfView, kept_object, gain, is_gained, brought}
use Rattle.shelf.specs.declared.open.Open.{Open}
use Rattle.shelf.specs.declared.kept_shelf.Flight.{Flight}

-- a shelf with these
abbrev pub shelf : ℕ → List Kept → List Kept → List (Open Flight) → ℕ → ℕ → ShelfView
shelf limit kept held fetches fetched starts = record { limit = limit; kept = kept; held = held; fetches = fetches; fetched = fetched; starts = starts }

pub found_kept : (key : KeyParts) (os : List Object) → option_map kept_object (objects.kept_of key os) ≡ kept_of key (map kept_object os)
found_kept key os = sym (find-map kept_object (is_of key) os)

pub used_kept : (key : KeyParts) (os : List Object) → map kept_object (moved (objects.is_of key) os) ≡ used key (map kept_object os)
used_kept key os =
    map-append kept_object (filter (λ o. not (objects.is_of key o)) os) (option_to_list (find (objects.is_of key) os))
    ∙ ap (λ xs. xs ++ map kept_object (option_to_list (find (objects.is_of key) os))) (sym (filter-map kept_object (λ k. not (is_of key k)) os))
    ∙ ap (λ xs. filter (λ k. not (is_of key k)) (map kept_object os) ++ xs) (sym (option_to_list-map kept_object (find (objects.is_of key) os)) ∙ ap option_to_list (found_kept key os))

pub total_kept : (os : List Object) → objects.total os ≡ total (map kept_object os)
total_kept os = sym (sum_by-map kept_object size_of os)

evicted_kept : (most : ℕ) (os : List Object) → map kept_object (objects.evicted most os) ≡ evicted most (map kept_object os)
evicted_kept most [] = refl
evicted_kept most (o ∷ os) =
    ap (λ n. map kept_object (cond (nat_le n most) (o ∷ os) (objects.evicted most os))) (total_kept (o ∷ os))
    ∙ elim (nat_le (total (map kept_object (o ∷ os))) most) as (λ t. map kept_object (cond t (o ∷ os) (objects.evicted most os)) ≡ cond t (map kept_object (o ∷ os)) (evicted most (map kept_object os))) [
      | true ↦ refl
      | false ↦ evicted_kept most os
    ]

pub put_kept : (limit : ℕ) (os : List Object) (o : Object) → map kept_object (objects.evicted limit (objects.others o.key os ++ o ∷ [])) ≡ put limit (map kept_object os) (kept_object o)
put_kept limit os o =
    evicted_kept limit (objects.others o.key os ++ o ∷ [])
    ∙ ap (evicted limit) (map-append kept_object (objects.others o.key os) (o ∷ []) ∙ ap (λ xs. xs ++ kept_object o ∷ []) (sym (filter-map kept_object (λ k. not (is_of o.key k)) os)))

newer_kept : (fetch : ℕ) (found : Option Object) → objects.is_newer fetch found ≡ is_newer fetch (option_map kept_object found)
newer_kept fetch None = refl
newer_kept fetch (Some o) = refl

-- whether an object is filled in
pub filled_is : (limit : ℕ) (os : List Object) (o : Object)
    → objects.is_filled limit os o ≡ (nat_le (length o.body) limit && not (is_newer o.fetch (kept_of o.key (map kept_object os))))
filled_is limit os o = ap (λ t. nat_le (length o.body) limit && not t) (newer_kept o.fetch (objects.kept_of o.key os) ∙ ap (is_newer o.fetch) (found_kept o.key os))

-- ---- what an open fetch brought

-- as an object of the table
abbrev pub object_of : Open Flight → GotParts → ℕ → Object
object_of flight got begun = record { key = flight.what.fetching.key; fetch = flight.number; ccid = flight.what.fetching.ccid; kind = got.kind; body = got.body; begun = begun }

and_true : (a : Bool) → (a && true) ≡ a
and_true true = refl
and_true false = refl

module _ (limit : ℕ) (os : List Object) (flight : Open Flight) (got : GotParts) (begun : ℕ) where
  abbrev new : Kept
  new = kept_object (object_of flight got begun)

  abbrev fits : Bool
  fits = nat_le (length got.body) limit && not (is_newer flight.number (kept_of flight.what.fetching.key (map kept_object os)))

  some_by : (t : Bool) → is_some (cond t (Some new) None) ≡ t
  some_by true = refl
  some_by false = refl

  brought_by : (t : Bool) → with_gained limit (map kept_object os) (cond t (Some new) None)
      ≡ map kept_object (cond t (objects.evicted limit (objects.others flight.what.fetching.key os ++ object_of flight got begun ∷ [])) os)
  brought_by true = sym (put_kept limit os (object_of flight got begun))
  brought_by false = refl

  -- with status 200, and hit by no start
  module _ (full : (got.status == 200) ≡ true) (unhit : flight.what.hit ≡ false) where
    kept_is : is_kept limit flight.what.hit (map kept_object os) flight.number flight.what.fetching got ≡ objects.is_filled limit os (object_of flight got begun)
    kept_is = ap (λ t. fits && not t) unhit ∙ and_true fits ∙ sym (filled_is limit os (object_of flight got begun))

    gain_is : gain limit (map kept_object os) flight (outcome.Got got) ≡ cond (objects.is_filled limit os (object_of flight got begun)) (Some new) None
    gain_is =
        ap (λ t. option_and_then (kept_content limit flight.what.hit (map kept_object os) flight.number flight.what.fetching) (cond t (Some got) None)) full
        ∙ ap (λ t. cond t (Some new) None) kept_is

    pub gained_full : is_gained limit (map kept_object os) flight (outcome.Got got) ≡ objects.is_filled limit os (object_of flight got begun)
    gained_full = ap (λ (o : Option Kept). is_some o) gain_is ∙ some_by (objects.is_filled limit os (object_of flight got begun))

    pub brought_full : brought limit (map kept_object os) flight (outcome.Got got) ≡ map kept_object (objects.filled limit os (object_of flight got begun))
    brought_full = ap (with_gained limit (map kept_object os)) gain_is ∙ brought_by (objects.is_filled limit os (object_of flight got begun))

-- nothing of content with another status, nor of what a start has hit
module _ (limit : ℕ) (kept : List Kept) (flight : Open Flight) where
  pub brought_other : (got : GotParts) → (got.status == 200) ≡ false → kept ≡ brought limit kept flight (outcome.Got got)
  brought_other got other =
      sym (ap (λ t. with_gained limit kept (option_and_then (kept_content limit flight.what.hit kept flight.number flight.what.fetching) (cond t (Some got) None))) other)

  hit_by : flight.what.hit ≡ true → (found : Option GotParts) → kept ≡ with_gained limit kept (option_and_then (kept_content limit flight.what.hit kept flight.number flight.what.fetching) found)
  hit_by hit None = refl
  hit_by hit (Some got) =
      let fits = nat_le (length got.body) limit && not (is_newer flight.number (kept_of flight.what.fetching.key kept)) in
      sym (ap (λ t. with_gained limit kept (cond t (Some (content flight.number flight.what.fetching got)) None)) (and_right fits (not flight.what.hit) (not_from_true flight.what.hit hit)))

  pub brought_hit : (ended : Outcome) → flight.what.hit ≡ true → kept ≡ brought limit kept flight ended
  brought_hit ended hit = hit_by hit (full_content ended)
