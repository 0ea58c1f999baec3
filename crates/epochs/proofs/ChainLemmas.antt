-- The chains of URLs: where a start is added, where starts are forgotten, and where a chain is followed.
use Rattle.std.proofs.Common.{◌≡◌, ℕ, zero, suc, ◌+◌, ◌-◌, ◌^◌, ◌<◌, ◌≤◌, Bool, true, false, ◌&&◌, ◌||◌, nat_lt, List, [], ◌∷◌, ◌++◌, length, drop, get_or, set, slice_get, IfSome, refl, sym, ap, ◌∙◌, subst, inl, inr, Option, None, Some, arith, length-drop, length-set, replicate, take, append-nil, max}
use Rattle.std.specs.Prelude.{◌⊎◌}
use Rattle.std.specs.List.{list_any}
use Rattle.std.proofs.lemmas.Bool.{cases_Bool, cases_lt, cases_eq, ltb-true, lt-ltb, or_left, or_right, or_from, and_from}
use Rattle.std.proofs.lemmas.Option.{none-some, same_Some, slice_get_within, slice_get-get_or}
use Rattle.std.proofs.lemmas.List.{length_push, length-replicate, drop_all, drop-drop, take_all}
use Rattle.cdni_base.specs.Key.{KeyParts, key_of}
use Rattle.cdni_base.specs.KeyEqualityLemmas.{key_decides}
use Rattle.trigger_command.specs.Selection.{hits, is_ccid, pattern_hits, url_hits}
use Rattle.trigger_command.specs.declared.selection.Selection.{Selection}
use Rattle.trigger_command.specs.declared.selection.UrlItem.{UrlItem}
use Rattle.epochs.specs.declared.chains.Chains.{Chains}
use Rattle.epochs.specs.Chains.{IsWhole, AreChained, AreNumbered, IsLast, IsUrl, PlaceList, bucket_of, chained, forgotten_of, place_rank, rank, url_bucket, url_stale, other_stale}
use Rattle.epochs.specs.EpochsList.{behind_front, is_front_up_to, is_stale, next_start}
use Rattle.epochs.proofs.EpochsLemmas.{front_goes}
use Rattle.epochs.specs.declared.chains.Place.{Place}
use Rattle.epochs.specs.declared.chains.TheConstants.{BUCKETS}
use Rattle.epochs.specs.declared.epochs_list.Start.{Start}

-- ---- elements of lists

module _ {A : Type 0} where
  pub get_dropped : (n k m : ℕ) (xs : List A) → m ≡ n + k → slice_get (drop n xs) k ≡ slice_get xs m
  get_dropped zero k m xs is = ap (slice_get xs) (let same : k ≡ m = omega (arith, is) in same)
  get_dropped (suc n) k m [] is = refl
  get_dropped (suc n) k zero (x ∷ xs) is = absurd (omega (arith, is))
  get_dropped (suc n) k (suc m) (x ∷ xs) is = get_dropped n k m xs (omega (arith, is))

  pub get_front : (xs ys : List A) (k : ℕ) (x : A) → slice_get xs k ≡ Some x → slice_get (xs ++ ys) k ≡ Some x
  get_front [] ys k x is = absurd (none-some x is)
  get_front (y ∷ xs) ys zero x is = is
  get_front (y ∷ xs) ys (suc k) x is = get_front xs ys k x is

  pub get_last : (xs : List A) (x : A) → slice_get (xs ++ x ∷ []) (length xs) ≡ Some x
  get_last [] x = refl
  get_last (y ∷ xs) x = get_last xs x

  pub get_either : (xs : List A) (x y : A) (k : ℕ) → slice_get (xs ++ x ∷ []) k ≡ Some y → (slice_get xs k ≡ Some y) ⊎ ((k ≡ length xs) × (x ≡ y))
  get_either [] x y zero is = inr (refl, same_Some x y is)
  get_either [] x y (suc k) is = absurd (none-some y is)
  get_either (z ∷ xs) x y zero is = inl is
  get_either (z ∷ xs) x y (suc k) is = elim (get_either xs x y k is) [ inl front ↦ inl front | inr last ↦ inr (ap suc last.0, last.1) ]

  pub get_set : (xs : List A) (n k : ℕ) (x y : A) → slice_get (set xs n x) k ≡ Some y → ((k ≡ n) × (x ≡ y)) ⊎ ((k ≡ n → ⊥) × (slice_get xs k ≡ Some y))
  get_set [] n k x y is = absurd (none-some y is)
  get_set (z ∷ xs) zero zero x y is = inl (refl, same_Some x y is)
  get_set (z ∷ xs) zero (suc k) x y is = inr (λ e. omega (arith, e), is)
  get_set (z ∷ xs) (suc n) zero x y is = inr (λ e. omega (arith, e), is)
  get_set (z ∷ xs) (suc n) (suc k) x y is = elim (get_set xs n k x y is) [ inl same ↦ inl (ap suc same.0, same.1) | inr other ↦ inr (λ e. other.0 (omega (arith, e)), other.1) ]

  pub get_next : (xs rest : List A) (i : ℕ) (x : A) → drop i xs ≡ x ∷ rest → (slice_get xs i ≡ Some x) × (drop (i + 1) xs ≡ rest)
  get_next [] rest zero x is = absurd (cc)
  get_next [] rest (suc i) x is = absurd (cc)
  get_next (y ∷ xs) rest zero x is = let head : y ≡ x = cc in let tail : xs ≡ rest = cc in (ap Some head, tail)
  get_next (y ∷ xs) rest (suc i) x is = let more = get_next xs rest i x is in
      let next : suc i + 1 ≡ suc (i + 1) = omega arith in
      (more.0, ap (λ n. drop n (y ∷ xs)) next ∙ more.1)

  pub none_left : (xs : List A) (i : ℕ) → drop i xs ≡ [] → length xs ≤ i
  none_left [] i is = omega arith
  none_left (x ∷ xs) zero is = absurd (cc)
  none_left (x ∷ xs) (suc i) is = omega (arith, none_left xs i is)

  pub within_list : (xs : List A) (k : ℕ) (x : A) → slice_get xs k ≡ Some x → k < length xs
  within_list xs k x is = slice_get_within xs k x is

  pub found_within : (xs : List A) (k : ℕ) → k < length xs → (x : A) × (slice_get xs k ≡ Some x)
  found_within [] k below = absurd (omega (arith, below))
  found_within (x ∷ xs) zero below = (x, refl)
  found_within (x ∷ xs) (suc k) below = found_within xs k (omega (arith, below))

-- ---- epochs

numbered_at : (before : ℕ) (starts : List Start) → AreNumbered before starts → (k : ℕ) (start : Start) → slice_get starts k ≡ Some start → start.epoch ≡ before + k + 1
numbered_at before [] so k start is = absurd (none-some start is)
numbered_at before (first ∷ starts) so zero start is = ap (λ (s : Start). s.epoch) (sym (same_Some first start is)) ∙ so.0 ∙ omega arith
numbered_at before (first ∷ starts) so (suc k) start is = numbered_at (before + 1) starts so.1 k start is ∙ omega arith

numbered_drop : (n before : ℕ) (starts : List Start) → AreNumbered before starts → AreNumbered (before + n) (drop n starts)
numbered_drop zero before starts so = subst (λ b. AreNumbered b starts) (omega arith) so
numbered_drop (suc n) before [] so = tt
numbered_drop (suc n) before (start ∷ starts) so = subst (λ b. AreNumbered b (drop n starts)) (omega arith) (numbered_drop n (before + 1) starts so.1)

numbered_more : (before : ℕ) (starts : List Start) (start : Start) → AreNumbered before starts → start.epoch ≡ before + length starts + 1 → AreNumbered before (starts ++ start ∷ [])
numbered_more before [] start so is = (is ∙ omega arith, tt)
numbered_more before (first ∷ starts) start so is = (so.0, numbered_more (before + 1) starts start so.1 (is ∙ omega arith))

-- an epoch that is known is among the last
module _ (starts : List Start) (newest unchained : ℕ) (long : length starts ≤ newest) (numbered : AreNumbered (forgotten_of starts newest) starts) where
  epoch_between : (epoch item : ℕ) (url : UrlItem) → IsUrl starts unchained epoch item url → (forgotten_of starts newest < epoch) × (epoch ≤ newest)
  epoch_between epoch item url is =
      let at = numbered_at (forgotten_of starts newest) starts numbered is.k is.start is.at in
      let below = within_list starts is.k is.start is.at in
      let same = is.epoch_is in
      (omega (arith, at, same), omega (arith, at, same, below, long))

start_between : (starts : List Start) (newest k : ℕ) (start : Start) → length starts ≤ newest → AreNumbered (forgotten_of starts newest) starts → slice_get starts k ≡ Some start
    → (start.epoch ≡ forgotten_of starts newest + k + 1) × (start.epoch ≤ newest)
start_between starts newest k start long numbered is =
    let at = numbered_at (forgotten_of starts newest) starts numbered k start is in
    (at, omega (arith, at, within_list starts k start is, long))

same_rank : (x y e i : ℕ) → y < 2 ^ 64 → i < 2 ^ 64 → rank x y ≡ rank e i → (x ≡ e) × (y ≡ i)
same_rank x y e i small also is = (omega (arith, is, small, also), omega (arith, is, small, also))

-- ---- starts that are forgotten

module _ (n : ℕ) (starts : List Start) (newest unchained : ℕ) (long : length starts ≤ newest) (within : n ≤ length starts) (numbered : AreNumbered (forgotten_of starts newest) starts) where
  left : List Start
  left = drop n starts

  forgotten_more : forgotten_of (drop n starts) newest ≡ forgotten_of starts newest + n
  forgotten_more = omega (arith, length-drop n starts, long, within)

  url_back : (epoch item : ℕ) (url : UrlItem) → IsUrl (drop n starts) unchained epoch item url → IsUrl starts unchained epoch item url
  url_back epoch item url is = record { k = n + is.k; start = is.start; at = sym (get_dropped n is.k (n + is.k) starts refl) ∙ is.at; epoch_is = is.epoch_is; chained = is.chained; within = is.within; there = is.there }

  url_kept : (epoch item : ℕ) (url : UrlItem) → forgotten_of (drop n starts) newest < epoch → IsUrl starts unchained epoch item url → IsUrl (drop n starts) unchained epoch item url
  url_kept epoch item url after is =
      let at = numbered_at (forgotten_of starts newest) starts numbered is.k is.start is.at in
      let same = is.epoch_is in
      let behind : is.k ≡ n + (is.k - n) = omega (arith, at, same, after, forgotten_more) in
      record { k = is.k - n; start = is.start; at = get_dropped n (is.k - n) is.k starts behind ∙ is.at; epoch_is = is.epoch_is; chained = is.chained; within = is.within; there = is.there }

  last_kept : (bucket bound : ℕ) (last : Option Place) → IsLast starts (forgotten_of starts newest) unchained bucket bound last → IsLast (drop n starts) (forgotten_of (drop n starts) newest) unchained bucket bound last
  last_kept bucket bound None is = record { none_above = λ epoch item url u. is.none_above epoch item url (url_back epoch item url u); below = tt; fits = tt; there = tt }
  last_kept bucket bound (Some place) is = record {
    none_above = λ epoch item url u. is.none_above epoch item url (url_back epoch item url u);
    below = is.below;
    fits = is.fits;
    there = λ after chained. let more = forgotten_more in let u = is.there (omega (arith, after, more)) chained in (u.0, url_kept place.epoch place.item u.0 after u.1, u.2);
  }

pub chained_left : (n : ℕ) (starts : List Start) (links : List PlaceList) (last : List (Option Place)) (newest unchained : ℕ) → n ≤ length starts → AreChained starts links last newest unchained → AreChained (drop n starts) (drop n links) last newest unchained
chained_left n starts links last newest unchained within so = record {
  long = omega (arith, length-drop n starts, so.long);
  numbered = subst (λ before. AreNumbered before (drop n starts)) (sym (forgotten_more n starts newest unchained so.long within so.numbered)) (numbered_drop n (forgotten_of starts newest) starts so.numbered);
  as_many = length-drop n links ∙ ap (λ m. m - n) so.as_many ∙ sym (length-drop n starts);
  buckets = so.buckets;
  fits = λ k start is. so.fits (n + k) start (sym (get_dropped n k (n + k) starts refl) ∙ is);
  each = λ k item start list url is also chained there.
      let old = so.each (n + k) item start list url (sym (get_dropped n k (n + k) starts refl) ∙ is) (sym (get_dropped n k (n + k) links refl) ∙ also) chained there in
      (old.0, old.1, last_kept n starts newest unchained so.long within so.numbered (url_bucket url) (rank start.epoch item) old.0 old.2);
  lasts = λ bucket place is. last_kept n starts newest unchained so.long within so.numbered bucket (rank (newest + 1) 0) place (so.lasts bucket place is);
}

-- ---- a start that is added

bucket_within : (url : UrlItem) → url_bucket url < BUCKETS
bucket_within url = omega arith

module _ (starts : List Start) (newest unchained : ℕ) (selection : Selection) (long : length starts ≤ newest) (numbered : AreNumbered (forgotten_of starts newest) starts) (before : unchained ≤ newest)
    (fits : length selection.content_urls < 2 ^ 64) where
  abbrev more : List Start
  more = starts ++ next_start newest selection ∷ []

  abbrev epoch_now : ℕ
  epoch_now = newest + 1

  same_forgotten : forgotten_of more (newest + 1) ≡ forgotten_of starts newest
  same_forgotten = omega (arith, length_push starts (next_start newest selection), long)

  url_old : (epoch item : ℕ) (url : UrlItem) → IsUrl starts unchained epoch item url → IsUrl more unchained epoch item url
  url_old epoch item url is = record { k = is.k; start = is.start; at = get_front starts (next_start newest selection ∷ []) is.k is.start is.at; epoch_is = is.epoch_is; chained = is.chained; within = is.within; there = is.there }

  url_new : (item : ℕ) (url : UrlItem) → slice_get selection.content_urls item ≡ Some url → IsUrl more unchained (newest + 1) item url
  url_new item url is = record {
    k = length starts;
    start = next_start newest selection;
    at = get_last starts (next_start newest selection);
    epoch_is = refl;
    chained = omega (arith, before);
    within = omega (arith, fits, within_list selection.content_urls item url is);
    there = is;
  }

  url_either : (epoch item : ℕ) (url : UrlItem) → IsUrl more unchained epoch item url → IsUrl starts unchained epoch item url ⊎ ((epoch ≡ newest + 1) × (slice_get selection.content_urls item ≡ Some url))
  url_either epoch item url is = elim (get_either starts (next_start newest selection) is.start is.k is.at) [
    | inl old ↦ inl (record { k = is.k; start = is.start; at = old; epoch_is = is.epoch_is; chained = is.chained; within = is.within; there = is.there })
    | inr new ↦ inr (sym is.epoch_is ∙ sym (ap (λ (s : Start). s.epoch) new.1), ap (λ (s : Start). slice_get s.selection.content_urls item) new.1 ∙ is.there)
  ]

  -- what is last below a place before the new start stays so
  last_before : (bucket bound : ℕ) (last : Option Place) → bound ≤ rank (newest + 1) 0 → IsLast starts (forgotten_of starts newest) unchained bucket bound last → IsLast more (forgotten_of starts newest) unchained bucket bound last
  last_before bucket bound last under is = record {
    none_above = λ epoch item url u same below. elim (url_either epoch item url u) [
      | inl old ↦ is.none_above epoch item url old same below
      | inr new ↦ let now = new.0 in absurd (omega (arith, now, below, under))
    ];
    below = is.below;
    fits = is.fits;
    there = there_before last is.there;
  }
    where
      there_before : (l : Option Place) → IfSome l (λ place. forgotten_of starts newest < place.epoch → unchained < place.epoch → (url : UrlItem) × IsUrl starts unchained place.epoch place.item url × (url_bucket url ≡ bucket))
          → IfSome l (λ place. forgotten_of starts newest < place.epoch → unchained < place.epoch → (url : UrlItem) × IsUrl more unchained place.epoch place.item url × (url_bucket url ≡ bucket))
      there_before None is = tt
      there_before (Some place) is = λ after chained. let u = is after chained in (u.0, url_old place.epoch place.item u.0 u.1, u.2)

  abbrev IsRight : List (Option Place) → ℕ → Type 0
  IsRight last i = (bucket : ℕ) (place : Option Place) → slice_get last bucket ≡ Some place → IsLast more (forgotten_of starts newest) unchained bucket (rank (newest + 1) i) place

  abbrev AreRight : List (Option Place) → ℕ → Type 0
  AreRight list i = (item : ℕ) (url : UrlItem) → item < i → slice_get selection.content_urls item ≡ Some url
      → (place : Option Place) × (slice_get list item ≡ Some place) × IsLast more (forgotten_of starts newest) unchained (url_bucket url) (rank (newest + 1) item) place

  here_is_last : (i : ℕ) (url : UrlItem) → slice_get selection.content_urls i ≡ Some url → IsLast more (forgotten_of starts newest) unchained (url_bucket url) (rank (newest + 1) (i + 1)) (Some (record { epoch = newest + 1; item = i }))
  here_is_last i url is = record {
    none_above = λ epoch item other u same below. omega (arith, below);
    below = omega arith;
    fits = omega (arith, fits, within_list selection.content_urls i url is);
    there = λ after chained. (url, url_new i url is, refl);
  }

  others_stay : (i bucket : ℕ) (url : UrlItem) (place : Option Place) → slice_get selection.content_urls i ≡ Some url → (bucket ≡ url_bucket url → ⊥)
      → IsLast more (forgotten_of starts newest) unchained bucket (rank (newest + 1) i) place → IsLast more (forgotten_of starts newest) unchained bucket (rank (newest + 1) (i + 1)) place
  others_stay i bucket url place at differs is = record {
    none_above = λ epoch item other u same below. elim (cases_eq (rank epoch item) (rank (newest + 1) i)) [
      | inl here ↦
          let small : i < 2 ^ 64 = omega (arith, fits, within_list selection.content_urls i url at) in
          let r = same_rank epoch item (newest + 1) i u.within small here in
          elim (url_either epoch item other u) [
            | inl old ↦ let b = epoch_between starts newest unchained long numbered epoch item other old in absurd (omega (arith, b.1, r.0))
            | inr new ↦ absurd (differs (sym same ∙ ap url_bucket (same_Some other url (sym new.1 ∙ ap (slice_get selection.content_urls) r.1 ∙ at))))
          ]
      | inr apart ↦ is.none_above epoch item other u same (omega (arith, below, apart))
    ];
    below = below_more place is.below;
    fits = is.fits;
    there = is.there;
  }
    where
      below_more : (p : Option Place) → IfSome p (λ place. place_rank place < rank (newest + 1) i) → IfSome p (λ place. place_rank place < rank (newest + 1) (i + 1))
      below_more None is = tt
      below_more (Some place) is = omega (arith, is)

  set_right : (i : ℕ) (url : UrlItem) (last : List (Option Place)) → slice_get selection.content_urls i ≡ Some url → IsRight last i → IsRight (set last (url_bucket url) (Some (record { epoch = newest + 1; item = i }))) (i + 1)
  set_right i url last at right bucket place is = elim (get_set last (url_bucket url) bucket (Some (record { epoch = newest + 1; item = i })) place is) [
    | inl here ↦ subst (λ p. IsLast more (forgotten_of starts newest) unchained bucket (rank (newest + 1) (i + 1)) p) here.1
        (subst (λ b. IsLast more (forgotten_of starts newest) unchained b (rank (newest + 1) (i + 1)) (Some (record { epoch = newest + 1; item = i }))) (sym here.0) (here_is_last i url at))
    | inr other ↦ others_stay i bucket url place at other.0 (right bucket place other.1)
  ]

  push_right : (i : ℕ) (url : UrlItem) (last list : List (Option Place)) → slice_get selection.content_urls i ≡ Some url → length list ≡ i → length last ≡ BUCKETS → IsRight last i → AreRight list i
      → AreRight (list ++ get_or last (url_bucket url) None ∷ []) (i + 1)
  push_right i url last list at count buckets right so item other below is = elim (cases_lt item i) [
    | inl old ↦ let p = so item other old is in (p.0, get_front list (get_or last (url_bucket url) None ∷ []) item p.0 p.1, p.2)
    | inr new ↦
        let same : item ≡ i = omega (arith, below, new) in
        let there : slice_get last (url_bucket url) ≡ Some (get_or last (url_bucket url) None) = slice_get-get_or last (url_bucket url) None (omega (arith, buckets, bucket_within url)) in
        let one : url ≡ other = same_Some url other (sym at ∙ ap (slice_get selection.content_urls) (sym same) ∙ is) in (
          get_or last (url_bucket url) None,
          ap (slice_get (list ++ get_or last (url_bucket url) None ∷ [])) (same ∙ sym count) ∙ get_last list (get_or last (url_bucket url) None),
          subst (λ (u : UrlItem). IsLast more (forgotten_of starts newest) unchained (url_bucket u) (rank (newest + 1) item) (get_or last (url_bucket url) None)) one
              (subst (λ n. IsLast more (forgotten_of starts newest) unchained (url_bucket url) (rank (newest + 1) n) (get_or last (url_bucket url) None)) (sym same) (right (url_bucket url) _ there)),
        )
  ]

  record Chained (last list : List (Option Place)) : Type 0 where
    buckets : length last ≡ BUCKETS
    right : IsRight last (length selection.content_urls)
    listed : AreRight list (length selection.content_urls)

  chained_right : (rest : List UrlItem) (i : ℕ) (last list : List (Option Place)) → drop i selection.content_urls ≡ rest → i ≤ length selection.content_urls → length list ≡ i → length last ≡ BUCKETS → IsRight last i → AreRight list i
      → Chained (chained (newest + 1) i rest last list).0 (chained (newest + 1) i rest last list).1
  chained_right [] i last list at within count buckets right so =
      let all : i ≡ length selection.content_urls = omega (arith, within, none_left selection.content_urls i at) in
      record { buckets = buckets; right = subst (IsRight last) all right; listed = subst (AreRight list) all so }
  chained_right (url ∷ rest) i last list at within count buckets right so =
      let next = get_next selection.content_urls rest i url at in
      let below = within_list selection.content_urls i url next.0 in
      chained_right rest (i + 1) (set last (url_bucket url) (Some (record { epoch = newest + 1; item = i }))) (list ++ get_or last (url_bucket url) None ∷ []) next.1 (omega (arith, below))
      (length_push list (get_or last (url_bucket url) None) ∙ ap (λ n. n + 1) count) (length-set last (url_bucket url) (Some (record { epoch = newest + 1; item = i })) ∙ buckets)
      (set_right i url last next.0 right) (push_right i url last list next.0 count buckets right so)

-- the chains with the URLs of the new start at their ends
pub chained_more : (starts : List Start) (links : List PlaceList) (last : List (Option Place)) (newest unchained : ℕ) (selection : Selection) (list : PlaceList) (new : List (Option Place))
    → AreChained starts links last newest unchained → unchained ≤ newest → length selection.content_urls < 2 ^ 64 → (new, list.items) ≡ chained (newest + 1) 0 selection.content_urls last []
    → AreChained (starts ++ next_start newest selection ∷ []) (links ++ list ∷ []) new (newest + 1) unchained
chained_more starts links last newest unchained selection list new so before small is =
    let parts = chained_right starts newest unchained selection so.long so.numbered before small selection.content_urls 0 last [] refl (omega arith) refl so.buckets
    (λ bucket place at. last_before starts newest unchained selection so.long so.numbered before small bucket (rank (newest + 1) 0) place (omega arith) (so.lasts bucket place at)) (λ item url below at. absurd (omega (arith, below))) in
    let same = same_forgotten starts newest unchained selection so.long so.numbered before small in
    let fresh : new ≡ (chained (newest + 1) 0 selection.content_urls last []).0 = ap (λ (p : List (Option Place) × List (Option Place)). p.0) is in
    let listed : list.items ≡ (chained (newest + 1) 0 selection.content_urls last []).1 = ap (λ (p : List (Option Place) × List (Option Place)). p.1) is in
    record {
      long = omega (arith, length_push starts (next_start newest selection), so.long);
      numbered = subst (λ b. AreNumbered b (starts ++ next_start newest selection ∷ [])) (sym same) (numbered_more (forgotten_of starts newest) starts (next_start newest selection) so.numbered (let long = so.long in omega (arith, long)));
      as_many = length_push links list ∙ ap (λ n. n + 1) so.as_many ∙ sym (length_push starts (next_start newest selection));
      buckets = ap length fresh ∙ parts.buckets;
      fits = λ k start at. elim (get_either starts (next_start newest selection) start k at) [
        | inl old ↦ so.fits k start old
        | inr here ↦ subst (λ (s : Start). length s.selection.content_urls < 2 ^ 64) here.1 small
      ];
      each = λ k item start other url at also chained there. subst (λ f. (p : Option Place) × (slice_get other.items item ≡ Some p) × IsLast (starts ++ next_start newest selection ∷ []) f unchained (url_bucket url) (rank start.epoch item) p) (sym same)
          (elim (get_either starts (next_start newest selection) start k at) [
            | inl old ↦ elim (get_either links list other k also) [
              | inl link ↦
                  let p = so.each k item start other url old link chained there in
                  let b = start_between starts newest k start so.long so.numbered old in
                  let w : item < 2 ^ 64 = omega (arith, so.fits k start old, within_list start.selection.content_urls item url there) in
                  (p.0, p.1, last_before starts newest unchained selection so.long so.numbered before small (url_bucket url) (rank start.epoch item) p.0 (omega (arith, b.1, w)) p.2)
              | inr end ↦ absurd (omega (arith, within_list starts k start old, end.0, so.as_many))
            ]
            | inr here ↦ elim (get_either links list other k also) [
              | inl link ↦ absurd (omega (arith, within_list links k other link, here.0, so.as_many))
              | inr end ↦
                  let there_now : slice_get selection.content_urls item ≡ Some url = ap (λ (s : Start). slice_get s.selection.content_urls item) here.1 ∙ there in
                  let p = parts.listed item url (within_list selection.content_urls item url there_now) there_now in (
                    p.0,
                    ap (λ (l : PlaceList). slice_get l.items item) (sym end.1) ∙ ap (λ l. slice_get l item) listed ∙ p.1,
                    subst (λ (s : Start). IsLast (starts ++ next_start newest selection ∷ []) (forgotten_of starts newest) unchained (url_bucket url) (rank s.epoch item) p.0) here.1 p.2,
                  )
            ]
          ]);
      lasts = λ bucket place at. subst (λ f. IsLast (starts ++ next_start newest selection ∷ []) f unchained bucket (rank (newest + 1 + 1) 0) place) (sym same)
          (at_end starts newest unchained selection so.long so.numbered before small bucket place (parts.right bucket place (ap (λ l. slice_get l bucket) (sym fresh) ∙ at)));
    }
  where
    at_end : (starts : List Start) (newest unchained : ℕ) (selection : Selection) → length starts ≤ newest → AreNumbered (forgotten_of starts newest) starts → unchained ≤ newest → length selection.content_urls < 2 ^ 64 → (bucket : ℕ) (place : Option Place)
        → IsLast (starts ++ next_start newest selection ∷ []) (forgotten_of starts newest) unchained bucket (rank (newest + 1) (length selection.content_urls)) place
        → IsLast (starts ++ next_start newest selection ∷ []) (forgotten_of starts newest) unchained bucket (rank (newest + 1 + 1) 0) place
    at_end starts newest unchained selection long numbered before small bucket place is = record {
      none_above = λ epoch item url u same below. is.none_above epoch item url u same (elim (url_either starts newest unchained selection long numbered before small epoch item url u) [
        | inl old ↦ let b = epoch_between starts newest unchained long numbered epoch item url old in let w = u.within in omega (arith, b.1, w)
        | inr new ↦ let e = new.0 in omega (arith, e, within_list selection.content_urls item url new.1)
      ]);
      below = below_more place is.below;
      fits = is.fits;
      there = is.there;
    }
      where
        below_more : (p : Option Place) → IfSome p (λ place. place_rank place < rank (newest + 1) (length selection.content_urls)) → IfSome p (λ place. place_rank place < rank (newest + 1 + 1) 0)
        below_more None is = tt
        below_more (Some place) is = omega (arith, is, small)

-- ---- a start that stands in no chain

-- where no known start stands in a chain, any place that is low enough is a last one
vacuous : (starts : List Start) (forgotten unchained bucket bound : ℕ) (last : Option Place) → ((epoch item : ℕ) (url : UrlItem) → IsUrl starts unchained epoch item url → ⊥) → IfSome last (λ place. place_rank place < bound)
    → IfSome last (λ place. place.epoch ≤ unchained) → IfSome last (λ place. place.item < 2 ^ 64) → IsLast starts forgotten unchained bucket bound last
vacuous starts forgotten unchained bucket bound None none below low fits = record { none_above = λ epoch item url u. absurd (none epoch item url u); below = tt; fits = tt; there = tt }
vacuous starts forgotten unchained bucket bound (Some place) none below low fits = record { none_above = λ epoch item url u. absurd (none epoch item url u); below = below; fits = fits; there = λ after chained. absurd (omega (arith, low, chained)) }

lower_place : (place : Option Place) (epoch item more : ℕ) → IfSome place (λ p. place_rank p < rank (epoch + 1) 0) → (IfSome place (λ p. place_rank p < rank (epoch + 1 + 1) 0)) × IfSome place (λ p. p.epoch ≤ epoch + 1)
lower_place None epoch item more is = (tt, tt)
lower_place (Some place) epoch item more is = (omega (arith, is), omega (arith, is))

pub chained_none : (starts : List Start) (links : List PlaceList) (last : List (Option Place)) (newest unchained : ℕ) (selection : Selection) (list : PlaceList)
    → AreChained starts links last newest unchained → length selection.content_urls < 2 ^ 64
    → AreChained (starts ++ next_start newest selection ∷ []) (links ++ list ∷ []) last (newest + 1) (newest + 1)
chained_none starts links last newest unchained selection list so small =
    let same : forgotten_of (starts ++ next_start newest selection ∷ []) (newest + 1) ≡ forgotten_of starts newest = (let long = so.long in omega (arith, length_push starts (next_start newest selection), long)) in
    let numbered : AreNumbered (forgotten_of (starts ++ next_start newest selection ∷ []) (newest + 1)) (starts ++ next_start newest selection ∷ []) =
    subst (λ b. AreNumbered b (starts ++ next_start newest selection ∷ [])) (sym same) (numbered_more (forgotten_of starts newest) starts (next_start newest selection) so.numbered (let long = so.long in omega (arith, long))) in
    let long : length (starts ++ next_start newest selection ∷ []) ≤ newest + 1 = omega (arith, length_push starts (next_start newest selection), so.long) in
    let none : (epoch item : ℕ) (url : UrlItem) → IsUrl (starts ++ next_start newest selection ∷ []) (newest + 1) epoch item url → ⊥ =
    (λ epoch item url u. let b = epoch_between (starts ++ next_start newest selection ∷ []) (newest + 1) (newest + 1) long numbered epoch item url u in let after = u.chained in omega (arith, b.1, after)) in
    record {
      long = long;
      numbered = numbered;
      as_many = length_push links list ∙ ap (λ n. n + 1) so.as_many ∙ sym (length_push starts (next_start newest selection));
      buckets = so.buckets;
      fits = λ k start at. elim (get_either starts (next_start newest selection) start k at) [
        | inl old ↦ so.fits k start old
        | inr here ↦ subst (λ (s : Start). length s.selection.content_urls < 2 ^ 64) here.1 small
      ];
      each = λ k item start other url at also chained there. let b = start_between (starts ++ next_start newest selection ∷ []) (newest + 1) k start long numbered at in absurd (omega (arith, b.1, chained));
      lasts = λ bucket place at. let low = lower_place place newest 0 0 (so.lasts bucket place at).below in vacuous (starts ++ next_start newest selection ∷ []) _ (newest + 1) bucket (rank (newest + 1 + 1) 0) place none low.0 low.1 (so.lasts bucket place at).fits;
    }

-- ---- chains of later starts alone

module _ (starts : List Start) (unchained higher : ℕ) (above : unchained ≤ higher) where
  url_lower : (epoch item : ℕ) (url : UrlItem) → IsUrl starts higher epoch item url → IsUrl starts unchained epoch item url
  url_lower epoch item url is = record { k = is.k; start = is.start; at = is.at; epoch_is = is.epoch_is; chained = (let after = is.chained in omega (arith, after, above)); within = is.within; there = is.there }

  url_higher : (epoch item : ℕ) (url : UrlItem) → higher < epoch → IsUrl starts unchained epoch item url → IsUrl starts higher epoch item url
  url_higher epoch item url after is = record { k = is.k; start = is.start; at = is.at; epoch_is = is.epoch_is; chained = after; within = is.within; there = is.there }

  last_higher : (forgotten bucket bound : ℕ) (last : Option Place) → IsLast starts forgotten unchained bucket bound last → IsLast starts forgotten higher bucket bound last
  last_higher forgotten bucket bound None is = record { none_above = λ epoch item url u. is.none_above epoch item url (url_lower epoch item url u); below = tt; fits = tt; there = tt }
  last_higher forgotten bucket bound (Some place) is = record {
    none_above = λ epoch item url u. is.none_above epoch item url (url_lower epoch item url u);
    below = is.below;
    fits = is.fits;
    there = λ known after. let u = is.there known (omega (arith, above, after)) in (u.0, url_higher place.epoch place.item u.0 after u.1, u.2);
  }

pub chained_higher : (starts : List Start) (links : List PlaceList) (last : List (Option Place)) (newest unchained higher : ℕ) → unchained ≤ higher → AreChained starts links last newest unchained → AreChained starts links last newest higher
chained_higher starts links last newest unchained higher above so = record {
  long = so.long;
  numbered = so.numbered;
  as_many = so.as_many;
  buckets = so.buckets;
  fits = so.fits;
  each = λ k item start list url at also after there. let p = so.each k item start list url at also (omega (arith, above, after)) there in
      (p.0, p.1, last_higher starts unchained higher above (forgotten_of starts newest) (url_bucket url) (rank start.epoch item) p.0 p.2);
  lasts = λ bucket place at. last_higher starts unchained higher above (forgotten_of starts newest) bucket (rank (newest + 1) 0) place (so.lasts bucket place at);
}

-- ---- no starts

all_none : (n : ℕ) (last : List (Option Place)) → last ≡ replicate n None → (bucket : ℕ) (place : Option Place) → slice_get last bucket ≡ Some place → place ≡ None
all_none n last is bucket place at = none_there n bucket place (ap (λ l. slice_get l bucket) (sym is) ∙ at)
  where
    none_there : (n bucket : ℕ) (place : Option Place) → slice_get (replicate n None) bucket ≡ Some place → place ≡ None
    none_there zero bucket place at = absurd (none-some place at)
    none_there (suc n) zero place at = sym (same_Some None place at)
    none_there (suc n) (suc bucket) place at = none_there n bucket place at

pub chained_nothing : (last : List (Option Place)) → last ≡ replicate BUCKETS None → AreChained [] [] last 0 0
chained_nothing last is = record {
  long = omega arith;
  numbered = tt;
  as_many = refl;
  buckets = ap length is ∙ length-replicate {A = Option Place} BUCKETS None;
  fits = λ k start at. absurd (none-some start at);
  each = λ k item start list url at. absurd (none-some start at);
  lasts = λ bucket place at. subst (λ p. IsLast [] (forgotten_of [] 0) 0 bucket (rank (0 + 1) 0) p) (sym (all_none BUCKETS last is bucket place at))
      (vacuous [] (forgotten_of [] 0) 0 bucket (rank (0 + 1) 0) None (λ epoch item url u. none-some u.start u.at) tt tt tt);
}

-- ---- a chain is followed

-- what stands at a place that is known and in a chain
pub record Stands (starts : List Start) (links : List PlaceList) (forgotten unchained bucket : ℕ) (place : Place) : Type 0 where
  pub start : Start
  pub at : slice_get starts (place.epoch - forgotten - 1) ≡ Some start
  pub url : UrlItem
  pub there : slice_get start.selection.content_urls place.item ≡ Some url
  pub in_bucket : url_bucket url ≡ bucket
  pub is_url : IsUrl starts unchained place.epoch place.item url
  pub list : PlaceList
  pub link : slice_get links (place.epoch - forgotten - 1) ≡ Some list
  pub before : Option Place
  pub before_is : slice_get list.items place.item ≡ Some before
  pub last : IsLast starts forgotten unchained bucket (place_rank place) before

pub stands : (starts : List Start) (links : List PlaceList) (last : List (Option Place)) (newest unchained bucket bound : ℕ) (place : Place) → AreChained starts links last newest unchained
    → IsLast starts (forgotten_of starts newest) unchained bucket bound (Some place) → forgotten_of starts newest < place.epoch → unchained < place.epoch → Stands starts links (forgotten_of starts newest) unchained bucket place
stands starts links last newest unchained bucket bound place so is known after =
    let found = is.there known after in
    let u = found.1 in
    let at = numbered_at (forgotten_of starts newest) starts so.numbered u.k u.start u.at in
    let same = u.epoch_is in
    let k : u.k ≡ place.epoch - forgotten_of starts newest - 1 = omega (arith, at, same) in
    let link = found_within links u.k (omega (arith, within_list starts u.k u.start u.at, so.as_many)) in
    let before = so.each u.k place.item u.start link.0 found.0 u.at link.1 (omega (arith, same, after)) u.there in
    record {
      start = u.start;
      at = ap (slice_get starts) (sym k) ∙ u.at;
      url = found.0;
      there = u.there;
      in_bucket = found.2;
      is_url = u;
      list = link.0;
      link = ap (slice_get links) (sym k) ∙ link.1;
      before = before.0;
      before_is = before.1;
      last = subst (λ b. IsLast starts (forgotten_of starts newest) unchained b (place_rank place) before.0) found.2
          (subst (λ e. IsLast starts (forgotten_of starts newest) unchained (url_bucket found.0) (rank e place.item) before.0) same before.2);
    }

-- no URL of the bucket at this place or above it has the key
pub record Missed (starts : List Start) (begun bucket bound : ℕ) (key : KeyParts) : Type 0 where
  pub none : (epoch item : ℕ) (url : UrlItem) → IsUrl starts begun epoch item url → url_bucket url ≡ bucket → bound ≤ rank epoch item → url_hits key url ≡ false

any_at : {A : Type 0} (test : A → Bool) (xs : List A) (k : ℕ) (x : A) → slice_get xs k ≡ Some x → test x ≡ true → list_any test xs ≡ true
any_at test [] k x at is = absurd (none-some x at)
any_at test (y ∷ xs) zero x at is = or_left (test y) (list_any test xs) (ap test (same_Some y x at) ∙ is)
any_at test (y ∷ xs) (suc k) x at is = or_right (test y) (list_any test xs) (any_at test xs k x at is)

none_of : {A : Type 0} (test : A → Bool) (xs : List A) → ((k : ℕ) (x : A) → slice_get xs k ≡ Some x → test x ≡ false) → list_any test xs ≡ false
none_of test [] each = refl
none_of test (x ∷ xs) each = or_from (test x) (list_any test xs) (each 0 x refl) (none_of test xs (λ k y at. each (suc k) y at))

pub url_found : (starts : List Start) (begun epoch item : ℕ) (url : UrlItem) (key : KeyParts) → IsUrl starts begun epoch item url → url_hits key url ≡ true → url_stale starts begun key ≡ true
url_found starts begun epoch item url key is hit = any_at (λ start. nat_lt begun start.epoch && list_any (url_hits key) start.selection.content_urls) starts is.k is.start is.at
    (and_from (nat_lt begun is.start.epoch) (list_any (url_hits key) is.start.selection.content_urls) (lt-ltb begun is.start.epoch (let after = is.chained in let same = is.epoch_is in omega (arith, after, same)))
    (any_at (url_hits key) is.start.selection.content_urls item url is.there hit))

-- a URL with the key stands in the key's bucket
pub in_its_bucket : (key : KeyParts) (url : UrlItem) → url_hits key url ≡ true → url_bucket url ≡ bucket_of key.host key.port key.path
in_its_bucket key url hit = let same = (key_decides (key_of url.target key.ignored) key).0 hit in ap (λ (k : KeyParts). bucket_of k.host k.port k.path) same

pub url_missed : (starts : List Start) (links : List PlaceList) (last : List (Option Place)) (newest begun : ℕ) (key : KeyParts) → AreChained starts links last newest begun
    → ((epoch item : ℕ) (url : UrlItem) → IsUrl starts begun epoch item url → url_bucket url ≡ bucket_of key.host key.port key.path → url_hits key url ≡ false) → url_stale starts begun key ≡ false
url_missed starts links last newest begun key so none = none_of (λ start. nat_lt begun start.epoch && list_any (url_hits key) start.selection.content_urls) starts (λ k start at. elim (cases_Bool (nat_lt begun start.epoch)) [
  | inl after ↦ ap (λ later. later && list_any (url_hits key) start.selection.content_urls) after ∙ none_of (url_hits key) start.selection.content_urls (λ item url there. elim (cases_Bool (url_hits key url)) [
    | inl hit ↦ none start.epoch item url (record { k = k; start = start; at = at; epoch_is = refl; chained = ltb-true begun start.epoch after; within = omega (arith, so.fits k start at, within_list start.selection.content_urls item url there); there = there }) (in_its_bucket key url hit)
    | inr miss ↦ miss
  ])
  | inr before ↦ ap (λ later. later && list_any (url_hits key) start.selection.content_urls) before
])

-- all URLs stand below the end
pub missed_first : (starts : List Start) (links : List PlaceList) (last : List (Option Place)) (newest begun bucket : ℕ) (key : KeyParts) → AreChained starts links last newest begun → Missed starts begun bucket (rank (newest + 1) 0) key
missed_first starts links last newest begun bucket key so = record {
  none = λ epoch item url u same above. let b = epoch_between starts newest begun so.long so.numbered epoch item url u in let w = u.within in absurd (omega (arith, b.1, w, above));
}

-- a chain ends where no place is before
pub missed_all : (starts : List Start) (forgotten begun bucket bound : ℕ) (key : KeyParts) → IsLast starts forgotten begun bucket bound None → Missed starts begun bucket bound key
    → (epoch item : ℕ) (url : UrlItem) → IsUrl starts begun epoch item url → url_bucket url ≡ bucket → url_hits key url ≡ false
missed_all starts forgotten begun bucket bound key is missed epoch item url u same = elim (cases_lt (rank epoch item) bound) [
  | inl below ↦ absurd (is.none_above epoch item url u same below)
  | inr above ↦ missed.none epoch item url u same above
]

-- or where the place before is too old
pub missed_old : (starts : List Start) (links : List PlaceList) (last : List (Option Place)) (newest begun bucket bound : ℕ) (place : Place) (key : KeyParts) → AreChained starts links last newest begun → place.item < 2 ^ 64
    → (place.epoch ≤ begun) ⊎ (place.epoch ≤ forgotten_of starts newest) → IsLast starts (forgotten_of starts newest) begun bucket bound (Some place) → Missed starts begun bucket bound key
    → (epoch item : ℕ) (url : UrlItem) → IsUrl starts begun epoch item url → url_bucket url ≡ bucket → url_hits key url ≡ false
missed_old starts links last newest begun bucket bound place key so small old is missed epoch item url u same = elim (cases_lt (rank epoch item) bound) [
  | inl below ↦
      let upto = is.none_above epoch item url u same below in
      let b = epoch_between starts newest begun so.long so.numbered epoch item url u in
      let after = u.chained in
      absurd (elim old [ inl early ↦ omega (arith, upto, early, after, small) | inr gone ↦ omega (arith, upto, gone, b.0, small) ])
  | inr above ↦ missed.none epoch item url u same above
]

-- one URL more was missed
pub missed_more : (starts : List Start) (forgotten begun bucket bound : ℕ) (place : Place) (url : UrlItem) (key : KeyParts) → IsUrl starts begun place.epoch place.item url → url_hits key url ≡ false
    → IsLast starts forgotten begun bucket bound (Some place) → AreNumbered forgotten starts → Missed starts begun bucket bound key → Missed starts begun bucket (place_rank place) key
missed_more starts forgotten begun bucket bound place here key is_here miss is numbered missed = record {
  none = λ epoch item url u same above. elim (cases_lt (rank epoch item) bound) [
    | inl below ↦
        let upto = is.none_above epoch item url u same below in
        let r = same_rank epoch item place.epoch place.item u.within is_here.within (omega (arith, upto, above)) in
        ap (url_hits key) (one_url starts forgotten begun numbered epoch item place.epoch place.item url here r.0 r.1 u is_here) ∙ miss
    | inr over ↦ missed.none epoch item url u same over
  ];
}
  where
    one_url : (starts : List Start) (forgotten begun : ℕ) → AreNumbered forgotten starts → (epoch item other number : ℕ) (url here : UrlItem) → epoch ≡ other → item ≡ number → IsUrl starts begun epoch item url → IsUrl starts begun other number here → url ≡ here
    one_url starts forgotten begun numbered epoch item other number url here e n u h =
        let at = numbered_at forgotten starts numbered u.k u.start u.at in
        let also = numbered_at forgotten starts numbered h.k h.start h.at in
        let ue = u.epoch_is in
        let he = h.epoch_is in
        let k : u.k ≡ h.k = omega (arith, at, also, ue, he, e) in
        let start = same_Some u.start h.start (sym u.at ∙ ap (slice_get starts) k ∙ h.at) in
        same_Some url here (sym u.there ∙ ap (λ (s : Start). slice_get s.selection.content_urls item) start ∙ ap (slice_get h.start.selection.content_urls) n ∙ h.there)

-- ---- what is not found by URLs

or_both : (a b c : Bool) (d e : Bool) → ((a && (b || c)) || (d || e)) ≡ (((a && b) || d) || ((a && c) || e))
or_both false b c d e = refl
or_both true true c d e = refl
or_both true false true d e = or_true d
  where
    or_true : (d : Bool) → true ≡ (d || true)
    or_true true = refl
    or_true false = refl
or_both true false false d e = refl

-- ---- for the loops

-- some of the first starts are gone, with their links
pub record IsCut (old new : Chains) : Type 0 where
  pub n : ℕ
  pub within : n ≤ length old.starts.items
  pub starts : new.starts.items ≡ drop n old.starts.items
  pub links : new.links.items ≡ drop n old.links.items

-- the chain of the key's bucket was followed up to here, and no URL with the key was found
pub record IsFollowed (chains : Chains) (newest begun : ℕ) (key : KeyParts) (next : Option Place) : Type 0 where
  pub whole : IsWhole chains newest begun
  pub bound : ℕ
  pub last : IsLast chains.starts.items (forgotten_of chains.starts.items newest) begun (bucket_of key.host key.port key.path) bound next
  pub missed : Missed chains.starts.items begun (bucket_of key.host key.port key.path) bound key

abbrev pub next_rank : Option Place → ℕ
next_rank None = 0
next_rank (Some place) = place_rank place + 1

-- what was written to the whole of a list is the list
pub written_back : {A : Type 0} (old new : List A) (n : ℕ) → length new ≡ length old → n ≡ length old → take n (new ++ drop (length new) old) ≡ new
written_back old new n same count =
    ap (λ rest. take n (new ++ rest)) (drop_all (length new) old (omega (arith, same))) ∙ ap (take n) (append-nil new) ∙ take_all n new (omega (arith, same, count))

-- what is a clone of no place is no place
pub only_none : (IsCloneOf : Option Place → Type 0) → ((place : Place) → IsCloneOf (Some place) → ⊥) → (one : Option Place) → IsCloneOf one → one ≡ None
only_none IsCloneOf never None is = refl
only_none IsCloneOf never (Some place) is = absurd (never place is)

pub front_some : (oldest : ℕ) (starts : List Start) → is_front_up_to oldest starts ≡ true → 0 < length starts
front_some oldest [] is = absurd (cc)
front_some oldest (start ∷ starts) is = omega arith

pub front_popped : (oldest : ℕ) (starts new : List Start) → is_front_up_to oldest starts ≡ true → new ≡ drop 1 starts → behind_front oldest new ≡ behind_front oldest starts
front_popped oldest [] new old is = absurd (cc)
front_popped oldest (start ∷ starts) new old is = ap (behind_front oldest) is ∙ front_goes oldest (start ∷ starts) starts old start refl

pub cut_more : (old now new : Chains) → IsCut old now → 0 < length now.starts.items → new.starts.items ≡ drop 1 now.starts.items → new.links.items ≡ drop 1 now.links.items → IsCut old new
cut_more old now new cut some starts links = record {
  n = cut.n + 1;
  within = omega (arith, some, ap length cut.starts, length-drop cut.n old.starts.items);
  starts = starts ∙ ap (drop 1) cut.starts ∙ drop-drop 1 cut.n old.starts.items;
  links = links ∙ ap (drop 1) cut.links ∙ drop-drop 1 cut.n old.links.items;
}

-- ---- following a chain

abbrev pub key_bucket : KeyParts → ℕ
key_bucket key = bucket_of key.host key.port key.path

pub followed_first : (chains : Chains) (newest begun : ℕ) (key : KeyParts) (next : Option Place) → IsWhole chains newest begun → slice_get chains.last.items (key_bucket key) ≡ Some next → IsFollowed chains newest begun key next
followed_first chains newest begun key next whole at = record {
  whole = whole;
  bound = rank (newest + 1) 0;
  last = whole.lasts (key_bucket key) next at;
  missed = missed_first chains.starts.items chains.links.items chains.last.items newest begun (key_bucket key) key whole;
}

pub followed_none : (chains : Chains) (newest begun : ℕ) (key : KeyParts) → IsFollowed chains newest begun key None → false ≡ url_stale chains.starts.items begun key
followed_none chains newest begun key f = sym (url_missed chains.starts.items chains.links.items chains.last.items newest begun key f.whole
    (missed_all chains.starts.items (forgotten_of chains.starts.items newest) begun (key_bucket key) f.bound key f.last f.missed))

pub followed_old : (chains : Chains) (newest begun : ℕ) (key : KeyParts) (place : Place) → IsFollowed chains newest begun key (Some place)
    → (place.epoch ≤ begun) ⊎ (place.epoch ≤ forgotten_of chains.starts.items newest) → false ≡ url_stale chains.starts.items begun key
followed_old chains newest begun key place f old = sym (url_missed chains.starts.items chains.links.items chains.last.items newest begun key f.whole
    (missed_old chains.starts.items chains.links.items chains.last.items newest begun (key_bucket key) f.bound place key f.whole f.last.fits old f.last f.missed))

pub followed_here : (chains : Chains) (newest begun forgotten : ℕ) (key : KeyParts) (place : Place) → forgotten ≡ forgotten_of chains.starts.items newest → IsFollowed chains newest begun key (Some place)
    → forgotten < place.epoch → begun < place.epoch → Stands chains.starts.items chains.links.items forgotten begun (key_bucket key) place
followed_here chains newest begun forgotten key place same f known after = subst (λ g. Stands chains.starts.items chains.links.items g begun (key_bucket key) place) (sym same)
    (stands chains.starts.items chains.links.items chains.last.items newest begun (key_bucket key) f.bound place f.whole f.last (omega (arith, same, known)) after)

pub followed_on : (chains : Chains) (newest begun forgotten : ℕ) (key : KeyParts) (place : Place) → forgotten ≡ forgotten_of chains.starts.items newest → IsFollowed chains newest begun key (Some place)
    → (here : Stands chains.starts.items chains.links.items forgotten begun (key_bucket key) place) → url_hits key here.url ≡ false → IsFollowed chains newest begun key here.before
followed_on chains newest begun forgotten key place same f here miss = record {
  whole = f.whole;
  bound = place_rank place;
  last = subst (λ g. IsLast chains.starts.items g begun (key_bucket key) (place_rank place) here.before) same here.last;
  missed = missed_more chains.starts.items (forgotten_of chains.starts.items newest) begun (key_bucket key) f.bound place here.url key here.is_url miss f.last f.whole.numbered f.missed;
}

pub rank_falls : (starts : List Start) (forgotten begun bucket : ℕ) (place : Place) (before : Option Place) → IsLast starts forgotten begun bucket (place_rank place) before → next_rank before < next_rank (Some place)
rank_falls starts forgotten begun bucket place None is = omega arith
rank_falls starts forgotten begun bucket place (Some p) is = let below = is.below in omega (arith, below)

-- ---- all that is stale

pub stale_parts : (starts : List Start) (begun : ℕ) (key : KeyParts) (ccid : Option (List ℕ)) → is_stale starts begun key ccid ≡ (url_stale starts begun key || other_stale starts begun key ccid)
unfolding hits
stale_parts [] begun key ccid = refl
stale_parts (start ∷ starts) begun key ccid = apart (nat_lt begun start.epoch) (list_any (url_hits key) start.selection.content_urls) (list_any (pattern_hits key) start.selection.content_patterns)
    (list_any (is_ccid ccid) start.selection.ccids) (is_stale starts begun key ccid) (url_stale starts begun key) (other_stale starts begun key ccid) (stale_parts starts begun key ccid)
  where
    or_assoc : (b p c : Bool) → ((b || p) || c) ≡ (b || (p || c))
    or_assoc true p c = refl
    or_assoc false p c = refl

    apart : (a b p c whole d e : Bool) → whole ≡ (d || e) → ((a && ((b || p) || c)) || whole) ≡ (((a && b) || d) || ((a && (p || c)) || e))
    apart a b p c whole d e is = ap (λ w. (a && ((b || p) || c)) || w) is ∙ ap (λ t. (a && t) || (d || e)) (or_assoc b p c) ∙ or_both a b (p || c) d e

pub max_cases : (n a b : ℕ) → n ≤ max a b → (n ≤ a) ⊎ (n ≤ b)
max_cases n a b is = elim (cases_lt a n) [ inl above ↦ inr (omega (arith, above, is)) | inr upto ↦ inl upto ]
