-- Pieces of a query: how they are cut off, kept and joined.
use Rattle.std.proofs.Common.{◌≡◌, ℕ, ◌+◌, ◌-◌, ◌<◌, ◌≤◌, Bool, true, false, not, cond, List, [], ◌∷◌, ◌++◌, length, take, drop, refl, ap, sym, subst, ◌∙◌, arith, Option, Some, None, ltb, ◌==◌, append-nil, append_assoc, length-drop, ⊎_elim, ◌↔◌, IsTrue, is_some}
use Rattle.std.proofs.lemmas.Bool.{cases_Bool, cond-true, cond-false, ltb-true, ltb-false, not_from_true, not_from_false, and_parts, not-true}
use Rattle.std.proofs.lemmas.List.Elements.{All-cons, All-nil, filter-append}
use Rattle.std.proofs.lemmas.List.Splits.{slice_split_first, slice_split-cons_yes, slice_split-cons_no, slice_split_at, length-slice_split, slice_split_none, join_with_byte-slice_split}
use Rattle.std.proofs.Math.Seq.{drop-append_seam, take-append_seam}
use Rattle.std.specs.List.{slice_range, slice_split, onto_first, position_or_len, join_with_byte, filter, All, list_all}
use Rattle.std.specs.Option.{option_map}
use Rattle.listing.specs.Word.{parts_at}
use Rattle.cdni_base.specs.declared.key.Ignored.TheVariants as ignored
use Rattle.targets.specs.declared.target.Target.{Target}
use Rattle.cdni_base.specs.Key.{KeyParts, pieces_of, joined, is_kept, key_of, AreIgnored, IsSameBut}

abbrev is_cut : ℕ → Bool
is_cut byte = byte == 38

abbrev first_cut : List ℕ → ℕ
first_cut text = position_or_len is_cut text

-- without `&` the text is one piece
whole_piece : (text : List ℕ) → length text ≤ first_cut text → slice_split is_cut text ≡ text ∷ []
whole_piece [] h = refl
whole_piece (x ∷ xs) h = ⊎_elim (λ yes. absurd (omega (arith, cond-false (not (is_cut x)) (1 + first_cut xs) 0 (not_from_true (is_cut x) yes)))) (λ no. slice_split-cons_no is_cut x xs no ∙ ap (onto_first x) (whole_piece xs (omega (arith, cond-true (not (is_cut x)) (1 + first_cut xs) 0 (not_from_false (is_cut x) no))))) (cases_Bool (is_cut x))

abbrev parts_at_place : List ℕ → Option ℕ → Option (List ℕ × List ℕ)
parts_at_place text place = option_map (λ i. (take i text, drop (i + 1) text)) place

-- where a piece is cut off, it is the first one
pub piece_cut_off : (text piece others : List ℕ) → Some (piece, others) ≡ parts_at 38 text → (pieces_of (Some text) ≡ piece ∷ pieces_of (Some others)) × (length others < length text)
unfolding parts_at
piece_cut_off text piece others e =
    ⊎_elim (λ found.
    let at : parts_at 38 text ≡ Some (take (first_cut text) text, drop (first_cut text + 1) text) = ap (parts_at_place text) (cond-true (ltb (first_cut text) (length text)) (Some (first_cut text)) None found) in
    let pair : (piece, others) ≡ (take (first_cut text) text, drop (first_cut text + 1) text) = some_same _ _ (e ∙ at) in
    let within = ltb-true _ _ found in
    let first : piece ≡ take (first_cut text) text = ap (λ p. p.0) pair in
    let rest : others ≡ drop (first_cut text + 1) text = ap (λ p. p.1) pair in
    let shorter : length (drop (first_cut text + 1) text) < length text = omega (arith, within, length-drop (first_cut text + 1) text) in
    (rw (first, rest) (slice_split_first is_cut text 0 within), rw rest shorter))
    (λ none. absurd (some_none (e ∙ ap (parts_at_place text) (cond-false (ltb (first_cut text) (length text)) (Some (first_cut text)) None none))))
    (cases_Bool (ltb (first_cut text) (length text)))
  where
    some_same : {A : Type 0} (a b : A) → Some a ≡ Some b → a ≡ b
    some_same a b h = cc

    some_none : {A : Type 0} {a : A} → Some a ≡ None → ⊥
    some_none h = cc

-- where none is cut off, the text is one piece
pub no_piece_cut_off : (text : List ℕ) → None ≡ parts_at 38 text → pieces_of (Some text) ≡ text ∷ []
unfolding parts_at
no_piece_cut_off text e =
    ⊎_elim (λ found. absurd (none_some (e ∙ ap (parts_at_place text) (cond-true (ltb (first_cut text) (length text)) (Some (first_cut text)) None found))))
    (λ none. whole_piece text (ltb-false _ _ none)) (cases_Bool (ltb (first_cut text) (length text)))
  where
    none_some : {A : Type 0} {a : A} → None ≡ Some a → ⊥
    none_some h = cc

-- the pieces added to those that are joined already, of which there are any or none
abbrev pub with_pieces : Bool → List ℕ → List (List ℕ) → Option (List ℕ)
with_pieces any text [] = cond any (Some text) None
with_pieces any text (piece ∷ pieces) = with_pieces true (cond any (text ++ 38 ∷ piece) (text ++ piece)) pieces

joined-onto : (text piece : List ℕ) (pieces : List (List ℕ)) → join_with_byte 38 ((text ++ 38 ∷ piece) ∷ pieces) ≡ text ++ 38 ∷ join_with_byte 38 (piece ∷ pieces)
joined-onto text piece [] = refl
joined-onto text piece (next ∷ pieces) = append_assoc text (38 ∷ piece) (38 ∷ join_with_byte 38 (next ∷ pieces))

with_pieces-joined : (text : List ℕ) (pieces : List (List ℕ)) → with_pieces true text pieces ≡ Some (join_with_byte 38 (text ∷ pieces))
with_pieces-joined text [] = refl
with_pieces-joined text (piece ∷ pieces) = with_pieces-joined (text ++ 38 ∷ piece) pieces ∙ ap Some (joined-onto text piece pieces)

pub with_all_pieces : (pieces : List (List ℕ)) → with_pieces false [] pieces ≡ joined pieces
with_all_pieces [] = refl
with_all_pieces (piece ∷ pieces) = with_pieces-joined piece pieces

module _ (kept : List ℕ → Bool) where
  pub piece_taken : (any : Bool) (before text piece : List ℕ) (others : Option (List ℕ)) → pieces_of (Some text) ≡ piece ∷ pieces_of others → kept piece ≡ true → with_pieces any before (filter kept (pieces_of (Some text))) ≡ with_pieces true (cond any (before ++ 38 ∷ piece) (before ++ piece)) (filter kept (pieces_of others))
  piece_taken any before text piece others e here = ap (λ (ps : List (List ℕ)). with_pieces any before (filter kept ps)) e ∙ ap (with_pieces any before) (cond-true (kept piece) (piece ∷ filter kept (pieces_of others)) (filter kept (pieces_of others)) here)

  pub piece_left_out : (text piece : List ℕ) (others : Option (List ℕ)) → pieces_of (Some text) ≡ piece ∷ pieces_of others → kept piece ≡ false → filter kept (pieces_of (Some text)) ≡ filter kept (pieces_of others)
  piece_left_out text piece others e gone = ap (filter kept) e ∙ cond-false (kept piece) (piece ∷ filter kept (pieces_of others)) (filter kept (pieces_of others)) gone

  pub piece_kept : (text piece : List ℕ) (others : Option (List ℕ)) → pieces_of (Some text) ≡ piece ∷ pieces_of others → kept piece ≡ true → filter kept (pieces_of (Some text)) ≡ piece ∷ filter kept (pieces_of others)
  piece_kept text piece others e here = ap (filter kept) e ∙ cond-true (kept piece) (piece ∷ filter kept (pieces_of others)) (filter kept (pieces_of others)) here

same_tail : (p q : List ℕ) (ps qs : List (List ℕ)) → p ∷ ps ≡ q ∷ qs → (p ≡ q) × (ps ≡ qs)
same_tail p q ps qs h = (cc, cc)

-- two lists of pieces that begin alike are equal where their rests are
pub same_pieces : (xs ys ps qs : List (List ℕ)) (p : List ℕ) → xs ≡ p ∷ ps → ys ≡ p ∷ qs → (xs ≡ ys) ↔ (ps ≡ qs)
same_pieces xs ys ps qs p ex ey = (λ h. (same_tail p p ps qs (sym ex ∙ h ∙ ey)).1, λ h. ex ∙ ap (λ (zs : List (List ℕ)). p ∷ zs) h ∙ sym ey)

pub other_pieces : (xs ys ps qs : List (List ℕ)) (p q : List ℕ) → xs ≡ p ∷ ps → ys ≡ q ∷ qs → xs ≡ ys → p ≡ q
other_pieces xs ys ps qs p q ex ey h = (same_tail p q ps qs (sym ex ∙ h ∙ ey)).0

pub piece_and_none : (xs ps : List (List ℕ)) (p : List ℕ) → xs ≡ p ∷ ps → xs ≡ [] → ⊥
piece_and_none xs ps p ex h = let e : p ∷ ps ≡ [] = sym ex ∙ h in absurd (cc)

-- a query has a piece
pub some_piece : (text : List ℕ) → [] ≡ pieces_of (Some text) → ⊥
some_piece text h = absurd (omega (arith, ap length h, length-slice_split is_cut text))

none_left : (b : Bool) → false ≡ not b → IsTrue b
none_left true e = refl
none_left false e = e

some_left : (b : Bool) → true ≡ not b → IsTrue b → ⊥
some_left true e t = absurd (cc)
some_left false e t = absurd (cc)

-- at the end of one list of pieces, whether the other one ended too
pub all_pieces_seen : {A : Type 0} (view : A → List ℕ) (b : Bool) (P : Type 0) (left : Option A) → is_some left ≡ not b → (([] ≡ pieces_of (option_map view left)) ↔ P) → IsTrue b ↔ P
all_pieces_seen view b P None e h = (λ t. h.0 refl, λ p. none_left b e)
all_pieces_seen view b P (Some text) e h = (λ t. absurd (some_left b e t), λ p. absurd (some_piece (view text) (h.1 p)))

-- no piece has `&`
pub AreWhole : List (List ℕ) → Type 0
AreWhole [] = Unit {0}
AreWhole (piece ∷ pieces) = All (λ byte. is_cut byte ≡ false) piece × AreWhole pieces

onto_first_whole : (byte : ℕ) (pieces : List (List ℕ)) → is_cut byte ≡ false → AreWhole pieces → AreWhole (onto_first byte pieces)
unfolding AreWhole
onto_first_whole byte [] h all = (All-cons (λ x. is_cut x ≡ false) byte [] h (All-nil (λ x. is_cut x ≡ false)), tt)
onto_first_whole byte (piece ∷ pieces) h all = (All-cons (λ x. is_cut x ≡ false) byte piece h all.0, all.1)

pieces_whole : (text : List ℕ) → AreWhole (slice_split is_cut text)
unfolding AreWhole
pieces_whole [] = (All-nil (λ x. is_cut x ≡ false), tt)
pieces_whole (x ∷ xs) = ⊎_elim (λ here. subst AreWhole (sym (slice_split-cons_yes is_cut x xs here)) (All-nil (λ x. is_cut x ≡ false), pieces_whole xs)) (λ gone. subst AreWhole (sym (slice_split-cons_no is_cut x xs gone)) (onto_first_whole x (slice_split is_cut xs) gone (pieces_whole xs))) (cases_Bool (is_cut x))

filter_whole : (kept : List ℕ → Bool) (pieces : List (List ℕ)) → AreWhole pieces → AreWhole (filter kept pieces)
unfolding AreWhole
filter_whole kept [] all = tt
filter_whole kept (piece ∷ pieces) all = ⊎_elim (λ here. subst AreWhole (sym (cond-true (kept piece) (piece ∷ filter kept pieces) (filter kept pieces) here)) (all.0, filter_whole kept pieces all.1)) (λ gone. subst AreWhole (sym (cond-false (kept piece) (piece ∷ filter kept pieces) (filter kept pieces) gone)) (filter_whole kept pieces all.1)) (cases_Bool (kept piece))

query_whole : (query : Option (List ℕ)) → AreWhole (pieces_of query)
unfolding AreWhole
query_whole None = tt
query_whole (Some text) = pieces_whole text

-- whole pieces are cut again where they were joined
cut_again : (piece : List ℕ) (pieces : List (List ℕ)) → AreWhole (piece ∷ pieces) → slice_split is_cut (join_with_byte 38 (piece ∷ pieces)) ≡ piece ∷ pieces
unfolding AreWhole
cut_again piece [] all = slice_split_none is_cut piece all.0
cut_again piece (next ∷ pieces) all = slice_split_at is_cut piece 38 (join_with_byte 38 (next ∷ pieces)) all.0 refl ∙ ap (λ (ps : List (List ℕ)). piece ∷ ps) (cut_again next pieces all.1)

joined_again : (pieces : List (List ℕ)) → AreWhole pieces → pieces_of (joined pieces) ≡ pieces
joined_again [] all = refl
joined_again (piece ∷ pieces) all = cut_again piece pieces all

joined-some : (pieces : List (List ℕ)) → ([] ≡ pieces → ⊥) → joined pieces ≡ Some (join_with_byte 38 pieces)
joined-some [] h = absurd (h refl)
joined-some (piece ∷ pieces) h = refl

query_again : (query : Option (List ℕ)) → joined (pieces_of query) ≡ query
query_again None = refl
query_again (Some text) = joined-some (pieces_of (Some text)) (some_piece text) ∙ ap Some (join_with_byte-slice_split 38 text)

-- the kept pieces joined are this query where they are its pieces
pub joined_is : (kept : List ℕ → Bool) (query own : Option (List ℕ)) → (joined (filter kept (pieces_of query)) ≡ own) ↔ (filter kept (pieces_of query) ≡ pieces_of own)
joined_is kept query own =
    (λ h. sym (joined_again (filter kept (pieces_of query)) (filter_whole kept (pieces_of query) (query_whole query))) ∙ ap pieces_of h, λ h. ap joined h ∙ query_again own)

pub chain_iff : {P Q R : Type 0} → (P ↔ Q) → (R ↔ Q) → P ↔ R
chain_iff h k = (λ p. k.1 (h.0 p), λ r. h.1 (k.0 r))

-- what is ignored leaves nothing
ignored_gone : (names pieces : List (List ℕ)) → AreIgnored names pieces → filter (is_kept names) pieces ≡ []
ignored_gone names [] are = refl
ignored_gone names (piece ∷ pieces) are =
    let p = and_parts (not (is_kept names piece)) (list_all (λ x. not (is_kept names x)) pieces) are in
    cond-false (is_kept names piece) (piece ∷ filter (is_kept names) pieces) (filter (is_kept names) pieces) (not-true (is_kept names piece) p.0) ∙ ignored_gone names pieces p.1

ignored_between : (names front some back : List (List ℕ)) → AreIgnored names some → filter (is_kept names) (front ++ some ++ back) ≡ filter (is_kept names) front ++ filter (is_kept names) back
ignored_between names front some back are =
    filter-append (is_kept names) (front ++ some) back ∙ ap (λ (xs : List (List ℕ)). xs ++ filter (is_kept names) back) (filter-append (is_kept names) front some ∙ ap (λ (xs : List (List ℕ)). filter (is_kept names) front ++ xs) (ignored_gone names some are) ∙ append-nil (filter (is_kept names) front))

pub same_key : (target : Target) (query : Option (List ℕ)) (names front some others back : List (List ℕ)) → pieces_of target.query ≡ front ++ some ++ back → pieces_of query ≡ front ++ others ++ back → AreIgnored names some → AreIgnored names others → key_of (record target { query = query }) (ignored.Names names) ≡ key_of target (ignored.Names names)
same_key target query names front some others back one other are also =
    let kept : filter (is_kept names) (pieces_of query) ≡ filter (is_kept names) (pieces_of target.query) = ap (filter (is_kept names)) other ∙ ignored_between names front others back also ∙ sym (ap (filter (is_kept names)) one ∙ ignored_between names front some back are) in
    ap (λ (q : Option (List ℕ)). record { host = target.host; port = target.port; path = target.path; query = q; ignored = ignored.Names names }) (ap joined kept)

-- keys are the same exactly where the targets are, but for ignored pieces
pub told_apart : (target other : Target) (names : List (List ℕ)) → (key_of target (ignored.Names names) ≡ key_of other (ignored.Names names)) ↔ IsSameBut names target other
told_apart target other names =
    let kept : (query : Option (List ℕ)) → List (List ℕ) = λ query. filter (is_kept names) (pieces_of query) in (
      λ same. let queries : joined (kept target.query) ≡ joined (kept other.query) = ap (λ (k : KeyParts). k.query) same in (
        ap (λ (k : KeyParts). k.host) same,
        ap (λ (k : KeyParts). k.port) same,
        ap (λ (k : KeyParts). k.path) same,
        (joined_is (is_kept names) target.query (joined (kept other.query))).0 queries ∙ sym ((joined_is (is_kept names) other.query (joined (kept other.query))).0 refl),
      ),
      λ parts. rw (parts.0, parts.1, parts.2, parts.3) refl,
    )

four_less : (n m : ℕ) → n ≡ 4 + m → n - 4 ≡ m
four_less n m is = omega (arith, is)

-- a text that is copied behind another one without its first four bytes, which stand otherwise there
pub copied_behind : (rest other : List ℕ) (size : ℕ) (first second third : List ℕ) → size ≡ length first → first ≡ 104 ∷ 116 ∷ 116 ∷ 112 ∷ rest → second ≡ first ++ other → third ≡ second ++ slice_range second 4 size
    → drop size third ≡ other ++ rest
copied_behind rest other size first second third is starts then behind =
    let front : List ℕ = 104 ∷ 116 ∷ 116 ∷ 112 ∷ rest in
    let part : slice_range (front ++ other) 4 (length front) ≡ rest = ap (λ (n : ℕ). take n (rest ++ other)) (four_less (length front) (length rest) (omega arith)) ∙ take-append_seam rest other in
    let length_is : size ≡ length front = is ∙ ap length starts in
    let second_is : second ≡ front ++ other = then ∙ ap (λ (x : List ℕ). x ++ other) starts in
    let third_is : third ≡ (front ++ other) ++ rest =
    behind ∙ ap (λ (x : List ℕ). x ++ slice_range x 4 size) second_is ∙ ap (λ (n : ℕ). (front ++ other) ++ slice_range (front ++ other) 4 n) length_is ∙ ap (λ (x : List ℕ). (front ++ other) ++ x) part in
    ap (λ (x : List ℕ). drop size x) (third_is ∙ append_assoc front other rest) ∙ ap (λ (n : ℕ). drop n (front ++ (other ++ rest))) length_is ∙ drop-append_seam front (other ++ rest)
