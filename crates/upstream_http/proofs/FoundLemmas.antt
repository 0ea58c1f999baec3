-- Where the bytes to come begin with the head of a final answer, no other reading of them is there.
use Rattle.std.proofs.Common.{◌≡◌, ℕ, ◌<◌, ◌≤◌, List, [], ◌∷◌, ◌++◌, length, refl, sym, ◌∙◌, ap, arith, inl, inr, Some, append_assoc, length-append}
use Rattle.std.proofs.lemmas.List.{append_cancel_left}
use Rattle.http_wire.specs.Moves.{Moves}
use Rattle.http_wire.specs.Response.{ResponseParts, SpellsResponse, HasNoResponseHead, IsHopelessResponse}
use Rattle.httparse.specs.Grammar.{MayBecomeResponse}
use Rattle.http_wire.specs.declared.reading.HeadRead.TheVariants as read
use Rattle.http_wire.proofs.BodyLemmas.{same_front}
use Rattle.http_wire.proofs.FoundLemmas.{finds}
use Rattle.http_wire.proofs.ResponseLemmas.{response_grammar}
use Rattle.upstream_http.specs.FinalHead.{SpelledHead, AreInterim, heads_text, IsFinalHead, IsNoHead, IsCutHead, IsBadStart, IsCutStart}
use Rattle.upstream_http.specs.declared.final_head.TheConstants.{FINAL_MIN}
use Rattle.upstream_http.proofs.FinalLemmas.{size_is}

-- two heads at the front of one text
same_head : (a x b y : List ℕ) (p q : ResponseParts) → SpellsResponse a p → SpellsResponse b q → a ++ x ≡ b ++ y → (q ≡ p) × (x ≡ y)
same_head a x b y p q sp sq same =
    let parts = response_grammar.one a x b y p q sp sq same in
    let long : length a ≡ length b = sym (size_is a p sp) ∙ ap (λ (h : ResponseParts). h.size) (sym parts) ∙ size_is b q sq in
    let front = same_front a x b y same long in
    (parts, append_cancel_left a x y (same ∙ ap (λ z. z ++ y) (sym front)))

behind_first : (head : SpelledHead) (heads : List SpelledHead) (x : List ℕ) → heads_text (head ∷ heads) ++ x ≡ head.text ++ (heads_text heads ++ x)
behind_first head heads x = append_assoc head.text (heads_text heads) x

low_is_not_high : (p q : ResponseParts) → q ≡ p → p.status < FINAL_MIN → FINAL_MIN ≤ q.status → ⊥
low_is_not_high p q same low high = omega (arith, low, high, ap (λ (h : ResponseParts). h.status) same)

-- the final head is one, and what is behind it too
pub one_final : (interim others : List SpelledHead) (text rest text' rest' : List ℕ) (head head' : ResponseParts)
    → AreInterim interim → AreInterim others → SpellsResponse text head → SpellsResponse text' head' → FINAL_MIN ≤ head.status → FINAL_MIN ≤ head'.status
    → heads_text interim ++ (text ++ rest) ≡ heads_text others ++ (text' ++ rest') → (head' ≡ head) × (rest ≡ rest')
one_final [] [] text rest text' rest' head head' a b s t high high' same = same_head text rest text' rest' head head' s t same
one_final [] (o ∷ others) text rest text' rest' head head' a b s t high high' same =
    let first = same_head text rest o.text _ head o.parts s b.0 (same ∙ behind_first o others (text' ++ rest')) in
    absurd (low_is_not_high o.parts head (sym first.0) b.1 high)
one_final (i ∷ interim) [] text rest text' rest' head head' a b s t high high' same =
    let first = same_head i.text _ text' rest' i.parts head' a.0 t (sym (behind_first i interim (text ++ rest)) ∙ same) in
    absurd (low_is_not_high i.parts head' first.0 a.1 high')
one_final (i ∷ interim) (o ∷ others) text rest text' rest' head head' a b s t high high' same =
    let first = same_head i.text _ o.text _ i.parts o.parts a.0 b.0 (sym (behind_first i interim (text ++ rest)) ∙ same ∙ behind_first o others (text' ++ rest')) in
    one_final interim others text rest text' rest' head head' a.2 b.2 s t high high' first.1

-- a head at the front of these bytes and those after them
told_moves : (after left : List ℕ) → Moves (Some (after ++ left)) (Some left) [] after []
told_moves after left = record { taken = after; consumed = refl; parts = refl }

not_bad : (after left text more : List ℕ) (head : ResponseParts) → IsNoHead after → SpellsResponse text head → after ++ left ≡ text ++ more → ⊥
not_bad after left text more head bad spells same =
    finds SpellsResponse HasNoResponseHead MayBecomeResponse IsHopelessResponse response_grammar (Some (after ++ left)) (Some left) [] after (read.BadHead (length after))
    (told_moves after left, record { count = refl; none = bad.0; cause = bad.1 }) text more head spells (after ++ left, refl, same)

not_cut : (after text more : List ℕ) (head : ResponseParts) → IsCutHead after → SpellsResponse text head → after ≡ text ++ more → ⊥
not_cut after text more head (inl none) spells same =
    omega (arith, response_grammar.some text head spells, ap length none, ap length same, length-append text more)
not_cut after text more head (inr begun) spells same = response_grammar.none text more after head spells same begun.0

-- where no head can come, none does
no_bad_start : (interim others : List SpelledHead) (rest left text more : List ℕ) (head : ResponseParts) → AreInterim interim → AreInterim others
    → IsNoHead rest → SpellsResponse text head → FINAL_MIN ≤ head.status → heads_text interim ++ (rest ++ left) ≡ heads_text others ++ (text ++ more) → ⊥
no_bad_start [] [] rest left text more head a b bad s high same = not_bad rest left text more head bad s same
no_bad_start [] (o ∷ others) rest left text more head a b bad s high same = not_bad rest left o.text _ o.parts bad b.0 (same ∙ behind_first o others (text ++ more))
no_bad_start (i ∷ interim) [] rest left text more head a b bad s high same =
    let first = same_head i.text _ text more i.parts head a.0 s (sym (behind_first i interim (rest ++ left)) ∙ same) in
    low_is_not_high i.parts head first.0 a.1 high
no_bad_start (i ∷ interim) (o ∷ others) rest left text more head a b bad s high same =
    let first = same_head i.text _ o.text _ i.parts o.parts a.0 b.0 (sym (behind_first i interim (rest ++ left)) ∙ same ∙ behind_first o others (text ++ more)) in
    no_bad_start interim others rest left text more head a.2 b.2 bad s high first.1

-- nor are there more interim answers than those
not_more : (interim others : List SpelledHead) (rest text more : List ℕ) (head : ResponseParts) → AreInterim interim → AreInterim others → SpellsResponse text head → FINAL_MIN ≤ head.status
    → length others < length interim → heads_text interim ++ rest ≡ heads_text others ++ (text ++ more) → ⊥
not_more [] others rest text more head a b s high few same = omega (arith, few)
not_more (i ∷ interim) [] rest text more head a b s high few same =
    let first = same_head i.text _ text more i.parts head a.0 s (sym (behind_first i interim rest) ∙ same) in
    low_is_not_high i.parts head first.0 a.1 high
not_more (i ∷ interim) (o ∷ others) rest text more head a b s high few same =
    let first = same_head i.text _ o.text _ i.parts o.parts a.0 b.0 (sym (behind_first i interim rest) ∙ same ∙ behind_first o others (text ++ more)) in
    not_more interim others rest text more head a.2 b.2 s high (omega (arith, few)) first.1

no_cut_start : (interim others : List SpelledHead) (rest text more : List ℕ) (head : ResponseParts) → AreInterim interim → AreInterim others
    → IsCutHead rest → SpellsResponse text head → FINAL_MIN ≤ head.status → heads_text interim ++ rest ≡ heads_text others ++ (text ++ more) → ⊥
no_cut_start [] [] rest text more head a b cut s high same = not_cut rest text more head cut s same
no_cut_start [] (o ∷ others) rest text more head a b cut s high same = not_cut rest o.text _ o.parts cut b.0 (same ∙ behind_first o others (text ++ more))
no_cut_start (i ∷ interim) [] rest text more head a b cut s high same =
    let first = same_head i.text _ text more i.parts head a.0 s (sym (behind_first i interim rest) ∙ same) in
    low_is_not_high i.parts head first.0 a.1 high
no_cut_start (i ∷ interim) (o ∷ others) rest text more head a b cut s high same =
    let first = same_head i.text _ o.text _ i.parts o.parts a.0 b.0 (sym (behind_first i interim rest) ∙ same ∙ behind_first o others (text ++ more)) in
    no_cut_start interim others rest text more head a.2 b.2 cut s high first.1

final_text : (front more : List ℕ) (head : ResponseParts) (f : IsFinalHead front head) → front ++ more ≡ heads_text f.interim ++ (f.text ++ more)
final_text front more head f = ap (λ x. x ++ more) f.is ∙ append_assoc (heads_text f.interim) f.text more

-- two readings of the bytes up to the final head
pub same_final : (front front' rest rest' : List ℕ) (head head' : ResponseParts) → IsFinalHead front head → IsFinalHead front' head' → front ++ rest ≡ front' ++ rest' → (head' ≡ head) × (rest ≡ rest')
same_final front front' rest rest' head head' f f' same =
    one_final f.interim f'.interim f.text rest f'.text rest' head head' f.are_interim f'.are_interim f.spells f'.spells f.final f'.final
    (sym (final_text front rest head f) ∙ same ∙ final_text front' rest' head' f')

pub not_bad_start : (bytes left front rest : List ℕ) (head : ResponseParts) → IsBadStart bytes → IsFinalHead front head → bytes ++ left ≡ front ++ rest → ⊥
not_bad_start bytes left front rest head (interim, after, begins, inl (few, bad)) f same =
    no_bad_start interim f.interim after left f.text rest head begins.are_interim f.are_interim bad f.spells f.final
    (sym (append_assoc (heads_text interim) after left) ∙ ap (λ x. x ++ left) (sym begins.is) ∙ same ∙ final_text front rest head f)
not_bad_start bytes left front rest head (interim, after, begins, inr many) f same =
    not_more interim f.interim (after ++ left) f.text rest head begins.are_interim f.are_interim f.spells f.final (omega (arith, many, f.few))
    (sym (append_assoc (heads_text interim) after left) ∙ ap (λ x. x ++ left) (sym begins.is) ∙ same ∙ final_text front rest head f)

pub not_cut_start : (bytes front rest : List ℕ) (head : ResponseParts) → IsCutStart bytes → IsFinalHead front head → bytes ≡ front ++ rest → ⊥
not_cut_start bytes front rest head (interim, after, begins, few, cut) f same =
    no_cut_start interim f.interim after f.text rest head begins.are_interim f.are_interim cut f.spells f.final
    (sym begins.is ∙ same ∙ final_text front rest head f)
