-- The tests of what a selection hits decide whether it hits.
use Rattle.std.proofs.Common.{◌≡◌, Bool, true, false, List, [], ◌∷◌, ap, refl}
use Rattle.std.specs.Prelude.{Option, None, Some, ℕ}
use Rattle.std.specs.Bool.{Decides, one_answer}
use Rattle.std.specs.List.{Any, list_any}
use Rattle.std.specs.Cmp.Lexicographic.{bytes_decides}
use Rattle.std.proofs.lemmas.Bool.Decides.{Decides-or}
use Rattle.std.proofs.lemmas.List.Folds.{Any-from_list_any, list_any-from_Any}
use Rattle.cdni_base.specs.Key.{KeyParts, key_of, key_text}
use Rattle.cdni_base.specs.KeyEqualityLemmas.{key_decides}
use Rattle.pattern_match.specs.Units.{units}
use Rattle.pattern_match.specs.Matching.{Compiled, Matches, is_match}
use Rattle.pattern_match.proofs.MatchLemmas.{TokensMatch_iff}
use Rattle.trigger_command.specs.declared.selection.UrlItem.{UrlItem}
use Rattle.trigger_command.specs.declared.selection.PatternItem.{PatternItem}
use Rattle.trigger_command.specs.declared.selection.Selection.{Selection}
use Rattle.trigger_command.specs.Selection.{url_hits, UrlHits, pattern_hits, PatternHits, is_ccid, hits, Hits, hits_metadata, HitsMetadata}

-- a test that decides a fact of each element decides whether it holds of some element
any_decides : {X : Type 0} (p : X → Bool) (P : X → Type 0) → ((x : X) → Decides (p x) (P x)) → (xs : List X) → Decides (list_any p xs) (Any P xs)
any_decides p P each xs = (
  λ e. let found = Any-from_list_any p xs e in (found.0, found.1, found.2, found.3, (each found.1).0 found.4),
  λ found. list_any-from_Any p xs (found.0, found.1, found.2, found.3, (each found.1).1 found.4),
)

match_decides : (pattern : Compiled) (text : List ℕ) → Decides (is_match pattern text) (Matches pattern text)
match_decides pattern text = TokensMatch_iff pattern.case_sensitive pattern.tokens (units text)

url_decides : (key : KeyParts) (item : UrlItem) → Decides (url_hits key item) (UrlHits key item)
url_decides key item = key_decides (key_of item.target key.ignored) key

pattern_decides : (key : KeyParts) (item : PatternItem) → Decides (pattern_hits key item) (PatternHits key item)
pattern_decides key item =
    Decides-or _ _ (match_decides item.pattern (key_text false item.query key)) (match_decides item.pattern (key_text true item.query key))

ccid_decides : (ccid : Option (List ℕ)) (own : List ℕ) → Decides (is_ccid ccid own) (ccid ≡ Some own)
ccid_decides None own = (λ e. cc, λ e. cc)
ccid_decides (Some ccid) own =
    let same = bytes_decides ccid own in (λ e. ap Some (same.0 e), λ e. same.1 cc)

pub hits_decides : (selection : Selection) (key : KeyParts) (ccid : Option (List ℕ)) → Decides (hits selection key ccid) (Hits selection key ccid)
unfolding hits
hits_decides selection key ccid =
    Decides-or _ _ (Decides-or _ _ (any_decides _ _ (url_decides key) selection.content_urls) (any_decides _ _ (pattern_decides key) selection.content_patterns)) (any_decides _ _ (ccid_decides ccid) selection.ccids)

pub metadata_decides : (selection : Selection) (key : KeyParts) → Decides (hits_metadata selection key) (HitsMetadata selection key)
unfolding hits_metadata
metadata_decides selection key =
    Decides-or _ _ (any_decides _ _ (url_decides key) selection.metadata_urls) (any_decides _ _ (pattern_decides key) selection.metadata_patterns)

-- what is true exactly where the key is that of the target is the test
pub url_hits_is : (key : KeyParts) (item : UrlItem) (answer : Bool) → Decides answer (key_of item.target key.ignored ≡ key) → answer ≡ url_hits key item
url_hits_is key item answer is = one_answer answer _ is (url_decides key item)

-- content of no collection is of none of these
pub no_ccid : (ccids : List (List ℕ)) → list_any (is_ccid None) ccids ≡ false
no_ccid [] = refl
no_ccid (own ∷ ccids) = no_ccid ccids
