-- What a selection hits (RFC 8007, sections 5.2.1 and 5.2.4).
use Rattle.std.specs.Prelude.{◌≡◌, ◌⊎◌, ℕ, ◌+◌, Bool, true, false, List, length, bytes_eq, ◌||◌, None, Some}
use Rattle.std.specs.List.{Any, list_any}
use Rattle.std.specs.declared.option.Option.{Option}
use Rattle.cdni_base.specs.Key.{KeyParts, key_of, key_text, same_key}
use Rattle.pattern_match.specs.Matching.{Matches, is_match}
use Rattle.trigger_command.specs.declared.selection.UrlItem.{UrlItem}
use Rattle.trigger_command.specs.declared.selection.PatternItem.{PatternItem}
use Rattle.trigger_command.specs.declared.selection.Selection.{Selection}

-- how many items its five lists have together
abbrev pub item_count : Selection → ℕ
item_count selection = length selection.metadata_urls + length selection.content_urls + length selection.ccids
    + length selection.metadata_patterns + length selection.content_patterns

-- the target of the URL, under what the key itself ignores, has this key
abbrev pub UrlHits : KeyParts → UrlItem → Type 0
UrlHits key item = key_of item.target key.ignored ≡ key

-- the pattern matches the URL of the key under either scheme, with its query where `match-query-string` is true and
-- without it otherwise
abbrev pub PatternHits : KeyParts → PatternItem → Type 0
PatternHits key item = Matches item.pattern (key_text false item.query key) ⊎ Matches item.pattern
    (key_text true item.query key)

-- the selection hits the content of this key, and of this collection where it is of one: by a URL, a pattern or a ccid
abbrev pub Hits : Selection → KeyParts → Option (List ℕ) → Type 0
Hits selection key ccid = (Any (UrlHits key) selection.content_urls ⊎ Any (PatternHits key) selection.content_patterns)
    ⊎ Any (λ own. ccid ≡ Some own) selection.ccids

-- the selection hits the metadata of this key: by a URL or a pattern
abbrev pub HitsMetadata : Selection → KeyParts → Type 0
HitsMetadata selection resource =
    Any (UrlHits resource) selection.metadata_urls ⊎ Any (PatternHits resource) selection.metadata_patterns

-- the same as tests that compute
abbrev pub url_hits : KeyParts → UrlItem → Bool
url_hits key item = same_key (key_of item.target key.ignored) key

abbrev pub pattern_hits : KeyParts → PatternItem → Bool
pattern_hits key item =
    is_match item.pattern (key_text false item.query key) || is_match item.pattern (key_text true item.query key)

abbrev pub is_ccid : Option (List ℕ) → List ℕ → Bool
is_ccid None own = false
is_ccid (Some ccid) own = bytes_eq ccid own

unfoldable pub hits : Selection → KeyParts → Option (List ℕ) → Bool
hits selection key ccid = (list_any (url_hits key) selection.content_urls
    || list_any (pattern_hits key) selection.content_patterns) || list_any (is_ccid ccid) selection.ccids

unfoldable pub hits_metadata : Selection → KeyParts → Bool
hits_metadata selection resource = list_any (url_hits resource) selection.metadata_urls
    || list_any (pattern_hits resource) selection.metadata_patterns
