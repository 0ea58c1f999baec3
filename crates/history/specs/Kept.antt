-- Which fetched content is kept, and which leaves.
use Rattle.std.specs.Prelude.{ℕ, Bool, false, not, nat_lt, nat_le, ◌&&◌, ◌==◌, List, [], ◌∷◌, ◌++◌, None, Some, length, filter, find, sum_by, if◌then◌else◌}
use Rattle.std.specs.List.{list_any}
use Rattle.std.specs.Option.{option_and_then, option_map_or}
use Rattle.std.specs.declared.option.Option.{Option}
use Rattle.cdni_base.specs.Key.{KeyParts, same_key}
use Rattle.rows.specs.Row.{moved}
use Rattle.trigger_command.specs.Selection.{hits}
use Rattle.upstream_gate.specs.Got.{GotParts}
use Rattle.upstream_gate.specs.declared.outcome.Outcome.{Outcome}
use Rattle.upstream_gate.specs.declared.outcome.Outcome.TheVariants as outcome
use Rattle.history.specs.World.{Kept, Start}
use Rattle.history.specs.declared.begun.Fetching.{Fetching}

-- ---- a list of kept objects

-- it is kept under the key
abbrev pub is_of : KeyParts → Kept → Bool
is_of key kept = same_key key kept.key

-- what is kept under the key
abbrev pub kept_of : KeyParts → List Kept → Option Kept
kept_of key objects = find (is_of key) objects

-- the others
abbrev pub others : KeyParts → List Kept → List Kept
others key objects = filter (λ kept. not (is_of key kept)) objects

-- it was used: it goes to the end
abbrev pub used : KeyParts → List Kept → List Kept
used key objects = moved (is_of key) objects

abbrev pub size_of : Kept → ℕ
size_of kept = length kept.body

-- the lengths of these objects together
abbrev pub total : List Kept → ℕ
total objects = sum_by size_of objects

-- the first objects leave until the lengths together are at most this
abbrev pub evicted : ℕ → List Kept → List Kept
evicted most [] = []
evicted most (kept ∷ objects) = if nat_le (total (kept ∷ objects)) most then kept ∷ objects else evicted most objects

-- it takes the place of its key's object and goes to the end, and the first leave
abbrev pub put : ℕ → List Kept → Kept → List Kept
put limit objects kept = evicted limit (others kept.key objects ++ kept ∷ [])

-- ---- what a fetch brings

-- a start after this position hits the key or the ccid
abbrev pub is_hit_since : List Start → ℕ → KeyParts → Option (List ℕ) → Bool
is_hit_since starts at key ccid = list_any (λ start. nat_lt at start.at && hits start.selection key ccid) starts

-- what is kept comes from a later fetch than this one
abbrev pub is_newer : ℕ → Option Kept → Bool
is_newer fetch None = false
is_newer fetch (Some kept) = nat_lt fetch kept.fetch

-- content with status 200 (RFC 9110, section 15.3.1)
abbrev pub full_content : Outcome → Option GotParts
full_content (outcome.Got got) = if got.status == 200 then Some got else None
full_content _ = None

-- the content that this fetch brought
abbrev pub brought : ℕ → Fetching → GotParts → Kept
brought fetch what got = record {
  fetch = fetch;
  key = what.key;
  ccid = what.ccid;
  kind = got.kind;
  body = got.body;
}

-- it has at most as many bytes as are kept at all, no kept object of its key has a greater fetch, and no start since its
-- fetch began hits it
abbrev pub is_kept : ℕ → Bool → List Kept → ℕ → Fetching → GotParts → Bool
is_kept limit hit objects fetch what got =
    nat_le (length got.body) limit && not (is_newer fetch (kept_of what.key objects)) && not hit

abbrev pub kept_content : ℕ → Bool → List Kept → ℕ → Fetching → GotParts → Option Kept
kept_content limit hit objects fetch what got =
    if is_kept limit hit objects fetch what got then Some (brought fetch what got) else None

-- what is kept of an open fetch that ended so, where a start has hit it since it began, or none has
abbrev pub gained : ℕ → Bool → List Kept → ℕ → Fetching → Outcome → Option Kept
gained limit hit objects fetch what ended =
    option_and_then (kept_content limit hit objects fetch what) (full_content ended)

-- the objects with what was gained
abbrev pub with_gained : ℕ → List Kept → Option Kept → List Kept
with_gained limit objects None = objects
with_gained limit objects (Some kept) = put limit objects kept

-- those that a selection does not hit
abbrev pub unhit : Option Start → List Kept → List Kept
unhit None objects = objects
unhit (Some start) objects = filter (λ kept. not (hits start.selection kept.key kept.ccid)) objects
