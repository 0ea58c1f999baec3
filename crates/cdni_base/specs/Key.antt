-- Cache keys: what of a target tells one kept object from another.
use Rattle.std.specs.Prelude.{◌≡◌, ℕ, Bool, true, false, not, List, [], ◌∷◌, ◌++◌, filter, None, Some, bytes_eq, nat_eq, ◌==◌, ◌&&◌, IsTrue}
use Rattle.std.specs.Cmp.Lexicographic.{pointwise}
use Rattle.std.specs.Hash as fed
use Rattle.std.specs.Hash.{HashWrites}
use Rattle.std.specs.Option.{option_eq}
use Rattle.std.specs.List.{slice_split, before_first, join_with_byte, list_any, list_all}
use Rattle.std.specs.Str.{str_to_ascii_lowercase}
use Rattle.std.specs.declared.option.Option.{Option}
use Rattle.cdni_base.specs.declared.key.Ignored.{Ignored}
use Rattle.cdni_base.specs.declared.key.Ignored.TheVariants as ignored
use Rattle.targets.specs.declared.target.Target.{Target}
use Rattle.targets.specs.Target.{url_of}
use Rattle.targets.specs.declared.byte.TheConstants.{AMPERSAND, EQUALS}

-- a key, without its URL texts, which the others give
pub record KeyParts : Type 0 where
  pub host : List ℕ
  pub port : ℕ
  pub path : List ℕ
  pub query : Option (List ℕ)
  pub ignored : Ignored

-- the pieces of a query, which stand between its `&`; where there is no query there are none
abbrev pub pieces_of : Option (List ℕ) → List (List ℕ)
pieces_of None = []
pieces_of (Some query) = slice_split (λ byte. byte == AMPERSAND) query

-- the name of a piece, in lower case: what stands before its first `=`, or the whole where there is none
abbrev pub name_of : List ℕ → List ℕ
name_of piece = str_to_ascii_lowercase (before_first (λ byte. byte == EQUALS) piece)

-- the piece is kept, since its name is none of these
abbrev pub is_kept : List (List ℕ) → List ℕ → Bool
is_kept names piece = not (list_any (λ name. bytes_eq name (name_of piece)) names)

-- these pieces in order, joined by `&`; absent where there are none
abbrev pub joined : List (List ℕ) → Option (List ℕ)
joined [] = None
joined (piece ∷ pieces) = Some (join_with_byte AMPERSAND (piece ∷ pieces))

-- what is kept of the query of a target
abbrev pub kept_query : Ignored → Option (List ℕ) → Option (List ℕ)
kept_query ignored.None query = query
kept_query ignored.All query = None
kept_query (ignored.Names names) query = joined (filter (is_kept names) (pieces_of query))

-- the key of a target
abbrev pub key_of : Target → Ignored → KeyParts
key_of target ignored = record {
  host = target.host;
  port = target.port;
  path = target.path;
  query = kept_query ignored target.query;
  ignored = ignored;
}

-- the URL of a key, with its query or without it
abbrev pub key_text : Bool → Bool → KeyParts → List ℕ
key_text secure true key = url_of secure key.host key.port key.path key.query
key_text secure false key = url_of secure key.host key.port key.path None

-- the name of each of these pieces is one of the names
abbrev pub AreIgnored : List (List ℕ) → List (List ℕ) → Type 0
AreIgnored names pieces = IsTrue (list_all (λ piece. not (is_kept names piece)) pieces)

-- the targets are the same but for pieces with these names
abbrev pub IsSameBut : List (List ℕ) → Target → Target → Type 0
IsSameBut names target other = (target.host ≡ other.host) × (target.port ≡ other.port) × (target.path ≡ other.path)
    × (filter (is_kept names) (pieces_of target.query) ≡ filter (is_kept names) (pieces_of other.query))

-- the same is ignored
abbrev pub same_ignored : Ignored → Ignored → Bool
same_ignored ignored.None ignored.None = true
same_ignored ignored.All ignored.All = true
same_ignored (ignored.Names names) (ignored.Names others) = pointwise bytes_eq names others
same_ignored ignored other = false

-- all parts of the keys are the same
abbrev pub same_key : KeyParts → KeyParts → Bool
same_key key other = nat_eq key.port other.port
    && (bytes_eq key.path other.path && (bytes_eq key.host other.host && (option_eq bytes_eq key.query other.query
    && same_ignored key.ignored other.ignored)))

-- what a hasher is fed of what is ignored: the variant's number, and then the names
abbrev pub fed_ignored : Ignored → HashWrites
fed_ignored ignored.None = fed.u8 0
fed_ignored ignored.All = fed.u8 1
fed_ignored (ignored.Names names) = fed.u8 2 ++ fed.slice (fed.slice fed.u8) names

-- what a hasher is fed of a key: its URL, in one piece
abbrev pub fed_key : KeyParts → HashWrites
fed_key key = key_text false true key ∷ []
