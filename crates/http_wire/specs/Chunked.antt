-- Chunked bodies (RFC 9112, section 7.1).
use Rattle.std.specs.Prelude.{◌≡◌, ℕ, ◌+◌, ◌<◌, ◌≤◌, List, [], ◌∷◌, ◌++◌, length, ◌⊎◌, All}
use Rattle.std.specs.List.{flat_map}
use Rattle.std.specs.declared.option.Option.{Option}
use Rattle.std.specs.Io.KnownBytes.{IsAtEnd}
use Rattle.httparse.specs.Ascii.{crlf_bytes}
use Rattle.httparse.specs.Grammar.{ChunkLine, IsChunkLine, chunk_size, print_chunk_line, ReadsChunkLine, HasNoChunkLine, NeverHasChunkLine, MayBecomeChunkLine, Field, IsField, LineEnd, print_section, ReadsSection, MayBecomeSection}
use Rattle.edge_base.specs.Causes.{Rose}
use Rattle.http_wire.specs.Moves.{Moves, IsToCome}
use Rattle.http_wire.specs.Reading.{IsHopeless}
use Rattle.http_wire.specs.Body.{IsBodyOrFault, IsTooLargeOrFault, capped}
use Rattle.http_wire.specs.declared.body.BodyRead.{BodyRead}
use Rattle.http_wire.specs.declared.body.BodyRead.TheVariants as body
use Rattle.http_wire.specs.declared.chunked.ChunkSize.{ChunkSize}
use Rattle.http_wire.specs.declared.chunked.ChunkEnd.{ChunkEnd}
use Rattle.http_wire.specs.declared.chunked.Trailers.{Trailers}
use Rattle.http_wire.specs.declared.chunked.ChunkRead.{ChunkRead}
use Rattle.http_wire.specs.declared.chunked.ChunkRead.TheVariants as chunk
use Rattle.http_wire.specs.declared.limits.TheConstants.{HEAD_MAX}

-- the bytes are a chunk line of at most 16,384 bytes, of which the size and the length are these
pub record SpellsLine (bytes : List ℕ) (size : ChunkSize) : Type 0 where
  pub line : ChunkLine
  pub reads : ReadsChunkLine bytes line []
  pub short : length bytes ≤ HEAD_MAX
  pub size_is : size.size ≡ chunk_size line
  pub taken_is : size.taken ≡ length bytes

-- the bytes are the end of a chunk
abbrev pub SpellsEnd : List ℕ → ChunkEnd → Type 0
SpellsEnd bytes end = bytes ≡ crlf_bytes

-- the bytes do not begin with the end of a chunk; they are a beginning of it; no continuation begins with it
abbrev pub HasNoEnd : List ℕ → Type 0
HasNoEnd bytes = (rest : List ℕ) → bytes ≡ crlf_bytes ++ rest → ⊥

abbrev pub MayBecomeEnd : List ℕ → Type 0
MayBecomeEnd bytes = (more : List ℕ) × (bytes ++ more ≡ crlf_bytes)

abbrev pub NeverHasEnd : List ℕ → Type 0
NeverHasEnd bytes = (more : List ℕ) → HasNoEnd (bytes ++ more)

-- the bytes are a trailer section of at most 16,384 bytes (section 7.1.2)
pub record SpellsTrailers (bytes : List ℕ) (trailers : Trailers) : Type 0 where
  pub fields : List Field
  pub last : LineEnd
  pub reads : ReadsSection bytes fields last []
  pub short : length bytes ≤ HEAD_MAX

-- the bytes do not begin with such a section; no continuation does
abbrev pub HasNoTrailers : List ℕ → Type 0
HasNoTrailers bytes = (fields : List Field) (last : LineEnd) (rest : List ℕ) → ReadsSection bytes fields last rest
    → length (print_section fields last) ≤ HEAD_MAX → ⊥

abbrev pub NeverHasTrailers : List ℕ → Type 0
NeverHasTrailers bytes = (more : List ℕ) → HasNoTrailers (bytes ++ more)

-- a chunk: its line and its data
pub record Chunk : Type 0 where
  pub line : ChunkLine
  pub content : List ℕ

-- the line, the data and the end of a chunk
abbrev pub print_chunk : Chunk → List ℕ
print_chunk chunk = print_chunk_line chunk.line ++ chunk.content ++ crlf_bytes

-- the line is one by the grammar, of at most 16,384 bytes
abbrev pub IsLine : ChunkLine → Type 0
IsLine line = IsChunkLine line × (length (print_chunk_line line) ≤ HEAD_MAX)

-- the line tells the length of the data, of which there are some
pub record IsChunk (chunk : Chunk) : Type 0 where
  pub line : IsLine chunk.line
  pub size : chunk_size chunk.line ≡ length chunk.content
  pub some : 0 < length chunk.content

abbrev pub AreChunks : List Chunk → Type 0
AreChunks [] = Unit {0}
AreChunks (chunk ∷ chunks) = IsChunk chunk × AreChunks chunks

abbrev pub chunks_text : List Chunk → List ℕ
chunks_text chunks = flat_map print_chunk chunks

abbrev pub chunks_content : List Chunk → List ℕ
chunks_content chunks = flat_map (λ chunk. chunk.content) chunks

-- the line of the last chunk
abbrev pub IsLastLine : ChunkLine → Type 0
IsLastLine line = IsLine line × (chunk_size line ≡ 0)

-- the bytes are a chunked body with this content: chunks, the last chunk and trailers
pub record IsChunked (bytes content : List ℕ) : Type 0 where
  pub chunks : List Chunk
  pub line : ChunkLine
  pub fields : List Field
  pub last : LineEnd
  pub are_chunks : AreChunks chunks
  pub is_last : IsLastLine line
  pub are_fields : All IsField fields
  pub short : length (print_section fields last) ≤ HEAD_MAX
  pub text : bytes ≡ chunks_text chunks ++ (print_chunk_line line ++ print_section fields last)
  pub content_is : content ≡ chunks_content chunks

-- no line, no end or no trailers can come
abbrev pub IsBadLine : List ℕ → Type 0
IsBadLine bytes = HasNoChunkLine bytes × IsHopeless SpellsLine HasNoChunkLine MayBecomeChunkLine NeverHasChunkLine bytes

abbrev pub IsBadEnd : List ℕ → Type 0
IsBadEnd bytes = HasNoEnd bytes × IsHopeless SpellsEnd HasNoEnd MayBecomeEnd NeverHasEnd bytes

abbrev pub AreBadTrailers : List ℕ → Type 0
AreBadTrailers bytes = HasNoTrailers bytes
    × IsHopeless SpellsTrailers HasNoTrailers MayBecomeSection NeverHasTrailers bytes

-- there is nothing of it, or a beginning
abbrev pub IsCutLine : List ℕ → Type 0
IsCutLine bytes = (bytes ≡ []) ⊎ (HasNoChunkLine bytes × MayBecomeChunkLine bytes)

abbrev pub IsCutEnd : List ℕ → Type 0
IsCutEnd bytes = (bytes ≡ []) ⊎ (HasNoEnd bytes × MayBecomeEnd bytes)

abbrev pub AreCutTrailers : List ℕ → Type 0
AreCutTrailers bytes = (bytes ≡ []) ⊎ (HasNoTrailers bytes × MayBecomeSection bytes)

-- a chunk line, which tells some data, and so much of them
pub record IsLineAnd (bytes : List ℕ) (line : ChunkLine) (content : List ℕ) : Type 0 where
  pub is_line : IsLine line
  pub some : 0 < chunk_size line
  pub text : bytes ≡ print_chunk_line line ++ content

-- what follows the bytes is no chunk line, or no end of the chunk whose line and data they are
abbrev pub IsBadChunk : List ℕ → List ℕ → Type 0
IsBadChunk bytes after = ((bytes ≡ []) × IsBadLine after)
    ⊎ ((line : ChunkLine) × (content : List ℕ) × IsLineAnd bytes line content × (length content ≡ chunk_size line)
    × IsBadEnd after)

-- the bytes and what follows them end within a chunk
abbrev pub IsCutChunk : List ℕ → List ℕ → Type 0
IsCutChunk bytes after = ((bytes ≡ []) × IsCutLine after)
    ⊎ ((line : ChunkLine) × (content : List ℕ) × IsLineAnd bytes line content ×
    (((length content < chunk_size line) × (after ≡ [])) ⊎ ((length content ≡ chunk_size line) × IsCutEnd after)))

-- one chunk, whose content was put behind the text; or the line of the last; or why there is none
abbrev pub ReadsChunk : ℕ → Option (List ℕ) → Option (List ℕ) → List ℕ → List ℕ → List ℕ → List ℕ → ChunkRead → Type 0
ReadsChunk limit old new before after text longer (chunk.Some taken) =
    (c : Chunk) × IsChunk c × Moves old new before after (print_chunk c) × (longer ≡ text ++ c.content)
    × (length longer ≤ limit) × (taken ≡ capped (length (print_chunk c)))
ReadsChunk limit old new before after text longer (chunk.Last taken) =
    (line : ChunkLine) × IsLastLine line × Moves old new before after (print_chunk_line line) × (longer ≡ text)
    × (taken ≡ length (print_chunk_line line))
ReadsChunk limit old new before after text longer chunk.TooLarge =
    (line : ChunkLine) × IsLine line × Moves old new before after (print_chunk_line line)
    × (limit < length text + chunk_size line)
ReadsChunk limit old new before after text longer (chunk.BadLength taken) =
    (bytes : List ℕ) × Moves old new before after bytes × IsBadChunk bytes after
    × (taken ≡ capped (length bytes + length after))
ReadsChunk limit old new before after text longer (chunk.CutShort taken) =
    (bytes : List ℕ) × Moves old new before after bytes × IsCutChunk bytes after × IsAtEnd new
    × (taken ≡ capped (length bytes + length after))
ReadsChunk limit old new before after text longer chunk.ReadFault = (bytes : List ℕ) × Moves old new before after bytes
ReadsChunk limit old new before after text longer chunk.Memory = (bytes : List ℕ) × Moves old new before after bytes

-- the bytes are chunks whose content is within the limit, and then these
pub record Follows (limit : ℕ) (bytes rest content : List ℕ) : Type 0 where
  pub chunks : List Chunk
  pub are_chunks : AreChunks chunks
  pub text : bytes ≡ chunks_text chunks ++ rest
  pub content_is : content ≡ chunks_content chunks
  pub within : length content ≤ limit

-- behind whole chunks a chunk, or the trailers, can't come
abbrev pub IsBadBody : ℕ → List ℕ → List ℕ → Type 0
IsBadBody limit bytes after = (rest : List ℕ) × (content : List ℕ) × Follows limit bytes rest content
    × (IsBadChunk rest after ⊎ ((line : ChunkLine) × IsLastLine line × (rest ≡ print_chunk_line line)
    × AreBadTrailers after))

-- behind whole chunks the bytes end within a chunk or the trailers
abbrev pub IsCutBody : ℕ → List ℕ → List ℕ → Type 0
IsCutBody limit bytes after = (rest : List ℕ) × (content : List ℕ) × Follows limit bytes rest content
    × (IsCutChunk rest after ⊎ ((line : ChunkLine) × IsLastLine line × (rest ≡ print_chunk_line line)
    × AreCutTrailers after))

-- behind whole chunks the line of another one announces more than the limit
abbrev pub IsTooLarge : ℕ → List ℕ → Type 0
IsTooLarge limit bytes = (line : ChunkLine) × (content : List ℕ) × IsLine line
    × Follows limit bytes (print_chunk_line line) content × (limit < length content + chunk_size line)

-- The content of a chunked body within the limit, which was taken; or why there is none, with all bytes that came
-- either taken or kept.
abbrev pub ReadsChunked : ℕ → Option (List ℕ) → Option (List ℕ) → List ℕ → List ℕ → BodyRead → Type 0
ReadsChunked limit old new before after (body.Body content) =
    (bytes : List ℕ) × Moves old new before after bytes × IsChunked bytes content × (length content ≤ limit)
ReadsChunked limit old new before after (body.TooLarge len) =
    (bytes : List ℕ) × Moves old new before after bytes × IsTooLarge limit bytes × (len ≡ capped (limit + 1))
ReadsChunked limit old new before after (body.BadLength taken) =
    (bytes : List ℕ) × Moves old new before after bytes × IsBadBody limit bytes after
    × (taken ≡ capped (length bytes + length after))
ReadsChunked limit old new before after (body.CutShort taken) =
    (bytes : List ℕ) × Moves old new before after bytes × IsCutBody limit bytes after × IsAtEnd new
    × (taken ≡ capped (length bytes + length after))
ReadsChunked limit old new before after body.ReadFault = (bytes : List ℕ) × Moves old new before after bytes
ReadsChunked limit old new before after body.Memory = (bytes : List ℕ) × Moves old new before after bytes
ReadsChunked limit old new before after body.Coded = ⊥

-- the end of a chunk of which so many bytes were taken before
abbrev pub ReadsEnd : ℕ → Option (List ℕ) → Option (List ℕ) → List ℕ → List ℕ → ChunkRead → Type 0
ReadsEnd so_far old new before after (chunk.Some taken) = Moves old new before after crlf_bytes
    × (taken ≡ capped (so_far + 2))
ReadsEnd so_far old new before after (chunk.CutShort taken) =
    Moves old new before after [] × IsCutEnd after × IsAtEnd new × (taken ≡ capped (so_far + length after))
ReadsEnd so_far old new before after (chunk.BadLength taken) = Moves old new before after [] × IsBadEnd after
    × (taken ≡ capped (so_far + length after))
ReadsEnd so_far old new before after chunk.ReadFault = Moves old new before after []
ReadsEnd so_far old new before after chunk.Memory = Moves old new before after []
ReadsEnd so_far old new before after (chunk.Last taken) = ⊥
ReadsEnd so_far old new before after chunk.TooLarge = ⊥

-- the data and the end of a chunk behind a line of this size and length
abbrev pub ReadsContent : ChunkSize → Option (List ℕ) → Option (List ℕ) → List ℕ → List ℕ → List ℕ → List ℕ
    → ChunkRead → Type 0
ReadsContent line old new before after text longer (chunk.Some taken) =
    (content : List ℕ) × Moves old new before after (content ++ crlf_bytes) × (longer ≡ text ++ content)
    × (length content ≡ line.size) × (taken ≡ capped (line.taken + line.size + 2))
ReadsContent line old new before after text longer (chunk.CutShort taken) =
    (content : List ℕ) × Moves old new before after content × IsAtEnd new
    × (taken ≡ capped (line.taken + length content + length after))
    × (((length content < line.size) × (after ≡ [])) ⊎ ((length content ≡ line.size) × IsCutEnd after))
ReadsContent line old new before after text longer (chunk.BadLength taken) =
    (content : List ℕ) × Moves old new before after content × (length content ≡ line.size) × IsBadEnd after
    × (taken ≡ capped (line.taken + length content + length after))
ReadsContent line old new before after text longer chunk.ReadFault = (content : List ℕ)
    × Moves old new before after content
ReadsContent line old new before after text longer chunk.Memory = (content : List ℕ)
    × Moves old new before after content
ReadsContent line old new before after text longer (chunk.Last taken) = ⊥
ReadsContent line old new before after text longer chunk.TooLarge = ⊥

-- the trailers behind so many bytes, with this content before them
abbrev pub ReadsTrailers : ℕ → List ℕ → Option (List ℕ) → Option (List ℕ) → List ℕ → List ℕ → BodyRead → Type 0
ReadsTrailers so_far text old new before after (body.Body content) =
    (bytes : List ℕ) × (trailers : Trailers) × Moves old new before after bytes × SpellsTrailers bytes trailers
    × (content ≡ text)
ReadsTrailers so_far text old new before after (body.CutShort taken) =
    Moves old new before after [] × AreCutTrailers after × IsAtEnd new × (taken ≡ capped (so_far + length after))
ReadsTrailers so_far text old new before after (body.BadLength taken) = Moves old new before after []
    × AreBadTrailers after × (taken ≡ capped (so_far + length after))
ReadsTrailers so_far text old new before after body.ReadFault = Moves old new before after []
ReadsTrailers so_far text old new before after body.Memory = Moves old new before after []
ReadsTrailers so_far text old new before after (body.TooLarge len) = ⊥
ReadsTrailers so_far text old new before after body.Coded = ⊥

-- the count of faults did not fall; it rose where the source failed, and is the same where it did not
pub record HasChunkCause (before now : ℕ) (result : ChunkRead) : Type 0 where
  pub later : before ≤ now
  pub failed : result ≡ chunk.ReadFault → Rose before now
  pub answered : (result ≡ chunk.ReadFault → ⊥) → now ≡ before

-- where the bytes to come begin with a chunked body, its content is the answer, or that this is above the limit
abbrev pub FindsChunked : ℕ → Option (List ℕ) → List ℕ → BodyRead → Type 0
FindsChunked limit old before result = (bytes : List ℕ) (content : List ℕ) (rest : List ℕ) → IsChunked bytes content
    → IsToCome old before (bytes ++ rest)
    → (length content ≤ limit → IsBodyOrFault content result) × (limit < length content → IsTooLargeOrFault result)
