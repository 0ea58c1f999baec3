-- Chunk lines, ends of chunks and trailers.
use Rattle.std.proofs.Common.{◌≡◌, ℕ, zero, suc, ◌+◌, ◌-◌, ◌*◌, ◌<◌, ◌≤◌, List, [], ◌∷◌, ◌++◌, length, get_or, refl, sym, ◌∙◌, ap, subst, arith, ◌⊎◌, inl, inr, Option, append_assoc, append-nil, length-append}
use Rattle.std.specs.List.{All, flat_map}
use Rattle.std.specs.Io.KnownBytes.{IsAtEnd}
use Rattle.std.proofs.lemmas.Grind.{flat_map-append}
use Rattle.httparse.specs.Ascii.{crlf_bytes}
use Rattle.httparse.specs.Grammar.{print_chunk_line, chunk_size, Field, IsField, LineEnd, crlf, lf, print_end, print_field, print_section, NeverHasSection}
use Rattle.httparse.specs.Spans.{SectionOverflows}
use Rattle.http_wire.specs.Moves.{Moves}
use Rattle.http_wire.specs.Body.{capped}
use Rattle.http_wire.specs.Chunked.{SpellsLine, HasNoEnd, MayBecomeEnd, HasNoTrailers, NeverHasTrailers, IsLine, IsChunk, AreChunks, Chunk, print_chunk, chunks_text, chunks_content, Follows, IsCutEnd, IsTooLarge, IsBadBody, IsCutBody, ReadsEnd, ReadsContent, ReadsChunk, ReadsTrailers, ReadsChunked}
use Rattle.http_wire.specs.declared.body.BodyRead.{BodyRead}
use Rattle.http_wire.specs.declared.body.BodyRead.TheVariants as body
use Rattle.http_wire.specs.declared.chunked.ChunkSize.{ChunkSize}
use Rattle.http_wire.specs.declared.chunked.ChunkRead.{ChunkRead}
use Rattle.http_wire.specs.declared.chunked.ChunkRead.TheVariants as chunk
use Rattle.http_wire.specs.declared.chunked.TheConstants.{TRAILERS_MAX}
use Rattle.http_wire.proofs.MoveLemmas.{moves_then}

pub end_empty : (bytes : List ℕ) → length bytes ≡ 0 → HasNoEnd bytes × MayBecomeEnd bytes
end_empty [] none = (λ rest is. cc, (crlf_bytes, refl))
end_empty (byte ∷ bytes) none = absurd (omega (arith, none))

pub end_one : (bytes : List ℕ) → length bytes ≡ 1 → get_or bytes 0 0 ≡ 13 → HasNoEnd bytes × MayBecomeEnd bytes
end_one [] one is = absurd (omega (arith, one))
end_one (byte ∷ []) one is = (λ rest same. omega (arith, ap length same), (10 ∷ [], ap (λ b. b ∷ 10 ∷ []) is))
end_one (byte ∷ other ∷ bytes) one is = absurd (omega (arith, one))

pub end_length : (end : LineEnd) → 1 ≤ length (print_end end)
end_length crlf = omega arith
end_length lf = omega arith

-- a field line has three bytes at least
field_length : (field : Field) → IsField field → 3 ≤ length (print_field field)
field_length field is = omega (arith, is.name.0, length-append (field.name ++ 58 ∷ field.raw) (print_end field.end), length-append field.name (58 ∷ field.raw), end_length field.end)

fields_length : (fields : List Field) → All IsField fields → 3 * length fields ≤ length (flat_map print_field fields)
fields_length [] are = omega arith
fields_length (field ∷ fields) are =
    omega (arith, field_length field (are zero field (omega arith)), fields_length fields (λ k d below. are (suc k) d (omega arith)), length-append (print_field field) (flat_map print_field fields))

pub no_trailers : (bytes : List ℕ) → SectionOverflows TRAILERS_MAX bytes → NeverHasTrailers bytes
no_trailers bytes over more fields last rest reads short =
    omega (arith, over more fields last rest reads, fields_length fields reads.0, length-append (flat_map print_field fields) (print_end last), end_length last, short)

pub none_yet : (bytes : List ℕ) → NeverHasTrailers bytes → HasNoTrailers bytes
none_yet bytes never fields last rest reads short = never [] fields last rest (reads.0, append-nil bytes ∙ reads.1) short

pub never_section : (bytes : List ℕ) → NeverHasSection bytes → NeverHasTrailers bytes
never_section bytes never more fields last rest reads short = never more fields last rest reads

-- nothing more was taken
pub moves_rest : (old now new : Option (List ℕ)) (before middle after bytes : List ℕ) → Moves old now before middle bytes → Moves now new middle after [] → Moves old new before after bytes
moves_rest old now new before middle after bytes m n = subst (Moves old new before after) (append-nil bytes) (moves_then old now new before middle after bytes [] m n)

-- data and the end of a chunk
pub content_end : (line : ChunkSize) (so_far : ℕ) (old now new : Option (List ℕ)) (before middle after text longer content : List ℕ) (result : ChunkRead)
    → Moves old now before middle content → longer ≡ text ++ content → length content ≡ line.size → so_far ≡ capped (line.taken + line.size)
    → ReadsEnd so_far now new middle after result → ReadsContent line old new before after text longer result
content_end line so_far old now new before middle after text longer content (chunk.Some taken) m grown size far end =
    (content, moves_then old now new before middle after content crlf_bytes m end.0, grown, size, omega (arith, far, end.1))
content_end line so_far old now new before middle after text longer content (chunk.CutShort taken) m grown size far end =
    (content, moves_rest old now new before middle after content m end.0, end.2, omega (arith, far, end.3, size), inr (size, end.1))
content_end line so_far old now new before middle after text longer content (chunk.BadLength taken) m grown size far end =
    (content, moves_rest old now new before middle after content m end.0, size, end.1, omega (arith, far, end.2, size))
content_end line so_far old now new before middle after text longer content chunk.ReadFault m grown size far end = (content, moves_rest old now new before middle after content m end)
content_end line so_far old now new before middle after text longer content chunk.Memory m grown size far end = (content, moves_rest old now new before middle after content m end)
content_end line so_far old now new before middle after text longer content (chunk.Last taken) m grown size far end = absurd end
content_end line so_far old now new before middle after text longer content chunk.TooLarge m grown size far end = absurd end

line_text : (bytes : List ℕ) (size : ChunkSize) (spells : SpellsLine bytes size) → bytes ≡ print_chunk_line spells.line
line_text bytes size spells = spells.reads.1 ∙ append-nil (print_chunk_line spells.line)

pub is_line : (bytes : List ℕ) (size : ChunkSize) (spells : SpellsLine bytes size) → IsLine spells.line
is_line bytes size spells = (spells.reads.0, omega (arith, spells.short, ap length (line_text bytes size spells)))

-- a line and what stands behind it
pub moves_line : (old now new : Option (List ℕ)) (before middle after bytes rest : List ℕ) (size : ChunkSize) (spells : SpellsLine bytes size)
    → Moves old now before middle bytes → Moves now new middle after rest → Moves old new before after (print_chunk_line spells.line ++ rest)
moves_line old now new before middle after bytes rest size spells m n =
    subst (λ (x : List ℕ). Moves old new before after (x ++ rest)) (line_text bytes size spells) (moves_then old now new before middle after bytes rest m n)

pub moves_one_line : (old new : Option (List ℕ)) (before after bytes : List ℕ) (size : ChunkSize) (spells : SpellsLine bytes size)
    → Moves old new before after bytes → Moves old new before after (print_chunk_line spells.line)
moves_one_line old new before after bytes size spells m = subst (Moves old new before after) (line_text bytes size spells) m

pub line_length : (bytes : List ℕ) (size : ChunkSize) (spells : SpellsLine bytes size) → size.taken ≡ length (print_chunk_line spells.line)
line_length bytes size spells = spells.taken_is ∙ ap length (line_text bytes size spells)

pub chunk_behind : (limit : ℕ) (old now new : Option (List ℕ)) (before middle after text longer bytes : List ℕ) (size : ChunkSize) (result : ChunkRead)
    → Moves old now before middle bytes → SpellsLine bytes size → 0 < size.size → size.size ≤ limit - length text → length text ≤ limit
    → ReadsContent size now new middle after text longer result → ReadsChunk limit old new before after text longer result
chunk_behind limit old now new before middle after text longer bytes size (chunk.Some taken) m spells some fits within c =
    let whole : Chunk = record { line = spells.line; content = c.0 } in
    let is : IsChunk whole = record { line = is_line bytes size spells; size = sym spells.size_is ∙ sym c.3; some = omega (arith, some, c.3) } in
    let took = moves_line old now new before middle after bytes (c.0 ++ crlf_bytes) size spells m c.1 in
    let text_is : print_chunk_line spells.line ++ (c.0 ++ crlf_bytes) ≡ print_chunk whole = sym (append_assoc (print_chunk_line spells.line) c.0 crlf_bytes) in
    let long = length-append (print_chunk_line spells.line ++ c.0) crlf_bytes in (
      whole,
      is,
      subst (Moves old new before after) text_is took,
      c.2,
      omega (arith, ap length c.2, length-append text c.0, c.3, fits, within),
      omega (arith, c.4, line_length bytes size spells, length-append (print_chunk_line spells.line) c.0, long, c.3),
    )
chunk_behind limit old now new before middle after text longer bytes size (chunk.CutShort taken) m spells some fits within c =
    let took = moves_line old now new before middle after bytes c.0 size spells m c.1 in (
      _,
      took,
      inr (
        spells.line,
        c.0,
        record { is_line = is_line bytes size spells; some = omega (arith, some, spells.size_is); text = refl },
        elim c.4 as (λ x. ((length c.0 < chunk_size spells.line) × (after ≡ [])) ⊎ ((length c.0 ≡ chunk_size spells.line) × IsCutEnd after)) [
          | inl few ↦ inl (omega (arith, few.0, spells.size_is), few.1)
          | inr all ↦ inr (all.0 ∙ spells.size_is, all.1)
        ],
      ),
      c.2,
      omega (arith, c.3, line_length bytes size spells, length-append (print_chunk_line spells.line) c.0),
    )
chunk_behind limit old now new before middle after text longer bytes size (chunk.BadLength taken) m spells some fits within c = (
  _,
  moves_line old now new before middle after bytes c.0 size spells m c.1,
  inr (spells.line, c.0, record { is_line = is_line bytes size spells; some = omega (arith, some, spells.size_is); text = refl }, c.2 ∙ spells.size_is, c.3),
  omega (arith, c.4, line_length bytes size spells, length-append (print_chunk_line spells.line) c.0),
)
chunk_behind limit old now new before middle after text longer bytes size chunk.ReadFault m spells some fits within c = (_, moves_then old now new before middle after bytes c.0 m c.1)
chunk_behind limit old now new before middle after text longer bytes size chunk.Memory m spells some fits within c = (_, moves_then old now new before middle after bytes c.0 m c.1)
chunk_behind limit old now new before middle after text longer bytes size (chunk.Last taken) m spells some fits within c = absurd c
chunk_behind limit old now new before middle after text longer bytes size chunk.TooLarge m spells some fits within c = absurd c

-- one chunk more
are_chunks-append : (chunks : List Chunk) (c : Chunk) → AreChunks chunks → IsChunk c → AreChunks (chunks ++ c ∷ [])
are_chunks-append [] c are is = (is, tt)
are_chunks-append (d ∷ chunks) c are is = (are.0, are_chunks-append chunks c are.1 is)

pub follows_chunk : (limit : ℕ) (bytes content longer : List ℕ) (c : Chunk) → Follows limit bytes [] content → IsChunk c → longer ≡ content ++ c.content → length longer ≤ limit
    → Follows limit (bytes ++ print_chunk c) [] longer
follows_chunk limit bytes content longer c f is grown within = record {
  chunks = f.chunks ++ c ∷ [];
  are_chunks = are_chunks-append f.chunks c f.are_chunks is;
  text = ap (λ x. x ++ print_chunk c) (f.text ∙ append-nil (chunks_text f.chunks)) ∙ ap (λ x. chunks_text f.chunks ++ x) (sym (append-nil (print_chunk c)))
      ∙ sym (flat_map-append print_chunk f.chunks (c ∷ [])) ∙ sym (append-nil (chunks_text (f.chunks ++ c ∷ [])));
  content_is = grown ∙ ap (λ x. x ++ c.content) f.content_is ∙ ap (λ x. chunks_content f.chunks ++ x) (sym (append-nil c.content)) ∙ sym (flat_map-append (λ d. d.content) f.chunks (c ∷ []));
  within = within;
}

pub follows_rest : (limit : ℕ) (bytes rest content : List ℕ) → Follows limit bytes [] content → Follows limit (bytes ++ rest) rest content
follows_rest limit bytes rest content f = record {
  chunks = f.chunks;
  are_chunks = f.are_chunks;
  text = ap (λ x. x ++ rest) (f.text ∙ append-nil (chunks_text f.chunks));
  content_is = f.content_is;
  within = f.within;
}

-- what a chunk more, or the end of the chunks, makes of what was read so far
pub chunks_more : (limit taken more : ℕ) (old now new : Option (List ℕ)) (before middle after bytes content longer : List ℕ)
    → Moves old now before middle bytes → Follows limit bytes [] content → taken ≡ capped (length bytes)
    → ReadsChunk limit now new middle after content longer (chunk.Some more)
    → (all : List ℕ) × Moves old new before after all × Follows limit all [] longer × (capped (taken + more) ≡ capped (length all))
chunks_more limit taken more old now new before middle after bytes content longer m f far c = (
  _,
  moves_then old now new before middle after bytes (print_chunk c.0) m c.2,
  follows_chunk limit bytes content longer c.0 f c.1 c.3 c.4,
  omega (arith, far, c.5, length-append bytes (print_chunk c.0)),
)

pub chunks_large : (limit : ℕ) (old now new : Option (List ℕ)) (before middle after bytes content longer : List ℕ)
    → Moves old now before middle bytes → Follows limit bytes [] content → ReadsChunk limit now new middle after content longer chunk.TooLarge
    → (all : List ℕ) × Moves old new before after all × IsTooLarge limit all
chunks_large limit old now new before middle after bytes content longer m f c = (
  _,
  moves_then old now new before middle after bytes (print_chunk_line c.0) m c.2,
  (c.0, content, c.1, follows_rest limit bytes (print_chunk_line c.0) content f, c.3),
)

pub chunks_bad : (limit taken more : ℕ) (old now new : Option (List ℕ)) (before middle after bytes content longer : List ℕ)
    → Moves old now before middle bytes → Follows limit bytes [] content → taken ≡ capped (length bytes)
    → ReadsChunk limit now new middle after content longer (chunk.BadLength more)
    → (all : List ℕ) × Moves old new before after all × IsBadBody limit all after × (capped (taken + more) ≡ capped (length all + length after))
chunks_bad limit taken more old now new before middle after bytes content longer m f far c = (
  _,
  moves_then old now new before middle after bytes c.0 m c.1,
  (c.0, content, follows_rest limit bytes c.0 content f, inl c.2),
  omega (arith, far, c.3, length-append bytes c.0),
)

pub chunks_cut : (limit taken more : ℕ) (old now new : Option (List ℕ)) (before middle after bytes content longer : List ℕ)
    → Moves old now before middle bytes → Follows limit bytes [] content → taken ≡ capped (length bytes)
    → ReadsChunk limit now new middle after content longer (chunk.CutShort more)
    → (all : List ℕ) × Moves old new before after all × IsCutBody limit all after × IsAtEnd new × (capped (taken + more) ≡ capped (length all + length after))
chunks_cut limit taken more old now new before middle after bytes content longer m f far c = (
  _,
  moves_then old now new before middle after bytes c.0 m c.1,
  (c.0, content, follows_rest limit bytes c.0 content f, inl c.2),
  c.3,
  omega (arith, far, c.4, length-append bytes c.0),
)

-- the trailers behind the line of the last chunk
pub chunks_end : (limit so_far taken more : ℕ) (old now last new : Option (List ℕ)) (before middle later after bytes content longer : List ℕ) (result : BodyRead)
    → Moves old now before middle bytes → Follows limit bytes [] content → taken ≡ capped (length bytes)
    → ReadsChunk limit now last middle later content longer (chunk.Last more) → so_far ≡ capped (taken + more)
    → ReadsTrailers so_far longer last new later after result → ReadsChunked limit old new before after result
chunks_end limit so_far taken more old now last new before middle later after bytes content longer (body.Body text) m f far c sum t =
    let line = print_chunk_line c.0 in
    let took = moves_then old last new before later after (bytes ++ line) t.0 (moves_then old now last before middle later bytes line m c.2) t.2 in
    let section = print_section t.3.fields t.3.last in
    let trailers : t.0 ≡ section = t.3.reads.1 ∙ append-nil section in (
      _,
      took,
      record {
        chunks = f.chunks;
        line = c.0;
        fields = t.3.fields;
        last = t.3.last;
        are_chunks = f.are_chunks;
        is_last = c.1;
        are_fields = t.3.reads.0;
        short = omega (arith, t.3.short, ap length trailers);
        text = append_assoc bytes line t.0 ∙ ap (λ x. x ++ (line ++ t.0)) (f.text ∙ append-nil (chunks_text f.chunks)) ∙ ap (λ x. chunks_text f.chunks ++ (line ++ x)) trailers;
        content_is = t.4 ∙ c.3 ∙ f.content_is;
      },
      omega (arith, f.within, ap length (t.4 ∙ c.3)),
    )
chunks_end limit so_far taken more old now last new before middle later after bytes content longer (body.BadLength n) m f far c sum t =
    let line = print_chunk_line c.0 in (
      bytes ++ line,
      moves_rest old last new before later after (bytes ++ line) (moves_then old now last before middle later bytes line m c.2) t.0,
      (line, content, follows_rest limit bytes line content f, inr (c.0, c.1, refl, t.1)),
      omega (arith, t.2, sum, far, c.4, length-append bytes line),
    )
chunks_end limit so_far taken more old now last new before middle later after bytes content longer (body.CutShort n) m f far c sum t =
    let line = print_chunk_line c.0 in (
      bytes ++ line,
      moves_rest old last new before later after (bytes ++ line) (moves_then old now last before middle later bytes line m c.2) t.0,
      (line, content, follows_rest limit bytes line content f, inr (c.0, c.1, refl, t.1)),
      t.2,
      omega (arith, t.3, sum, far, c.4, length-append bytes line),
    )
chunks_end limit so_far taken more old now last new before middle later after bytes content longer body.ReadFault m f far c sum t =
    (_, moves_rest old last new before later after _ (moves_then old now last before middle later bytes (print_chunk_line c.0) m c.2) t)
chunks_end limit so_far taken more old now last new before middle later after bytes content longer body.Memory m f far c sum t =
    (_, moves_rest old last new before later after _ (moves_then old now last before middle later bytes (print_chunk_line c.0) m c.2) t)
chunks_end limit so_far taken more old now last new before middle later after bytes content longer (body.TooLarge n) m f far c sum t = absurd t
chunks_end limit so_far taken more old now last new before middle later after bytes content longer body.Coded m f far c sum t = absurd t
