-- Where the bytes to come begin with a chunked body, a reading answers it.
use Rattle.std.proofs.Common.{◌≡◌, ℕ, ◌+◌, ◌<◌, ◌≤◌, List, [], ◌∷◌, ◌++◌, length, refl, sym, ◌∙◌, ap, subst, arith, ◌⊎◌, inl, inr, Option, Some, append_assoc, append-nil, length-append}
use Rattle.std.specs.List.{All, flat_map}
use Rattle.std.specs.Io.KnownBytes.{IsAtEnd}
use Rattle.std.proofs.lemmas.List.{append_cancel_left}
use Rattle.std.proofs.lemmas.Grind.{flat_map-append}
use Rattle.httparse.specs.Ascii.{crlf_bytes}
use Rattle.httparse.specs.Grammar.{crlf, IsField, ChunkLine, print_chunk_line, chunk_size, Field, LineEnd, print_extension, print_section, print_field, print_end}
use Rattle.httparse.proofs.ChunkLemmas.{chunk_line_unique}
use Rattle.http_wire.specs.Moves.{Moves, IsToCome}
use Rattle.http_wire.specs.Chunked.{Chunk, IsLine, IsLastLine, IsChunk, AreChunks, print_chunk, chunks_text, chunks_content, IsChunked, Follows, IsBadLine, IsBadEnd, AreBadTrailers, IsCutLine, IsCutEnd, AreCutTrailers, IsBadChunk, IsCutChunk, IsBadBody, IsCutBody, ReadsChunked, FindsChunked}
use Rattle.http_wire.specs.Body.{IsBodyOrFault, IsTooLargeOrFault}
use Rattle.http_wire.specs.declared.body.BodyRead.{BodyRead}
use Rattle.http_wire.specs.declared.body.BodyRead.TheVariants as body
use Rattle.http_wire.specs.declared.limits.TheConstants.{HEAD_MAX}
use Rattle.http_wire.proofs.ChunkLemmas.{end_length}
use Rattle.http_wire.proofs.BodyLemmas.{same_front}
use Rattle.http_wire.proofs.FoundLemmas.{still_left, shorter}

abbrev chunk_of : ChunkLine → List ℕ → Chunk
chunk_of line content = record { line = line; content = content }

-- the parts of chunks and what follows them
chunk_parts : (c : Chunk) (cs : List Chunk) (x : List ℕ) → chunks_text (c ∷ cs) ++ x ≡ print_chunk_line c.line ++ (c.content ++ (crlf_bytes ++ (chunks_text cs ++ x)))
chunk_parts c cs x =
    let line = print_chunk_line c.line in
    let tail = chunks_text cs ++ x in
    append_assoc (print_chunk c) (chunks_text cs) x ∙ append_assoc (line ++ c.content) crlf_bytes tail ∙ append_assoc line c.content (crlf_bytes ++ tail)

-- two lines at the front of one text
same_line : (one two : ChunkLine) (r q : List ℕ) → IsLine one → IsLine two → print_chunk_line one ++ r ≡ print_chunk_line two ++ q → (one ≡ two) × (r ≡ q)
same_line one two r q a b same = chunk_line_unique (print_chunk_line one ++ r) one two r q (a.0, refl) (b.0, same)

-- the chunks that were read are the first of those to come, whose last line is this
align : (cs ds : List Chunk) (x rest : List ℕ) (last : ChunkLine) → AreChunks cs → AreChunks ds → IsLastLine last
    → chunks_text cs ++ x ≡ chunks_text ds ++ (print_chunk_line last ++ rest)
    → (es : List Chunk) × AreChunks es × (ds ≡ cs ++ es) × (x ≡ chunks_text es ++ (print_chunk_line last ++ rest))
align [] ds x rest last a b l same = (ds, b, refl, same)
align (c ∷ cs) [] x rest last a b l same =
    let equal = same_line c.line last _ rest a.0.line l.0 (sym (chunk_parts c cs x) ∙ same) in
    absurd (omega (arith, a.0.some, a.0.size, ap chunk_size equal.0, l.1))
align (c ∷ cs) (d ∷ ds) x rest last a b l same =
    let y = print_chunk_line last ++ rest in
    let equal = same_line c.line d.line _ _ a.0.line b.0.line (sym (chunk_parts c cs x) ∙ same ∙ chunk_parts d ds y) in
    let content = same_front c.content _ d.content _ equal.1 (omega (arith, a.0.size, b.0.size, ap chunk_size equal.0)) in
    let behind = append_cancel_left c.content _ _ (equal.1 ∙ ap (λ z. z ++ (crlf_bytes ++ (chunks_text ds ++ y))) (sym content)) in
    let more = align cs ds x rest last a.1 b.1 l (append_cancel_left crlf_bytes _ _ behind) in
    let whole : c ≡ d = ap (λ z. chunk_of z c.content) equal.0 ∙ ap (chunk_of d.line) content in
    (more.0, more.1, ap (λ z. d ∷ z) more.2 ∙ ap (λ z. z ∷ (cs ++ more.0)) (sym whole), more.3)

-- what follows two fronts of one length
behind_front : (a x b y : List ℕ) → a ++ x ≡ b ++ y → length a ≡ length b → x ≡ y
behind_front a x b y same long = append_cancel_left a x y (same ∙ ap (λ z. z ++ y) (sym (same_front a x b y same long)))

-- a line at the front of chunks and the last line is the last line, or that of the first chunk
at_line : (es : List Chunk) (x rest r : List ℕ) (last line : ChunkLine) → AreChunks es → IsLastLine last → IsLine line
    → x ≡ chunks_text es ++ (print_chunk_line last ++ rest) → x ≡ print_chunk_line line ++ r
    → ((es ≡ []) × (line ≡ last) × (r ≡ rest))
    ⊎ ((e : Chunk) × (fs : List Chunk) × (es ≡ e ∷ fs) × IsChunk e × (line ≡ e.line) × (r ≡ e.content ++ (crlf_bytes ++ (chunks_text fs ++ (print_chunk_line last ++ rest)))))
at_line [] x rest r last line a l is same other =
    let equal = same_line line last r rest is l.0 (sym other ∙ same) in
    inl (refl, equal.0, equal.1)
at_line (e ∷ fs) x rest r last line a l is same other =
    let equal = same_line line e.line r _ is a.0.line (sym other ∙ same ∙ chunk_parts e fs (print_chunk_line last ++ rest)) in
    inr (e, fs, refl, a.0, equal.0, equal.1)

-- there is a line at the front
first_line : (es : List Chunk) (rest : List ℕ) (last : ChunkLine) → AreChunks es → IsLastLine last
    → (line : ChunkLine) × (r : List ℕ) × IsLine line × (chunks_text es ++ (print_chunk_line last ++ rest) ≡ print_chunk_line line ++ r)
first_line [] rest last a l = (last, rest, l.0, refl)
first_line (e ∷ fs) rest last a l = (e.line, _, a.0.line, chunk_parts e fs (print_chunk_line last ++ rest))

bad_line : (after left r : List ℕ) (line : ChunkLine) → IsBadLine after → IsLine line → after ++ left ≡ print_chunk_line line ++ r → ⊥
bad_line after left r line (none, inl over) is same = over left line r (is.0, same)
bad_line after left r line (none, inr long) is same = none line _ (is.0, shorter (print_chunk_line line) r after left same (omega (arith, is.1, long)))

bad_end : (after left r : List ℕ) → IsBadEnd after → after ++ left ≡ crlf_bytes ++ r → ⊥
bad_end after left r (none, inl over) same = over left r same
bad_end after left r (none, inr long) same = none _ (shorter crlf_bytes r after left same (omega (arith, long)))

bad_trailers : (after left rest : List ℕ) (fields : List Field) (last : LineEnd) → AreBadTrailers after → All IsField fields → length (print_section fields last) ≤ HEAD_MAX
    → after ++ left ≡ print_section fields last ++ rest → ⊥
bad_trailers after left rest fields last (none, inl over) are short same = over left fields last rest (are, same) short
bad_trailers after left rest fields last (none, inr long) are short same =
    none fields last _ (are, shorter (print_section fields last) rest after left same (omega (arith, short, long))) short

line_some : (line : ChunkLine) → 0 < length (print_chunk_line line)
unfolding print_chunk_line
line_some line = omega (arith, length-append (line.digits ++ line.pad ++ print_extension line.extension) (print_end crlf), end_length crlf)

section_some : (fields : List Field) (last : LineEnd) → 0 < length (print_section fields last)
section_some fields last = omega (arith, length-append (flat_map print_field fields) (print_end last), end_length last)

none_is : (front rest text : List ℕ) → text ≡ [] → text ≡ front ++ rest → 0 < length front → ⊥
none_is front rest text none same some = omega (arith, ap length none, ap length same, length-append front rest, some)

cut_line : (after r : List ℕ) (line : ChunkLine) → IsCutLine after → IsLine line → after ≡ print_chunk_line line ++ r → ⊥
cut_line after r line (inl none) is same = none_is (print_chunk_line line) r after none same (line_some line)
cut_line after r line (inr begun) is same = begun.0 line r (is.0, same)

cut_end : (after r : List ℕ) → IsCutEnd after → after ≡ crlf_bytes ++ r → ⊥
cut_end after r (inl none) same = none_is crlf_bytes r after none same (omega arith)
cut_end after r (inr begun) same = begun.0 r same

cut_trailers : (after rest : List ℕ) (fields : List Field) (last : LineEnd) → AreCutTrailers after → All IsField fields → length (print_section fields last) ≤ HEAD_MAX
    → after ≡ print_section fields last ++ rest → ⊥
cut_trailers after rest fields last (inl none) are short same = none_is (print_section fields last) rest after none same (section_some fields last)
cut_trailers after rest fields last (inr begun) are short same = begun.0 fields last rest (are, same) short

module _ (limit : ℕ) (old new : Option (List ℕ)) (before after bytes content rest : List ℕ) (is : IsChunked bytes content) (come : IsToCome old before (bytes ++ rest)) where
  abbrev behind : List ℕ
  behind = print_section is.fields is.last ++ rest

  abbrev to_come : List Chunk → List ℕ
  to_come es = chunks_text es ++ (print_chunk_line is.line ++ behind)

  -- where a reading stands in the body to come
  stands : (moved more other : List ℕ) → Moves old new before after moved → (f : Follows limit moved more other)
      → (left : List ℕ) × (new ≡ Some left) × (es : List Chunk) × AreChunks es × (is.chunks ≡ f.chunks ++ es) × (more ++ (after ++ left) ≡ to_come es)
  stands moved more other m f =
      let t = still_left old new before after moved come.0 m come.1 in
      let line = print_chunk_line is.line in
      let section = print_section is.fields is.last in
      let whole : bytes ++ rest ≡ to_come is.chunks =
      ap (λ x. x ++ rest) is.text ∙ append_assoc (chunks_text is.chunks) (line ++ section) rest ∙ ap (λ x. chunks_text is.chunks ++ x) (append_assoc line section rest) in
      let same = sym (append_assoc (chunks_text f.chunks) more (after ++ t.0)) ∙ ap (λ x. x ++ (after ++ t.0)) (sym f.text) ∙ sym t.2 ∙ come.2 ∙ whole in
      let a = align f.chunks is.chunks (more ++ (after ++ t.0)) behind is.line f.are_chunks is.are_chunks is.is_last same in
      (t.0, t.1, a.0, a.1, a.2, a.3)

  -- a whole body that was read is the one to come
  whole_is : (moved other : List ℕ) → Moves old new before after moved → IsChunked moved other → length other ≤ limit → other ≡ content
  whole_is moved other m c within =
      let line = print_chunk_line c.line in
      let section = print_section c.fields c.last in
      let f : Follows limit moved (line ++ section) other = record { chunks = c.chunks; are_chunks = c.are_chunks; text = c.text; content_is = c.content_is; within = within } in
      let s = stands moved (line ++ section) other m f in
      elim (at_line s.2 _ behind _ is.line c.line s.3 is.is_last c.is_last.0 s.5 (append_assoc line section (after ++ s.0))) [
        | inl none ↦ c.content_is ∙ ap chunks_content (sym (s.4 ∙ ap (λ x. c.chunks ++ x) none.0 ∙ append-nil c.chunks)) ∙ sym is.content_is
        | inr some ↦ absurd (omega (arith, some.3.some, some.3.size, ap chunk_size some.4, c.is_last.1))
      ]

  -- a line that announces too much does so in the body to come
  large_is : (moved other : List ℕ) (line : ChunkLine) → Moves old new before after moved → IsLine line → Follows limit moved (print_chunk_line line) other
      → limit < length other + chunk_size line → limit < length content
  large_is moved other line m l f large =
      let s = stands moved (print_chunk_line line) other m f in
      elim (at_line s.2 _ behind _ is.line line s.3 is.is_last l s.5 refl) [
        | inl none ↦ absurd (omega (arith, f.within, large, ap chunk_size none.1, is.is_last.1))
        | inr some ↦
            let all : content ≡ chunks_content f.chunks ++ (some.0.content ++ chunks_content some.1) =
            is.content_is ∙ ap chunks_content (s.4 ∙ ap (λ x. f.chunks ++ x) some.2) ∙ flat_map-append (λ c. c.content) f.chunks (some.0 ∷ some.1) in
            omega (arith, large, ap chunk_size some.4, some.3.size, ap length f.content_is, ap length all, length-append (chunks_content f.chunks) (some.0.content ++ chunks_content some.1), length-append some.0.content (chunks_content some.1))
      ]

  -- a chunk can't be refused
  no_bad_chunk : (moved more other : List ℕ) → Moves old new before after moved → Follows limit moved more other → IsBadChunk more after → ⊥
  no_bad_chunk moved more other m f (inl none) =
      let s = stands moved more other m f in
      let l = first_line s.2 behind is.line s.3 is.is_last in
      bad_line after s.0 l.1 l.0 none.1 l.2 (ap (λ x. x ++ (after ++ s.0)) (sym none.0) ∙ s.5 ∙ l.3)
  no_bad_chunk moved more other m f (inr (line, data_is, here, size, bad)) =
      let s = stands moved more other m f in
      let text = ap (λ x. x ++ (after ++ s.0)) here.text ∙ append_assoc (print_chunk_line line) data_is (after ++ s.0) in
      elim (at_line s.2 _ behind _ is.line line s.3 is.is_last here.is_line s.5 text) [
        | inl none ↦ absurd (omega (arith, here.some, ap chunk_size none.1, is.is_last.1))
        | inr some ↦
            bad_end after s.0 (to_come some.1) bad (behind_front data_is (after ++ s.0) some.0.content (crlf_bytes ++ to_come some.1) some.5 (omega (arith, size, ap chunk_size some.4, some.3.size)))
      ]

  -- the trailers can't be refused
  no_bad_trailers : (moved other : List ℕ) (line : ChunkLine) → Moves old new before after moved → Follows limit moved (print_chunk_line line) other → IsLastLine line → AreBadTrailers after → ⊥
  no_bad_trailers moved other line m f l bad =
      let s = stands moved (print_chunk_line line) other m f in
      elim (at_line s.2 _ behind _ is.line line s.3 is.is_last l.0 s.5 refl) [
        | inl none ↦ bad_trailers after s.0 rest is.fields is.last bad is.are_fields is.short none.2
        | inr some ↦ absurd (omega (arith, some.3.some, some.3.size, ap chunk_size some.4, l.1))
      ]

  all_came : (left : List ℕ) → IsAtEnd new → new ≡ Some left → after ++ left ≡ after
  all_came left at_end told = let gone : left ≡ [] = subst IsAtEnd told at_end in ap (λ x. after ++ x) gone ∙ append-nil after

  -- nor do the bytes end within a chunk
  no_cut_chunk : (moved more other : List ℕ) → Moves old new before after moved → Follows limit moved more other → IsAtEnd new → IsCutChunk more after → ⊥
  no_cut_chunk moved more other m f at_end (inl none) =
      let s = stands moved more other m f in
      let l = first_line s.2 behind is.line s.3 is.is_last in
      cut_line after l.1 l.0 none.1 l.2 (sym (all_came s.0 at_end s.1) ∙ ap (λ x. x ++ (after ++ s.0)) (sym none.0) ∙ s.5 ∙ l.3)
  no_cut_chunk moved more other m f at_end (inr (line, data_is, here, cut)) =
      let s = stands moved more other m f in
      let text = ap (λ x. x ++ (after ++ s.0)) here.text ∙ append_assoc (print_chunk_line line) data_is (after ++ s.0) in
      elim (at_line s.2 _ behind _ is.line line s.3 is.is_last here.is_line s.5 text) [
        | inl none ↦ absurd (omega (arith, here.some, ap chunk_size none.1, is.is_last.1))
        | inr some ↦ elim cut [
          | inl few ↦
              let long = ap length (some.5) in
              absurd (omega (arith, few.0, ap chunk_size some.4, some.3.size, long, length-append data_is (after ++ s.0), ap length (all_came s.0 at_end s.1), ap length few.1, length-append some.0.content (crlf_bytes ++ (chunks_text some.1 ++ (print_chunk_line is.line ++ behind)))))
          | inr all ↦
              cut_end after (to_come some.1) all.1 (sym (all_came s.0 at_end s.1) ∙ behind_front data_is (after ++ s.0) some.0.content (crlf_bytes ++ to_come some.1) some.5 (omega (arith, all.0, ap chunk_size some.4, some.3.size)))
        ]
      ]

  no_cut_trailers : (moved other : List ℕ) (line : ChunkLine) → Moves old new before after moved → Follows limit moved (print_chunk_line line) other → IsLastLine line → IsAtEnd new → AreCutTrailers after → ⊥
  no_cut_trailers moved other line m f l at_end cut =
      let s = stands moved (print_chunk_line line) other m f in
      elim (at_line s.2 _ behind _ is.line line s.3 is.is_last l.0 s.5 refl) [
        | inl none ↦ cut_trailers after rest is.fields is.last cut is.are_fields is.short (sym (all_came s.0 at_end s.1) ∙ none.2)
        | inr some ↦ absurd (omega (arith, some.3.some, some.3.size, ap chunk_size some.4, l.1))
      ]

  no_bad_body : (moved : List ℕ) → Moves old new before after moved → IsBadBody limit moved after → ⊥
  no_bad_body moved m (more, other, f, inl bad) = no_bad_chunk moved more other m f bad
  no_bad_body moved m (more, other, f, inr (line, l, text, bad)) =
      no_bad_trailers moved other line m (subst (λ (x : List ℕ). Follows limit moved x other) text f) l bad

  no_cut_body : (moved : List ℕ) → Moves old new before after moved → IsAtEnd new → IsCutBody limit moved after → ⊥
  no_cut_body moved m at_end (more, other, f, inl cut) = no_cut_chunk moved more other m f at_end cut
  no_cut_body moved m at_end (more, other, f, inr (line, l, text, cut)) =
      no_cut_trailers moved other line m (subst (λ (x : List ℕ). Follows limit moved x other) text f) l at_end cut

  answers : (result : BodyRead) → ReadsChunked limit old new before after result
      → (length content ≤ limit → IsBodyOrFault content result) × (limit < length content → IsTooLargeOrFault result)
  answers (body.Body other) (moved, m, c, within) =
      let same = whole_is moved other m c within in
      (λ fits. same, λ large. omega (arith, large, within, ap length same))
  answers (body.TooLarge len) (moved, m, (line, other, l, f, large), e) =
      let more = large_is moved other line m l f large in
      (λ fits. omega (arith, fits, more), λ large. tt)
  answers (body.BadLength taken) (moved, m, bad, n) = (λ fits. no_bad_body moved m bad, λ large. no_bad_body moved m bad)
  answers (body.CutShort taken) (moved, m, cut, at_end, n) = (λ fits. no_cut_body moved m at_end cut, λ large. no_cut_body moved m at_end cut)
  answers body.ReadFault reads = (λ fits. tt, λ large. tt)
  answers body.Memory reads = (λ fits. tt, λ large. tt)
  answers body.Coded reads = absurd reads

pub finds_chunked : (limit : ℕ) (old new : Option (List ℕ)) (before after : List ℕ) (result : BodyRead) → ReadsChunked limit old new before after result → FindsChunked limit old before result
finds_chunked limit old new before after result reads bytes content rest is come = answers limit old new before after bytes content rest is come result reads
