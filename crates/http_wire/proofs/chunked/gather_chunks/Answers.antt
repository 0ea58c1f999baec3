use Rattle.std.proofs.Common.{◌∙◌}
use Rattle.http_wire.proofs.ChunkLemmas.{chunks_more, chunks_end, chunks_bad, chunks_large, chunks_cut}
use Rattle.http_wire.proofs.MoveLemmas.{moves_then}
use Rattle.http_wire.proofs.chunked.gather_chunks.Goals as goal

pub chunks-preserved : goal.chunks-preserved
chunks-preserved g c =
    let far = c.chunks.invariant.so_far in
    let all = chunks_more c.args.limit c.chunks.taken c.in-Some.more _ _ _ _ _ _ far.0 c.chunks.text.items _ far.1 far.2 far.3 c.in-Some.ensures.bytes in
    record {
      so_far = (all.0, all.1, all.2, c.saturating_add-taken.ensures ∙ all.3);
      answered = c.in-Some.ensures.cause.answered (λ e. cc) ∙ c.chunks.invariant.answered;
    }

pub returns-in-Last-clause-bytes : goal.returns-in-Last-clause-bytes
returns-in-Last-clause-bytes g c =
    let far = c.chunks.invariant.so_far in
    chunks_end c.args.limit c.saturating_add-so_far.result c.chunks.taken c.in-Last.more _ _ _ _ _ _ _ _ far.0 c.chunks.text.items c.read_chunk.new.text.items _ far.1 far.2 far.3 c.in-Last.ensures.bytes c.saturating_add-so_far.ensures c.read_trailers.ensures.bytes

pub returns-in-TooLarge-clause-bytes : goal.returns-in-TooLarge-clause-bytes
returns-in-TooLarge-clause-bytes g c =
    let far = c.chunks.invariant.so_far in
    let all = chunks_large c.args.limit _ _ _ _ _ _ far.0 c.chunks.text.items c.read_chunk.new.text.items far.1 far.2 c.in-TooLarge.ensures.bytes in
    (all.0, all.1, all.2, c.saturating_add.ensures)

pub returns-in-BadLength-clause-bytes : goal.returns-in-BadLength-clause-bytes
returns-in-BadLength-clause-bytes g c =
    let far = c.chunks.invariant.so_far in
    let all = chunks_bad c.args.limit c.chunks.taken c.in-BadLength.more _ _ _ _ _ _ far.0 c.chunks.text.items c.read_chunk.new.text.items far.1 far.2 far.3 c.in-BadLength.ensures.bytes in
    (all.0, all.1, all.2, c.saturating_add-in-BadLength.ensures ∙ all.3)

pub returns-in-CutShort-clause-bytes : goal.returns-in-CutShort-clause-bytes
returns-in-CutShort-clause-bytes g c =
    let far = c.chunks.invariant.so_far in
    let all = chunks_cut c.args.limit c.chunks.taken c.in-CutShort.more _ _ _ _ _ _ far.0 c.chunks.text.items c.read_chunk.new.text.items far.1 far.2 far.3 c.in-CutShort.ensures.bytes in
    (all.0, all.1, all.2, all.3, c.saturating_add-in-CutShort.ensures ∙ all.4)

pub returns-in-ReadFault-clause-bytes : goal.returns-in-ReadFault-clause-bytes
returns-in-ReadFault-clause-bytes g c =
    let far = c.chunks.invariant.so_far in
    let more = c.in-ReadFault.ensures.bytes in
    (_, moves_then _ _ _ _ _ _ far.0 more.0 far.1 more.1)

pub returns-in-Memory-clause-bytes : goal.returns-in-Memory-clause-bytes
returns-in-Memory-clause-bytes g c =
    let far = c.chunks.invariant.so_far in
    let more = c.in-Memory.ensures.bytes in
    (_, moves_then _ _ _ _ _ _ far.0 more.0 far.1 more.1)
