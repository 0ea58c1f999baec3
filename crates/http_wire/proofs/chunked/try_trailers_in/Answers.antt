use Rattle.std.proofs.Common.{subst, ℕ}
use Rattle.httparse.specs.Spans.{SectionOverflows}
use Rattle.http_wire.proofs.ChunkLemmas.{no_trailers, none_yet}
use Rattle.http_wire.proofs.chunked.try_trailers_in.Goals as goal

pub returns-in-Err : goal.returns-in-Err
returns-in-Err c =
    let never = no_trailers c.args.bytes.now (subst (λ (n : ℕ). SectionOverflows n c.args.bytes.now) c.requires.room c.in-Err.ensures.no_room) in
    (none_yet c.args.bytes.now never, never)
