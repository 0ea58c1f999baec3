use Rattle.http_wire.proofs.ChunkLemmas.{never_section, none_yet}
use Rattle.http_wire.proofs.chunked.try_trailers.Goals as goal

pub returns-in_default : goal.returns-in_default
returns-in_default c =
    let never = never_section c.args.bytes.now (c.in-Err.ensures.invalid c.in_default.not-TooManyHeaders) in
    (none_yet c.args.bytes.now never, never)
