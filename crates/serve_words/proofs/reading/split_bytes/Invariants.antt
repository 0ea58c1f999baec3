use Rattle.std.proofs.Common.{◌≡◌, map}
use Rattle.serve_words.proofs.reading.split_bytes.Given as goal

abbrev pub invariant-parts : goal.invariant-parts
invariant-parts l = record { parts : l.parts ≡ map (λ part. part.now) l.yielded }
