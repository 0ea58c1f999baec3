-- A count that is kept as its answer says has the cause that the traits ask for.
use Rattle.std.proofs.Common.{ℕ, ◌<◌, ◌^◌, refl, arith}
use Rattle.edge_base.specs.declared.sink.Put.{Put}
use Rattle.edge_base.specs.declared.sink.Put.TheVariants as put
use Rattle.edge_base.specs.declared.source.Took.{Took}
use Rattle.edge_base.specs.declared.source.Took.TheVariants as took
use Rattle.edge_base.specs.Sink.{HasWriteCause}
use Rattle.edge_base.specs.Source.{HasReadCause}
use Rattle.edge_base.specs.StdStreams.{count_after_read, count_after_write}

pub read_cause : (faults : ℕ) (answer : Took) → faults < 2 ^ 64 → HasReadCause faults (count_after_read answer faults) answer
read_cause faults took.Failed fits = record { later = omega arith; failed = λ e. omega arith; answered = λ n. absurd (n refl) }
read_cause faults took.End fits = record { later = omega arith; failed = λ e. cc; answered = λ n. refl }
read_cause faults (took.Some n) fits = record { later = omega arith; failed = λ e. cc; answered = λ n. refl }

pub write_cause : (faults : ℕ) (answer : Put) → faults < 2 ^ 64 → HasWriteCause faults (count_after_write answer faults) answer
write_cause faults put.Failed fits = record { later = omega arith; failed = λ e. omega arith; answered = λ n. absurd (n refl) }
write_cause faults (put.Some n) fits = record { later = omega arith; failed = λ e. cc; answered = λ n. refl }
