-- What the outcome of a call of the library is to a source or a sink.
use Rattle.std.specs.Prelude.{ℕ, ◌==◌, if◌then◌else◌, Ok, Err}
use Rattle.std.specs.declared.result.Result.{Result}
use Rattle.edge_base.specs.declared.sink.Put.{Put}
use Rattle.edge_base.specs.declared.sink.Put.TheVariants as put
use Rattle.edge_base.specs.declared.source.Took.{Took}
use Rattle.edge_base.specs.declared.source.Took.TheVariants as took
use Rattle.edge_base.specs.Causes.{next_count}

-- a read of no bytes is the end, and an error is a failure
abbrev pub read_answer : {E : Type 0} → Result ℕ E → Took
read_answer (Ok n) = if n == 0 then took.End else took.Some n
read_answer (Err e) = took.Failed

-- the count of faults rises by one with a failure, and with nothing else
abbrev pub count_after_read : Took → ℕ → ℕ
count_after_read took.Failed faults = next_count faults
count_after_read took.End faults = faults
count_after_read (took.Some n) faults = faults

-- a write of no bytes is a failure, and so is an error
abbrev pub write_answer : {E : Type 0} → Result ℕ E → Put
write_answer (Ok n) = if n == 0 then put.Failed else put.Some n
write_answer (Err e) = put.Failed

-- the count of faults rises by one with a failure, and with nothing else
abbrev pub count_after_write : Put → ℕ → ℕ
count_after_write put.Failed faults = next_count faults
count_after_write (put.Some n) faults = faults
