-- What an input is.
use Rattle.std.proofs.Common.{◌≡◌, ◌≢◌, ℕ, ◌+◌, ◌<◌, ◌≤◌, true, false, List, [], ◌∷◌, ◌++◌, length, None, Some, Ok, Err, IfOk, refl, sym, ◌∙◌, ap, subst, nat_lt, codes, arith}
use Rattle.std.proofs.lemmas.List.{append-nil, length-append}
use Rattle.std.specs.Io.KnownBytes.{Consumes, IsAtEnd}
use Rattle.std.specs.declared.option.Option.{Option}
use Rattle.std.specs.declared.result.Result.{Result}
use Rattle.cdni_base.specs.declared.provider.ProviderId.{ProviderId}
use Rattle.http_wire.specs.Body.{ReadsToEnd}
use Rattle.http_wire.specs.declared.body.BodyRead.TheVariants as body
use Rattle.trigger_cascade.specs.Task.{control_host, note_line, task_of, task_in, IsRead, IsRefusal, IsTask, ReadsTask, Tells}
use Rattle.trigger_cascade.specs.declared.task.TaskRead.{TaskRead}
use Rattle.trigger_cascade.specs.declared.task.Task.{Task}
use Rattle.trigger_cascade.specs.declared.task.Task.TheVariants.{PassOn, Stop}
use Rattle.trigger_command.specs.Reading.{command_of, Fails, Judged}
use Rattle.trigger_command.specs.declared.command.Command.{Command}
use Rattle.trigger_command.specs.declared.fault.CommandFault.{CommandFault}
use Rattle.trigger_command.specs.declared.fault.CommandFault.TheVariants as fault

-- a fault that is not want of memory is that of the reading
fails : (wrong : CommandFault) (reading : Judged Command) → wrong ≢ fault.Memory → Fails wrong reading → reading ≡ Err wrong
fails fault.NotJson reading some is = is
fails (fault.Field field) reading some is = is
fails fault.Loop reading some is = is
fails fault.NoSelection reading some is = is
fails fault.PatternInPreposition reading some is = is
fails fault.CcidInPreposition reading some is = is
fails (fault.TooMany n) reading some is = is
fails (fault.BadUrl index) reading some is = is
fails (fault.BadPattern index) reading some is = is
fails fault.Memory reading some is = absurd (some refl)

refusal_is : (wrong : CommandFault) (reading : Judged Command) (task : Task) → Fails wrong reading → IsRefusal wrong task → task ≡ task_of reading
refusal_is wrong reading task is refusal = refusal.1 ∙ ap task_of (sym (fails wrong reading refusal.0 is))

pub refused_is : {E : Type 0} (wrong : CommandFault) (reading : Judged Command) (result : Result Task E) → Fails wrong reading → IfOk result (λ task. IsRefusal wrong task)
    → IfOk result (λ task. task ≡ task_of reading)
refused_is wrong reading (Ok task) is refusal = refusal_is wrong reading task is refusal
refused_is wrong reading (Err other) is refusal = tt

-- the input was read to its end, and has no more than the limit
within : (own : ProviderId) (text : List ℕ) (task : Task) → length text ≤ 1048576 → task ≡ task_of (command_of own control_host text) → task ≡ task_in own text
unfolding task_in
within own text task short is =
    let few : nat_lt 1048576 (length text) ≡ false = grind arith in
    rw few is

-- it has more
above : (own : ProviderId) (text : List ℕ) (task : Task) → 1048576 < length text → task ≡ Stop (note_line (codes "too-long")) → task ≡ task_in own text
unfolding task_in
above own text task long is =
    let many : nat_lt 1048576 (length text) ≡ true = grind arith in
    rw many is

-- a read that may have found no memory
pub reads_by : {E : Type 0} (own : ProviderId) (old new : Option (List ℕ)) (read : Result Task E) (result : TaskRead) → IsTask read result
    → IfOk read (λ task. IsRead own old new task) → ReadsTask own old new result
reads_by own old new (Ok task) result is reads = rw is reads
reads_by own old new (Err wrong) result is reads = rw is tt

-- the source told all that was taken
all_told : (old new : Option (List ℕ)) (text : List ℕ) → Consumes old new text → IsAtEnd new → Tells old text
all_told None new text taken end = tt
all_told (Some told) None text taken end = absurd taken
all_told (Some told) (Some left) text taken end = sym (taken ∙ ap (λ xs. text ++ xs) end ∙ append-nil text)

read_is : (own : ProviderId) (old new : Option (List ℕ)) (text : List ℕ) (task : Task) → Consumes old new text → IsAtEnd new → task ≡ task_in own text → IsRead own old new task
read_is own old new text (PassOn path spec) taken end is = (text, all_told old new text taken end, sym is, taken, end)
read_is own old new text (Stop note) taken end is = (text, all_told old new text taken end, sym is)

read_all : {E : Type 0} (own : ProviderId) (old new : Option (List ℕ)) (text : List ℕ) (read : Result Task E) → Consumes old new text → IsAtEnd new → length text ≤ 1048576
    → IfOk read (λ task. task ≡ task_of (command_of own control_host text)) → IfOk read (λ task. IsRead own old new task)
read_all own old new text (Ok task) taken end short is = read_is own old new text task taken end (within own text task short is)
read_all own old new text (Err wrong) taken end short is = tt

-- an input within the limit was read
pub body_read : {E : Type 0} (own : ProviderId) (old new : Option (List ℕ)) (before after text : List ℕ) (read : Result Task E) (result : TaskRead) → before ≡ []
    → ReadsToEnd 1048576 old new before after (body.Body text) → IfOk read (λ task. task ≡ task_of (command_of own control_host text)) → IsTask read result
    → ReadsTask own old new result
body_read own old new before after text read result empty bytes is made =
    let moves = bytes.0 in
    let all : moves.taken ≡ text = ap (λ xs. xs ++ moves.taken) (sym empty) ∙ moves.parts ∙ ap (λ xs. text ++ xs) bytes.2 ∙ append-nil text in
    let taken : Consumes old new text = subst (λ xs. Consumes old new xs) all moves.consumed in
    reads_by own old new read result made (read_all own old new text read taken bytes.1 bytes.3 is)

-- a longer one
long_told : (own : ProviderId) (old new : Option (List ℕ)) (taken : List ℕ) → 1048576 < length taken → Consumes old new taken → IsRead own old new (Stop (note_line (codes "too-long")))
long_told own None new taken long some = (taken, tt, sym (above own taken _ long refl))
long_told own (Some told) None taken long some = absurd some
long_told own (Some told) (Some left) taken long some =
    let longer : 1048576 < length told = rw (some, length-append taken left) (omega (arith, long)) in
    (told, refl, sym (above own told _ longer refl))

long_read : {E : Type 0} (own : ProviderId) (old new : Option (List ℕ)) (read : Result Task E) → IsRead own old new (Stop (note_line (codes "too-long")))
    → IfOk read (λ task. task ≡ Stop (note_line (codes "too-long"))) → IfOk read (λ task. IsRead own old new task)
long_read own old new (Ok task) so is = rw is so
long_read own old new (Err wrong) so is = tt

pub large_read : {E : Type 0} (own : ProviderId) (old new : Option (List ℕ)) (before after : List ℕ) (len : ℕ) (read : Result Task E) (result : TaskRead) → before ≡ []
    → ReadsToEnd 1048576 old new before after (body.TooLarge len) → IfOk read (λ task. task ≡ Stop (note_line (codes "too-long"))) → IsTask read result
    → ReadsTask own old new result
large_read own old new before after len read result empty bytes is made =
    let moves = bytes.1 in
    let all : moves.taken ≡ bytes.0 ++ after = ap (λ xs. xs ++ moves.taken) (sym empty) ∙ moves.parts in
    let long : 1048576 < length moves.taken = rw (all, length-append bytes.0 after) (omega (arith, bytes.2, bytes.3)) in
    reads_by own old new read result made (long_read own old new read (long_told own old new moves.taken long moves.consumed) is)
