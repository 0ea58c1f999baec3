-- What is told of an input that was not read whole.
use Rattle.std.proofs.Common.{◌≡◌, ◌<◌, ℕ, List, [], ◌++◌, length, length-append, refl, ap, arith, None, Some}
use Rattle.std.specs.declared.option.Option.{Option}
use Rattle.std.specs.Io.KnownBytes.{Consumes, Keeps}
use Rattle.http_node.specs.Audit.{EndsAt, IsRefusal, ReadsAll}
use Rattle.http_node.specs.declared.audit.AuditEnd.{AuditEnd}
use Rattle.http_node.specs.declared.audit.AuditEnd.TheVariants as end
use Rattle.http_wire.specs.Body.{ReadsToEnd}
use Rattle.http_wire.specs.declared.body.BodyRead.TheVariants as body
use Rattle.log_audit.specs.declared.fault.AuditFault.{AuditFault}
use Rattle.log_audit.specs.declared.fault.AuditFault.TheVariants as wrong
use Rattle.replay_script.specs.Replay.{IsTold}

-- more than this was taken, so more than this is told
told_past : (old new : Option (List ℕ)) (taken : List ℕ) (limit : ℕ) → Consumes old new taken → limit < length taken
    → (text : List ℕ) × IsTold old text × (limit < length text)
told_past None new taken limit consumed more = (taken, tt, more)
told_past (Some text) None taken limit consumed more = absurd consumed
told_past (Some text) (Some rest) taken limit consumed more =
    (text, refl, omega (arith, more, ap length consumed, length-append taken rest))

-- a source with more than the limit tells more than the limit
pub past_limit : (old new : Option (List ℕ)) (before after : List ℕ) (limit len : ℕ) → before ≡ []
    → ReadsToEnd limit old new before after (body.TooLarge len) → (text : List ℕ) × IsTold old text × (limit < length text)
past_limit old new before after limit len none read =
    let moves = read.1 in
    let e : length (before ++ moves.taken) ≡ length (read.0 ++ after) = ap length moves.parts in
    let z : length before ≡ 0 = ap length none in
    told_past old new moves.taken limit moves.consumed
    (omega (arith, e, z, length-append before moves.taken, length-append read.0 after, read.2, read.3))

too_long_is_known : (len : ℕ) → wrong.TooLong len ≡ wrong.Memory → ⊥
too_long_is_known len e = cc

-- a text that is too long is refused, or memory was wanted
pub too_long : (text : List ℕ) (old new : Option (List ℕ)) (last : AuditEnd) (len : ℕ) → 268435456 < length text
    → IsRefusal (wrong.TooLong len) last → Keeps old new → EndsAt text old new last
too_long text old new end.Memory len long is kept = kept
too_long text old new (end.Refused note) len long is kept = (
  record {
    fault = wrong.TooLong (length text);
    cause = too_long_is_known (length text);
    fault_is = (refl, long);
    note_is = is.1;
    unacceptable = λ a. omega (arith, long, a.0);
  },
  kept,
)
too_long text old new end.Done len long is kept = absurd is
too_long text old new end.ReadFault len long is kept = absurd is
too_long text old new end.WriteFault len long is kept = absurd is

-- a text that is refused need not be read whole
pub unread : (text : List ℕ) (before after : Option (List ℕ)) (fault : AuditFault) (last : AuditEnd) → IsRefusal fault last
    → ReadsAll text before after last
unread text before after fault end.Memory is = tt
unread text before after fault (end.Refused note) is = tt
unread text before after fault end.Done is = absurd is
unread text before after fault end.ReadFault is = absurd is
unread text before after fault end.WriteFault is = absurd is

-- what is told, where something is
pub told : (before : Option (List ℕ)) → (text : List ℕ) × IsTold before text
told None = ([], tt)
told (Some text) = (text, refl)
