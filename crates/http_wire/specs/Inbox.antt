-- Filling what is read ahead.
use Rattle.std.specs.Prelude.{◌≡◌, ◌≢◌, ℕ, ◌<◌, ◌≤◌, List, ◌++◌, length, take, drop}
use Rattle.std.specs.declared.option.Option.{Option}
use Rattle.std.specs.Io.KnownBytes.{Consumes, Keeps, IsAtEnd}
use Rattle.edge_base.specs.Causes.{Rose}
use Rattle.http_wire.specs.declared.limits.TheConstants.{HEAD_MAX}
use Rattle.http_wire.specs.declared.inbox.Filled.{Filled}
use Rattle.http_wire.specs.declared.inbox.Filled.TheVariants as filled

-- bytes of the source came behind those that were there; the end comes where none is left; nothing else takes any
abbrev pub Fills : Option (List ℕ) → Option (List ℕ) → List ℕ → List ℕ → Filled → Type 0
Fills old new before after filled.Some =
    (more : List ℕ) × Consumes old new more × (after ≡ before ++ more) × (1 ≤ length more)
Fills old new before after filled.End = Keeps old new × IsAtEnd new × (after ≡ before)
Fills old new before after filled.Failed = Keeps old new × (after ≡ before)
Fills old new before after filled.Memory = Keeps old new × (after ≡ before)

-- the count of faults did not fall; it rose where the source failed, and is the same where it did not
pub record HasFillCause (before now : ℕ) (result : Filled) : Type 0 where
  pub later : before ≤ now
  pub failed : result ≡ filled.Failed → Rose before now
  pub answered : result ≢ filled.Failed → now ≡ before

-- the bytes that stood between two places stand between two others now, with room behind them
pub record HasRoom (old : List ℕ) (from to : ℕ) (new : List ℕ) (place : ℕ × ℕ) : Type 0 where
  pub same : drop place.0 (take place.1 new) ≡ drop from (take to old)
  pub ordered : place.0 ≤ place.1
  pub room : place.1 < length new
  pub most : length new ≤ HEAD_MAX
