-- What passes through a session, or through a part of it.
use Rattle.std.specs.Prelude.{◌≡◌, ℕ, List, [], ◌∷◌, ◌++◌}
use Rattle.std.specs.declared.option.Option.{Option}
use Rattle.std.specs.Io.KnownBytes.{Appends}
use Rattle.edge_base.specs.Clock.{Grows}
use Rattle.history.specs.Event.{Event, History}
use Rattle.history.specs.History.{reply_to}
use Rattle.history.specs.declared.reply.Reply.{Reply}
use Rattle.node_core.specs.Home.{AreOthers, Who}
use Rattle.upstream_gate.specs.Outcome.{Exchange}

-- a call of the home, and its answer
abbrev pub Called : Type 0
Called = Event × Reply

-- the bytes taken from the source, the moments that the clock gave, the exchanges of the gate, the bytes that the sink
-- took, and the calls of the home
pub record Doing : Type 0 where
  pub bytes : List ℕ
  pub moments : List ℕ
  pub exchanges : List Exchange
  pub written : List ℕ
  pub calls : List Called

abbrev pub nothing : Doing
nothing = record { bytes = []; moments = []; exchanges = []; written = []; calls = [] }

-- one after the other
abbrev pub then : Doing → Doing → Doing
then d e = record {
  bytes = d.bytes ++ e.bytes;
  moments = d.moments ++ e.moments;
  exchanges = d.exchanges ++ e.exchanges;
  written = d.written ++ e.written;
  calls = d.calls ++ e.calls;
}

-- From this history on these calls were made one after the other, each answered as the history before it says. Calls of
-- other passes may stand before, between and behind them.
abbrev pub Told : Who → History → List Called → History → Type 0
Told who h [] last = (others : History) × AreOthers who.number others × (last ≡ h ++ others)
Told who h (call ∷ calls) last = (others : History) × AreOthers who.number others
    × (call.1 ≡ reply_to who.made (h ++ others) (who.number, call.0))
    × Told who ((h ++ others) ++ (who.number, call.0) ∷ []) calls last

-- so they were made after each history that the home had seen and that fulfils the condition
abbrev pub Makes : Who → (History → Type 0) → (History → Type 0) → (History → Type 0) → List Called → Type 0
Makes who needs old new calls = (h : History) → old h → needs h → (last : History) × Told who h calls last × new last

-- nothing is needed
abbrev pub Any : History → Type 0
Any h = Unit {0}

-- What a clock, a gate, a sink and a home tell of what passed, each before and behind it; the home where its history
-- fulfils the condition.
pub record Does (who : Who) (needs seen seen' : History → Type 0) (given given' : Option (List ℕ)) (told told' : Option (List Exchange)) (held held' : Option (List ℕ)) (d : Doing) : Type 0 where
  pub moments : Grows given given' d.moments
  pub exchanges : Grows told told' d.exchanges
  pub written : Appends held held' d.written
  pub calls : Makes who needs seen seen' d.calls
