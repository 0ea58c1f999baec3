-- Fetches by their positions: where each began and was ended, and what has hit it since.
use Rattle.std.specs.Prelude.{◌≡◌, ℕ, ◌+◌, ◌<◌, true, List, [], ◌∷◌, ◌++◌, length, All, None, Some}
use Rattle.std.specs.declared.option.Option.{Option}
use Rattle.metadata_objects.specs.LevelData.{Index}
use Rattle.targets.specs.declared.endpoint.Endpoint.{Endpoint}
use Rattle.targets.specs.declared.target.Target.{Target}
use Rattle.trigger_command.specs.Selection.{Hits}
use Rattle.upstream_gate.specs.Got.{GotParts}
use Rattle.upstream_gate.specs.declared.outcome.Outcome.TheVariants as outcome
use Rattle.history.specs.After.{begun_fetch}
use Rattle.history.specs.Event.{Entry, Event, History, Admit, Advance, FetchEnd}
use Rattle.history.specs.History.{AnsweredAt, world_of}
use Rattle.history.specs.Laws.{IsOpen}
use Rattle.history.specs.Metadata.{ccid_at, key_at, plan_at}
use Rattle.history.specs.Steps.{index_of}
use Rattle.history.specs.World.{Made}
use Rattle.history.specs.declared.begun.Fetching.{Fetching}
use Rattle.history.specs.declared.reply.Reply.{Reply}
use Rattle.history.specs.declared.reply.Reply.TheVariants as reply
use Rattle.delivery_law.specs.Starts.{NoneTookBack}

-- the metadata that is installed after the history
abbrev pub index_after : Made → History → Option Index
index_after made h = index_of (world_of made h).delivering

-- what the fetch that begins here fetches: the target of the request, or that of the trigger's URL
abbrev pub fetched_target : Event → Reply → Option Target
fetched_target (Admit request moment) (reply.Miss delivery fetch plan) = Some request.asked.target
fetched_target (Advance id moment) (reply.Fetch fetch plan target) = Some target
fetched_target event answer = None

-- at this position this pass began this fetch, and its key and its collection are those that the metadata which was
-- installed then gives its target
pub record FetchBegan (made : Made) (h : History) (at pass fetch : ℕ) (what : Fetching) : Type 0 where
  pub event : Event
  pub answer : Reply
  pub answered : AnsweredAt made h at (pass, event) answer
  pub number : begun_fetch answer ≡ Some fetch
  pub target : Target
  pub targeted : fetched_target event answer ≡ Some target
  pub key : what.key ≡ key_at (index_after made answered.before) target
  pub ccid : what.ccid ≡ ccid_at (index_after made answered.before) target

-- at this position this pass ended this fetch, which it had open, with status 200 and this content, and it was kept
pub record FetchBrought (made : Made) (h : History) (at pass fetch : ℕ) (kind body : List ℕ) : Type 0 where
  pub got : GotParts
  pub moment : ℕ
  pub answered : AnsweredAt made h at (pass, FetchEnd fetch (outcome.Got got) moment) (reply.Ended true)
  pub was_open : IsOpen fetch pass (world_of made answered.before).delivering.fetches
  pub status : got.status ≡ 200
  pub kind_is : got.kind ≡ kind
  pub body_is : got.body ≡ body

-- no start after this position hits the key or the collection
abbrev pub NoStartHits : Made → History → ℕ → Fetching → Type 0
NoStartHits made h at what = All (λ start. at < start.at → Hits start.selection what.key what.ccid → ⊥)
    (world_of made h).delivering.starts

-- this fetch began, and the pass that began it ended it later with this content, and no start since it began hits it
pub record Fetched (made : Made) (h : History) (fetch : ℕ) (what : Fetching) (kind body : List ℕ) : Type 0 where
  pub pass : ℕ
  pub began : ℕ
  pub ended : ℕ
  pub in_order : began < ended
  pub begun : FetchBegan made h began pass fetch what
  pub brought : FetchBrought made h ended pass fetch kind body
  pub unhit : NoStartHits made h began what

-- the content is what one fetch brought, the key of that fetch is the key of the target, and no invalidate or purge that
-- became active since it began hits it
pub record IsOfOneFetch (made : Made) (h : History) (target : Target) (fetch : ℕ) (kind body : List ℕ) : Type 0 where
  pub what : Fetching
  pub fetched : Fetched made h fetch what kind body
  pub key : what.key ≡ key_at (index_after made h) target
  pub untaken : NoneTookBack made h fetched.began what

-- the entry begins this fetch at its own position, for the key and the collection of the target, from the endpoints of
-- the effective sources; it is then the last of those that are open; and nothing is kept under the key
pub record BeginsItsFetch (made : Made) (h : History) (entry : Entry) (target : Target) (fetch : ℕ)
    (plan : List Endpoint) : Type 0 where
  pub what : Fetching
  pub key : what.key ≡ key_at (index_after made h) target
  pub ccid : what.ccid ≡ ccid_at (index_after made h) target
  pub begun : FetchBegan made (h ++ entry ∷ []) (length h + 1) entry.0 fetch what
  pub opened : (world_of made (h ++ entry ∷ [])).delivering.fetches ≡ (world_of made h).delivering.fetches
      ++ record { number = fetch; pass = entry.0; at = length h + 1; what = what } ∷ []
  pub sources : plan ≡ plan_at (index_after made h) target
  pub none_kept : All (λ kept. kept.key ≡ what.key → ⊥) (world_of made h).delivering.kept
