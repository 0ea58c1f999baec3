-- The steps of a trigger, one after the other.
use Rattle.std.proofs.Common.{◌≡◌, ◌≤◌, ℕ, arith, List, [], ◌∷◌, ◌++◌, refl, sym, ◌∙◌, ap, subst, None, inl, inr}
use Rattle.std.specs.declared.option.Option.{Option}
use Rattle.edge_base.specs.Causes.{Rose}
use Rattle.edge_base.specs.Clock.{Grows}
use Rattle.history.specs.After.{begun_fetch, begun_refresh}
use Rattle.history.specs.Event.{Event, History, Advance, FetchEnd, RefreshEnd}
use Rattle.history.specs.Laws.{ends_fetch, ends_refresh}
use Rattle.history.specs.declared.reply.Reply.{Reply}
use Rattle.history.specs.declared.reply.Reply.TheVariants as reply
use Rattle.metadata_objects.specs.Tree.{TreeData}
use Rattle.node_core.specs.Home.{Who, IsAnswered, IsUnanswered}
use Rattle.targets.specs.declared.endpoint.Endpoint.{Endpoint}
use Rattle.targets.specs.declared.target.Target.{Target}
use Rattle.upstream_gate.specs.Outcome.{Exchange}
use Rattle.upstream_gate.specs.Plan.{origin_form, Asked as IsAsked}
use Rattle.upstream_gate.specs.declared.outcome.Outcome.{Outcome}
use Rattle.upstream_gate.specs.declared.outcome.Outcome.TheVariants as outcome
use Rattle.upstream_gate.proofs.PlanLemmas.{grows_none}
use Rattle.session_base.specs.Doing.{Called, Doing, nothing, then, Told, Makes, Any, Does}
use Rattle.session_base.specs.GateFaults.{CountsFaults}
use Rattle.session_base.specs.Moment.{capped}
use Rattle.session_base.specs.Open.{OpenFetch, OpenRefresh}
use Rattle.session_base.proofs.DoingLemmas.{does_nothing, does_on, does_then, made_none, made_one}
use Rattle.session_base.proofs.GateFaultLemmas.{counts_fetch, counts_none, counts_other, counts_then}
use Rattle.session_base.proofs.OpenLemmas.{is_opened, own_fetch, own_refresh}
use Rattle.control_request.specs.Advance.{AdvanceStep, Advances, Behind, FetchesFor, IsBrought, RefreshesFor, Steps, advanced, step_after}
use Rattle.control_request.specs.declared.advance.Step.{Step}
use Rattle.control_request.specs.declared.advance.Step.TheVariants as step

-- what is told of something that passes without bytes
abbrev pub Passes : (Doing → Type 0) → Who → (History → Type 0) → (History → Type 0) → (History → Type 0) → Option (List ℕ) → Option (List ℕ) → Option (List Exchange) → Option (List Exchange) → ℕ → ℕ → Type 0
Passes Is who needs a b g g' t t' f f' = (d : Doing) × Is d × Does who needs a b g g' t t' None None d × CountsFaults f f' d.calls

-- a fetch was asked for and ended
pub fetches_for : (who : Who) (a b : History → Type 0) (g g' : Option (List ℕ)) (t t' : Option (List Exchange)) (f f' : ℕ) (fetch : ℕ) (plan : List Endpoint) (target : Target) (made : List Exchange) (how : Outcome) (ended : ℕ) (line : Reply) (after : Step)
    → IsAsked (origin_form target) plan made how → Grows t t' made → Grows g g' (ended ∷ []) → Makes who (OpenFetch who fetch) a b ((FetchEnd fetch how (capped ended), line) ∷ []) → after ≡ step_after how → f ≤ f' → (how ≡ outcome.Failed → Rose f f')
    → Passes (λ d. FetchesFor fetch plan target d after) who (OpenFetch who fetch) a b g g' t t' f f'
fetches_for who a b g g' t t' f f' fetch plan target made how ended line after asked asks read makes goes later failed = (
  record { bytes = []; moments = ended ∷ []; exchanges = made; written = []; calls = (FetchEnd fetch how (capped ended), line) ∷ [] },
  record { made = made; how = how; ended = ended; line = line; asked = asked; is = refl; goes = goes },
  record { moments = read; exchanges = asks; written = tt; calls = makes },
  counts_fetch f f' fetch how (capped ended) line later failed,
)

-- the metadata was gathered, and its refresh ended
pub refreshes_for : (who : Who) (a b : History → Type 0) (g g' : Option (List ℕ)) (t t' : Option (List Exchange)) (f f' : ℕ) (root : Target) (refresh : ℕ) (made : List Exchange) (tree : Option TreeData) (ended : ℕ) (line : Reply) (after : Step)
    → IsBrought root made tree after → Grows t t' made → Grows g g' (ended ∷ []) → Makes who (OpenRefresh who refresh) a b ((RefreshEnd refresh tree (capped ended), line) ∷ []) → f ≤ f'
    → Passes (λ d. RefreshesFor root refresh d after) who (OpenRefresh who refresh) a b g g' t t' f f'
refreshes_for who a b g g' t t' f f' root refresh made tree ended line after brought asks read makes later = (
  record { bytes = []; moments = ended ∷ []; exchanges = made; written = []; calls = (RefreshEnd refresh tree (capped ended), line) ∷ [] },
  record { made = made; tree = tree; ended = ended; line = line; brought = brought; is = refl },
  record { moments = read; exchanges = asks; written = tt; calls = makes },
  counts_other f f' (RefreshEnd refresh tree (capped ended), line) later refl,
)

-- ---- one step

-- the clock was read, and the call was answered
pub called_at : (who : Who) (a b : History → Type 0) (id read moment : ℕ) (r s : Reply) → r ≡ s → moment ≡ capped read → ((h : History) → a h → IsAnswered who h (Advance id moment) r b) → Makes who Any a b (advanced id read s ∷ [])
called_at who a b id read moment r s same at seen =
    subst (λ (m : ℕ). Makes who Any a b ((Advance id m, s) ∷ [])) at (subst (λ (x : Reply). Makes who Any a b ((Advance id moment, x) ∷ [])) same (made_one who a b (Advance id moment) r seen))

-- behind that something passed
moved : (who : Who) (needs a b c : History → Type 0) (g g' g'' : Option (List ℕ)) (t t' : Option (List Exchange)) (f f' : ℕ) (root : Target) (id read : ℕ) (answer : Reply) (behind : Doing) (after : Step)
    → Grows g g' (read ∷ []) → Makes who Any a b (advanced id read answer ∷ []) → ((h last : History) → Told who h (advanced id read answer ∷ []) last → needs last)
    → Behind root answer behind after → Does who needs b c g' g'' t t' None None behind → CountsFaults f f' behind.calls → Passes (λ d. AdvanceStep root id d after) who Any a c g g'' t t' f f'
moved who needs a b c g g' g'' t t' f f' root id read answer behind after grows makes leaves follows does counts =
    let first : Doing = record nothing { moments = read ∷ []; calls = advanced id read answer ∷ [] } in (
      then first behind,
      inr (record { at = read; answer = answer; behind = behind; follows = follows; is = refl }),
      does_then who Any needs a b c g g' g'' t t t' None None None first behind (record { moments = grows; exchanges = grows_none t; written = tt; calls = makes }) does (λ h last need told. leaves h last told),
      counts_then f f f' first.calls behind.calls (counts_other f f (advanced id read answer) (omega arith) refl) counts,
    )

-- nothing passed behind it
pub only_moved : (who : Who) (a b : History → Type 0) (g g' : Option (List ℕ)) (t : Option (List Exchange)) (f : ℕ) (root : Target) (id read : ℕ) (answer : Reply) (after : Step)
    → Grows g g' (read ∷ []) → Makes who Any a b (advanced id read answer ∷ []) → Behind root answer nothing after → Passes (λ d. AdvanceStep root id d after) who Any a b g g' t t f f
only_moved who a b g g' t f root id read answer after grows makes follows =
    moved who Any a b b g g' g' t t f f root id read answer nothing after grows makes (λ h last told. tt) follows (does_nothing who Any b g' t None) (counts_none f)

-- a fetch was begun
pub moved_fetch : (who : Who) (a b c : History → Type 0) (g g' g'' : Option (List ℕ)) (t t' : Option (List Exchange)) (f f' : ℕ) (root : Target) (id read fetch : ℕ) (plan : List Endpoint) (target : Target) (after : Step)
    → Grows g g' (read ∷ []) → Makes who Any a b (advanced id read (reply.Fetch fetch plan target) ∷ []) → (v : Who) → v ≡ who → Passes (λ d. FetchesFor fetch plan target d after) v (OpenFetch v fetch) b c g' g'' t t' f f'
    → Passes (λ d. AdvanceStep root id d after) who Any a c g g'' t t' f f'
moved_fetch who a b c g g' g'' t t' f f' root id read fetch plan target after grows makes v same there =
    let p = subst (λ (w : Who). Passes (λ d. FetchesFor fetch plan target d after) w (OpenFetch w fetch) b c g' g'' t t' f f') same there in
    moved who (OpenFetch who fetch) a b c g g' g'' t t' f f' root id read (reply.Fetch fetch plan target) p.0 after grows makes
    (λ h last told. is_opened begun_fetch ends_fetch own_fetch who fetch (advanced id read (reply.Fetch fetch plan target)) h last refl told) p.1 p.2 p.3

-- a refresh was begun
pub moved_refresh : (who : Who) (a b c : History → Type 0) (g g' g'' : Option (List ℕ)) (t t' : Option (List Exchange)) (f f' : ℕ) (root : Target) (id read refresh : ℕ) (after : Step)
    → Grows g g' (read ∷ []) → Makes who Any a b (advanced id read (reply.Refresh refresh) ∷ []) → (v : Who) → v ≡ who → Passes (λ d. RefreshesFor root refresh d after) v (OpenRefresh v refresh) b c g' g'' t t' f f'
    → Passes (λ d. AdvanceStep root id d after) who Any a c g g'' t t' f f'
moved_refresh who a b c g g' g'' t t' f f' root id read refresh after grows makes v same there =
    let p = subst (λ (w : Who). Passes (λ d. RefreshesFor root refresh d after) w (OpenRefresh w refresh) b c g' g'' t t' f f') same there in
    moved who (OpenRefresh who refresh) a b c g g' g'' t t' f f' root id read (reply.Refresh refresh) p.0 after grows makes
    (λ h last told. is_opened begun_refresh ends_refresh own_refresh who refresh (advanced id read (reply.Refresh refresh)) h last refl told) p.1 p.2 p.3

-- no memory was found for the call
pub lacked : (who : Who) (a b : History → Type 0) (g g' : Option (List ℕ)) (t : Option (List Exchange)) (f : ℕ) (root : Target) (id read : ℕ)
    → Grows g g' (read ∷ []) → ((h : History) → a h → IsUnanswered who h b) → Passes (λ d. AdvanceStep root id d step.Memory) who Any a b g g' t t f f
lacked who a b g g' t f root id read grows seen = (
  record nothing { moments = read ∷ [] },
  inl (record { at = read; is = refl; goes = refl }),
  record { moments = grows; exchanges = grows_none t; written = tt; calls = made_none who a b seen },
  counts_none f,
)

-- ---- all steps

-- what was done so far: what is told of the rest is told of all
pub record SoFar (root : Target) (id : ℕ) (who : Who) (a b : History → Type 0) (g g' : Option (List ℕ)) (t t' : Option (List Exchange)) (f f' : ℕ) : Type 0 where
  pub done : Doing
  pub steps : (ds : List Doing) (last : Step) (all : Doing) → Steps root id done ds last all → Advances root id all last
  pub does : Does who Any a b g g' t t' None None done
  pub counts : CountsFaults f f' done.calls

pub begins : (root : Target) (id : ℕ) (who : Who) (a : History → Type 0) (g : Option (List ℕ)) (t : Option (List Exchange)) (f : ℕ) → SoFar root id who a a g g t t f f
begins root id who a g t f = record { done = nothing; steps = λ ds last all s. (ds, s); does = does_nothing who Any a g t None; counts = counts_none f }

pub goes_on : (root : Target) (id : ℕ) (who : Who) (a b c : History → Type 0) (g g' g'' : Option (List ℕ)) (t t' t'' : Option (List Exchange)) (f f' f'' : ℕ)
    → SoFar root id who a b g g' t t' f f' → (v : Who) → v ≡ who → Passes (λ d. AdvanceStep root id d step.Goes) v Any b c g' g'' t' t'' f' f'' → SoFar root id who a c g g'' t t'' f f''
unfolding Steps
goes_on root id who a b c g g' g'' t t' t'' f f' f'' so v same there =
    let p = subst (λ (w : Who). Passes (λ d. AdvanceStep root id d step.Goes) w Any b c g' g'' t' t'' f' f'') same there in
    record {
      done = then so.done p.0;
      steps = λ ds last all s. so.steps (p.0 ∷ ds) last all (step.Goes, p.1, s);
      does = does_on who Any a b c g g' g'' t t' t'' None None None so.done p.0 so.does p.2;
      counts = counts_then f f' f'' so.done.calls p.0.calls so.counts p.3;
    }

pub rests : (root : Target) (id : ℕ) (who : Who) (a b c : History → Type 0) (g g' g'' : Option (List ℕ)) (t t' t'' : Option (List Exchange)) (f f' f'' : ℕ)
    → SoFar root id who a b g g' t t' f f' → (v : Who) → v ≡ who → Passes (λ d. AdvanceStep root id d step.Rests) v Any b c g' g'' t' t'' f' f'' → Passes (λ d. Advances root id d step.Rests) who Any a c g g'' t t'' f f''
unfolding Steps
rests root id who a b c g g' g'' t t' t'' f f' f'' so v same there =
    let p = subst (λ (w : Who). Passes (λ d. AdvanceStep root id d step.Rests) w Any b c g' g'' t' t'' f' f'') same there in
    (then so.done p.0, so.steps (p.0 ∷ []) step.Rests (then so.done p.0) (step.Rests, p.1, (refl, refl, refl)), does_on who Any a b c g g' g'' t t' t'' None None None so.done p.0 so.does p.2, counts_then f f' f'' so.done.calls p.0.calls so.counts p.3)

pub falls_short : (root : Target) (id : ℕ) (who : Who) (a b c : History → Type 0) (g g' g'' : Option (List ℕ)) (t t' t'' : Option (List Exchange)) (f f' f'' : ℕ)
    → SoFar root id who a b g g' t t' f f' → (v : Who) → v ≡ who → Passes (λ d. AdvanceStep root id d step.Memory) v Any b c g' g'' t' t'' f' f'' → Passes (λ d. Advances root id d step.Memory) who Any a c g g'' t t'' f f''
unfolding Steps
falls_short root id who a b c g g' g'' t t' t'' f f' f'' so v same there =
    let p = subst (λ (w : Who). Passes (λ d. AdvanceStep root id d step.Memory) w Any b c g' g'' t' t'' f' f'') same there in
    (then so.done p.0, so.steps (p.0 ∷ []) step.Memory (then so.done p.0) (step.Memory, p.1, (refl, refl, refl)), does_on who Any a b c g g' g'' t t' t'' None None None so.done p.0 so.does p.2, counts_then f f' f'' so.done.calls p.0.calls so.counts p.3)
