-- What passes in a refresh.
use Rattle.std.proofs.Common.{◌≡◌, ℕ, List, [], ◌∷◌, refl, sym, subst, None, Option}
use Rattle.edge_base.specs.Clock.{Grows}
use Rattle.history.specs.After.{begun_refresh}
use Rattle.history.specs.Event.{History, RefreshBegin, RefreshEnd}
use Rattle.history.specs.Laws.{ends_refresh}
use Rattle.history.specs.declared.reply.Reply.{Reply}
use Rattle.history.specs.declared.reply.Reply.TheVariants as reply
use Rattle.metadata_objects.specs.Tree.{TreeData}
use Rattle.node_core.specs.Home.{Who}
use Rattle.targets.specs.declared.target.Target.{Target}
use Rattle.upstream_gate.specs.Outcome.{Exchange}
use Rattle.upstream_gate.proofs.PlanLemmas.{grows_none}
use Rattle.session_base.specs.Doing.{Called, Doing, nothing, Makes, Any, Does}
use Rattle.session_base.specs.Moment.{capped}
use Rattle.session_base.specs.Open.{OpenRefresh}
use Rattle.content_request.specs.Refresh.{Refreshing, Gathered, Ungathered, IsGathered, Refreshes, refresh_calls, refresh_moments, refresh_exchanges, refreshed_by}
use Rattle.content_request.specs.declared.refresh.Refreshed.{Refreshed}
use Rattle.session_base.proofs.DoingLemmas.{does_then, for_who}
use Rattle.session_base.proofs.OpenLemmas.{is_opened, own_refresh}

-- what is told of a refresh
abbrev pub Refreshed_by : Who → (History → Type 0) → (History → Type 0) → Option (List ℕ) → Option (List ℕ) → Option (List Exchange) → Option (List Exchange) → Target → ℕ → Refreshed → Type 0
Refreshed_by who a b g g' t t' root moment result = (d : Doing) × Refreshes root moment d result × Does who Any a b g g' t t' None None d

-- none was begun that is to be ended
pub not_begun : (who : Who) (a b : History → Type 0) (g : Option (List ℕ)) (t : Option (List Exchange)) (root : Target) (moment : ℕ) (how : Refreshing) → refresh_moments how ≡ [] → refresh_exchanges how ≡ [] → IsGathered root how
    → Makes who Any a b (refresh_calls moment how) → Refreshed_by who a b g g t t root moment (refreshed_by how)
not_begun who a b g t root moment how moments exchanges gathered makes = (
  record { bytes = []; moments = refresh_moments how; exchanges = refresh_exchanges how; written = []; calls = refresh_calls moment how },
  record { how = how; gathered = gathered; is = refl; result_is = refl },
  record { moments = subst (Grows g g) (sym moments) (grows_none g); exchanges = subst (Grows t t) (sym exchanges) (grows_none t); written = tt; calls = makes },
)

-- one was begun and ended
begun : (who : Who) (a b c : History → Type 0) (g g' : Option (List ℕ)) (t t' : Option (List Exchange)) (root : Target) (moment refresh : ℕ) (made : List Exchange) (tree : Option TreeData) (at : ℕ) (line : Reply) (how : Refreshing)
    → refresh_moments how ≡ at ∷ [] → refresh_exchanges how ≡ made → refresh_calls moment how ≡ (RefreshBegin moment, reply.Due refresh) ∷ (RefreshEnd refresh tree (capped at), line) ∷ [] → IsGathered root how
    → Makes who Any a b ((RefreshBegin moment, reply.Due refresh) ∷ []) → Grows t t' made → Grows g g' (at ∷ []) → (v : Who) → v ≡ who → Makes v (OpenRefresh v refresh) b c ((RefreshEnd refresh tree (capped at), line) ∷ [])
    → Refreshed_by who a c g g' t t' root moment (refreshed_by how)
begun who a b c g g' t t' root moment refresh made tree at line how moments exchanges calls gathered begins asks read v same ends_there =
    let ends = for_who v who same (λ (w : Who). OpenRefresh w refresh) b c ((RefreshEnd refresh tree (capped at), line) ∷ []) ends_there in
    let first : Called = (RefreshBegin moment, reply.Due refresh) in
    let second : Called = (RefreshEnd refresh tree (capped at), line) in
    let both : Makes who Any a c (first ∷ second ∷ []) = (does_then who Any (OpenRefresh who refresh) a b c None None None None None None None None None (record nothing { calls = first ∷ [] }) (record nothing { calls = second ∷ [] })
    (record { moments = tt; exchanges = tt; written = tt; calls = begins }) (record { moments = tt; exchanges = tt; written = tt; calls = ends })
    (λ h last need told. is_opened begun_refresh ends_refresh own_refresh who refresh first h last refl told)).calls in (
      record { bytes = []; moments = refresh_moments how; exchanges = refresh_exchanges how; written = []; calls = refresh_calls moment how },
      record { how = how; gathered = gathered; is = refl; result_is = refl },
      record { moments = subst (Grows g g') (sym moments) read; exchanges = subst (Grows t t') (sym exchanges) asks; written = tt; calls = subst (Makes who Any a c) (sym calls) both },
    )

pub gathered : (who : Who) (a b c : History → Type 0) (g g' : Option (List ℕ)) (t t' : Option (List Exchange)) (root : Target) (moment refresh : ℕ) (made : List Exchange) (tree : Option TreeData) (at : ℕ) (line : Reply)
    → IsGathered root (Gathered refresh made tree at line) → Makes who Any a b ((RefreshBegin moment, reply.Due refresh) ∷ []) → Grows t t' made → Grows g g' (at ∷ []) → (v : Who) → v ≡ who → Makes v (OpenRefresh v refresh) b c ((RefreshEnd refresh tree (capped at), line) ∷ [])
    → Refreshed_by who a c g g' t t' root moment (refreshed_by (Gathered refresh made tree at line))
gathered who a b c g g' t t' root moment refresh made tree at line is begins asks read v same ends =
    begun who a b c g g' t t' root moment refresh made tree at line (Gathered refresh made tree at line) refl refl refl is begins asks read v same ends

pub ungathered : (who : Who) (a b c : History → Type 0) (g g' : Option (List ℕ)) (t t' : Option (List Exchange)) (root : Target) (moment refresh : ℕ) (made : List Exchange) (at : ℕ) (line : Reply)
    → IsGathered root (Ungathered refresh made at line) → Makes who Any a b ((RefreshBegin moment, reply.Due refresh) ∷ []) → Grows t t' made → Grows g g' (at ∷ []) → (v : Who) → v ≡ who → Makes v (OpenRefresh v refresh) b c ((RefreshEnd refresh None (capped at), line) ∷ [])
    → Refreshed_by who a c g g' t t' root moment (refreshed_by (Ungathered refresh made at line))
ungathered who a b c g g' t t' root moment refresh made at line is begins asks read v same ends =
    begun who a b c g g' t t' root moment refresh made None at line (Ungathered refresh made at line) refl refl refl is begins asks read v same ends
