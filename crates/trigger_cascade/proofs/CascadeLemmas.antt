-- How passing a trigger command on ends.
use Rattle.std.proofs.Common.{◌≡◌, ◌⊎◌, ℕ, ◌+◌, ◌≤◌, min, List, [], ◌∷◌, ◌++◌, All, map, length, take, drop, None, Some, Ok, Err, IfOk, OnErr, refl, sym, ◌∙◌, ap, subst, inl, inr, arith, Bool, true, false, if◌then◌else◌}
use Rattle.std.specs.declared.option.Option.{Option}
use Rattle.std.specs.declared.result.Result.{Result}
use Rattle.cdni_base.specs.declared.provider.ProviderId.{ProviderId}
use Rattle.edge_base.specs.Clock.{Grows}
use Rattle.edge_base.specs.declared.causes.TheConstants.{MOST_FAULTS}
use Rattle.std.proofs.lemmas.List.{append-nil, drop_all, take_all, length-map}
use Rattle.std.proofs.lemmas.List.Sums.{sum_by-append}
use Rattle.trigger_cascade.specs.Cascade.{passed_text, EndsAt, HasCauseOf, IsCut, IsJoined, LinkTold, PassesOn, Ran, Runs, Told}
use Rattle.trigger_cascade.specs.Task.{IsRead}
use Rattle.trigger_cascade.specs.declared.cascade.CascadeEnd.{CascadeEnd}
use Rattle.trigger_cascade.specs.declared.cascade.CascadeEnd.TheVariants as end
use Rattle.trigger_cascade.specs.declared.task.Task.TheVariants.{PassOn}
use Rattle.trigger_cascade.specs.Cdn.{fault_count, fault_of, AreWaiting, IsWaiting}
use Rattle.trigger_cascade.specs.OrderParts.{OrderParts}
use Rattle.trigger_cascade.specs.Passing.{is_named, started, Counts, Passes}
use Rattle.trigger_cascade.specs.Report.{report}
use Rattle.trigger_cascade.specs.declared.cdn.Cdn.{Cdn}
use Rattle.trigger_cascade.specs.declared.cdn.Standing.{Standing}
use Rattle.trigger_cascade.specs.declared.cdn.Standing.TheVariants as standing
use Rattle.trigger_cascade.specs.declared.link.LinkCall.{LinkCall}
use Rattle.trigger_command.specs.Spec.{SpecParts}

pub grows_none : {A : Type 0} (told : Option (List A)) → Grows told told []
grows_none (Some told) = sym (append-nil told)
grows_none None = tt

-- what is told of the link
abbrev pub linked : Option (List LinkCall) → ℕ → LinkTold
linked calls faults = record { calls = calls; faults = faults }

-- no memory was found before the first call
pub cut_first : (order : OrderParts) (path : List ProviderId) (spec : SpecParts) (calls : Option (List LinkCall)) (faults : ℕ) → IsCut order path spec (linked calls faults) (linked calls faults)
cut_first order path spec calls faults = record { made = []; told = grows_none calls; last = None; runs = inl refl }

-- at the start none has a fault
no_fault : (path : List ProviderId) (cdn : Cdn) (named : Bool) → IsWaiting cdn.standing → fault_of (if named then record cdn { standing = standing.Skipped } else cdn).standing ≡ 0
no_fault path cdn true waits = refl
no_fault path cdn false waits = waiting_fault cdn.standing waits where
  waiting_fault : (standing : Standing) → IsWaiting standing → fault_of standing ≡ 0
  waiting_fault standing.Waiting waits = refl
  waiting_fault standing.Skipped waits = refl
  waiting_fault (standing.Took place last) waits = refl
  waiting_fault (standing.Refused status) waits = refl
  waiting_fault standing.Malformed waits = refl
  waiting_fault standing.Unreadable waits = refl
  waiting_fault standing.Fault waits = absurd waits

pub no_faults : (path : List ProviderId) (cdns : List Cdn) → AreWaiting cdns → fault_count (map (started path) cdns) ≡ 0
no_faults path [] waits = refl
no_faults path (cdn ∷ cdns) waits =
    let first = no_fault path cdn (is_named path cdn.id) waits.0 in
    let others = no_faults path cdns waits.1 in
    let sum : fault_count (map (started path) (cdn ∷ cdns)) ≡ (0 + fault_of (started path cdn).standing) + fault_count (map (started path) cdns) =
    sum_by-append (λ (x : Cdn). fault_of x.standing) (started path cdn ∷ []) (map (started path) cdns) in
    omega (arith, first, others, sum)

within_count : (most before now some : ℕ) (none : ℕ) → none ≡ 0 → min (before + some) (most + none) ≤ now + none → min (before + some) most ≤ now
within_count most before now some none zero counts = omega arith

module _ (order : OrderParts) (path : List ProviderId) (spec : SpecParts) (waits : AreWaiting order.cdns) (before after : Option (List LinkCall)) (fewer faults : ℕ)
    (body : List ℕ) (start cdns : List Cdn) (written : body ≡ passed_text order path spec) (begun : start ≡ map (started path) order.cdns)
    (made : List LinkCall) (told : Grows before after made) where
  runs_by : (last : Option (List Cdn)) → Passes body (order.rounds + 1) start made last → Runs order path spec made last
  runs_by last passes =
      subst (λ (text : List ℕ). Passes text (order.rounds + 1) (map (started path) order.cdns) made last) written
      (subst (λ (xs : List Cdn). Passes body (order.rounds + 1) xs made last) begun passes)

  pub joined_by : Passes body (order.rounds + 1) start made (Some cdns) → Counts fewer faults start cdns
      → IsJoined order path spec (linked before fewer) (linked after faults) cdns
  joined_by passes counts = record {
    made = made;
    told = told;
    runs = runs_by (Some cdns) passes;
    faults = within_count MOST_FAULTS fewer faults (fault_count cdns) (fault_count start) (ap fault_count begun ∙ no_faults path order.cdns waits) counts.1;
  }

  pub cut_by : (last : Option (List Cdn)) → Passes body (order.rounds + 1) start made last → IsCut order path spec (linked before fewer) (linked after faults)
  cut_by last passes = record { made = made; told = told; last = last; runs = inr (runs_by last passes) }

-- the rounds of an order were made
pub joined_of : {T E : Type 0} (items : T → List ℕ) (order : OrderParts) (path : List ProviderId) (spec : SpecParts) → AreWaiting order.cdns → (before after : LinkTold)
    (body : List ℕ) (start : List Cdn) → body ≡ passed_text order path spec → start ≡ map (started path) order.cdns → (result : Result T E)
    → IfOk result (λ text. (last : List Cdn) × Ran body order.rounds start before after last × (items text ≡ report last))
    → IfOk result (λ text. (last : List Cdn) × IsJoined order path spec before after last × (items text ≡ report last))
joined_of items order path spec waits before after body start written begun (Ok text) ran = (
  ran.0,
  joined_by order path spec waits before.calls after.calls before.faults after.faults body start ran.0 written begun ran.1.made ran.1.told ran.1.passes ran.1.counts,
  ran.2,
)
joined_of items order path spec waits before after body start written begun (Err wrong) ran = tt

pub cut_of : {T E : Type 0} (order : OrderParts) (path : List ProviderId) (spec : SpecParts) → AreWaiting order.cdns → (before after : LinkTold)
    (body : List ℕ) (start : List Cdn) → body ≡ passed_text order path spec → start ≡ map (started path) order.cdns → (result : Result T E)
    → OnErr result ((last : Option (List Cdn)) × (made : List LinkCall) × Grows before.calls after.calls made × Passes body (order.rounds + 1) start made last)
    → OnErr result (IsCut order path spec before after)
cut_of order path spec waits before after body start written begun (Ok text) ran = tt
cut_of order path spec waits before after body start written begun (Err wrong) ran =
    cut_by order path spec waits before.calls after.calls before.faults after.faults body start start written begun ran.1 ran.2 ran.0 ran.3

pub on_err : {T E P : Type 0} (result : Result T E) → P → OnErr result P
on_err (Ok done) so = tt
on_err (Err wrong) so = so

-- a vector whose elements were written all at once
pub written_back : (n : ℕ) (items before new made : List Cdn) (path : List ProviderId) → length items ≡ n → before ≡ items → new ≡ map (started path) before
    → made ≡ take n (new ++ drop (length new) items) → made ≡ map (started path) items
written_back n items before new made path all first next last =
    let long : length new ≡ n = ap length (next ∙ ap (map (started path)) first) ∙ length-map items (started path) ∙ all in
    let over : length items ≤ length new = omega (arith, all, long) in
    last ∙ ap (λ rest. take n (new ++ rest)) (drop_all (length new) items over) ∙ ap (λ xs. take n xs) (append-nil new)
    ∙ take_all n new (omega (arith, long)) ∙ next ∙ ap (map (started path)) first

-- an input that is passed on
pub passed_input : (order : OrderParts) (before after : Told) (path : List ProviderId) (spec : SpecParts) (last : CascadeEnd) → IsRead order.own before.left after.left (PassOn path spec)
    → PassesOn order path spec before after last → EndsAt order before after last
passed_input order before after path spec end.Done read passes = (path, spec, read, passes)
passed_input order before after path spec end.WriteFault read passes = (path, spec, read, passes)
passed_input order before after path spec end.Memory read passes = inr (path, spec, read, passes)
passed_input order before after path spec (end.Stopped note) read passes = absurd passes
passed_input order before after path spec end.Usage read passes = absurd passes
passed_input order before after path spec end.ReadFault read passes = absurd passes

-- the input did not fail
pub read_well : (order : OrderParts) (before after : Told) (path : List ProviderId) (spec : SpecParts) (last : CascadeEnd) (fewer faults : ℕ)
    → PassesOn order path spec before after last → fewer ≤ faults → faults ≡ fewer → HasCauseOf end.ReadFault fewer faults last
read_well order before after path spec last fewer faults passes later same = record {
  later = later;
  rose = λ is. absurd (subst (PassesOn order path spec before after) is passes);
  same = λ other. same;
}
