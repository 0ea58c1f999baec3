-- After a step, what it opens and what it skips are as in a history.
use Rattle.std.proofs.Common.{◌≡◌, ℕ, get_or, set, true, false, cond, List, Some, sym, ap, subst, ◌∙◌}
use Rattle.std.specs.declared.option.Option.{Option}
use Rattle.std.proofs.lemmas.Bool.{eq-eqb}
use Rattle.std.proofs.lemmas.List.{map-set, set-set}
use Rattle.history.specs.Steps.{changed, is_trigger, skipped, step_of, trigger_of, waiting}
use Rattle.history.specs.World.{OneFetch, OneRefresh, Trigger}
use Rattle.trigger_table.specs.State as state
use Rattle.trigger_table.specs.State.{made, next_step, opened_by, seen, step_ended, step_made}
use Rattle.trigger_table.specs.Triggers.{IsAt, TriggersGoOn, step_after}
use Rattle.trigger_table.specs.declared.step.Step.{Step}
use Rattle.trigger_table.specs.declared.step.Step.TheVariants as step

module _ (id : ℕ) (ts : List Trigger) (place : ℕ) (at : IsAt id ts place) (old new : Trigger) (is : old ≡ get_or ts place old) (same : new.job.id ≡ old.job.id) where
  pub changed_twice : (f g : Trigger → Trigger) → f new ≡ g old → changed id f (set ts place new) ≡ changed id g ts
  changed_twice f g fg =
      let yes : is_trigger id new ≡ true = eq-eqb new.job.id id (same ∙ ap (λ (t : Trigger). t.job.id) is ∙ at.number old) in
      map-set (λ (t : Trigger). cond (is_trigger id t) (f t) t) ts place new
      ∙ ap (λ b. set (changed id f ts) place (cond b (f new) new)) yes
      ∙ ap (λ xs. set xs place (f new)) (at.change f old)
      ∙ set-set ts place (f (get_or ts place old)) (f new)
      ∙ ap (set ts place) (fg ∙ ap g is)
      ∙ sym (at.change g old)

  pub ready_in : (s : Step) → state.GoesOn s old new → TriggersGoOn id s ts (set ts place new)
  ready_in step.Unknown ready = tt
  ready_in (step.Final status) ready = tt
  ready_in (step.Claimed claimant) ready = tt
  ready_in (step.StepOpen number) ready = tt
  ready_in step.Start ready = tt
  ready_in step.Refresh ready = λ number. changed_twice (opened_by number) (waiting (OneRefresh number)) (ready number)
  ready_in (step.Url url) ready = (λ number. changed_twice (opened_by number) (waiting (OneFetch number)) (ready.0 number), changed_twice (step_ended false) (skipped url) ready.1)
  ready_in (step.End status) ready = tt

  pub ready_at : (pass : ℕ) → state.GoesOn (seen (step_of pass old)) old new → TriggersGoOn id (next_step pass (trigger_of id ts)) ts (set ts place new)
  ready_at pass ready =
      subst (λ (o : Option Trigger). TriggersGoOn id (next_step pass o) ts (set ts place new)) (ap Some is ∙ sym (at.found old))
      (ready_in (seen (step_of pass old)) ready)

  pub step_at : (pass moment : ℕ) → new ≡ step_made pass moment old → set ts place new ≡ step_after id pass moment ts
  step_at pass moment done =
      ap (set ts place) (done ∙ ap (λ (o : Option Trigger). made pass moment (next_step pass o) old) (ap Some is ∙ sym (at.found old)) ∙ ap (made pass moment (next_step pass (trigger_of id ts))) is)
      ∙ sym (at.change (made pass moment (next_step pass (trigger_of id ts))) old)
