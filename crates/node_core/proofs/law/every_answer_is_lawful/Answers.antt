use Rattle.std.proofs.Common.{◌≡◌, ◌+◌, IsTrue, [], ◌∷◌, ◌++◌, length, true, refl, sym, ◌∙◌, subst}
use Rattle.delivery_law.specs.Denials.{is_admitted}
use Rattle.delivery_law.specs.Metadata.{uses_metadata}
use Rattle.history.specs.Event.{Admit, Cancel, Finish, RefreshBegin, RefreshEnd}
use Rattle.history.specs.declared.reply.Reply.TheVariants as reply
use Rattle.kept_law.specs.KeptObjects.{LeavesObjects, objects_after}
use Rattle.limit_law.specs.Counts.{opens}
use Rattle.node_core.proofs.LawLemmas.{said_of}
use Rattle.node_core.specs.Law.{with_call}
use Rattle.node_core.proofs.law.every_answer_is_lawful.Goals as goal

pub returns : goal.returns
returns c = λ made h pass event answer is.
    let told = said_of made h pass event answer is in
    record {
      admission = record {
        denied = λ request moment delivery rule this so. c.a_denial_names_the_first_rule_that_forbids.ensures.denied made h pass request moment delivery rule (told (Admit request moment) (reply.Denied delivery rule) this so);
        admitted = λ request moment rule this so. c.a_denial_names_the_first_rule_that_forbids.ensures.admitted made h pass request moment
            (subst (λ r. IsTrue (is_admitted r)) (sym (told (Admit request moment) answer this refl)) so) rule;
        hit = λ request moment delivery fetch kind body this so. c.a_hit_gives_what_one_fetch_brought.ensures made h pass request moment delivery fetch kind body (told (Admit request moment) (reply.Hit delivery fetch kind body) this so);
        miss = λ request moment delivery fetch plan this so. c.a_miss_begins_its_own_fetch.ensures made h pass request moment delivery fetch plan (told (Admit request moment) (reply.Miss delivery fetch plan) this so);
        metadata = λ request moment this uses. c.an_admission_uses_metadata_that_no_start_has_hit.ensures made h pass request moment
            (subst (λ r. IsTrue (uses_metadata r)) (sym (told (Admit request moment) answer this refl)) uses);
      };
      refresh = record {
        early = λ moment next this so. c.a_refresh_is_due_where_no_fresh_metadata_is_installed.ensures.early made h pass moment next (told (RefreshBegin moment) (reply.NotDue next) this so);
        fresh = λ moment installed this fresh. sym (told (RefreshBegin moment) answer this refl) ∙ c.a_refresh_is_due_where_no_fresh_metadata_is_installed.ensures.fresh made h pass moment installed fresh;
        stale = λ refresh moment trigger tree this so. c.metadata_is_stale_where_a_start_has_hit_it.ensures.stale made h pass refresh moment trigger tree (told (RefreshEnd refresh _ moment) (reply.Stale trigger) this so);
        installed = λ refresh moment generation tree this so. c.metadata_is_stale_where_a_start_has_hit_it.ensures.installed made h pass refresh moment generation tree (told (RefreshEnd refresh _ moment) (reply.Installed generation) this so);
        older = λ refresh moment later tree this so.
            let answered = told (RefreshEnd refresh _ moment) (reply.Older later) this so in
            (c.metadata_is_stale_where_a_start_has_hit_it.ensures.older made h pass refresh moment later tree answered, c.the_latest_refresh_is_installed.ensures.older made h pass refresh moment later tree answered);
        latest = c.the_latest_refresh_is_installed.ensures.latest made (with_call h pass event);
      };
      triggers = record {
        accounts = c.a_trigger_stands_where_its_calls_left_it.ensures made (with_call h pass event);
        cancelled = λ moment place id ids list this so. c.a_cancel_cancels_what_it_names.ensures.named made h pass moment place id ids list (told (Cancel ids moment) (reply.Statuses list) this so);
        uncancelled = λ moment id ids this. c.a_cancel_cancels_what_it_names.ensures.others made h pass moment id ids;
      };
      row = λ delivery status total entity end number this so.
          c.each_row_belongs_to_one_finish_and_one_admit.ensures.each made (h ++ (pass, Finish delivery status total entity end) ∷ []) number (length h + 1) pass delivery status total entity end (record {
            before = h;
            since = [];
            whole = refl;
            place = refl;
            answered = told (Finish delivery status total entity end) (reply.Logged number) this so;
          });
      record_whole = c.the_record_has_each_row_once.ensures made (with_call h pass event);
      kept = c.kept_objects_are_the_most_recently_used.ensures made (with_call h pass event);
      left = subst (λ r. LeavesObjects made h (pass, event) r (objects_after made (with_call h pass event))) (sym is) ((c.kept_objects_are_the_most_recently_used.ensures made h).next (pass, event));
      full = λ count so. c.a_limit_is_told_where_it_is_reached.ensures.full made h pass count event (told event (reply.Full count) refl so);
      room = λ so. c.a_limit_is_told_where_it_is_reached.ensures.room made h pass event (subst (λ r. opens r ≡ true) is so);
    }
