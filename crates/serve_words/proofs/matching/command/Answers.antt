use Rattle.std.proofs.Common.{◌∙◌, ap, codes}
use Rattle.std.proofs.lemmas.Result.{IfOk-weaker}
use Rattle.clap.specs.Simple.{App, with_rule}
use Rattle.serve_words.proofs.MatchingLemmas.{flagless}
use Rattle.serve_words.specs.Matching.{option_rule}
use Rattle.serve_words.proofs.matching.command.Goals as goal

pub returns : goal.returns
returns c =
    let s0 = flagless c.new.result c.disable_help_flag-command.result (codes "serve") c.disable_help_flag-command.ensures c.new.ensures.app in
    let s1 = c.in_ok-command.ensures ∙ ap (λ (a : App). with_rule a (option_rule (codes "listen"))) s0 in
    let s2 = c.in_ok-command-2.ensures ∙ ap (λ (a : App). with_rule a (option_rule (codes "metadata"))) s1 in
    let s3 = c.in_ok-command-3.ensures ∙ ap (λ (a : App). with_rule a (option_rule (codes "control"))) s2 in
    let s4 = c.in_ok-command-4.ensures ∙ ap (λ (a : App). with_rule a (option_rule (codes "protocol"))) s3 in
    let s5 = c.in_ok-command-5.ensures ∙ ap (λ (a : App). with_rule a (option_rule (codes "workers"))) s4 in
    let s6 = c.in_ok-command-6.ensures ∙ ap (λ (a : App). with_rule a (option_rule (codes "connections"))) s5 in
    let s7 = c.in_ok-command-7.ensures ∙ ap (λ (a : App). with_rule a (option_rule (codes "places"))) s6 in
    let s8 = c.in_ok-command-8.ensures ∙ ap (λ (a : App). with_rule a (option_rule (codes "footprints"))) s7 in
    let s9 = c.in_ok-command-9.ensures ∙ ap (λ (a : App). with_rule a (option_rule (codes "cdn-id"))) s8 in
    let s10 = c.in_ok-command-10.ensures ∙ ap (λ (a : App). with_rule a (option_rule (codes "claimed-origin"))) s9 in
    let s11 = c.in_ok-command-11.ensures ∙ ap (λ (a : App). with_rule a (option_rule (codes "log-fields"))) s10 in
    let s12 = c.in_ok-command-12.ensures ∙ ap (λ (a : App). with_rule a (option_rule (codes "cache"))) s11 in
    let s13 = c.in_ok-command-13.ensures ∙ ap (λ (a : App). with_rule a (option_rule (codes "rows"))) s12 in
    let s14 = c.in_ok-command-14.ensures ∙ ap (λ (a : App). with_rule a (option_rule (codes "triggers"))) s13 in
    let s15 = c.in_ok-command-15.ensures ∙ ap (λ (a : App). with_rule a (option_rule (codes "files"))) s14 in
    IfOk-weaker c.with_option-16.result _ _ (λ m h. h ∙ ap (λ (a : App). with_rule a (option_rule (codes "period"))) s15) c.with_option-16.ensures
