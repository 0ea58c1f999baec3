use Rattle.std.proofs.Common.{sym, ap, ◌∙◌, ◌||◌}
use Rattle.std.specs.Option.{option_map}
use Rattle.std.specs.Borrow.{Bor}
use Rattle.listing.specs.declared.text.Text.{Text}
use Rattle.epochs.proofs.ChainLemmas.{chained_higher, stale_parts}
use Rattle.epochs.specs.Chains.{other_stale}
use Rattle.epochs.proofs.chains.Chains.is_hit_since.Goals as goal

pub has_url_since-requires : goal.has_url_since-requires
has_url_since-requires c = let now = c.args.self.now in
    chained_higher now.starts.items now.links.items now.last.items c.args.newest c.args.unchained c.args.begun c.if-begun-unchained.false c.requires

pub returns-then-has_url_since : goal.returns-then-has_url_since
returns-then-has_url_since c = let starts = c.args.self.now.starts.items in
    c.if-has_url_since.true ∙ sym (stale_parts starts c.args.begun c.args.key.now (option_map (λ (text : Bor Text). text.now) c.args.ccid) ∙ ap (λ url. url || other_stale starts c.args.begun c.args.key.now (option_map (λ (text : Bor Text). text.now) c.args.ccid)) (sym c.if-has_url_since.ensures))

pub returns-else-has_url_since : goal.returns-else-has_url_since
returns-else-has_url_since c = let starts = c.args.self.now.starts.items in
    c.is_other_hit_since.ensures ∙ sym (stale_parts starts c.args.begun c.args.key.now (option_map (λ (text : Bor Text). text.now) c.args.ccid) ∙ ap (λ url. url || other_stale starts c.args.begun c.args.key.now (option_map (λ (text : Bor Text). text.now) c.args.ccid)) (sym c.if-has_url_since.ensures))
