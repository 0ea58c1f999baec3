use Rattle.std.proofs.Common.{◌≡◌, Some, slice_get, length, refl, sym, ap, ◌∙◌}
use Rattle.std.proofs.lemmas.Option.{same_Some, slice_get_read}
use Rattle.trigger_command.specs.Selection.{url_hits}
use Rattle.trigger_command.proofs.SelectionLemmas.{url_hits_is}
use Rattle.epochs.specs.declared.epochs_list.Start.{Start}
use Rattle.epochs.proofs.chains.Chains.is_of.Goals as goal

pub returns : goal.returns
returns c start url at there =
    let starts = c.args.self.now.starts.items in
    let here : slice_get starts c.args.k ≡ Some c.index.result.now = slice_get_read starts (length starts) c.args.k c.index.result.now refl c.requires.start c.index.ensures in
    let same : c.index.result.now ≡ start = same_Some c.index.result.now start (sym here ∙ at) in
    let one : c.at.result.now ≡ url = same_Some c.at.result.now url (sym c.at.ensures ∙ ap (λ (s : Start). slice_get s.selection.content_urls c.args.item) same ∙ there) in
    url_hits_is c.args.key.now c.at.result.now c.is_of.result c.is_of.ensures ∙ ap (url_hits c.args.key.now) one
