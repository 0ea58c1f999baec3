use Rattle.std.proofs.Common.{ap, ◌∙◌, ◌++◌, ◌∷◌, []}
use Rattle.metadata_links.proofs.States.{is_added}
use Rattle.metadata_links.proofs.gathering.Gathering.add.Goals as goal

pub returns : goal.returns
returns c = rw (← c.self.view_is) (is_added c.self.inside.opened.items c.push-2.new.self.items c.self.inside.texts.items c.keep.new.texts.items c.self.inside.resources c.push.new.self c.self.inside.size c.args.depth c.args.size c.args.text c.args.document
    c.in-Ok.ensures.items c.in_ok-keep.ensures (c.in_ok-push.ensures.ok ∙ ap (λ k. c.self.inside.resources ++ k ∷ []) (c.in_ok-copy_of_key.ensures ∙ ap (λ d. d.key) c.document.view_is)))
