use Rattle.metadata_links.proofs.States.{leads_step}
use Rattle.std.proofs.Common.{ap}
use Rattle.metadata_links.proofs.gathering.Gathering.next_link.Goals as goal

pub returns : goal.returns
returns c = record {
  next = rw (← c.self.view_is) (leads_step c.self.inside.opened.items c.next_of.new.opened.items c.self.inside.texts.items c.self.inside.resources c.self.inside.size c.next_of.result c.next_of.ensures.leads);
  no_fetch = c.next_of.ensures.no_fetch;
  resources = ap (λ s. s.resources) c.self.view_is;
}
