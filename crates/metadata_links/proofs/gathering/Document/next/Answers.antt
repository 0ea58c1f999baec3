use Rattle.metadata_links.proofs.States.{next_is}
use Rattle.metadata_links.proofs.gathering.Document.next.Goals as goal

pub returns-in_ok-link : goal.returns-in_ok-link
returns-in_ok-link c = rw (← c.self.view_is) (next_is c.self.inside.key c.self.inside.bad c.self.inside.links c.self.inside.followed c.in_ok-link.link c.at.result.now c.at.ensures c.in_ok-link.ensures)
