use Rattle.std.proofs.Common.{ap, ◌∙◌}
use Rattle.history.specs.Kept.{total}
use Rattle.shelf.proofs.ShelfLemmas.{total_kept}
use Rattle.shelf.proofs.kept_shelf.Shelf.held.Goals as goal
use Rattle.shelf.specs.KeptShelf.{ShelfView}

pub returns : goal.returns
returns c = c.held.ensures ∙ total_kept c.self.inside.table.objects ∙ ap (λ (s : ShelfView). total s.held) c.self.view_is
