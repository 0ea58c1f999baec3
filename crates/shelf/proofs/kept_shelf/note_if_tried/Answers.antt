use Rattle.std.proofs.Common.{refl}
use Rattle.shelf.proofs.TriedLemmas.{none_left, tried_equal, tried_kept}
use Rattle.shelf.proofs.kept_shelf.note_if_tried.Goals as goal

pub returns-in-None-clause-kept : goal.returns-in-None-clause-kept
returns-in-None-clause-kept c =
    let t = c.args.table.now in
    tried_kept c.args.epochs.now.known.starts c.args.noted.now c.args.aimed t.passed t.objects (none_left t.objects t.passed c.in-None.ensures) c.requires.tried

pub returns-in-None-clause-tried : goal.returns-in-None-clause-tried
returns-in-None-clause-tried c = tried_equal _ _ _ _ refl
