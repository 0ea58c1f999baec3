use Rattle.std.proofs.Common.{arith, ◌∙◌, codes, length, sym, ap}
use Rattle.std.proofs.lemmas.List.{set-set}
use Rattle.metadata_links.specs.Filled.{last_of}
use Rattle.metadata_links.specs.Joined.{list_filled, level_filled, path_filled}
use Rattle.metadata_links.proofs.Items.{one_more, each_filled, list_is_filled, none_at, some_at, path_is_filled, level_is_filled}
use Rattle.metadata_links.proofs.Members.{member_is_filled, no_member_is_filled, still_there}
use Rattle.metadata_links.proofs.joining.+filling.Goals as goal

pub fill_each_path-items-preserved : goal.fill_each_path-items-preserved
fill_each_path-items-preserved t c =
    rw set-set (one_more (path_filled c.args.left) c.args.paths.items _ c.items.i c.items.items.items _ c.items.invariant (omega (arith, c.items-test.true, c.len-i-end.ensures, c.args.paths.ok.0)) c.index_mut.result.now c.replace-path.result c.fill_path.result _ (c.replace-path.ensures.value ∙ c.index_mut.ensures.value) c.fill_path.ensures)

pub fill_each_path-returns : goal.fill_each_path-returns
fill_each_path-returns t c = each_filled (path_filled c.args.left) c.args.paths.items _ c.items.i c.items.items.items _ c.items.invariant (omega (arith, c.items-test.false, c.len-i-end.ensures, c.args.paths.ok.0))

pub fill_paths-returns-in-Ok : goal.fill_paths-returns-in-Ok
fill_paths-returns-in-Ok t c = list_is_filled (path_filled c.args.left) _ c.in-Ok.items.items c.fill_each_path.result _ _ c.in-Ok.ensures c.fill_each_path.ensures

pub fill_paths_in-put_at-requires : goal.fill_paths_in-put_at-requires
fill_paths_in-put_at-requires t c = still_there c.args.members.items _ c.in-Some.i _ (omega (arith, c.in-Some.ensures.within, ap length c.deref.ensures.value)) c.take_at-member.ensures

pub fill_paths_in-returns-in-Some : goal.fill_paths_in-returns-in-Some
fill_paths_in-returns-in-Some t c = member_is_filled (codes "paths") (list_filled (path_filled c.args.left)) c.args.members.items _ _ c.in-Some.i c.take_at-member.result c.fill_paths-filled.result _ _ (ap (last_of (codes "paths")) (sym c.deref.ensures.value) ∙ sym c.last_of.ensures.last ∙ c.in-Some.is) c.take_at-member.ensures c.fill_paths-filled.ensures c.put_at.ensures

pub fill_paths_in-returns-in-None : goal.fill_paths_in-returns-in-None
fill_paths_in-returns-in-None t c = no_member_is_filled (codes "paths") (list_filled (path_filled c.args.left)) c.args.members.items _ (ap (last_of (codes "paths")) (sym c.deref.ensures.value) ∙ sym c.last_of.ensures.last ∙ c.in-None.is)

pub fill_level_in-put_at-requires : goal.fill_level_in-put_at-requires
fill_level_in-put_at-requires t c = still_there c.args.members.items _ c.in-Some.i _ (omega (arith, c.in-Some.ensures.within, ap length c.deref.ensures.value)) c.take_at-member.ensures

pub fill_level_in-returns-in-Some : goal.fill_level_in-returns-in-Some
fill_level_in-returns-in-Some t c = member_is_filled c.args.name.now (level_filled (path_filled c.args.left)) c.args.members.items _ _ c.in-Some.i c.take_at-member.result c.fill_level-filled.result _ _ (ap (last_of c.args.name.now) (sym c.deref.ensures.value) ∙ sym c.last_of.ensures.last ∙ c.in-Some.is) c.take_at-member.ensures c.fill_level-filled.ensures c.put_at.ensures

pub fill_level_in-returns-in-None : goal.fill_level_in-returns-in-None
fill_level_in-returns-in-None t c = no_member_is_filled c.args.name.now (level_filled (path_filled c.args.left)) c.args.members.items _ (ap (last_of c.args.name.now) (sym c.deref.ensures.value) ∙ sym c.last_of.ensures.last ∙ c.in-None.is)

pub fill_path-returns-then-left-eq0 : goal.fill_path-returns-then-left-eq0
fill_path-returns-then-left-eq0 t c = none_at c.args.left _ _ c.if-left-eq0.true

pub fill_path-returns : goal.fill_path-returns
fill_path-returns t c = some_at c.args.left _ _ _ (omega arith) c.fill_path_within.ensures

pub fill_path_within-returns : goal.fill_path_within-returns
fill_path_within-returns t c = path_is_filled _ _ _ _ _ _ c.follow-path.ensures c.fill_level_at.ensures

pub fill_level-returns : goal.fill_level-returns
fill_level-returns t c = level_is_filled _ _ _ _ _ _ _ _ c.follow-level.ensures c.fill_generics_at-level.ensures c.fill_paths_at.ensures
