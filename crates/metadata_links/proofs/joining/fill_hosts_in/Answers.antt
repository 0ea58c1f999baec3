use Rattle.std.proofs.Common.{arith, ◌∙◌, codes, length, sym, ap}
use Rattle.std.proofs.lemmas.List.{set-set}
use Rattle.metadata_links.specs.Filled.{last_of}
use Rattle.metadata_links.specs.Joined.{list_filled, host_filled}
use Rattle.metadata_links.proofs.Members.{member_is_filled, no_member_is_filled, still_there}
use Rattle.metadata_links.proofs.joining.fill_hosts_in.Goals as goal

pub put_at-requires : goal.put_at-requires
put_at-requires c = still_there c.args.members.items _ c.in-Some.i _ (omega (arith, c.in-Some.ensures.within, ap length c.deref.ensures.value)) c.take_at-member.ensures

pub returns-in-Some : goal.returns-in-Some
returns-in-Some c = member_is_filled (codes "hosts") (list_filled host_filled) c.args.members.items _ _ c.in-Some.i c.take_at-member.result c.fill_hosts-filled.result _ _ (ap (last_of (codes "hosts")) (sym c.deref.ensures.value) ∙ sym c.last_of.ensures.last ∙ c.in-Some.is) c.take_at-member.ensures c.fill_hosts-filled.ensures c.put_at.ensures

pub returns-in-None : goal.returns-in-None
returns-in-None c = no_member_is_filled (codes "hosts") (list_filled host_filled) c.args.members.items _ (ap (last_of (codes "hosts")) (sym c.deref.ensures.value) ∙ sym c.last_of.ensures.last ∙ c.in-None.is)
