-- What the workers share may cross threads.
use denote.Param.Send.{IsSend, IsSync, sendable, shr_send, view_send}
use denote.Ref.{NamedLft}
use Rattle.node_cell.specs.declared.made.MadeWith.{Ghosts}
use denote.RattleType.{RattleType}
use denote.Param.SendFields.{as_row_send, as_row_sync, declared_send, declared_sync}
use Rattle.std.proofs.Crossing.{crosses}
use Rattle.history.specs.contracts.call.Call as call
use Rattle.history.proofs.heading.Heading.TheSendSync as headings
use Rattle.metadata_objects.specs.contracts.tree.Tree as tree
use Rattle.metadata_objects.specs.contracts.host.HostIndex as index
use Rattle.metadata_objects.specs.contracts.host.HostMatch as match
use Rattle.metadata_objects.proofs.level.Level.TheLaws.TheKnot as levels
use Rattle.metadata_objects.specs.contracts.level.Level as level
use Rattle.metadata_objects.proofs.generic.Generic.TheSendSync as generics
use Rattle.pattern_match.proofs.pattern.Pattern.TheSendSync as patterns
use Rattle.targets.specs.contracts.endpoint.Endpoint as endpoint
use Rattle.listing.specs.contracts.list.Listing as list
use Rattle.cdni_base.specs.contracts.key.Key as key
use Rattle.cdni_base.proofs.limits.Limits.TheSendSync as limits
use Rattle.node_core.specs.contracts.entered.Entered as entered
use Rattle.node_core.specs.contracts.state.State as state
use Rattle.node_core.specs.contracts.node.Node as node
use Rattle.delivery_core.specs.contracts.installed.Installed as installed
use Rattle.delivery_core.specs.contracts.installed.Installed.TheInside as inside
use Rattle.std.proofs.option.Option.TheSendSync as maybes
use Rattle.inheritance.proofs.host_table.HostTable.TheSendSync as tables
use Rattle.delivery_core.specs.contracts.edge.Edge as edge
use Rattle.shelf.proofs.kept_shelf.Shelf.TheSendSync as shelves
use Rattle.delivery_core.proofs.records.Records.TheSendSync as records
use Rattle.delivery_core.proofs.refreshes.Refreshes.TheSendSync as refreshes
use Rattle.control_core.proofs.control.Control.TheSendSync as controls
use Rattle.journal.proofs.Journal.TheSendSync as journals
use Rattle.listing.proofs.text.Text.TheSendSync as texts
use Rattle.doors.proofs.outside.Worker.TheSendSync as outsides
use Rattle.doors.proofs.serve.DoorEnd.TheSendSync as ends
use Rattle.turn_cell.proofs.cell.TurnCell.TheSendSync as cells
use Rattle.turn_cell.proofs.pass.Pass.TheSendSync as passes
use Rattle.node_cell.specs.contracts.home.CellHome as home
use Rattle.node_cell.specs.contracts.home.CellHome.TheInside as homes
use denote.Struct.Field.{shr_ref_field}
use Rattle.turn_cell.specs.contracts.cell.TurnCell as turn
use Rattle.node_cell.specs.contracts.made.MadeNode as mades
use Rattle.node_cell.specs.contracts.cell.NodeCell as cell
use Rattle.workers.specs.contracts.job.Job as job
use Rattle.targets.proofs.endpoint.Endpoint.TheSendSync as endpoints
use Rattle.listing.proofs.list.Listing.TheSendSync as lists
use Rattle.cdni_base.proofs.key.Key.TheSendSync as keys
use Rattle.node_core.proofs.entered.Need.TheSendSync as needs
use Rattle.upstream_gate.proofs.outcome.Outcome.TheSendSync as outcomes
use Rattle.trigger_command.proofs.spec.Spec.TheSendSync as specs
use Rattle.cdni_base.proofs.asked.Asked.TheSendSync as askeds

level_send : IsSend level.the_row
level_send = search (sendable, crosses, levels.send-Level, lists.the_send, generics.the_send, patterns.the_send) depth 40

match_send : IsSend match.the_row
match_send = declared_send match.the_type (as_row_send endpoint.the_field endpoints.the_field_send, (level_send, tt))

index_send : IsSend index.the_row
index_send = search (sendable, crosses, match_send, lists.the_send) depth 40

tree_send : IsSend tree.the_row
tree_send = declared_send tree.the_type (index_send, (as_row_send (list.the_field key.the_row) (lists.the_send _ keys.the_send), tt))

call_send : IsSend call.the_row
call_send = search (sendable, crosses, tree_send, outcomes.the_field_send, specs.the_send, askeds.the_field_send, lists.the_send, maybes.the_send, texts.the_send) depth 40

entered_send : IsSend entered.the_row
entered_send = declared_send entered.the_type (search sendable, (call_send, (search (sendable, crosses, needs.the_field_send) depth 20, tt)))

installed_send : IsSend installed.the_row
installed_send = view_send _ _ _ _ _ (declared_send inside.the_type (
  tree_send,
  (
    search sendable,
    (
      search sendable,
      (
        search (sendable, crosses, maybes.the_send) depth 20,
        (search (sendable, crosses, maybes.the_send, tables.the_send) depth 20, tt),
      ),
    ),
  ),
))

edge_send : IsSend edge.the_row
edge_send = search (sendable, crosses, installed_send, limits.the_send, shelves.the_send, records.the_send, refreshes.the_send) depth 40

state_send : IsSend state.the_row
state_send = search (sendable, crosses, edge_send, controls.the_send, headings.the_field_send) depth 40

pub node_send : IsSend node.the_row
node_send = search (sendable, crosses, state_send, limits.the_send, journals.the_send, entered_send) depth 40

made_send : (P : RattleType) → IsSend P → IsSend (mades.the_row P)
made_send P sent = declared_send (mades.the_type P) (search (sendable, crosses, node_send) depth 20, (search (sendable, crosses, sent) depth 12, tt))

cell_sync : (P : RattleType) (made : Ghosts P.Denot) → IsSend P → IsSync P → IsSync (cell.the_row P made)
cell_sync P made sent shared = declared_sync (cell.the_type P made) (as_row_sync (turn.the_field (mades.the_row P) call.the_row _) (cells.the_field_sync (mades.the_row P) call.the_row _ (made_send P sent)), tt)

home_send : (ℓ : NamedLft) (P : RattleType) (made : Ghosts P.Denot) → IsSend P → IsSync P → IsSend (home.the_row ℓ P made)
home_send ℓ P made sent shared =
    view_send _ _ _ _ _ (declared_send (homes.the_type ℓ P made) (as_row_send (shr_ref_field ℓ (cell.the_row P made) tt) (shr_send _ _ _ (cell_sync P made sent shared)), (search (sendable, passes.the_field_send) depth 12, tt)))

pub home_field_send : (ℓ : NamedLft) (P : RattleType) (made : Ghosts P.Denot) → IsSend P → IsSync P → IsSend (home.the_field ℓ P made).row
home_field_send = home_send
