use Rattle.std.proofs.Common.{take, refl, ◌∙◌, ap}
use Rattle.http_wire.specs.declared.limits.TheConstants.{HEAD_MAX}
use Rattle.client_hub.proofs.HubLemmas.{gives_with, gives_whole}
use Rattle.client_hub.proofs.hub.Hub.gather.Goals as goal

pub returns-in-End-clause-given : goal.returns-in-End-clause-given
returns-in-End-clause-given g c =
    gives_with c.args.parked (record c.args.parked { got = c.read_message.new.got }) HEAD_MAX c.hold.new.self c.given_whole.result refl refl refl
    c.read_message.ensures.read (c.hold.ensures ∙ ap (take HEAD_MAX) c.as_slice.ensures.value) c.given_whole.ensures

pub returns-in-End-clause-whole : goal.returns-in-End-clause-whole
returns-in-End-clause-whole g c =
    gives_whole c.args.parked (record c.args.parked { got = c.read_message.new.got }) HEAD_MAX c.hold.new.self c.given_whole.result
    c.read_message.ensures.read (c.hold.ensures ∙ ap (take HEAD_MAX) c.as_slice.ensures.value) c.given_whole.ensures
