use Rattle.cdni_log.specs.Line.{directive}
use Rattle.log_audit.proofs.HeadLemmas.{kind_stands, origin_stands, uuid_stands, version_stands}
use Rattle.log_audit.proofs.head.stands.Goals as goal

pub returns-in-Version : goal.returns-in-Version
unfolding directive
returns-in-Version c = version_stands c.args.place.now c.args.line.now c.is_version_line.result (cc (c.in-Version.is)) c.is_version_line.ensures

pub returns-in-Uuid : goal.returns-in-Uuid
returns-in-Uuid c = uuid_stands c.args.place.now c.args.line.now c.is_uuid_line.result (cc (c.in-Uuid.is)) c.is_uuid_line.ensures

pub returns-in-Origin : goal.returns-in-Origin
returns-in-Origin c = origin_stands c.args.place.now c.args.line.now c.is_origin_line.result (cc (c.in-Origin.is)) c.is_origin_line.ensures

pub returns-in-Kind : goal.returns-in-Kind
unfolding directive
returns-in-Kind c = kind_stands c.args.place.now c.args.line.now c.is_kind_line.result (cc (c.in-Kind.is)) c.is_kind_line.ensures
