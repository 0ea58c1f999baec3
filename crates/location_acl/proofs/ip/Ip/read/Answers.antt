use Rattle.std.proofs.Common.{◌≡◌, sym, ◌∙◌}
use Rattle.location_acl.proofs.AddressLemmas.{ok_is, four_value, six_value_is, bad_place}
use Rattle.location_acl.proofs.ip.Ip.read.Goals as goal

pub returns-in-Ok-clause-ok : goal.returns-in-Ok-clause-ok
returns-in-Ok-clause-ok c = ok_is c.args.text.now _ (four_value c.args.text.now c.in-Ok.number c.in-Ok.ensures.value)

pub returns-in-Ok-read-clause-ok : goal.returns-in-Ok-read-clause-ok
returns-in-Ok-read-clause-ok c = ok_is c.args.text.now _ (six_value_is c.args.text.now _ c.in-Err.ensures.value c.in-Ok-read.ensures.value)

pub returns-in-Err-read-clause-ok : goal.returns-in-Err-read-clause-ok
returns-in-Err-read-clause-ok c = ok_is c.args.text.now _ (six_value_is c.args.text.now _ c.in-Err.ensures.value c.in-Err-read.ensures.value)

pub returns-in-Err-read-clause-place : goal.returns-in-Err-read-clause-place
returns-in-Err-read-clause-place c = λ at is. bad_place c.args.text.now c.in-Err.at c.in-Err-read.at c.in-Err.ensures.place c.in-Err-read.ensures.place at (let same : c.max.result ≡ at = cc in sym same ∙ c.max.ensures)
