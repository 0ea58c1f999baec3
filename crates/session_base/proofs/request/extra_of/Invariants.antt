use Rattle.std.proofs.Common.{◌≡◌, take}
use Rattle.session_base.specs.Request.{extra_of}
use Rattle.session_base.proofs.request.extra_of.Given as goal

abbrev pub invariant-fields : goal.invariant-fields
invariant-fields l = l.extra ≡ extra_of (take l.field-index l.fields) l.head.headers
