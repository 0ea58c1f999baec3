use Rattle.std.proofs.Common.{arith, Some, None}
use Rattle.std.proofs.lemmas.Str.Pattern.{strip_prefix_char, strip_suffix_char}
use Rattle.sockets.proofs.PeerLemmas.{no_bracket, behind_bracket}
use Rattle.sockets.proofs.peer.bracketed.Goals as goal

pub returns-in-Some : goal.returns-in-Some
returns-in-Some c =
    behind_bracket c.args.host.now c.in-Some.rest.now c.strip_suffix.result
    (strip_prefix_char 91 c.args.host.now (Some c.in-Some.rest) c.in-Some.ensures.cases (omega arith))
    (strip_suffix_char 93 c.in-Some.rest.now c.strip_suffix.result c.strip_suffix.ensures.cases (omega arith))

pub returns-in-None : goal.returns-in-None
returns-in-None c = no_bracket c.args.host.now (strip_prefix_char 91 c.args.host.now None c.in-None.ensures.cases (omega arith))
