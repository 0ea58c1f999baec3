use Rattle.location_acl.proofs.TableLemmas.{BestSoFar}
use Rattle.location_acl.proofs.plain.place_of.Given as goal

-- the best of the lines so far
abbrev pub invariant-lines : goal.invariant-lines
invariant-lines l = BestSoFar l.lines l.ip l.line-index l.best
