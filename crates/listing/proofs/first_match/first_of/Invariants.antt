use Rattle.std.proofs.Common.{◌≡◌, ◌+◌, drop}
use Rattle.listing.specs.FirstMatch.{first_from}
use Rattle.listing.proofs.first_match.first_of.Given as goal

-- what is left of the rules answers as all of them do
abbrev pub invariant-rules : goal.invariant-rules
invariant-rules g l = record {
  counted : l.number ≡ l.rule-index;
  rest : first_from (g.R.AccessRule.holds l.asked) g.R.AccessRule.allows (l.number + 1) (drop l.rule-index l.rules) ≡ first_from (g.R.AccessRule.holds l.asked) g.R.AccessRule.allows 1 l.rules;
}
