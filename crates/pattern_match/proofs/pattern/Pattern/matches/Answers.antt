use Rattle.pattern_match.specs.Units.{units}
use Rattle.pattern_match.proofs.MatchLemmas.{TokensMatch_iff}
use Rattle.pattern_match.proofs.pattern.Pattern.matches.Goals as goal

pub returns-clause-relation : goal.returns-clause-relation
returns-clause-relation c =
    rw (c.walk.ensures, c.deref.ensures.value, ← c.self.view_is) (TokensMatch_iff c.self.inside.case_sensitive c.self.inside.tokens.items (units c.args.text.now))
