use Rattle.session.proofs.TellingLemmas.{content_tells}
use Rattle.session.proofs.law.the_end_of_a_delivery_tells_what_was_written.Goals as goal

pub returns : goal.returns
returns c = content_tells
