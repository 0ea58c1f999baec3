use Rattle.std.proofs.Common.{sym, ◌∙◌, ap}
use Rattle.replay_script.proofs.AheadLemmas.{whole_line}
use Rattle.replay_script.proofs.ahead.Ahead.take_whole.Goals as goal

pub returns-in-Some-clause-whole : goal.returns-in-Some-clause-whole
returns-in-Some-clause-whole c = λ is. rw c.rest.ensures.value at
    (whole_line c.rest.result.now c.self.inside.bytes.items c.self.inside.from c.self.inside.to c.in-Some.place (c.rest.ensures.value ∙ ap (λ a. a.ahead) (sym c.self.view_is)) c.in-Some.ensures c.rest.ensures.short)
