use Rattle.session.proofs.law.a_request_for_content_is_answered_whole.Goals as goal

pub returns-clause-whole : goal.returns-clause-whole
returns-clause-whole c = λ root asked place manner d after content well. content.takes.whole well

pub returns-clause-answer : goal.returns-clause-answer
returns-clause-answer c = λ root asked place manner d after content. content.answered
