use Rattle.std.proofs.Common.{◌++◌, ◌∙◌, ap, length, subst, Bool}
use Rattle.cdni_base.specs.Scratch.{Room, Puts}
use Rattle.session_base.proofs.AnswerLemmas.{says_as, head_put, said_apart, said_joined}
use Rattle.session_base.proofs.answer_room.say.Goals as goal

pub returns-then-append-clause-says : goal.returns-then-append-clause-says
returns-then-append-clause-says g c =
    let text = c.put_head.ensures.text in
    let put = head_put c.args.scratch.now c.clear.new.self c.put_head.new.out _ _ c.requires.room c.clear.ensures text.2 c.put_head.ensures.fits in
    let size = c.bytes-size.ensures ∙ ap (λ (r : Room). r.text) put in
    let added = subst (λ (b : Bool). Puts c.put_head.new.out c.append.new.self c.args.body.now b) c.if-append.true c.append.ensures in
    let piece = c.bytes.ensures ∙ ap (λ (r : Room). r.text) added.1 ∙ ap (λ (r : Room). r.text ++ c.args.body.now) put in
    says_as _ _ _ _ _ (said_joined c.args.head.now c.args.body.now _ _ text.0 text.1 (ap length size) piece) c.send_joined.ensures.says

pub returns-clause-says : goal.returns-clause-says
returns-clause-says g c =
    let text = c.put_head.ensures.text in
    let put = head_put c.args.scratch.now c.clear.new.self c.put_head.new.out _ _ c.requires.room c.clear.ensures text.2 c.put_head.ensures.fits in
    let kept = subst (λ (b : Bool). Puts c.put_head.new.out c.append.new.self c.args.body.now b) c.if-append.false c.append.ensures in
    says_as _ _ _ _ _ (said_apart c.args.head.now c.args.body.now _ text.0 text.1 (c.bytes-2.ensures ∙ ap (λ (r : Room). r.text) kept.1 ∙ ap (λ (r : Room). r.text) put)) c.send.ensures.says
