use Rattle.session_base.proofs.AnswerLemmas.{counted}
use Rattle.session_base.proofs.answer_room.put_counted.Goals as goal

pub returns : goal.returns
returns c =
    counted c.args.text.now c.clear.new.self c.append.new.self c.append_number.new.self c.append-2.new.self c.args.words.now c.args.number _ _ _ c.requires.room c.requires.short c.ranges.number.fits c.clear.ensures c.append.ensures c.append_number.ensures c.append-2.ensures
