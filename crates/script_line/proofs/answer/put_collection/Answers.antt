use Rattle.script_line.proofs.answer.put_collection.Goals as goal

pub returns : goal.returns
returns c = rw (c.bytes.ensures, c.in_ok-json.ensures) at c.put_line.ensures
