use Rattle.script_line.proofs.answer.scripted_collection.Goals as goal

pub returns : goal.returns
returns c = rw (c.in_ok-own.ensures, c.in_ok-control.ensures) at c.collection_json.ensures
