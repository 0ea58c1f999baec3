use Rattle.json.specs.Value.{value_view}
use Rattle.json_read.proofs.BorrowedData.{found_is}
use Rattle.json_read.proofs.value.BorrowedValueJsonValue.get.Goals as goal

pub returns : goal.returns
returns c = found_is c.get.result c.args.name.now (value_view c.args.self.now) c.get.ensures
