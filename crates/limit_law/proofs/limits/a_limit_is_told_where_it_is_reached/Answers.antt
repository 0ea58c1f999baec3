use Rattle.limit_law.proofs.LimitLemmas.{full_is, most, room_is}
use Rattle.limit_law.proofs.limits.a_limit_is_told_where_it_is_reached.Goals as goal

pub returns-clause-full : goal.returns-clause-full
returns-clause-full c = full_is

pub returns-clause-room : goal.returns-clause-room
returns-clause-room c = room_is

pub returns-clause-most : goal.returns-clause-most
returns-clause-most c = most
