use Rattle.std.proofs.Common.{ap, option_map}
use Rattle.http_node.proofs.ServeLemmas.{found_at, found_none, none_at, none_none}
use Rattle.http_node.proofs.serve.find_places.Goals as goal

pub returns-in-Some-clause-found : goal.returns-in-Some-clause-found
returns-in-Some-clause-found g c = found_at _ _ _ _ c.ask_places.result (ap (option_map (λ path. path.now)) c.in-Some.is) c.ask_places.ensures.found

pub returns-in-Some-clause-none : goal.returns-in-Some-clause-none
returns-in-Some-clause-none g c = none_at _ _ _ _ _ _ c.ask_places.result (ap (option_map (λ path. path.now)) c.in-Some.is) c.ask_places.ensures.none

pub returns-in-None-clause-found : goal.returns-in-None-clause-found
returns-in-None-clause-found g c = found_at _ _ _ _ c.no_places.result (ap (option_map (λ path. path.now)) c.in-None.is) (found_none _ c.no_places.result c.no_places.ensures.found)

pub returns-in-None-clause-none : goal.returns-in-None-clause-none
returns-in-None-clause-none g c = none_at _ _ _ _ _ _ c.no_places.result (ap (option_map (λ path. path.now)) c.in-None.is) (none_none _ (g.O.Outside.faults c.args.outside.now) c.no_places.result c.no_places.ensures.none)
