use Rattle.std.proofs.Common.{ℕ, List, sym, subst, option_map}
use Rattle.std.specs.declared.option.Option.{Option}
use Rattle.http_node.specs.Serve.{IsTable}
use Rattle.http_node.proofs.ServeLemmas.{commanded, since, stopped}
use Rattle.http_node.proofs.serve.serve_options.Goals as goal

pub returns-in-Ok-clause-command : goal.returns-in-Ok-clause-command
returns-in-Ok-clause-command g c =
    let f = c.in-Ok.ensures.found in
    commanded c.args.options f.0 c.in-Ok.places (subst (λ (p : Option (List ℕ)). IsTable p f.0 c.in-Ok.places) c.as_ref.ensures.value f.1) _ _ _ _ _ _ _ _ _ f.2 c.in-Ok.ensures.later
    (since c.args.options c.in-Ok.places _ _ _ _ _ _ _ _ c.in-Ok.ensures.returned c.serve_placed.ensures.placed)

pub returns-in-Err-clause-command : goal.returns-in-Err-clause-command
returns-in-Err-clause-command g c = stopped c.args.options _ _ _ _ _ _ (option_map (λ path. path.now) c.as_ref.result) c.in-Err.end (sym c.as_ref.ensures.value) c.in-Err.ensures.none
