use Rattle.std.proofs.Common.{◌≡◌, ◌++◌, drop}
use Rattle.std.specs.Option.{option_map}
use Rattle.trigger_cascade.specs.Order.{each_cdn}
use Rattle.trigger_cascade.proofs.order.each_cdn.Given as goal

abbrev pub invariant-words : goal.invariant-words
invariant-words l = option_map (λ more. l.cdns.items ++ more) (each_cdn (drop l.word-index l.words)) ≡ each_cdn l.words
