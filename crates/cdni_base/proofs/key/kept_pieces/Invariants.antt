use Rattle.std.proofs.Common.{◌≡◌, ◌+◌, length, filter, Some}
use Rattle.std.specs.Option.{option_map, option_map_or}
use Rattle.cdni_base.specs.Key.{pieces_of, is_kept, joined}
use Rattle.cdni_base.proofs.KeyLemmas.{with_pieces}
use Rattle.cdni_base.proofs.key.kept_pieces.Given as goal

abbrev pub invariant-pieces : goal.invariant-pieces
invariant-pieces l = with_pieces l.any l.kept.items (filter (is_kept l.names) (pieces_of (option_map (λ bytes. bytes.now) l.rest))) ≡ joined (filter (is_kept l.names) (pieces_of (Some l.query)))

abbrev pub decreases-pieces : goal.decreases-pieces
decreases-pieces l = option_map_or (λ bytes. length bytes.now + 1) l.rest 0
