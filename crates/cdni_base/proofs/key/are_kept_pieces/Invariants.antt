use Rattle.std.proofs.Common.{◌≡◌, ◌↔◌, ◌+◌, length, filter}
use Rattle.std.specs.Option.{option_map, option_map_or}
use Rattle.cdni_base.specs.Key.{pieces_of, is_kept}
use Rattle.cdni_base.proofs.key.are_kept_pieces.Given as goal

abbrev pub invariant-pieces : goal.invariant-pieces
invariant-pieces l = (filter (is_kept l.names) (pieces_of (option_map (λ bytes. bytes.now) l.rest)) ≡ pieces_of (option_map (λ bytes. bytes.now) l.left)) ↔ (filter (is_kept l.names) (pieces_of (option_map (λ bytes. bytes.now) l.fn.query)) ≡ pieces_of (option_map (λ bytes. bytes.now) l.fn.kept))

abbrev pub decreases-pieces : goal.decreases-pieces
decreases-pieces l = option_map_or (λ bytes. length bytes.now + 1) l.rest 0
