-- The endpoints of the sources so far, against those of all.
use Rattle.std.proofs.Common.{◌≡◌, ℕ, ◌+◌, ◌<◌, List, length, take, get_or, sym, ap, arith, nat_le}
use Rattle.std.proofs.lemmas.Bool.{lt-leb}
use Rattle.std.proofs.lemmas.List.Sums.{sum_by_more_le}
use Rattle.cdni_base.specs.declared.source_item.SourceItem.{SourceItem}
use Rattle.metadata_objects.specs.Source.{endpoint_count}

-- where the sources so far and the next one have more than 16, so have all
pub too_many : (sources : List SourceItem) (i : ℕ) (next : SourceItem) → i < length sources → next ≡ get_or sources i next
    → 16 < endpoint_count (take i sources) + length next.endpoints → nat_le 17 16 ≡ nat_le (endpoint_count sources) 16
too_many sources i next below is many =
    let part = sum_by_more_le (λ (source : SourceItem). length source.endpoints) sources i next below in
    let same : length (get_or sources i next).endpoints ≡ length next.endpoints = ap (λ (source : SourceItem). length source.endpoints) (sym is) in
    sym (lt-leb (endpoint_count sources) 16 (omega (arith, part, same, many)))
