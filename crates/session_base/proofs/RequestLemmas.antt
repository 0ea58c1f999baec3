-- Options of a connection, one after the other.
use Rattle.std.proofs.Common.{◌≡◌, ℕ, ◌==◌, Bool, true, false, ◌||◌, List, [], ◌∷◌, codes, refl, sym, ap, ◌∙◌}
use Rattle.field_list.specs.List.{items_of}
use Rattle.http_wire.specs.Head.{HeadParts}
use Rattle.session_base.specs.Request.{is_close, says_close}
use Rattle.std.specs.List.{fold, list_any}

or_false : (b : Bool) → b ≡ (b || false)
or_false true = refl
or_false false = refl

or_assoc : (a b c : Bool) → ((a || b) || c) ≡ (a || (b || c))
or_assoc true b c = refl
or_assoc false b c = refl

-- a test of each item, one after the other
pub any_by_fold : (q : List ℕ → Bool) (items : List (List ℕ)) (b : Bool) → fold (λ told item. told || q item) b items ≡ (b || list_any q items)
any_by_fold q [] b = or_false b
any_by_fold q (item ∷ items) b = any_by_fold q items (b || q item) ∙ or_assoc b (q item) (list_any q items)

-- a request of HTTP/1.1 whose options were read
pub close_said : (head : HeadParts) (holds : Bool) → (head.minor == 0) ≡ false → holds ≡ fold (λ told option. told || is_close option) false (items_of (codes "connection") head.headers) → holds ≡ says_close head
unfolding says_close
close_said head holds minor is =
    is ∙ any_by_fold is_close (items_of (codes "connection") head.headers) false ∙ ap (λ (b : Bool). b || list_any is_close (items_of (codes "connection") head.headers)) (sym minor)
