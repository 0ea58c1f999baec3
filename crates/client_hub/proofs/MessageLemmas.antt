-- Bytes that stand behind others.
use Rattle.std.proofs.Common.{ℕ, List, [], ◌++◌, sym, ◌∙◌, ap, subst, append_assoc}
use Rattle.std.proofs.lemmas.List.{append-nil}
use Rattle.sockets.specs.Ready.{Fills}
use Rattle.sockets.specs.declared.ready.Moved.{Moved}
use Rattle.sockets.specs.declared.ready.Moved.TheVariants as moved
use Rattle.client_hub.specs.Message.{Follows}

pub follows_same : (bytes : List ℕ) → Follows bytes bytes
follows_same bytes = ([], sym (append-nil bytes))

-- what a read brought stands behind what stood there
fills_follows : (old new : List ℕ) (got : Moved) → Fills old new got → Follows old new
fills_follows old new (moved.Some n) fills = (fills.0, fills.1)
fills_follows old new moved.End fills = subst (Follows old) (sym fills) (follows_same old)
fills_follows old new moved.Later fills = subst (Follows old) (sym fills) (follows_same old)
fills_follows old new moved.Failed fills = subst (Follows old) (sym fills) (follows_same old)

pub follows_on : (first old new : List ℕ) (got : Moved) → Follows first old → Fills old new got → Follows first new
follows_on first old new got before fills =
    let more = fills_follows old new got fills in
    (before.0 ++ more.0, more.1 ∙ ap (λ l. l ++ more.0) before.1 ∙ append_assoc first before.0 more.0)
