-- Bytes that are taken piece after piece.
use Rattle.std.proofs.Common.{◌≡◌, ℕ, List, [], ◌++◌, take, drop, sym, ◌∙◌, ap, Option, append_assoc, append-nil}
use Rattle.std.specs.Io.KnownBytes.{Consumes, Keeps}
use Rattle.std.proofs.KnownBytes.{Consumes-trans, Consumes-nil, Consumes-kept}
use Rattle.std.proofs.lemmas.List.{take-append-drop}
use Rattle.http_wire.specs.Moves.{Moves}

pub moves_nothing : (old : Option (List ℕ)) (before : List ℕ) → Moves old old before before []
moves_nothing old before = record { taken = []; consumed = Consumes-nil old; parts = append-nil before }

-- nothing more came
pub moves_kept : (old now new : Option (List ℕ)) (before after later bytes : List ℕ)
    → Moves old now before after bytes → Keeps now new → later ≡ after → Moves old new before later bytes
moves_kept old now new before after later bytes m kept same = record {
  taken = m.taken;
  consumed = Consumes-kept old now new m.taken m.consumed kept;
  parts = m.parts ∙ ap (λ x. bytes ++ x) (sym same);
}

-- the inbox was filled
pub moves_filled : (old now new : Option (List ℕ)) (before after later bytes more : List ℕ)
    → Moves old now before after bytes → Consumes now new more → later ≡ after ++ more → Moves old new before later bytes
moves_filled old now new before after later bytes more m consumed grown = record {
  taken = m.taken ++ more;
  consumed = Consumes-trans old now new m.taken more m.consumed consumed;
  parts = sym (append_assoc before m.taken more) ∙ ap (λ x. x ++ more) m.parts ∙ append_assoc bytes after more ∙ ap (λ x. bytes ++ x) (sym grown);
}

-- some bytes of the inbox were passed
pub moves_passed : (old now : Option (List ℕ)) (before after later bytes : List ℕ) (count : ℕ)
    → Moves old now before after bytes → later ≡ drop count after → Moves old now before later (bytes ++ take count after)
moves_passed old now before after later bytes count m passed = record {
  taken = m.taken;
  consumed = m.consumed;
  parts = m.parts ∙ ap (λ x. bytes ++ x) (sym (take-append-drop count after)) ∙ sym (append_assoc bytes (take count after) (drop count after)) ∙ ap (λ x. (bytes ++ take count after) ++ x) (sym passed);
}

-- one reading after another
pub moves_then : (old now new : Option (List ℕ)) (before middle after bytes more : List ℕ)
    → Moves old now before middle bytes → Moves now new middle after more → Moves old new before after (bytes ++ more)
moves_then old now new before middle after bytes more m n = record {
  taken = m.taken ++ n.taken;
  consumed = Consumes-trans old now new m.taken n.taken m.consumed n.consumed;
  parts = sym (append_assoc before m.taken n.taken) ∙ ap (λ x. x ++ n.taken) m.parts ∙ append_assoc bytes middle n.taken
      ∙ ap (λ x. bytes ++ x) n.parts ∙ sym (append_assoc bytes more after);
}
