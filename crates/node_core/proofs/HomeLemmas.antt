-- What the home of one pass has seen.
use Rattle.std.proofs.Common.{◌≡◌, ℕ, [], ◌∷◌, ◌++◌, refl, sym, subst, Result, Ok, Err, IfOk, OnErr}
use Rattle.std.specs.declared.alloc.AllocError.{AllocError}
use Rattle.std.specs.Result.{MatchResult}
use Rattle.std.proofs.lemmas.List.{append-nil}
use Rattle.history.specs.Event.{Event, History}
use Rattle.history.specs.History.{reply_to}
use Rattle.history.specs.declared.reply.Reply.{Reply}
use Rattle.node_core.specs.Home.{AreOf, IsAnswered, IsUnanswered}
use Rattle.node_core.specs.Node.{NodeView, Stands, Tells}

-- the node stands for the history, and each entry is of this pass
abbrev pub Sees : NodeView → ℕ → History → Type 0
Sees v number h = Stands v v.made h × AreOf number h

all_of : (number : ℕ) (h : History) (event : Event) → AreOf number h → AreOf number (h ++ (number, event) ∷ [])
all_of number [] event are = (refl, tt)
all_of number (entry ∷ entries) event are = (are.0, all_of number entries event are.1)

pub seen_by : (result : Result Reply AllocError) (old new : NodeView) (number : ℕ) (h : History) (event : Event) → new.made ≡ old.made → Sees old number h
    → IfOk result (λ r. Tells old.made h (number, event) r new) → OnErr result (new ≡ old)
    → MatchResult result (λ r. IsAnswered (record { made = old.made; number = number }) h event r (Sees new number)) (λ _. IsUnanswered (record { made = old.made; number = number }) h (Sees new number))
seen_by (Ok r) old new number h event made sees tells err = record {
  others = [];
  are_others = tt;
  answer = subst (λ hs. r ≡ reply_to old.made hs (number, event)) (sym (append-nil h)) tells.0;
  seen = subst (λ hs. Sees new number (hs ++ (number, event) ∷ [])) (sym (append-nil h)) (subst (λ m. Stands new m (h ++ (number, event) ∷ [])) (sym made) tells.1, all_of number h event sees.1);
}
seen_by (Err e) old new number h event made sees tells err = record {
  others = [];
  are_others = tt;
  seen = subst (Sees new number) (sym (append-nil h)) (subst (λ v. Sees v number h) (sym err) sees);
}
