-- One turn after the other.
use Rattle.std.proofs.Common.{◌≡◌, ℕ, ◌+◌, ◌-◌, ◌<◌, ◌==◌, Bool, true, false, List, [], ◌∷◌, ◌++◌, refl, sym, subst, arith, Option}
use Rattle.std.specs.Io.KnownBytes.{Consumes}
use Rattle.history.specs.Event.{History}
use Rattle.http_wire.specs.Moves.{Moves}
use Rattle.http_wire.proofs.MoveLemmas.{moves_nothing, moves_then}
use Rattle.location_acl.specs.declared.footprint.Place.{Place}
use Rattle.node_core.specs.Home.{Who}
use Rattle.upstream_gate.specs.Outcome.{Exchange}
use Rattle.session_base.specs.Answer.{Says, IsConstant}
use Rattle.session_base.specs.Doing.{Doing, nothing, then, Any, Does}
use Rattle.session_base.specs.Ending.{next_of}
use Rattle.session_base.specs.GateFaults.{CountsFaults}
use Rattle.session.specs.Session.{Runs, Session, Leaves}
use Rattle.session.specs.Turn.{Turn}
use Rattle.session_base.specs.declared.constant.Constant.TheVariants as constant
use Rattle.session_base.specs.declared.ending.Ending.{Ending}
use Rattle.session_base.specs.declared.ending.Ending.TheVariants as ending
use Rattle.session_base.specs.declared.ending.Next.TheVariants as next
use Rattle.session_base.specs.declared.send.Sent.{Sent}
use Rattle.session.specs.declared.serve.TheConstants.{TURNS_MAX}
use Rattle.session_base.specs.declared.settings.Settings.{Settings}
use Rattle.session_base.proofs.DoingLemmas.{does_nothing, does_on}
use Rattle.session_base.proofs.GateFaultLemmas.{counts_none, counts_then}
use Rattle.session.proofs.TurnLemmas.{Turned, short_of_head}

-- what was done in so many turns: what is told of the rest is told of all
pub record SoFar (settings : Settings) (place : Place) (n : ℕ) (who : Who) (a b : History → Type 0) (g g' : Option (List ℕ)) (t t' : Option (List Exchange)) (f f' : ℕ) (k k' left left' : Option (List ℕ)) (inbox : List ℕ) : Type 0 where
  pub done : Doing
  pub runs : (turns : List Doing) (end : Ending) (all : Doing) → Runs settings place n done turns end all → (more : List Doing) × Runs settings place 0 nothing more end all
  pub moves : Moves left left' [] inbox done.bytes
  pub does : Does who Any a b g g' t t' k k' done
  pub counts : CountsFaults f f' done.calls

pub begins : (settings : Settings) (place : Place) (who : Who) (a : History → Type 0) (g : Option (List ℕ)) (t : Option (List Exchange)) (f : ℕ) (k left : Option (List ℕ)) (inbox : List ℕ) → inbox ≡ []
    → SoFar settings place 0 who a a g g t t f f k k left left inbox
begins settings place who a g t f k left inbox empty = record {
  done = nothing;
  runs = λ turns end all r. (turns, r);
  moves = subst (λ (x : List ℕ). Moves left left [] x []) (sym empty) (moves_nothing left []);
  does = does_nothing who Any a g t k;
  counts = counts_none f;
}

pub goes_on : (settings : Settings) (place : Place) (n : ℕ) (last : Bool) (who : Who) (a b c : History → Type 0) (g g' g'' : Option (List ℕ)) (t t' t'' : Option (List Exchange)) (f f' f'' : ℕ) (k k' k'' left left' left'' : Option (List ℕ)) (inbox inbox' : List ℕ)
    → SoFar settings place n who a b g g' t t' f f' k k' left left' inbox → last ≡ (n == TURNS_MAX - 1) → n < TURNS_MAX → (v : Who) → v ≡ who → Turned v b c g' g'' t' t'' f' f'' k' k'' left' left'' inbox inbox' settings place last next.GoesOn
    → SoFar settings place (n + 1) who a c g g'' t t'' f f'' k k'' left left'' inbox'
unfolding Runs
goes_on settings place n last who a b c g g' g'' t t' t'' f f' f'' k k' k'' left left' left'' inbox inbox' so is within v same there =
    let turn = subst (λ (x : Who). Turned x b c g' g'' t' t'' f' f'' k' k'' left' left'' inbox inbox' settings place last next.GoesOn) same there in
    record {
      done = then so.done turn.0;
      runs = λ turns end all r. so.runs (turn.0 ∷ turns) end all (within, next.GoesOn, subst (λ (x : Bool). Turn settings place x turn.0 next.GoesOn) is turn.1, r);
      moves = moves_then left left' left'' [] inbox inbox' so.done.bytes turn.0.bytes so.moves turn.2;
      does = does_on who Any a b c g g' g'' t t' t'' k k' k'' so.done turn.0 so.does turn.4;
      counts = counts_then f f' f'' so.done.calls turn.0.calls so.counts turn.5;
    }

-- what is told of a whole session
abbrev pub Ends : Settings → Place → Who → (History → Type 0) → (History → Type 0) → Option (List ℕ) → Option (List ℕ) → Option (List Exchange) → Option (List Exchange) → ℕ → ℕ → Option (List ℕ) → Option (List ℕ) → Option (List ℕ) → Option (List ℕ) → Ending → Type 0
Ends settings place who a b g g' t t' f f' k k' left left' end =
    (d : Doing) × (rest : List ℕ) × Session settings place d end × Consumes left left' (d.bytes ++ rest) × Leaves left' rest end × Does who Any a b g g' t t' k k' d × CountsFaults f f' d.calls

taken : (left left' : Option (List ℕ)) (inbox bytes : List ℕ) → Moves left left' [] inbox bytes → Consumes left left' (bytes ++ inbox)
taken left left' inbox bytes moves = subst (λ (x : List ℕ). Consumes left left' x) moves.parts moves.consumed

pub stops : (settings : Settings) (place : Place) (n : ℕ) (last : Bool) (who : Who) (a b c : History → Type 0) (g g' g'' : Option (List ℕ)) (t t' t'' : Option (List Exchange)) (f f' f'' : ℕ) (k k' k'' left left' left'' : Option (List ℕ)) (inbox inbox' : List ℕ) (end : Ending)
    → SoFar settings place n who a b g g' t t' f f' k k' left left' inbox → last ≡ (n == TURNS_MAX - 1) → n < TURNS_MAX → (v : Who) → v ≡ who → Turned v b c g' g'' t' t'' f' f'' k' k'' left' left'' inbox inbox' settings place last (next.Stops end)
    → Ends settings place who a c g g'' t t'' f f'' k k'' left left'' end
unfolding Runs
stops settings place n last who a b c g g' g'' t t' t'' f f' f'' k k' k'' left left' left'' inbox inbox' end so is within v same there =
    let turn = subst (λ (x : Who). Turned x b c g' g'' t' t'' f' f'' k' k'' left' left'' inbox inbox' settings place last (next.Stops end)) same there in
    let all = then so.done turn.0 in
    let r = so.runs (turn.0 ∷ []) end all (within, next.Stops end, subst (λ (x : Bool). Turn settings place x turn.0 (next.Stops end)) is turn.1, (refl, refl, refl)) in
    let moves = moves_then left left' left'' [] inbox inbox' so.done.bytes turn.0.bytes so.moves turn.2 in
    (all, inbox', r, taken left left'' inbox' all.bytes moves, turn.3, does_on who Any a b c g g' g'' t t' t'' k k' k'' so.done turn.0 so.does turn.4, counts_then f f' f'' so.done.calls turn.0.calls so.counts turn.5)

pub used_up : (settings : Settings) (place : Place) (n : ℕ) (who : Who) (a b : History → Type 0) (g g' : Option (List ℕ)) (t t' : Option (List Exchange)) (f f' : ℕ) (k k' left left' : Option (List ℕ)) (inbox : List ℕ)
    → SoFar settings place n who a b g g' t t' f f' k k' left left' inbox → n ≡ TURNS_MAX → Ends settings place who a b g g' t t' f f' k k' left left' ending.Turns
unfolding Runs
used_up settings place n who a b g g' t t' f f' k k' left left' inbox so is =
    (so.done, inbox, so.runs [] ending.Turns so.done (is, refl, refl), taken left left' inbox so.done.bytes so.moves, tt, so.does, so.counts)

-- no room was found at the begin
pub no_room : (settings : Settings) (place : Place) (who : Who) (a : History → Type 0) (g : Option (List ℕ)) (t : Option (List Exchange)) (f : ℕ) (k k' left : Option (List ℕ)) (sent : Sent) (end : Ending)
    → Says (IsConstant constant.Unavailable) k k' sent → next.Stops end ≡ next_of false true sent.fault → Ends settings place who a a g g t t f f k k' left left end
no_room settings place who a g t f k k' left sent end s goes =
    stops settings place 0 false who a a a g g g t t t f f f k k k' left left left [] [] end (begins settings place who a g t f k left [] refl) refl (omega arith) who refl
    (short_of_head who a g t f k k' sent left left [] [] settings place false (next.Stops end) s goes (moves_nothing left []))
