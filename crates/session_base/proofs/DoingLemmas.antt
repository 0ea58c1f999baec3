-- What passes, one thing after the other.
use Rattle.std.proofs.Common.{◌≡◌, ℕ, List, [], ◌∷◌, ◌++◌, refl, sym, ◌∙◌, subst, append_assoc, append-nil}
use Rattle.std.specs.declared.option.Option.{Option}
use Rattle.std.specs.Io.KnownBytes.{Appends}
use Rattle.std.proofs.KnownBytes.{Appends-nil, Appends-trans}
use Rattle.edge_base.specs.Clock.{Grows}
use Rattle.history.specs.Event.{Event, History}
use Rattle.history.specs.History.{reply_to}
use Rattle.node_core.specs.Home.{AreOthers, Who, IsAnswered, IsUnanswered}
use Rattle.upstream_gate.specs.Outcome.{Exchange}
use Rattle.upstream_gate.proofs.PlanLemmas.{grows_on, grows_none}
use Rattle.history.specs.declared.reply.Reply.{Reply}
use Rattle.session_base.specs.Doing.{Called, Doing, nothing, then, Told, Makes, Any, Does}

-- other passes' entries together are others' entries
pub others_then : (number : ℕ) (xs ys : History) → AreOthers number xs → AreOthers number ys → AreOthers number (xs ++ ys)
others_then number [] ys p q = q
others_then number (x ∷ xs) ys p q = (p.0, others_then number xs ys p.1 q)

-- others' entries may stand before the calls
pub told_before : (who : Who) (h others : History) (calls : List Called) (last : History) → AreOthers who.number others → Told who (h ++ others) calls last → Told who h calls last
told_before who h others [] last are (more, are_more, is) = (others ++ more, others_then who.number others more are are_more, is ∙ append_assoc h others more)
told_before who h others (call ∷ calls) last are (more, are_more, answer, told) =
    let same = append_assoc h others more in (
      others ++ more,
      others_then who.number others more are are_more,
      subst (λ hs. call.1 ≡ reply_to who.made hs (who.number, call.0)) same answer,
      subst (λ hs. Told who (hs ++ (who.number, call.0) ∷ []) calls last) same told,
    )

-- calls after calls
pub told_then : (who : Who) (h : History) (calls : List Called) (middle : History) (more : List Called) (last : History) → Told who h calls middle → Told who middle more last → Told who h (calls ++ more) last
told_then who h [] middle more last (others, are, is) told = told_before who h others more last are (subst (λ hs. Told who hs more last) is told)
told_then who h (call ∷ calls) middle more last (others, are, answer, rest) told =
    (others, are, answer, told_then who ((h ++ others) ++ (who.number, call.0) ∷ []) calls middle more last rest told)

-- nothing was called
pub told_none : (who : Who) (h : History) → Told who h [] h
told_none who h = ([], tt, sym (append-nil h))

pub makes_none : (who : Who) (needs seen : History → Type 0) → Makes who needs seen seen []
makes_none who needs seen h saw need = (h, told_none who h, saw)

-- calls after calls, where those before leave what those behind need
pub makes_then : (who : Who) (needs more_needs old middle new : History → Type 0) (calls more : List Called) → Makes who needs old middle calls → Makes who more_needs middle new more
    → ((h last : History) → needs h → Told who h calls last → more_needs last) → Makes who needs old new (calls ++ more)
makes_then who needs more_needs old middle new calls more first second leaves h saw need =
    let a = first h saw need in
    let b = second a.0 a.2 (leaves h a.0 need a.1) in
    (b.0, told_then who h calls a.0 more b.0 a.1 b.1, b.2)

-- one call that was answered
pub told_one : (who : Who) (h : History) (event : Event) (given : Reply) (sees : History → Type 0) → IsAnswered who h event given sees → (last : History) × Told who h ((event, given) ∷ []) last × sees last
told_one who h event given sees a =
    let after = (h ++ a.others) ++ (who.number, event) ∷ [] in
    (after, (a.others, a.are_others, a.answer, told_none who after), a.seen)

-- a call that was answered, and one that was not
pub made_one : (who : Who) (old new : History → Type 0) (event : Event) (r : Reply) → ((h : History) → old h → IsAnswered who h event r new) → Makes who Any old new ((event, r) ∷ [])
made_one who old new event r seen h saw need = told_one who h event r new (seen h saw)

pub made_as : (r s : Reply) → r ≡ s → (who : Who) (old new : History → Type 0) (event : Event) → ((h : History) → old h → IsAnswered who h event r new) → Makes who Any old new ((event, s) ∷ [])
made_as r s same who old new event seen = subst (λ (x : Reply). Makes who Any old new ((event, x) ∷ [])) same (made_one who old new event r seen)

pub made_none : (who : Who) (old new : History → Type 0) → ((h : History) → old h → IsUnanswered who h new) → Makes who Any old new []
made_none who old new seen h saw need = let u = seen h saw in (_, (u.others, u.are_others, refl), u.seen)

-- what is told of nothing, and of one thing after the other
pub does_nothing : (who : Who) (needs seen : History → Type 0) (given : Option (List ℕ)) (told : Option (List Exchange)) (held : Option (List ℕ)) → Does who needs seen seen given given told told held held nothing
does_nothing who needs seen given told held = record {
  moments = grows_none given;
  exchanges = grows_none told;
  written = Appends-nil held;
  calls = makes_none who needs seen;
}

pub does_then : (who : Who) (needs more_needs a b c : History → Type 0) (g g' g'' : Option (List ℕ)) (t t' t'' : Option (List Exchange)) (k k' k'' : Option (List ℕ)) (d e : Doing)
    → Does who needs a b g g' t t' k k' d → Does who more_needs b c g' g'' t' t'' k' k'' e
    → ((h last : History) → needs h → Told who h d.calls last → more_needs last) → Does who needs a c g g'' t t'' k k'' (then d e)
does_then who needs more_needs a b c g g' g'' t t' t'' k k' k'' d e p q leaves = record {
  moments = grows_on g g' g'' d.moments e.moments p.moments q.moments;
  exchanges = grows_on t t' t'' d.exchanges e.exchanges p.exchanges q.exchanges;
  written = Appends-trans k k' k'' d.written e.written p.written q.written;
  calls = makes_then who needs more_needs a b c d.calls e.calls p.calls q.calls leaves;
}

-- where nothing is needed behind
pub does_on : (who : Who) (needs a b c : History → Type 0) (g g' g'' : Option (List ℕ)) (t t' t'' : Option (List Exchange)) (k k' k'' : Option (List ℕ)) (d e : Doing)
    → Does who needs a b g g' t t' k k' d → Does who Any b c g' g'' t' t'' k' k'' e → Does who needs a c g g'' t t'' k k'' (then d e)
does_on who needs a b c g g' g'' t t' t'' k k' k'' d e p q = does_then who needs Any a b c g g' g'' t t' t'' k k' k'' d e p q (λ h last need told. tt)

-- single things
pub does_calls : (who : Who) (needs a b : History → Type 0) (g : Option (List ℕ)) (t : Option (List Exchange)) (k : Option (List ℕ)) (calls : List Called) → Makes who needs a b calls
    → Does who needs a b g g t t k k (record nothing { calls = calls })
does_calls who needs a b g t k calls makes = record { moments = grows_none g; exchanges = grows_none t; written = Appends-nil k; calls = makes }

pub does_read : (who : Who) (needs a : History → Type 0) (g g' : Option (List ℕ)) (t : Option (List Exchange)) (k : Option (List ℕ)) (moments : List ℕ) → Grows g g' moments
    → Does who needs a a g g' t t k k (record nothing { moments = moments })
does_read who needs a g g' t k moments grows = record { moments = grows; exchanges = grows_none t; written = Appends-nil k; calls = makes_none who needs a }

pub does_asked : (who : Who) (needs a : History → Type 0) (g : Option (List ℕ)) (t t' : Option (List Exchange)) (k : Option (List ℕ)) (made : List Exchange) → Grows t t' made
    → Does who needs a a g g t t' k k (record nothing { exchanges = made })
does_asked who needs a g t t' k made grows = record { moments = grows_none g; exchanges = grows; written = Appends-nil k; calls = makes_none who needs a }

pub does_written : (who : Who) (needs a : History → Type 0) (g : Option (List ℕ)) (t : Option (List Exchange)) (k k' : Option (List ℕ)) (written : List ℕ) → Appends k k' written
    → Does who needs a a g g t t k k' (record nothing { written = written })
does_written who needs a g t k k' written appends = record { moments = grows_none g; exchanges = grows_none t; written = appends; calls = makes_none who needs a }

-- the same list of what passed, written otherwise; its bytes play no part
pub does_as : (who : Who) (needs a b : History → Type 0) (g g' : Option (List ℕ)) (t t' : Option (List Exchange)) (k k' : Option (List ℕ)) (d e : Doing)
    → Does who needs a b g g' t t' k k' d → d.moments ≡ e.moments → d.exchanges ≡ e.exchanges → d.written ≡ e.written → d.calls ≡ e.calls → Does who needs a b g g' t t' k k' e
does_as who needs a b g g' t t' k k' d e does m x w c = record {
  moments = subst (Grows g g') m does.moments;
  exchanges = subst (Grows t t') x does.exchanges;
  written = subst (Appends k k') w does.written;
  calls = subst (Makes who needs a b) c does.calls;
}

-- the same home
pub for_who : (who who' : Who) → who ≡ who' → (needs : Who → History → Type 0) (a b : History → Type 0) (calls : List Called) → Makes who (needs who) a b calls → Makes who' (needs who') a b calls
for_who who who' same needs a b calls makes = subst (λ (w : Who). Makes w (needs w) a b calls) same makes
