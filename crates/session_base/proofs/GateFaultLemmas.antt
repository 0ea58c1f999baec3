-- The count of a gate's faults, call by call.
use Rattle.std.proofs.Common.{◌≡◌, ◌≤◌, ℕ, Bool, true, false, List, [], ◌∷◌, ◌++◌, arith, refl, subst, sym}
use Rattle.std.proofs.lemmas.List.Elements.{All-append, All-cons, All-nil, All-weaker}
use Rattle.edge_base.specs.Causes.{Rose}
use Rattle.history.specs.Event.{Event, FetchEnd}
use Rattle.history.specs.declared.reply.Reply.{Reply}
use Rattle.session_base.specs.Doing.{Called}
use Rattle.session_base.specs.GateFaults.{CountsFaults, ends_failed}
use Rattle.upstream_gate.specs.Outcome.{is_failed}
use Rattle.upstream_gate.specs.declared.outcome.Outcome.{Outcome}
use Rattle.upstream_gate.specs.declared.outcome.Outcome.TheVariants as outcome

abbrev RisesFor : ℕ → ℕ → Called → Type 0
RisesFor before now call = ends_failed call.0 ≡ true → Rose before now

-- nothing is called
pub counts_none : (n : ℕ) → CountsFaults n n []
counts_none n = record { later = omega arith; risen = All-nil (RisesFor n n) }

none_ends : {P : Type 0} (ends : Bool) → ends ≡ false → ends ≡ true → P
none_ends true not is = cc
none_ends false not is = cc

-- a call that ends no such fetch
pub counts_other : (before now : ℕ) (call : Called) → before ≤ now → ends_failed call.0 ≡ false → CountsFaults before now (call ∷ [])
counts_other before now call later other = record { later = later; risen = All-cons (RisesFor before now) call [] (none_ends (ends_failed call.0) other) (All-nil (RisesFor before now)) }

is_failed_of : (how : Outcome) → is_failed how ≡ true → how ≡ outcome.Failed
is_failed_of outcome.Failed is = refl
is_failed_of (outcome.Got got) is = cc
is_failed_of (outcome.Refused status) is = cc
is_failed_of (outcome.TooLong length) is = cc
is_failed_of (outcome.Malformed taken) is = cc
is_failed_of (outcome.Cut taken) is = cc
is_failed_of outcome.Memory is = cc

-- the end of a fetch
pub counts_fetch : (before now fetch : ℕ) (how : Outcome) (moment : ℕ) (line : Reply) → before ≤ now → (how ≡ outcome.Failed → Rose before now) → CountsFaults before now ((FetchEnd fetch how moment, line) ∷ [])
counts_fetch before now fetch how moment line later failed = record {
  later = later;
  risen = All-cons (RisesFor before now) (FetchEnd fetch how moment, line) [] (λ is. failed (is_failed_of how is)) (All-nil (RisesFor before now));
}

rose_wider : (a b c d : ℕ) → a ≤ b → c ≤ d → Rose b c → Rose a d
rose_wider a b c d low high rose = omega (arith, low, high, rose)

-- what was counted within a longer time
pub counts_wider : (a b c d : ℕ) (calls : List Called) → a ≤ b → c ≤ d → CountsFaults b c calls → CountsFaults a d calls
counts_wider a b c d calls low high counts = record {
  later = omega (arith, low, high, counts.later);
  risen = All-weaker (RisesFor b c) (RisesFor a d) (λ call risen is. rose_wider a b c d low high (risen is)) calls counts.risen;
}

-- one after the other
pub counts_then : (a b c : ℕ) (xs ys : List Called) → CountsFaults a b xs → CountsFaults b c ys → CountsFaults a c (xs ++ ys)
counts_then a b c xs ys first second =
    let before = counts_wider a a b c xs (omega arith) second.later first in
    let behind = counts_wider a b c c ys first.later (omega arith) second in
    record { later = before.later; risen = All-append (RisesFor a c) xs ys before.risen behind.risen }

pub counts_as : (a b : ℕ) (xs ys : List Called) → ys ≡ xs → CountsFaults a b xs → CountsFaults a b ys
counts_as a b xs ys same counts = subst (CountsFaults a b) (sym same) counts
