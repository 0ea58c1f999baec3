-- A reply that the history before a call says keeps the laws.
use Rattle.std.proofs.Common.{◌≡◌, ℕ, sym, ap, ◌∙◌, Result, Ok, Err, IfOk}
use Rattle.std.specs.declared.alloc.AllocError.{AllocError}
use Rattle.history.specs.Event.{Event, History}
use Rattle.history.specs.History.{reply_to}
use Rattle.history.specs.World.{Made}
use Rattle.history.specs.declared.reply.Reply.{Reply}
use Rattle.node_core.specs.Law.{IsLawful}
use Rattle.node_core.specs.Node.{NodeView, Tells}

-- what this event is answered, where the call is this one and its answer that
pub said_of : (made : Made) (h : History) (pass : ℕ) (event : Event) (answer : Reply) → answer ≡ reply_to made h (pass, event) → (event' : Event) (answer' : Reply) → event ≡ event' → answer ≡ answer'
    → reply_to made h (pass, event') ≡ answer'
said_of made h pass event answer is event' answer' same also = ap (λ e. reply_to made h (pass, e)) (sym same) ∙ sym is ∙ also

-- every answer is lawful
abbrev pub AreLawful : Type 0
AreLawful = (made : Made) (h : History) (pass : ℕ) (event : Event) (answer : Reply) → answer ≡ reply_to made h (pass, event) → IsLawful made h pass event answer

pub lawful_ok : AreLawful → (made : Made) (h : History) (pass : ℕ) (event : Event) (r : Result Reply AllocError) (v : NodeView) → IfOk r (λ a. Tells made h (pass, event) a v) → IfOk r (λ a. IsLawful made h pass event a)
lawful_ok law made h pass event (Ok a) v tells = law made h pass event a tells.0
lawful_ok law made h pass event (Err e) v tells = tt
