-- The history of a script, and the law of deliveries over it.
use Rattle.std.specs.Prelude.{ℕ, ◌+◌, List, [], ◌∷◌, length, ◌==◌}
use Rattle.std.specs.Option.{option_map_or}
use Rattle.cdni_base.specs.Limits.{default_limits}
use Rattle.history.specs.Event.{Entry}
use Rattle.history.specs.History.{AnsweredAt}
use Rattle.history.specs.declared.reply.Reply.{Reply}
use Rattle.node_core.specs.Law.{IsLawful}
use Rattle.replay_script.specs.Lines.{Line, lines_of}
use Rattle.replay_script.specs.Script.{Past, grown, made_with, next_said}

-- what the lines make that follow, up to the first that is none; the first of them has this number and begins here
unfoldable pub played_from : ℕ → ℕ → Past → List Line → Past
played_from number at past [] = past
played_from number at past (line ∷ lines) = option_map_or
    (λ said. played_from (number + 1) (at + (length line.body + 1)) (grown past said) lines)
    (next_said (number == 1) at line) past

-- the node and the history that a script makes
abbrev pub played : List ℕ → Past
played script = played_from 1 0 (made_with default_limits) (lines_of script)

-- each entry of the history is answered by the law of deliveries
abbrev pub KeepsTheLaw : Past → Type 0
KeepsTheLaw past = (at : ℕ) (entry : Entry) (answer : Reply) → (a : AnsweredAt past.made past.entries at entry answer)
    → IsLawful past.made a.before entry.0 entry.1 answer
