-- The command as `clap` has it.
use Rattle.std.specs.Prelude.{ℕ, List, [], ◌∷◌, codes, Some, true}
use Rattle.clap.specs.Simple.{App, new_app, new_rule, on_top, with_rule}
use Rattle.clap.specs.Walk.{Rule}
use Rattle.serve_words.specs.Form.{NAMES}

-- an option of this name, with one value
abbrev pub option_rule : List ℕ → Rule
option_rule name = record (new_rule name) { long = Some name }

abbrev pub without_help : App → App
without_help a = on_top (λ s. record s { disable_help_flag = true }) a

abbrev pub with_options : App → List (List ℕ) → App
with_options a [] = a
with_options a (name ∷ names) = with_options (with_rule a (option_rule name)) names

-- `serve` and its options, without a flag for help
abbrev pub serve_app : App
serve_app = with_options (without_help (new_app (codes "serve"))) NAMES
