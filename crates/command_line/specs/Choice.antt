-- Which call the words choose.
use Rattle.std.specs.Prelude.{List, [], ◌∷◌, String, string_bytes, bytes_eq, codes, if◌then◌else◌}
use Rattle.std.specs.declared.alloc.Global.{Global}
use Rattle.command_line.specs.declared.choice.Choice.{Choice}
use Rattle.command_line.specs.declared.choice.Choice.TheVariants as choice

-- the first word decides; no word at all is as any other
abbrev pub choice_of : List (String Global) → Choice
choice_of [] = choice.Batch
choice_of (first ∷ words) = if bytes_eq (string_bytes first) (codes "serve") then choice.Serve
    else (if bytes_eq (string_bytes first) (codes "cascade") then choice.Cascade else choice.Batch)
