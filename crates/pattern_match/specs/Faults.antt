-- When a text is refused as a pattern.
use Rattle.std.specs.Prelude.{◌≡◌, ◌<◌, ℕ, List, length}
use Rattle.pattern_match.specs.declared.pattern.PatternFault.{PatternFault}
use Rattle.pattern_match.specs.declared.pattern.PatternFault.TheVariants.{TooLong, Memory}

-- a text of more than 1,024 bytes is too long; where memory ends nothing is said of it
abbrev pub Refuses : List ℕ → PatternFault → Type 0
Refuses text (TooLong len) = (1024 < length text) × (len ≡ length text)
Refuses text Memory = Unit {0}
