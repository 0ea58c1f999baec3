-- The two numbers that make a script.
use Rattle.std.specs.Prelude.{◌≡◌, ℕ, ◌≤◌, List, decimal}
use Rattle.generated_script.specs.declared.numbers.TheConstants.{MOST_ROUNDS, MOST_SEED}

-- how many rounds there are, and the number that the draws begin with
pub record ScriptNumbers : Type 0 where
  pub rounds : ℕ
  pub seed : ℕ

-- each number is in its range
pub record AreScriptNumbers (numbers : ScriptNumbers) : Type 0 where
  pub some : 1 ≤ numbers.rounds
  pub most : numbers.rounds ≤ MOST_ROUNDS
  pub seed : numbers.seed ≤ MOST_SEED

-- the two words write these numbers, in decimal digits without leading zeros, and each is in its range
pub record WriteNumbers (first second : List ℕ) (numbers : ScriptNumbers) : Type 0 where
  pub first_word : first ≡ decimal numbers.rounds
  pub second_word : second ≡ decimal numbers.seed
  pub range : AreScriptNumbers numbers
