-- The laws of inputs.
use Rattle.std.specs.Prelude.{◌≡◌, ℕ, List}
use Rattle.dnsq_run.specs.Program.{IsOutput, IsRefused, IsTaken, StopsForNumbers}
use Rattle.dnsq_run.specs.declared.usage.Command.{Command}

-- What is taken is not refused, one output is written for it, and none where its replay stops for a number.
pub record InputLaws : Type 0 where
  pub taken_or_refused : (command : Command) (text line : List ℕ) → IsTaken command text → ¬ (IsRefused command text line)
  pub one_output : (command : Command) (text a b : List ℕ) → IsOutput command text a → IsOutput command text b → a ≡ b
  pub written_or_stopped : (command : Command) (text out : List ℕ) → IsOutput command text out → ¬ (StopsForNumbers command text)
