-- The laws of reading lines.
use Rattle.std.specs.Prelude.{◌≡◌, ◌≢◌, ℕ, List, Result, Err}
use Rattle.resolv_conf.specs.declared.conf.ResolvConf.{ResolvConf}
use Rattle.resolv_conf.specs.declared.error.Error.{Error}
use Rattle.resolv_conf.specs.declared.error.Error.TheVariants.{NoMemory}
use Rattle.resolv_conf.specs.Line.{Outcome, LineGives}
use Rattle.resolv_conf.specs.Parse.{LinesAnswer}

-- A line makes one thing of a configuration, and a text too, want of memory aside.
pub record LineLaws : Type 0 where
  pub one_outcome : (line : List ℕ) (conf : ResolvConf) (a b : Outcome) → LineGives line conf a → LineGives line conf b → a ≡ b
  pub one_answer : (n : ℕ) (lines : List (List ℕ)) (conf new other : ResolvConf) (a b : Result (Unit {0}) Error)
      → LinesAnswer n lines conf a new → LinesAnswer n lines conf b other → a ≢ Err NoMemory → b ≢ Err NoMemory
      → (a ≡ b) × (new ≡ other)
