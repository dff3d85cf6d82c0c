-- What is written behind a text.
use Rattle.std.proofs.Common.{Some, List, ℕ}
use Rattle.std.specs.Prelude.{Option, None, Result}
use Rattle.std.specs.Fmt.{DisplaysOnOk, HasWritten, IsPlainFormatter, option_append}
use Rattle.std.specs.declared.fmt.Formatter.{Formatter}
use Rattle.std.specs.declared.fmt.Error.{Error}
use Rattle.std.proofs.Output.{has_written_append}

pub displays_behind : {W : Type 0} (took : W → List ℕ → W → Type 0) (f mid g : Formatter W) (r : Result (Unit {0}) Error) (front : List ℕ)
    (o : Option (List ℕ)) → (IsPlainFormatter f → HasWritten took f front mid) → DisplaysOnOk took mid r o g
    → DisplaysOnOk took f r (option_append (Some front) o) g
displays_behind took f mid g r front None h d = tt
displays_behind took f mid g r front (Some text) h d = λ p ok. has_written_append _ _ _ _ _ _ (h p) (d (h p).plain ok)
