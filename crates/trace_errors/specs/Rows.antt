-- What was so in some row that is done.
use Rattle.std.specs.Prelude.{ℕ, ◌⊎◌}
use Rattle.client_request.specs.declared.error.Error.{Error}
use Rattle.right_trace.specs.Trace.{History, Conf}
use Rattle.right_trace.specs.Time.{EarlierRow, OfRow}
use Rattle.right_trace.specs.Causes.{ServerCause}

-- in the newest row, which is done here, or in one before
abbrev pub ByRow : (History → Type 0) → History → Type 0
ByRow P h = P h ⊎ EarlierRow P h

-- a server gave a request this error in the newest row
abbrev pub IsCaused : (c : Conf) (k : ℕ) → Error → History → Type 0
IsCaused c k e = OfRow (λ past w h. ServerCause c k past w h e)

abbrev pub WasCaused : (c : Conf) (k : ℕ) → Error → History → Type 0
WasCaused c k e h = ByRow (IsCaused c k e) h
