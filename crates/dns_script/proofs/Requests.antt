-- A request that is read.
use Rattle.std.proofs.Common.{◌≡◌, List, ℕ, true, false, None, Ok, Err, ap}
use Rattle.std.specs.Prelude.{option_map}
use Rattle.std.specs.Result.{IsErrOf}
use Rattle.std.proofs.lemmas.Bool.{cond-true, cond-false}
use Rattle.client_request.specs.declared.error.Error.{Error}
use Rattle.client_request.specs.Request.{is_misformed}
use Rattle.dns_script.specs.Grammar.{opt_of, request_of}

pub made_request : (base header word : List ℕ) → is_misformed base ≡ false → request_of base header word ≡ option_map (λ opt. record { base = base; header = header; opt = opt }) (opt_of word)
unfolding request_of
made_request base header word e = cond-false (is_misformed base) None (option_map (λ opt. record { base = base; header = header; opt = opt }) (opt_of word)) e

pub misformed_request : (base header word : List ℕ) → is_misformed base ≡ true → request_of base header word ≡ None
unfolding request_of
misformed_request base header word e = cond-true (is_misformed base) None (option_map (λ opt. record { base = base; header = header; opt = opt }) (opt_of word)) e

pub ok_is_no_error : {A : Type 0} (x : A) (e : Error) → IsErrOf (Ok x) e → ⊥
ok_is_no_error x e h = cc

pub error_is : {A : Type 0} (e f : Error) → e ≡ f → IsErrOf {T = A} (Err e) f
error_is e f h = ap Err h
