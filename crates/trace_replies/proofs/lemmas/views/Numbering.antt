-- Errors are told apart by their numbers.
use Rattle.std.proofs.Common.{◌≡◌, ℕ, zero, suc, ◌==◌, true, refl, sym, ap, ◌∙◌}
use Rattle.client_request.specs.declared.error.{Error.Error, QueryError.QueryError}
use Rattle.client_request.specs.declared.error.Error.TheVariants as errors
use Rattle.client_request.specs.declared.error.QueryError.TheVariants as query
use Rattle.client_request.specs.declared.fault.Fault.{Fault}
use Rattle.client_request.specs.declared.fault.Fault.TheVariants as fault
use Rattle.message_judging.proofs.lemmas.matching.Names.{both, all, same_number, number_same}
use Rattle.trace_replies.specs.views.Telling.{fault_number, query_number, query_fault, kind_number, doing_number, with_number, same_error}

fault_at : ℕ → Fault
fault_at zero = fault.Refused
fault_at (suc zero) = fault.Reset
fault_at (suc (suc zero)) = fault.Unreachable
fault_at (suc (suc (suc zero))) = fault.InUse
fault_at (suc (suc (suc (suc zero)))) = fault.Broken
fault_at (suc (suc (suc (suc (suc zero))))) = fault.Other
fault_at (suc (suc (suc (suc (suc (suc zero)))))) = fault.Expired
fault_at (suc (suc (suc (suc (suc (suc (suc zero))))))) = fault.ShortSend
fault_at (suc (suc (suc (suc (suc (suc (suc (suc zero)))))))) = fault.NothingTaken
fault_at (suc (suc (suc (suc (suc (suc (suc (suc (suc n))))))))) = fault.EndOfData

fault_back : (f : Fault) → fault_at (fault_number f) ≡ f
unfolding fault_at
fault_back fault.Refused = refl
fault_back fault.Reset = refl
fault_back fault.Unreachable = refl
fault_back fault.InUse = refl
fault_back fault.Broken = refl
fault_back fault.Other = refl
fault_back fault.Expired = refl
fault_back fault.ShortSend = refl
fault_back fault.NothingTaken = refl
fault_back fault.EndOfData = refl

query_at : (doing : ℕ) → Fault → QueryError
query_at zero f = query.Connect f
query_at (suc zero) f = query.Send f
query_at (suc (suc zero)) f = query.Receive f
query_at (suc (suc (suc n))) f = query.Timeout

query_back : (q : QueryError) → query_at (query_number q) (fault_at (query_fault q)) ≡ q
unfolding query_at
query_back (query.Connect f) = ap query.Connect (fault_back f)
query_back (query.Send f) = ap query.Send (fault_back f)
query_back (query.Receive f) = ap query.Receive (fault_back f)
query_back query.Timeout = refl

-- of the last thirteen kinds
late_at : ℕ → (q : QueryError) → Fault → Error
late_at zero q f = errors.StreamReadError f
late_at (suc zero) q f = errors.StreamReadTimeout
late_at (suc (suc zero)) q f = errors.StreamTooManyOutstandingQueries
late_at (suc (suc (suc zero))) q f = errors.StreamWriteError f
late_at (suc (suc (suc (suc zero)))) q f = errors.StreamUnexpectedEndOfData
late_at (suc (suc (suc (suc (suc zero))))) q f = errors.WrongReplyForQuery
late_at (suc (suc (suc (suc (suc (suc zero)))))) q f = errors.NoTransportAvailable
late_at (suc (suc (suc (suc (suc (suc (suc zero))))))) q f = errors.Dgram q
late_at (suc (suc (suc (suc (suc (suc (suc (suc zero)))))))) q f = errors.NoMemory
late_at (suc (suc (suc (suc (suc (suc (suc (suc (suc zero))))))))) q f = errors.NumbersUsed
late_at (suc (suc (suc (suc (suc (suc (suc (suc (suc (suc zero)))))))))) q f = errors.TimedOut
late_at (suc (suc (suc (suc (suc (suc (suc (suc (suc (suc (suc zero))))))))))) q f = errors.AlreadyDone
late_at (suc (suc (suc (suc (suc (suc (suc (suc (suc (suc (suc (suc n)))))))))))) q f = errors.Failed

error_at : ℕ → (q : QueryError) → Fault → Error
error_at zero q f = errors.ConnectionClosed
error_at (suc zero) q f = errors.OptTooLong
error_at (suc (suc zero)) q f = errors.MessageBuilderPushError
error_at (suc (suc (suc zero))) q f = errors.MessageParseError
error_at (suc (suc (suc (suc zero)))) q f = errors.RedundantTransportNotFound
error_at (suc (suc (suc (suc (suc zero))))) q f = errors.FormError
error_at (suc (suc (suc (suc (suc (suc zero)))))) q f = errors.ShortMessage
error_at (suc (suc (suc (suc (suc (suc (suc zero))))))) q f = errors.StreamLongMessage
error_at (suc (suc (suc (suc (suc (suc (suc (suc zero)))))))) q f = errors.StreamIdleTimeout
error_at (suc (suc (suc (suc (suc (suc (suc (suc (suc zero))))))))) q f = errors.StreamReceiveError
error_at (suc (suc (suc (suc (suc (suc (suc (suc (suc (suc n)))))))))) q f = late_at n q f

back_of : (kind doing with : ℕ) → Error
back_of k d w = error_at k (query_at d (fault_at w)) (fault_at w)

error_back : (e : Error) → back_of (kind_number e) (doing_number e) (with_number e) ≡ e
unfolding back_of error_at late_at
error_back errors.ConnectionClosed = refl
error_back errors.OptTooLong = refl
error_back errors.MessageBuilderPushError = refl
error_back errors.MessageParseError = refl
error_back errors.RedundantTransportNotFound = refl
error_back errors.FormError = refl
error_back errors.ShortMessage = refl
error_back errors.StreamLongMessage = refl
error_back errors.StreamIdleTimeout = refl
error_back errors.StreamReceiveError = refl
error_back (errors.StreamReadError f) = ap errors.StreamReadError (fault_back f)
error_back errors.StreamReadTimeout = refl
error_back errors.StreamTooManyOutstandingQueries = refl
error_back (errors.StreamWriteError f) = ap errors.StreamWriteError (fault_back f)
error_back errors.StreamUnexpectedEndOfData = refl
error_back errors.WrongReplyForQuery = refl
error_back errors.NoTransportAvailable = refl
error_back (errors.Dgram q) = ap errors.Dgram (query_back q)
error_back errors.NoMemory = refl
error_back errors.NumbersUsed = refl
error_back errors.TimedOut = refl
error_back errors.AlreadyDone = refl
error_back errors.Failed = refl

pub errors_same : (a b : Error) → same_error a b ≡ true → a ≡ b
errors_same a b e =
    let p = both (kind_number a == kind_number b) _ e in
    let q = both (doing_number a == doing_number b) (with_number a == with_number b) p.1 in
    sym (error_back a) ∙ (same (number_same (kind_number a) (kind_number b) p.0) (number_same (doing_number a) (doing_number b) q.0) (number_same (with_number a) (with_number b) q.1) ∙ error_back b)
  where
    same : {k1 k2 d1 d2 w1 w2 : ℕ} → k1 ≡ k2 → d1 ≡ d2 → w1 ≡ w2 → back_of k1 d1 w1 ≡ back_of k2 d2 w2
    same k d w = cc

pub same_errors : (a b : Error) → a ≡ b → same_error a b ≡ true
same_errors a b e =
    all (kind_number a == kind_number b) _ (same_number (kind_number a) (kind_number b) (ap kind_number e))
    (all (doing_number a == doing_number b) (with_number a == with_number b) (same_number (doing_number a) (doing_number b) (ap doing_number e)) (same_number (with_number a) (with_number b) (ap with_number e)))
