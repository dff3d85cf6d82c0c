-- What a client put out while a lookup was asked is recorded.
use Rattle.std.proofs.Common.{ℕ, ◌+◌, List, ◌++◌, sym, subst, ap, ◌∙◌, append_assoc, append-nil, Option}
use Rattle.client_loop.specs.Asking.{Scene, rows_of}
use Rattle.client_request.specs.declared.event.Row.{Row}
use Rattle.dns_record.specs.Recording.{Keeps, Recorded}
use Rattle.dns_lookup_run.specs.Asking.{Answer}
use Rattle.dns_lookup_run.specs.Making.{AreMade, none_made, one_made}
use Rattle.dns_lookup_run.specs.Recorded.{Recordings, keeps_by}
use Rattle.dns_lookup_words.specs.declared.manner.Ask.{Ask}

-- rows that were made one ask after another are recorded
pub all_kept : {R : Type 0} (kept : R → Option (List ℕ)) (n : ℕ) (asks : List Ask) (answers : List Answer) (rows : List Row) (a b : Recordings R) (old new : Scene)
    → AreMade (keeps_by kept) n asks answers rows a b old new → Keeps rows (kept a.sink) a.recorder old.client (kept b.sink) b.recorder new.client
all_kept kept _ _ _ _ _ _ _ _ (none_made n a s) = λ o before h. subst (λ (rs : List Row). Recorded o rs (kept a.sink) a.recorder s.client) (sym (append-nil before)) h
all_kept kept _ _ _ _ _ _ _ _ (one_made n ask more answer others later all a m b old mid new is rest all_is) = λ o before h.
    let first : List Row = rows_of is.answered.asked.asking is.answered.asked.turns in
    subst (λ (rs : List Row). Recorded o rs (kept b.sink) b.recorder new.client)
    (append_assoc before first later ∙ ap (λ (rs : List Row). before ++ rs) (sym all_is))
    (all_kept kept (n + 1) more others later m b mid new rest o (before ++ first) (is.holds o before h))
