-- What a row owes when it is done.
use Rattle.std.proofs.Common.{◌≡◌, ◌≤◌, ◌&&◌, ◌||◌, ◌==◌, ℕ, not, Bool, true, false, List, [], ◌∷◌, length, map, refl, sym, ap, ◌∙◌, subst, arith}
use Rattle.client_request.specs.declared.event.Out.{Out}
use Rattle.right_trace.specs.Right.{HasServer, MarksStand, faults}
use Rattle.trace_outs.specs.declared.busy.busy.Scene.{Scene}
use Rattle.trace_outs.specs.busy.Backs as backs
use Rattle.trace_outs.specs.busy.Waits as waits
use Rattle.trace_errors.proofs.Rows.{same_number}
use Rattle.trace_points.specs.exchanges.Open as open_sends
use Rattle.trace_tables.specs.frames.Ledger as ledger
use Rattle.trace_outs.specs.loads.Loads as loads
use Rattle.trace_tables.specs.writes.Writing as writing
use Rattle.trace_outs.specs.busy.Busy as busy
use Rattle.trace_outs.specs.loads.Loads.{TellsMet}
use Rattle.trace_points.specs.questions.{Outs.Tells, Configured.use_of}
use Rattle.trace_judge.specs.declared.course.Course.{Course}
use Rattle.trace_judge.specs.declared.outs.Kept.{Kept}
use Rattle.trace_judge.specs.declared.rules.Rules.{Rules}
use Rattle.trace_judge.specs.Course.{TellsAllBusy, TellsBusy, TellsEnd}
use Rattle.trace_judge.proofs.Telling.{both_told, where_told, own_told, same_told}

pub record IsScene (r : Rules) (t : Course) (q : Scene) : Type 0 where
  pub conf : q.conf.now ≡ r.conf
  pub servers : q.servers.now ≡ r.servers.items
  pub ledger : q.ledger.now ≡ t.here.pass.ledger
  pub sends : q.sends.now ≡ t.here.pass.sends
  pub writing : q.writing.now ≡ t.here.pass.timers.writing
  pub loads : q.loads.now ≡ t.here.loads
  pub waits : q.waits.now ≡ t.here.waits
  pub backs : q.backs.now ≡ t.here.backs

pub all_busy : (r : Rules) (t : Course) (q : Scene) (b : Bool) → IsScene r t q → busy.TellsBusy q b → TellsAllBusy r t b
all_busy r t q b a f h n = f r.conf h a.conf (r.servers_are ∙ ap (map use_of) (sym a.servers)) (record {
  ledger = subst (ledger.Known h) (sym a.ledger) n.pass.ledger;
  sends = subst (open_sends.Known r.conf h) (sym a.sends) n.pass.sends;
  writing = subst (writing.Known h) (sym a.writing) n.pass.timers.writes;
  loads = subst (loads.Known r.conf h) (sym a.loads) n.loads;
  waits = subst (waits.Known r.conf h) (sym a.waits) n.waits;
  backs = subst (backs.Known r.conf h) (sym a.backs) n.backs;
})

-- where there is no server nobody is asked
length_map : {A B : Type 0} (f : A → B) (xs : List A) → length (map f xs) ≡ length xs
length_map f [] = refl
length_map f (x ∷ xs) = let e = length_map f xs in cc

no_server : (r : Rules) → length r.servers.items ≡ 0 → HasServer r.conf → ⊥
no_server r e u =
    let n : length r.conf.servers ≡ 0 = ap length r.servers_are ∙ (length_map use_of r.servers.items ∙ e) in
    omega arith

pub has_none : (n : ℕ) → (n == 0) ≡ true → n ≡ 0
has_none n e = same_number n 0 e

pub has_some : (n : ℕ) → (n == 0) ≡ false → n ≡ 0 → ⊥
has_some n e z =
    let q : true ≡ false = subst (λ n. (n == 0) ≡ false) z e in
    cc

pub none_busy : (r : Rules) (t : Course) → length r.servers.items ≡ 0 → TellsBusy r t true
none_busy r t e h n = (λ _ u. absurd (no_server r e u), λ _. refl)

pub some_busy : (r : Rules) (t : Course) (b : Bool) → (length r.servers.items ≡ 0 → ⊥) → TellsAllBusy r t b → TellsBusy r t b
some_busy r t b some f h n =
    let q = f h n in
    (λ e _. q.0 e, λ g. q.1 (g (has r some)))
  where
    has : (r : Rules) → (length r.servers.items ≡ 0 → ⊥) → HasServer r.conf
    has r some =
        let n : length r.conf.servers ≡ length r.servers.items = ap length r.servers_are ∙ length_map use_of r.servers.items in
        omega arith

pub at_end : (r : Rules) (t : Course) (os : List Out) (kept : Kept) (busy met stand few : Bool) → TellsBusy r t busy → TellsMet t.here.loads met → Tells (MarksStand os) stand → Tells (faults os ≤ 1) few
    → TellsEnd r t os kept (record { messages = kept.messages; firsts = kept.firsts; causes = kept.causes && (not r.defers_nothing || few); orders = kept.orders && (busy && (met && stand)) })
at_end r t os kept busy met stand few b m u f h n exact = record {
  messages = refl;
  firsts = refl;
  causes = both_told kept.causes (not r.defers_nothing || few) (own_told kept.causes)
      (where_told r.defers_nothing few (subst (λ d. Tells (d ≡ true) r.defers_nothing) r.exact_is (own_told r.defers_nothing)) f);
  orders = same_told (kept.orders && (busy && (met && stand))) (λ q. (q.0, q.1.0, q.1.1.0, q.1.1.1)) (λ q. (q.0, (q.1, (q.2, q.3))))
      (both_told kept.orders (busy && (met && stand)) (own_told kept.orders) (both_told busy (met && stand) (b h n) (both_told met stand (m r.conf r.settings h exact n.loads) u)));
}

pub at_end_is : (r : Rules) (t : Course) (os : List Out) (kept : Kept) (busy met stand few causes orders : Bool) → causes ≡ (kept.causes && (not r.defers_nothing || few)) → orders ≡ (kept.orders && (busy && (met && stand)))
    → TellsBusy r t busy → TellsMet t.here.loads met → Tells (MarksStand os) stand → Tells (faults os ≤ 1) few
    → TellsEnd r t os kept (record { messages = kept.messages; firsts = kept.firsts; causes = causes; orders = orders })
at_end_is r t os kept busy met stand few causes orders e f b m u g =
    subst (λ d. TellsEnd r t os kept (record { messages = kept.messages; firsts = kept.firsts; causes = d; orders = orders })) (sym e)
    (subst (λ d. TellsEnd r t os kept (record { messages = kept.messages; firsts = kept.firsts; causes = kept.causes && (not r.defers_nothing || few); orders = d })) (sym f) (at_end r t os kept busy met stand few b m u g))
