-- What a worker makes, one turn more.
use Rattle.std.proofs.Common.{◌≡◌, ℕ, ◌+◌, List, [], ◌∷◌, ◌++◌, Option, Some, None, refl, ap, sym, ◌∙◌, append_assoc, arith}
use Rattle.std.specs.Prelude.{count_by}
use Rattle.std.proofs.lemmas.List.Sums.{sum_by-append}
use Rattle.forward_run.specs.Front.{acts_on, after_deeds}
use Rattle.forward_run.specs.declared.front.FrontDeed.{FrontDeed}
use Rattle.forward_run.specs.declared.front.FrontDeed.TheVariants.{Polled}
use Rattle.front_peers.specs.declared.event.FrontEvent.{FrontEvent}
use Rattle.front_peers.specs.declared.event.FrontRow.{FrontRow}
use Rattle.front_peers.specs.declared.event.FrontWhat.{FrontWhat}
use Rattle.front_shared.specs.History.{IsBehind, IsSubmitted, Passed, calls}
use Rattle.front_shared.specs.Waiting.{for_any, is_for_any}
use Rattle.front_shared.specs.declared.entry.Receipt.{Receipt}
use Rattle.forward_workers.specs.Doors.{taken}
use Rattle.forward_workers.specs.Working.{GoesOn, HasWorked, worker_deeds}
use Rattle.forward_workers.proofs.Deeds.{flat_more, more_deeds, nil_behind, no_deeds}

-- nothing yet
pub begins_to_work : (p : Passed) (told : Option (List FrontDeed)) → GoesOn p p told told 0
begins_to_work p told = record {
  worked = record {
    number = refl;
    rows = [];
    calls_are = sym (nil_behind (calls p));
    did = record { unused = None; deeds = no_deeds told; answered_is = refl };
  };
  all_used = refl;
}

-- one turn more
pub works_on : (old mid new : Passed) (a b c : Option (List FrontDeed)) (n m sum : ℕ) → GoesOn old mid a b n → HasWorked mid new b c m → sum ≡ n + m → HasWorked old new a c sum
works_on old mid new a b c n m sum g w is =
    let v = g.worked in
    let so_far : b ≡ after_deeds (worker_deeds v.rows) a =
    v.did.deeds
    ∙ ap (λ (ds : List FrontDeed). after_deeds ds a)
    (ap (λ (what : Option FrontWhat). worker_deeds v.rows ++ taken what) g.all_used ∙ nil_behind (worker_deeds v.rows)) in
    record {
      number = w.number ∙ v.number;
      rows = v.rows ++ w.rows;
      calls_are = w.calls_are ∙ (ap (λ (cs : List (ℕ × FrontRow)). cs ++ w.rows) v.calls_are ∙ append_assoc (calls old) v.rows w.rows);
      did = record {
        unused = w.did.unused;
        deeds =
            more_deeds (worker_deeds v.rows) (worker_deeds w.rows ++ taken w.did.unused) a b c so_far w.did.deeds
            ∙ ap (λ (ds : List FrontDeed). after_deeds ds a)
            (sym (append_assoc (worker_deeds v.rows) (worker_deeds w.rows) (taken w.did.unused))
            ∙ ap (λ (ds : List FrontDeed). ds ++ taken w.did.unused) (sym (flat_more (λ (r : ℕ × FrontRow). Polled (Some r.1.event.what) ∷ acts_on (for_any r.1.outs)) v.rows w.rows)));
        answered_is =
            (let e = sum_by-append (λ (r : ℕ × FrontRow). count_by is_for_any r.1.outs) v.rows w.rows in
            let x = v.did.answered_is in
            let y = w.did.answered_is in
            omega (arith, e, x, y, is));
      };
    }

pub goes_on : (old mid new : Passed) (a b c : Option (List FrontDeed)) (n m sum : ℕ) → GoesOn old mid a b n → GoesOn mid new b c m → sum ≡ n + m → GoesOn old new a c sum
unfolding works_on
goes_on old mid new a b c n m sum so g is = record { worked = works_on old mid new a b c n m sum so g.worked is; all_used = g.all_used }

pub has_worked : (old new : Passed) (a b : Option (List FrontDeed)) (n : ℕ) → GoesOn old new a b n → HasWorked old new a b n
has_worked old new a b n g = g.worked

-- a turn in which nothing came
pub takes_nothing : (p : Passed) (a b : Option (List FrontDeed)) → b ≡ after_deeds (taken None) a → GoesOn p p a b 0
takes_nothing p a b deeds = record {
  worked = record {
    number = refl;
    rows = [];
    calls_are = sym (nil_behind (calls p));
    did = record { unused = None; deeds = deeds; answered_is = refl };
  };
  all_used = refl;
}

-- one by which a row was made
pub makes_row : (old new : Passed) (event : FrontEvent) (receipt : Receipt) (a b c : Option (List FrontDeed)) (n : ℕ)
    → IsSubmitted old new event receipt → b ≡ after_deeds (taken (Some event.what)) a → c ≡ after_deeds (acts_on (for_any receipt.row.outs)) b → n ≡ count_by is_for_any receipt.row.outs
    → GoesOn old new a c n
makes_row old new event receipt a b c n s took acts count =
    let rows : List (ℕ × FrontRow) = (receipt.number, receipt.row) ∷ [] in
    record {
      worked = record {
        number = s.number;
        rows = rows;
        calls_are = s.calls_are;
        did = record {
          unused = None;
          deeds =
              more_deeds (Polled (Some event.what) ∷ []) (acts_on (for_any receipt.row.outs)) a b c took acts
              ∙ ap (λ (ds : List FrontDeed). after_deeds ds a)
              (ap (λ (e : FrontEvent). Polled (Some e.what) ∷ acts_on (for_any receipt.row.outs)) (sym s.event_is)
              ∙ (sym (nil_behind (Polled (Some receipt.row.event.what) ∷ acts_on (for_any receipt.row.outs))) ∙ sym (nil_behind (worker_deeds rows))));
          answered_is = count ∙ omega arith;
        };
      };
      all_used = refl;
    }

-- one behind the end
pub finds_end : (old new : Passed) (what : FrontWhat) (a b : Option (List FrontDeed)) → IsBehind old new → b ≡ after_deeds (taken (Some what)) a → HasWorked old new a b 0
finds_end old new what a b s took = record {
  number = s.number;
  rows = [];
  calls_are = s.calls_are ∙ sym (nil_behind (calls old));
  did = record { unused = Some what; deeds = took; answered_is = refl };
}
