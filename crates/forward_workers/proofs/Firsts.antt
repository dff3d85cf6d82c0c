-- What the first thread makes, one turn more.
use Rattle.std.proofs.Common.{◌≡◌, ℕ, zero, suc, ◌+◌, ◌-◌, ◌<◌, ◌≤◌, List, [], ◌∷◌, ◌++◌, length, map, take, Option, refl, ap, sym, subst, ◌∙◌, append_assoc, length-append, arith}
use Rattle.std.specs.Prelude.{count_by, slice_index_or, All}
use Rattle.std.proofs.lemmas.List.Sums.{sum_by-append}
use mathlib.Core.List.{IsPrefix, map-append}
use Rattle.joint_history.proofs.Beginnings.{prefix_self, prefix_trans}
use Rattle.forward_run.specs.Front.{acts_on, after_deeds, happened}
use Rattle.forward_run.specs.Turns.{is_answer}
use Rattle.forward_run.specs.declared.front.FrontDeed.{FrontDeed}
use Rattle.forward_run.specs.declared.front.FrontDeed.TheVariants.{Polled}
use Rattle.front_peers.specs.declared.event.FrontEvent.{FrontEvent}
use Rattle.front_peers.specs.declared.event.FrontOut.{FrontOut}
use Rattle.front_peers.specs.declared.event.FrontRow.{FrontRow}
use Rattle.front_peers.specs.declared.event.FrontWhat.{FrontWhat}
use Rattle.front_shared.specs.History.{IsBehind, IsSubmitted, Passed, calls, entries_in, entry_of}
use Rattle.front_shared.specs.Waiting.{told_to, waits_after}
use Rattle.front_shared.specs.declared.entry.Entry.{Entry}
use Rattle.front_shared.specs.declared.entry.Item.{Item}
use Rattle.front_shared.specs.declared.entry.Item.TheVariants.{Made}
use Rattle.front_shared.specs.declared.entry.Receipt.{Receipt}
use Rattle.front_shared.proofs.Histories.{all_more, all_none, length_made}
use Rattle.forward_workers.specs.Turning.{FirstTurn, HasTurned, IsOfPoll, IsTold, first_deeds, rows_of}
use Rattle.forward_workers.proofs.Deeds.{flat_more, more_deeds, nil_behind, no_deeds, take_front, take_whole}

entries_made : (entries : List Entry) → entries_in (map Made entries) ≡ entries
entries_made [] = refl
entries_made (e ∷ entries) = ap (λ (es : List Entry). e ∷ es) (entries_made entries)

-- what was told stays so as the history grows
told_later : (xs ys : List Item) (t : FirstTurn) → IsPrefix xs ys → IsTold xs t → IsTold ys t
told_later xs ys t p h = record {
  left_is = h.left_is ∙ ap (λ (items : List Item). waits_after (entries_in items)) (sym (take_front xs p.0 t.number h.behind h.stands) ∙ ap (take t.number) p.1);
  behind = h.behind + length p.0;
  stands = (let e = length-append xs p.0 in let l = ap length p.1 in let s = h.stands in omega (arith, e, l, s));
}

pub all_later : (xs ys : List Item) (turns : List FirstTurn) → IsPrefix xs ys → All (IsTold xs) turns → All (IsTold ys) turns
all_later xs ys turns p h k d lt = told_later xs ys (slice_index_or turns k d) p (h k d lt)

module _ {A : Type 0} (P : A → Type 0) where
  all_both : (xs ys : List A) → All P xs → All P ys → All P (xs ++ ys)
  all_both [] ys h j k d lt = j k d lt
  all_both (x ∷ xs) ys h j zero d lt = h zero d (omega arith)
  all_both (x ∷ xs) ys h j (suc k) d lt = all_both xs ys (λ i e l. h (suc i) e (omega arith)) j k d (omega (arith, lt))

-- the first caller is told what waits
told_first : (n : ℕ) (waiting : List FrontOut) → n ≡ 0 → told_to n waiting ≡ waiting
told_first n waiting none = ap (λ (k : ℕ). told_to k waiting) none

told_now : (old new : Passed) (event : FrontEvent) (receipt : Receipt) (polled : Option FrontWhat) → IsSubmitted old new event receipt → old.number ≡ 0
    → IsTold new.seen (record { polled = polled; left = receipt.before; number = receipt.number; row = receipt.row })
told_now old new event receipt polled s none =
    let at : receipt.number ≡ length (map Made s.before) = s.place ∙ sym (length_made s.before) in
    record {
      left_is =
          s.told
          ∙ (told_first old.number (waits_after s.before) none
          ∙ ap waits_after
          (sym (entries_made s.before)
          ∙ ap entries_in
          (sym (take_whole (map Made s.before) (Made (entry_of old.number receipt.row) ∷ []))
          ∙ (ap (λ (k : ℕ). take k (map Made s.before ++ Made (entry_of old.number receipt.row) ∷ [])) (sym at) ∙ ap (take receipt.number) (sym s.seen)))));
      behind = 1;
      stands = (let e = length-append (map Made s.before) (Made (entry_of old.number receipt.row) ∷ []) in let l = ap length s.seen in omega (arith, at, l, e));
    }

-- one turn
pub turned : (old new : Passed) (event : FrontEvent) (receipt : Receipt) (polled : Option FrontWhat) (a b c d e : Option (List FrontDeed)) (n : ℕ)
    → IsSubmitted old new event receipt → old.number ≡ 0 → event.what ≡ happened polled → b ≡ a → c ≡ after_deeds (Polled polled ∷ []) b → d ≡ after_deeds (acts_on receipt.before) c
    → e ≡ after_deeds (acts_on receipt.row.outs) d → n ≡ count_by is_answer receipt.before + count_by is_answer receipt.row.outs
    → HasTurned 1 old new a e n
turned old new event receipt polled a b c d e n s none what waited poll left acts count =
    let turn : FirstTurn = record { polled = polled; left = receipt.before; number = receipt.number; row = receipt.row } in
    record {
      number = s.number;
      begins = prefix_trans old.seen (map Made s.before) new.seen s.begins (Made (entry_of old.number receipt.row) ∷ [], sym s.seen);
      rows = (receipt.number, receipt.row) ∷ [];
      calls_are = s.calls_are;
      did = record {
        turns = turn ∷ [];
        count_is = refl;
        rows_are = refl;
        of_polls = all_more IsOfPoll [] turn (all_none IsOfPoll) (ap (λ (v : FrontEvent). v.what) s.event_is ∙ what);
        told = all_more (IsTold new.seen) [] turn (all_none (IsTold new.seen)) (told_now old new event receipt polled s none);
        deeds =
            more_deeds (Polled polled ∷ []) (acts_on receipt.before ++ acts_on receipt.row.outs) a c e (poll ∙ ap (after_deeds (Polled polled ∷ [])) waited)
            (more_deeds (acts_on receipt.before) (acts_on receipt.row.outs) c d e left acts)
            ∙ ap (λ (ds : List FrontDeed). after_deeds ds a) (sym (nil_behind (Polled polled ∷ (acts_on receipt.before ++ acts_on receipt.row.outs))));
        answered_is = count ∙ omega arith;
      };
    }

-- turns behind turns
more_turned : (n m : ℕ) (old mid new : Passed) (a b c : Option (List FrontDeed)) (i j sum : ℕ)
    → HasTurned n old mid a b i → HasTurned m mid new b c j → sum ≡ i + j → HasTurned (n + m) old new a c sum
more_turned n m old mid new a b c i j sum f t is = record {
  number = t.number ∙ f.number;
  begins = prefix_trans old.seen mid.seen new.seen f.begins t.begins;
  rows = f.rows ++ t.rows;
  calls_are = t.calls_are ∙ (ap (λ (cs : List (ℕ × FrontRow)). cs ++ t.rows) f.calls_are ∙ append_assoc (calls old) f.rows t.rows);
  did = record {
    turns = f.did.turns ++ t.did.turns;
    count_is = (let e = length-append f.did.turns t.did.turns in let x = f.did.count_is in let y = t.did.count_is in omega (arith, e, x, y));
    rows_are =
        ap (λ (rows : List (ℕ × FrontRow)). rows ++ t.rows) f.did.rows_are
        ∙ (ap (λ (rows : List (ℕ × FrontRow)). rows_of f.did.turns ++ rows) t.did.rows_are ∙ sym (map-append (λ (u : FirstTurn). (u.number, u.row)) f.did.turns t.did.turns));
    of_polls = all_both IsOfPoll f.did.turns t.did.turns f.did.of_polls t.did.of_polls;
    told = all_both (IsTold new.seen) f.did.turns t.did.turns (all_later mid.seen new.seen f.did.turns t.begins f.did.told) t.did.told;
    deeds =
        more_deeds (first_deeds f.did.turns) (first_deeds t.did.turns) a b c f.did.deeds t.did.deeds
        ∙ ap (λ (ds : List FrontDeed). after_deeds ds a) (sym (flat_more (λ (u : FirstTurn). Polled u.polled ∷ (acts_on u.left ++ acts_on u.row.outs)) f.did.turns t.did.turns));
    answered_is =
        (let e = sum_by-append (λ (u : FirstTurn). count_by is_answer u.left + count_by is_answer u.row.outs) f.did.turns t.did.turns in
        let x = f.did.answered_is in
        let y = t.did.answered_is in
        omega (arith, e, x, y, is));
  };
}

-- So many turns were made, and so many are left.
pub record FirstSo (count left : ℕ) (old new : Passed) (before after : Option (List FrontDeed)) (answered : ℕ) : Type 0 where
  pub made : ℕ
  pub counted : made + left ≡ count
  pub turned_so : HasTurned made old new before after answered

pub none_turned : (count : ℕ) (p : Passed) (told : Option (List FrontDeed)) → FirstSo count count p p told told 0
none_turned count p told = record {
  made = 0;
  counted = omega arith;
  turned_so = record {
    number = refl;
    begins = prefix_self p.seen;
    rows = [];
    calls_are = sym (nil_behind (calls p));
    did = record { turns = []; count_is = refl; rows_are = refl; of_polls = all_none IsOfPoll; told = all_none (IsTold p.seen); deeds = no_deeds told; answered_is = refl };
  };
}

pub one_more : (count left : ℕ) (old mid new : Passed) (a b c : Option (List FrontDeed)) (n m sum : ℕ)
    → FirstSo count left old mid a b n → HasTurned 1 mid new b c m → 0 < left → sum ≡ n + m → FirstSo count (left - 1) old new a c sum
one_more count left old mid new a b c n m sum so t some is = record {
  made = so.made + 1;
  counted = (let was : so.made + left ≡ count = so.counted in omega (arith, was, some));
  turned_so = more_turned so.made 1 old mid new a b c n m sum so.turned_so t is;
}

-- none is left
pub all_turned : (count left : ℕ) (old new : Passed) (a b : Option (List FrontDeed)) (n : ℕ) → FirstSo count left old new a b n → left ≤ 0 → HasTurned count old new a b n
all_turned count left old new a b n so none =
    let was : so.made + left ≡ count = so.counted in
    let same : so.made ≡ count = omega (arith, was, none) in
    subst (λ (k : ℕ). HasTurned k old new a b n) same so.turned_so

-- the end behind them
pub then_ends : (count : ℕ) (old mid new : Passed) (a b : Option (List FrontDeed)) (n : ℕ) → HasTurned count old mid a b n → IsBehind mid new → HasTurned count old new a b n
then_ends count old mid new a b n f s = record {
  number = s.number ∙ f.number;
  begins = prefix_trans old.seen mid.seen new.seen f.begins s.begins;
  rows = f.rows;
  calls_are = s.calls_are ∙ f.calls_are;
  did = record {
    turns = f.did.turns;
    count_is = f.did.count_is;
    rows_are = f.did.rows_are;
    of_polls = f.did.of_polls;
    told = all_later mid.seen new.seen f.did.turns s.begins f.did.told;
    deeds = f.did.deeds;
    answered_is = f.did.answered_is;
  };
}
