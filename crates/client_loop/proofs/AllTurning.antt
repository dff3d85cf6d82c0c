-- Requests that are asked together, and one request or one turn more.
use Rattle.std.proofs.Common.{◌≡◌, ℕ, ◌+◌, ◌-◌, ◌<◌, ◌≤◌, List, [], ◌∷◌, ◌++◌, ◌⊎◌, inl, inr, true, false, length, map, Option, Result, refl, ap, sym, subst, ◌∙◌, arith, append_assoc, length-append}
use Rattle.dns_values.specs.Source.{one_more}
use Rattle.client_request.specs.Request.{Request}
use Rattle.client_request.specs.declared.error.Error.{Error}
use Rattle.client_request.specs.declared.event.Row.{Row}
use Rattle.client_loop.specs.All.{AllBegun, AllReplied, AreNeeded, AskedAll, Opened, StopAll, all_rows, answered, first_replies, more, no_request, none, of_each, or_each, there}
use Rattle.client_loop.specs.Asking.{Begun, Scene, StopsForNumbers, client_of, rows_of}
use Rattle.client_loop.specs.Replies.{reply_in}
use Rattle.client_loop.specs.Turns.{Leads, StopsAt, Turn}
use Rattle.client_loop.proofs.AllReplies.{row_more, said_count}
use Rattle.client_loop.proofs.BothTurning.{asked_alone, leads_joined}
use Rattle.client_loop.proofs.Deeds.{append_nil}
use Rattle.client_loop.proofs.Rows.{leads_nowhere, plain_of}
use Rattle.client_loop.proofs.Turning.{OneMore, rows_more, stops_more}

abbrev Reply : Type 0
Reply = Option (Result (List ℕ) Error)

-- requests that are asked one by one, and those that are left
pub record Opening (number : ℕ) (requests : List Request) (old new : Scene) (left : List Request) (replies : List Reply) : Type 0 where
  pub done : List Request
  pub rows : List Row
  pub split : requests ≡ done ++ left
  pub opened : Opened old done new rows
  pub replies_are : replies ≡ first_replies number (length requests) rows
  pub timeout : new.client.timeout ≡ old.client.timeout
  pub lasts : ((done ≡ []) × (new.client.failed ≡ old.client.failed)) ⊎ (new.client.failed ≡ false)

-- replies that a row more brings
pub replies_more : (number : ℕ) (requests : List Request) (rows : List Row) (row : Row) (replies later : List Reply) → replies ≡ first_replies number (length requests) rows
    → later ≡ or_each replies (of_each (λ k. reply_in k row.outs) number (length replies)) → later ≡ first_replies number (length requests) (rows ++ row ∷ [])
replies_more number requests rows row replies later are is =
    let many : length replies ≡ length requests = ap length are ∙ said_count _ number (length requests) in
    is
    ∙ ap (λ (n : ℕ). or_each replies (of_each (λ k. reply_in k row.outs) number n)) many
    ∙ ap (λ (rs : List Reply). or_each rs (of_each (λ k. reply_in k row.outs) number (length requests))) are
    ∙ row_more number (length requests) rows row

module _ (number : ℕ) (requests : List Request) (old : Scene) where
  -- nothing is asked yet
  pub opening_first : (replies : List Reply) → replies ≡ first_replies number (length requests) [] → Opening number requests old old requests replies
  opening_first replies are = record { done = []; rows = []; split = refl; opened = none; replies_are = are; timeout = refl; lasts = inl (refl, refl) }

  -- one request more is asked
  pub opening_more : (mid new : Scene) (left later : List Request) (request : Request) (row : Row) (replies after : List Reply) → Opening number requests old mid left replies → left ≡ request ∷ later
      → Begun request mid new row → new.client.timeout ≡ mid.client.timeout → new.client.failed ≡ false → after ≡ or_each replies (of_each (λ k. reply_in k row.outs) number (length replies))
      → Opening number requests old new later after
  opening_more mid new left later request row replies after o at begun same lasts is = record {
    done = o.done ++ request ∷ [];
    rows = o.rows ++ row ∷ [];
    split = o.split ∙ ap (λ (rs : List Request). o.done ++ rs) at ∙ sym (append_assoc o.done (request ∷ []) later);
    opened = more o.done (o.done ++ request ∷ []) request mid new o.rows (o.rows ++ row ∷ []) row o.opened o.timeout begun refl refl;
    replies_are = replies_more number requests o.rows row replies after o.replies_are is;
    timeout = same ∙ o.timeout;
    lasts = inr lasts;
  }

  -- a number would pass 64 bits when a request is asked
  pub opening_stops : (mid new : Scene) (left later : List Request) (request : Request) (replies : List Reply) → Opening number requests old mid left replies → left ≡ request ∷ later
      → StopsForNumbers request mid new → StopAll requests old new
  opening_stops mid new left later request replies o at stops = record {
    earlier = o.done;
    request = request;
    later = later;
    requests_are = o.split ∙ ap (λ (rs : List Request). o.done ++ rs) at;
    middle = mid;
    rows = o.rows;
    opened = o.opened;
    stops = stops;
  }

  -- all are asked
  pub opening_done : (new : Scene) (left : List Request) (replies : List Reply) → Opening number requests old new left replies → left ≡ [] → AllBegun number requests replies old new
  opening_done new left replies o is = record {
    rows = o.rows;
    opened = subst (λ (rs : List Request). Opened old rs new o.rows) (sym (o.split ∙ ap (λ (rs : List Request). o.done ++ rs) is ∙ append_nil o.done)) o.opened;
    replies_are = o.replies_are;
  }

  pub opening_lasts : (new : Scene) (left : List Request) (replies : List Reply) → Opening number requests old new left replies → left ≡ [] → (requests ≡ []) ⊎ (new.client.failed ≡ false)
  opening_lasts new left replies o is = by o.lasts
    where
      by : ((o.done ≡ []) × (new.client.failed ≡ old.client.failed)) ⊎ (new.client.failed ≡ false) → (requests ≡ []) ⊎ (new.client.failed ≡ false)
      by (inl p) = inl (o.split ∙ ap (λ (rs : List Request). o.done ++ rs) is ∙ append_nil o.done ∙ p.0)
      by (inr e) = inr e

  -- a client that had failed had done so before
  pub opening_failed : (mid : Scene) (left : List Request) (replies : List Reply) → Opening number requests old mid left replies → mid.client.failed ≡ true → old.client.failed ≡ true
  opening_failed mid left replies o failed = by o.lasts
    where
      by : ((o.done ≡ []) × (mid.client.failed ≡ old.client.failed)) ⊎ (mid.client.failed ≡ false) → old.client.failed ≡ true
      by (inl p) = sym p.1 ∙ failed
      by (inr e) = absurd (cc)

-- Rows in which requests were asked lead to where the client is then.
opened_leads : (old new : Scene) (requests : List Request) (rows : List Row) → Opened old requests new rows → Leads old.client.timeout (client_of old) rows (client_of new)
opened_leads old new requests rows none = leads_nowhere old.client.timeout (client_of old)
opened_leads old new requests rows (more earlier all request middle after before these row o same begun all_are rows_are) =
    subst (λ (rs : List Row). Leads old.client.timeout (client_of old) rs (client_of new)) (sym rows_are)
    (leads_joined old.client.timeout (client_of old) (client_of middle) (client_of new) before (row ∷ []) (opened_leads old middle earlier before o)
    (subst (λ (rs : List Row). Leads old.client.timeout (client_of middle) rs (client_of new)) (asked_alone begun)
    (subst (λ (n : ℕ). Leads n (client_of middle) (rows_of begun.asked.asking begun.asked.turns) (client_of new)) same begun.asked.leads)))

-- a turn more was needed
needed_more : (number count : ℕ) (before : List Row) (turns : List Turn) (turn : Turn) → AreNeeded number count before turns
    → there (first_replies number count (before ++ map (λ t. t.row) turns)) < count → AreNeeded number count before (turns ++ turn ∷ [])
needed_more number count before [] turn h one = (subst (λ (rows : List Row). there (first_replies number count rows) < count) (append_nil before) one, tt)
needed_more number count before (t ∷ ts) turn h one = (
  h.0,
  needed_more number count (before ++ t.row ∷ []) ts turn h.1
      (subst (λ (rows : List Row). there (first_replies number count rows) < count) (sym (append_assoc before (t.row ∷ []) (map (λ (u : Turn). u.row) ts))) one),
)

-- what was asked and turned so far, and the replies; so many turns are left
pub record Turning (number left most : ℕ) (requests : List Request) (old new : Scene) (replies : List Reply) : Type 0 where
  pub all : AskedAll requests old new
  pub replies_are : replies ≡ first_replies number (length requests) (all_rows all)
  pub needed : AreNeeded number (length requests) (all.before ++ all.asked.asking ∷ []) all.asked.turns
  pub left_are : length all.asked.turns + left ≡ most
  pub timeout : new.client.timeout ≡ old.client.timeout
  pub lasts : new.client.failed ≡ false

-- or there is no request
pub data Waiting (number left most : ℕ) (requests : List Request) (old new : Scene) (replies : List Reply) : Type 0 where
  idle : requests ≡ [] → replies ≡ [] → new ≡ old → Waiting number left most requests old new replies
  turning : Turning number left most requests old new replies → Waiting number left most requests old new replies

module _ (number : ℕ) (requests : List Request) (old : Scene) where
  -- no turn is made yet
  pub waiting_first : (most : ℕ) (new : Scene) (replies : List Reply) → AllBegun number requests replies old new → new.client.timeout ≡ old.client.timeout → (requests ≡ []) ⊎ (new.client.failed ≡ false)
      → Waiting number most most requests old new replies
  waiting_first most new replies b same lasts = by requests new b.rows b.opened refl refl refl b.replies_are same lasts
    where
      by : (rs : List Request) (n : Scene) (rows : List Row) → Opened old rs n rows → rs ≡ requests → n ≡ new → rows ≡ b.rows → replies ≡ first_replies number (length requests) b.rows
          → new.client.timeout ≡ old.client.timeout → (requests ≡ []) ⊎ (new.client.failed ≡ false) → Waiting number most most requests old new replies
      by rs n rows none is_rs is_n is_rows are same lasts =
          idle (sym is_rs) (are ∙ ap (λ (r : List Request). first_replies number (length r) b.rows) (sym is_rs)) (sym is_n)
      by rs n rows (more earlier all request middle after before these row o same_before begun all_are rows_are) is_rs is_n is_rows are same (inl empty) = absurd (not_empty earlier request (sym all_are ∙ is_rs ∙ empty))
        where
          not_empty : (xs : List Request) (x : Request) → xs ++ x ∷ [] ≡ [] → ⊥
          not_empty [] x e = cc
          not_empty (y ∷ xs) x e = cc
      by rs n rows (more earlier all request middle after before these row o same_before begun all_are rows_are) is_rs is_n is_rows are same (inr lasts) =
          turning (subst (λ (s : Scene). Turning number most most requests old s replies) is_n (record {
            all = record {
              earlier = earlier;
              last = request;
              requests_are = sym is_rs ∙ all_are;
              middle = middle;
              before = before;
              opened = o;
              timeout = same_before;
              asked = begun.asked;
            };
            replies_are = are ∙ ap (λ (r : List Row). first_replies number (length requests) r) (sym is_rows ∙ rows_are ∙ ap (λ (r : List Row). before ++ r) (sym (asked_alone begun)));
            needed = subst (λ (ts : List Turn). AreNeeded number (length requests) (before ++ begun.asked.asking ∷ []) ts) (sym begun.no_turns) tt;
            left_are = (let many : length begun.asked.turns ≡ 0 = ap length begun.no_turns in omega arith);
            timeout = ap (λ (s : Scene). s.client.timeout) is_n ∙ same;
            lasts = ap (λ (s : Scene). s.client.failed) is_n ∙ lasts;
          }))

  -- one turn more is made
  pub turning_more : (left most : ℕ) (mid new : Scene) (replies after : List Reply) (p : Turning number left most requests old mid replies) (row : Row) → OneMore p.all.last p.all.middle mid new p.all.asked row
      → there replies < length replies → 0 < left → new.client.timeout ≡ mid.client.timeout → new.client.failed ≡ false → after ≡ or_each replies (of_each (λ k. reply_in k row.outs) number (length replies))
      → Turning number (left - 1) most requests old new after
  turning_more left most mid new replies after p row o missing some same lasts is =
      let a = p.all.asked in
      let b = o.asked in
      let count = length requests in
      let were = p.left_are in
      let many : length replies ≡ count = ap length p.replies_are ∙ said_count _ number count in
      let rows : rows_of b.asking b.turns ≡ rows_of a.asking a.turns ++ row ∷ [] =
      ap (λ (x : Row). rows_of x b.turns) o.same_asking ∙ ap (λ (ts : List Turn). rows_of a.asking ts) o.turns_are ∙ rows_more a.asking a.turns o.turn ∙ ap (λ (x : Row). rows_of a.asking a.turns ++ x ∷ []) o.row_is in
      let turns : length b.turns ≡ length a.turns + 1 = ap length o.turns_are ∙ length-append a.turns (o.turn ∷ []) in
      let lacks : there (first_replies number count (all_rows p.all)) < count = subst (λ (n : ℕ). there (first_replies number count (all_rows p.all)) < n) many (subst (λ (rs : List Reply). there rs < length replies) p.replies_are missing) in
      record {
        all = record { earlier = p.all.earlier; last = p.all.last; requests_are = p.all.requests_are; middle = p.all.middle; before = p.all.before; opened = p.all.opened; timeout = p.all.timeout; asked = b };
        replies_are =
            replies_more number requests (all_rows p.all) row replies after p.replies_are is
            ∙ ap (λ (rs : List Row). first_replies number count rs) (append_assoc p.all.before (rows_of a.asking a.turns) (row ∷ []) ∙ ap (λ (rs : List Row). p.all.before ++ rs) (sym rows));
        needed =
            subst (λ (ts : List Turn). AreNeeded number count (p.all.before ++ b.asking ∷ []) ts) (sym o.turns_are)
            (subst (λ (x : Row). AreNeeded number count (p.all.before ++ x ∷ []) (a.turns ++ o.turn ∷ [])) (sym o.same_asking)
            (needed_more number count (p.all.before ++ a.asking ∷ []) a.turns o.turn p.needed
            (subst (λ (rs : List Row). there (first_replies number count rs) < count) (sym (append_assoc p.all.before (a.asking ∷ []) (map (λ (u : Turn). u.row) a.turns))) lacks)));
        left_are = omega arith;
        timeout = same ∙ p.timeout;
        lasts = lasts;
      }

  -- a number would pass 64 bits in a turn
  pub turning_stops : (left most : ℕ) (mid new : Scene) (replies : List Reply) → Turning number left most requests old mid replies → StopsAt mid.words mid.client mid.deeds new.deeds mid.moments new.moments
      → new.polls ≡ one_more mid.polls → StopAll requests old new
  turning_stops left most mid new replies p stops counted = record {
    earlier = p.all.earlier;
    request = p.all.last;
    later = [];
    requests_are = p.all.requests_are;
    middle = p.all.middle;
    rows = p.all.before;
    opened = p.all.opened;
    stops = stops_more p.all.last p.all.middle mid new p.all.asked (p.timeout ∙ sym p.all.timeout) stops counted;
  }

  -- all are there, or no turn is left
  pub all_answered : (left : ℕ) (new : Scene) (replies : List Reply) → Waiting number left 1000000 requests old new replies → (there replies ≡ length replies) ⊎ (left ≤ 0)
      → AllReplied number requests replies old new
  all_answered left new replies (idle no_requests none_are same) h = no_request no_requests none_are same
  all_answered left new replies (turning p) h =
      let a = p.all.asked in
      let were = p.left_are in
      answered (record {
        all = p.all;
        replies_are = p.replies_are;
        needed = p.needed;
        few = omega arith;
        ends = by h were;
        plain =
            plain_of old.client.timeout (client_of old) (client_of new) (all_rows p.all)
            (leads_joined old.client.timeout (client_of old) (client_of p.all.middle) (client_of new) p.all.before (rows_of a.asking a.turns)
            (opened_leads old p.all.middle p.all.earlier p.all.before p.all.opened)
            (subst (λ (n : ℕ). Leads n (client_of p.all.middle) (rows_of a.asking a.turns) (client_of new)) p.all.timeout a.leads));
      })
    where
      by : (there replies ≡ length replies) ⊎ (left ≤ 0) → length p.all.asked.turns + left ≡ 1000000 → (there replies ≡ length requests) ⊎ (length p.all.asked.turns ≡ 1000000)
      by (inl e) were = inl (e ∙ ap length p.replies_are ∙ said_count _ number (length requests))
      by (inr no_turn) were = inr (omega arith)

  -- where a reply is missing, there is a request
  pub turning_of : (left most : ℕ) (new : Scene) (replies : List Reply) → Waiting number left most requests old new replies → there replies < length replies → Turning number left most requests old new replies
  turning_of left most new replies (idle no_requests none_are same) h = absurd (not_below (subst (λ (rs : List Reply). there rs < length rs) none_are h))
    where
      not_below : 0 < 0 → ⊥
      not_below below = omega arith
  turning_of left most new replies (turning p) h = p

  pub waiting_timeout : (left most : ℕ) (new : Scene) (replies : List Reply) → Waiting number left most requests old new replies → new.client.timeout ≡ old.client.timeout
  waiting_timeout left most new replies (idle no_requests none_are same) = ap (λ (s : Scene). s.client.timeout) same
  waiting_timeout left most new replies (turning p) = p.timeout

  pub waiting_lasts : (left most : ℕ) (new : Scene) (replies : List Reply) → Waiting number left most requests old new replies → (requests ≡ []) ⊎ (new.client.failed ≡ false)
  waiting_lasts left most new replies (idle no_requests none_are same) = inl no_requests
  waiting_lasts left most new replies (turning p) = inr p.lasts
