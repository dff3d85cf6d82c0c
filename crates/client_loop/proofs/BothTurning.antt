-- Two requests that are asked together, and one turn more.
use Rattle.std.proofs.Common.{◌≡◌, ℕ, ◌+◌, ◌-◌, ◌<◌, ◌≤◌, List, [], ◌∷◌, ◌++◌, ◌⊎◌, inl, inr, true, false, length, map, Option, Some, None, Result, refl, ap, sym, subst, ◌∙◌, arith, append_assoc, length-append}
use Rattle.std.specs.Prelude.{option_map}
use Rattle.dns_values.specs.Source.{one_more}
use Rattle.client_request.specs.Request.{Request}
use Rattle.client_request.specs.declared.error.Error.{Error}
use Rattle.client_request.specs.declared.event.Event.{Event}
use Rattle.client_request.specs.declared.event.Row.{Row}
use Rattle.client_steps.specs.Client.{plain_rows}
use Rattle.client_steps.specs.Whole.{Client, machine}
use Rattle.client_loop.specs.declared.both.BothReplies.{BothReplies}
use Rattle.client_loop.specs.Asking.{Begun, Scene, client_of, rows_of}
use Rattle.client_loop.specs.Both.{AreAnswered, AreBegun, AreNeeded, AskedBoth, StopForNumbers, all_rows, are_there, at_second, first_replies, or_replies, replies_in}
use Rattle.client_loop.specs.Replies.{first_reply, or_later, reply_in}
use Rattle.client_loop.specs.Turns.{Leads, StopsAt, Turn, events_of}
use Rattle.client_loop.proofs.Deeds.{append_nil}
use Rattle.client_loop.proofs.Rows.{plain_of}
use Rattle.client_loop.proofs.Turning.{OneMore, rows_more, stops_more}

abbrev Reply : Type 0
Reply = Option (Result (List ℕ) Error)

abbrev replies : Reply → Reply → BothReplies
replies first second = record { first = first; second = second }

same_replies : (a b c d : Reply) → a ≡ b → c ≡ d → replies a c ≡ replies b d
same_replies a b c d p q = ap (λ (x : Reply). replies x c) p ∙ ap (λ (x : Reply). replies b x) q

pub or_none : (o : Reply) → or_later o None ≡ o
or_none None = refl
or_none (Some reply) = refl

pub or_assoc : (a b c : Reply) → or_later (or_later a b) c ≡ or_later a (or_later b c)
or_assoc None b c = refl
or_assoc (Some reply) b c = refl

-- one row more
pub reply_more : (number : ℕ) (rows : List Row) (row : Row) → first_reply number (rows ++ row ∷ []) ≡ or_later (first_reply number rows) (reply_in number row.outs)
reply_more number [] row = or_none (reply_in number row.outs)
reply_more number (r ∷ rows) row =
    ap (λ (o : Reply). or_later (reply_in number r.outs) o) (reply_more number rows row)
    ∙ sym (or_assoc (reply_in number r.outs) (first_reply number rows) (reply_in number row.outs))

replies_more : (number : ℕ) (rows : List Row) (row : Row) → first_replies number (rows ++ row ∷ []) ≡ or_replies (first_replies number rows) (replies_in number row.outs)
replies_more number rows row = same_replies _ _ _ _ (reply_more number rows row) (reply_more (number + 1) rows row)

two_rows : (number : ℕ) (row behind : Row) → or_later (reply_in number row.outs) (reply_in number behind.outs) ≡ first_reply number (row ∷ behind ∷ [])
two_rows number row behind = ap (λ (o : Reply). or_later (reply_in number row.outs) o) (sym (or_none (reply_in number behind.outs)))

events_joined : (first second : List Row) (later : List Event) → events_of (first ++ second) ++ later ≡ events_of first ++ (events_of second ++ later)
events_joined [] second later = refl
events_joined (r ∷ first) second later = ap (λ (es : List Event). r.event ∷ es) (events_joined first second later)

maps_joined : (first second : List Row) (o : Option (List Row)) → option_map (λ more. first ++ more) (option_map (λ more. second ++ more) o) ≡ option_map (λ more. (first ++ second) ++ more) o
maps_joined first second None = refl
maps_joined first second (Some rows) = ap Some (sym (append_assoc first second rows))

-- Rows that lead to where others begin lead, with them, to where those lead.
pub leads_joined : (timeout : ℕ) (a b c : Client) (first second : List Row) → Leads timeout a first b → Leads timeout b second c → Leads timeout a (first ++ second) c
leads_joined timeout a b c first second h i later =
    ap (λ (es : List Event). plain_rows machine timeout es a) (events_joined first second later)
    ∙ h (events_of second ++ later)
    ∙ ap (λ (o : Option (List Row)). option_map (λ more. first ++ more) o) (i later)
    ∙ maps_joined first second (plain_rows machine timeout later c)

-- a turn more was needed
needed_more : (number : ℕ) (before : List Row) (turns : List Turn) (turn : Turn) → AreNeeded number before turns
    → are_there (first_replies number (before ++ map (λ t. t.row) turns)) ≡ false → AreNeeded number before (turns ++ turn ∷ [])
needed_more number before [] turn h one = (subst (λ (rows : List Row). are_there (first_replies number rows) ≡ false) (append_nil before) one, tt)
needed_more number before (t ∷ ts) turn h one =
    (h.0, needed_more number (before ++ t.row ∷ []) ts turn h.1 (subst (λ (rows : List Row). are_there (first_replies number rows) ≡ false) (sym (append_assoc before (t.row ∷ []) (map (λ (u : Turn). u.row) ts))) one))

-- what was asked and turned so far, and the replies; so many turns are left
pub record Pending (number left most : ℕ) (first second : Request) (old new : Scene) (r : BothReplies) : Type 0 where
  pub both : AskedBoth first second old new
  pub replies_are : r ≡ first_replies number (all_rows both)
  pub needed : AreNeeded number (both.row ∷ both.asked.asking ∷ []) both.asked.turns
  pub left_are : length both.asked.turns + left ≡ most

-- the rows of one request that was asked, and no turn
pub asked_alone : {request : Request} {old new : Scene} {row : Row} → (h : Begun request old new row) → rows_of h.asked.asking h.asked.turns ≡ row ∷ []
asked_alone {row = row} h = ap (λ (r : Row). rows_of r h.asked.turns) h.asking_is ∙ ap (λ (ts : List Turn). rows_of row ts) h.no_turns

module _ (number : ℕ) (first second : Request) (old : Scene) where
  -- both are asked
  pub both_begun : (middle new : Scene) (row behind : Row) (r one other : BothReplies) → Begun first old middle row → middle.client.timeout ≡ old.client.timeout → Begun second middle new behind
      → one ≡ replies_in number row.outs → other ≡ replies_in number behind.outs → r ≡ or_replies one other → AreBegun number first second old new r
  both_begun middle new row behind r one other h same i at_first behind_that is = record {
    both = record { row = row; middle = middle; begun = h; timeout = same; asked = i.asked };
    no_turns = i.no_turns;
    replies_are =
        is
        ∙ ap (λ (x : BothReplies). or_replies x other) at_first
        ∙ ap (λ (x : BothReplies). or_replies (replies_in number row.outs) x) behind_that
        ∙ same_replies _ _ _ _ (two_rows number row behind) (two_rows (number + 1) row behind)
        ∙ ap (λ (rows : List Row). first_replies number (row ∷ rows)) (sym (asked_alone i));
  }

  -- no turn is made yet
  pub pending_first : (most : ℕ) (new : Scene) (r : BothReplies) → AreBegun number first second old new r → Pending number most most first second old new r
  pending_first most new r b =
      let many : length b.both.asked.turns ≡ 0 = ap length b.no_turns in
      record {
        both = b.both;
        replies_are = b.replies_are;
        needed = subst (λ (ts : List Turn). AreNeeded number (b.both.row ∷ b.both.asked.asking ∷ []) ts) (sym b.no_turns) tt;
        left_are = omega arith;
      }

  -- one turn more is made
  pub pending_more : (left most : ℕ) (mid new : Scene) (r one after : BothReplies) (p : Pending number left most first second old mid r) (row : Row) → OneMore second p.both.middle mid new p.both.asked row
      → are_there r ≡ false → 0 < left → one ≡ replies_in number row.outs → after ≡ or_replies r one → Pending number (left - 1) most first second old new after
  pending_more left most mid new r one after p row o missing some is joins =
      let a = p.both.asked in
      let b = o.asked in
      let rows : rows_of b.asking b.turns ≡ rows_of a.asking a.turns ++ row ∷ [] =
      ap (λ (x : Row). rows_of x b.turns) o.same_asking ∙ ap (λ (ts : List Turn). rows_of a.asking ts) o.turns_are ∙ rows_more a.asking a.turns o.turn ∙ ap (λ (x : Row). rows_of a.asking a.turns ++ x ∷ []) o.row_is in
      let many : length b.turns ≡ length a.turns + 1 = ap length o.turns_are ∙ length-append a.turns (o.turn ∷ []) in
      let was : length a.turns + left ≡ most = p.left_are in
      record {
        both = record { row = p.both.row; middle = p.both.middle; begun = p.both.begun; timeout = p.both.timeout; asked = b };
        replies_are =
            joins
            ∙ ap (λ (x : BothReplies). or_replies r x) is
            ∙ ap (λ (x : BothReplies). or_replies x (replies_in number row.outs)) p.replies_are
            ∙ sym (replies_more number (all_rows p.both) row)
            ∙ sym (ap (λ (rs : List Row). first_replies number (p.both.row ∷ rs)) rows);
        needed =
            subst (λ (ts : List Turn). AreNeeded number (p.both.row ∷ b.asking ∷ []) ts) (sym o.turns_are)
            (subst (λ (x : Row). AreNeeded number (p.both.row ∷ x ∷ []) (a.turns ++ o.turn ∷ [])) (sym o.same_asking)
            (needed_more number (p.both.row ∷ a.asking ∷ []) a.turns o.turn p.needed (sym (ap (λ (x : BothReplies). are_there x) p.replies_are) ∙ missing)));
        left_are = omega arith;
      }

  -- a number would pass 64 bits in a turn
  pub stop_pending : (left most : ℕ) (mid new : Scene) (r : BothReplies) → Pending number left most first second old mid r → mid.client.timeout ≡ old.client.timeout
      → StopsAt mid.words mid.client mid.deeds new.deeds mid.moments new.moments → new.polls ≡ one_more mid.polls → StopForNumbers first second old new
  stop_pending left most mid new r p same stops counted =
      at_second p.both.middle p.both.row p.both.begun (stops_more second p.both.middle mid new p.both.asked (same ∙ sym p.both.timeout) stops counted)

  -- both are there, or no turn is left
  pub both_answered : (left most : ℕ) (new : Scene) (r : BothReplies) → Pending number left most first second old new r → (are_there r ≡ true) ⊎ (left ≤ 0) → AreAnswered number most first second old new r
  both_answered left most new r p h =
      let a = p.both.asked in
      let was : length a.turns + left ≡ most = p.left_are in
      record {
        both = p.both;
        replies_are = p.replies_are;
        needed = p.needed;
        few = omega arith;
        ends = by h was;
        plain =
            plain_of old.client.timeout (client_of old) (client_of new) (all_rows p.both)
            (leads_joined old.client.timeout (client_of old) (client_of p.both.middle) (client_of new) (p.both.row ∷ []) (rows_of a.asking a.turns)
            (subst (λ (rows : List Row). Leads old.client.timeout (client_of old) rows (client_of p.both.middle)) (asked_alone p.both.begun) p.both.begun.asked.leads)
            (subst (λ (n : ℕ). Leads n (client_of p.both.middle) (rows_of a.asking a.turns) (client_of new)) p.both.timeout a.leads));
      }
    where
      by : (are_there r ≡ true) ⊎ (left ≤ 0) → length p.both.asked.turns + left ≡ most → (are_there r ≡ true) ⊎ (length p.both.asked.turns ≡ most)
      by (inl e) was = inl e
      by (inr none) was = inr (omega arith)
