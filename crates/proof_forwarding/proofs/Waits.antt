-- What the tables of a forwarder are, one step after another.
use Rattle.std.proofs.Common.{◌≡◌, ◌≢◌, ℕ, ◌+◌, ◌<◌, ◌≤◌, List, [], ◌∷◌, ◌++◌, Option, Some, None, cond, Bool, true, false, refl, sym, subst, ap, ◌∙◌, arith, inl, inr}
use Rattle.std.specs.Prelude.{◌==◌, ◌||◌, max, Result, ◌⊎◌}
use Rattle.std.specs.List.{AllByRecursion}
use Rattle.number_table.specs.Entries.{entry_at, puts, frees}
use Rattle.client_request.specs.declared.error.Error.{Error}
use Rattle.client_request.specs.declared.event.Event.{Event}
use Rattle.client_request.specs.declared.event.Out.{Out}
use Rattle.client_request.specs.declared.event.Out.TheVariants.{Reply}
use Rattle.client_request.specs.declared.event.What.TheVariants.{Ask}
use Rattle.front_queries.specs.Query.{key_of}
use Rattle.front_queries.specs.Requests.{request_of}
use Rattle.front_peers.specs.Items.{is_new}
use Rattle.front_peers.specs.declared.items.Asker.{Asker}
use Rattle.front_steps.specs.Waiting.{Waits, askers_or_none}
use Rattle.front_steps.specs.Waits.{answered, answered_if, asks_anew, is_key, joins, joins_one}
use Rattle.front_steps.specs.declared.waits.Waiting.{Waiting}
use Rattle.right_trace.specs.Requests.{Asking, asking, asks, is_ask, is_reply, replied}
use Rattle.right_trace.specs.Time.{now}
use Rattle.right_trace.specs.Trace.{History, Came, Put}
use Rattle.right_trace.proofs.Asked.{asking_below, asking_came}
use Rattle.proof_forwarding.proofs.Tables.{put_rises, freed_rises, put_here, put_other, free_here, free_other, each_put, each_removed}
use Rattle.proof_forwarding.proofs.Keeping.{Pending, of_number, not_of, askers_in, IsWaiting, IsKeyed, Shares, WaitsKept, IsFirstOf, all_changed, all_joined, all_more, filter_snoc, append_nil, map_snoc, same_number, is_same, is_other, none_of, others_of, left_waits, first_of, asking_moment, asked_now, asks_now, asks_still, few_asked}

-- ---- an event that asks nothing

pub after_event : (w : Waits) (h : History) (last : Option ℕ) (ps : List Pending) (e : Event) → is_ask e.what ≡ false → WaitsKept w h last ps → WaitsKept w (Came e ∷ h) last ps
after_event w h last ps e no_ask kept = record {
  next = kept.next ∙ sym (asks_still e h no_ask);
  rises = kept.rises;
  keyed = kept.keyed;
  keys = kept.keys;
  each = kept.each;
  waiting = all_changed (IsWaiting h last) (IsWaiting (Came e ∷ h) last) (λ p is. record {
    asked = is.asked;
    first = is.first;
    is_asked = asking_came p.number is.asked e h is.is_asked;
    request = is.request;
    same = is.same;
    since = is.since;
    none = is.none;
    old = is.old;
  }) ps kept.waiting;
  shares = kept.shares;
  asked = λ k is. (let few = few_asked e h in let low = kept.asked k is in omega arith);
}

-- ---- what is put out, but for replies

off_either : (a b : Bool) → a ≡ false → b ≡ false → (a || b) ≡ false
off_either a b off other = ap (λ (t : Bool). t || b) off ∙ other

pub after_out : (w : Waits) (h : History) (last : Option ℕ) (ps : List Pending) (o : Out) → ((k : ℕ) → is_reply k o ≡ false) → WaitsKept w h last ps → WaitsKept w (Put o ∷ h) last ps
after_out w h last ps o no_reply kept = record {
  next = kept.next;
  rises = kept.rises;
  keyed = kept.keyed;
  keys = kept.keys;
  each = kept.each;
  waiting = all_changed (IsWaiting h last) (IsWaiting (Put o ∷ h) last) (λ p is. record {
    asked = is.asked;
    first = is.first;
    is_asked = is.is_asked;
    request = is.request;
    same = is.same;
    since = is.since;
    none = off_either (is_reply p.number o) (replied p.number h) (no_reply p.number) is.none;
    old = is.old;
  }) ps kept.waiting;
  shares = kept.shares;
  asked = λ k is. kept.asked k (sym (ap (λ (b : Bool). b || replied k h) (no_reply k)) ∙ is);
}

-- ---- a reply

module _ (w : Waits) (h : History) (last : Option ℕ) (ps : List Pending) (k : ℕ) (x : Result (List ℕ) Error) (a : Asking) (is_asked : asking k h ≡ Some a) (kept : WaitsKept w h last ps) where
  abbrev later : History
  later = Put (Reply k x) ∷ h

  left_waiting : AllByRecursion (IsWaiting later last) (not_of k ps)
  left_waiting = left_waits (IsWaiting h last) (IsWaiting later last) k (λ p apart is. record {
    asked = is.asked;
    first = is.first;
    is_asked = is.is_asked;
    request = is.request;
    same = is.same;
    since = is.since;
    none = off_either (k == p.number) (replied p.number h) (is_other k p.number (λ same. apart (sym same))) is.none;
    old = is.old;
  }) ps kept.waiting

  asked_later : (j : ℕ) → replied j later ≡ true → j < asks h
  asked_later j is = go (k == j) refl is
    where
      go : (b : Bool) → (k == j) ≡ b → (b || replied j h) ≡ true → j < asks h
      go true same so = (let low = asking_below k a h is_asked in let it : k ≡ j = same_number k j same in omega arith)
      go false same so = kept.asked j so

  each_after : (new : List (ℕ × Waiting)) → entry_at k new ≡ None → ((j : ℕ) → j ≢ k → entry_at j new ≡ entry_at j w.requests) → (j : ℕ) → askers_or_none (entry_at j new) ≡ askers_in (of_number j (not_of k ps))
  each_after new none other j = go (j == k) refl
    where
      go : (b : Bool) → (j == k) ≡ b → askers_or_none (entry_at j new) ≡ askers_in (of_number j (not_of k ps))
      go true same =
          let at : j ≡ k = same_number j k same in
          ap (λ (n : ℕ). askers_or_none (entry_at n new)) at ∙ ap askers_or_none none
          ∙ sym (ap (λ (n : ℕ). askers_in (of_number n (not_of k ps))) at ∙ ap askers_in (none_of k ps))
      go false same =
          let apart : j ≢ k = (λ at. absurd (cc (is_same j k at, same))) in
          ap askers_or_none (other j apart) ∙ kept.each j ∙ sym (ap askers_in (others_of j k ps apart))

  nothing_waited : entry_at k w.requests ≡ None → WaitsKept w later last (not_of k ps)
  nothing_waited none = record {
    next = kept.next;
    rises = kept.rises;
    keyed = kept.keyed;
    keys = kept.keys;
    each = each_after w.requests none (λ j apart. refl);
    waiting = left_waiting;
    shares = left_waits (Shares w.requests) (Shares w.requests) k (λ p apart is. is) ps kept.shares;
    asked = asked_later;
  }

  freed_entry : (j : ℕ) (v : Waiting) → entry_at j (frees k w.requests) ≡ Some v → entry_at j w.requests ≡ Some v
  freed_entry j v is = go (j == k) refl
    where
      go : (b : Bool) → (j == k) ≡ b → entry_at j w.requests ≡ Some v
      go true same =
          let gone : entry_at j (frees k w.requests) ≡ None = ap (λ (n : ℕ). entry_at n (frees k w.requests)) (same_number j k same) ∙ free_here k w.requests kept.rises in
          absurd (cc)
      go false same = sym (free_other j k w.requests (λ at. absurd (cc (is_same j k at, same)))) ∙ is

  some_waited : (v : Waiting) → WaitsKept (answered k v w) later last (not_of k ps)
  some_waited v = record {
    next = kept.next;
    rises = freed_rises k w.requests kept.rises;
    keyed = each_removed (IsKeyed w.next (frees k w.requests)) (is_key v.key) w.numbers
        (all_changed (IsKeyed w.next w.requests) (IsKeyed w.next (frees k w.requests)) (λ e is. record {
          below = is.below;
          same = λ u at. is.same u (freed_entry e.1 u at);
        }) w.numbers kept.keyed);
    keys = λ j u at. kept.keys j u (freed_entry j u at);
    each = each_after (frees k w.requests) (free_here k w.requests kept.rises) (λ j apart. free_other j k w.requests apart);
    waiting = left_waiting;
    shares = left_waits (Shares w.requests) (Shares (frees k w.requests)) k (λ p apart is. λ u at. is u (freed_entry p.number u at)) ps kept.shares;
    asked = asked_later;
  }

  pub after_reply : WaitsKept (answered_if k (entry_at k w.requests) w) later last (not_of k ps)
  after_reply = go (entry_at k w.requests) refl
    where
      go : (o : Option Waiting) → entry_at k w.requests ≡ o → WaitsKept (answered_if k o w) later last (not_of k ps)
      go None is = nothing_waited is
      go (Some v) is = some_waited v

-- ---- a query that is asked

no_entry : (o : Option Waiting) → askers_or_none o ≡ [] → o ≡ None
no_entry None is = refl
no_entry (Some v) is = absurd (cc)

module _ (w : Waits) (h : History) (last : Option ℕ) (ps : List Pending) (asker : Asker) (since : ℕ) (kept : WaitsKept w h last ps) (old : asker.by_stream ≡ true → is_new asker.peer last ≡ false) where
  abbrev one : ℕ → Pending
  one k = record { number = k; asker = asker; since = since }

  -- those of a number, with one more
  more_of : (k : ℕ) → askers_in (of_number k (ps ++ one k ∷ [])) ≡ askers_in (of_number k ps) ++ asker ∷ []
  more_of k =
      ap askers_in (filter_snoc (λ (p : Pending). p.number == k) ps (one k) ∙ ap (λ (b : Bool). of_number k ps ++ cond b (one k ∷ []) []) (is_same k k refl))
      ∙ map_snoc (λ (p : Pending). p.asker) (of_number k ps) (one k)

  same_of : (j k : ℕ) → j ≢ k → askers_in (of_number j (ps ++ one k ∷ [])) ≡ askers_in (of_number j ps)
  same_of j k apart =
      ap askers_in (filter_snoc (λ (p : Pending). p.number == j) ps (one k) ∙ ap (λ (b : Bool). of_number j ps ++ cond b (one k ∷ []) []) (is_other k j (λ same. apart (sym same)))
      ∙ append_nil (of_number j ps))

  module _ (e : Event) (is_ask_of : e.what ≡ Ask (request_of asker.query)) (in_time : max e.moment.0 (now h) ≤ since) where
    abbrev first : Waiting
    first = record { key = key_of asker.query; first = asker; others = [] }

    abbrev with_one : Waits
    with_one = asks_anew asker w

    low : (k : ℕ) (a : Asking) → asking k h ≡ Some a → k ≢ w.next
    low k a is same = (let below = asking_below k a h is in let at = kept.next in absurd (omega arith))

    -- none of those that wait has the next number
    none_yet : (qs : List Pending) → AllByRecursion (IsWaiting h last) qs → of_number w.next qs ≡ []
    none_yet [] all = refl
    none_yet (p ∷ qs) all =
        let apart : (p.number == w.next) ≡ false = is_other p.number w.next (low p.number all.0.asked all.0.is_asked) in
        ap (λ (b : Bool). cond b (p ∷ of_number w.next qs) (of_number w.next qs)) apart ∙ none_yet qs all.1

    new_key : (j : ℕ) (v : Waiting) → (j ≢ w.next → entry_at j w.requests ≡ Some v → v.key ≡ key_of v.first.query) → entry_at j (puts w.next first w.requests) ≡ Some v → v.key ≡ key_of v.first.query
    new_key j v other is = go (j == w.next) refl
      where
        go : (b : Bool) → (j == w.next) ≡ b → v.key ≡ key_of v.first.query
        go true same =
            let at : entry_at j (puts w.next first w.requests) ≡ Some first = ap (λ (n : ℕ). entry_at n (puts w.next first w.requests)) (same_number j w.next same) ∙ put_here w.next first w.requests in
            let it : first ≡ v = cc in
            subst (λ (u : Waiting). u.key ≡ key_of u.first.query) it refl
        go false same =
            let apart : j ≢ w.next = (λ at. absurd (cc (is_same j w.next at, same))) in
            other apart (sym (put_other j w.next first w.requests apart) ∙ is)

    none_asked : replied w.next h ≡ false
    none_asked = go (replied w.next h) refl
      where
        go : (b : Bool) → replied w.next h ≡ b → b ≡ false
        go true is = (let low = kept.asked w.next is in let at = kept.next in absurd (omega arith))
        go false is = refl

    keyed_before : (d : List ℕ × ℕ) → IsKeyed w.next w.requests d → IsKeyed (w.next + 1) (puts w.next first w.requests) d
    keyed_before d is = record {
      below = (let few = is.below in omega arith);
      same = λ v at. is.same v (sym (put_other d.1 w.next first w.requests (λ same. (let few = is.below in absurd (omega arith)))) ∙ at);
    }

    keyed_now : IsKeyed (w.next + 1) (puts w.next first w.requests) (key_of asker.query, w.next)
    keyed_now = record {
      below = omega arith;
      same = λ v at. (
          let it : first ≡ v = cc (put_here w.next first w.requests, at) in
          subst (λ (u : Waiting). u.key ≡ key_of asker.query) it refl);
    }

    each_now : (j : ℕ) → askers_or_none (entry_at j (puts w.next first w.requests)) ≡ askers_in (of_number j (ps ++ one w.next ∷ []))
    each_now j = go (j == w.next) refl
      where
        go : (b : Bool) → (j == w.next) ≡ b → askers_or_none (entry_at j (puts w.next first w.requests)) ≡ askers_in (of_number j (ps ++ one w.next ∷ []))
        go true same =
            let at : j ≡ w.next = same_number j w.next same in
            ap (λ (n : ℕ). askers_or_none (entry_at n (puts w.next first w.requests))) at ∙ ap askers_or_none (put_here w.next first w.requests)
            ∙ sym (ap (λ (n : ℕ). askers_in (of_number n (ps ++ one w.next ∷ []))) at ∙ more_of w.next
            ∙ ap (λ (qs : List Pending). askers_in qs ++ asker ∷ []) (none_yet ps kept.waiting))
        go false same =
            let apart : j ≢ w.next = (λ at. absurd (cc (is_same j w.next at, same))) in
            ap askers_or_none (put_other j w.next first w.requests apart) ∙ kept.each j ∙ sym (same_of j w.next apart)

    one_waits : IsWaiting (Came e ∷ h) last (one w.next)
    one_waits = record {
      asked = record { request = request_of asker.query; moment = max e.moment.0 (now h) };
      first = asker.query;
      is_asked = subst (λ (n : ℕ). asking n (Came e ∷ h) ≡ Some (record { request = request_of asker.query; moment = max e.moment.0 (now h) })) (sym kept.next) (asked_now e h (request_of asker.query) is_ask_of);
      request = refl;
      same = refl;
      since = in_time;
      none = none_asked;
      old = old;
    }

    pub after_ask : WaitsKept with_one (Came e ∷ h) last (ps ++ one w.next ∷ [])
    after_ask = record {
      next = (let was = kept.next in let is = asks_now e h (request_of asker.query) is_ask_of in omega arith);
      rises = put_rises w.next first w.requests kept.rises;
      keyed = each_put (IsKeyed (w.next + 1) (puts w.next first w.requests)) (key_of asker.query) w.next w.numbers keyed_now
          (all_changed (IsKeyed w.next w.requests) (IsKeyed (w.next + 1) (puts w.next first w.requests)) keyed_before w.numbers kept.keyed);
      keys = λ j v is. new_key j v (λ apart at. kept.keys j v at) is;
      each = each_now;
      waiting = all_more (IsWaiting (Came e ∷ h) last) ps (one w.next)
          (all_changed (IsWaiting h last) (IsWaiting (Came e ∷ h) last) (λ p is. record {
            asked = is.asked;
            first = is.first;
            is_asked = asking_came p.number is.asked e h is.is_asked;
            request = is.request;
            same = is.same;
            since = is.since;
            none = is.none;
            old = is.old;
          }) ps kept.waiting)
          one_waits;
      shares = all_more (Shares (puts w.next first w.requests)) ps (one w.next)
          (all_joined (IsWaiting h last) (Shares w.requests) (Shares (puts w.next first w.requests))
          (λ p is was. λ v at. was v (sym (put_other p.number w.next first w.requests (low p.number is.asked is.is_asked)) ∙ at)) ps kept.waiting kept.shares)
          (λ v at. sym (keyed_now.same v at));
      asked = λ k is. (let few = few_asked e h in let low = kept.asked k is in omega arith);
    }

  -- ---- a query that waits for the reply to a request that was asked before

  module _ (k : ℕ) (v : Waiting) (entry : entry_at k w.requests ≡ Some v) (key : v.key ≡ key_of asker.query) (in_time : now h ≤ since) where
    abbrev joined : Waiting
    joined = record v { others = v.others ++ asker ∷ [] }

    abbrev table : List (ℕ × Waiting)
    table = puts k joined (frees k w.requests)

    joined_entry : (j : ℕ) (u : Waiting) → entry_at j table ≡ Some u → (u ≡ joined) × (j ≡ k) ⊎ (entry_at j w.requests ≡ Some u)
    joined_entry j u is = go (j == k) refl
      where
        go : (b : Bool) → (j == k) ≡ b → (u ≡ joined) × (j ≡ k) ⊎ (entry_at j w.requests ≡ Some u)
        go true same =
            let at : j ≡ k = same_number j k same in
            let it : entry_at j table ≡ Some joined = ap (λ (n : ℕ). entry_at n table) at ∙ put_here k joined (frees k w.requests) in
            inl (cc, at)
        go false same =
            let apart : j ≢ k = (λ at. absurd (cc (is_same j k at, same))) in
            inr (sym (put_other j k joined (frees k w.requests) apart ∙ free_other j k w.requests apart) ∙ is)

    each_joined : (j : ℕ) → askers_or_none (entry_at j table) ≡ askers_in (of_number j (ps ++ one k ∷ []))
    each_joined j = go (j == k) refl
      where
        go : (b : Bool) → (j == k) ≡ b → askers_or_none (entry_at j table) ≡ askers_in (of_number j (ps ++ one k ∷ []))
        go true same =
            let at : j ≡ k = same_number j k same in
            ap (λ (n : ℕ). askers_or_none (entry_at n table)) at ∙ ap askers_or_none (put_here k joined (frees k w.requests))
            ∙ ap (λ (askers : List Asker). askers ++ asker ∷ []) (sym (ap askers_or_none entry) ∙ kept.each k)
            ∙ sym (ap (λ (n : ℕ). askers_in (of_number n (ps ++ one k ∷ []))) at ∙ more_of k)
        go false same =
            let apart : j ≢ k = (λ at. absurd (cc (is_same j k at, same))) in
            ap askers_or_none (put_other j k joined (frees k w.requests) apart ∙ free_other j k w.requests apart) ∙ kept.each j ∙ sym (same_of j k apart)

    first_waits : IsFirstOf (IsWaiting h last) k v.first
    first_waits = first_of (IsWaiting h last) k ps v.first v.others kept.waiting (sym (kept.each k) ∙ ap askers_or_none entry)

    joined_waits : IsWaiting h last (one k)
    joined_waits =
        let f = first_waits in
        record {
          asked = f.holds.asked;
          first = f.holds.first;
          is_asked = subst (λ (n : ℕ). asking n h ≡ Some f.holds.asked) f.number f.holds.is_asked;
          request = f.holds.request;
          same = f.holds.same ∙ ap (λ (a : Asker). key_of a.query) f.same ∙ sym (kept.keys k v entry) ∙ key;
          since = (let was = asking_moment f.pending.number f.holds.asked h f.holds.is_asked in omega arith);
          none = subst (λ (n : ℕ). replied n h ≡ false) f.number f.holds.none;
          old = old;
        }

    keyed_joined : (d : List ℕ × ℕ) → IsKeyed w.next w.requests d → IsKeyed w.next table d
    keyed_joined d is = record {
      below = is.below;
      same = λ u at. by u at (joined_entry d.1 u at);
    }
      where
        by : (u : Waiting) → entry_at d.1 table ≡ Some u → (u ≡ joined) × (d.1 ≡ k) ⊎ (entry_at d.1 w.requests ≡ Some u) → u.key ≡ d.0
        by u at (inl both) = ap (λ (x : Waiting). x.key) both.0 ∙ is.same v (subst (λ (n : ℕ). entry_at n w.requests ≡ Some v) (sym both.1) entry)
        by u at (inr was) = is.same u was

    keys_joined : (j : ℕ) (u : Waiting) → entry_at j table ≡ Some u → u.key ≡ key_of u.first.query
    keys_joined j u at = by (joined_entry j u at)
      where
        by : (u ≡ joined) × (j ≡ k) ⊎ (entry_at j w.requests ≡ Some u) → u.key ≡ key_of u.first.query
        by (inl both) = subst (λ (x : Waiting). x.key ≡ key_of x.first.query) (sym both.0) (kept.keys k v entry)
        by (inr was) = kept.keys j u was

    shares_joined : (p : Pending) → Shares w.requests p → Shares table p
    shares_joined p is = λ u at. by u (joined_entry p.number u at)
      where
        by : (u : Waiting) → (u ≡ joined) × (p.number ≡ k) ⊎ (entry_at p.number w.requests ≡ Some u) → key_of p.asker.query ≡ u.key
        by u (inl both) = is v (subst (λ (n : ℕ). entry_at n w.requests ≡ Some v) (sym both.1) entry) ∙ sym (ap (λ (x : Waiting). x.key) both.0)
        by u (inr was) = is u was

    shares_now : Shares table (one k)
    shares_now = λ u at. by u (joined_entry k u at)
      where
        by : (u : Waiting) → (u ≡ joined) × (k ≡ k) ⊎ (entry_at k w.requests ≡ Some u) → key_of asker.query ≡ u.key
        by u (inl both) = sym (ap (λ (x : Waiting). x.key) both.0 ∙ key)
        by u (inr was) = let same : v ≡ u = cc in sym (sym (ap (λ (x : Waiting). x.key) same) ∙ key)

    after_join_of : WaitsKept (joins_one k asker w (Some v)) h last (ps ++ one k ∷ [])
    after_join_of = record {
      next = kept.next;
      rises = put_rises k joined (frees k w.requests) (freed_rises k w.requests kept.rises);
      keyed = all_changed (IsKeyed w.next w.requests) (IsKeyed w.next table) keyed_joined w.numbers kept.keyed;
      keys = keys_joined;
      each = each_joined;
      waiting = all_more (IsWaiting h last) ps (one k) kept.waiting joined_waits;
      shares = all_more (Shares table) ps (one k) (all_changed (Shares w.requests) (Shares table) shares_joined ps kept.shares) shares_now;
      asked = kept.asked;
    }

    pub after_join : WaitsKept (joins k asker w) h last (ps ++ one k ∷ [])
    after_join = subst (λ (o : Option Waiting). WaitsKept (joins_one k asker w o) h last (ps ++ one k ∷ [])) (sym entry) after_join_of
