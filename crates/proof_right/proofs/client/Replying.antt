-- A reply is put, and what it says is stored.
use Rattle.std.proofs.Common.{◌≡◌, ℕ, ◌≢◌, Bool, true, false, ◌⊎◌, inl, inr, Some, None, List, [], ◌∷◌, ◌++◌, is_some, refl, arith, sym, ◌∙◌, ap, ap₂, subst, ◌==◌, ◌&&◌, ◌||◌, Option}
use Rattle.std.specs.Prelude.{Result, Ok, Err, if◌then◌else◌, not}
use Rattle.std.proofs.lemmas.Bool.{or_right}
use Rattle.std.proofs.lemmas.Bool.Decides.{nat_tests}
use Rattle.client_request.specs.declared.error.Error.{Error}
use Rattle.client_request.specs.declared.event.What.{What}
use Rattle.client_request.specs.declared.event.Out.TheVariants.{Stale, Reply}
use Rattle.client_request.specs.declared.event.Via.{Via}
use Rattle.client_request.specs.declared.event.Via.TheVariants.{Dgram, Stream}
use Rattle.right_trace.specs.Trace.{History, Conf, Put, put_all}
use Rattle.right_trace.specs.Time.{now, row_before, OfRow}
use Rattle.right_trace.specs.Messages.{Octets}
use Rattle.right_trace.specs.Requests.{asking, replied, waits, handed}
use Rattle.right_trace.specs.Frames.{came_here}
use Rattle.right_trace.specs.Exchanges.{waited_for, IsAmong, Matches}
use Rattle.right_trace.specs.Places.{reach}
use Rattle.right_trace.specs.Coming.{IsExcused, SomeCame}
use Rattle.client_request.specs.Request.{Request}
use Rattle.right_trace.specs.Stale.{Unmarked, Marked}
use Rattle.right_trace.specs.Settings.{Settings}
use Rattle.right_trace.specs.Owed.{IsOwed, AllAreDone}
use Rattle.right_trace.specs.Replies.{IsFresh}
use Rattle.right_trace.specs.Errors.{DirectCause}
use Rattle.right_trace.specs.Right.{OutsRight, ReplyRight, ReplyOwes, MarksStand}
use Rattle.proof_right.proofs.PartLaws.{Part}
use Rattle.proof_right.specs.machine.Client.{Waiting, Leaving, Entry, Upper, entry_of, store, told_of}
use Rattle.right_trace.specs.Parts.{IsIn}
use Rattle.proof_right.proofs.client.Kept.{Leaves, AllDiffer, Nothing, MayStore, WasReply, EntryFits, LeavingFits, IsTold, IsExpected, IsPosted, IsKeptBack, IsPassedOver, Kept}
use Rattle.proof_right.proofs.client.Later.{Carried, carried_none, carried_put, carried_both, six_reply, six_mark, matches_mark, entry_on, old_on, fails_on, revived_on, post_on, fresh_stays, direct_on, given_on, none_on, first_on, matches_reply, excused_on, reply_on}
use Rattle.proof_right.proofs.client.Lists.{in_more, in_but, in_here, differ_but}
use Rattle.proof_right.proofs.client.Serving.{clash}
use Rattle.right_trace.specs.Keys.{key_of}
use Rattle.right_trace.proofs.Asked.{keys_refl}

-- a reply adds nothing that is owed
owed_before : (c : Conf) (i k j : ℕ) (v : Result Octets Error) (past : History) (w : What) (h : History) → IsOwed c i k past w (Put (Reply j v) ∷ h) → IsOwed c i k past w h
owed_before c i k j v past w h o = record { request = o.request; via = o.via; place = o.place; id = o.id; asked = o.asked; alive = o.alive; at = o.at; octets = o.octets; sent = back o.via o.sent; carries = o.carries }
  where
    back : (u : Via) → IsAmong o.octets (waited_for c u o.request i o.place k o.id (now h) (came_here o.place h) (Put (Reply j v) ∷ h) (Put (Reply j v) ∷ h)) → IsAmong o.octets (waited_for c u o.request i o.place k o.id (now h) (came_here o.place h) h h)
    back Dgram x = x
    back Stream x = x

-- a point behind another at which nothing more is known: the same one, or that behind a mark
pub record IsBehind (c : Conf) (P : Part c) (past : History) (w : What) (h g : History) : Type 1 where
  pub on : Carried c past w h g
  pub silent : (k : ℕ) → replied k g ≡ replied k h
  pub reaches : reach g ≡ reach h
  pub owed : (i k : ℕ) → IsOwed c i k past w g → IsOwed c i k past w h
  pub matches : (r : Request) (v : Via) (i p k id : ℕ) (m : Octets) → Matches c r v i p k id m past w g → Matches c r v i p k id m past w h
  pub excused : (p : ℕ) → IsExcused c p past w h → IsExcused c p past w g
  pub handed : (k i : ℕ) → handed k i g ≡ handed k i h
  pub fits : (i : ℕ) (u : P.State) → P.Fits i past w u h → P.Fits i past w u g
  pub nothing : (i : ℕ) → Nothing i h → Nothing i g

pub behind_itself : (c : Conf) (P : Part c) (past : History) (w : What) (h : History) → IsBehind c P past w h h
behind_itself c P past w h = record { on = carried_none c past w h; silent = λ k. refl; reaches = refl; owed = λ i k o. o; matches = λ r v i p k id m z. z; excused = λ p e. e; handed = λ k i. refl; fits = λ i u f. f; nothing = λ i n. n }

pub behind_mark : (c : Conf) (P : Part c) (past : History) (w : What) (h : History) (k : ℕ) → IsBehind c P past w h (Put (Stale k) ∷ h)
behind_mark c P past w h k = record {
  on = carried_put c past w h (Stale k) (six_mark c k h);
  silent = λ j. refl;
  reaches = refl;
  owed = λ i j o. owed_unmarked i j o;
  matches = λ r v i p j id m z. matches_mark c r v i p j id m past w k h z;
  excused = λ p e. excused_on c p past w (Stale k ∷ []) h e;
  handed = λ j i. refl;
  fits = λ i u f. P.marks i k past w u h f;
  nothing = λ i n. record { no_place = n.no_place; no_start = n.no_start };
}
  where
    owed_unmarked : (i j : ℕ) → IsOwed c i j past w (Put (Stale k) ∷ h) → IsOwed c i j past w h
    owed_unmarked i j o = record { request = o.request; via = o.via; place = o.place; id = o.id; asked = o.asked; alive = o.alive; at = o.at; octets = o.octets; sent = back o.via o.sent; carries = o.carries }
      where
        back : (u : Via) → IsAmong o.octets (waited_for c u o.request i o.place j o.id (now h) (came_here o.place h) (Put (Stale k) ∷ h) (Put (Stale k) ∷ h)) → IsAmong o.octets (waited_for c u o.request i o.place j o.id (now h) (came_here o.place h) h h)
        back Dgram x = x
        back Stream x = x

-- A reply is put: a result, or, behind its mark, what is put in its place. What is stored was put so.
module _ (c : Conf) (s : Settings) (P : Part c) (past : History) (w : What) (x : Upper P.State) (h : History) (kept : Kept c s P past w x h) (first last : List Leaving) (y : Leaving) (is : x.leaving ≡ first ++ y ∷ last)
    (g : History) (behind : IsBehind c P past w h g) (v : Result Octets Error) (same : y.is_stored ≡ true → (v ≡ y.result) × (g ≡ h)) where
  abbrev k : ℕ
  k = y.request

  abbrev h' : History
  h' = Put (Reply y.request v) ∷ g

  on : Carried c past w h h'
  on = carried_both c past w h g h' behind.on (carried_put c past w g (Reply y.request v) (six_reply c y.request v g))

  fits : LeavingFits c s P past w x.held x.ups x.asked y h
  fits = kept.leaves y (subst (IsIn y) (sym is) (in_here y first last))

  differs : AllDiffer (first ++ last) × (Leaves y.request (first ++ last) → ⊥)
  differs = differ_but y first last (subst AllDiffer is kept.differ)

  other : (j : ℕ) (b : Bool) → y.request ≢ j → replied j h ≡ b → replied j h' ≡ b
  other j b ne e = (let z : (y.request == j) ≡ false = grind (arith, nat_tests) in ap (λ q. q || replied j g) z ∙ (behind.silent j ∙ e))

  this : replied y.request h' ≡ true
  this = (let z : (y.request == y.request) ≡ true = grind (arith, nat_tests) in ap (λ q. q || replied y.request g) z)

  not_replied : (j : ℕ) → replied j h' ≡ false → (y.request ≢ j) × (replied j h ≡ false)
  not_replied j e = (λ same. clash (replied j h') (subst (λ j. replied j h' ≡ true) same this) e, sym (behind.silent j) ∙ not_or (y.request == j) (replied j g) e)
    where
      not_or : (a b : Bool) → (a || b) ≡ false → b ≡ false
      not_or true b e = absurd (cc)
      not_or false b e = e

  held_not : (j : ℕ) (b : Waiting) → x.held j ≡ Some b → y.request ≢ j
  held_not j b e same = clash (is_some (x.held j)) (ap is_some e) (ap is_some (subst (λ j. x.held j ≡ None) same fits.unheld))

  leaves_still : (j : ℕ) → Leaves j x.leaving → Leaves j (first ++ last) ⊎ (y.request ≡ j)
  leaves_still j l = elim (in_but (l.0) y first last (subst (IsIn (l.0)) is l.1)) [ inl e ↦ inr (ap (λ (z : Leaving). z.request) e ∙ l.2) | inr n ↦ inl (l.0, n, l.2) ]

  before : (i j : ℕ) → IsOwed c i j past w h' → IsOwed c i j past w h
  before i j o = behind.owed i j (owed_before c i j y.request v past w g o)

  comes_before : (r : Request) (u : Via) (i p j id : ℕ) (m : Octets) → Matches c r u i p j id m past w h' → Matches c r u i p j id m past w h
  comes_before r u i p j id m z = behind.matches r u i p j id m (matches_reply c r u i p j id m past w y.request v g z)

  excuses : (p : ℕ) → IsExcused c p past w h → IsExcused c p past w h'
  excuses p e = excused_on c p past w (Reply y.request v ∷ []) g (behind.excused p e)

  was_handed : (j i : ℕ) → handed j i h' ≡ handed j i h
  was_handed j i = behind.handed j i

  stays_done : (j : ℕ) → AllAreDone c j past w h → AllAreDone c j past w h'
  stays_done j a = record { handed = λ i lt. behind.handed j i ∙ a.handed i lt; over = λ i lt o. a.over i lt (before i j o) }

  stored_on : (j : ℕ) (v : Result Octets Error) → MayStore c s j past w h v → MayStore c s j past w h' v
  stored_on j (Ok m) q = (fresh_stays c past w h h' on s j m q.0, q.1)
  stored_on j (Err e) q = (direct_on c past w h h' on s j e q.0, q.1)

  now_was : (u : Result Octets Error) → y.result ≡ u → v ≡ u → g ≡ h → MayStore c s y.request past w h u → WasReply c s y.request x.now h' u
  now_was (Ok m) e ev eg q = (inl (record { before = h; put = ap₂ (λ v g. Put (Reply y.request v) ∷ g) ev eg; unmarked = kept.unmarked y.request; fresh = subst (λ w. IsFresh c s y.request m (row_before h) w h) (sym kept.newest) (subst (λ g. IsFresh c s y.request m g w h) (sym kept.row) q.0); at = behind.on.clock ∙ sym kept.clock }), q.1)
  now_was (Err u) e ev eg q = (inl (record { before = h; put = ap₂ (λ v g. Put (Reply y.request v) ∷ g) ev eg; cause = subst (λ w. DirectCause c s y.request (row_before h) w h u) (sym kept.newest) (subst (λ g. DirectCause c s y.request g w h u) (sym kept.row) q.0); at = behind.on.clock ∙ sym kept.clock }), q.1)

  old_entry : (e : Entry) → IsIn e x.stored → EntryFits c s e x.asked h'
  old_entry e j = entry_on c past w h h' on s e x.asked (kept.entries e j)

  new_entry : y.is_stored ≡ true → EntryFits c s (entry_of x.now y) x.asked h'
  new_entry e = (let q = fits.stores e in let n = kept.clock in let m = behind.on.clock in let t = same e in record { cacheable = q.0; covers = keys_refl (key_of y.asked); below = fits.below; asked = (fits.asked.0, on.asked y.request ∙ fits.asked.1); moment = omega arith; was = now_was y.result refl t.0 t.1 q.1 })

  entries : (b : Bool) → y.is_stored ≡ b → (e : Entry) → IsIn e (if b then entry_of x.now y ∷ x.stored else x.stored) → EntryFits c s e x.asked h'
  entries true q e j = elim j [ inl t ↦ subst (λ e. EntryFits c s e x.asked h') t (new_entry q) | inr o ↦ old_entry e o ]
  entries false q e j = old_entry e j

  waits_before : (j : ℕ) → waits j h' ≡ true → (y.request ≢ j) × (waits j h ≡ true)
  waits_before j e = (λ same. no_wait (subst (λ j. replied j h' ≡ true) same this), was (replied j h') (on.asked j) refl e)
    where
      never : (b : Bool) → (b && not true) ≡ true → ⊥
      never true e = absurd (cc)
      never false e = absurd (cc)

      was : (b : Bool) → asking j h' ≡ asking j h → replied j h' ≡ b → waits j h' ≡ true → waits j h ≡ true
      was true a q e = absurd (let z : (is_some (asking j h') && not true) ≡ true = subst (λ b. (is_some (asking j h') && not b) ≡ true) q e in never (is_some (asking j h')) z)
      was false a q e = (let n = (not_replied j q).1 in let z : (is_some (asking j h') && not false) ≡ true = subst (λ b. (is_some (asking j h') && not b) ≡ true) q e in rw (sym a, n) z)

      no_wait : replied j h' ≡ true → ⊥
      no_wait r = grind arith

  told : (i p j : ℕ) (m : Octets) (b : Waiting) → IsTold c s P past w x.ups x.board i p j m b h → IsTold c s P past w x.ups x.board i p j m b h'
  told i p j m b (IsExpected z) = IsExpected z
  told i p j m b (IsPosted z) = IsPosted z
  told i p j m b (IsKeptBack g l z) = IsKeptBack g l z
  told i p j m b (IsPassedOver z) = IsPassedOver (excuses p z)

  pub reply_kept : Kept c s P past w (record x { leaving = first ++ last; stored = store x.now y x.stored }) h'
  reply_kept = record {
    clock = kept.clock ∙ sym on.clock;
    place = kept.place ∙ sym behind.reaches;
    count = kept.count ∙ sym on.count;
    pending = λ r e. (let p = kept.pending r e in record { asked = on.asked x.asked ∙ p.asked; here = on.here x.asked ∙ p.here; octets = p.octets });
    newest = on.event ∙ kept.newest;
    row = on.row ∙ kept.row;
    before = λ j e. kept.before j (not_replied j e).1;
    known = λ j a e. on.asked j ∙ kept.known j a e;
    to_come = λ j le. (let f = kept.to_come j le in let lt = fits.below in record { unheld = f.unheld; unreplied = other j false (λ e. (omega arith)) f.unreplied; unhanded = λ i. was_handed j i ∙ f.unhanded i });
    reqs = λ j b e. (let f = kept.reqs j b e in record { asked = on.asked j ∙ f.asked; below = f.below; unreplied = other j false (held_not j b e) f.unreplied; octets = f.octets; tried = λ i. f.tried i ∙ sym (was_handed j i) });
    holders = λ i j lt e. (let f = kept.holders i j lt e in record {
      handed_over = was_handed j i ∙ f.handed_over;
      not_before = f.not_before;
      known = elim f.known [
        | inl q ↦ inl q
        | inr q ↦ inr (elim q [
          | inl l ↦ elim (leaves_still j l) [ inl n ↦ inl n | inr same ↦ inr (subst (λ j. replied j h' ≡ true) same this) ]
          | inr r ↦ inr (or_right (y.request == j) (replied j g) (behind.silent j ∙ r))
        ])
      ];
    });
    gave = λ i j b lt e over. kept.gave i j b lt e (sym (was_handed j i) ∙ over);
    posts = λ z j. (let f = kept.posts z j in record { server = f.server; handed_over = was_handed z.request z.server ∙ f.handed_over; right = post_on c past w h h' on z.request z.result f.right; over = λ o. f.over (before z.server z.request o); unheld = f.unheld });
    back = λ j b n e l. (let f = kept.back j b n e l in record { server = f.server; handed_over = was_handed j n.server ∙ f.handed_over; waits = f.waits; right = given_on c past w h h' on j n.result f.right; over = λ o. f.over (before n.server j o); unheld = f.unheld });
    firsts = λ j b e. (let f = kept.firsts j b e in record { none = λ n z. f.none n (on.earlier_back (OfRow (SomeCame c j)) z); first = λ m n. first_on c past w h h' on j m (f.first m n) });
    told = λ r u i p j id m b matches e. told i p j m b (kept.told r u i p j id m b (comes_before r u i p j id m matches) e);
    leaves = λ z l. (let f = kept.leaves z (was z l) in record {
      unheld = f.unheld;
      below = f.below;
      asked = (f.asked.0, on.asked z.request ∙ f.asked.1);
      unreplied = other z.request false (λ e. differs.1 (z, l, sym e)) f.unreplied;
      right = reply_on c past w h h' on s z.request z.result (λ needs. none_on c past w h h' on excuses comes_before z.request) (λ needs a. stays_done z.request a) f.right;
      free = f.free;
      stores = λ e. (let q = f.stores e in (q.0, stored_on z.request z.result q.1));
      unstored = λ plain e m r ca n u p. on.here z.request ∙ f.unstored plain e m r ca n u p;
    });
    differ = differs.0;
    waited = λ j e. (let q = waits_before j e in elim (kept.waited j q.1) [ inl a ↦ inl a | inr b ↦ inr (elim b [ inl l ↦ inl (elim (leaves_still j l) [ inl n ↦ n | inr same ↦ absurd (q.0 same) ]) | inr p ↦ inr p ]) ]);
    entries = entries y.is_stored refl;
    olds = λ j e o. old_on c past w h h' on s j e x.asked (kept.olds j e o);
    own = λ z l some fails. fails_on c past w h h' on s z.request z.given (λ needs. none_on c past w h h' on excuses comes_before z.request) (λ needs a. stays_done z.request a) (kept.own z (was z l) some fails);
    revived = λ z m l e. revived_on c past w h h' on s x.expired z m (kept.revived z m (was z l) e);
    unmarked = λ j. refl;
    parts = λ i lt. P.replies i y.request v past w (x.ups i) g (behind.fits i (x.ups i) (kept.parts i lt));
    beyond = λ i le. (let f = behind.nothing i (kept.beyond i le) in record { no_place = f.no_place; no_start = f.no_start });
  }
    where
      was : (z : Leaving) → IsIn z (first ++ last) → IsIn z x.leaving
      was z l = subst (IsIn z) (sym is) (in_more z y first last l)

-- the reply is right where it is put
pub reply_right : (c : Conf) (s : Settings) (P : Part c) (past : History) (w : What) (x : Upper P.State) (h : History) → Kept c s P past w x h → (first last : List Leaving) (y : Leaving) → x.leaving ≡ first ++ y ∷ last → (end : History) → OutsRight c s past w end h (told_of y.request y.result y.stale)
reply_right c s P past w x h kept first last y is end = go y.stale refl
  where
    there : IsIn y x.leaving
    there = subst (IsIn y) (sym is) (in_here y first last)

    fits : LeavingFits c s P past w x.held x.ups x.asked y h
    fits = kept.leaves y there

    plainly : (v : Result Octets Error) → ReplyRight c s past w h y.request v → ReplyOwes c s past w h y.request v
    plainly (Ok m) r = Unmarked (kept.unmarked y.request) r
    plainly (Err e) r = r

    go : (o : Option Octets) → y.stale ≡ o → OutsRight c s past w end h (told_of y.request y.result o)
    go None q = ((record { asked = (record { request = y.asked; moment = fits.asked.0 }, fits.asked.1); none = fits.unreplied }, plainly y.result fits.right), tt)
    go (Some m) q =
        let f = kept.revived y m there q in (
          f.server,
          (
            (
              record { asked = (record { request = y.asked; moment = fits.asked.0 }, fits.asked.1); none = fits.unreplied },
              Marked (record {
                before = h;
                marked = refl;
                failed = y.given;
                fails = f.fails;
                cause = kept.own y there f.old f.fails;
                first = f.first;
                request = f.request;
                message = f.message;
                age = f.age;
                supplied = f.supplied;
                parts = f.parts;
                valid = f.valid;
                says = f.says;
              }),
            ),
            tt,
          ),
        )

-- what is put of a result that leaves
pub told_kept : (c : Conf) (s : Settings) (P : Part c) (past : History) (w : What) (x : Upper P.State) (h : History) → Kept c s P past w x h → (first last : List Leaving) (y : Leaving) → x.leaving ≡ first ++ y ∷ last
    → Kept c s P past w (record x { leaving = first ++ last; stored = store x.now y x.stored }) (put_all (told_of y.request y.result y.stale) h)
told_kept c s P past w x h kept first last y is = go y.stale refl
  where
    there : IsIn y x.leaving
    there = subst (IsIn y) (sym is) (in_here y first last)

    go : (o : Option Octets) → y.stale ≡ o → Kept c s P past w (record x { leaving = first ++ last; stored = store x.now y x.stored }) (put_all (told_of y.request y.result o) h)
    go None q = reply_kept c s P past w x h kept first last y is h (behind_itself c P past w h) y.result (λ e. (refl, refl))
    go (Some m) q = reply_kept c s P past w x h kept first last y is (Put (Stale y.request) ∷ h) (behind_mark c P past w h y.request) (Ok m) (λ e. absurd (clash y.is_stored e (kept.revived y m there q).unstored))

pub told_marks : (k : ℕ) (v : Result Octets Error) (o : Option Octets) → MarksStand (told_of k v o)
told_marks k v None = tt
told_marks k v (Some m) = (refl, tt)
