-- What is found of a message is what the definitions say of it as a reply.
use Rattle.std.proofs.Common.{◌≡◌, ℕ, ◌==◌, ◌&&◌, ◌||◌, not, Bool, true, false, ◌⊎◌, inl, inr, [], ◌∷◌, refl, sym, ap, ◌∙◌, subst, arith}
use Rattle.std.proofs.lemmas.Bool.Decides.{nat_tests}
use Rattle.client_request.specs.declared.event.{Out.Out, What.What}
use Rattle.client_request.specs.declared.event.Out.TheVariants.{Start, OpenDgram, OpenStream, Send, Write, Resume, Close, Stale, Reply}
use Rattle.right_trace.specs.Trace.{History, Conf, Came, Put}
use Rattle.right_trace.specs.Time.{newest, row_before, Ever}
use Rattle.right_trace.specs.{Messages.Octets, Settings.Settings, Requests.is_marked, Validity.is_deferred, Coming.CameFor}
use Rattle.right_trace.specs.Replies.{IsFresh, InThisRow, Deferred, IsFreshReply, OkIsRight, Fresh, View, IsView}
use Rattle.right_trace.specs.Stale.{MessageIsRight, Unmarked, Marked}
use Rattle.trace_tables.specs.declared.books.Books.{Books}
use Rattle.trace_tables.specs.declared.frames.ledger.Ledger.{Ledger}
use Rattle.trace_points.specs.exchanges.Open.{Open}
use Rattle.trace_points.specs.questions.Outs.{Tells}
use Rattle.trace_replies.specs.given.{Coming.TellsCame, Earlier.Table}
use Rattle.trace_replies.specs.views.Serving.{IsSupplied, TellsView, TellsSupplied}
use Rattle.trace_replies.specs.declared.messages.message.Told.{Told}
use Rattle.trace_replies.specs.messages.Message.{IsLast, IsTold, IsJudged, TellsMessage, is_marked_seen}

both : (a b : Bool) → (a && b) ≡ true → (a ≡ true) × (b ≡ true)
both true true e = (refl, refl)
both true false e = absurd (cc)
both false b e = absurd (cc)

all : (a b : Bool) → a ≡ true → b ≡ true → (a && b) ≡ true
all a b e f = ap (λ a. a && b) e ∙ f

either : (a b : Bool) → (a || b) ≡ true → (a ≡ true) ⊎ (b ≡ true)
either true b e = inl refl
either false b e = inr e

first_true : (a b : Bool) → a ≡ true → (a || b) ≡ true
first_true a b e = ap (λ a. a || b) e

second_true : (a b : Bool) → b ≡ true → (a || b) ≡ true
second_true true b e = refl
second_true false b e = e

clash : (b : Bool) → b ≡ true → b ≡ false → ⊥
clash b e f = absurd (let z : true ≡ false = sym e ∙ f in cc)

same_number : (a b : ℕ) → (a == b) ≡ true → a ≡ b
same_number a b e = grind (arith, nat_tests)

-- what is marked stands behind the mark
mark_put : (k : ℕ) (o : Out) → is_marked k (Put o ∷ []) ≡ true → o ≡ Stale k
mark_put k (Stale j) e = ap (λ j. Stale j) (same_number j k e)
mark_put k (Start j s v) e = absurd (cc)
mark_put k (OpenDgram p s) e = absurd (cc)
mark_put k (OpenStream p s) e = absurd (cc)
mark_put k (Send p j i o) e = absurd (cc)
mark_put k (Write p j i o) e = absurd (cc)
mark_put k (Resume p o) e = absurd (cc)
mark_put k (Close p) e = absurd (cc)
mark_put k (Reply j x) e = absurd (cc)

marked_behind : (k : ℕ) (h : History) → is_marked k h ≡ true → (before : History) × (h ≡ (Put (Stale k) ∷ before))
marked_behind k [] e = absurd (cc)
marked_behind k (Came w ∷ h) e = absurd (cc)
marked_behind k (Put o ∷ h) e = (h, ap (λ o. Put o ∷ h) (mark_put k o e))

own : (k : ℕ) → (k == k) ≡ true
own k = grind (arith, nat_tests)

-- a mark gives nothing
no_mark : (c : Conf) (s : Settings) (q k : ℕ) (m : Octets) (n : ℕ) (h : History) → IsFreshReply c s q m n (Put (Stale k) ∷ h) → ⊥
no_mark c s q k m n h g = absurd (let z = g.put in cc)

module _ (c : Conf) (s : Settings) (k : ℕ) (m : Octets) where
  -- what an earlier reply supplies is the same before the mark
  before_mark : (h : History) → IsSupplied c s k m (Put (Stale k) ∷ h) → IsSupplied c s k m h
  before_mark h v = record {
    first = v.first;
    request = v.request;
    message = v.message;
    age = v.age;
    supplied = record {
      number = v.supplied.number;
      earlier = record { asked = v.supplied.earlier.asked; below = v.supplied.earlier.below; first_asked = v.supplied.earlier.first_asked; covering = v.supplied.earlier.covering };
      moment = v.supplied.moment;
      got = got v.supplied.number v.message v.supplied.moment v.supplied.got;
      is_age = v.supplied.is_age;
    };
    parts = v.parts;
    valid = v.valid;
    says = v.says;
  }
    where
      got : (q : ℕ) (x : Octets) (n : ℕ) → Ever (IsFreshReply c s q x n) (Put (Stale k) ∷ h) → Ever (IsFreshReply c s q x n) h
      got q x n (inl g) = absurd (no_mark c s q k x n h g)
      got q x n (inr g) = g

  behind_mark : (h : History) → IsSupplied c s k m h → IsSupplied c s k m (Put (Stale k) ∷ h)
  behind_mark h v = record {
    first = v.first;
    request = v.request;
    message = v.message;
    age = v.age;
    supplied = record {
      number = v.supplied.number;
      earlier = record { asked = v.supplied.earlier.asked; below = v.supplied.earlier.below; first_asked = v.supplied.earlier.first_asked; covering = v.supplied.earlier.covering };
      moment = v.supplied.moment;
      got = inr v.supplied.got;
      is_age = v.supplied.is_age;
    };
    parts = v.parts;
    valid = v.valid;
    says = v.says;
  }

  module _ (x h : History) (told : Told) (it : IsTold c s k m x h told) where
    -- ---- marked

    stale_so : (supplied : Bool) → is_marked k h ≡ true → Tells (IsSupplied c s k m h) supplied → (told.fails && supplied) ≡ true → MessageIsRight c s k m x (newest h) h
    stale_so supplied marked tells e =
        let q = both told.fails supplied e in
        let b = marked_behind k h marked in
        let f = (it.fails b.0 b.1).0 q.0 in
        let v = before_mark b.0 (subst (IsSupplied c s k m) b.1 (tells.0 q.1)) in
        Marked (record {
          before = b.0;
          marked = b.1;
          failed = f.failed;
          fails = f.fails;
          cause = f.cause;
          first = v.first;
          request = v.request;
          message = v.message;
          age = v.age;
          supplied = v.supplied;
          parts = v.parts;
          valid = v.valid;
          says = v.says;
        })

    so_stale : (supplied : Bool) → is_marked k h ≡ true → Tells (IsSupplied c s k m h) supplied → MessageIsRight c s k m x (newest h) h → (told.fails && supplied) ≡ true
    so_stale supplied marked tells (Unmarked unmarked right) = absurd (clash (is_marked k h) marked unmarked)
    so_stale supplied marked tells (Marked v) =
        all told.fails supplied ((it.fails v.before v.marked).1 (record { failed = v.failed; fails = v.fails; cause = v.cause }))
        (tells.1 (subst (IsSupplied c s k m) (sym v.marked) (behind_mark v.before (record { first = v.first; request = v.request; message = v.message; age = v.age; supplied = v.supplied; parts = v.parts; valid = v.valid; says = v.says }))))

    marked_judged : (supplied : Bool) → is_marked k h ≡ true → Tells (IsSupplied c s k m h) supplied → IsJudged c s k m x h (record { is_right = told.fails && supplied; is_fresh = false })
    marked_judged supplied marked tells = record {
      right = (stale_so supplied marked tells, so_stale supplied marked tells);
      fresh = ((λ e. absurd (cc)), (λ f. absurd (clash (is_marked k h) marked f.unmarked)));
    }

    -- ---- not marked

    module _ (before : row_before h ≡ x) (unmarked : is_marked k h ≡ false) (came view : Bool) (comes : Tells (CameFor c k m x (newest h) h) came) (views : Tells (IsView c s k m h) view) where
      abbrev is_fresh : Bool
      is_fresh = came || (is_deferred s m && told.came_earlier)

      fresh_so : is_fresh ≡ true → IsFresh c s k m x (newest h) h
      fresh_so e = go (either came (is_deferred s m && told.came_earlier) e)
        where
          go : (came ≡ true) ⊎ ((is_deferred s m && told.came_earlier) ≡ true) → IsFresh c s k m x (newest h) h
          go (inl e) = InThisRow (comes.0 e)
          go (inr e) = let q = both (is_deferred s m) told.came_earlier e in Deferred q.0 ((it.came_earlier q.0).0 q.1)

      so_fresh : IsFresh c s k m x (newest h) h → is_fresh ≡ true
      so_fresh (InThisRow f) = first_true came (is_deferred s m && told.came_earlier) (comes.1 f)
      so_fresh (Deferred d f) = second_true came (is_deferred s m && told.came_earlier) (all (is_deferred s m) told.came_earlier d ((it.came_earlier d).1 f))

      last_so : (not (is_deferred s m) || told.is_last) ≡ true → is_deferred s m ≡ true → IsLast c k m x (newest h) h
      last_so e d = (it.is_last d).0 (sym (ap (λ d. not d || told.is_last) d) ∙ e)

      so_last : (is_deferred s m ≡ true → IsLast c k m x (newest h) h) → (not (is_deferred s m) || told.is_last) ≡ true
      so_last f = go (is_deferred s m) refl
        where
          go : (d : Bool) → is_deferred s m ≡ d → (not d || told.is_last) ≡ true
          go false d = refl
          go true d = (it.is_last d).1 (f d)

      abbrev is_right : Bool
      is_right = (is_fresh && (not (is_deferred s m) || told.is_last)) || view

      right_so : is_right ≡ true → MessageIsRight c s k m x (newest h) h
      right_so e = Unmarked unmarked (go (either (is_fresh && (not (is_deferred s m) || told.is_last)) view e))
        where
          go : ((is_fresh && (not (is_deferred s m) || told.is_last)) ≡ true) ⊎ (view ≡ true) → OkIsRight c s k m x (newest h) h
          go (inl e) = let q = both is_fresh (not (is_deferred s m) || told.is_last) e in Fresh (fresh_so q.0) (last_so q.1)
          go (inr e) = View (views.0 e)

      so_right : MessageIsRight c s k m x (newest h) h → is_right ≡ true
      so_right (Unmarked not_marked (Fresh f last)) = first_true (is_fresh && (not (is_deferred s m) || told.is_last)) view (all is_fresh (not (is_deferred s m) || told.is_last) (so_fresh f) (so_last last))
      so_right (Unmarked not_marked (View v)) = second_true (is_fresh && (not (is_deferred s m) || told.is_last)) view (views.1 v)
      so_right (Marked v) = absurd (clash (is_marked k h) (ap (is_marked k) v.marked ∙ own k) unmarked)

      unmarked_judged : IsJudged c s k m x h (record { is_right = is_right; is_fresh = is_fresh })
      unmarked_judged = record {
        right = (right_so, so_right);
        fresh = (
          (λ e. record { unmarked = unmarked; fresh = subst (λ x. IsFresh c s k m x (newest h) h) (sym before) (fresh_so e) }),
          (λ f. so_fresh (subst (λ x. IsFresh c s k m x (newest h) h) before f.fresh)),
        );
      }

pub tells_marked : (c : Conf) (s : Settings) (k : ℕ) (m : Octets) (w : What) (past : Books) (sent : Open) (here : Ledger) (t : Table) (told : Told) (supplied : Bool) → is_marked_seen k here ≡ true → TellsSupplied s k m here.books.requests t supplied
    → TellsMessage c s k m w past sent here t told (record { is_right = told.fails && supplied; is_fresh = false })
tells_marked c s k m w past sent here t told supplied marked tells x h before is kp ks kh kt it =
    marked_judged c s k m x h told it supplied (sym (kh.books.requests.marks k) ∙ marked) (tells c h kh.books.requests kt)

pub tells_unmarked : (c : Conf) (s : Settings) (k : ℕ) (m : Octets) (w : What) (past : Books) (sent : Open) (here : Ledger) (t : Table) (told : Told) (came view : Bool) → is_marked_seen k here ≡ false → TellsCame c k m past sent here came → TellsView s k m w here.books.requests t view
    → TellsMessage c s k m w past sent here t told (record { is_right = ((came || (is_deferred s m && told.came_earlier)) && (not (is_deferred s m) || told.is_last)) || view; is_fresh = came || (is_deferred s m && told.came_earlier) })
tells_unmarked c s k m w past sent here t told came view unmarked comes views x h before is kp ks kh kt it =
    unmarked_judged c s k m x h told it before (sym (kh.books.requests.marks k) ∙ unmarked) came view (comes x h before kp ks kh) (views c h is kh.books.requests kt)

-- the same where it is told whether the message is deferred
pub tells_deferred : (c : Conf) (s : Settings) (k : ℕ) (m : Octets) (w : What) (past : Books) (sent : Open) (here : Ledger) (t : Table) (told : Told) (d came view : Bool) → is_marked_seen k here ≡ false → d ≡ is_deferred s m → TellsCame c k m past sent here came → TellsView s k m w here.books.requests t view
    → TellsMessage c s k m w past sent here t told (record { is_right = ((came || (d && told.came_earlier)) && (not d || told.is_last)) || view; is_fresh = came || (d && told.came_earlier) })
tells_deferred c s k m w past sent here t told d came view unmarked is comes views =
    subst (λ (d : Bool). TellsMessage c s k m w past sent here t told (record { is_right = ((came || (d && told.came_earlier)) && (not d || told.is_last)) || view; is_fresh = came || (d && told.came_earlier) })) (sym is)
    (tells_unmarked c s k m w past sent here t told came view unmarked comes views)
