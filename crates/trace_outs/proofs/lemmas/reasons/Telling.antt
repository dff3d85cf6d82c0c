-- What tests tell, and datagrams that came, at each point of a row.
use Rattle.std.proofs.Common.{◌≡◌, ℕ, ◌==◌, ◌||◌, ◌⊎◌, inl, inr, Bool, true, false, List, [], ◌∷◌, Option, Some, None, refl, sym, ap, ◌∙◌, subst, arith}
use Rattle.std.specs.Prelude.{Result, Ok, Err, IfOk}
use Rattle.std.proofs.lemmas.Bool.Decides.{nat_tests}
use Rattle.client_request.specs.Request.{Request}
use Rattle.client_request.specs.declared.event.{What.What, Via.Via}
use Rattle.client_request.specs.declared.event.Via.TheVariants.{Dgram, Stream}
use Rattle.right_trace.specs.Trace.{History, Conf}
use Rattle.right_trace.specs.Time.{now, newest}
use Rattle.right_trace.specs.Messages.{Octets, answers}
use Rattle.right_trace.specs.{Requests.same_via, Parts.IsIn, Frames.came}
use Rattle.right_trace.specs.Exchanges.{Comes, IsAmong, unanswered, first_of}
use Rattle.trace_points.specs.declared.exchanges.coming.Coming.{Coming}
use Rattle.trace_outs.specs.declared.reasons.point.Point.{Point}
use Rattle.trace_outs.specs.reasons.Point.{Known, Comings}

pub same_number : (a b : ℕ) → (a == b) ≡ true → a ≡ b
same_number a b e = grind (arith, nat_tests)

pub own : (a : ℕ) → (a == a) ≡ true
own a = grind (arith, nat_tests)

pub either : (a b : Bool) → (a || b) ≡ true → (a ≡ true) ⊎ (b ≡ true)
either true b e = inl refl
either false b e = inr e

pub first_true : (a b : Bool) → a ≡ true → (a || b) ≡ true
first_true a b e = ap (λ a. a || b) e

pub second_true : (a b : Bool) → b ≡ true → (a || b) ≡ true
second_true true b e = refl
second_true false b e = e

pub same_kind : (a b : Via) → same_via a b ≡ true → a ≡ b
same_kind Dgram Dgram e = refl
same_kind Stream Stream e = refl
same_kind Dgram Stream e = absurd (cc)
same_kind Stream Dgram e = absurd (cc)

pub own_kind : (a : Via) → same_via a a ≡ true
own_kind Dgram = refl
own_kind Stream = refl

-- what an answer is, and what it tells
pub if_ok : {A E : Type 0} {P Q : A → Type 0} (r : Result A E) → ((a : A) → P a → Q a) → IfOk r P → IfOk r Q
if_ok (Ok a) f h = f a h
if_ok (Err x) f h = tt

moved : (c : Conf) (r : Request) (s p k id : ℕ) (m : Octets) (x : History) (w w' : What) (h h' : History) → w ≡ w' → now h ≡ now h' → Comes c r Dgram s p k id m x w h → Comes c r Dgram s p k id m x w' h'
moved c r s p k id m x w w' h h' e n is = record {
  is_open = record {
    stands = is.is_open.stands;
    octets = is.is_open.octets;
    sent = subst (λ (n : ℕ). IsAmong is.is_open.octets (unanswered c r p k id n x)) n is.is_open.sent;
    carries = is.is_open.carries;
  };
  first = ap (λ (w : What). first_of c Dgram id (came p w x)) (sym e) ∙ is.first;
}

module _ (c : Conf) (x h end : History) (t : Point) (known : Known c x h end t) where
  -- a datagram came by the definitions
  pub record Came (z : Coming) : Type 0 where
    pub asked_as : Request
    pub comes : Comes c asked_as Dgram z.server z.place z.request z.id z.message x t.row.now.event.what h
    pub agreeing : z.agrees ≡ answers asked_as z.id z.message

  pub came_so : (z : Coming) → IsIn z t.comings.now → z.via ≡ Dgram → Came z
  came_so z there v =
      let cs = known.comings in
      let is = cs.all.so z there in
      record {
        asked_as = is.asked_as;
        comes = moved c is.asked_as z.server z.place z.request z.id z.message x (newest cs.at) t.row.now.event.what cs.at h cs.event cs.time (subst (λ (v : Via). Comes c is.asked_as v z.server z.place z.request z.id z.message x (newest cs.at) cs.at) v is.comes);
        agreeing = is.agreeing;
      }

  pub so_came : (r : Request) (s p k id : ℕ) (m : Octets) → Comes c r Dgram s p k id m x t.row.now.event.what h → IsIn (record { request = k; via = Dgram; server = s; place = p; id = id; message = m; agrees = answers r id m }) t.comings.now
  so_came r s p k id m is =
      let cs = known.comings in
      cs.all.back r Dgram s p k id m refl (moved c r s p k id m x t.row.now.event.what (newest cs.at) h cs.at (sym cs.event) (sym cs.time) is)
