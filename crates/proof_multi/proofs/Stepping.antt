-- What the calls of one connection leave of the whole: it ends, it goes on as it was, or it takes requests from its queue.
use Rattle.std.proofs.Common.{◌≡◌, ℕ, ◌≤◌, inl, inr, Bool, true, false, ◌==◌, List, [], ◌++◌, Option, Some, None, refl, sym, ap, subst, ◌∙◌, arith, le_refl}
use Rattle.std.specs.Prelude.{if◌then◌else◌}
use Rattle.std.proofs.lemmas.Bool.Decides.{nat_tests}
use Rattle.client_request.specs.Numbered.{entry_at}
use Rattle.client_request.specs.Request.{Request}
use Rattle.client_request.specs.Requests.{for_one}
use Rattle.client_request.specs.View.{View}
use Rattle.client_request.specs.declared.event.Out.{Out}
use Rattle.client_stream.specs.Plain.{has_ended, ended}
use Rattle.client_multi.specs.Links.{Link, one_stream}
use Rattle.client_multi.specs.MultiStream.{taken, returns, lent}
use Rattle.right_trace.specs.Messages.{Octets}
use Rattle.proof_right.specs.machine.Part.{Act}
use Rattle.proof_right.specs.machine.Streams.{Phase, Free, Expecting, Lined, Holding, Broken, BackingOff, Asker, Conn, Multi, every, broken_at, end_at, moved}
use Rattle.proof_parts.specs.Connections.{timer_of, dues, IsAt, HasEnded, HasPumped, IsTimed}
use Rattle.proof_parts.specs.Lines.{SingleLine, IsLineAt}
use Rattle.proof_parts.specs.Octets.{IsLinkAt}
use Rattle.proof_parts.specs.PartTie.{Leads}
use Rattle.proof_parts.specs.Reading.{Keeps}
use Rattle.proof_parts.specs.Runs.{Runs}
use Rattle.proof_parts.specs.Seats.{IsAway}
use Rattle.proof_parts.specs.Sights.{sight, IsFair}
use Rattle.proof_parts.proofs.Calling.{is_open}
use Rattle.proof_parts.proofs.Keys.{with_here, with_there, each_number}
use Rattle.proof_multi.specs.Servers.{Desk, Server, desk_of, names_at, nothing_under_way, IsThere, LinkFits, AreTables, AreOrderly, NoneHeard}
use Rattle.proof_multi.proofs.Desks.{away_none, away_so}
use Rattle.proof_multi.proofs.Going.{Went}
use Rattle.proof_multi.proofs.Placing.{PlaceChange, kept_place, placed}
use Rattle.proof_multi.proofs.Returning.{returns_so}
use Rattle.proof_multi.proofs.Seated.{is_at, there_at}
use Rattle.right_trace.specs.Trace.{Conf}

-- The end of a connection

same_number : (q p : ℕ) → (q == p) ≡ true → q ≡ p
same_number q p e = grind (arith, nat_tests)

other_number : (q p : ℕ) → (q ≡ p → ⊥) → (q == p) ≡ false
other_number q p ne = grind (arith, nat_tests)

pub broken_gone : (p : ℕ) (o : Option Asker) → IsAway p o → every (broken_at p) o ≡ o
broken_gone p None away = refl
broken_gone p (Some a) away = ap (λ ph. Some (moved a ph)) (by a.phase refl)
  where
    by : (ph : Phase) → a.phase ≡ ph → broken_at p a.phase ≡ a.phase
    by Free e = ap (broken_at p) e ∙ sym e
    by Expecting e = ap (broken_at p) e ∙ sym e
    by Broken e = ap (broken_at p) e ∙ sym e
    by (BackingOff until) e = ap (broken_at p) e ∙ sym e
    by (Lined q) e = ap (broken_at p) e ∙ (ap (λ b. if b then Broken else Lined q) (other_number q p (λ f. away.lined a refl (e ∙ ap Lined f))) ∙ sym e)
    by (Holding q id) e = ap (broken_at p) e ∙ (ap (λ b. if b then Broken else Holding q id) (other_number q p (λ f. away.holding a id refl (e ∙ ap (λ q. Holding q id) f))) ∙ sym e)

pub none_left : (p : ℕ) (o : Option Asker) → IsAway p (every (broken_at p) o)
none_left p None = away_none p None refl
none_left p (Some a) = away_so p (Some (moved a (broken_at p a.phase))) (moved a (broken_at p a.phase)) refl (λ t. by a.phase t)
  where
    by : (ph : Phase) → IsThere p (broken_at p ph) → ⊥
    by Free t = t
    by Expecting t = t
    by Broken t = t
    by (BackingOff until) t = t
    by (Lined q) t = go (q == p) refl t
      where
        go : (b : Bool) → (q == p) ≡ b → IsThere p (if b then Broken else Lined q) → ⊥
        go true e t = t
        go false e t = (let z : true ≡ false = sym (same q p t) ∙ e in cc)
          where
            same : (q p : ℕ) → q ≡ p → (q == p) ≡ true
            same q p e = grind (arith, nat_tests)
    by (Holding q id) t = go (q == p) refl t
      where
        go : (b : Bool) → (q == p) ≡ b → IsThere p (if b then Broken else Holding q id) → ⊥
        go true e t = t
        go false e t = (let z : true ≡ false = sym (same q p t) ∙ e in cc)
          where
            same : (q p : ℕ) → q ≡ p → (q == p) ≡ true
            same q p e = grind (arith, nat_tests)

-- a connection that ends, whatever was told there, leaves no connection of which something was heard
pub quiet_end : (p : ℕ) (m : Multi) → NoneHeard m → NoneHeard (end_at p m)
quiet_end p m q r x at = each_number (λ r. (x : Conn) → (end_at p m).conns r ≡ Some x → x.heard ≡ false) p
    (λ x at. absurd (let z : None ≡ Some x = sym (with_here p None m.conns) ∙ at in cc))
    (λ r ne x at. q r x (sym (with_there p None m.conns r ne) ∙ at)) r x at

-- The connection l at p, whose call is under way: f says when timers were due before it.
pub record AtWork (conf : Conf) (p : ℕ) (l : Link Request) (x : Conn) (s : Server) (m : Multi) (frames : ℕ → List Octets) (v : View) (f : ℕ → Option ℕ) : Type 0 where
  pub tables : AreTables conf nothing_under_way (desk_of s) m (dues v)
  pub links : (q : ℕ) → (p ≡ q → ⊥) → LinkFits conf (desk_of s) m frames (dues v) v.ticket q
  pub watched : (q : ℕ) (k : Link Request) (i : ℕ) → entry_at q s.connections ≡ Some k → timer_of k.line.stage ≡ Some i → (entry_at i s.watches ≡ Some q) × (entry_at i s.timers ≡ None)
  pub order : AreOrderly s (sight v)
  pub fair : IsFair v
  pub is : entry_at p s.connections ≡ Some l
  pub line : IsLineAt conf p (names_at (desk_of s)) l.line m x f v.ticket

-- the tables are the same where the machine's requests are
pub same_tables : (conf : Conf) (p : ℕ) (d : Desk) (m n : Multi) (f : ℕ → Option ℕ) → n.asks ≡ m.asks → ((q : ℕ) → (p ≡ q → ⊥) → n.conns q ≡ m.conns q) → n.opening ≡ m.opening → n.calm ≡ m.calm → AreTables conf nothing_under_way d m f → PlaceChange p [] nothing_under_way nothing_under_way d d m n f f
same_tables conf p d m n f asks conns opening calm t = record {
  todo = refl;
  before = refl;
  failed = refl;
  jobs = refl;
  timers = refl;
  inner = refl;
  waiting = refl;
  conns = conns;
  aside = λ k away. ap (λ (g : ℕ → Option Asker). g k) asks;
  going = λ k a at. (a.phase, ap (λ (g : ℕ → Option Asker). g k) asks ∙ at);
  there = λ i k a named at th. inl (a, ap (λ (g : ℕ → Option Asker). g k) asks ∙ at, th);
  failing = λ i k post named. absurd post;
  due = λ i t at. refl;
  opening = t.opening ∙ sym opening;
  calm = subst (λ b. d.calm ≤ b) (sym calm) t.calm;
}

-- a call is under way still, where the machine changed at its place alone
pub work_on : (conf : Conf) (p : ℕ) (l : Link Request) (x y : Conn) (s : Server) (m n : Multi) (frames fs : ℕ → List Octets) (v : View) (f : ℕ → Option ℕ) → AtWork conf p l x s m frames v f → n.asks ≡ m.asks → ((q : ℕ) → (p ≡ q → ⊥) → n.conns q ≡ m.conns q) → n.opening ≡ m.opening → n.calm ≡ m.calm
    → ((q : ℕ) → (p ≡ q → ⊥) → fs q ≡ frames q) → IsLineAt conf p (names_at (desk_of s)) l.line n y f v.ticket → AtWork conf p l y s n fs v f
work_on conf p l x y s m n frames fs v f a asks conns opening calm same line =
    let c = same_tables conf p (desk_of s) m n (dues v) asks conns opening calm a.tables in record {
      tables = placed conf p [] nothing_under_way nothing_under_way (desk_of s) (desk_of s) m n frames (dues v) (dues v) v.ticket v.ticket a.tables c;
      links = λ q ne. kept_place conf p [] nothing_under_way nothing_under_way (desk_of s) (desk_of s) m n frames (dues v) (dues v) v.ticket v.ticket a.tables c fs q ne refl (same q ne) (λ k i at own. refl) (le_refl v.ticket) (a.links q ne);
      watched = a.watched;
      order = a.order;
      fair = a.fair;
      is = a.is;
      line = line;
    }

module _ (conf : Conf) (server p : ℕ) (l : Link Request) (x : Conn) (s : Server) (m : Multi) (frames : ℕ → List Octets) (v : View) (f : ℕ → Option ℕ) (a : AtWork conf p l x s m frames v f) (fs : ℕ → List Octets) (same_frames : (q : ℕ) → (p ≡ q → ⊥) → fs q ≡ frames q)
    (m0 : Multi) (outs0 : List Out) (made : Act Multi) (runs : Runs conf server v.now v.place m0 made) (nothing : made.posts ≡ []) (place : made.place ≡ v.place) where
  abbrev v0 : View
  v0 = record v { outs = outs0 }

  -- it has ended
  pub ended_call : (w : View) (c : Link Request) → HasEnded p (names_at (desk_of s)) m l.line (lent v) w → c.line ≡ ended l.line → made.state ≡ end_at p m → w.outs ≡ outs0 ++ made.outs → (NoneHeard m0 → NoneHeard (end_at p m))
      → Leads (Went conf server fs nothing_under_way (desk_of s) m0 v0) (returns (one_stream for_one) p (taken (one_stream for_one) p l s) v (c, w))
  ended_call w c e is state outs quiet = returns_so conf server p e.posts frames fs nothing_under_way s l m (end_at p m) v w v.request v.ticket c refl same_frames a.tables a.links a.watched a.order a.fair a.is
      (record {
        aside = λ k away. broken_gone p (m.asks k) away;
        going = λ k b at. (broken_at p b.phase, ap (every (broken_at p)) at);
        conns = λ q ne. with_there p None m.conns q ne;
        there = λ i k b named at th. inr (e.seats i (is_at conf p (names_at (desk_of s)) l.line m x f v.ticket a.line i k b named at th));
        failing = e.failing;
        timed = subst (λ (line : SingleLine). IsTimed l.line.stage line.stage (lent v) w) (sym is) e.timed;
        opening = refl;
        calm = refl;
        new = inr (ap (λ (line : SingleLine). has_ended line.stage) is, with_here p None m.conns, λ k. none_left p (m.asks k));
      })
      m0 outs0 made state runs nothing outs (e.at_place ∙ sym place) e.more (le_refl v.ticket) quiet e.put

  -- it goes on, and nothing was posted
  pub kept_call : (n : Multi) (w : View) (c : Link Request) (y : Conn) → n.asks ≡ m.asks → ((q : ℕ) → (p ≡ q → ⊥) → n.conns q ≡ m.conns q) → n.opening ≡ m.opening → n.calm ≡ m.calm → IsTimed l.line.stage c.line.stage (lent v) w → IsLinkAt conf p (names_at (desk_of s)) c n y (fs p) (dues w) w.ticket
      → w.board ≡ [] → w.place ≡ v.place → w.more ≡ v.more → made.state ≡ n → w.outs ≡ outs0 ++ made.outs → (NoneHeard m0 → NoneHeard n)
      → Leads (Went conf server fs nothing_under_way (desk_of s) m0 v0) (returns (one_stream for_one) p (taken (one_stream for_one) p l s) v (c, w))
  kept_call n w c y asks conns opening calm timed link board at_place more state outs quiet = returns_so conf server p [] frames fs nothing_under_way s l m n v w v.request v.ticket c refl same_frames a.tables a.links a.watched a.order a.fair a.is
      (record {
        aside = λ k away. ap (λ (g : ℕ → Option Asker). g k) asks;
        going = λ k b at. (b.phase, ap (λ (g : ℕ → Option Asker). g k) asks ∙ at);
        conns = conns;
        there = λ i k b named at th. inl (b, ap (λ (g : ℕ → Option Asker). g k) asks ∙ at, th);
        failing = tt;
        timed = timed;
        opening = opening;
        calm = calm;
        new = inl (is_open conf (dues w) c.line.idle_time c.line.stage y.mode link.line.fits.stage, y, link);
      })
      m0 outs0 made state runs nothing outs (at_place ∙ sym place) more (le_refl v.ticket) quiet board

-- It took requests from its queue, once the machine changed at its place alone: what was put out before is outs0.
pub pumped_call : (conf : Conf) (server p : ℕ) (l : Link Request) (x y : Conn) (s : Server) (m n : Multi) (frames : ℕ → List Octets) (v : View) → AtWork conf p l x s m frames v (dues v) → IsLinkAt conf p (names_at (desk_of s)) l m x (frames p) (dues v) v.ticket → n.asks ≡ m.asks → ((q : ℕ) → (p ≡ q → ⊥) → n.conns q ≡ m.conns q) → n.opening ≡ m.opening → n.calm ≡ m.calm → y.got ≡ x.got
    → (old : SingleLine) → old.stage ≡ l.line.stage → ((i : ℕ) → IsAt l.line i → IsAt old i) → (t : SingleLine) (w : View) → (pumped : HasPumped conf server p (names_at (desk_of s)) n y old (lent v) t w) → y.heard ≡ false → (outs0 : List Out) → w.outs ≡ outs0 ++ pumped.taken.made.outs
    → Leads (Went conf server frames nothing_under_way (desk_of s) n (record v { outs = outs0 })) (returns (one_stream for_one) p (taken (one_stream for_one) p l s) v (record l { line = t }, w))
pumped_call conf server p l x y s m n frames v a link asks conns opening calm got old stage seats t w pumped heard outs0 outs =
    let c = same_tables conf p (desk_of s) m n (dues v) asks conns opening calm a.tables in
    returns_so conf server p pumped.taken.posts frames frames nothing_under_way s l n pumped.taken.made.state v w v.request v.ticket (record l { line = t }) refl (λ q ne. refl)
    (placed conf p [] nothing_under_way nothing_under_way (desk_of s) (desk_of s) m n frames (dues v) (dues v) v.ticket v.ticket a.tables c)
    (λ q ne. kept_place conf p [] nothing_under_way nothing_under_way (desk_of s) (desk_of s) m n frames (dues v) (dues v) v.ticket v.ticket a.tables c frames q ne refl refl (λ k i at own. refl) (le_refl v.ticket) (a.links q ne))
    a.watched a.order a.fair a.is
    (record {
      aside = pumped.taken.beside.aside;
      going = pumped.taken.beside.going;
      conns = pumped.taken.beside.conns;
      there = λ i j b named at th. elim (pumped.taken.seats i (seats i (is_at conf p (names_at (desk_of s)) l.line m x (dues v) v.ticket a.line i j b named (ap (λ (g : ℕ → Option Asker). g j) (sym asks) ∙ at) th))) [
        | inl g ↦ inl (there_at conf p (names_at (desk_of s)) t pumped.taken.made.state pumped.taken.conn (dues w) w.ticket pumped.taken.line i j named g)
        | inr g ↦ inr g
      ];
      failing = pumped.taken.failing;
      timed = subst (λ st. IsTimed st t.stage (lent v) w) stage pumped.taken.timed;
      opening = pumped.taken.beside.opening;
      calm = pumped.taken.beside.calm;
      new = inl (
        is_open conf (dues w) t.idle_time t.stage (pumped.taken.conn).mode pumped.taken.line.fits.stage,
        pumped.taken.conn,
        record {
          place = link.place;
          timeout = link.timeout;
          line = pumped.taken.line;
          settled = pumped.settled;
          keeps = subst (Keeps l.octets (frames p)) (sym (pumped.taken.got ∙ got)) link.keeps;
        },
      );
    })
    n outs0 pumped.taken.made refl pumped.taken.runs pumped.taken.nothing outs (pumped.taken.at_place ∙ sym pumped.taken.place) pumped.taken.more (le_refl v.ticket) quiet_left pumped.taken.put
  where
    quiet_left : NoneHeard n → NoneHeard pumped.taken.made.state
    quiet_left q r conn at = each_number (λ r. (conn : Conn) → (pumped.taken.made.state).conns r ≡ Some conn → conn.heard ≡ false) p
        (λ conn at. ap (λ (x : Conn). x.heard) (same_conn ((pumped.taken.made.state).conns p) conn pumped.taken.conn at pumped.taken.line.conn) ∙ (pumped.taken.heard ∙ heard))
        (λ r ne conn at. q r conn (sym (pumped.taken.beside.conns r ne) ∙ at)) r conn at
      where
        same_conn : (o : Option Conn) (a b : Conn) → o ≡ Some a → o ≡ Some b → a ≡ b
        same_conn o a b e f = let g : Some a ≡ Some b = sym e ∙ f in cc
