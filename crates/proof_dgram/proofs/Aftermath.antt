-- What is left of a view, and what is apart, once a place is closed and its slot is given on.
use Rattle.std.proofs.Common.{◌≡◌, ℕ, suc, ◌+◌, ◌<◌, ◌≤◌, ◌⊎◌, inl, inr, List, [], ◌∷◌, ◌++◌, Option, Some, None, refl, sym, ap, subst, ◌∙◌, arith, le_refl, le_trans, append-nil, append_assoc}
use Rattle.client_request.specs.Numbered.{entry_at}
use Rattle.client_request.specs.Request.{Request}
use Rattle.client_request.specs.Timers.{TimerList, cancelled}
use Rattle.client_request.specs.View.{View}
use Rattle.client_request.specs.declared.event.Out.{Out}
use Rattle.client_request.specs.declared.event.Out.TheVariants.{OpenDgram}
use Rattle.client_dgram.specs.Plain.{Tables, gives_on}
use Rattle.std.specs.Prelude.{option_map, ◌^◌}
use Rattle.client_dgram.specs.declared.job.Job.{Job}
use Rattle.proof_right.specs.machine.Part.{Act, Post}
use Rattle.right_trace.specs.Updates.{with_at}
use Rattle.proof_right.specs.machine.Streams as multi
use Rattle.proof_right.specs.machine.Dgrams.{Dgrams, try_at}
use Rattle.proof_right.specs.machine.Dgrams as dgrams
use Rattle.proof_parts.specs.Chains.{still, then_act}
use Rattle.proof_parts.specs.Sights.{sight, due_of, Rising, IsFair}
use Rattle.proof_dgram.specs.Slots.{slots_of, AreSlots, names_of}
use Rattle.proof_dgram.specs.Steps.{made_by, AsItIs, Steps, Rests, Steps_on}
use Rattle.proof_dgram.specs.Calls.{Leads, IsAfter, Owns, KeepsApart, Leaves}
use Rattle.proof_dgram.proofs.Changing.{settled}
use Rattle.proof_parts.proofs.Keys.{was_there, is_or_was}
use Rattle.proof_parts.proofs.TimerLaws.{due_without, order_without}
use Rattle.proof_dgram.proofs.GivingOn.{opened, GaveOn, Nobody, Somebody, gave_on}
use Rattle.right_trace.specs.Trace.{Conf}

-- views

pub after_itself : (v : View) → IsFair v → IsAfter v v
after_itself v fair = record { fair = fair; now = refl; request = refl; more = refl; timer = le_refl v.timers.next; ticket = le_refl v.ticket; place = le_refl v.place; later = λ i due e. inl e }

pub after_then : (v w x : View) → IsAfter v w → IsAfter w x → IsAfter v x
after_then v w x a b = record {
  fair = b.fair;
  now = b.now ∙ a.now;
  request = b.request ∙ a.request;
  more = b.more ∙ a.more;
  timer = le_trans a.timer b.timer;
  ticket = le_trans a.ticket b.ticket;
  place = le_trans a.place b.place;
  later = λ i due e. elim (b.later i due e) [ inl f ↦ a.later i due f | inr f ↦ inr (subst (λ n. n < due) a.now f.0, le_trans a.timer f.1) ];
}

-- something was put out, something is on the board, and the words went on
pub after_fair : (v : View) → IsFair v → (w : View) → w.timers ≡ v.timers → w.now ≡ v.now → w.request ≡ v.request → w.more ≡ v.more → w.ticket ≡ v.ticket → w.place ≡ v.place → ((i : ℕ) → w.words i < 2 ^ 64) → IsAfter v w
after_fair v fair w timers now request more ticket place words = record {
  fair = record { order = subst (λ (t : TimerList). Rising (λ t. t.id) 0 t.next t.set) (sym timers) fair.order; words = words };
  now = now;
  request = request;
  more = more;
  timer = subst (λ (t : TimerList). v.timers.next ≤ t.next) (sym timers) (le_refl v.timers.next);
  ticket = subst (λ t. v.ticket ≤ t) (sym ticket) (le_refl v.ticket);
  place = subst (λ t. v.place ≤ t) (sym place) (le_refl v.place);
  later = λ i due e. inl (ap (λ (t : TimerList). due_of i t.set) (sym timers) ∙ e);
}

pub after_opened : (server : ℕ) (v : View) → IsFair v → IsAfter v (opened server v)
after_opened server v fair = record { fair = record { order = fair.order; words = fair.words }; now = refl; request = refl; more = refl; timer = le_refl v.timers.next; ticket = le_refl v.ticket; place = over v.place; later = λ i due e. inl e }
  where
    over : (a : ℕ) → a ≤ a + 1
    over a = omega arith

-- a timer of its own was dropped
pub after_dropped : (r : ℕ) (v w : View) → IsFair v → w.timers ≡ cancelled r v.timers → w.now ≡ v.now → w.request ≡ v.request → w.more ≡ v.more → w.ticket ≡ v.ticket → w.place ≡ v.place → w.words ≡ v.words → IsAfter v w
after_dropped r v w fair timers now request more ticket place words = record {
  fair = record { order = subst (λ (t : TimerList). Rising (λ t. t.id) 0 t.next t.set) (sym timers) (order_without r 0 v.timers.next v.timers.set fair.order); words = λ i. subst (λ (f : ℕ → ℕ). f i < 2 ^ 64) (sym words) (fair.words i) };
  now = now;
  request = request;
  more = more;
  timer = subst (λ (t : TimerList). v.timers.next ≤ t.next) (sym timers) (le_refl v.timers.next);
  ticket = subst (λ t. v.ticket ≤ t) (sym ticket) (le_refl v.ticket);
  place = subst (λ t. v.place ≤ t) (sym place) (le_refl v.place);
  later = λ i due e. inl (old i due (sym (due_without r i 0 v.timers.next v.timers.set fair.order) ∙ (ap (λ (t : TimerList). due_of i t.set) (sym timers) ∙ e)));
}
  where
    old : (i due : ℕ) → with_at r None (λ j. due_of j v.timers.set) i ≡ Some due → due_of i v.timers.set ≡ Some due
    old i due e = (was_there r (λ j. due_of j v.timers.set) i due e).1

-- What goes on behind a first act: the slot that it left is given on.
pub record Goes_on (c : Conf) (server : ℕ) (s : Tables Request) (d : Dgrams) (v : View) (first : Act Dgrams) (s1 : Tables Request) (v1 : View) (t : Tables Request) (w : View) : Type 0 where
  pub made : Act Dgrams
  pub steps : Steps c server v.now first.place first.state made
  pub nothing : made.posts ≡ []
  pub leaves : Leaves c s d v (then_act first made) t w
  pub board : w.board ≡ v1.board
  pub names : (i : ℕ) → names_of t i ≡ names_of s1 i

module _ (c : Conf) (server : ℕ) (s : Tables Request) (d : Dgrams) (v : View) (state : Dgrams) (fo : List Out) (fp : List Post) (s1 : Tables Request) (v1 : View) (f : AreSlots c 1 s1 state (sight v1)) (outs : v1.outs ≡ v.outs ++ fo) (after : IsAfter v v1) (apart : KeepsApart s d v s1 state v1) where
  abbrev first : Act Dgrams
  first = record { state = state; place = v1.place; outs = fo; posts = fp }

  owned_as : (t : Tables Request) → t.timers ≡ s1.timers → (i : ℕ) → Owns t i → Owns s i ⊎ (v.timers.next ≤ i)
  owned_as t same i o = apart.owned i (subst (λ ts. (u : ℕ) × (entry_at i ts ≡ Some u)) same o)

  behind : (t : Tables Request) (w : View) → GaveOn c server s1 state v1 t w → Goes_on c server s d v first s1 v1 t w
  behind t w (Nobody jobs timers same slots) = record {
    made = still v1.place state;
    steps = Rests v1.place state;
    nothing = refl;
    leaves = record {
      outs = ap (λ (w : View). w.outs) same ∙ (outs ∙ ap (λ xs. v.outs ++ xs) (sym (append-nil fo)));
      place = ap (λ (w : View). w.place) same;
      slots = subst (λ (w : View). AreSlots c 0 t state (sight w)) (sym same) slots;
      after = subst (IsAfter v) (sym same) after;
      apart = subst (KeepsApart s d v t state) (sym same) (record { owned = owned_as t timers; others = apart.others; places = apart.places });
    };
    board = ap (λ (w : View). w.board) same;
    names = λ i. ap (λ js. option_map (λ (j : Job Request). j.number) (entry_at i js)) jobs;
  }
  behind t w (Somebody k b held stage few same timers names slots) = record {
    made = then_act (made_by v1.place (multi.Puts (OpenDgram v1.place server)) (try_at v1.place k b state)) (still (suc v1.place) (try_at v1.place k b state));
    steps = Steps_on v1.place state (multi.Puts (OpenDgram v1.place server)) (try_at v1.place k b state) _ _ (dgrams.Opens k b held stage few) (AsItIs (settled c 0 (slots_of t) (try_at v1.place k b state) _ slots.alike)) (Rests (suc v1.place) (try_at v1.place k b state));
    nothing = refl;
    leaves = record {
      outs = ap (λ (w : View). w.outs) same ∙ (ap (λ xs. xs ++ OpenDgram v1.place server ∷ []) outs ∙ append_assoc v.outs fo (OpenDgram v1.place server ∷ []));
      place = ap (λ (w : View). w.place) same ∙ one_more v1.place;
      slots = subst (λ (w : View). AreSlots c 0 t (try_at v1.place k b state) (sight w)) (sym same) slots;
      after = after_then v v1 w after (subst (IsAfter v1) (sym same) (after_opened server v1 after.fair));
      apart = subst (KeepsApart s d v t (try_at v1.place k b state)) (sym same) (record { owned = owned_as t timers; others = apart.others; places = λ q i e. elim (is_or_was v1.place (Some k) state.at q i e) [ inl x ↦ inr (subst (λ q. v.place ≤ q) x.0 after.place) | inr x ↦ apart.places q i x.1 ] });
    };
    board = ap (λ (w : View). w.board) same;
    names = names;
  }
    where
      one_more : (a : ℕ) → a + 1 ≡ suc a
      one_more a = omega arith

  pub goes_on : Leads (Goes_on c server s d v first s1 v1) (gives_on server s1 v1)
  goes_on = go (gives_on server s1 v1) (gave_on c server s1 state v1 f after.fair)
    where
      go : (o : Option (Tables Request × View)) → Leads (GaveOn c server s1 state v1) o → Leads (Goes_on c server s d v first s1 v1) o
      go None g = tt
      go (Some x) g = behind x.0 x.1 g
