-- What edges, clocks and counts tell, one thing more at a time.
use Rattle.std.proofs.Common.{◌≡◌, ◌⊎◌, inl, inr, ℕ, ◌+◌, ◌<◌, ◌≤◌, min, List, [], ◌∷◌, ◌++◌, length, map, take, get_or, Option, Some, None, refl, ap, sym, subst, ◌∙◌, append_assoc, length-append, arith}
use Rattle.std.specs.List.{All, flat_map}
use Rattle.std.proofs.lemmas.List.{length-map, map_more, take_all}
use Rattle.std.proofs.lemmas.List.Elements.{All-head, All-tail}
use Rattle.dns_values.specs.Source.{one_more, last_count}
use Rattle.client_request.specs.Words.{IsGivenOn}
use Rattle.client_core.specs.Edge.{after_deed}
use Rattle.client_core.specs.Waiting.{Waited}
use Rattle.client_core.specs.declared.edge.Deed.{Deed}
use Rattle.client_core.specs.declared.edge.Deed.TheVariants.{Acted, Learned, Polled}
use Rattle.client_request.specs.declared.event.Event.{Event}
use Rattle.client_request.specs.declared.event.Out.{Out}
use Rattle.client_request.specs.declared.event.What.{What}
use Rattle.client_loop.specs.Turns.{Turn, IsOfPoll, acts_on, after_deeds, after_waits, deeds_of, events_of, happened, polled_in, AreGivenOn, ArePolledOn, RoseBy}

pub append_nil : {A : Type 0} (xs : List A) → xs ++ [] ≡ xs
append_nil [] = refl
append_nil (x ∷ xs) = ap (λ ys. x ∷ ys) (append_nil xs)

-- no deeds
pub no_deeds : (told : Option (List Deed)) → told ≡ after_deeds [] told
no_deeds None = refl
no_deeds (Some before) = ap Some (sym (append_nil before))

-- some deeds, and then others
pub deeds_joined : (first second : List Deed) (told : Option (List Deed)) → after_deeds second (after_deeds first told) ≡ after_deeds (first ++ second) told
deeds_joined first second None = refl
deeds_joined first second (Some before) = ap Some (append_assoc before first second)

pub more_deeds : (first second : List Deed) (a b c : Option (List Deed)) → b ≡ after_deeds first a → c ≡ after_deeds second b → c ≡ after_deeds (first ++ second) a
more_deeds first second a b c f s = s ∙ ap (after_deeds second) f ∙ deeds_joined first second a

-- one deed more is deeds
pub as_deeds : (deed : Deed) (a b : Option (List Deed)) → b ≡ after_deed deed a → b ≡ after_deeds (deed ∷ []) a
as_deeds deed a b h = h

-- no waits
pub no_waits : (told : Option (List ℕ)) → told ≡ after_waits [] told
no_waits None = refl
no_waits (Some before) = ap Some (sym (append_nil before))

-- some waits, and then others
waits_joined : (first second : List ℕ) (told : Option (List ℕ)) → after_waits second (after_waits first told) ≡ after_waits (first ++ second) told
waits_joined first second None = refl
waits_joined first second (Some before) = ap Some (append_assoc before first second)

pub more_waits : (first second : List ℕ) (a b c : Option (List ℕ)) → b ≡ after_waits first a → c ≡ after_waits second b → c ≡ after_waits (first ++ second) a
more_waits first second a b c f s = s ∙ ap (after_waits second) f ∙ waits_joined first second a

-- what is kept of one wait
pub record KeptOf (most : ℕ) (old new : Option (List ℕ)) : Type 0 where
  pub kept : List ℕ
  pub is : (kept ≡ most ∷ []) ⊎ (kept ≡ [])
  pub told : new ≡ after_waits kept old

pub kept_of : (most : ℕ) (old new : Option (List ℕ)) → Waited most old new → KeptOf most old new
kept_of most old new (inl h) = record { kept = most ∷ []; is = inl refl; told = h }
kept_of most old new (inr h) = record { kept = []; is = inr refl; told = h ∙ no_waits old }

-- the deeds that the items of a list give, one after another
module _ {X : Type 0} (deed_of : X → Deed) (xs : List X) where
  pub next_deed : (i : ℕ) (x : X) (a b c : Option (List Deed)) → i < length xs → x ≡ get_or xs i x
      → b ≡ after_deeds (map deed_of (take i xs)) a → c ≡ after_deed (deed_of x) b → c ≡ after_deeds (map deed_of (take (i + 1) xs)) a
  next_deed i x a b c h is so_far one =
      more_deeds (map deed_of (take i xs)) (deed_of x ∷ []) a b c so_far one
      ∙ ap (λ (ds : List Deed). after_deeds ds a) (ap (λ (y : X). map deed_of (take i xs) ++ deed_of y ∷ []) is ∙ sym (map_more deed_of xs i x h))

  pub all_deeds : (i : ℕ) (a b : Option (List Deed)) → length xs ≤ i → b ≡ after_deeds (map deed_of (take i xs)) a → b ≡ after_deeds (map deed_of xs) a
  all_deeds i a b h so_far = so_far ∙ ap (λ (ys : List X). after_deeds (map deed_of ys) a) (take_all i xs h)

-- a count that rose by so many rose by one more
pub rose_more : (n a b c : ℕ) → RoseBy n a b → c ≡ one_more b → RoseBy (n + 1) a c
rose_more n a b c (inl by) h = rises (b + 1) last_count (a + (n + 1)) c (omega arith) h
  where
    rises : (x most y c : ℕ) → x ≡ y → c ≡ min x most → (c ≡ y) ⊎ (c ≡ most)
    rises x most y c e h = grind arith
rose_more n a b c (inr stands) h = inr (let e : c ≡ min (b + 1) last_count = h in omega arith)

pub rose_by_none : (a : ℕ) → RoseBy 0 a a
rose_by_none a = inl (omega arith)

-- one moment, and then others
pub first_moment : (moment : ℕ) (a b : Option (List ℕ)) → IsGivenOn a b moment → AreGivenOn a b (moment ∷ [])
first_moment moment a None h = tt
first_moment moment None (Some new) h = h
first_moment moment (Some old) (Some new) h = h

pub more_moments : (moments : List ℕ) (moment : ℕ) (a b c : Option (List ℕ)) → AreGivenOn a b moments → IsGivenOn b c moment → AreGivenOn a c (moments ++ moment ∷ [])
more_moments moments moment a b None h i = tt
more_moments moments moment a None (Some new) h i = absurd i
more_moments moments moment None (Some mid) (Some new) h i = h
more_moments moments moment (Some old) (Some mid) (Some new) h i = i ∙ ap (λ (xs : List ℕ). xs ++ moment ∷ []) h ∙ append_assoc old moments (moment ∷ [])

-- outs that are acted on are no polls
pub polled_acts : (outs : List Out) → polled_in (acts_on outs) ≡ []
unfolding polled_in
polled_acts [] = refl
polled_acts (out ∷ outs) = polled_acts outs

-- the polls of deeds, and then of others
polled_joined : (first second : List Deed) → polled_in (first ++ second) ≡ polled_in first ++ polled_in second
unfolding polled_in
polled_joined [] second = refl
polled_joined (Learned server ∷ first) second = polled_joined first second
polled_joined (Acted out ∷ first) second = polled_joined first second
polled_joined (Polled what ∷ first) second = ap (λ (ps : List (Option What)). what ∷ ps) (polled_joined first second)

polled_turns : (turns : List Turn) → polled_in (flat_map deeds_of turns) ≡ map (λ t. t.polled) turns
unfolding polled_in
polled_turns [] = refl
polled_turns (t ∷ ts) =
    ap (λ (ps : List (Option What)). t.polled ∷ ps)
    (polled_joined (acts_on t.row.outs) (flat_map deeds_of ts) ∙ ap (λ (ps : List (Option What)). ps ++ polled_in (flat_map deeds_of ts)) (polled_acts t.row.outs) ∙ polled_turns ts)

-- the polls of what was done before some turns, in them, and of one poll more
pub polled_of_turns : (before : List Deed) (turns : List Turn) (polled : Option What) → polled_in before ≡ []
    → polled_in ((before ++ flat_map deeds_of turns) ++ Polled polled ∷ []) ≡ map (λ t. t.polled) turns ++ polled ∷ []
unfolding polled_in
polled_of_turns before turns polled none =
    polled_joined (before ++ flat_map deeds_of turns) (Polled polled ∷ [])
    ∙ ap (λ (ps : List (Option What)). ps ++ polled ∷ [])
    (polled_joined before (flat_map deeds_of turns) ∙ ap (λ (ps : List (Option What)). ps ++ polled_in (flat_map deeds_of turns)) none ∙ polled_turns turns)

-- deeds tell the polls among them
pub are_polled : (deeds : List Deed) (a b : Option (List Deed)) → b ≡ after_deeds deeds a → ArePolledOn a b (polled_in deeds)
are_polled deeds None b h = subst (λ (o : Option (List Deed)). ArePolledOn None o (polled_in deeds)) (sym h) tt
are_polled deeds (Some before) b h = subst (λ (o : Option (List Deed)). ArePolledOn (Some before) o (polled_in deeds)) (sym h) (polled_joined before deeds)

-- nothing was done, so nothing was polled
pub none_polled : (a b : Option (List Deed)) → b ≡ a → ArePolledOn a b []
unfolding polled_in
none_polled a b h = are_polled [] a b (h ∙ no_deeds a)

-- the events of turns and of one more are what the edge gave
pub events_polled : (turns : List Turn) (event : Event) (polled : Option What) → All IsOfPoll turns → event.what ≡ happened polled
    → map (λ e. e.what) (events_of (map (λ t. t.row) turns) ++ event ∷ []) ≡ map happened (map (λ t. t.polled) turns ++ polled ∷ [])
events_polled [] event polled h is = ap (λ (w : What). w ∷ []) is
events_polled (t ∷ ts) event polled h is =
    ap (λ (w : What). w ∷ map (λ e. e.what) (events_of (map (λ t. t.row) ts) ++ event ∷ [])) (All-head IsOfPoll t ts h)
    ∙ ap (λ (ws : List What). happened t.polled ∷ ws) (events_polled ts event polled (All-tail IsOfPoll t ts h) is)

-- one poll a turn, and one more
pub turns_counted : (turns : List Turn) (polled : Option What) → length turns + 1 ≡ length (map (λ t. t.polled) turns ++ polled ∷ [])
turns_counted turns polled = sym (length-append (map (λ (t : Turn). t.polled) turns) (polled ∷ []) ∙ ap (λ (n : ℕ). n + 1) (length-map turns (λ (t : Turn). t.polled)))
