-- Words that are drawn one after another.
use Rattle.std.proofs.Common.{◌≡◌, ◌<◌, ℕ, zero, suc, List, [], ◌∷◌, ◌++◌, length, map, Option, Some, None, refl, sym, ap, ◌∙◌, arith}
use Rattle.std.specs.Prelude.{slice_index, IfSome}
use Rattle.client_request.specs.Words.{rest_of}
use Rattle.client_steps.specs.Whole.{Whole}
use Rattle.client_shared.specs.Drawn.{ahead, Continues, drawn_by, AreDrawn}
use Rattle.client_shared.specs.declared.entry.Entry.{Entry}
use Rattle.client_shared.specs.declared.entry.Item.TheVariants.{Made, Lost}
use Rattle.client_shared.specs.History.{Opening, Runs, Stands, opened}

-- the next word that comes stands behind those that were drawn
one_more : (ws : List ℕ) (g : ℕ → ℕ) (k : ℕ) → ahead ws g k ≡ ahead (ws ++ g 0 ∷ []) (rest_of g) k
one_more [] g zero = refl
one_more [] g (suc k) = ap g (omega arith)
one_more (w ∷ ws) g zero = refl
one_more (w ∷ ws) g (suc k) = one_more ws g k

pub draws : (f : ℕ → ℕ) (ws : List ℕ) (g : ℕ → ℕ) (word : ℕ) (h : ℕ → ℕ) → Continues f ws g → word ≡ g 0 → h ≡ rest_of g → Continues f (ws ++ word ∷ []) h
draws f ws g word h c is rest k =
    c k ∙ (one_more ws g k ∙ (ap (λ (w : ℕ). ahead (ws ++ w ∷ []) (rest_of g) k) (sym is) ∙ ap (λ (r : ℕ → ℕ). ahead (ws ++ word ∷ []) r k) (sym rest)))

pub begins : (f g : ℕ → ℕ) → f ≡ g → Continues f [] g
begins f g e k = ap (λ (h : ℕ → ℕ). h k) e

-- ---- the words of entries

ahead_append : (a b : List ℕ) (g : ℕ → ℕ) (k : ℕ) → ahead (a ++ b) g k ≡ ahead a (λ j. ahead b g j) k
ahead_append [] b g k = refl
ahead_append (w ∷ ws) b g zero = refl
ahead_append (w ∷ ws) b g (suc k) = ahead_append ws b g k

ahead_same : (ws : List ℕ) (g h : ℕ → ℕ) → ((j : ℕ) → g j ≡ h j) → (k : ℕ) → ahead ws g k ≡ ahead ws h k
ahead_same [] g h same k = same k
ahead_same (w ∷ ws) g h same zero = refl
ahead_same (w ∷ ws) g h same (suc k) = ahead_same ws g h same k

continues_on : (f : ℕ → ℕ) (a : List ℕ) (h : ℕ → ℕ) (b : List ℕ) (g : ℕ → ℕ) → Continues f a h → Continues h b g → Continues f (a ++ b) g
continues_on f a h b g c d k = c k ∙ (ahead_same a h (λ j. ahead b g j) d k ∙ sym (ahead_append a b g k))

first_ahead : (ws : List ℕ) (g : ℕ → ℕ) (k : ℕ) → k < length ws → slice_index ws k ≡ ahead ws g k
first_ahead [] g k lt = absurd (omega (arith, lt))
first_ahead (w ∷ ws) g zero lt = refl
first_ahead (w ∷ ws) g (suc k) lt = first_ahead ws g k (omega arith)

entries_drew : (n : ℕ) (s : Whole) (f : ℕ → ℕ) (entries : List Entry) (t : Whole) (g : ℕ → ℕ) → Runs n s f (map Made entries) t g → Continues f (drawn_by entries) g
entries_drew n s f [] t g r = λ k. ap (λ (h : ℕ → ℕ). h k) r.1
entries_drew n s f (e ∷ entries) t g r = continues_on f e.words r.2 (drawn_by entries) g r.3.drawn (entries_drew n r.1 r.2 entries t g r.4)

lost_drew : (n : ℕ) (s : Whole) (f : ℕ → ℕ) (entries : List Entry) (caller : ℕ) (t : Whole) (g : ℕ → ℕ) → Runs n s f (map Made entries ++ Lost caller ∷ []) t g → Continues f (drawn_by entries) g
lost_drew n s f [] caller t g r = λ k. ap (λ (h : ℕ → ℕ). h k) r.3
lost_drew n s f (e ∷ entries) caller t g r = continues_on f e.words r.2 (drawn_by entries) g r.3.drawn (lost_drew n r.1 r.2 entries caller t g r.4)

first_drawn : (f : ℕ → ℕ) (ws : List ℕ) (g : ℕ → ℕ) → Continues f ws g → (k : ℕ) → k < length ws → slice_index ws k ≡ f k
first_drawn f ws g c k lt = first_ahead ws g k lt ∙ sym (c k)

pub desk_drew : {W : Type 0} (o : Opening) (stream : W → ℕ → ℕ) (client : Whole) (words : W) (entries : List Entry) (lost : Option ℕ) → Stands o stream client (Some words) entries lost → AreDrawn o.words entries lost (stream words)
desk_drew o stream client words entries None s =
    let c = entries_drew o.callers (opened o) o.words entries client (stream words) s.1 in
    record { first = first_drawn o.words (drawn_by entries) (stream words) c; rest = λ _. c }
desk_drew o stream client words entries (Some caller) s =
    record { first = first_drawn o.words (drawn_by entries) s.1 (lost_drew o.callers (opened o) o.words entries caller s.0 s.1 s.2); rest = λ is. absurd (cc is) }

pub desk_words : {W : Type 0} (o : Opening) (stream : W → ℕ → ℕ) (client : Whole) (words : Option W) (entries : List Entry) (lost : Option ℕ) → Stands o stream client words entries lost → IfSome words (λ w. AreDrawn o.words entries lost (stream w))
desk_words o stream client None entries lost s = tt
desk_words o stream client (Some words) entries lost s = desk_drew o stream client words entries lost s
