-- The laws of a server's part do not contradict each other: a part that does nothing meets them.
use Rattle.std.proofs.Common.{◌≡◌, ℕ, zero, suc, Bool, true, false, Some, refl, arith, ◌∙◌, ap, ◌&&◌}
use Rattle.std.specs.Prelude.{not}
use Rattle.std.proofs.lemmas.Bool.Decides.{nat_tests}
use Rattle.client_request.specs.declared.event.Via.{Via}
use Rattle.client_request.specs.declared.event.Via.TheVariants.{Dgram, Stream}
use Rattle.right_trace.specs.Trace.{History, Conf}
use Rattle.right_trace.specs.Time.{count_below, one_if}
use Rattle.right_trace.specs.Requests.{asks, waits, started}
use Rattle.right_trace.specs.Places.{site, is_site, is_at, stand, is_live, live, demand, reach}
use Rattle.proof_right.proofs.PartLaws.{Part}
use Rattle.proof_right.proofs.client.Serving.{clash}

-- nothing was done at server s
record Idle (s : ℕ) (past h : History) : Type 0 where
  pub before : (p : ℕ) (v : Via) → is_at v s p past ≡ false
  pub now : (p : ℕ) (v : Via) → is_at v s p h ≡ false
  pub unstarted : (k : ℕ) (v : Via) → started k s v h ≡ false

there : (v : Via) (s p : ℕ) (h : History) → site p h ≡ Some (record { via = v; server = s }) → is_at v s p h ≡ true
there v s p h e = ap (is_site v s) e ∙ own v
  where
    own : (v : Via) → is_site v s (Some (record { via = v; server = s })) ≡ true
    own Dgram = grind (arith, nat_tests)
    own Stream = grind (arith, nat_tests)

none_below : (f : ℕ → Bool) (n : ℕ) → ((q : ℕ) → f q ≡ false) → count_below f n ≡ 0
none_below f zero all = refl
none_below f (suc n) all = (let i = none_below f n all in let z : one_if (f n) ≡ 0 = ap one_if (all n) in omega arith)

and_no : (a b : Bool) → a ≡ false → (a && b) ≡ false
and_no true b e = absurd (cc)
and_no false b e = refl

and_mid : (a b d : Bool) → b ≡ false → (a && (b && d)) ≡ false
and_mid true b d e = and_no b d e
and_mid false b d e = refl

no_live : (s : ℕ) (past h : History) → Idle s past h → live s h ≡ 0
no_live s past h f = none_below (λ p. is_at Dgram s p h && is_live (stand p h)) (reach h) (λ p. and_no (is_at Dgram s p h) (is_live (stand p h)) (f.now p Dgram))

no_demand : (s : ℕ) (past h : History) → Idle s past h → demand s h ≡ 0
no_demand s past h f = none_below (λ k. waits k h && (started k s Dgram h && not (started k s Stream h))) (asks h) (λ k. and_mid (waits k h) (started k s Dgram h) (not (started k s Stream h)) (f.unstarted k Dgram))

pub idle_part : (c : Conf) → Part c
idle_part c = record {
  State = Unit {0};
  fresh = tt;
  holds = λ u k. false;
  begin = λ e u. u;
  Acts = λ s place u d. ⊥;
  Starts = λ s place k r u d. ⊥;
  Cancels = λ s place k u d. ⊥;
  Rests = λ u. Unit {0};
  Expects = λ u p k m. ⊥;
  has_taken = λ u. false;
  Fits = λ s past w u h. Idle s past h;
  fresh_fits = λ s. record { before = λ p v. refl; now = λ p v. refl; unstarted = λ k v. refl };
  fresh_holds = λ k. refl;
  fresh_rests = tt;
  begins = λ s old past w e u f rests. record { before = f.now; now = f.now; unstarted = f.unstarted };
  begins_held = λ e u k. refl;
  begins_over = λ s k old past w e u f rests un over o. clash (is_at o.via s o.place past) (there o.via s o.place past o.at) (f.now o.place o.via);
  begins_expecting = λ s p k id r v m old past w e u f rests x. absurd (clash (is_at v s p past) (there v s p past x.comes.is_open.stands.at) (f.now p v));
  one_id = λ s p k i j q r m n past w u h f x y. absurd (clash (is_at Stream s p past) (there Stream s p past x.is_open.stands.at) (f.before p Stream));
  replies = λ s k x past w u h f. record { before = f.before; now = f.now; unstarted = f.unstarted };
  marks = λ s k past w u h f. record { before = f.before; now = f.now; unstarted = f.unstarted };
  acts_keeps = λ s place past w u h d lt f p act. absurd act;
  acts_right = λ s place past w u h d lt f p act un end later. absurd act;
  acts_gives = λ s place past w u h d lt f p act. absurd act;
  acts_late = λ s place past w u h d lt f p act. absurd act;
  acts_tells = λ s place past w u h d lt f p act. absurd act;
  acts_goes = λ s place past w u h d p k m lt f q act. absurd act;
  starts_keeps = λ s place k t r past w u h d lt f p o a n st. absurd st;
  starts_right = λ s place k t r past w u h d lt f p o a n st un end later. absurd st;
  starts_gives = λ s place k t r past w u h d lt f p o a n st. absurd st;
  starts_late = λ s place k t r past w u h d lt f p o a n st. absurd st;
  starts_tells = λ s place k t r past w u h d lt f p o a n st. absurd st;
  starts_goes = λ s place k t r past w u h d p j m lt f q o a n st. absurd st;
  cancels_keeps = λ s place k past w u h d lt f p held can. absurd can;
  cancels_right = λ s place k past w u h d lt f p held can un end later rep. absurd can;
  cancels_held = λ s place k past w u h d lt f p held can j. absurd can;
  cancels_posts = λ s place k past w u h d lt f p held can. absurd can;
  cancels_late = λ s place k past w u h d lt f p held can. absurd can;
  cancels_taken = λ s place k past w u h d lt f p held can. absurd can;
  cancels_over = λ s place k past w u h d lt f p held can. absurd can;
  cancels_goes = λ s place k past w u h d p j m lt f q held can. absurd can;
  expects_held = λ u p k m x. absurd x;
  rested = λ u p k m r x. x;
  busy = λ s k a past w u h lt f rests held. absurd (cc);
  few_places = λ s past w u h lt f rests held. (let z = no_live s past h f in omega arith);
  just_so_many = λ s past w u h lt f rests held back. (let z = no_live s past h f in let y = no_demand s past h f in omega arith);
}
