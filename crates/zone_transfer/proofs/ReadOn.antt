-- Messages that are read one after another.
use Rattle.std.proofs.Common.{◌≡◌, ℕ, List, [], ◌∷◌, ◌++◌, append_assoc, Some, None, Ok, Err, refl, sym, ap, subst, ◌∙◌}
use Rattle.zone_reading.specs.declared.steps.Update.{Update}
use Rattle.zone_records.specs.Interpreting.{Interpreter, Read, interpreted}
use Rattle.zone_records.specs.Transfers.{AllRead, all_read, behind_updates, then_read}
use Rattle.zone_records.specs.declared.record.ZoneRecord.{ZoneRecord}
use Rattle.zone_transfer.specs.Reading.{AreRead, ReadSoFar, Reads}

abbrev Updates : Type 0
Updates = List (Update ZoneRecord)

nil_right : (us : Updates) → us ++ [] ≡ us
nil_right [] = refl
nil_right (u ∷ us) = ap (λ (vs : Updates). u ∷ vs) (nil_right us)

-- the same of messages behind the first
abbrev Later : (ms ns : List (List ℕ)) → Interpreter × Updates → Type 0
Later ms ns y = (t : Interpreter) (z : Interpreter × Updates) → all_read t ms ≡ Some z → all_read z.0 ns ≡ Some y → all_read t (ms ++ ns) ≡ Some (y.0, z.1 ++ y.1)

read_more : (s : Interpreter) (ms ns : List (List ℕ)) (x y : Interpreter × Updates) → all_read s ms ≡ Some x → all_read x.0 ns ≡ Some y → all_read s (ms ++ ns) ≡ Some (y.0, x.1 ++ y.1)
read_more s [] ns x y a b =
    let e : (s, []) ≡ x = cc in
    subst (λ (z : Interpreter × Updates). all_read z.0 ns ≡ Some y → all_read s ns ≡ Some (y.0, z.1 ++ y.1)) e (λ c. c) b
read_more s (m ∷ ms) ns x y a b = go (λ t z i j. read_more t ms ns z y i j) (interpreted s m) refl a
  where
    on : Later ms ns y → (t : Interpreter) (vs : Updates) (o : AllRead) → all_read t ms ≡ o → behind_updates vs o ≡ Some x → behind_updates vs (all_read t (ms ++ ns)) ≡ Some (y.0, x.1 ++ y.1)
    on later t vs None i a = absurd (cc)
    on later t vs (Some z) i a =
        let e : (z.0, vs ++ z.1) ≡ x = cc in
        let first : z.0 ≡ x.0 = ap (λ (q : Interpreter × Updates). q.0) e in
        let ups : vs ++ z.1 ≡ x.1 = ap (λ (q : Interpreter × Updates). q.1) e in
        ap (behind_updates vs) (later t z i (ap (λ (q : Interpreter). all_read q ns) first ∙ b))
        ∙ ap (λ (us : Updates). Some (y.0, us)) (sym (append_assoc vs z.1 y.1) ∙ ap (λ (us : Updates). us ++ y.1) ups)

    go : Later ms ns y → (r : Read) → interpreted s m ≡ r → then_read (λ t. all_read t ms) r ≡ Some x → then_read (λ t. all_read t (ms ++ ns)) (interpreted s m) ≡ Some (y.0, x.1 ++ y.1)
    go later (Err f) i a = absurd (cc)
    go later (Ok z) i a = ap (then_read (λ t. all_read t (ms ++ ns))) i ∙ on later z.0 z.1 (all_read z.0 ms) refl a

pub none_read : (s : ReadSoFar) → AreRead s [] s
none_read s = record { more = []; says = refl; updates = sym (nil_right s.updates) }

pub one_read : (a b : ReadSoFar) (m : List ℕ) → Reads a m b → AreRead a (m ∷ []) b
one_read a b m r = record { more = r.more; says = ap (then_read (λ t. all_read t [])) r.says ∙ ap (λ (us : Updates). Some (b.interpreter, us)) (nil_right r.more); updates = r.updates }

pub then_are : (a b c : ReadSoFar) (ms ns : List (List ℕ)) → AreRead a ms b → AreRead b ns c → AreRead a (ms ++ ns) c
then_are a b c ms ns x y = record {
  more = x.more ++ y.more;
  says = read_more a.interpreter ms ns (b.interpreter, x.more) (c.interpreter, y.more) x.says y.says;
  updates = y.updates ∙ (ap (λ (us : Updates). us ++ y.more) x.updates ∙ append_assoc a.updates x.more y.more);
}
