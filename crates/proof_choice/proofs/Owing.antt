-- Which of the servers that were started owe a request its result, as one gives it, or as one more is started.
use Rattle.std.proofs.Common.{◌≡◌, ℕ, suc, ◌-◌, inl, inr, Bool, true, false, ◌==◌, if◌then◌else◌, ◌&&◌, List, [], ◌∷◌, ◌++◌, length, Option, Some, None, is_none, slice_get, refl, sym, ap, subst, ◌∙◌, arith}
use Rattle.client_choice.specs.Choice.{silenced, all_gave, is_of}
use Rattle.client_choice.specs.declared.job.Started.{Started}
use Rattle.proof_choice.specs.Awaiting.{Owes, OneOwes, LastOwes}
use Rattle.proof_choice.proofs.Silencing.{silenced_cons}

one_less : (n : ℕ) → suc (suc n) - 1 ≡ suc n
one_less n = omega arith

this : (n : ℕ) → suc n - 1 ≡ n
this n = omega arith

module _ {P : Type 0} where
  pub one_of_last : (es : List (Started P)) → LastOwes es → OneOwes es
  one_of_last [] l = absurd l
  one_of_last (e ∷ []) l = inl l
  one_of_last (e ∷ f ∷ es) l = inr (one_of_last (f ∷ es) l)

  -- one more that owes is the last
  pub last_with : (es : List (Started P)) (e : Started P) → Owes e → LastOwes (es ++ e ∷ [])
  last_with [] e o = o
  last_with (f ∷ []) e o = o
  last_with (f ∷ h ∷ es) e o = last_with (h ∷ es) e o

  -- where not all gave their results, one owes it
  pub not_all_gave : (es : List (Started P)) → all_gave es ≡ false → OneOwes es
  not_all_gave [] e = absurd (cc)
  not_all_gave (f ∷ es) e = by f.response refl e (not_all_gave es)
    where
      by : (o : Option P) → f.response ≡ o → (is_none o && all_gave es) ≡ false → (all_gave es ≡ false → OneOwes es) → OneOwes (f ∷ es)
      by None is n ih = inr (ih n)
      by (Some r) is n ih = inl (r, is)

  -- the last one of a longer list
  abbrev last_of : List (Started P) → Option (Started P)
  last_of es = slice_get es (length es - 1)

  last_behind : (e f : Started P) (es : List (Started P)) → last_of (e ∷ f ∷ es) ≡ last_of (f ∷ es)
  last_behind e f es = ap (λ (i : ℕ). slice_get (e ∷ f ∷ es) i) (one_less (length es)) ∙ ap (λ (i : ℕ). slice_get (f ∷ es) i) (sym (this (length es)))

  -- Where another server than the last gave its result, the last one owes its own as before.
  pub last_stays : (server : ℕ) (es : List (Started P)) → is_of server (last_of es) ≡ false → LastOwes es → LastOwes (silenced server es)
  last_stays server [] n l = absurd l
  last_stays server (e ∷ []) n l = subst LastOwes (sym (silenced_cons server e [])) (by (e.server == server) n)
    where
      by : (b : Bool) → b ≡ false → LastOwes (if b then record e { response = None } ∷ [] else e ∷ silenced server [])
      by true n = absurd (cc)
      by false n = l
  last_stays server (e ∷ f ∷ es) n l = subst LastOwes (sym (silenced_cons server e (f ∷ es))) (by (e.server == server) (last_stays server (f ∷ es) (sym (ap (λ (o : Option (Started P)). is_of server o) (last_behind e f es)) ∙ n) l))
    where
      more : (fs : List (Started P)) → LastOwes fs → LastOwes (e ∷ fs)
      more [] l = absurd l
      more (h ∷ fs) l = l

      by : (b : Bool) → LastOwes (silenced server (f ∷ es)) → LastOwes (if b then record e { response = None } ∷ f ∷ es else e ∷ silenced server (f ∷ es))
      by true ih = l
      by false ih = more (silenced server (f ∷ es)) ih

  -- and a server that was started last stays the last
  pub still_last : (server : ℕ) (es : List (Started P)) → is_of server (last_of es) ≡ true → is_of server (last_of (silenced server es)) ≡ true
  still_last server [] l = absurd (cc)
  still_last server (e ∷ []) l = ap (λ (es : List (Started P)). is_of server (last_of es)) (silenced_cons server e []) ∙ by (e.server == server)
    where
      by : (b : Bool) → is_of server (last_of (if b then record e { response = None } ∷ [] else e ∷ silenced server [])) ≡ true
      by true = l
      by false = l
  still_last server (e ∷ f ∷ es) l = ap (λ (es : List (Started P)). is_of server (last_of es)) (silenced_cons server e (f ∷ es)) ∙ by (e.server == server) (still_last server (f ∷ es) (sym (ap (λ (o : Option (Started P)). is_of server o) (last_behind e f es)) ∙ l))
    where
      more : (fs : List (Started P)) → is_of server (last_of fs) ≡ true → is_of server (last_of (e ∷ fs)) ≡ true
      more [] l = absurd (cc)
      more (h ∷ fs) l = ap (λ (o : Option (Started P)). is_of server o) (last_behind e h fs) ∙ l

      by : (b : Bool) → is_of server (last_of (silenced server (f ∷ es))) ≡ true → is_of server (last_of (if b then record e { response = None } ∷ f ∷ es else e ∷ silenced server (f ∷ es))) ≡ true
      by true ih = ap (λ (o : Option (Started P)). is_of server o) (last_behind (record e { response = None }) f es ∙ sym (last_behind e f es)) ∙ l
      by false ih = more (silenced server (f ∷ es)) ih
