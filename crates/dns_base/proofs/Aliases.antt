-- From alias to alias.
use Rattle.std.proofs.Common.{◌≡◌, ℕ, zero, suc, ◌+◌, ◌<◌, List, [], ◌∷◌, refl, sym, arith, Bool, true, false}
use Rattle.std.specs.Prelude.{Option, Some, None, Result, Ok, Err, option_and_then, option_map}
use Rattle.std.specs.Option.{option_or}
use Rattle.dns_values.specs.declared.error.ParseError.{ParseError}
use Rattle.dns_names.specs.Name.{Labels}
use Rattle.dns_base.specs.Message.{Known, all_read, record_at, questions_of, answer_of, answer_items, answer_records, list_at, items_at}
use Rattle.dns_base.specs.Numbers.{u16_at, ◌>>=◌}
use Rattle.dns_base.proofs.Lists.{items_are_list}
use Rattle.dns_base.specs.Canonical.{is_alias, alias_in, target_in, followed}

-- the first alias that was found, or else the first among the items that are left
abbrev pub found_in : Labels → Option Known → List (Result Known ParseError) → Option (Option Known)
found_in owner found items = option_map (λ records. option_or found (alias_in owner records)) (all_read items)

pub found_some : (owner : Labels) (k known : Known) (items : List (Result Known ParseError)) → found_in owner (Some k) (Ok known ∷ items) ≡ found_in owner (Some k) items
found_some owner k known items = go (all_read items)
  where
    go : (o : Option (List Known)) → option_map (λ records. option_or (Some k) (alias_in owner records)) (option_map (λ xs. known ∷ xs) o) ≡ option_map (λ records. option_or (Some k) (alias_in owner records)) o
    go None = refl
    go (Some xs) = refl

pub found_alias : (owner : Labels) (known : Known) (items : List (Result Known ParseError)) → is_alias owner known ≡ true → found_in owner None (Ok known ∷ items) ≡ found_in owner (Some known) items
found_alias owner known items e = go (all_read items)
  where
    go : (o : Option (List Known)) → option_map (λ records. option_or None (alias_in owner records)) (option_map (λ xs. known ∷ xs) o) ≡ option_map (λ records. option_or (Some known) (alias_in owner records)) o
    go None = refl
    go (Some xs) = rw e refl

pub found_other : (owner : Labels) (known : Known) (items : List (Result Known ParseError)) → is_alias owner known ≡ false → found_in owner None (Ok known ∷ items) ≡ found_in owner None items
found_other owner known items e = go (all_read items)
  where
    go : (o : Option (List Known)) → option_map (λ records. option_or None (alias_in owner records)) (option_map (λ xs. known ∷ xs) o) ≡ option_map (λ records. option_or None (alias_in owner records)) o
    go None = refl
    go (Some xs) = rw e refl

-- where a name leads, where the records are read
abbrev pub leads : ℕ → Option (List Known) → Labels → Option Labels
leads left records name = option_and_then (λ rs. followed left rs name) records

pub leads_unread : (left : ℕ) (records : Option (List Known)) (name : Labels) → option_map (alias_in name) records ≡ None → leads left records name ≡ None
leads_unread left None name e = refl
leads_unread left (Some rs) name e = absurd (cc)

there : (left : ℕ) (rs : List Known) (name : Labels) → alias_in name rs ≡ None → followed left rs name ≡ Some name
there zero rs name e = rw e refl
there (suc n) rs name e = rw e refl

pub leads_there : (left : ℕ) (records : Option (List Known)) (name : Labels) → option_map (alias_in name) records ≡ Some None → leads left records name ≡ Some name
leads_there left None name e = absurd (cc)
leads_there left (Some rs) name e = there left rs name (cc)

pub leads_out : (left : ℕ) (records : Option (List Known)) (name : Labels) (k : Known) → left ≡ 0 → option_map (alias_in name) records ≡ Some (Some k) → leads left records name ≡ None
leads_out left None name k z e = absurd (cc)
leads_out left (Some rs) name k z e = let is : alias_in name rs ≡ Some k = cc in rw (z, is) refl

pub leads_on : (left next : ℕ) (records : Option (List Known)) (name : Labels) (k : Known) → left ≡ next + 1 → option_map (alias_in name) records ≡ Some (Some k)
    → leads left records name ≡ option_and_then (leads next records) (target_in k.says)
leads_on left next None name k s e = absurd (cc)
leads_on left next (Some rs) name k s e = let is : alias_in name rs ≡ Some k = cc in let more : left ≡ suc next = omega arith in rw (more, is) refl

-- the records of the answer section are its items, where each is read
all_items : (octets : List ℕ) → option_and_then all_read (answer_items octets) ≡ answer_records octets
unfolding answer_items answer_of
all_items octets = go (questions_of octets)
  where
    go : {A : Type 0} → (o : Option (A × ℕ)) → option_and_then all_read (option_map (λ found. items_at (record_at octets) (u16_at octets 6) found.1) o)
        ≡ option_map (λ (found : List Known × ℕ). found.0) (o >>= λ before. list_at (record_at octets) (u16_at octets 6) before.1)
    go None = refl
    go (Some x) = items_are_list (record_at octets) (u16_at octets 6) x.1

pub answers_read : (octets : List ℕ) (items : List (Result Known ParseError)) → answer_items octets ≡ Some items → all_read items ≡ answer_records octets
answers_read octets items e = rw e at (all_items octets)

pub answers_unread : (octets : List ℕ) → answer_items octets ≡ None → answer_records octets ≡ None
answers_unread octets e = sym (rw e at (all_items octets))
