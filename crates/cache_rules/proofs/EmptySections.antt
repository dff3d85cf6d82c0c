-- A section that counts no record, behind sections that are read or not.
use Rattle.std.proofs.Common.{◌≡◌, ℕ, Bool, true, false, List, [], ◌∷◌, refl, ap, sym, ◌∙◌, subst}
use Rattle.std.specs.Prelude.{Option, Some, None, IfSome, IsSome, Result, Ok, Err, is_some, option_map, option_and_then, ◌&&◌}
use Rattle.dns_names.proofs.Heads.{none_some}
use Rattle.dns_values.specs.declared.error.ParseError.{ParseError}
use Rattle.dns_values.specs.declared.numbers.Section.{Section}
use Rattle.dns_values.specs.declared.numbers.Section.TheVariants.{Answer, Authority, Additional}
use Rattle.dns_base.specs.Numbers.{u16_at, ◌>>=◌}
use Rattle.dns_base.specs.Message.{Known, record_at, list_at, items_at, all_read, questions_of, answer_of, authority_of, items_behind, answer_items, authority_items, additional_items}
use Rattle.dns_base.specs.Header.{counts_of}
use Rattle.dns_base.specs.Sections.{entries_in}
use Rattle.dns_base.proofs.Lists.{items_are_list}
use Rattle.client_request.specs.Composed.{section_items}
use Rattle.cache_rules.specs.Validity.{meets, section_meets, least_met, least_in, are_known, section_is_known}
use Rattle.cache_rules.proofs.WhatIsMet.{read_of_least, some_inside}

abbrev Met : Type 0
Met = Option (List (Result Known ParseError))

-- what is met there, if those before it are read
abbrev HasNone : Met → Type 0
HasNone section = IfSome section (λ items. items ≡ [])

-- ---- none is met

none_of_none : {A : Type 0} → (m : List ℕ) (before : Option (List A × ℕ)) → HasNone (items_behind m 0 before)
unfolding items_at
none_of_none m None = tt
none_of_none m (Some found) = refl

none_behind : {A : Type 0} → (m : List ℕ) (count : ℕ) (before : Option (List A × ℕ)) → count ≡ 0 → HasNone (items_behind m count before)
none_behind m count before e = subst (λ (n : ℕ). HasNone (items_behind m n before)) (sym e) (none_of_none m before)

pub none_in : (s : Section) (m : List ℕ) → entries_in s (counts_of m) ≡ 0 → IfSome (section_items s m) (λ items. items ≡ [])
unfolding answer_items authority_items additional_items
none_in Answer m e = none_behind m (u16_at m 6) (questions_of m) e
none_in Authority m e = none_behind m (u16_at m 8) (answer_of m) e
none_in Additional m e = none_behind m (u16_at m 10) (authority_of m) e

-- ---- so nothing is found, nothing is shorter, and all is known

pub nothing_met : (section : Met) (t c : ℕ) → HasNone section → section_meets t c section ≡ false
nothing_met None t c h = refl
nothing_met (Some items) t c h = ap (meets t c) h

pub nothing_less : (s : Section) (section : Met) (n : ℕ) → HasNone section → IsSome section → least_in s section n ≡ Some n
nothing_less s None n h is = absurd cc
nothing_less s (Some items) n h is = ap (λ items. least_met s items n) h

pub nothing_unknown : (section : Met) → HasNone section → IsSome section → section_is_known section ≡ true
nothing_unknown None h is = absurd cc
nothing_unknown (Some items) h is = ap are_known h

-- ---- what stands before a section is read

read_behind : {A : Type 0} → (m : List ℕ) (count : ℕ) (before : Option (List A × ℕ)) (ks : List Known) → option_and_then all_read (items_behind m count before) ≡ Some ks
    → IsSome (before >>= λ (found : List A × ℕ). list_at (record_at m) count found.1)
read_behind m count None ks e = none_some e
read_behind m count (Some found) ks e = let read = some_inside (λ (y : List Known × ℕ). y.0) (list_at (record_at m) count found.1) ks (sym (items_are_list (record_at m) count found.1) ∙ e) in ap is_some read.1

items_there : {A : Type 0} → (m : List ℕ) (count : ℕ) (before : Option (List A × ℕ)) → IsSome before → IsSome (items_behind m count before)
items_there m count None e = absurd cc
items_there m count (Some found) e = refl

authority_there : (m : List ℕ) (ks : List Known) → option_and_then all_read (answer_items m) ≡ Some ks → IsSome (authority_items m)
unfolding answer_items answer_of authority_items
authority_there m ks e = items_there m (u16_at m 8) (answer_of m) (read_behind m (u16_at m 6) (questions_of m) ks e)

additional_there : (m : List ℕ) (ks : List Known) → option_and_then all_read (authority_items m) ≡ Some ks → IsSome (additional_items m)
unfolding authority_items authority_of additional_items
additional_there m ks e = items_there m (u16_at m 10) (authority_of m) (read_behind m (u16_at m 8) (answer_of m) ks e)

pub authority_behind_least : (m : List ℕ) (n v : ℕ) → least_in Answer (answer_items m) n ≡ Some v → IsSome (authority_items m)
authority_behind_least m n v e = let read = read_of_least Answer (answer_items m) n v e in authority_there m read.0 read.1

pub additional_behind_least : (m : List ℕ) (n v : ℕ) → least_in Authority (authority_items m) n ≡ Some v → IsSome (additional_items m)
additional_behind_least m n v e = let read = read_of_least Authority (authority_items m) n v e in additional_there m read.0 read.1

others : (a b : Bool) → (a && b) ≡ true → b ≡ true
others true b e = e
others false b e = absurd cc

all_of_known : (items : List (Result Known ParseError)) → are_known items ≡ true → (ks : List Known) × (all_read items ≡ Some ks)
all_of_known [] e = ([], refl)
all_of_known (Err x ∷ items) e = absurd cc
all_of_known (Ok k ∷ items) e = let rest = all_of_known items (others (is_some k.says) (are_known items) e) in (k ∷ rest.0, ap (option_map (λ ks. k ∷ ks)) rest.1)

read_of_known : (section : Met) → section_is_known section ≡ true → (ks : List Known) × (option_and_then all_read section ≡ Some ks)
read_of_known None e = absurd cc
read_of_known (Some items) e = all_of_known items e

pub authority_behind_known : (m : List ℕ) → section_is_known (answer_items m) ≡ true → IsSome (authority_items m)
authority_behind_known m e = let read = read_of_known (answer_items m) e in authority_there m read.0 read.1

pub additional_behind_known : (m : List ℕ) → section_is_known (authority_items m) ≡ true → IsSome (additional_items m)
additional_behind_known m e = let read = read_of_known (authority_items m) e in additional_there m read.0 read.1
