-- A resolver in memory.
use Rattle.std.specs.Prelude.{◌≡◌, ◌⊎◌, ℕ, List, [], ◌∷◌, ◌++◌, Ok, Err, drop}
use Rattle.dns_names.specs.Name.{Labels}
use Rattle.dns_values.specs.Source.{one_more}
use Rattle.resolv_lookup.specs.declared.fault.QueryFault.TheVariants.{NoReply}
use Rattle.resolv_lookup.specs.declared.resolver.Asking.{Asking}
use Rattle.resolv_lookup.specs.Asked.{Got, asking, out_of_memory}

-- what is left to answer, the questions asked so far, the faults, and the suffixes to search
pub record Listed : Type 0 where
  pub left : List Got
  pub asked : List Asking
  pub faults : ℕ
  pub suffixes : List Labels

-- what the next question gets: the first result that is left, or no reply
abbrev pub next_got : List Got → Got
next_got [] = Err NoReply
next_got (got ∷ others) = got

-- the count of faults after a result
abbrev pub faults_after : Got → ℕ → ℕ
faults_after (Ok octets) faults = faults
faults_after (Err fault) faults = one_more faults

-- after a question: its result is taken, and told with it
abbrev pub asked_on : Labels → ℕ → Listed → Listed
asked_on name rtype l = record {
  left = drop 1 l.left;
  asked = l.asked ++ asking name rtype (next_got l.left) ∷ [];
  faults = faults_after (next_got l.left) l.faults;
  suffixes = l.suffixes;
}

-- The question gets the next result, or finds no memory and changes nothing.
abbrev pub AnswersNext : Labels → ℕ → Listed → Got → Listed → Type 0
AnswersNext name rtype old got new =
    ((got ≡ next_got old.left) × (new ≡ asked_on name rtype old)) ⊎ ((got ≡ Err out_of_memory) × (new ≡ old))
