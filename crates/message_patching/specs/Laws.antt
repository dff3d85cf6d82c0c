-- A template of a message's view gives each of its views.
use Rattle.std.specs.Prelude.{◌≡◌, ℕ, ◌≤◌, Bool, Option, Some, None, List, Result, Ok, length}
use Rattle.dns_names.specs.Name.{Labels, IsLegal}
use Rattle.dns_base.specs.Numbers.{u16_at}
use Rattle.right_trace.specs.Messages.{Octets}
use Rattle.cache_rules.specs.declared.copying.Ttls.{Ttls}
use Rattle.cache_rules.specs.declared.copying.Ttls.TheVariants.{Lessened}
use Rattle.cache_rules.specs.Viewing.{octets_by, IsViewable}
use Rattle.message_patching.specs.Patching.{Template, template_of, IsFor, patched}

-- What is patched is the view that is composed anew: for every header, for the name in every spelling, and with every TTL.
pub record GivesViews (drops : Bool) (m : Octets) (t : Template) : Type 0 where
  pub gives : (header : List ℕ) (name : Labels) (n : Ttls) → length header ≡ 4 → IsLegal name → IsFor t name → octets_by header name drops n m ≡ Ok (patched header name n t)

-- Octets are that view of each message whose views a template gives.
abbrev pub IsViewOfEach : Template → (header : List ℕ) → Labels → Ttls → Octets → Type 0
IsViewOfEach t header name n o = (drops : Bool) (m : Octets) → GivesViews drops m t → octets_by header name drops n m ≡ Ok o

-- The octets of a view of no age, with no question or one, make a template, which gives the others.
abbrev pub ViewsArePatched : Type 0
ViewsArePatched = (header : List ℕ) (name : Labels) (drops : Bool) (m o : Octets) → IsViewable header name m → octets_by header name drops (Lessened 0) m ≡ Ok o → u16_at o 4 ≤ 1
    → (t : Template) × (template_of o ≡ Some t) × GivesViews drops m t
