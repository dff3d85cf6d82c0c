-- The template of a message's views in which no record is left out.
use Rattle.std.proofs.Common.{◌≡◌, ℕ, ◌+◌, ◌-◌, ◌*◌, ◌^◌, ◌≤◌, Bool, true, false, Option, Some, None, List, Ok, length, IfSome, refl, sym, subst, arith}
use Rattle.std.specs.Prelude.{◌==◌, nat_lt, option_map, if◌then◌else◌}
use Rattle.dns_names.specs.Name.{Labels}
use Rattle.dns_base.specs.Numbers.{u16_at}
use Rattle.right_trace.specs.Keys.{FlagClass, Do, Ad, Plain}
use Rattle.right_trace.specs.Messages.{Octets}
use Rattle.cache_rules.specs.declared.copying.Ttls.TheVariants.{Lessened}
use Rattle.cache_rules.specs.Viewing.{drops_signing, octets_by, IsViewable}
use Rattle.message_patching.specs.Patching.{Template, places_in, template_of, small_template_of}
use Rattle.message_patching.specs.Laws.{GivesViews}
use Rattle.message_patching.proofs.Views.{views_are_patched}

-- nothing is left out for a request with the same flags
pub none_dropped : (f : FlagClass) → drops_signing f f ≡ false
none_dropped Do = refl
none_dropped Ad = refl
none_dropped Plain = refl

pub own_views_given : (header : List ℕ) (name : Labels) (m o : Octets) → IsViewable header name m → octets_by header name false (Lessened 0) m ≡ Ok o → u16_at o 4 ≤ 1 → IfSome (small_template_of o) (GivesViews false m)
own_views_given header name m o v made few = go (nat_lt (2 ^ 32 - 1) (length o))
  where
    go : (b : Bool) → IfSome (if b then None else template_of o) (GivesViews false m)
    go true = tt
    go false = let made = views_are_patched header name false m o v made few in subst (λ x. IfSome x (GivesViews false m)) (sym made.1) made.2

-- a template has the octets that it is made of
pub made_of : (o : Octets) (n : ℕ) → length o ≤ n → IfSome (small_template_of o) (λ t. length t.octets ≤ n)
unfolding template_of
made_of o n short = go (nat_lt (2 ^ 32 - 1) (length o))
  where
    found : (places : Option (List ℕ)) → IfSome (option_map (λ (ps : List ℕ). let t : Template = record { octets = o; is_named = u16_at o 4 == 1; ttls = ps } in t) places) (λ t. length t.octets ≤ n)
    found None = tt
    found (Some places) = short

    go : (b : Bool) → IfSome (if b then None else template_of o) (λ t. length t.octets ≤ n)
    go true = tt
    go false = found (places_in o)
