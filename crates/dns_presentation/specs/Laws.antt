-- The laws of presentation form: what is printed is read back.
use Rattle.std.specs.Prelude.{◌≡◌, ◌<◌, ◌^◌, List, ℕ, ◌++◌, length, Some, Ok}
use Rattle.std.specs.List.{AllByRecursion}
use Rattle.dns_names.specs.Name.{Labels, IsLegal, AreOctets}
use Rattle.dns_names.specs.Text.{name_of_text}
use Rattle.dns_presentation.specs.Strings.{read_string, string_text}
use Rattle.dns_presentation.specs.Names.{absolute_text}
use Rattle.dns_presentation.specs.Generic.{read_generic, generic_text}

pub record PresentationLaws : Type 0 where
  -- a string, whatever text follows
  pub string_is_read : (octets text : List ℕ) → AllByRecursion (λ n. n < 2 ^ 8) octets
      → read_string (string_text octets ++ text) ≡ Some (octets, text)
  -- data, of which there are at most 65535 octets
  pub generic_is_read : (octets : List ℕ) → AllByRecursion (λ n. n < 2 ^ 8) octets → length octets < 65536
      → read_generic (generic_text octets) ≡ Some octets
  pub name_is_read : (labels : Labels) → IsLegal labels → AreOctets labels → name_of_text (absolute_text labels) ≡ Ok labels
