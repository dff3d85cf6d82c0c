-- The laws of reading a name, and of its text.
use Rattle.std.specs.Prelude.{◌≡◌, ◌≤◌, ◌+◌, ℕ, List, ◌++◌, Some, Ok, length}
use Rattle.dns_names.specs.Name.{Labels, Found, IsName, IsLegal, name_at, octet_count, spelling, AreOctets}
use Rattle.dns_names.specs.Text.{name_of_text, relative_of_text, name_text, relative_text}

-- What is read is a name in the words of the RFC, within the limits, and each of those is read.
pub record NameLaws : Type 0 where
  pub read_is_name : (octets : List ℕ) (at : ℕ) (f : Found) → name_at octets at ≡ Some f
      → IsName octets at f.labels f.end f.pointers × (f.pointers ≤ 255) × (octet_count f.labels ≤ 255)
  pub name_is_read : (octets : List ℕ) (at : ℕ) (labels : Labels) (end pointers : ℕ) → IsName octets at labels end pointers
      → pointers ≤ 255 → octet_count labels ≤ 255 → name_at octets at ≡ Some (record { labels = labels; end = end; pointers = pointers })
  pub legal : (octets : List ℕ) (at : ℕ) (f : Found) → name_at octets at ≡ Some f → IsLegal f.labels
  -- whatever follows
  pub stays : (octets more : List ℕ) (at : ℕ) (f : Found) → name_at octets at ≡ Some f → name_at (octets ++ more) at ≡ Some f
  pub spelled : (labels : Labels) (front back : List ℕ) → IsLegal labels
      → name_at (front ++ (spelling labels ++ back)) (length front) ≡ Some (record { labels = labels; end = length front + octet_count labels; pointers = 0 })

-- The laws of the texts of names: what legal labels print is read as those labels.
pub record TextLaws : Type 0 where
  pub name_is_read : (labels : Labels) → IsLegal labels → AreOctets labels → name_of_text (name_text labels) ≡ Ok labels
  pub relative_is_read : (labels : Labels) → IsLegal labels → AreOctets labels → relative_of_text (relative_text labels) ≡ Ok labels
