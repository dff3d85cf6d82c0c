-- What the header of an answer says of it.
use Rattle.std.specs.Prelude.{ℕ, List, Bool, ◌==◌, ◌||◌, ◌&&◌, not}
use Rattle.dns_base.specs.Header.{rcode_of, tc_of}

-- a part of the message was cut off
abbrev pub is_truncated : List ℕ → Bool
is_truncated octets = tc_of octets

-- no other server can give a better answer
abbrev pub is_final : List ℕ → Bool
is_final octets = (rcode_of octets == 0 || rcode_of octets == 3) && not (is_truncated octets)
