-- The text of a journal, entry by entry.
use Rattle.std.proofs.Common.{◌≡◌, ℕ, List, [], ◌∷◌, ◌++◌, ap, sym, append_assoc}
use Rattle.std.specs.List.{flat_map}
use Rattle.client_shared.specs.declared.entry.Entry.{Entry}
use Rattle.dns_script.specs.TraceText.{last_line}
use Rattle.dnsq_many.specs.Lanes.{entry_text}

-- what is written so far, and the entries that follow
abbrev pub text_with : List ℕ → List Entry → List ℕ
text_with text rest = text ++ flat_map entry_text rest ++ last_line

pub one_more : (text : List ℕ) (e : Entry) (rest : List Entry) → text_with text (e ∷ rest) ≡ text_with (text ++ entry_text e) rest
one_more text e rest = ap (λ (xs : List ℕ). xs ++ last_line) (sym (append_assoc text (entry_text e) (flat_map entry_text rest)))
