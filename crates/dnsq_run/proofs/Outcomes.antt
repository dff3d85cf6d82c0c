-- What the status says of an input that is taken.
use Rattle.std.proofs.Common.{◌≡◌, ◌≢◌, ℕ, List, [], Option, Some, None, sym, subst}
use Rattle.std.specs.Prelude.{IfSome}
use Rattle.dns_values.specs.Sink.{with_octets}
use Rattle.dnsq_run.specs.InputLaws.{InputLaws}
use Rattle.dnsq_run.specs.Program.{IsOutput, IsRefused, IsTaken, IsDelivered}
use Rattle.dnsq_run.specs.declared.usage.Command.{Command}

pub asked_for : (asked : Option Command) (command : Command) (P : Command → Type 0) → asked ≡ Some command → P command → IfSome asked P
asked_for asked command P is h = subst (λ (o : Option Command). IfSome o P) (sym is) h

-- where a text that is taken is not refused
abbrev pub NotRefused : Option (List ℕ) → ℕ → Command → Type 0
NotRefused told n command = IfSome told (λ text. IsTaken command text → n ≢ 1)

refused : InputLaws → (told : Option (List ℕ)) (command : Command) (line : List ℕ) (n : ℕ)
    → (n ≡ 1 → IfSome told (λ text. IsRefused command text line)) → NotRefused told n command
refused laws None command line n h = tt
refused laws (Some text) command line n h = λ taken is_one. laws.taken_or_refused command text line taken (h is_one)

pub only_refused : InputLaws → (asked : Option Command) (command : Command) (told : Option (List ℕ)) (line : List ℕ) (n : ℕ) → asked ≡ Some command
    → (n ≡ 1 → IfSome told (λ text. IsRefused command text line)) → IfSome asked (NotRefused told n)
only_refused laws asked command told line n is h = asked_for asked command (NotRefused told n) is (refused laws told command line n h)

abbrev pub Done : Option (List ℕ) → (after before held : Option (List ℕ)) → Command → Type 0
Done told after before held command = IfSome told (λ text. IsDelivered command text before held × (after ≡ Some []))

done_told : (told after before held : Option (List ℕ)) (command : Command) (out : List ℕ)
    → IfSome told (λ text. IsOutput command text out × (after ≡ Some [])) → held ≡ with_octets out before → Done told after before held command
done_told None after before held command out h written = tt
done_told (Some text) after before held command out h written = (record { out = out; output = h.0; written = written }, h.1)

pub all_delivered : (asked : Option Command) (command : Command) (told after before held : Option (List ℕ)) (out : List ℕ) (n : ℕ) → asked ≡ Some command
    → IfSome told (λ text. IsOutput command text out × (after ≡ Some [])) → (n ≡ 0 → held ≡ with_octets out before)
    → n ≡ 0 → IfSome asked (Done told after before held)
all_delivered asked command told after before held out n is h written is_done =
    asked_for asked command (Done told after before held) is (done_told told after before held command out h (written is_done))
