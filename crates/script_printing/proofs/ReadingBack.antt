-- The words of an event are read as it.
use Rattle.std.proofs.Common.{◌≡◌, ℕ, List, [], ◌∷◌, ◌++◌, Some, refl, subst, append-nil, decimal}
use Rattle.client_request.specs.declared.event.Event.{Event}
use Rattle.client_request.specs.declared.event.What.{What}
use Rattle.client_request.specs.declared.event.What.TheVariants as what
use Rattle.dns_script.specs.Grammar.{event_at, what_at, whole}
use Rattle.dns_script.specs.Lines.{what_words}
use Rattle.dns_script.specs.Reading.{◌>>=◌}
use Rattle.dns_script.specs.TextLaws.{IsWhat}
use Rattle.dns_script.specs.Words.{fault_word, hex_word}
use Rattle.dns_script.proofs.PrintedWords.{fault_read, octets_read, request_read, u64_read}
use Rattle.script_printing.specs.CanBeTold.{IsEvent}

what_read : (w : What) (rest : List (List ℕ)) → IsWhat w → what_at (what_words w ++ rest) ≡ Some (w, rest)
what_read (what.Ask request) rest h = rw (request_read request rest h) refl
what_read (what.Opened place) rest h = rw (u64_read place rest h) refl
what_read (what.OpenFailed place f) rest h = rw (u64_read place (fault_word f ∷ rest) h, fault_read f rest) refl
what_read (what.SendFailed place f) rest h = rw (u64_read place (fault_word f ∷ rest) h, fault_read f rest) refl
what_read (what.ShortSend place) rest h = rw (u64_read place rest h) refl
what_read (what.Datagram place octets) rest h = rw (u64_read place (hex_word octets ∷ rest) h.0, octets_read octets rest h.1) refl
what_read (what.RecvFailed place f) rest h = rw (u64_read place (fault_word f ∷ rest) h, fault_read f rest) refl
what_read (what.Wrote place count) rest h = rw (u64_read place (decimal count ∷ rest) h.0, u64_read count rest h.1) refl
what_read (what.WriteFailed place f) rest h = rw (u64_read place (fault_word f ∷ rest) h, fault_read f rest) refl
what_read (what.Bytes place octets) rest h = rw (u64_read place (hex_word octets ∷ rest) h.0, octets_read octets rest h.1) refl
what_read (what.ReadFailed place f) rest h = rw (u64_read place (fault_word f ∷ rest) h, fault_read f rest) refl
what_read (what.Ended place) rest h = rw (u64_read place rest h) refl
what_read what.Tick rest h = refl

pub event_read : (event : Event) → IsEvent event → event_at (decimal event.moment.0 ∷ what_words event.what) >>= whole ≡ Some event
event_read event h =
    rw (u64_read event.moment.0 (what_words event.what) h.0, subst (λ ws. what_at ws ≡ Some (event.what, [])) (append-nil (what_words event.what)) (what_read event.what [] h.1)) refl
