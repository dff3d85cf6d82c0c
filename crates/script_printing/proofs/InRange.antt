-- What a loop has seen of the ranges of a script.
use Rattle.std.proofs.Common.{ℕ, suc, ◌+◌, ◌<◌, ◌≤◌, List, [], ◌∷◌, length, get_or, slice_index, take}
use Rattle.std.specs.List.{AllByRecursion}
use Rattle.client_request.specs.declared.event.Event.{Event}
use Rattle.resolv_conf.specs.declared.server.ServerConf.{ServerConf}
use Rattle.dns_values.specs.Address.{IsAddress}
use Rattle.dns_script.proofs.InRange.{all_taken, one_more}
use Rattle.script_printing.specs.CanBeTold.{AreAddresses, AreWordsInRange, IsEvent}

pub words_by_index : (words : List ℕ) → ((i : ℕ) → slice_index words i < 18446744073709551616) → AreWordsInRange words
words_by_index [] h = tt
words_by_index (word ∷ words) h = (h 0, words_by_index words (λ i. h (suc i)))

pub one_address_more : (servers : List ServerConf) (i : ℕ) (d : ServerConf) → i < length servers → AreAddresses (take i servers) → IsAddress (get_or servers i d).addr.ip → AreAddresses (take (i + 1) servers)
one_address_more servers i d within h k = one_more (λ server. IsAddress server.addr.ip) servers i d within h k

pub all_addresses : (servers : List ServerConf) (i : ℕ) → length servers ≤ i → AreAddresses (take i servers) → AreAddresses servers
all_addresses servers i all h = all_taken (λ server. IsAddress server.addr.ip) servers i all h

pub one_event_more : (events : List Event) (i : ℕ) (d : Event) → i < length events → AllByRecursion IsEvent (take i events) → IsEvent (get_or events i d) → AllByRecursion IsEvent (take (i + 1) events)
one_event_more events i d within h k = one_more IsEvent events i d within h k

pub all_events : (events : List Event) (i : ℕ) → length events ≤ i → AllByRecursion IsEvent (take i events) → AllByRecursion IsEvent events
all_events events i all h = all_taken IsEvent events i all h
