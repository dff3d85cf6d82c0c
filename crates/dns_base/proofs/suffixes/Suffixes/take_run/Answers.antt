use Rattle.std.proofs.Common.{◌≡◌, ◌-◌, ℕ, List, length, take, drop, get_or, sym, subst, refl, ◌∙◌, arith}
use Rattle.dns_names.specs.Name.{Labels}
use Rattle.dns_base.specs.declared.suffixes.Known.{Known}
use Rattle.dns_base.specs.declared.suffixes.Suffixes.{Suffixes}
use Rattle.dns_base.specs.Suffixes.{IsPlaceOf}
use Rattle.dns_base.proofs.FirstPlaces.{found_read}
use Rattle.dns_base.proofs.Indexed.{index_taken}
use Rattle.dns_base.proofs.suffixes.Suffixes.take_run.Goals as goal

pub returns-clause-index : goal.returns-clause-index
returns-clause-index c =
    let s : Suffixes = c.args.self.now in
    let octets : List ℕ = c.args.octets.now in
    let places : List ℕ = c.args.places.now in
    let behind : List ℕ = take (length places - s.places) (drop s.places places) in
    let name : Labels = c.in-Some.name in
    let added : Known = record { key = c.in_ok-key.key; firsts = c.in_ok-firsts.firsts } in
    let first = subst (λ (x : ℕ). x ≡ get_or behind 0 x) (sym c.at.ensures) c.index-behind-0.is in
    let again = subst (λ (x : ℕ). x ≡ get_or behind 0 x) (sym c.at-2.ensures) c.index-behind-0-2.is in
    let read = found_read octets c.at.result name c.in-Some.field-0-1 c.in-Some.ensures.value in
    let shared = c.shared_around-shared.ensures (take s.octets octets) (take s.places places) name c.requires.index.known (c.deref-2.ensures.value ∙ c.in_ok-key.ensures) in
    let placed = subst (λ (k : List ℕ). IsPlaceOf k s.names.items c.place_of-at.result) c.deref.ensures.value c.place_of-at.ensures in
    index_taken s _ octets places behind added c.place_of-at.result c.run_length-run.result c.label_count-count.result c.at.result c.at-2.result name c.shared_around-shared.result.now
    refl c.requires.index c.requires.whole c.requires.more first again read c.label_count-count.ensures c.run_length-run.ensures.few c.run_length-run.ensures.run shared (omega (arith, c.if-count-shared.false))
    c.in_ok-key.ensures c.in_ok-firsts.ensures placed c.in_ok-insert.ensures.items refl refl
