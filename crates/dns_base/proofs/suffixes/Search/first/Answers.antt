use Rattle.std.proofs.Common.{◌≡◌, ℕ, ◌∷◌, length, ap, sym, ◌∙◌, arith}
use Rattle.std.specs.Prelude.{Option}
use Rattle.dns_base.specs.Compression.{found_at}
use Rattle.dns_base.specs.Suffixes.{first_of, from_end}
use Rattle.dns_base.proofs.Indexed.{search_found}
use Rattle.dns_base.proofs.suffixes.Search.first.Goals as goal

pub returns-in-Some : goal.returns-in-Some
returns-in-Some c = λ places search.
    let s = c.args.self.now in
    let labels = c.args.label.now ∷ c.args.rest.now in
    let known = s.known.now in
    let recent = s.recent.now in
    let found = search_found s.octets.now places labels known recent s.others.now (omega arith) search in
    let count : c.args.labels ≡ length labels = c.requires in
    let here : first_of (from_end known (length labels)) (from_end recent (length labels)) ≡ c.first_found.result =
    sym (c.first_found.ensures ∙ ap (λ (n : ℕ). first_of (from_end known n) (from_end recent n)) count) in
    sym (found ∙ ap (λ (f : Option ℕ). first_of f (found_at s.octets.now s.others.now labels)) (here ∙ c.in-Some.is))

pub returns-in-None : goal.returns-in-None
returns-in-None c = λ places search.
    let s = c.args.self.now in
    let labels = c.args.label.now ∷ c.args.rest.now in
    let known = s.known.now in
    let recent = s.recent.now in
    let found = search_found s.octets.now places labels known recent s.others.now (omega arith) search in
    let count : c.args.labels ≡ length labels = c.requires in
    let here : first_of (from_end known (length labels)) (from_end recent (length labels)) ≡ c.first_found.result =
    sym (c.first_found.ensures ∙ ap (λ (n : ℕ). first_of (from_end known n) (from_end recent n)) count) in
    c.found_at.ensures ∙ sym (found ∙ ap (λ (f : Option ℕ). first_of f (found_at s.octets.now s.others.now labels)) (here ∙ c.in-None.is))
