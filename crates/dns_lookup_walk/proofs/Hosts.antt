-- Names that are looked up one after another.
use Rattle.std.proofs.Common.{◌≡◌, List, [], ◌∷◌, ◌++◌, map, refl, ap, sym, ◌∙◌, append_assoc, append-nil, Option}
use Rattle.std.specs.List.{flat_map}
use Rattle.std.proofs.lemmas.Grind.{flat_map-append}
use Rattle.std.proofs.lemmas.List.{map-append}
use Rattle.dns_names.specs.Name.{Labels}
use Rattle.dns_values.specs.declared.address.IpAddr.{IpAddr}
use Rattle.dns_lookup_walk.specs.Deeds.{Deed, after_deed, after_deeds, looked_up}
use Rattle.dns_lookup_walk.specs.Steps.{Host, host_deed, servers_of}
use Rattle.dns_lookup_walk.specs.Targets.{server_at}
use Rattle.dns_lookup_walk.specs.Trying.{DidLookUp}
use Rattle.dns_lookup_walk.specs.declared.server.NameServer.{NameServer}
use Rattle.dns_lookup_walk.proofs.Doing.{after_both, after_none}

-- what is so before the next of some names is looked up: these are left
pub record FoundSoFar {W : Type 0} (deeds : W → Option (List Deed)) (names rest : List Labels) (before after : List NameServer) (old now : W) : Type 0 where
  pub hosts : List Host
  pub named : map (λ host. host.name) hosts ++ rest ≡ names
  pub found : after ≡ before ++ flat_map servers_of hosts
  pub done : deeds now ≡ after_deeds (map host_deed hosts) (deeds old)

pub none_found : {W : Type 0} (deeds : W → Option (List Deed)) (names : List Labels) (before : List NameServer) (old : W) → FoundSoFar deeds names names before before old old
none_found deeds names before old = record { hosts = []; named = refl; found = sym (append-nil before); done = after_none (deeds old) }

pub one_found : {W : Type 0} (deeds : W → Option (List Deed)) (names rest : List Labels) (name : Labels) (later : List Labels) (addresses : List IpAddr) (before middle after : List NameServer) (old mid new : W)
    → rest ≡ name ∷ later → FoundSoFar deeds names rest before middle old mid → deeds new ≡ after_deed (looked_up name addresses) (deeds mid)
    → after ≡ middle ++ map (server_at name) addresses → FoundSoFar deeds names later before after old new
one_found deeds names rest name later addresses before middle after old mid new is so did more =
    let host : Host = record { name = name; addresses = addresses } in
    record {
      hosts = so.hosts ++ host ∷ [];
      named =
          ap (λ (all : List Labels). all ++ later) (map-append (λ (h : Host). h.name) so.hosts (host ∷ []))
          ∙ append_assoc (map (λ (h : Host). h.name) so.hosts) (name ∷ []) later
          ∙ ap (λ (left : List Labels). map (λ (h : Host). h.name) so.hosts ++ left) (sym is)
          ∙ so.named;
      found =
          more ∙ ap (λ (servers : List NameServer). servers ++ map (server_at name) addresses) so.found
          ∙ append_assoc before (flat_map servers_of so.hosts) (map (server_at name) addresses)
          ∙ ap (λ (servers : List NameServer). before ++ (flat_map servers_of so.hosts ++ servers)) (sym (append-nil (map (server_at name) addresses)))
          ∙ ap (λ (servers : List NameServer). before ++ servers) (sym (flat_map-append servers_of so.hosts (host ∷ [])));
      done =
          did ∙ ap (λ (d : Option (List Deed)). after_deeds (looked_up name addresses ∷ []) d) so.done
          ∙ after_both (map host_deed so.hosts) (looked_up name addresses ∷ []) (deeds old)
          ∙ ap (λ (all : List Deed). after_deeds all (deeds old)) (sym (map-append host_deed so.hosts (host ∷ [])));
    }

pub all_found : {W : Type 0} (deeds : W → Option (List Deed)) (names rest : List Labels) (before after : List NameServer) (old now : W)
    → rest ≡ [] → FoundSoFar deeds names rest before after old now → DidLookUp deeds names before after old now
all_found deeds names rest before after old now is so = record {
  hosts = so.hosts;
  are_named = sym (append-nil (map (λ (h : Host). h.name) so.hosts)) ∙ ap (λ (left : List Labels). map (λ (h : Host). h.name) so.hosts ++ left) (sym is) ∙ so.named;
  found = so.found;
  done = so.done;
}
