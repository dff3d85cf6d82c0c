-- What is printed of a configuration.
use Rattle.std.specs.Prelude.{◌==◌, ℕ, ◌/◌, List, [], ◌∷◌, ◌++◌, codes, decimal, Bool, not, flat_map, if◌then◌else◌}
use Rattle.std.specs.List.{list_any}
use Rattle.dns_values.specs.Address.{address_text, socket_address_text}
use Rattle.dns_names.specs.Name.{Labels}
use Rattle.dns_names.specs.Text.{name_text}
use Rattle.resolv_conf.specs.declared.conf.ResolvConf.{ResolvConf}
use Rattle.resolv_conf.specs.declared.options.ResolvOptions.{ResolvOptions}
use Rattle.resolv_conf.specs.declared.server.ServerConf.{ServerConf}

-- the port is left out where it is that of the DNS
unfoldable pub server_text : ServerConf → List ℕ
server_text server =
    codes "nameserver " ++ (if server.addr.port == 53 then address_text server.addr.ip else socket_address_text server.addr) ++ (10 ∷ [])

abbrev pub suffix_text : Labels → List ℕ
suffix_text name = codes " " ++ name_text name

-- one suffix is a domain
abbrev pub search_text : List Labels → List ℕ
search_text [] = []
search_text (name ∷ []) = codes "domain" ++ suffix_text name ++ (10 ∷ [])
search_text (name ∷ next ∷ names) = codes "search" ++ flat_map suffix_text (name ∷ next ∷ names) ++ (10 ∷ [])

-- each option in order: whether it is printed, and its text
unfoldable pub option_texts : ResolvOptions → List (Bool × List ℕ)
option_texts o =
    (not (o.ndots == 1), codes "ndots:" ++ decimal o.ndots)
    ∷ (not (o.timeout == 5000000), codes "timeout:" ++ decimal (o.timeout / 1000000))
    ∷ (not (o.attempts == 2), codes "attempts:" ++ decimal o.attempts)
    ∷ (o.aa_only, codes "aa-only")
    ∷ (o.use_vc, codes "use-vc")
    ∷ (o.primary, codes "primary")
    ∷ (not o.recurse, codes "no-recurse")
    ∷ (not o.default_names, codes "no-default-names")
    ∷ (o.stay_open, codes "stay-open")
    ∷ (not o.dn_search, codes "no-dn-search")
    ∷ (o.use_inet6, codes "use-inet6")
    ∷ (o.rotate, codes "rotate")
    ∷ (o.no_check_name, codes "no-check-name")
    ∷ (o.keep_tsig, codes "keep-tsig")
    ∷ (o.blast, codes "blast")
    ∷ (o.use_bstring, codes "use-bstring")
    ∷ (o.use_ip6dotint, codes "ip6dotint")
    ∷ (o.use_edns0, codes "use-edns0")
    ∷ (o.single_request, codes "single-request")
    ∷ (o.single_request_reopen, codes "single-request-reopen")
    ∷ (o.no_tld_query, codes "no-tld-query")
    ∷ []

abbrev pub shown_text : Bool × List ℕ → List ℕ
shown_text w = if w.0 then codes " " ++ w.1 else []

abbrev pub line_text : List (Bool × List ℕ) → List ℕ
line_text words = if list_any (λ w. w.0) words then codes "options" ++ flat_map shown_text words ++ (10 ∷ []) else []

unfoldable pub options_text : ResolvOptions → List ℕ
options_text o = line_text (option_texts o)

-- the servers, the search list and the options, a line each
abbrev pub conf_text : ResolvConf → List ℕ
conf_text conf = flat_map server_text conf.servers ++ search_text conf.options.search ++ options_text conf.options
