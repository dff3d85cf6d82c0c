-- The client that a script tells is the one that is recorded.
use Rattle.std.proofs.Common.{◌≡◌, ◌<◌, ◌≤◌, ◌+◌, ◌/◌, ◌^◌, ℕ, Bool, true, false, not, ◌&&◌, ◌||◌, List, [], ◌∷◌, ◌++◌, length, map, Option, refl, sym, ap, ◌∙◌, subst, append-nil}
use Rattle.std.specs.List.{flat_map, list_all}
use Rattle.std.proofs.lemmas.Bool.{and_parts}
use Rattle.std.proofs.lemmas.List.{length-map}
use Rattle.client_cache.specs.Plain as caching
use Rattle.client_choice.specs.Redundant as choosing
use Rattle.client_loop.proofs.Rows.{leads_nowhere}
use Rattle.client_request.specs.Words.{listed}
use Rattle.client_settings.specs.Settings.{CacheSettings, RedundantSettings}
use Rattle.client_settings.specs.declared.settings.Transports.{Transports}
use Rattle.client_steps.specs.Whole.{Servers, and_server, asks_by_streams, client_with, is_tcp, servers_of, started_with, with_servers}
use Rattle.dns_record.specs.Recording.{GoesOn, IsToldStart, Opening, are_asked_alike, opening, text_of_rows, told_conf}
use Rattle.dns_values.specs.Sink.{with_octets}
use Rattle.resolv_conf.specs.Conf.{name_server}
use Rattle.resolv_conf.specs.declared.conf.ResolvConf.{ResolvConf}
use Rattle.resolv_conf.specs.declared.server.ServerConf.{ServerConf}
use Rattle.resolv_conf.specs.declared.server.Transport.{Transport}
use Rattle.resolv_conf.specs.declared.server.Transport.TheVariants.{UdpTcp, Tcp}
use Rattle.script_printing.specs.CanBeTold.{AreAddresses, AreSizesInRange, AreWordsInRange, are_told_settings, are_told_transports, is_told_server, is_whole}
use Rattle.script_printing.specs.Texts.{ended, head_text, server_line, option_lines, setting_lines, word_lines}

abbrev told : ServerConf → ServerConf
told server = name_server server.addr.ip

asks_same : (v : Bool) (t : Transport) → (v || not (is_tcp t)) ≡ true → (v || false) ≡ (v || is_tcp t)
asks_same true t h = refl
asks_same false UdpTcp h = refl
asks_same false Tcp h = absurd cc

abbrev is_alike : ResolvConf → ServerConf → Bool
is_alike conf server = conf.options.use_vc || not (is_tcp server.transport)

served : (t : Transports) (n : ℕ) (conf : ResolvConf) (servers : List ServerConf) (r : Servers) → list_all (is_alike conf) servers ≡ true
    → with_servers t n (told_conf conf).options (map told servers) r ≡ with_servers t n conf.options servers r
served t n conf [] r h = refl
served t n conf (s ∷ ss) r h =
    let both = and_parts (is_alike conf s) (list_all (is_alike conf) ss) h in
    ap (λ b. with_servers t (n + 1) (told_conf conf).options (map told ss) (and_server t n b r)) (asks_same conf.options.use_vc s.transport both.0)
    ∙ served t (n + 1) conf ss (and_server t n (asks_by_streams conf.options s) r) both.1

pub same_start : (t : Transports) (redundant : RedundantSettings) (cache : CacheSettings) (conf : ResolvConf) → are_asked_alike conf ≡ true → started_with t redundant cache (told_conf conf) ≡ started_with t redundant cache conf
same_start t redundant cache conf h =
    let servers : Servers = servers_of t redundant (told_conf conf).options (told_conf conf).servers in
    ap (λ n. record (started_with t redundant cache conf) { count = n; layer = caching.started cache servers }) (length-map conf.servers told)
    ∙ ap (λ s. record (started_with t redundant cache conf) { layer = caching.started cache s }) (served t 0 conf conf.servers (choosing.started redundant) h)

told_lines : (servers : List ServerConf) → map server_line (map told servers) ≡ map server_line servers
told_lines [] = refl
told_lines (s ∷ ss) = ap (λ ls. server_line s ∷ ls) (told_lines ss)

pub told_head : (conf : ResolvConf) (redundant : RedundantSettings) (cache : CacheSettings) (transports : Transports) (words : List ℕ) → head_text (told_conf conf) redundant cache transports words ≡ head_text conf redundant cache transports words
told_head conf redundant cache transports words =
    ap (λ ls. flat_map ended (ls ++ option_lines conf.options ++ (setting_lines redundant cache transports ++ word_lines words))) (told_lines conf.servers)

told_servers : (servers : List ServerConf) → list_all is_told_server (map told servers) ≡ true
told_servers [] = refl
told_servers (s ∷ ss) = told_servers ss

told_addresses : (servers : List ServerConf) → AreAddresses servers → AreAddresses (map told servers)
told_addresses [] h = tt
told_addresses (s ∷ ss) h = (h.0, told_addresses ss h.1)

-- a record has begun
begun : (conf : ResolvConf) (redundant : RedundantSettings) (cache : CacheSettings) (transports : Transports) (words : List ℕ) (held after : Option (List ℕ)) (text : List ℕ)
    → are_asked_alike conf ≡ true → is_whole conf.options.timeout ≡ true → are_told_settings cache ≡ true → are_told_transports transports ≡ true → AreAddresses conf.servers → AreSizesInRange transports.dgram → conf.options.timeout / 1000000 < 2 ^ 64 → AreWordsInRange words
    → text ≡ head_text conf redundant cache transports words → length text ≤ 16777216 → after ≡ with_octets text held
    → GoesOn (opening conf redundant cache transports words held) [] after words (length text) (started_with transports redundant cache conf)
begun conf redundant cache transports words held after text alike whole settings waits addresses sizes small fit is short written =
    let o : Opening = opening conf redundant cache transports words held in
    let all : text_of_rows o [] ≡ text = append-nil (head_text (told_conf conf) redundant cache transports words) ∙ told_head conf redundant cache transports words ∙ sym is in
    record {
      alike = alike;
      told = record { servers = told_servers conf.servers; options = ap (λ b. b && true) whole; settings = settings; transports = waits; lane = refl; events = refl };
      range = record { addresses = told_addresses conf.servers addresses; timeout = small; sizes = sizes; words = fit; events = tt };
      written = written ∙ ap (λ t. with_octets t held) (sym all);
      size_is = ap length (sym all);
      fits = short;
      timeout = refl;
      leads = leads_nowhere conf.options.timeout (client_with (listed words) (started_with transports redundant cache conf));
    }

-- the same of a list that is these words, where a client may be so told
pub begins : (conf : ResolvConf) (redundant : RedundantSettings) (cache : CacheSettings) (transports : Transports) (words list left : List ℕ) (held after : Option (List ℕ)) (text : List ℕ) (size : ℕ)
    → IsToldStart conf cache transports → list ≡ words → left ≡ list → AreAddresses conf.servers → AreSizesInRange transports.dgram → conf.options.timeout / 1000000 < 2 ^ 64 → AreWordsInRange list
    → text ≡ head_text conf redundant cache transports list → size ≡ length text → length text ≤ 16777216 → after ≡ with_octets text held
    → GoesOn (opening conf redundant cache transports words held) [] after left size (started_with transports redundant cache conf)
begins conf redundant cache transports words list left held after text size start is all addresses sizes small fit said count short written =
    let one : GoesOn (opening conf redundant cache transports list held) [] after list (length text) (started_with transports redundant cache conf) =
    begun conf redundant cache transports list held after text start.alike start.whole start.settings start.told_transports addresses sizes small fit said short written in
    let two : GoesOn (opening conf redundant cache transports words held) [] after list (length text) (started_with transports redundant cache conf) =
    subst (λ (ws : List ℕ). GoesOn (opening conf redundant cache transports ws held) [] after list (length text) (started_with transports redundant cache conf)) is one in
    let three : GoesOn (opening conf redundant cache transports words held) [] after left (length text) (started_with transports redundant cache conf) =
    subst (λ (ws : List ℕ). GoesOn (opening conf redundant cache transports words held) [] after ws (length text) (started_with transports redundant cache conf)) (sym all) two in
    subst (λ (n : ℕ). GoesOn (opening conf redundant cache transports words held) [] after left n (started_with transports redundant cache conf)) (sym count) three

-- what stands before the first event has no room
pub too_long : (conf : ResolvConf) (redundant : RedundantSettings) (cache : CacheSettings) (transports : Transports) (words list text : List ℕ) → list ≡ words → text ≡ head_text conf redundant cache transports list → 16777216 < length text
    → 16777216 < length (head_text conf redundant cache transports words)
too_long conf redundant cache transports words list text is said long = subst (λ (n : ℕ). 16777216 < n) (ap length said ∙ ap (λ (ws : List ℕ). length (head_text conf redundant cache transports ws)) is) long
