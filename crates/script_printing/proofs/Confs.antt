-- The lines of a configuration are taken as it.
use Rattle.std.proofs.Common.{◌≡◌, ◌<◌, ◌+◌, ◌*◌, ◌/◌, ◌%◌, ◌^◌, ◌==◌, ℕ, suc, Bool, true, false, not, cond, nat_lt, List, [], ◌∷◌, ◌++◌, length, drop, take, bytes_eq, map, slice_index, Some, refl, sym, ap, ◌∙◌, arith, subst, inl, inr, append_assoc, append-nil, codes, decimal, IsAscii, All, zero, Ok, length-append}
use Rattle.std.specs.Char.{is_whitespace}
use Rattle.std.specs.List.{AllByRecursion, filter, list_all, onto_first, position_or_len, slice_split}
use Rattle.std.specs.Str.{encode_utf8_all}
use Rattle.std.specs.Str.Parse.{IsNumeral, ParsesUnsigned, digits_value, without_leading_plus}
use Rattle.std.specs.Net.Addr.{octets_of}
use Rattle.std.specs.Net.Grammar.{IsColonHex, IsDotted, IsGroups}
use Rattle.std.specs.Net.Text.{hex_groups_text, ipv4_text, ipv6_text}
use Rattle.std.proofs.NetLemmas.Alphabet.{All-hex_groups_text, All-ipv4_text, IsDigitOrDot, IsHexOrColon}
use Rattle.std.proofs.NetLemmas.Texts.{AllSegments, AllSegments-drop}
use Rattle.std.proofs.lemmas.Bool.{and_parts, cond_both, eqb-true, ne_eqb}
use Rattle.std.proofs.lemmas.Bool.Decides.{nat_tests}
use Rattle.std.proofs.lemmas.Fmt.{decimal_is_IsNumeral}
use Rattle.std.proofs.lemmas.Str.{chars-IsAscii, encodes-IsAscii}
use Rattle.dns_values.specs.declared.address.IpAddr.{IpAddr}
use Rattle.dns_values.specs.declared.address.IpAddr.TheVariants.{V4, V6}
use Rattle.dns_values.specs.Address.{IsAddress, IsAddressText, address_text}
use Rattle.dns_values.proofs.Addresses.{printed}
use Rattle.resolv_conf.specs.Conf.{default_options, name_server}
use Rattle.resolv_conf.specs.Line.{LineGives, WordsGive, takes, with_server, options_set}
use Rattle.resolv_conf.specs.Number.{number_of}
use Rattle.resolv_conf.specs.Options.{flagged, numbered, option_after, options_after, options_from, valued}
use Rattle.resolv_conf.specs.Words.{words_of, is_empty}
use Rattle.resolv_conf.proofs.Numbers.{number_is}
use Rattle.resolv_conf.specs.declared.conf.ResolvConf.{ResolvConf}
use Rattle.resolv_conf.specs.declared.options.ResolvOptions.{ResolvOptions}
use Rattle.resolv_conf.specs.declared.server.ServerConf.{ServerConf}
use Rattle.resolv_conf.specs.declared.server.Transport.{Transport}
use Rattle.resolv_conf.specs.declared.server.Transport.TheVariants.{UdpTcp, Tcp}
use Rattle.dns_script.proofs.Decimals.{decimal_is_above}
use Rattle.dns_script.proofs.Joined.{IsAbove}
use Rattle.dns_script.specs.ScriptReading.{TakesLines}
use Rattle.script_printing.specs.CanBeTold.{AreAddresses, are_counts_default, are_first_flags_default, are_last_flags_default, are_told_options, is_tcp, is_told_server, is_whole}
use Rattle.script_printing.specs.Texts.{conf_lines, option_lines, server_line, shown, timeout_lines}
use Rattle.script_printing.proofs.Lines.{Settings, before_first_at, drop_name, is_inside, take_name, reader_at, not_skipped, takes_more, takes_named, takes_one}
use Rattle.script_printing.proofs.Plain.{IsPlain, IsWord, decimal_word, plain_append, plain_ascii, plain_text, word_above, word_append, word_plain, word_text}

not_white : (c : ℕ) → (32 < c) × (c < 128) → is_whitespace c ≡ false
not_white c h = let low = h.0 in let high = h.1 in grind (arith, nat_tests)

split_at : (a rest : List ℕ) → IsWord a → slice_split is_whitespace (a ++ 32 ∷ rest) ≡ a ∷ slice_split is_whitespace rest
split_at [] rest h = refl
split_at (c ∷ a) rest h =
    ap (λ b. cond b ([] ∷ slice_split is_whitespace (a ++ 32 ∷ rest)) (onto_first c (slice_split is_whitespace (a ++ 32 ∷ rest)))) (not_white c h.0) ∙ ap (onto_first c) (split_at a rest h.1)

split_alone : (w : List ℕ) → IsWord w → slice_split is_whitespace w ≡ w ∷ []
split_alone [] h = refl
split_alone (c ∷ w) h = ap (λ b. cond b ([] ∷ slice_split is_whitespace w) (onto_first c (slice_split is_whitespace w))) (not_white c h.0) ∙ ap (onto_first c) (split_alone w h.1)

word_ascii : (w : List ℕ) → IsWord w → IsAscii w
word_ascii w h = plain_ascii w (word_plain w h)

-- two words with a blank between them
two_words : (c d : ℕ) (a w : List ℕ) → IsWord (c ∷ a) → IsWord (d ∷ w) → words_of ((c ∷ a) ++ 32 ∷ (d ∷ w)) ≡ (c ∷ a) ∷ (d ∷ w) ∷ []
unfolding words_of
two_words c d a w h k =
    let line : List ℕ = (c ∷ a) ++ 32 ∷ (d ∷ w) in
    let plain : IsPlain line = plain_append (c ∷ a) (32 ∷ (d ∷ w)) (word_plain (c ∷ a) h) ((omega arith, omega arith), word_plain (d ∷ w) k) in
    ap (λ t. map encode_utf8_all (filter (λ word. not (is_empty word)) (slice_split is_whitespace t))) (chars-IsAscii line (plain_ascii line plain))
    ∙ ap (λ ps. map encode_utf8_all (filter (λ word. not (is_empty word)) ps)) (split_at (c ∷ a) (d ∷ w) h ∙ ap (λ ps. (c ∷ a) ∷ ps) (split_alone (d ∷ w) k))
    ∙ ap (λ x. x ∷ encode_utf8_all (d ∷ w) ∷ []) (encodes-IsAscii (c ∷ a) (word_ascii (c ∷ a) h))
    ∙ ap (λ x. (c ∷ a) ∷ x ∷ []) (encodes-IsAscii (d ∷ w) (word_ascii (d ∷ w) k))

each_word : (P : ℕ → Type 0) → ((c : ℕ) → P c → (32 < c) × (c < 128)) → (xs : List ℕ) → All P xs → IsWord xs
each_word P f [] h = tt
each_word P f (x ∷ xs) h = (f x (h 0 x (omega arith)), each_word P f xs (λ k d lt. h (suc k) d (omega (arith, lt))))

dot_fits : (c : ℕ) → IsDigitOrDot c → (32 < c) × (c < 128)
dot_fits c (inl h) = (omega (arith, h.0), omega (arith, h.1))
dot_fits c (inr h) = (omega (arith, h), omega (arith, h))

colon_fits : (c : ℕ) → IsHexOrColon c → (32 < c) × (c < 128)
colon_fits c (inl h) = (omega (arith, h.0), omega (arith, h.1))
colon_fits c (inr h) = (omega (arith, h.0), omega (arith, h.1))

dotted_is_word : (o : List ℕ) → ((k : ℕ) → slice_index o k < 2 ^ 8) → IsWord (ipv4_text o)
dotted_is_word o h = each_word IsDigitOrDot dot_fits (ipv4_text o) (All-ipv4_text o h)

halves_fit : (xs : List ℕ) → AllSegments xs → (k : ℕ) → slice_index (octets_of xs) k < 2 ^ 8
halves_fit [] h k = omega arith
halves_fit (x ∷ xs) h zero = let small = h 0 in omega arith
halves_fit (x ∷ xs) h (suc zero) = omega arith
halves_fit (x ∷ xs) h (suc (suc k)) = halves_fit xs (λ j. h (suc j)) k

colons_are_word : (xs : List ℕ) → AllSegments xs → IsWord (ipv6_text xs)
unfolding ipv6_text
colons_are_word xs h =
    cond_both (bytes_eq (take 6 xs) (0 ∷ 0 ∷ 0 ∷ 0 ∷ 0 ∷ 0xffff ∷ [])) (codes "::ffff:" ++ ipv4_text (octets_of (drop 6 xs))) (hex_groups_text xs) IsWord
    (λ _. word_append (codes "::ffff:") (ipv4_text (octets_of (drop 6 xs))) (word_text (codes "::ffff:") refl) (dotted_is_word (octets_of (drop 6 xs)) (halves_fit (drop 6 xs) (AllSegments-drop 6 xs h))))
    (λ _. each_word IsHexOrColon colon_fits (hex_groups_text xs) (All-hex_groups_text xs h))

-- an address is a word
pub address_is_word : (ip : IpAddr) → IsAddress ip → IsWord (address_text ip)
address_is_word (V4 octets) h = dotted_is_word octets h.1
address_is_word (V6 groups) h = colons_are_word groups h.1

dotted_some : (text octets : List ℕ) → IsDotted text octets → 0 < length text
dotted_some text octets h =
    let front : List ℕ = decimal h.a ++ codes "." ++ decimal h.b ++ codes "." ++ decimal h.c in
    let spelled : length text ≡ length (front ++ codes "." ++ decimal h.d) = ap length h.spelled in
    omega (arith, spelled, length-append (front ++ codes ".") (decimal h.d), length-append front (codes "."))

groups_some : (text groups : List ℕ) → IsGroups true text groups → length groups ≡ 8 → 0 < length text
groups_some text [] h eight = absurd (omega (arith, eight))
groups_some text (s ∷ segments) (inl (group, rest, e, is, more)) eight =
    let some : 0 < length group = is.0.0.0 in
    let spelled : length text ≡ length (group ++ rest) = ap length e in
    omega (arith, some, spelled, length-append group rest)
groups_some text (s ∷ segments) (inr (last, octets, is, e, dotted, value)) eight = let some = dotted_some last octets dotted in let spelled : length text ≡ length last = ap length e in omega (arith, some, spelled)

colons_some : (text groups : List ℕ) → IsColonHex text groups → 0 < length text
colons_some text groups (inl h) = groups_some text groups h.0 h.1
colons_some text groups (inr h) =
    let spelled : length text ≡ length (h.head_text ++ codes "::" ++ h.tail_text) = ap length h.spelled in
    omega (arith, spelled, length-append (h.head_text ++ codes "::") h.tail_text, length-append h.head_text (codes "::"))

address_some : (text : List ℕ) (ip : IpAddr) → IsAddressText text ip → 0 < length text
address_some text (V4 octets) h = dotted_some text octets h
address_some text (V6 groups) h = colons_some text groups h

server_given : (t : List ℕ) (ip : IpAddr) (conf : ResolvConf) → IsAddressText t ip → IsWord t → LineGives (codes "nameserver " ++ t) conf (takes (with_server ip conf))
server_given [] ip conf is word = absurd (omega (arith, address_some [] ip is))
server_given (d ∷ w) ip conf is word =
    subst (λ ws. WordsGive ws conf (takes (with_server ip conf))) (sym (two_words 110 d (codes "ameserver") w (word_text (codes "nameserver") refl) word)) (inl (ip, is, refl))

first_is_above : (xs : List ℕ) → AllByRecursion (λ o. 43 < o) xs → (slice_index xs 0 == 43) ≡ false
first_is_above [] h = refl
first_is_above (x ∷ xs) h = ne_eqb x 43 (λ e. absurd (omega (arith, h.0, e)))

no_plus : (n : ℕ) → n < 2 ^ 64 → without_leading_plus (decimal n) ≡ decimal n
no_plus n h = ap (λ b. drop (cond b 1 0) (decimal n)) (first_is_above (decimal n) (decimal_is_above 43 n (omega arith) h))

-- a number is read as it was printed
number_read : (n : ℕ) → n < 2 ^ 64 → number_of (decimal n) ≡ Some n
number_read n h =
    let numeral = decimal_is_IsNumeral n h in
    let small : digits_value 10 (decimal n) < 2 ^ 64 = omega (arith, numeral.1, h) in
    let told : ParsesUnsigned {E = Unit {0}} 64 10 (decimal n) (Ok n) =
    subst (λ ds. (IsNumeral 10 ds × (digits_value 10 ds < 2 ^ 64)) × (n ≡ digits_value 10 ds)) (sym (no_plus n h)) ((numeral.0, small), sym numeral.1) in
    sym (number_is {E = Unit {0}} (decimal n) (Ok n) told)

-- a word with a colon sets what stands before it to the number behind it
option_at : (word name digits : List ℕ) (o : ResolvOptions) (k : ℕ) → position_or_len (λ c. c == 58) word ≡ k → nat_lt k (length word) ≡ true → take k word ≡ name → drop (k + 1) word ≡ digits
    → option_after word o ≡ valued name (number_of digits) o
unfolding option_after
option_at word name digits o k at inside front back =
    ap (λ i. cond (nat_lt i (length word)) (valued (take i word) (number_of (drop (i + 1) word)) o) (Some (flagged word o))) at
    ∙ ap (λ b. cond b (valued (take k word) (number_of (drop (k + 1) word)) o) (Some (flagged word o))) inside
    ∙ ap (λ f. valued f (number_of (drop (k + 1) word)) o) front
    ∙ ap (λ d. valued name (number_of d) o) back

letters_above : IsAbove 58 (codes "timeout")
letters_above = (omega arith, (omega arith, (omega arith, (omega arith, (omega arith, (omega arith, (omega arith, tt)))))))

timeout_set : (n : ℕ) (o : ResolvOptions) → n < 2 ^ 64 → option_after (codes "timeout:" ++ decimal n) o ≡ Some (record o { timeout = n * 1000000 })
unfolding numbered
timeout_set n o h =
    option_at (codes "timeout:" ++ decimal n) (codes "timeout") (decimal n) o (length (codes "timeout")) (before_first_at 58 (codes "timeout") (decimal n) letters_above) (is_inside (codes "timeout") (decimal n) 58)
    (take_name (codes "timeout") (58 ∷ decimal n)) (drop_name (codes "timeout") (decimal n) 58)
    ∙ ap (λ m. valued (codes "timeout") m o) (number_read n h)

timeout_given : (n : ℕ) (conf : ResolvConf) → n < 2 ^ 64 → LineGives (codes "options timeout:" ++ decimal n) conf (takes (record conf { options = record conf.options { timeout = n * 1000000 } }))
timeout_given n conf h =
    let given : takes (record conf { options = record conf.options { timeout = n * 1000000 } }) ≡ options_set (options_after ((codes "timeout:" ++ decimal n) ∷ []) conf.options) conf =
    sym (ap (λ p. options_set (options_from p conf.options (options_after [])) conf) (timeout_set n conf.options h)) in
    let word : IsWord (codes "timeout:" ++ decimal n) = word_append (codes "timeout:") (decimal n) (word_text (codes "timeout:") refl) (decimal_word n h) in
    subst (λ ws. WordsGive ws conf (takes (record conf { options = record conf.options { timeout = n * 1000000 } }))) (sym (two_words 111 116 (codes "ptions") (codes "imeout:" ++ decimal n) (word_text (codes "options") refl) word)) given

vc_set : (o : ResolvOptions) → option_after (codes "use-vc") o ≡ Some (record o { use_vc = true })
unfolding option_after flagged
vc_set o = refl

use_vc_given : (conf : ResolvConf) → LineGives (codes "options use-vc") conf (takes (record conf { options = record conf.options { use_vc = true } }))
use_vc_given conf =
    let set : option_after (codes "use-vc") conf.options ≡ Some (record conf.options { use_vc = true }) = vc_set conf.options in
    let given : takes (record conf { options = record conf.options { use_vc = true } }) ≡ options_set (options_after (codes "use-vc" ∷ []) conf.options) conf =
    sym (ap (λ p. options_set (options_from p conf.options (options_after [])) conf) set) in
    subst (λ ws. WordsGive ws conf (takes (record conf { options = record conf.options { use_vc = true } }))) (sym (two_words 111 117 (codes "ptions") (codes "se-vc") (word_text (codes "options") refl) (word_text (codes "use-vc") refl))) given

udp_tcp : (t : Transport) → not (is_tcp t) ≡ true → UdpTcp ≡ t
udp_tcp UdpTcp e = refl
udp_tcp Tcp e = absurd cc

-- a server that its address tells is the one of its line
pub told_server : (s : ServerConf) → is_told_server s ≡ true → name_server s.addr.ip ≡ s
told_server s e =
    let a = and_parts (s.addr.port == 53) _ e in
    let b = and_parts (not (is_tcp s.transport)) _ a.1 in
    let c = and_parts (s.request_timeout == 2000000) _ b.1 in
    let d = and_parts (s.recv_size == 1232) (s.udp_payload_size == 1232) c.1 in
    let port : 53 ≡ s.addr.port = sym (eqb-true _ _ a.0) in
    let transport : UdpTcp ≡ s.transport = udp_tcp s.transport b.0 in
    let time : 2000000 ≡ s.request_timeout = sym (eqb-true _ _ c.0) in
    let size : 1232 ≡ s.recv_size = sym (eqb-true _ _ d.0) in
    let payload : 1232 ≡ s.udp_payload_size = sym (eqb-true _ _ d.1) in
    λ i. record { addr = record { ip = s.addr.ip; port = port i }; transport = transport i; request_timeout = time i; recv_size = size i; udp_payload_size = payload i }

abbrev pub conf_with : List ServerConf → ResolvOptions → ResolvConf
conf_with servers options = record { servers = servers; options = options }

-- a line of a configuration is taken as what it says
conf_line_taken : (text : List ℕ) (conf next : ResolvConf) (st : Settings) (ws : List ℕ) → IsPlain text → LineGives text conf (takes next) → TakesLines ((codes "conf" ++ 32 ∷ text) ∷ []) (reader_at conf st ws) (reader_at next st ws)
conf_line_taken text conf next st ws plain given =
    takes_one (codes "conf" ++ 32 ∷ text) (reader_at conf st ws) (reader_at next st ws)
    (takes_named (codes "conf") text (reader_at conf st ws) (reader_at next st ws) (word_above (codes "conf") (word_text (codes "conf") refl)) (not_skipped 99 (codes "onf" ++ 32 ∷ text) refl)
    (plain_append (codes "conf ") text (plain_text (codes "conf ") refl) plain)
    (record { early = refl; conf = next; taken = given; after = refl }))

server_plain : (ip : IpAddr) → IsAddress ip → IsPlain (codes "nameserver " ++ address_text ip)
server_plain ip h = plain_append (codes "nameserver") (32 ∷ address_text ip) (word_plain (codes "nameserver") (word_text (codes "nameserver") refl)) ((omega arith, omega arith), word_plain (address_text ip) (address_is_word ip h))

servers_taken : (servers before : List ServerConf) (o : ResolvOptions) (st : Settings) (ws : List ℕ) → list_all is_told_server servers ≡ true → AreAddresses servers
    → TakesLines (map server_line servers) (reader_at (conf_with before o) st ws) (reader_at (conf_with (before ++ servers) o) st ws)
servers_taken [] before o st ws told addresses = ap (λ ss. reader_at (conf_with ss o) st ws) (append-nil before)
servers_taken (s ∷ ss) before o st ws told addresses =
    let both = and_parts (is_told_server s) (list_all is_told_server ss) told in
    let next : ResolvConf = conf_with (before ++ s ∷ []) o in
    let given : LineGives (codes "nameserver " ++ address_text s.addr.ip) (conf_with before o) (takes next) =
    subst (λ (server : ServerConf). LineGives (codes "nameserver " ++ address_text s.addr.ip) (conf_with before o) (takes (conf_with (before ++ server ∷ []) o))) (told_server s both.0)
    (server_given (address_text s.addr.ip) s.addr.ip (conf_with before o) (printed s.addr.ip addresses.0) (address_is_word s.addr.ip addresses.0)) in
    takes_more (server_line s ∷ []) (map server_line ss) (reader_at (conf_with before o) st ws) (reader_at next st ws) (reader_at (conf_with (before ++ s ∷ ss) o) st ws)
    (conf_line_taken (codes "nameserver " ++ address_text s.addr.ip) (conf_with before o) next st ws (server_plain s.addr.ip addresses.0) given)
    (subst (λ all. TakesLines (map server_line ss) (reader_at next st ws) (reader_at (conf_with all o) st ws)) (append_assoc before (s ∷ []) ss) (servers_taken ss (before ++ s ∷ []) o st ws both.1 addresses.1))

whole_seconds : (t : ℕ) → is_whole t ≡ true → t / 1000000 * 1000000 ≡ t
whole_seconds t e = let none = eqb-true (t % 1000000) 0 e in omega arith

abbrev with_timeout : ℕ → ResolvOptions
with_timeout t = record default_options { timeout = t }

timeout_taken : (t : ℕ) (servers : List ServerConf) (st : Settings) (ws : List ℕ) → is_whole t ≡ true → t / 1000000 < 2 ^ 64
    → TakesLines (timeout_lines t) (reader_at (conf_with servers default_options) st ws) (reader_at (conf_with servers (with_timeout t)) st ws)
timeout_taken t servers st ws is small = go (t == 5000000) refl
  where
    go : (b : Bool) → (t == 5000000) ≡ b → TakesLines (shown (not b) (codes "conf options timeout:" ++ decimal (t / 1000000))) (reader_at (conf_with servers default_options) st ws) (reader_at (conf_with servers (with_timeout t)) st ws)
    go true e = ap (λ x. reader_at (conf_with servers (with_timeout x)) st ws) (eqb-true t 5000000 e)
    go false e =
        conf_line_taken (codes "options timeout:" ++ decimal (t / 1000000)) (conf_with servers default_options) (conf_with servers (with_timeout t)) st ws
        (plain_append (codes "options ") (codes "timeout:" ++ decimal (t / 1000000)) (plain_append (codes "options") (32 ∷ []) (word_plain (codes "options") (word_text (codes "options") refl)) ((omega arith, omega arith), tt)) (word_plain (codes "timeout:" ++ decimal (t / 1000000)) (word_append (codes "timeout:") (decimal (t / 1000000)) (word_text (codes "timeout:") refl) (decimal_word (t / 1000000) small))))
        (subst (λ x. LineGives (codes "options timeout:" ++ decimal (t / 1000000)) (conf_with servers default_options) (takes (conf_with servers (with_timeout x)))) (whole_seconds t is) (timeout_given (t / 1000000) (conf_with servers default_options) small))

abbrev with_both : ℕ → Bool → ResolvOptions
with_both t use_vc = record default_options { timeout = t; use_vc = use_vc }

use_vc_taken : (t : ℕ) (v : Bool) (servers : List ServerConf) (st : Settings) (ws : List ℕ)
    → TakesLines (shown v (codes "conf options use-vc")) (reader_at (conf_with servers (with_timeout t)) st ws) (reader_at (conf_with servers (with_both t v)) st ws)
use_vc_taken t false servers st ws = refl
use_vc_taken t true servers st ws =
    conf_line_taken (codes "options use-vc") (conf_with servers (with_timeout t)) (conf_with servers (with_both t true)) st ws
    (plain_append (codes "options") (32 ∷ codes "use-vc") (word_plain (codes "options") (word_text (codes "options") refl)) ((omega arith, omega arith), word_plain (codes "use-vc") (word_text (codes "use-vc") refl)))
    (use_vc_given (conf_with servers (with_timeout t)))

off : (b : Bool) → not b ≡ true → false ≡ b
off false e = refl
off true e = absurd cc

-- the options of a script that can be told are the defaults but for two
pub told_options : (o : ResolvOptions) → are_told_options o ≡ true → with_both o.timeout o.use_vc ≡ o
told_options o e =
    let w = and_parts (is_whole o.timeout) _ e in
    let x = and_parts (are_counts_default o) _ w.1 in
    let y = and_parts (are_first_flags_default o) (are_last_flags_default o) x.1 in
    let c0 = and_parts (length o.search == 0) _ x.0 in
    let c1 = and_parts (o.ndots == 1) (o.attempts == 2) c0.1 in
    let f0 = and_parts (not o.aa_only) _ y.0 in
    let f1 = and_parts (not o.primary) _ f0.1 in
    let f2 = and_parts o.recurse _ f1.1 in
    let f3 = and_parts o.default_names _ f2.1 in
    let f4 = and_parts (not o.stay_open) _ f3.1 in
    let f5 = and_parts o.dn_search _ f4.1 in
    let f6 = and_parts (not o.use_inet6) _ f5.1 in
    let f7 = and_parts (not o.rotate) (not o.no_check_name) f6.1 in
    let g0 = and_parts (not o.keep_tsig) _ y.1 in
    let g1 = and_parts (not o.blast) _ g0.1 in
    let g2 = and_parts (not o.use_bstring) _ g1.1 in
    let g3 = and_parts (not o.use_ip6dotint) _ g2.1 in
    let g4 = and_parts (not o.use_edns0) _ g3.1 in
    let g5 = and_parts (not o.single_request) _ g4.1 in
    let g6 = and_parts (not o.single_request_reopen) (not o.no_tld_query) g5.1 in
    let search : [] ≡ o.search = sym (none_of o.search c0.0) in
    let ndots : 1 ≡ o.ndots = sym (eqb-true _ _ c1.0) in
    let attempts : 2 ≡ o.attempts = sym (eqb-true _ _ c1.1) in
    λ i. record {
      search = search i;
      ndots = ndots i;
      timeout = o.timeout;
      attempts = attempts i;
      aa_only = off o.aa_only f0.0 i;
      use_vc = o.use_vc;
      primary = off o.primary f1.0 i;
      recurse = sym f2.0 i;
      default_names = sym f3.0 i;
      stay_open = off o.stay_open f4.0 i;
      dn_search = sym f5.0 i;
      use_inet6 = off o.use_inet6 f6.0 i;
      rotate = off o.rotate f7.0 i;
      no_check_name = off o.no_check_name f7.1 i;
      keep_tsig = off o.keep_tsig g0.0 i;
      blast = off o.blast g1.0 i;
      use_bstring = off o.use_bstring g2.0 i;
      use_ip6dotint = off o.use_ip6dotint g3.0 i;
      use_edns0 = off o.use_edns0 g4.0 i;
      single_request = off o.single_request g5.0 i;
      single_request_reopen = off o.single_request_reopen g6.0 i;
      no_tld_query = off o.no_tld_query g6.1 i;
    }
  where
    none_of : {X : Type 0} (xs : List X) → (length xs == 0) ≡ true → xs ≡ []
    none_of [] e = refl
    none_of (x ∷ xs) e = absurd (omega (arith, eqb-true (length (x ∷ xs)) 0 e))

-- the lines of a configuration that can be told are taken as it
pub conf_taken : (conf : ResolvConf) (st : Settings) (ws : List ℕ) → list_all is_told_server conf.servers ≡ true → are_told_options conf.options ≡ true → AreAddresses conf.servers → conf.options.timeout / 1000000 < 2 ^ 64
    → TakesLines (conf_lines conf) (reader_at (conf_with [] default_options) st ws) (reader_at conf st ws)
conf_taken conf st ws told options addresses small =
    let t : ℕ = conf.options.timeout in
    let whole = and_parts (is_whole t) _ options in
    let last : reader_at (conf_with conf.servers (with_both t conf.options.use_vc)) st ws ≡ reader_at conf st ws = ap (λ o. reader_at (conf_with conf.servers o) st ws) (told_options conf.options options) in
    subst (λ r. TakesLines (conf_lines conf) (reader_at (conf_with [] default_options) st ws) r) last
    (takes_more (map server_line conf.servers) (option_lines conf.options) (reader_at (conf_with [] default_options) st ws) (reader_at (conf_with conf.servers default_options) st ws) (reader_at (conf_with conf.servers (with_both t conf.options.use_vc)) st ws)
    (servers_taken conf.servers [] default_options st ws told addresses)
    (takes_more (timeout_lines t) (shown conf.options.use_vc (codes "conf options use-vc")) (reader_at (conf_with conf.servers default_options) st ws) (reader_at (conf_with conf.servers (with_timeout t)) st ws) (reader_at (conf_with conf.servers (with_both t conf.options.use_vc)) st ws)
    (timeout_taken t conf.servers st ws whole.0 small)
    (use_vc_taken t conf.options.use_vc conf.servers st ws)))
