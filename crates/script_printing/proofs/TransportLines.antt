-- The lines of settings of transports are taken as them.
use Rattle.std.proofs.Common.{◌≡◌, ◌<◌, ◌≤◌, ◌*◌, ◌/◌, ◌%◌, ◌^◌, ◌==◌, ℕ, Bool, true, false, not, ◌&&◌, nat_le, List, [], ◌∷◌, ◌++◌, Option, Some, None, refl, subst, sym, ap, ◌∙◌, arith, codes, decimal}
use Rattle.std.specs.List.{join_with_byte}
use Rattle.std.specs.Ordering.{nat_cmp}
use Rattle.std.specs.Str.{bytes_eq}
use Rattle.std.proofs.lemmas.Bool.{and_parts, eqb-true, leb-true}
use Rattle.std.proofs.lemmas.Slice.Eq.{bytes_eq-Decides}
use Rattle.client_request.specs.Limits.{limited}
use Rattle.client_settings.specs.Client.{default_transports}
use Rattle.client_settings.specs.Dgram as dgram
use Rattle.client_settings.specs.MultiStream as multi_stream
use Rattle.client_settings.specs.Settings.{CacheSettings, RedundantSettings}
use Rattle.client_settings.specs.declared.settings.Transports.{Transports}
use Rattle.resolv_conf.specs.declared.conf.ResolvConf.{ResolvConf}
use Rattle.dns_values.specs.Decimal.{decimal_number}
use Rattle.dns_script.specs.Reading.{number_of}
use Rattle.dns_script.specs.ScriptReading.{TakesLines}
use Rattle.dns_script.specs.Settings.{milliseconds, sets, size_of}
use Rattle.dns_script.proofs.Decimals.{decimal_is_number}
use Rattle.script_printing.specs.CanBeTold.{AreSizesInRange, are_told_dgrams, are_told_streams, are_told_transports, is_told_wait}
use Rattle.script_printing.specs.Texts.{count_lines, dgram_lines, number_line, shown, size_line, stream_lines, transport_lines, wait_line}
use Rattle.script_printing.proofs.Lines.{Settings, reader_at, takes_more}
use Rattle.script_printing.proofs.Plain.{IsWord, decimal_word, word_text}
use Rattle.script_printing.proofs.SettingLines.{limited_is, setting_taken}

-- a time within its limits, of whole thousandths of a second, stays as it is
wait_is : (l g v : ℕ) → is_told_wait l g v ≡ true → limited nat_cmp l g (milliseconds (v / 1000)) ≡ v
wait_is l g v told =
    let a = and_parts (v % 1000 == 0) (nat_le l v && nat_le v g) told in
    let b = and_parts (nat_le l v) (nat_le v g) a.1 in
    let whole : milliseconds (v / 1000) ≡ v = (let none = eqb-true (v % 1000) 0 a.0 in omega arith) in
    ap (limited nat_cmp l g) whole ∙ limited_is l g v (leb-true _ _ b.0) (leb-true _ _ b.1)

-- and its thousandths are a number of 64 bits
pub wait_fits : (l g v : ℕ) → g < 2 ^ 32 → is_told_wait l g v ≡ true → v / 1000 < 2 ^ 64
wait_fits l g v small told =
    let a = and_parts (v % 1000 == 0) (nat_le l v && nat_le v g) told in
    let b = and_parts (nat_le l v) (nat_le v g) a.1 in
    let high = leb-true v g b.1 in omega arith

number_back : (g n : ℕ) → g < 2 ^ 64 → n ≤ g → number_of g (decimal n) ≡ Some n
number_back g n wide fits = decimal_is_number g n wide fits

no_number : number_of 65535 (codes "none") ≡ None
unfolding number_of decimal_number
no_number = refl

-- a number is not the word that says that there is none
not_none : (n : ℕ) → n < 65536 → bytes_eq (decimal n) (codes "none") ≡ false
not_none n small = go (bytes_eq (decimal n) (codes "none")) refl
  where
    go : (b : Bool) → bytes_eq (decimal n) (codes "none") ≡ b → b ≡ false
    go false e = refl
    go true e = absurd (let z : Some n ≡ None = sym (number_back 65535 n (omega arith) (omega arith)) ∙ (ap (number_of 65535) ((bytes_eq-Decides (decimal n) (codes "none")).0 e) ∙ no_number) in cc)

size_back : (n : ℕ) → n < 65536 → size_of (decimal n) ≡ Some (Some n)
size_back n small = rw (not_none n small, number_back 65535 n (omega arith) (omega arith)) refl

module _ (conf : ResolvConf) (ws : List ℕ) where
  number_taken : (name : List ℕ) (def n : ℕ) (before after : Settings) → IsWord name → n < 2 ^ 64 → (n ≡ def → after ≡ before) → sets (name ∷ decimal n ∷ []) before ≡ Some after
      → TakesLines (number_line name def n) (reader_at conf before ws) (reader_at conf after ws)
  number_taken name def n before after word small same set = go (n == def) refl
    where
      go : (b : Bool) → (n == def) ≡ b → TakesLines (shown (not b) (join_with_byte 32 (codes "set" ∷ name ∷ decimal n ∷ []))) (reader_at conf before ws) (reader_at conf after ws)
      go true e = ap (λ s. reader_at conf s ws) (same (eqb-true n def e))
      go false e = setting_taken name (decimal n) conf before after ws word (decimal_word n small) set

  wait_taken : (name : List ℕ) (def v : ℕ) (before after : Settings) → IsWord name → v / 1000 < 2 ^ 64 → (v ≡ def * 1000 → after ≡ before) → sets (name ∷ decimal (v / 1000) ∷ []) before ≡ Some after
      → TakesLines (wait_line name def v) (reader_at conf before ws) (reader_at conf after ws)
  wait_taken name def v before after word small same set = go (v == def * 1000) refl
    where
      go : (b : Bool) → (v == def * 1000) ≡ b → TakesLines (shown (not b) (join_with_byte 32 (codes "set" ∷ name ∷ decimal (v / 1000) ∷ []))) (reader_at conf before ws) (reader_at conf after ws)
      go true e = ap (λ s. reader_at conf s ws) (same (eqb-true v (def * 1000) e))
      go false e = setting_taken name (decimal (v / 1000)) conf before after ws word (decimal_word (v / 1000) small) set

  module _ (r : RedundantSettings) (c : CacheSettings) where
    -- the settings with these of transports
    abbrev at : dgram.Settings → multi_stream.Settings → Settings
    at d m = record { redundant = r; cache = c; transports = record { dgram = d; multi_stream = m } }

    -- of datagrams
    module _ (d : dgram.Settings) (m : multi_stream.Settings) where
      max_parallel : (n : ℕ) → d.max_parallel ≡ 100 → (nat_le 1 n && nat_le n 1000) ≡ true → TakesLines (number_line (codes "dgram-max-parallel") 100 n) (reader_at conf (at d m) ws) (reader_at conf (at (record d { max_parallel = n }) m) ws)
      max_parallel n def told =
          let parts = and_parts (nat_le 1 n) (nat_le n 1000) told in
          let high = leb-true n 1000 parts.1 in
          let is : limited nat_cmp 1 1000 n ≡ n = limited_is 1 1000 n (leb-true _ _ parts.0) high in
          number_taken (codes "dgram-max-parallel") 100 n (at d m) (at (record d { max_parallel = n }) m) (word_text (codes "dgram-max-parallel") refl) (omega arith)
          (λ e. ap (λ x. at (record d { max_parallel = x }) m) (e ∙ sym def))
          (rw (number_back 18446744073709551615 n (omega arith) (omega arith)) (ap (λ x. Some (at (record d { max_parallel = x }) m)) is))

      max_retries : (n : ℕ) → d.max_retries ≡ 5 → nat_le n 100 ≡ true → TakesLines (number_line (codes "dgram-max-retries") 5 n) (reader_at conf (at d m) ws) (reader_at conf (at (record d { max_retries = n }) m) ws)
      max_retries n def told =
          let high = leb-true n 100 told in
          let is : limited nat_cmp 0 100 n ≡ n = limited_is 0 100 n (omega arith) high in
          number_taken (codes "dgram-max-retries") 5 n (at d m) (at (record d { max_retries = n }) m) (word_text (codes "dgram-max-retries") refl) (omega arith)
          (λ e. ap (λ x. at (record d { max_retries = x }) m) (e ∙ sym def))
          (rw (number_back 255 n (omega arith) (omega arith)) (ap (λ x. Some (at (record d { max_retries = x }) m)) is))

      recv_size : (n : ℕ) → d.recv_size ≡ 2000 → n < 2 ^ 64 → TakesLines (number_line (codes "dgram-recv-size") 2000 n) (reader_at conf (at d m) ws) (reader_at conf (at (record d { recv_size = n }) m) ws)
      recv_size n def small =
          number_taken (codes "dgram-recv-size") 2000 n (at d m) (at (record d { recv_size = n }) m) (word_text (codes "dgram-recv-size") refl) small
          (λ e. ap (λ x. at (record d { recv_size = x }) m) (e ∙ sym def))
          (rw (number_back 18446744073709551615 n (omega arith) (omega (arith, small))) refl)

      payload_size : (size : Option ℕ) → d.udp_payload_size ≡ Some 1232 → dgram.IsSize size → TakesLines (size_line size) (reader_at conf (at d m) ws) (reader_at conf (at (record d { udp_payload_size = size }) m) ws)
      payload_size None def small =
          setting_taken (codes "dgram-udp-payload-size") (codes "none") conf (at d m) (at (record d { udp_payload_size = None }) m) ws (word_text (codes "dgram-udp-payload-size") refl) (word_text (codes "none") refl) refl
      payload_size (Some n) def small =
          number_taken (codes "dgram-udp-payload-size") 1232 n (at d m) (at (record d { udp_payload_size = Some n }) m) (word_text (codes "dgram-udp-payload-size") refl) (omega (arith, small))
          (λ e. ap (λ x. at (record d { udp_payload_size = x }) m) (ap Some e ∙ sym def))
          (rw (size_back n small) refl)

      read_timeout : (v : ℕ) → d.read_timeout ≡ 5000000 → is_told_wait 1000 60000000 v ≡ true → TakesLines (wait_line (codes "dgram-read-timeout") 5000 v) (reader_at conf (at d m) ws) (reader_at conf (at (record d { read_timeout = v }) m) ws)
      read_timeout v def told =
          let small = wait_fits 1000 60000000 v (omega arith) told in
          wait_taken (codes "dgram-read-timeout") 5000 v (at d m) (at (record d { read_timeout = v }) m) (word_text (codes "dgram-read-timeout") refl) small
          (λ e. ap (λ x. at (record d { read_timeout = x }) m) (e ∙ sym def))
          (rw (number_back 18446744073709551615 (v / 1000) (omega arith) (omega arith)) (ap (λ x. Some (at (record d { read_timeout = x }) m)) (wait_is 1000 60000000 v told)))

      -- of streams
      frame : (v : ℕ) → m.stream.response_timeout ≡ 19000000 → m.stream.streaming_response_timeout ≡ 19000000 → is_told_wait 1000 600000000 v ≡ true
          → TakesLines (wait_line (codes "stream-response-timeout") 19000 v) (reader_at conf (at d m) ws) (reader_at conf (at d (record m { stream = record m.stream { response_timeout = v; streaming_response_timeout = v } })) ws)
      frame v def also told =
          let small = wait_fits 1000 600000000 v (omega arith) told in
          let after : ℕ → ℕ → Settings = λ x y. at d (record m { stream = record m.stream { response_timeout = x; streaming_response_timeout = y } }) in
          wait_taken (codes "stream-response-timeout") 19000 v (at d m) (after v v) (word_text (codes "stream-response-timeout") refl) small
          (λ e. ap (λ x. after x v) (e ∙ sym def) ∙ ap (λ y. after m.stream.response_timeout y) (e ∙ sym also))
          (rw (number_back 18446744073709551615 (v / 1000) (omega arith) (omega arith)) (ap (λ x. Some (after x x)) (wait_is 1000 600000000 v told)))

      idle : (v : ℕ) → m.stream.idle_timeout ≡ 10000000 → is_told_wait 0 3600000000 v ≡ true
          → TakesLines (wait_line (codes "stream-idle-timeout") 10000 v) (reader_at conf (at d m) ws) (reader_at conf (at d (record m { stream = record m.stream { idle_timeout = v } })) ws)
      idle v def told =
          let small = wait_fits 0 3600000000 v (omega arith) told in
          wait_taken (codes "stream-idle-timeout") 10000 v (at d m) (at d (record m { stream = record m.stream { idle_timeout = v } })) (word_text (codes "stream-idle-timeout") refl) small
          (λ e. ap (λ x. at d (record m { stream = record m.stream { idle_timeout = x } })) (e ∙ sym def))
          (rw (number_back 18446744073709551615 (v / 1000) (omega arith) (omega arith)) (ap (λ x. Some (at d (record m { stream = record m.stream { idle_timeout = x } }))) (wait_is 0 3600000000 v told)))

      request : (v : ℕ) → m.response_timeout ≡ 30000000 → is_told_wait 1000 600000000 v ≡ true
          → TakesLines (wait_line (codes "multi-stream-response-timeout") 30000 v) (reader_at conf (at d m) ws) (reader_at conf (at d (record m { response_timeout = v })) ws)
      request v def told =
          let small = wait_fits 1000 600000000 v (omega arith) told in
          wait_taken (codes "multi-stream-response-timeout") 30000 v (at d m) (at d (record m { response_timeout = v })) (word_text (codes "multi-stream-response-timeout") refl) small
          (λ e. ap (λ x. at d (record m { response_timeout = x })) (e ∙ sym def))
          (rw (number_back 18446744073709551615 (v / 1000) (omega arith) (omega arith)) (ap (λ x. Some (at d (record m { response_timeout = x }))) (wait_is 1000 600000000 v told)))

    dgrams_taken : (d : dgram.Settings) (m : multi_stream.Settings) → are_told_dgrams d ≡ true → AreSizesInRange d → TakesLines (dgram_lines d) (reader_at conf (at dgram.default_settings m) ws) (reader_at conf (at d m) ws)
    dgrams_taken d m told fit =
        let a = and_parts (nat_le 1 d.max_parallel && nat_le d.max_parallel 1000) _ told in
        let b = and_parts (nat_le d.max_retries 100) (is_told_wait 1000 60000000 d.read_timeout) a.1 in
        let d1 : dgram.Settings = record dgram.default_settings { max_parallel = d.max_parallel } in
        let d2 : dgram.Settings = record d1 { max_retries = d.max_retries } in
        let d3 : dgram.Settings = record d2 { recv_size = d.recv_size } in
        let d4 : dgram.Settings = record d3 { udp_payload_size = d.udp_payload_size } in
        let s : dgram.Settings → _ = λ x. reader_at conf (at x m) ws in
        takes_more (count_lines d) _ (s dgram.default_settings) (s d3) (s d)
        (takes_more (number_line (codes "dgram-max-parallel") 100 d.max_parallel) _ (s dgram.default_settings) (s d1) (s d3) (max_parallel dgram.default_settings m d.max_parallel refl a.0)
        (takes_more (number_line (codes "dgram-max-retries") 5 d.max_retries) _ (s d1) (s d2) (s d3) (max_retries d1 m d.max_retries refl b.0) (recv_size d2 m d.recv_size refl fit.0)))
        (takes_more (size_line d.udp_payload_size) _ (s d3) (s d4) (s d) (payload_size d3 m d.udp_payload_size refl fit.1) (read_timeout d4 m d.read_timeout refl b.1))

    streams_taken : (d : dgram.Settings) (m : multi_stream.Settings) → are_told_streams m ≡ true → TakesLines (stream_lines m) (reader_at conf (at d multi_stream.default_settings) ws) (reader_at conf (at d m) ws)
    streams_taken d m told =
        let a = and_parts (is_told_wait 1000 600000000 m.response_timeout) _ told in
        let b = and_parts (is_told_wait 1000 600000000 m.stream.response_timeout) _ a.1 in
        let e = and_parts (is_told_wait 0 3600000000 m.stream.idle_timeout) (m.stream.streaming_response_timeout == m.stream.response_timeout) b.1 in
        let start : multi_stream.Settings = multi_stream.default_settings in
        let m1 : multi_stream.Settings = record start { stream = record start.stream { response_timeout = m.stream.response_timeout; streaming_response_timeout = m.stream.response_timeout } } in
        let m2 : multi_stream.Settings = record m1 { stream = record m1.stream { idle_timeout = m.stream.idle_timeout } } in
        let m3 : multi_stream.Settings = record m { stream = record m.stream { streaming_response_timeout = m.stream.response_timeout } } in
        let same : m3 ≡ m = ap (λ x. record m { stream = record m.stream { streaming_response_timeout = x } }) (sym (eqb-true _ _ e.1)) in
        let s : multi_stream.Settings → _ = λ x. reader_at conf (at d x) ws in
        subst (λ x. TakesLines (stream_lines m) (s start) (s x)) same
        (takes_more (wait_line (codes "stream-response-timeout") 19000 m.stream.response_timeout) _ (s start) (s m1) (s m3) (frame d start m.stream.response_timeout refl refl b.0)
        (takes_more (wait_line (codes "stream-idle-timeout") 10000 m.stream.idle_timeout) _ (s m1) (s m2) (s m3) (idle d m1 m.stream.idle_timeout refl e.0) (request d m2 m.response_timeout refl a.0)))

    -- the lines of settings of transports that can be told are taken as these
    pub transports_taken : (t : Transports) → are_told_transports t ≡ true → AreSizesInRange t.dgram
        → TakesLines (transport_lines t) (reader_at conf (record { redundant = r; cache = c; transports = default_transports }) ws) (reader_at conf (record { redundant = r; cache = c; transports = t }) ws)
    transports_taken t told fit =
        let a = and_parts (are_told_dgrams t.dgram) (are_told_streams t.multi_stream) told in
        let start = dgram.default_settings in
        let none = multi_stream.default_settings in
        takes_more (dgram_lines t.dgram) (stream_lines t.multi_stream) (reader_at conf (at start none) ws) (reader_at conf (at t.dgram none) ws) (reader_at conf (at t.dgram t.multi_stream) ws)
        (dgrams_taken t.dgram none a.0 fit) (streams_taken t.dgram t.multi_stream a.1)
