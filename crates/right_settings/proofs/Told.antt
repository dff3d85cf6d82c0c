-- Every client's settings are those of a configuration.
use Rattle.std.proofs.Common.{◌≡◌, ◌<◌, ◌≤◌, ℕ, suc, Bool, true, false, nat_lt, if◌then◌else◌, refl, sym, ap, ◌∙◌, arith}
use Rattle.std.specs.Prelude.{Option, Some, None}
use Rattle.std.proofs.lemmas.Bool.Decides.{nat_tests}
use Rattle.client_settings.specs.Client.{AreLimited}
use Rattle.client_settings.specs.Dgram.{IsSize}
use Rattle.client_settings.specs.declared.settings.Transports.{Transports}
use Rattle.right_settings.specs.Given.{AreGiven, above, sized, told}
use Rattle.right_trace.specs.Trace.{Conf}
use Rattle.right_trace.specs.Time.{read_timeout, response_timeout, idle_timeout, stream_timeout, max_places, recv_size}

chosen : {A : Type 0} (b : Bool) (x y : A) → b ≡ true → (if b then x else y) ≡ x
chosen true x y e = refl
chosen false x y e = absurd cc

less : (m n : ℕ) → suc m ≤ n → nat_lt m n ≡ true
less m n h = grind (arith, nat_tests)

pub above_same : (m n : ℕ) → suc m ≤ n → n ≡ above m n
above_same m n h = sym (chosen (nat_lt m n) n (suc m) (less m n h))

pub sized_same : (size : Option ℕ) → IsSize size → size ≡ sized size
sized_same None h = refl
sized_same (Some n) h = sym (chosen (nat_lt n 65536) (Some n) None (less n 65536 h))

-- the configuration with what it is told of a client's settings
pub settings_given : (c : Conf) (t : Transports) → AreLimited t → AreGiven (record c { transports = told t }) t
unfolding read_timeout response_timeout idle_timeout stream_timeout max_places recv_size
settings_given c t h =
    let places : t.dgram.max_parallel ≡ above 0 t.dgram.max_parallel = above_same 0 t.dgram.max_parallel h.0.0 in
    let reads : t.dgram.read_timeout ≡ above 999 t.dgram.read_timeout = above_same 999 t.dgram.read_timeout h.0.1 in
    let size : t.dgram.udp_payload_size ≡ sized t.dgram.udp_payload_size = sized_same t.dgram.udp_payload_size h.0.2 in
    let waits : t.multi_stream.response_timeout ≡ above 999 t.multi_stream.response_timeout = above_same 999 t.multi_stream.response_timeout h.1.0 in
    let answers : t.multi_stream.stream.response_timeout ≡ above 999 t.multi_stream.stream.response_timeout = above_same 999 t.multi_stream.stream.response_timeout h.1.1 in (
      λ i. record t.dgram { max_parallel = places i; read_timeout = reads i; udp_payload_size = size i },
      λ i. record t.multi_stream { response_timeout = waits i; stream = record t.multi_stream.stream { response_timeout = answers i } },
    )
