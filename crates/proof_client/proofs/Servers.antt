-- The servers of a configuration, added one by one, are those that a choice among them begins with.
use Rattle.std.proofs.Common.{◌≡◌, ℕ, suc, ◌+◌, Bool, true, false, List, [], ◌∷◌, ◌++◌, length, map, Some, refl, sym, ap, ap₂, ◌∙◌, append_assoc, append-nil, add-one, arith}
use Rattle.client_request.specs.Request.{Request}
use Rattle.client_settings.specs.Settings.{CacheSettings, RedundantSettings}
use Rattle.client_choice.specs.Redundant.{started}
use Rattle.client_choice.specs.Servers.{Server, added}
use Rattle.right_trace.specs.Orderly.{use_at}
use Rattle.right_trace.specs.Trace.{Conf, Use}
use Rattle.proof_choice.specs.Whole.{servers_from, with_all}
use Rattle.client_steps.specs.Headline.{use_of}
use Rattle.client_steps.specs.Whole.{Servers, asks_by_streams, upstream_at, with_servers}
use Rattle.client_steps.specs.declared.upstream.Upstream.{Upstream}
use Rattle.resolv_conf.specs.declared.options.ResolvOptions.{ResolvOptions}
use Rattle.resolv_conf.specs.declared.server.ServerConf.{ServerConf}
use Rattle.client_settings.specs.declared.settings.Transports.{Transports}
use Rattle.client_multi.specs.DgramStream as dgram_stream
use Rattle.client_multi.specs.MultiStream as multi_stream
use Rattle.client_steps.specs.declared.upstream.Upstream.TheVariants as server
use Rattle.right_settings.specs.Given.{AreGiven}
use Rattle.proof_client.specs.Upstreams.{first_by, first_at}
use Rattle.proof_client.proofs.Joining.{choosing}

module _ (t : Transports) (options : ResolvOptions) where
  -- what is added for servers, numbered from n on
  abbrev added_from : (n : ℕ) → List ServerConf → List (Server (Upstream Request))
  added_from n [] = []
  added_from n (s ∷ ss) = added (upstream_at t n (asks_by_streams options s)) ∷ added_from (n + 1) ss

  abbrev behind : List (Server (Upstream Request)) → Servers → Servers
  behind more r = record r { choice = record r.choice { servers = r.choice.servers ++ more } }

  all_behind : (n : ℕ) (ss : List ServerConf) (r : Servers) → with_servers t n options ss r ≡ behind (added_from n ss) r
  all_behind n [] r = ap (λ (l : List (Server (Upstream Request))). record r { choice = record r.choice { servers = l } }) (sym (append-nil r.choice.servers))
  all_behind n (s ∷ ss) r =
      all_behind (n + 1) ss (behind (added (upstream_at t n (asks_by_streams options s)) ∷ []) r)
      ∙ ap (λ (l : List (Server (Upstream Request))). record r { choice = record r.choice { servers = l } }) (append_assoc r.choice.servers (added (upstream_at t n (asks_by_streams options s)) ∷ []) (added_from (n + 1) ss))

  abbrev uses : List ServerConf → List Use
  uses ss = map (λ s. use_of (asks_by_streams options s)) ss

  -- the time for messages of transfers
  abbrev several : ℕ
  several = t.multi_stream.stream.streaming_response_timeout

  begins_so : (c : Conf) → AreGiven c t → (n : ℕ) (b : Bool) → first_by several c n (Some (use_of b)) ≡ upstream_at t n b
  begins_so c given n true = ap (λ m. server.Stream (multi_stream.started n m)) (sym given.1)
  begins_so c given n false = ap₂ (λ d m. server.DgramStream (dgram_stream.started n (record { dgram = d; stream = m }))) (sym given.0) (sym given.1)

  module _ (c : Conf) (given : AreGiven c t) (redundant : RedundantSettings) (cache : CacheSettings) where
    same_servers : (n : ℕ) (ss : List ServerConf) → ((i : ℕ) → use_at (n + i) c.servers ≡ use_at i (uses ss)) → servers_from (choosing several c redundant cache) n (length (uses ss)) ≡ added_from n ss
    same_servers n [] same = refl
    same_servers n (s ∷ ss) same = ap₂ (λ (u : Upstream Request) (more : List (Server (Upstream Request))). added u ∷ more) first (from ∙ same_servers (n + 1) ss rest)
      where
        first : first_at c several n ≡ upstream_at t n (asks_by_streams options s)
        first = ap (first_by several c n) (ap (λ m. use_at m c.servers) (nought n) ∙ same 0) ∙ begins_so c given n (asks_by_streams options s)
          where
            nought : (n : ℕ) → n ≡ n + 0
            nought n = omega arith

        from : servers_from (choosing several c redundant cache) (suc n) (length (uses ss)) ≡ servers_from (choosing several c redundant cache) (n + 1) (length (uses ss))
        from = ap (λ m. servers_from (choosing several c redundant cache) m (length (uses ss))) (sym (add-one n))

        rest : (i : ℕ) → use_at (n + 1 + i) c.servers ≡ use_at i (uses ss)
        rest i = ap (λ m. use_at m c.servers) (shifted n i) ∙ same (suc i)
          where
            shifted : (n i : ℕ) → n + 1 + i ≡ n + suc i
            shifted n i = omega arith

    pub all_begin : (ss : List ServerConf) → c.servers ≡ uses ss → with_servers t 0 options ss (started redundant) ≡ with_all (choosing several c redundant cache)
    all_begin ss e =
        all_behind 0 ss (started redundant)
        ∙ ap (λ (l : List (Server (Upstream Request))). record (started redundant) { choice = record { servers = l; jobs = []; timers = [] } })
        (sym (ap (λ us. servers_from (choosing several c redundant cache) 0 (length us)) e ∙ same_servers 0 ss (λ i. ap (λ m. use_at m c.servers) (from_nought i) ∙ ap (λ us. use_at i us) e)))
      where
        from_nought : (i : ℕ) → 0 + i ≡ i
        from_nought i = omega arith
