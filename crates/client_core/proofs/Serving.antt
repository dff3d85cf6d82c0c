-- Servers that are added one by one.
use Rattle.std.proofs.Common.{◌≡◌, ℕ, suc, ◌+◌, ◌<◌, ◌≤◌, Bool, true, false, ◌||◌, List, [], ◌∷◌, ◌++◌, length, drop, get_or, refl, ap, sym, ◌∙◌, add-one}
use Rattle.std.proofs.Math.Seq.{drop-cons}
use Rattle.std.proofs.lemmas.List.{drop_all}
use Rattle.std.specs.List.{list_any}
use Rattle.client_choice.specs.Redundant as redundant
use Rattle.client_choice.specs.Redundant.{started}
use Rattle.client_choice.specs.Servers.{Server, added, flags}
use Rattle.client_request.specs.Request.{Request}
use Rattle.client_settings.specs.Settings.{RedundantSettings}
use Rattle.client_settings.specs.declared.settings.Transports.{Transports}
use Rattle.client_steps.specs.Upstream as upstream
use Rattle.client_steps.specs.Whole.{Servers, and_server, asks_by_streams, servers_of, upstream_at, with_servers}
use Rattle.client_steps.specs.declared.upstream.Upstream.{Upstream}
use Rattle.resolv_conf.specs.declared.options.ResolvOptions.{ResolvOptions}
use Rattle.resolv_conf.specs.declared.server.ServerConf.{ServerConf}

next_of : (ss : List ServerConf) (i : ℕ) (s : ServerConf) → i < length ss → s ≡ get_or ss i s → drop i ss ≡ s ∷ drop (i + 1) ss
next_of ss i s h is = let a : i + 1 ≡ suc i = add-one i in let b = drop-cons ss i s h in cc

-- a server of a list is added, and those behind it are left
pub one_added : (t : Transports) (options : ResolvOptions) (ss : List ServerConf) (i : ℕ) (s : ServerConf) (r r' all : Servers) → i < length ss → s ≡ get_or ss i s → r' ≡ and_server t i (asks_by_streams options s) r → with_servers t i options (drop i ss) r ≡ all → with_servers t (i + 1) options (drop (i + 1) ss) r' ≡ all
one_added t options ss i s r r' all h is added so_far =
    ap (λ (x : Servers). with_servers t (i + 1) options (drop (i + 1) ss) x) added
    ∙ ap (λ (rest : List ServerConf). with_servers t i options rest r) (sym (next_of ss i s h is))
    ∙ so_far

-- none is left
pub all_added : (t : Transports) (options : ResolvOptions) (ss : List ServerConf) (i : ℕ) (r all : Servers) → length ss ≤ i → with_servers t i options (drop i ss) r ≡ all → r ≡ all
all_added t options ss i r all le so_far = ap (λ (rest : List ServerConf). with_servers t i options rest r) (sym (drop_all i ss le)) ∙ so_far

-- no transport has given up

abbrev failing : Servers → Bool
failing r = redundant.holds_failed upstream.holds_failed r

any_behind : (bs : List Bool) (b : Bool) → list_any (λ b. b) bs ≡ false → b ≡ false → list_any (λ b. b) (bs ++ b ∷ []) ≡ false
any_behind [] b none last = ap (λ b. b || false) last
any_behind (true ∷ bs) b none last = absurd (let z : true ≡ false = none in cc)
any_behind (false ∷ bs) b none last = any_behind bs b none last

flags_behind : (ss : List (Server (Upstream Request))) (s : Server (Upstream Request)) → flags upstream.holds_failed (ss ++ s ∷ []) ≡ flags upstream.holds_failed ss ++ upstream.holds_failed s.upstream ∷ []
flags_behind [] s = refl
flags_behind (x ∷ ss) s = ap (λ bs. upstream.holds_failed x.upstream ∷ bs) (flags_behind ss s)

fresh : (t : Transports) (n : ℕ) (b : Bool) → upstream.holds_failed (upstream_at t n b) ≡ false
fresh t n true = refl
fresh t n false = refl

one_works : (t : Transports) (n : ℕ) (b : Bool) (r : Servers) → failing r ≡ false → failing (and_server t n b r) ≡ false
one_works t n b r works = by r.failed refl
  where
    both : (x y : Bool) → (x || y) ≡ false → (x ≡ false) × (y ≡ false)
    both true y e = absurd (let z : true ≡ false = e in cc)
    both false y e = (refl, e)

    last : list_any (λ b. b) (flags upstream.holds_failed (r.choice.servers ++ added (upstream_at t n b) ∷ [])) ≡ false
    last = ap (list_any (λ b. b)) (flags_behind r.choice.servers (added (upstream_at t n b))) ∙ any_behind (flags upstream.holds_failed r.choice.servers) (upstream.holds_failed (upstream_at t n b)) (both r.failed (list_any (λ b. b) (flags upstream.holds_failed r.choice.servers)) works).1 (fresh t n b)

    by : (x : Bool) → r.failed ≡ x → (r.failed || list_any (λ b. b) (flags upstream.holds_failed (r.choice.servers ++ added (upstream_at t n b) ∷ []))) ≡ false
    by x e = ap (λ y. y || list_any (λ b. b) (flags upstream.holds_failed (r.choice.servers ++ added (upstream_at t n b) ∷ []))) (both r.failed (list_any (λ b. b) (flags upstream.holds_failed r.choice.servers)) works).0 ∙ last

all_work : (t : Transports) (n : ℕ) (options : ResolvOptions) (ss : List ServerConf) (r : Servers) → failing r ≡ false → failing (with_servers t n options ss r) ≡ false
all_work t n options [] r works = works
all_work t n options (s ∷ ss) r works = all_work t (n + 1) options ss (and_server t n (asks_by_streams options s) r) (one_works t n (asks_by_streams options s) r works)

pub none_failed : (t : Transports) (settings : RedundantSettings) (options : ResolvOptions) (ss : List ServerConf) → redundant.holds_failed upstream.holds_failed (servers_of t settings options ss) ≡ false
none_failed t settings options ss = all_work t 0 options ss (started settings) refl
