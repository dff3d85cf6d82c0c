-- What requests do to the table, in the words of `proof_right`'s machine.
use Rattle.std.specs.Prelude.{◌≡◌, ℕ, List}
use Rattle.client_settings.specs.Settings.{CacheSettings}
use Rattle.lru.specs.LruCache.{lru_cache}
use Rattle.proof_right.specs.machine.Cache.{Op, AskDoes, after_ops}
use Rattle.cache_rules.specs.Key.{same_key}
use Rattle.client_cache.specs.Keeping.{Entry, Table, Asked, Found, looks_up}

-- an asking uses and stores what the machine's does, and that is what is left
abbrev pub Does : Asked → Table → Found → Type 0
Does a t x =
    (ops : List (Op Entry)) × (AskDoes same_key a.key t.entries ops) × (x.table ≡ lru_cache (after_ops same_key t.cap ops t.entries) t.cap)

-- Looking up is an asking of that machine: the first entry of the keys that are tried is used, and what is derived from it is stored.
abbrev pub LookUpsAreAskings : Type 0
LookUpsAreAskings = (s : CacheSettings) (a : Asked) (now : ℕ) (t : Table) → Does a t (looks_up s a now t)
