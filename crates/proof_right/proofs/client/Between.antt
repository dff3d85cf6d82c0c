-- What the cache does between two moments, with one thing more at its end.
use Rattle.std.proofs.Common.{◌≡◌, ℕ, ◌+◌, Bool, false, List}
use Rattle.lru.specs.LruCache.{lru_cache, put_entries}
use Rattle.right_trace.specs.Keys.{Key}
use Rattle.proof_right.specs.machine.Cache.{Op, AskDoes, after_ops, Between, Ended, Asked, Replied, RepliedUnstored}
use Rattle.proof_right.specs.machine.Exact.{Value}

module _ (eq : Key → Key → Bool) (cap : ℕ) where
  pub snoc_ask : (k own : Key) (a b : ℕ) (es fs : List (Key × Value)) (os : List (Op Value)) → Between eq cap k a b es fs → AskDoes eq own fs os → Between eq cap k (a + 1) b es (after_ops eq cap os fs)
  snoc_ask k own _ _ _ _ os (Ended es) does = Asked own os 0 0 es (after_ops eq cap os es) does (Ended (after_ops eq cap os es))
  snoc_ask k own _ _ _ _ os (Asked o' os' n m es fs d rest) does = Asked o' os' (n + 1) m es (after_ops eq cap os fs) d (snoc_ask k own n m (after_ops eq cap os' es) fs os rest does)
  snoc_ask k own _ _ _ _ os (Replied j v n m es fs ne rest) does = Replied j v (n + 1) m es (after_ops eq cap os fs) ne (snoc_ask k own n m (put_entries eq (lru_cache es cap) j v) fs os rest does)
  snoc_ask k own _ _ _ _ os (RepliedUnstored n m es fs rest) does = RepliedUnstored (n + 1) m es (after_ops eq cap os fs) (snoc_ask k own n m es fs os rest does)

  pub snoc_store : (k j : Key) (v : Value) (a b : ℕ) (es fs : List (Key × Value)) → Between eq cap k a b es fs → eq k j ≡ false → Between eq cap k a (b + 1) es (put_entries eq (lru_cache fs cap) j v)
  snoc_store k j v _ _ _ _ (Ended es) ne = Replied j v 0 0 es (put_entries eq (lru_cache es cap) j v) ne (Ended (put_entries eq (lru_cache es cap) j v))
  snoc_store k j v _ _ _ _ (Asked o' os' n m es fs d rest) ne = Asked o' os' n (m + 1) es (put_entries eq (lru_cache fs cap) j v) d (snoc_store k j v n m (after_ops eq cap os' es) fs rest ne)
  snoc_store k j v _ _ _ _ (Replied i u n m es fs d rest) ne = Replied i u n (m + 1) es (put_entries eq (lru_cache fs cap) j v) d (snoc_store k j v n m (put_entries eq (lru_cache es cap) i u) fs rest ne)
  snoc_store k j v _ _ _ _ (RepliedUnstored n m es fs rest) ne = RepliedUnstored n (m + 1) es (put_entries eq (lru_cache fs cap) j v) (snoc_store k j v n m es fs rest ne)
