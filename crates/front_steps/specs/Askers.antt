-- Queries that wait.
use Rattle.std.specs.Prelude.{ℕ, List}
use Rattle.std.specs.List.{count_by}
use Rattle.front_peers.specs.declared.items.Asker.{Asker}

-- how many came by streams
abbrev pub count_by_streams : List Asker → ℕ
count_by_streams askers = count_by (λ asker. asker.by_stream) askers
