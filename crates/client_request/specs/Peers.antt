-- The numbers of peers that ask a server.
use Rattle.std.specs.Prelude.{ℕ}

-- streams have this number and those behind it, datagrams those below it
abbrev pub first_stream : ℕ
first_stream = 4611686018427387904
