-- The configuration that a text is, why one is none, and the servers at a port.
use Rattle.std.specs.Prelude.{◌≡◌, ◌<◌, ◌≤◌, ℕ, List, [], ◌++◌, length, map, Option, None, Some, Ok, Err, codes}
use Rattle.std.specs.Fmt.{decimal}
use Rattle.resolv_conf.specs.Conf.{default_options}
use Rattle.resolv_conf.specs.Final.{finalized}
use Rattle.resolv_conf.specs.Parse.{ParseAnswers}
use Rattle.resolv_conf.specs.declared.conf.ResolvConf.{ResolvConf}
use Rattle.resolv_conf.specs.declared.error.Error.TheVariants as conf_errors
use Rattle.resolv_conf.specs.declared.error.IoFault.TheVariants as io_faults
use Rattle.resolv_conf.specs.declared.server.ServerConf.{ServerConf}

-- before the first line of a configuration
abbrev pub no_conf : ResolvConf
no_conf = record { servers = []; options = default_options }

-- The text is a configuration, and this is what it says, finalized.
pub record Configures (text : List ℕ) (final : ResolvConf) : Type 0 where
  pub conf : ResolvConf
  pub parses : ParseAnswers text no_conf (Ok tt) conf
  pub final_is : final ≡ finalized conf

-- Line n of a configuration is the first that is outside the grammar, or isn't UTF-8.
pub data RefusesConfLine (text : List ℕ) (n : ℕ) : Type 0 where
  outside_the_grammar : (conf : ResolvConf) → ParseAnswers text no_conf (Err (conf_errors.ParseError n)) conf → RefusesConfLine text n
  not_utf8 : (conf : ResolvConf) → ParseAnswers text no_conf (Err (conf_errors.Io (io_faults.NotUtf8 n))) conf → RefusesConfLine text n

-- The text is not taken, for its length or for a line that is refused, and this line says why.
pub data IsRefusedFor (refuses : ℕ → Type 0) (text line : List ℕ) : Type 0 where
  is_too_long : 16777216 < length text → line ≡ codes "input too long\n" → IsRefusedFor refuses text line
  has_bad_line : (n : ℕ) → length text ≤ 16777216 → refuses n → line ≡ codes "line " ++ decimal n ++ codes " refused\n" → IsRefusedFor refuses text line

-- The text is no configuration, and this line says why.
abbrev pub IsConfRefused : (text line : List ℕ) → Type 0
IsConfRefused text line = IsRefusedFor (RefusesConfLine text) text line

-- a server at another port
abbrev pub at_port : ℕ → ServerConf → ServerConf
at_port port server = record server { addr = record server.addr { port = port } }

-- the configuration that is asked: each server at the query's port, where it has one
abbrev pub conf_at : Option ℕ → ResolvConf → ResolvConf
conf_at None conf = conf
conf_at (Some port) conf = record conf { servers = map (at_port port) conf.servers }
