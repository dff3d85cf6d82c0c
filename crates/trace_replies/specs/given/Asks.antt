-- What a request asks: what all share that may serve it, its flags, and the name of its question as it is spelled.
use Rattle.std.specs.Prelude.{◌≡◌, ◌&&◌, ◌||◌, not, ℕ, Bool, true, false, Option, Some, None, option_map}
use Rattle.dns_names.specs.Name.{Labels}
use Rattle.dns_base.specs.Message.{sole_question}
use Rattle.client_request.specs.Request.{Request, is_dnssec_ok}
use Rattle.right_trace.specs.Keys.{Key, Plain, key_of, spelled_name, is_cacheable, is_do, is_signing, flags_cover}
use Rattle.cache_rules.specs.Key.{flag_class, key_in}
use Rattle.message_judging.specs.declared.views.serving.Flags.{Flags}
use Rattle.message_judging.specs.views.Serving.{HasFlags}
use Rattle.trace_replies.specs.declared.given.asks.Asks.{Asks}

-- a key without its flags
abbrev pub common : Key → Key
common k = record k { flags = Plain; rd = false }

-- the key that a request shows, and the name of its only question
abbrev pub key_shown : Request → Option Key
key_shown r = key_in r.header (is_dnssec_ok r) r.base

abbrev pub name_shown : Request → Option Labels
name_shown r = option_map (λ q. q.name) (sole_question r.base)

-- a request whose results are kept asks this
pub record IsAsked (r : Request) (a : Asks) : Type 0 where
  pub cacheable : is_cacheable r ≡ true
  pub key : a.key ≡ common (key_of r)
  pub flags : HasFlags r a.flags
  pub name : spelled_name r ≡ a.name

-- what it asks, or that its results are not kept
abbrev pub IsTold : Request → Option Asks → Type 0
IsTold r None = is_cacheable r ≡ false
IsTold r (Some a) = IsAsked r a

-- flags under which a reply to a question of this type may serve others
abbrev pub covers_flags : (from to : Flags) → (rtype : ℕ) → Bool
covers_flags q r t =
    (q.rd || not r.rd) && (flags_cover (flag_class q.class) (flag_class r.class)
    && (not (is_do (flag_class q.class) && is_signing t) || is_do (flag_class r.class)))
