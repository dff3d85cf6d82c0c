-- What a request asks, by the whole key under which its results are kept.
use Rattle.std.specs.Prelude.{◌≡◌, false, true, Option, Some, None}
use Rattle.client_request.specs.Request.{Request}
use Rattle.right_trace.specs.Keys.{Key, key_of, spelled_name, is_cacheable}
use Rattle.cache_rules.specs.Key.{flag_class}
use Rattle.message_judging.specs.declared.views.serving.Flags.{Flags}
use Rattle.message_judging.specs.views.Serving.{HasFlags}
use Rattle.trace_hits.specs.declared.question.Question.{Question}

-- a key with these flags
abbrev pub whole : Flags → Key → Key
whole f k = record k { flags = flag_class f.class; rd = f.rd }

-- a request whose results are kept asks this
pub record IsAsked (r : Request) (q : Question) : Type 0 where
  pub cacheable : is_cacheable r ≡ true
  pub key : q.key ≡ key_of r
  pub flags : HasFlags r q.flags
  pub name : spelled_name r ≡ q.name

-- what it asks, or that its results are not kept
abbrev pub IsTold : Request → Option Question → Type 0
IsTold r None = is_cacheable r ≡ false
IsTold r (Some q) = IsAsked r q
