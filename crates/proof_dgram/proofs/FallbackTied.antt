-- A fallback over streams that are tied is tied to the part of a server by datagrams and streams.
use Rattle.std.proofs.Common.{◌≡◌, ℕ, false, [], Option, Some, refl, sym, subst}
use Rattle.client_request.specs.Request.{Request}
use Rattle.client_request.specs.Requests.{for_one}
use Rattle.client_request.specs.View.{View, Transport, told}
use Rattle.client_request.specs.declared.event.Via.TheVariants as via
use Rattle.client_request.specs.declared.event.What.{What}
use Rattle.client_dgram.specs.Plain as dgram
use Rattle.right_settings.specs.Given.{dgrams_of}
use Rattle.client_stream.specs.Plain as stream
use Rattle.client_multi.specs.Fallback as fallback
use Rattle.client_multi.specs.Fallback.{onto, with_parts, hears_stream}
use Rattle.right_trace.specs.Orderly.{use_at}
use Rattle.right_trace.specs.Trace.{Conf, ByDatagrams}
use Rattle.proof_right.specs.machine.Served.{Served, served}
use Rattle.proof_parts.specs.PartTie.{Phase, Untold, Leads, IsTie}
use Rattle.proof_parts.specs.Sights.{Sight, sight, IsFair, NoneDue}
use Rattle.proof_dgram.specs.Calls as calls
use Rattle.proof_dgram.specs.Calls.{HasTold, Passes, Moves, Cuts}
use Rattle.proof_dgram.specs.Fallback.{AreStreams, IsFallback, Both, names_in, OwnsEither}
use Rattle.proof_dgram.proofs.CallsAreMoves.{calls_are_moves}
use Rattle.proof_dgram.proofs.Falling.{fresh, same, set, named, held, quiet, begins, rests}
use Rattle.proof_dgram.proofs.GivingUp.{gives_up_one}
use Rattle.proof_dgram.proofs.GoingOnByStream.{cut_told}
use Rattle.proof_dgram.proofs.HandingIn.{sends_one}
use Rattle.proof_dgram.proofs.TakingFrames.{streams_told, takes_one}
use Rattle.proof_dgram.proofs.Timing.{fires_one, leads_hears}
use Rattle.proof_dgram.proofs.Told.{Tell, dgrams_told}

module _ (b c : Conf) (same_transports : b.transports ≡ c.transports) (s : ℕ) (used : use_at s c.servers ≡ Some ByDatagrams) {S : Type 0} (t : Transport Request S stream.Asked) (first : S) (Tied : Phase → S → Sight → Served → Type 0) (names : S → ℕ → Option ℕ) (Owns : S → (timer : ℕ) → Type 0) (y : AreStreams b s t first Tied names Owns) where
  module _ (f : Both c Tied names Owns s) (v : View) (a : Served) (w : What) (g : IsFallback c Tied names Owns s (Untold w) f (sight v) a) (fair : IsFair v) (early : NoneDue (OwnsEither c Tied names Owns s f) (sight v)) (calm : v.more ≡ false) where
    abbrev tables : dgram.Tables Request
    tables = f.parts.dgram.tables

    abbrev Goal : dgram.Tables Request → View → Type 0
    Goal z q = Leads (Tell b c same_transports s t first Tied names Owns y f v a w g fair early calm) (with_parts f (hears_stream f.server (dgram.transport for_one) t (told w) f.parts v (record f.parts.dgram { tables = z }, q)))

    told_so : (z : dgram.Tables Request) (q : View) → HasTold c s w tables a.server.by_dgram (onto [] v) z q → Goal z q
    told_so z q (Passes ignored no_table no_view) = subst (λ z. Goal z q) (sym no_table) (subst (Goal tables) (sym no_view) (streams_told b c same_transports s t first Tied names Owns y f v a w g fair early calm ignored))
    told_so z q (Moves x e one more meets at steps leaves posts) = dgrams_told b c same_transports s t first Tied names Owns y f v a w g fair early calm z q x e one more meets at steps leaves posts
    told_so z q (Cuts h) = cut_told b c same_transports s t first Tied names Owns y f v a w g fair early calm z q h

    fair_on : IsFair (onto [] v)
    fair_on = record { order = fair.order; words = fair.words }

    pub tells_one : Leads (Tell b c same_transports s t first Tied names Owns y f v a w g fair early calm) ((fallback.transport (dgram.transport for_one) t).step (told w) f v)
    tells_one = leads_hears b c same_transports s t first Tied names Owns y f v (told w) (HasTold c s w tables a.server.by_dgram (onto [] v)) (Tell b c same_transports s t first Tied names Owns y f v a w g fair early calm) (dgram.tells for_one f.parts.dgram.server f.parts.dgram.settings w tables (onto [] v))
        (subst (λ n. calls.Leads (HasTold c s w tables a.server.by_dgram (onto [] v)) (dgram.tells for_one n f.parts.dgram.settings w tables (onto [] v))) (sym g.dgram_server)
        (subst (λ z. calls.Leads (HasTold c s w tables a.server.by_dgram (onto [] v)) (dgram.tells for_one s z w tables (onto [] v))) (sym g.settings)
        ((calls_are_moves c).tells s tables a.server.by_dgram (onto [] v) w g.slots fair_on))) told_so

  pub fallback_is_tied : IsTie (served c) s via.Dgram (fallback.transport (dgram.transport for_one) t) (λ (r : fallback.Asked). r.ticket) (fallback.started s (dgram.started s (dgrams_of c)) first) (λ phase f x a. IsFallback c Tied names Owns s phase f x a) (names_in c Tied names Owns s) (OwnsEither c Tied names Owns s)
  fallback_is_tied = record {
    fresh = λ x now. fresh b c same_transports s t first Tied names Owns y x now;
    same = λ phase f x z a g now dues timer ticket place. same b c same_transports s t first Tied names Owns y phase f x a g z now dues timer ticket place;
    set = λ phase f x a i g own. set b c same_transports s t first Tied names Owns y phase f x a g i own;
    named = λ phase f x a i k g e. named b c same_transports s t first Tied names Owns y phase f x a g i k e;
    held = λ phase f x a k g e. held b c same_transports s t first Tied names Owns y phase f x a g k e;
    response = λ r f v. refl;
    quiet = λ phase f x a told g. quiet b c same_transports s t first Tied names Owns y phase f x a g told;
    begins = λ phase f x a e may g. begins b c same_transports s t first Tied names Owns y phase f x a e may g;
    rests = λ phase f v a may early g. rests b c same_transports s t first Tied names Owns y phase f v a may early g;
    fires = λ f v a w i due g fair set late. fires_one b c same_transports s t first Tied names Owns y f v a w i due g fair set late;
    sends = λ phase f v a r may g fair octets free. sends_one b c same_transports s used t first Tied names Owns y phase f v a r may g fair octets free;
    cancels = λ phase f v a r k may g fair named. gives_up_one b c same_transports s t first Tied names Owns y phase f v a r.ticket k may g fair named;
    tells = λ f v a w g fair early calm. tells_one f v a w g fair early calm;
    takes = λ f v a p n g fair early calm. takes_one b c same_transports s t first Tied names Owns y f v a p n g fair early calm;
  }
