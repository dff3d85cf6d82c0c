-- What the octets of a stream come to, however they are cut.
use Rattle.std.specs.Prelude.{◌≡◌, ℕ, ◌||◌, false, Bool, true, List, [], ◌∷◌, ◌++◌, length, if◌then◌else◌}
use Rattle.std.specs.List.{AllByRecursion}
use Rattle.client_request.specs.declared.event.Row.{Row}
use Rattle.client_settings.specs.Settings.{CacheSettings, RedundantSettings}
use Rattle.client_settings.specs.declared.settings.Transports.{Transports}
use Rattle.client_steps.specs.Whole.{Whole, started_with}
use Rattle.client_stream.specs.Frames.{has_frame}
use Rattle.front_core.specs.Forwarded.{Forwards}
use Rattle.front_peers.specs.Items.{Brought, Streams, of_frames, takes}
use Rattle.front_peers.specs.declared.event.FrontEvent.{FrontEvent}
use Rattle.front_peers.specs.declared.event.FrontRow.{FrontRow}
use Rattle.front_peers.specs.declared.event.FrontWhat.TheVariants.{Bytes}
use Rattle.front_peers.specs.declared.items.Item.{Item}
use Rattle.front_peers.specs.declared.items.Item.TheVariants.{Asks, Refuses, Drops, Happens}
use Rattle.front_steps.specs.Steps.{Forwarding, beginning}
use Rattle.proof_bounds.specs.Bounds.{IsOfOctets}
use Rattle.resolv_conf.specs.declared.conf.ResolvConf.{ResolvConf}

-- what all whole messages come to that stand in some octets; a frame has two octets at least
abbrev pub of_octets : (peer : ℕ) → List ℕ → Brought
of_octets peer octets = of_frames (length octets) peer octets

-- a stream is dropped
abbrev pub is_drop : Item → Bool
is_drop (Drops peer) = true
is_drop (Asks asker) = false
is_drop (Refuses peer octets) = false
is_drop (Happens what) = false

abbrev pub has_drop : List Item → Bool
has_drop [] = false
has_drop (item ∷ items) = is_drop item || has_drop items

-- What comes behind these: it stands behind what they left, and counts for nothing once the stream is dropped.
abbrev pub then_more : (peer : ℕ) → Brought → (more : List ℕ) → Brought
then_more peer first more =
    if has_drop first.0 then (first.0, first.1 ++ more)
    else (first.0 ++ (of_octets peer (first.1 ++ more)).0, (of_octets peer (first.1 ++ more)).1)

-- The messages are a function of the octets that came, wherever they were cut.
pub record OctetsAreCut : Type 0 where
  -- of two pieces: those of the first, and then those of what it left and the second
  pub cut : (peer : ℕ) (first second : List ℕ) → of_octets peer (first ++ second) ≡ then_more peer (of_octets peer first) second
  -- what is kept of a stream is no whole message, so as many steps are enough as octets come
  pub enough : (peer : ℕ) (kept octets : List ℕ) → has_frame kept ≡ false → of_frames (length octets) peer (kept ++ octets) ≡ of_octets peer (kept ++ octets)
  -- and none is left whole, unless the stream is dropped
  pub none_left : (peer : ℕ) (octets : List ℕ) → has_drop (of_octets peer octets).0 ≡ false → has_frame (of_octets peer octets).1 ≡ false

-- octets came by the stream of a peer
abbrev pub bytes_at : (moment peer : ℕ) → List ℕ → FrontEvent
bytes_at moment peer octets = record { moment = record { 0 = moment }; what = Bytes peer octets }

-- Two pieces that come in two events at one moment come to what they do in one, in the same order, and leave the same streams.
-- Where the first piece drops the stream, the second counts for nothing.
pub record EventIsCut (moment peer : ℕ) (first second : List ℕ) (s : Streams) : Type 0 where
  pub goes_on :
      has_drop (takes (bytes_at moment peer first) s).0 ≡ false
      → takes (bytes_at moment peer (first ++ second)) s
      ≡ (
        (takes (bytes_at moment peer first) s).0 ++ (takes (bytes_at moment peer second) (takes (bytes_at moment peer first) s).1).0,
        (takes (bytes_at moment peer second) (takes (bytes_at moment peer first) s).1).1,
      )
  pub ends : has_drop (takes (bytes_at moment peer first) s).0 ≡ true → (takes (bytes_at moment peer (first ++ second)) s).0 ≡ (takes (bytes_at moment peer first) s).0

-- So it is behind whatever came, if it is made of octets.
abbrev pub EveryEventMayBeCut : Type 0
EveryEventMayBeCut = (given : Transports) (redundant : RedundantSettings) (cache : CacheSettings) (conf : ResolvConf) (words : ℕ → ℕ) (rows : List FrontRow) (trace : List Row) (last : Forwarding Whole) (left : ℕ → ℕ)
    → Forwards (beginning (started_with given redundant cache conf)) words rows trace last left → AllByRecursion (λ row. IsOfOctets row.event.what) rows
    → (moment peer : ℕ) (first second : List ℕ) → EventIsCut moment peer first second last.desk.streams
