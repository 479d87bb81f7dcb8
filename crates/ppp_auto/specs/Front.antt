-- The octets of options, as many from the front as fit a packet.
use Rattle.std.specs.Prelude.{◌≡◌, ◌<◌, ◌≤◌, true, false, List, [], ◌∷◌, ◌++◌, length}
use Rattle.ppp_packet.specs.ConfigOption.{ConfigOption}
use Rattle.ppp_packet.specs.Options.{written}
use Rattle.ppp_auto.specs.declared.front.Front.{Front}
use Rattle.ppp_auto.specs.declared.outbox.TheConstants.{MOST_REST}
use Rattle.ppp_auto.specs.Reply.{fitted}

-- it holds as many of these options as fit, and is full where not all do
pub record IsFront (list : List ConfigOption) (f : Front) : Type 0 where
  pub shown : f.octets.items ≡ written (fitted list)
  pub fits : f.full ≡ false → length (written list) ≤ MOST_REST
  pub full : f.full ≡ true → MOST_REST < length (written list)

-- an option is put behind those that were put before
abbrev pub PutsBehind : Front → Front → ConfigOption → Type 0
PutsBehind old new o = (list : List ConfigOption) → IsFront list old → IsFront (list ++ o ∷ []) new
