-- A table without rows changes nothing after a Nak.
use Rattle.std.proofs.Common.{◌≡◌, ℕ, List, [], ◌∷◌, refl}
use Rattle.std.specs.Prelude.{Option, Some, None}
use Rattle.ppp_packet.specs.ConfigOption.{ConfigOption}
use Rattle.ppp_packet.specs.Options.{find_kind}
use Rattle.ppp_options.specs.Rules.{adapt_nak, body_after}

body-stays : (nak : Option (List ℕ)) (word : ℕ) (o : ConfigOption) → body_after [] nak word o ≡ o.body
body-stays None word o = refl
body-stays (Some nak) word o = refl

pub nothing-after : (last nak : List ConfigOption) (word : ℕ) → adapt_nak [] last nak word ≡ last
nothing-after [] nak word = refl
nothing-after (o ∷ os) nak word = rw (body-stays (find_kind o.kind nak) word o, nothing-after os nak word) refl
