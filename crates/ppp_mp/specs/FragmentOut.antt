-- The fragments of a packet, with their headers.
use Rattle.std.specs.Prelude.{◌≡◌, ℕ, ◌+◌, List, [], ◌∷◌, length, map}
use Rattle.ppp_mp.specs.Batch.{Packet}
use Rattle.ppp_mp.specs.declared.fragment_out.FragmentOut.TheInside.{Inside}
use Rattle.ppp_mp.specs.declared.fragment_out.TheConstants.{MOST_OCTETS}

-- how many octets they have together
abbrev pub all_octets : List (List ℕ) → ℕ
all_octets [] = 0
all_octets (x ∷ xs) = length x + all_octets xs

abbrev pub octets_of : Packet → List ℕ
octets_of p = p.octets

abbrev pub fragments_seen : Inside → List (List ℕ)
fragments_seen b = map octets_of b.batch.packets

pub record IsFragmentOut (b : Inside) : Type 0 where
  pub room : b.batch.room ≡ MOST_OCTETS
  pub begun : b.batch.begun ≡ []
