-- Endpoint discriminators (RFC 1990 section 5.1.3).
use Rattle.std.specs.Prelude.{◌≡◌, ℕ, ◌-◌, ◌≤◌, List, length, drop, replicate}
use Rattle.std.specs.declared.cmp.Ordering.{Ordering}
use Rattle.std.specs.Ordering.{ordering_then, nat_cmp}
use Rattle.std.specs.Cmp.Lexicographic.{slice_cmp}
use Rattle.ppp_packet.specs.declared.disc.TheConstants.{MOST_ADDRESS}

-- The address is the first `size` of twenty octets; those past it are 0.
pub record IsAddress (octets : List ℕ) (size : ℕ) : Type 0 where
  pub whole : length octets ≡ MOST_ADDRESS
  pub within : size ≤ MOST_ADDRESS
  pub zeros : drop size octets ≡ replicate (MOST_ADDRESS - size) 0

-- how a Class and an address stand to others: by the Class, and then by the addresses as lists of octets
abbrev pub disc_order : ℕ → List ℕ → ℕ → List ℕ → Ordering
disc_order class address other_class other_address =
    ordering_then (nat_cmp class other_class) (slice_cmp nat_cmp address other_address)
