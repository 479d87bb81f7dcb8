-- Kinds of links (RFC 2125, Link-Type).
use Rattle.std.specs.Prelude.{ℕ, bit_and, List, [], ◌∷◌, codes}
use Rattle.bitflags.specs.Sets.{Row}
use Rattle.ppp_bap.specs.declared.link_type.LinkType.{LinkType}

-- the kinds of these bits, of which the five lowest stand for a kind
abbrev pub known_kinds : ℕ → LinkType
known_kinds bits = record { 0 = bit_and bits 0x1f }

-- their names and bits
abbrev pub kinds : List Row
kinds = (codes "ISDN", 1) ∷ (codes "X25", 2) ∷ (codes "ANALOG", 4) ∷ (codes "SWITCHED", 8) ∷ (codes "VOICE", 16) ∷ []
