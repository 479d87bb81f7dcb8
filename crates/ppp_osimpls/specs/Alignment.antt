-- The alignment of OSI datagrams (RFC 1377 section 3.1).
use Rattle.std.specs.Prelude.{ℕ, Bool, ◌&&◌, ◌||◌, ◌==◌, nat_le, List, length}
use Rattle.ppp_options.specs.Number.{number}
use Rattle.ppp_osimpls.specs.declared.osi_table.TheConstants.{MOST_ALIGNMENT, EVEN, ODD, ALIGNMENT_OCTETS}

-- a multiple of 1 to 4 octets, or the even or the odd boundary
abbrev pub is_good : ℕ → Bool
is_good n = (nat_le 1 n && nat_le n MOST_ALIGNMENT) || (n == EVEN) || (n == ODD)

abbrev pub is_good_body : List ℕ → Bool
is_good_body body = (length body == ALIGNMENT_OCTETS) && is_good (number body)

-- what an end is set to: 0 asks for nothing
abbrev pub is_setting : ℕ → Bool
is_setting align = (align == 0) || is_good align
