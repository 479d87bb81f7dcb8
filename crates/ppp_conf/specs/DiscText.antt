-- Endpoint discriminators as texts: the Class's digit, `:`, and the address in lower-case hexadecimal digits.
use Rattle.std.specs.Prelude.{ℕ, ◌-◌, ◌/◌, ◌==◌, ◌&&◌, nat_le, if◌then◌else◌, List, [], ◌∷◌, take, length, Option, None, option_map}
use Rattle.ppp_packet.specs.declared.disc.Disc.{Disc}
use Rattle.ppp_packet.specs.DiscClass.{is_good_disc}
use Rattle.ppp_conf.specs.HexText.{hex_octets}

-- a discriminator as its Class and its address
abbrev pub disc_seen : Disc → ℕ × List ℕ
disc_seen disc = (disc.class, take disc.size disc.address)

-- a discriminator of this Class with this address in digits: there is none where the Class isn't one or has no such address
abbrev pub disc_by : ℕ → List ℕ → Option (ℕ × List ℕ)
disc_by class digits =
    if is_good_disc class (length digits / 2) then
    option_map (λ address. (class, address)) (hex_octets (length digits / 2) digits)
    else None

-- digits begin with `0` (48), and `:` is 58
unfoldable pub disc_of : List ℕ → Option (ℕ × List ℕ)
disc_of [] = None
disc_of (digit ∷ []) = None
disc_of (digit ∷ mark ∷ digits) =
    if nat_le 48 digit && mark == 58 then disc_by (digit - 48) digits else None
