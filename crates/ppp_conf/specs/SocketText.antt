-- The texts that name a socket.
use Rattle.std.specs.Prelude.{ℕ, Bool, ◌==◌, ◌&&◌, ◌||◌, if◌then◌else◌, List, length, Option, Some, None}
use Rattle.std.specs.List.{list_all}
use Rattle.ppp_packet.specs.DiscClass.{is_within}
use Rattle.ppp_conf.specs.declared.socket_text.TheConstants.{MOST_SOCKET}

-- `a` to `z`, `0` to `9`, `_` (95) and `.` (46)
abbrev pub is_socket_octet : ℕ → Bool
is_socket_octet x = (is_within 97 122 x || is_within 48 57 x) || (x == 95 || x == 46)

-- 1 to 64 of these octets
abbrev pub is_socket : List ℕ → Bool
is_socket text = is_within 1 MOST_SOCKET (length text) && list_all is_socket_octet text

-- such a text, as it is
abbrev pub socket_of : List ℕ → Option (List ℕ)
socket_of text = if is_socket text then Some text else None
