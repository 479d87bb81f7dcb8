-- The line of a frame.
use Rattle.std.specs.Prelude.{ℕ, List, [], ◌∷◌, ◌++◌, codes}
use Rattle.std.specs.Int.{to_be_bytes, w16}
use Rattle.hex.specs.Hex.{encode_lower}
use Rattle.ppp_frame.specs.Header.{Read}
use Rattle.ppp_show.specs.PacketText.{packet_text}

-- octets in hexadecimal digits, or `empty`
abbrev pub info_text : List ℕ → List ℕ
info_text [] = codes "empty"
info_text (x ∷ xs) = encode_lower (x ∷ xs)

-- `frame PPPP INFO`, and the packet where it is one of a control protocol
abbrev pub frame_line : Read → List ℕ
frame_line read =
    codes "frame " ++ encode_lower (to_be_bytes w16 read.protocol) ++ codes " " ++ info_text read.info
    ++ packet_text read.protocol read.info ++ codes "\n"
