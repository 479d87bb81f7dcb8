-- The check sequence and frames of the standard's rules, computed.
use Rattle.std.proofs.Common.{◌≡◌, ℕ, false, true, List, [], ◌∷◌, refl}
use Rattle.ppp_frame.specs.declared.form.Form.{Form}
use Rattle.ppp_frame.specs.Escapes.{must_escape}
use Rattle.ppp_frame.specs.Fcs.{halved, shifted, fcs_of}
use Rattle.ppp_frame.specs.Frame.{enc}
use Rattle.ppp_frame.specs.Header.{behind_address, behind_protocol, is_short, leaves_out, reads}
use Rattle.ppp_frame.specs.declared.why.Why.TheVariants.{Aborted, Short, BadFcs, BadHeader}
use Rattle.ppp_frame.specs.Stream.{pieces, unfinished}
use Rattle.ppp_frame.specs.Verdict.{Reader, Discarded, Taken, answer_of, is_checked}

-- whole headers, with all control octets escaped
abbrev whole : Form
whole = record { map = 0xffff_ffff; ac = false; pf = false }

-- short headers, with no more escaped than must be
abbrev short : Form
short = record { map = 0; ac = true; pf = true }

-- the nine digits
fcs_of_digits : fcs_of (0x31 ∷ 0x32 ∷ 0x33 ∷ 0x34 ∷ 0x35 ∷ 0x36 ∷ 0x37 ∷ 0x38 ∷ 0x39 ∷ []) ≡ 0x906e
unfolding shifted halved
fcs_of_digits = refl

-- a packet of the unknown code 12
frame_code : enc whole 0xc021 (0x0c ∷ 0x07 ∷ 0x00 ∷ 0x04 ∷ []) ≡ 0x7e ∷ 0xff ∷ 0x7d ∷ 0x23 ∷ 0xc0 ∷ 0x21 ∷ 0x7d ∷ 0x2c ∷ 0x7d ∷ 0x27 ∷ 0x7d ∷ 0x20 ∷ 0x7d ∷ 0x24 ∷ 0x87 ∷ 0xe8 ∷ 0x7e ∷ []
unfolding shifted halved must_escape leaves_out is_short
frame_code = refl

-- the Code-Reject of it
frame_reject : enc whole 0xc021 (0x07 ∷ 0x01 ∷ 0x00 ∷ 0x08 ∷ 0x0c ∷ 0x07 ∷ 0x00 ∷ 0x04 ∷ []) ≡ 0x7e ∷ 0xff ∷ 0x7d ∷ 0x23 ∷ 0xc0 ∷ 0x21 ∷ 0x7d ∷ 0x27 ∷ 0x7d ∷ 0x21 ∷ 0x7d ∷ 0x20 ∷ 0x7d ∷ 0x28 ∷ 0x7d ∷ 0x2c ∷ 0x7d ∷ 0x27 ∷ 0x7d ∷ 0x20 ∷ 0x7d ∷ 0x24 ∷ 0x76 ∷ 0x9c ∷ 0x7e ∷ []
unfolding shifted halved must_escape leaves_out is_short
frame_reject = refl

-- a Discard-Request whose last octet is a flag
frame_discard : enc whole 0xc021 (0x0b ∷ 0x01 ∷ 0x00 ∷ 0x09 ∷ 0x00 ∷ 0x00 ∷ 0x00 ∷ 0x00 ∷ 0x7e ∷ []) ≡ 0x7e ∷ 0xff ∷ 0x7d ∷ 0x23 ∷ 0xc0 ∷ 0x21 ∷ 0x7d ∷ 0x2b ∷ 0x7d ∷ 0x21 ∷ 0x7d ∷ 0x20 ∷ 0x7d ∷ 0x29 ∷ 0x7d ∷ 0x20 ∷ 0x7d ∷ 0x20 ∷ 0x7d ∷ 0x20 ∷ 0x7d ∷ 0x20 ∷ 0x7d ∷ 0x5e ∷ 0xd9 ∷ 0x7f ∷ 0x7e ∷ []
unfolding shifted halved must_escape leaves_out is_short
frame_discard = refl

-- a datagram with a short header
frame_short : enc short 0x0021 (0x45 ∷ 0x00 ∷ []) ≡ 0x7e ∷ 0x21 ∷ 0x45 ∷ 0x00 ∷ 0xf5 ∷ 0xa7 ∷ 0x7e ∷ []
unfolding shifted halved must_escape leaves_out is_short
frame_short = refl

-- ---- read back

-- whole headers alone
abbrev strict : Reader
strict = record { limit = 8200; ac = false; pf = false }

-- short headers too
abbrev lenient : Reader
lenient = record { limit = 8200; ac = true; pf = true }

abbrev short_piece : List ℕ
short_piece = 0x21 ∷ 0x45 ∷ 0x00 ∷ 0xf5 ∷ 0xa7 ∷ []

-- the datagram, where short headers are read and where they aren't
short_read : answer_of lenient short_piece ≡ Taken (reads 0x0021 (0x45 ∷ 0x00 ∷ []))
unfolding shifted halved is_checked behind_address behind_protocol
short_read = refl

short_discarded : answer_of strict short_piece ≡ Discarded BadHeader
unfolding shifted halved is_checked behind_address behind_protocol
short_discarded = refl

-- an escape before the flag, three octets, a wrong check sequence, and nine digits with a right one
aborted : answer_of strict (0xff ∷ 0x7d ∷ []) ≡ Discarded Aborted
aborted = refl

three_octets : answer_of strict (0x01 ∷ 0x02 ∷ 0x03 ∷ []) ≡ Discarded Short
three_octets = refl

wrong_check : answer_of strict (0x01 ∷ 0x02 ∷ 0x03 ∷ 0x04 ∷ []) ≡ Discarded BadFcs
unfolding shifted halved is_checked
wrong_check = refl

nine_digits : answer_of strict (0x31 ∷ 0x32 ∷ 0x33 ∷ 0x34 ∷ 0x35 ∷ 0x36 ∷ 0x37 ∷ 0x38 ∷ 0x39 ∷ 0x6e ∷ 0x90 ∷ []) ≡ Discarded BadHeader
unfolding shifted halved is_checked behind_address behind_protocol
nine_digits = refl

-- two flags with nothing between them end nothing, and what follows the last flag is unfinished
two_flags : pieces (0x7e ∷ 0x7e ∷ 0x01 ∷ 0x02 ∷ 0x7e ∷ 0x03 ∷ []) ≡ (0x01 ∷ 0x02 ∷ []) ∷ []
two_flags = refl

unfinished_piece : unfinished (0x7e ∷ 0x01 ∷ 0x7e ∷ 0x03 ∷ []) ≡ 0x03 ∷ []
unfinished_piece = refl
