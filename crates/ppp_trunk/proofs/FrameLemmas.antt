-- Frames of control protocols, as a reader takes them who knows both short headers.
use Rattle.std.proofs.Common.{◌≡◌, ℕ, ◌+◌, ◌/◌, ◌%◌, ◌≤◌, Bool, true, false, List, [], ◌∷◌, ◌++◌, length, length-append, refl, ap, ◌∙◌, arith, inl, inr, get_or}
use Rattle.std.specs.Prelude.{Some}
use Rattle.ppp_frame.specs.declared.form.Form.{Form}
use Rattle.ppp_frame.specs.Deframer.{ends_by}
use Rattle.ppp_frame.specs.Fcs.{checked, fcs_octets}
use Rattle.ppp_frame.specs.Frame.{enc, inside}
use Rattle.ppp_frame.specs.Header.{Addressed, Headed, address_octets, header_of, headed, is_short, leaves_out, protocol_octets, reads}
use Rattle.ppp_frame.specs.Verdict.{Taken, answer_of}
use Rattle.ppp_frame.proofs.EscapesLemmas.{escapes_read, escapes_stuffed, length-unstuffed}
use Rattle.ppp_frame.proofs.FrameLemmas.{framed_answered}
use Rattle.ppp_frame.proofs.HeaderLemmas.{is_short-lt}
use Rattle.ppp_frame.proofs.RoundTripLemmas.{feed_enc, length_sent}
use Rattle.ppp_packet.specs.Proto.{proto_number}
use Rattle.ppp_packet.specs.declared.proto.Proto.{Proto}
use Rattle.ppp_packet.specs.declared.proto.Proto.TheVariants.{Lcp, Ip, Ipv6, Osi, Mpls, Bacp}
use Rattle.ppp_link.specs.declared.link.TheConstants.{MOST_FRAME}
use Rattle.ppp_trunk.specs.Orders.{open_reader, read_in}

-- the number of a control protocol: its high octet is even and isn't that of an address
record IsControl (n : ℕ) : Type 0 where
  long : 256 ≤ n
  even : n / 256 % 2 ≡ 0
  other : n / 256 ≡ 0xff → ⊥

numbered : (p : Proto) → IsControl (proto_number p)
numbered Lcp = record { long = omega arith; even = refl; other = λ same. absurd (omega (arith, same)) }
numbered Ip = record { long = omega arith; even = refl; other = λ same. absurd (omega (arith, same)) }
numbered Ipv6 = record { long = omega arith; even = refl; other = λ same. absurd (omega (arith, same)) }
numbered Osi = record { long = omega arith; even = refl; other = λ same. absurd (omega (arith, same)) }
numbered Mpls = record { long = omega arith; even = refl; other = λ same. absurd (omega (arith, same)) }
numbered Bacp = record { long = omega arith; even = refl; other = λ same. absurd (omega (arith, same)) }

open_addressed : (n : ℕ) (info : List ℕ) (left : Bool) → IsControl n → Addressed true (protocol_octets false n ++ info) ((address_octets left ++ protocol_octets false n) ++ info)
open_addressed n info false is = inl refl
open_addressed n info true is = inr (refl, refl, λ begins. is.other (ap (λ xs. get_or xs 0 0) begins.1))

two_or_more : (n : ℕ) (info : List ℕ) (left : Bool) → 2 ≤ length ((address_octets left ++ protocol_octets false n) ++ info)
two_or_more n info false = omega arith
two_or_more n info true = omega arith

never-short : (form : Form) (n : ℕ) (info : List ℕ) (short : Bool) → IsControl n → is_short form n info ≡ short → short ≡ false
never-short form n info false is e = refl
never-short form n info true is e = let low = is_short-lt form n info e in let high = is.long in absurd (omega arith)

-- the header of a control protocol, whatever the form
open_headed : (form : Form) (n : ℕ) (info : List ℕ) → IsControl n → Headed true true n info (headed form n info)
open_headed form n info is =
    rw (never-short form n info (is_short form n info) is refl) (
      protocol_octets false n ++ info,
      open_addressed n info (leaves_out form n) is,
      inl (n / 256, n % 256, refl, omega arith, λ may. is.even),
      two_or_more n info (leaves_out form n),
    )

pub control-read : (form : Form) (p : Proto) (octets : List ℕ) → length octets + 6 ≤ MOST_FRAME → read_in (enc form (proto_number p) octets) ≡ Some (reads (proto_number p) octets)
unfolding read_in
control-read form p octets few =
    let n = proto_number p in
    let taken : answer_of open_reader.reader (inside form n octets) ≡ Taken (reads n octets) =
    framed_answered open_reader.reader n octets (inside form n octets) (
      headed form n octets,
      open_headed form n octets (numbered p),
      escapes_stuffed form.map (checked (headed form n octets)),
      omega (arith, length_sent form n octets, few),
    ) in
    ap (λ s. s.left.frame) (feed_enc open_reader form n octets refl ∙ ap (λ v. ends_by open_reader v (length (enc form n octets))) taken)

-- a frame isn't shorter than what it carries
pub enc-longer : (form : Form) (n : ℕ) (info : List ℕ) → length info ≤ length (enc form n info)
enc-longer form n info =
    let plain = checked (headed form n info) in
    let found = (escapes_read plain (inside form n info) (escapes_stuffed form.map plain)).0 in
    omega (
      arith,
      ap length found,
      length-unstuffed false (inside form n info),
      length-append (headed form n info) (fcs_octets (headed form n info)),
      length-append (header_of form n info) info,
      length-append (inside form n info) (0x7e ∷ []),
    )
