-- Frames of control protocols and of BAP, as a reader takes them who knows both short headers.
use Rattle.std.proofs.Common.{◌≡◌, ℕ, ◌+◌, ◌≤◌, Bool, true, false, List, [], ◌++◌, length, refl, ap, ◌∙◌, arith, inl, inr, get_or}
use Rattle.std.specs.Prelude.{Some}
use Rattle.ppp_frame.specs.declared.form.Form.{Form}
use Rattle.ppp_frame.specs.Deframer.{ends_by}
use Rattle.ppp_frame.specs.Fcs.{checked}
use Rattle.ppp_frame.specs.Frame.{enc, inside}
use Rattle.ppp_frame.specs.Header.{Addressed, Headed, address_octets, headed, is_short, leaves_out, protocol_octets, reads}
use Rattle.ppp_frame.specs.Verdict.{Taken, answer_of}
use Rattle.ppp_frame.proofs.EscapesLemmas.{escapes_stuffed}
use Rattle.ppp_frame.proofs.FrameLemmas.{framed_answered}
use Rattle.ppp_frame.proofs.HeaderLemmas.{is_short-lt}
use Rattle.ppp_frame.proofs.RoundTripLemmas.{feed_enc, length_sent}
use Rattle.ppp_packet.specs.declared.proto.Proto.{Proto}
use Rattle.ppp_link.specs.declared.link.TheConstants.{MOST_FRAME}
use Rattle.ppp_trunk.specs.Orders.{open_reader, read_in}
use Rattle.ppp_trunk.specs.declared.steps.TheConstants.{BAP}
use Rattle.ppp_trunk.proofs.FrameLemmas.{control-read}
use Rattle.ppp_party.specs.Frame.{carried, carried_by, packet_for}
use Rattle.ppp_party.specs.Seat.{Sender, Control, Bap, sender_number}

-- ---- the header of a frame of BAP

bap-addressed : (info : List ℕ) (left : Bool) → Addressed true (protocol_octets false BAP ++ info) ((address_octets left ++ protocol_octets false BAP) ++ info)
bap-addressed info false = inl refl
bap-addressed info true = inr (refl, refl, λ begins. absurd (omega (arith, ap (λ xs. get_or xs 0 0) begins.1)))

two_or_more : (info : List ℕ) (left : Bool) → 2 ≤ length ((address_octets left ++ protocol_octets false BAP) ++ info)
two_or_more info false = omega arith
two_or_more info true = omega arith

never-short : (form : Form) (info : List ℕ) (short : Bool) → is_short form BAP info ≡ short → short ≡ false
never-short form info false e = refl
never-short form info true e = let low = is_short-lt form BAP info e in absurd (omega arith)

bap-headed : (form : Form) (info : List ℕ) → Headed true true BAP info (headed form BAP info)
bap-headed form info =
    rw (never-short form info (is_short form BAP info) refl) (
      protocol_octets false BAP ++ info,
      bap-addressed info (leaves_out form BAP),
      inl (192, 45, refl, omega arith, λ may. refl),
      two_or_more info (leaves_out form BAP),
    )

bap-read : (form : Form) (octets : List ℕ) → length octets + 6 ≤ MOST_FRAME → read_in (enc form BAP octets) ≡ Some (reads BAP octets)
unfolding read_in
bap-read form octets few =
    let taken : answer_of open_reader.reader (inside form BAP octets) ≡ Taken (reads BAP octets) =
    framed_answered open_reader.reader BAP octets (inside form BAP octets) (
      headed form BAP octets,
      bap-headed form octets,
      escapes_stuffed form.map (checked (headed form BAP octets)),
      omega (arith, length_sent form BAP octets, few),
    ) in
    ap (λ s. s.left.frame) (feed_enc open_reader form BAP octets refl ∙ ap (λ v. ends_by open_reader v (length (enc form BAP octets))) taken)

pub sender-read : (form : Form) (x : Sender) (octets : List ℕ) → length octets + 6 ≤ MOST_FRAME → read_in (enc form (sender_number x) octets) ≡ Some (reads (sender_number x) octets)
sender-read form (Control p) octets few = control-read form p octets few
sender-read form Bap octets few = bap-read form octets few

-- a frame of BAP carries no packet of a control protocol
pub bap-carries : (form : Form) (octets : List ℕ) (p : Proto) → length octets + 6 ≤ MOST_FRAME → packet_for p (carried (enc form BAP octets)) ≡ []
unfolding carried
bap-carries form octets p few = ap (λ o. packet_for p (carried_by o)) (bap-read form octets few)
