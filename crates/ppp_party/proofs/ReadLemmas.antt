-- A frame of a control protocol or of BAP, as a link reads it: as what it is, or not at all.
use Rattle.std.proofs.Common.{◌≡◌, ◌≢◌, ℕ, ◌/◌, ◌%◌, ◌≤◌, Bool, true, false, List, [], ◌∷◌, ◌++◌, refl, sym, ap, subst, ◌∙◌, inl, inr, arith}
use Rattle.std.specs.Prelude.{◌⊎◌, Option, Some, None}
use Rattle.ppp_frame.specs.declared.escapes.TheConstants.{FLAG, ESCAPE}
use Rattle.ppp_frame.specs.declared.form.Form.{Form}
use Rattle.ppp_frame.specs.Deframer.{DeframerState, feed_step}
use Rattle.ppp_frame.specs.Escapes.{Escapes, HasNoFlag, StandsFor}
use Rattle.ppp_frame.specs.Fcs.{checked}
use Rattle.ppp_frame.specs.Frame.{enc, inside}
use Rattle.ppp_frame.specs.Header.{Read, address_octets, behind_address, behind_protocol, headed, is_short, leaves_out, protocol_octets, read_of, reads}
use Rattle.ppp_frame.specs.Standing.{fresh}
use Rattle.ppp_frame.specs.Verdict.{Reader, Verdict, Discarded, Taken, answer_of, before_check, frame_in}
use Rattle.ppp_frame.proofs.EscapesLemmas.{escapes_read, escapes_stuffed}
use Rattle.ppp_frame.proofs.FrameLemmas.{answered_framed, before_checked}
use Rattle.ppp_frame.proofs.HeaderLemmas.{headed_read, is_short-lt}
use Rattle.ppp_frame.proofs.RoundTripLemmas.{feed_enc}
use Rattle.ppp_packet.specs.declared.proto.Proto.TheVariants.{Lcp, Ip, Ipv6, Osi, Mpls, Bacp}
use Rattle.ppp_party.specs.Seat.{Sender, Control, Bap, sender_number}

-- ---- headers

two_octets-read : (ac pf : Bool) (x : Sender) (info : List ℕ) → let n = sender_number x in
    (read_of ac pf ((n / 256) ∷ (n % 256) ∷ info) ≡ Some (reads n info)) ⊎ (read_of ac pf ((n / 256) ∷ (n % 256) ∷ info) ≡ None)
unfolding behind_address behind_protocol
two_octets-read true true (Control Lcp) info = inl refl
two_octets-read true true (Control Ip) info = inl refl
two_octets-read true true (Control Ipv6) info = inl refl
two_octets-read true true (Control Osi) info = inl refl
two_octets-read true true (Control Mpls) info = inl refl
two_octets-read true true (Control Bacp) info = inl refl
two_octets-read true true Bap info = inl refl
two_octets-read true false (Control Lcp) info = inl refl
two_octets-read true false (Control Ip) info = inl refl
two_octets-read true false (Control Ipv6) info = inl refl
two_octets-read true false (Control Osi) info = inl refl
two_octets-read true false (Control Mpls) info = inl refl
two_octets-read true false (Control Bacp) info = inl refl
two_octets-read true false Bap info = inl refl
two_octets-read false pf (Control Lcp) info = inr refl
two_octets-read false pf (Control Ip) info = inr refl
two_octets-read false pf (Control Ipv6) info = inr refl
two_octets-read false pf (Control Osi) info = inr refl
two_octets-read false pf (Control Mpls) info = inr refl
two_octets-read false pf (Control Bacp) info = inr refl
two_octets-read false pf Bap info = inr refl

whole-read : (ac pf : Bool) (x : Sender) (info : List ℕ) → let n = sender_number x in read_of ac pf (0xff ∷ 0x03 ∷ (n / 256) ∷ (n % 256) ∷ info) ≡ Some (reads n info)
unfolding behind_address behind_protocol
whole-read ac true (Control Lcp) info = refl
whole-read ac true (Control Ip) info = refl
whole-read ac true (Control Ipv6) info = refl
whole-read ac true (Control Osi) info = refl
whole-read ac true (Control Mpls) info = refl
whole-read ac true (Control Bacp) info = refl
whole-read ac true Bap info = refl
whole-read ac false (Control Lcp) info = refl
whole-read ac false (Control Ip) info = refl
whole-read ac false (Control Ipv6) info = refl
whole-read ac false (Control Osi) info = refl
whole-read ac false (Control Mpls) info = refl
whole-read ac false (Control Bacp) info = refl
whole-read ac false Bap info = refl

long : (x : Sender) → 256 ≤ sender_number x
long (Control Lcp) = omega arith
long (Control Ip) = omega arith
long (Control Ipv6) = omega arith
long (Control Osi) = omega arith
long (Control Mpls) = omega arith
long (Control Bacp) = omega arith
long Bap = omega arith

never-short : (form : Form) (x : Sender) (info : List ℕ) (short : Bool) → is_short form (sender_number x) info ≡ short → short ≡ false
never-short form x info false e = refl
never-short form x info true e = let low = is_short-lt form (sender_number x) info e in let high = long x in absurd (omega arith)

header-read : (ac pf : Bool) (x : Sender) (info : List ℕ) (left : Bool) → let n = sender_number x in let octets = (address_octets left ++ protocol_octets false n) ++ info in
    (read_of ac pf octets ≡ Some (reads n info)) ⊎ (read_of ac pf octets ≡ None)
header-read ac pf x info true = two_octets-read ac pf x info
header-read ac pf x info false = inl (whole-read ac pf x info)

sent-read : (ac pf : Bool) (form : Form) (x : Sender) (info : List ℕ) → let n = sender_number x in let octets = headed form n info in
    (read_of ac pf octets ≡ Some (reads n info)) ⊎ (read_of ac pf octets ≡ None)
sent-read ac pf form x info = rw (never-short form x info (is_short form (sender_number x) info) refl) (header-read ac pf x info (leaves_out form (sender_number x)))

-- ---- pieces

flagless : (xs ys : List ℕ) → Escapes xs ys → HasNoFlag ys
flagless [] ys none = subst HasNoFlag (sym none) tt
flagless (x ∷ xs) ys (rest, stands, more) = go (flagless xs rest more) stands
  where
    escape : ESCAPE ≢ FLAG
    escape = λ same. absurd (omega arith)

    go : HasNoFlag rest → StandsFor x ys rest → HasNoFlag ys
    go found (inl (plain, other, is)) = subst HasNoFlag (sym is) (other, found)
    go found (inr (other, is)) = subst HasNoFlag (sym is) (escape, (other, found))

-- what is read of such a piece is what was sent
taken-as : (r : Reader) (form : Form) (x : Sender) (info : List ℕ) (read : Read) → answer_of r (inside form (sender_number x) info) ≡ Taken read → read ≡ reads (sender_number x) info
taken-as r form x info read is =
    let n = sender_number x in
    let plain = checked (headed form n info) in
    let piece = inside form n info in
    let stands = escapes_stuffed form.map plain in
    let framed = answered_framed r read.protocol read.info piece (flagless plain piece stands) is in
    let octets = framed.0 in
    let both : checked octets ≡ plain = sym (escapes_read (checked octets) piece framed.2).0 ∙ (escapes_read plain piece stands).0 in
    let same : octets ≡ headed form n info = sym (before_checked octets) ∙ ap before_check both ∙ before_checked (headed form n info) in
    let found : read_of r.ac r.pf (headed form n info) ≡ Some read = ap (read_of r.ac r.pf) (sym same) ∙ headed_read r.ac r.pf read.protocol read.info octets framed.1 in
    by found (sent-read r.ac r.pf form x info)
  where
    by : {o : Option Read} → o ≡ Some read → (o ≡ Some (reads (sender_number x) info)) ⊎ (o ≡ None) → read ≡ reads (sender_number x) info
    by found (inl sent) = let e : Some read ≡ Some (reads (sender_number x) info) = sym found ∙ sent in cc
    by found (inr none) = let e : Some read ≡ None = sym found ∙ none in absurd (cc)

in-verdict : (v : Verdict) (read : Read) → frame_in v ≡ Some read → v ≡ Taken read
in-verdict (Discarded why) read is = absurd (cc)
in-verdict (Taken other) read is = cc

-- a deframer that stands as after a flag
pub lent-as : (d : DeframerState) (form : Form) (x : Sender) (info : List ℕ) (read : Read) → d.standing ≡ fresh →
    (feed_step d (enc form (sender_number x) info)).left.frame ≡ Some read → read ≡ reads (sender_number x) info
lent-as d form x info read stands is =
    let fed = feed_enc d form (sender_number x) info stands in
    let found : frame_in (answer_of d.reader (inside form (sender_number x) info)) ≡ Some read = sym (ap (λ s. s.left.frame) fed) ∙ is in
    taken-as d.reader form x info read (in-verdict _ read found)

pub stands-again : (d : DeframerState) (form : Form) (x : Sender) (info : List ℕ) → d.standing ≡ fresh →
    ((feed_step d (enc form (sender_number x) info)).left.standing ≡ fresh) × ((feed_step d (enc form (sender_number x) info)).left.reader ≡ d.reader)
stands-again d form x info stands =
    let fed = feed_enc d form (sender_number x) info stands in
    (ap (λ s. s.left.standing) fed, ap (λ s. s.left.reader) fed)
