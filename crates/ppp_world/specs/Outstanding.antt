-- A step is refused that makes a span wider than 255: whose, the ordinal of its last request, and the oldest of which
-- something is under way. End a comes before end b, then the least link, then the first protocol, and BAP behind them.
use Rattle.std.specs.Prelude.{ℕ, zero, suc, ◌+◌, nat_lt, ◌==◌, if◌then◌else◌, List, [], ◌∷◌, length, Option, Some, None}
use Rattle.std.specs.Option.{option_or}
use Rattle.ppp_packet.specs.Proto.{proto_number}
use Rattle.ppp_packet.specs.declared.proto.Proto.{Proto}
use Rattle.ppp_packet.specs.declared.proto.Proto.TheVariants.{Lcp, Ip, Ipv6, Osi, Mpls, Bacp}
use Rattle.ppp_duet.specs.Span.{widest}
use Rattle.ppp_party.specs.BapSpans.{bap_oldest, bap_span}
use Rattle.ppp_party.specs.Party.{Ends, Party, turned}
use Rattle.ppp_party.specs.Spans.{oldest_on, sent_on, span_on}
use Rattle.ppp_trunk.specs.declared.steps.TheConstants.{BAP}
use Rattle.ppp_script.specs.declared.end.End.{End}
use Rattle.ppp_script.specs.declared.end.End.TheVariants.{A, B}
use Rattle.ppp_world.specs.declared.outstanding.Outstanding.{Outstanding}

-- the protocols in order
abbrev pub protocols : List Proto
protocols = Lcp ∷ Ip ∷ Ipv6 ∷ Osi ∷ Mpls ∷ Bacp ∷ []

-- two ends, of which that is the first
abbrev pub ends_of : Party → Party → Ends
ends_of own other = record { own = own; other = other }

-- the first end's span of a protocol on a link, where it is too wide; the end has that name
abbrev pub outstanding_on : End → ℕ → Ends → Proto → Option Outstanding
outstanding_on name m e p =
    if nat_lt widest (span_on m p e)
    then Some (record { end = name; link = m; protocol = proto_number p; sent = sent_on m p e.own; oldest = oldest_on m p e })
    else None

abbrev pub first_among : {X : Type 0} → (Proto → Option X) → List Proto → Option X
first_among f [] = None
first_among f (p ∷ ps) = option_or (f p) (first_among f ps)

-- on a link
abbrev pub control_outstanding : End → ℕ → Ends → Option Outstanding
control_outstanding name m e = first_among (outstanding_on name m e) protocols

-- Of BAP an end has one span, on whatever links: where it is too wide it is that of the least link on which the oldest is under
-- way.
abbrev pub calls_outstanding : End → Ends → Option Outstanding
calls_outstanding name e =
    if nat_lt widest (bap_span e)
    then Some (record { end = name; link = (bap_oldest e).link; protocol = BAP; sent = e.own.calls.drawn; oldest = (bap_oldest e).mark })
    else None

abbrev pub if_on_link : ℕ → Option Outstanding → Option Outstanding
if_on_link m None = None
if_on_link m (Some fault) = if fault.link == m then Some fault else None

-- BAP comes last
abbrev pub outstanding_on_link : End → ℕ → Ends → Option Outstanding
outstanding_on_link name m e = option_or (control_outstanding name m e) (if_on_link m (calls_outstanding name e))

-- on so many links, from one on
abbrev pub outstanding_from : End → ℕ → ℕ → Ends → Option Outstanding
outstanding_from name zero m e = None
outstanding_from name (suc more) m e = option_or (outstanding_on_link name m e) (outstanding_from name more (m + 1) e)

abbrev pub outstanding_in : Ends → Option Outstanding
outstanding_in e =
    option_or (outstanding_from A (length e.own.trunk.links) 1 e) (outstanding_from B (length e.own.trunk.links) 1 (turned e))
