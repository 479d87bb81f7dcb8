-- What a trunk does for the entries of a link's step, one after the other: what a signal causes comes in its place, before
-- the next entry (RFC 1661 section 3).
use Rattle.std.specs.Prelude.{◌≡◌, ◌<◌, ◌≤◌, ℕ, zero, suc, ◌-◌, Bool, false, true, ◌==◌, ◌||◌, if◌then◌else◌, List, [], ◌∷◌, ◌++◌, length, Option, Some, None, slice_get}
use Rattle.std.specs.List.{flat_map}
use Rattle.ppp_auto.specs.Auto.{Auto, is_opened}
use Rattle.ppp_packet.specs.declared.proto.Proto.{Proto}
use Rattle.ppp_packet.specs.declared.proto.Proto.TheVariants.{Lcp, Ip, Ipv6, Mpls, Bacp}
use Rattle.ppp_auto.specs.declared.auto_event.AutoEvent.TheVariants.{Down, AdminOpen, AdminClose, Timeout, Up}
use Rattle.ppp_bundle.specs.Bundles.{Bundles, bundle_at, control_of}
use Rattle.ppp_frame.specs.Frame.{enc}
use Rattle.ppp_link.specs.Automata.{auto_at, form_of}
use Rattle.ppp_link.specs.Link.{Fed, Link, event_did, fed_with, link_up, link_with, run_did}
use Rattle.ppp_link.specs.LinkOut.{Entry as Told}
use Rattle.ppp_link.specs.LinkOut as told
use Rattle.ppp_trunk.specs.Control.{Moved, Run, comes, goes, key_in}
use Rattle.ppp_trunk.specs.StationOut.{Entry, Push, Got, Hang}
use Rattle.ppp_trunk.specs.declared.happening.Happening.{Happening as Kept}
use Rattle.ppp_trunk.specs.declared.happening.Happening.TheVariants as kept

-- what was done so far at a trunk: its links and bundles as they are now, and the entries, in order
pub record Done : Type 0 where
  pub links : List Link
  pub bundles : Bundles
  pub out : List Entry

abbrev pub and_tells : Done → Entry → Done
and_tells done entry = record done { out = done.out ++ entry ∷ [] }

-- a list of links with that one in the place of a number, from 1 on
abbrev pub with_link : ℕ → Link → List Link → List Link
with_link l k [] = []
with_link zero k (x ∷ xs) = x ∷ xs
with_link (suc zero) k (x ∷ xs) = k ∷ xs
with_link (suc (suc l)) k (x ∷ xs) = x ∷ with_link (suc l) k xs

-- ---- datagrams

-- The network control protocol that has to be Opened before a datagram is handed up: IPv4 0021, IPv6 0057 and MPLS unicast
-- 0281 (RFC 3032 section 4.3). Others are dropped.
abbrev pub opener_of : ℕ → Option Proto
opener_of protocol =
    if protocol == 0x0021 then Some Ip
    else if protocol == 0x0057 then Some Ipv6
    else if protocol == 0x0281 then Some Mpls
    else None

abbrev pub opened_if : Option Auto → Bool
opened_if None = false
opened_if (Some a) = is_opened a.state

abbrev pub is_opened_at : Option Link → Option Proto → Bool
is_opened_at None p = false
is_opened_at (Some k) None = false
is_opened_at (Some k) (Some p) = opened_if (auto_at k.automata p)

-- whether it is Opened on the link of that number
abbrev pub is_opened_on : List Link → ℕ → Option Proto → Bool
is_opened_on links l p = is_opened_at (slice_get links (l - 1)) p

-- the control link of a link's bundle, if it is in one
abbrev pub control_by : Option ℕ → Bundles → Option ℕ
control_by None b = None
control_by (Some i) b = control_of i b

abbrev pub control_for : ℕ → Bundles → Option ℕ
control_for l b = control_by (bundle_at l b) b

abbrev pub is_opened_control : List Link → Option ℕ → Option Proto → Bool
is_opened_control links None p = false
is_opened_control links (Some c) p = is_opened_on links c p

-- ---- packets of protocols that have no automaton

-- one goes out on a link, in the form that the peer asked for
abbrev pub frame_on : Option Link → ℕ → ℕ → List ℕ → List Entry
frame_on None l protocol packet = []
frame_on (Some k) l protocol packet = Push l (enc (form_of k.automata.lcp) protocol packet) ∷ []

-- ---- entries of a link

-- an entry that causes nothing: a frame goes out on that link
abbrev pub plain : ℕ → Told → List Entry
plain l (told.Push octets) = Push l octets ∷ []
plain l entry = []

abbrev pub all_plain : ℕ → List Told → List Entry
all_plain l es = flat_map (plain l) es

-- control protocols go Up or Down on a link, and what they send goes out there
abbrev pub runs_at : Run → ℕ → Option Link → Done → Done
runs_at r word None done = done
runs_at r word (Some k) done =
    let did = run_did k r.on r.bacp word in
    record { links = with_link r.link (link_with k did) done.links; bundles = done.bundles; out = done.out ++ all_plain r.link did.out }

unfoldable pub runs : ℕ → Run → Done → Done
runs word r done = runs_at r word (slice_get done.links (r.link - 1)) done

unfoldable pub runs_all : ℕ → List Run → Done → Done
runs_all word [] done = done
runs_all word (r ∷ rs) done = runs_all word rs (runs word r done)

abbrev pub follows : ℕ → Moved → Done → Done
follows word m done = runs_all word m.runs (record done { bundles = m.bundles })

-- LCP came to be Opened on a link
abbrev pub comes_up : ℕ → ℕ → Option Link → Done → Done
comes_up l word None done = done
comes_up l word (Some k) done = follows word (comes l (key_in k.automata.lcp) done.bundles) done

-- Datagrams want their control protocol Opened on the link that they came on, or on the control link.
abbrev pub is_opened_for : List Link → ℕ → ℕ → Bundles → Bool
is_opened_for links l protocol b =
    is_opened_on links l (opener_of protocol) || is_opened_control links (control_for l b) (opener_of protocol)

-- What a frame carried is handed up: a packet of BAP where BACP is Opened on the link that it came on (RFC 2125), else as datagrams are.
abbrev pub is_taken : List Link → ℕ → ℕ → Bundles → Bool
is_taken links l protocol b = if protocol == 0xc02d then is_opened_on links l (Some Bacp) else is_opened_for links l protocol b

abbrev pub hands_up : ℕ → ℕ → List ℕ → Done → Done
hands_up l protocol octets done =
    if is_taken done.links l protocol done.bundles then and_tells done (Got None protocol octets) else done

unfoldable pub works_one : ℕ → ℕ → Told → Done → Done
works_one l word (told.Push octets) done = and_tells done (Push l octets)
works_one l word told.LcpUp done = comes_up l word (slice_get done.links (l - 1)) done
works_one l word told.LcpDown done = follows word (goes l done.bundles) done
works_one l word told.Finished done = and_tells done (Hang l)
works_one l word (told.NetUp p) done = done
works_one l word (told.NetDown p) done = done
works_one l word (told.Payload protocol octets) done = hands_up l protocol octets done

unfoldable pub works : ℕ → ℕ → List Told → Done → Done
works l word [] done = done
works l word (e ∷ es) done = works l word es (works_one l word e done)

-- ---- what happens to a link

pub data Happening : Type 0 where
  LineUp : Happening
  LineDown : Happening
  Opens : (proto : Proto) → Happening
  Closes : (proto : Proto) → Happening
  TimesOut : (proto : Proto) → Happening
  Takes : (octets : List ℕ) → Happening

abbrev pub happening_seen : Kept → Happening
happening_seen kept.LineUp = LineUp
happening_seen kept.LineDown = LineDown
happening_seen (kept.Opens p) = Opens p
happening_seen (kept.Closes p) = Closes p
happening_seen (kept.TimesOut p) = TimesOut p
happening_seen (kept.Takes octets) = Takes octets.now

-- what the code has after it
abbrev pub fed_seen : Link → List Told → ℕ → Fed
fed_seen k out used = record { link = k; out = out; used = used }

abbrev pub so_far : List Link → Bundles → List Entry → Done
so_far links b out = record { links = links; bundles = b; out = out }

-- the link's own step
abbrev pub link_does : Happening → Link → ℕ → Fed
link_does LineUp k word = record { link = link_up k word; out = (event_did k Lcp Up word).out; used = 0 }
link_does LineDown k word = let did = event_did k Lcp Down word in record { link = link_with k did; out = did.out; used = 0 }
link_does (Opens p) k word = let did = event_did k p AdminOpen word in record { link = link_with k did; out = did.out; used = 0 }
link_does (Closes p) k word = let did = event_did k p AdminClose word in record { link = link_with k did; out = did.out; used = 0 }
link_does (TimesOut p) k word = let did = event_did k p Timeout word in record { link = link_with k did; out = did.out; used = 0 }
link_does (Takes octets) k word = fed_with k octets word

-- Of octets that come one is used at least, where there is one, and no more than came.
abbrev pub IsUsed : Happening → ℕ → Type 0
IsUsed (Takes octets) used = (used ≤ length octets) × (0 < length octets → 0 < used)
IsUsed what used = used ≡ 0

-- ---- which signals of LCP may come

-- LCP tells that it came to be Opened only where it told before that it left Opened, or where it wasn't.
abbrev pub TellsInTurn : Bool → List Told → Type 0
TellsInTurn opened [] = Unit {0}
TellsInTurn opened (told.LcpUp ∷ es) = (opened ≡ false) × TellsInTurn true es
TellsInTurn opened (told.LcpDown ∷ es) = TellsInTurn false es
TellsInTurn opened (told.Push octets ∷ es) = TellsInTurn opened es
TellsInTurn opened (told.Finished ∷ es) = TellsInTurn opened es
TellsInTurn opened (told.NetUp p ∷ es) = TellsInTurn opened es
TellsInTurn opened (told.NetDown p ∷ es) = TellsInTurn opened es
TellsInTurn opened (told.Payload protocol octets ∷ es) = TellsInTurn opened es

-- while it isn't Opened, the link is in no bundle
pub record InTurn (l : ℕ) (b : Bundles) (es : List Told) : Type 0 where
  pub opened : Bool
  pub tells : TellsInTurn opened es
  pub out : opened ≡ false → bundle_at l b ≡ None
