-- What a step of a world is to the two ends of each protocol on each link, a list of the two ends' own events; the frames that
-- are under way; and the frame that a delivery lends.
use Rattle.std.specs.Prelude.{◌≡◌, ℕ, ⊤, List, ◌∷◌, length, Option, Some}
use Rattle.std.specs.Option.{option_and_then}
use Rattle.ppp_duet.specs.Duet as duet
use Rattle.ppp_duet.specs.Duet.{Duet, Setup, Side, start}
use Rattle.ppp_frame.specs.Deframer.{feed_step}
use Rattle.ppp_frame.specs.Header.{Read}
use Rattle.ppp_link.specs.Link.{Link, read_by}
use Rattle.ppp_link.specs.LinkTables.{table_if, table_of}
use Rattle.ppp_packet.specs.declared.proto.Proto.{Proto}
use Rattle.ppp_party.specs.Events.{Leads, Makes}
use Rattle.ppp_party.specs.Frame.{Frame}
use Rattle.ppp_party.specs.Ledger.{first_id}
use Rattle.ppp_party.specs.Party.{Ends}
use Rattle.ppp_party.specs.Seat.{AreSent}
use Rattle.ppp_party.specs.Spans.{queue_on}
use Rattle.ppp_script.specs.declared.end.End.{End}
use Rattle.ppp_script.specs.declared.end.End.TheVariants.{A, B}
use Rattle.ppp_trunk.specs.Trunk.{IsOfLink}
use Rattle.ppp_world.specs.Agreement.{duet_on, link_on}
use Rattle.ppp_world.specs.SameControl.{SameControl}
use Rattle.ppp_world.specs.Run.{Moment, AgreeEverywhere}
use Rattle.ppp_world.specs.Step.{party_at, peer_of, word_of}
use Rattle.ppp_world.specs.declared.step.Step.{Step}
use Rattle.ppp_world.specs.declared.step.Step.TheVariants.{Happens, Delivers, Asks, Tells, Tries, Loses, Reboots, Reports, Rests}

-- ---- a step of two ends

-- what an end of a protocol on a link begins with: a table without a row, where there is no such link
abbrev pub setup_on : ℕ → Proto → List Link → Setup
setup_on m p links = record { table = table_if (λ k. table_of k.tables p) (link_on m links); first = first_id }

abbrev pub side_of : End → Side
side_of A = duet.A
side_of B = duet.B

-- the two ends' event that one of them begins anew in the k-th step
abbrev pub anew_in : Setup → Setup → ℕ → End → Duet → Duet
anew_in sa sb k at d = duet.happens sa sb d (record { side = side_of at; what = duet.Reboots; word = word_of (peer_of at) k })

-- The k-th step leads from a state of the two ends to another: by their events, of which only the first may be a delivery. Where
-- an end begins anew that event is the first, and those behind it deliver nothing. A report, and a step that does nothing, leaves
-- the two ends as they are.
abbrev pub LeadsIn : ℕ → Step → Setup → Setup → Duet → Duet → Type 0
LeadsIn k (Reboots at) sa sb before after = Leads sa sb (anew_in sa sb k at before) after
LeadsIn k (Happens at l what) sa sb before after = Makes sa sb before after
LeadsIn k (Delivers at l) sa sb before after = Makes sa sb before after
LeadsIn k (Asks at l what) sa sb before after = Makes sa sb before after
LeadsIn k (Tells at l status) sa sb before after = Makes sa sb before after
LeadsIn k (Tries at l) sa sb before after = Makes sa sb before after
LeadsIn k (Loses at l place) sa sb before after = Makes sa sb before after
LeadsIn k Reports sa sb before after = after ≡ before
LeadsIn k Rests sa sb before after = after ≡ before

-- ---- and of a world

-- the two ends of a protocol on a link are in some state of which that is so
pub record StandsOn (m : ℕ) (p : Proto) (e : Ends) (IsSo : Duet → Type 0) : Type 0 where
  pub duet : Duet
  pub there : duet_on m p e ≡ Some duet
  pub so : IsSo duet

-- where both ends have a protocol on a link they have it still, and their states before and after are related so
abbrev pub RelatesOn : (Setup → Setup → Duet → Duet → Type 0) → ℕ → Proto → Ends → Ends → Type 0
RelatesOn Is m p before after =
    (d : Duet) → duet_on m p before ≡ Some d
    → StandsOn m p after (Is (setup_on m p before.own.trunk.links) (setup_on m p before.other.trunk.links) d)

abbrev pub MakesOn : ℕ → Proto → ℕ → Step → Ends → Ends → Type 0
MakesOn m p k step before after = RelatesOn (LeadsIn k step) m p before after

-- on each link, each protocol
abbrev pub MakesEverywhere : Ends → Moment → Type 0
MakesEverywhere before did = (m : ℕ) (p : Proto) → MakesOn m p did.number did.step before did.after

-- ---- as both ends begin

-- the two ends of a protocol on a link stand where events that deliver nothing lead from their start
abbrev pub StartsOn : ℕ → Proto → Ends → Type 0
StartsOn m p e =
    let sa = setup_on m p e.own.trunk.links in
    let sb = setup_on m p e.other.trunk.links in
    (d : Duet) → duet_on m p e ≡ Some d → Leads sa sb (start sa sb) d

abbrev pub StartEverywhere : Ends → Type 0
StartEverywhere e = (m : ℕ) (p : Proto) → StartsOn m p e

-- ---- the frames under way

-- what is under way on a link, both ways, are frames that carry packets of control protocols or of BAP
abbrev pub SentOn : ℕ → Ends → Type 0
SentOn m e = AreSent (queue_on m e.own) × AreSent (queue_on m e.other)

-- on each link that is there
abbrev pub SentEverywhere : Ends → Type 0
SentEverywhere e = (m : ℕ) → IsOfLink (length e.own.trunk.links) m → SentOn m e

-- ---- the frame that is lent

-- what these octets read as on a link, if they end a frame that is one
abbrev pub read_on : List ℕ → Link → Option Read
read_on octets k = (feed_step (read_by k.automata.lcp k.deframer) octets).left.frame

-- the frame that the deframer of an end's link lends
abbrev pub lent_on : ℕ → List Link → Option Read
lent_on l links = option_and_then (λ k. k.deframer.frame) (link_on l links)

-- A delivery's link lends what the front frame's octets read as there.
abbrev pub LendsIn : Step → Ends → Ends → Type 0
LendsIn (Delivers at l) before after =
    (f : Frame) (rest : List Frame) → queue_on l (party_at at before) ≡ f ∷ rest
    → lent_on l (party_at at after).trunk.links ≡ option_and_then (read_on f.octets) (link_on l (party_at at before).trunk.links)
LendsIn (Happens at l what) before after = ⊤
LendsIn (Asks at l what) before after = ⊤
LendsIn (Tells at l status) before after = ⊤
LendsIn (Tries at l) before after = ⊤
LendsIn (Loses at l place) before after = ⊤
LendsIn (Reboots at) before after = ⊤
LendsIn Reports before after = ⊤
LendsIn Rests before after = ⊤

abbrev pub Lends : Ends → Moment → Type 0
Lends before did = LendsIn did.step before did.after

-- all that is promised of a moment
pub record IsRight (before : Ends) (m : Moment) : Type 0 where
  pub agreed : AgreeEverywhere m.after
  pub makes : MakesEverywhere before m
  pub sent : SentEverywhere m.after
  pub control : SameControl m.after
  pub lends : Lends before m
