-- What an event makes of the two ends: how many links there are, and how much is counted.
use Rattle.std.proofs.Common.{◌≡◌, ℕ, zero, suc, ◌+◌, ◌-◌, ◌<◌, ◌≤◌, Bool, List, [], ◌∷◌, length, map, refl, sym, ap, subst, ◌∙◌, arith}
use Rattle.std.specs.Prelude.{Option, Some, None, slice_get}
use Rattle.std.proofs.lemmas.List.{length-map}
use Rattle.ppp_auto.specs.Auto.{Auto}
use Rattle.ppp_auto.specs.Packet.{Packet, Request, Ack, Nak, Reject, Other, packet_of}
use Rattle.ppp_auto.specs.declared.auto_state.AutoState.{AutoState}
use Rattle.ppp_link.specs.Automata.{auto_at}
use Rattle.ppp_link.specs.Link.{Link}
use Rattle.ppp_trunk.specs.Orders.{Order, Commands, SetsCap, Hears, RejectsProtocol, of_link}
use Rattle.ppp_bap.specs.declared.bap_ask.BapAsk.{BapAsk}
use Rattle.ppp_bap.specs.declared.call_ask.CallAsk.{CallAsk}
use Rattle.ppp_trunk.specs.Trunk.{link_ready}
use Rattle.ppp_trunk.specs.StationOut.{AreShort}
use Rattle.ppp_trunk.specs.Steps.{Happening, LineDown, Takes}
use Rattle.ppp_station.specs.Station.{Station, Stepped, moves, station_anew}
use Rattle.ppp_party.specs.Counted.{AllCounted, AreCounted, IsCounted}
use Rattle.ppp_party.specs.Downs.{AreShortDowns}
use Rattle.ppp_party.specs.Frame.{Frame}
use Rattle.ppp_party.specs.Ledger.{Ledger, Ledgers, heard, ledger_at, ledger_begun, ledgers_begun}
use Rattle.ppp_party.specs.Party.{Ends, Party, asked_for_frame, asks, cleared, delivers, downs, happens, heard_by, heard_on, heard_packet, loses, party_begun, posted, reboots, station_of, taking_front, tells, tries, unheard}
use Rattle.ppp_station.specs.Shipped.{answered}
use Rattle.ppp_party.proofs.SendLemmas.{all-more, of-ledgers}
use Rattle.ppp_station.proofs.CountLemmas.{asks-count, hears-count, moves-count, tells-count, tries-count}

-- ---- how many links

pub happens-own : (what : Happening) (l word : ℕ) (e : Ends) → length (happens what l word e).own.trunk.links ≡ length e.own.trunk.links
unfolding happens
happens-own what l word e = moves-count what l (station_of e.own) word

-- the other end's trunk and calls stay
pub happens-other : (what : Happening) (l word : ℕ) (e : Ends) → station_of (happens what l word e).other ≡ station_of e.other
unfolding happens
happens-other what l word e = refl

front-own : (says : CallAsk → Bool) (l word : ℕ) (o : Option (List Frame)) (e : Ends) → length (taking_front says l word o e).own.trunk.links ≡ length e.own.trunk.links
front-own says l word None e = refl
front-own says l word (Some []) e = refl
front-own says l word (Some (f ∷ rest)) e = hears-count (answered says (asked_for_frame l word f e.own)) l f.octets (station_of e.own) word

front-other : (says : CallAsk → Bool) (l word : ℕ) (o : Option (List Frame)) (e : Ends) → station_of (taking_front says l word o e).other ≡ station_of e.other
front-other says l word None e = refl
front-other says l word (Some []) e = refl
front-other says l word (Some (f ∷ rest)) e = refl

pub delivers-own : (says : CallAsk → Bool) (l word : ℕ) (e : Ends) → length (delivers says l word e).own.trunk.links ≡ length e.own.trunk.links
unfolding delivers
delivers-own says l word e = front-own says l word (slice_get e.own.incoming (l - 1)) e

pub delivers-other : (says : CallAsk → Bool) (l word : ℕ) (e : Ends) → station_of (delivers says l word e).other ≡ station_of e.other
unfolding delivers
delivers-other says l word e = front-other says l word (slice_get e.own.incoming (l - 1)) e

pub asks-own : (what : BapAsk) (l word : ℕ) (e : Ends) → length (asks l what word e).own.trunk.links ≡ length e.own.trunk.links
unfolding asks
asks-own what l word e = asks-count l what (station_of e.own) word

pub asks-other : (what : BapAsk) (l word : ℕ) (e : Ends) → station_of (asks l what word e).other ≡ station_of e.other
unfolding asks
asks-other what l word e = refl

pub tells-own : (status l word : ℕ) (e : Ends) → length (tells l status word e).own.trunk.links ≡ length e.own.trunk.links
unfolding tells
tells-own status l word e = tells-count l status (station_of e.own) word

pub tells-other : (status l word : ℕ) (e : Ends) → station_of (tells l status word e).other ≡ station_of e.other
unfolding tells
tells-other status l word e = refl

pub tries-own : (l word : ℕ) (e : Ends) → length (tries l word e).own.trunk.links ≡ length e.own.trunk.links
unfolding tries
tries-own l word e = tries-count l (station_of e.own) word

pub tries-other : (l word : ℕ) (e : Ends) → station_of (tries l word e).other ≡ station_of e.other
unfolding tries
tries-other l word e = refl

pub loses-own : (l place : ℕ) (e : Ends) → station_of (loses l place e).own ≡ station_of e.own
unfolding loses
loses-own l place e = refl

pub loses-other : (l place : ℕ) (e : Ends) → (loses l place e).other ≡ e.other
unfolding loses
loses-other l place e = refl

pub downs-own : (many l word : ℕ) (e : Ends) → length (downs many l word e).own.trunk.links ≡ length e.own.trunk.links
downs-own zero l word e = refl
downs-own (suc many) l word e = downs-own many (l + 1) word (happens LineDown l word e) ∙ happens-own LineDown l word e

pub downs-other : (many l word : ℕ) (e : Ends) → station_of (downs many l word e).other ≡ station_of e.other
downs-other zero l word e = refl
downs-other (suc many) l word e = downs-other many (l + 1) word (happens LineDown l word e) ∙ happens-other LineDown l word e

pub reboots-own : (word : ℕ) (e : Ends) → length (reboots word e).own.trunk.links ≡ length e.own.trunk.links
unfolding reboots
reboots-own word e =
    ap (λ (st : Station). length st.trunk.links) (downs-other (length e.other.trunk.links) 1 word (record { own = cleared e.other; other = party_begun (station_anew (station_of e.own)) }))
    ∙ length-map e.own.trunk.links (λ (k : Link). link_ready k.tables)

pub reboots-other : (word : ℕ) (e : Ends) → length (reboots word e).other.trunk.links ≡ length e.other.trunk.links
unfolding reboots
reboots-other word e = downs-own (length e.other.trunk.links) 1 word (record { own = cleared e.other; other = party_begun (station_anew (station_of e.own)) })

-- ---- how much is counted

pub counted-above : (most more : ℕ) (e : Party) → most ≤ more → AreCounted most e → AreCounted more e
counted-above most more e less all = record { ledgers = all-more most more e.ledgers less all.ledgers; calls = let one = all.calls in omega (arith, one, less) }

pub happens-others : (most : ℕ) (what : Happening) (l word : ℕ) (e : Ends) → AreCounted most e.other → AreCounted most (happens what l word e).other
unfolding happens
happens-others most what l word e all = record { ledgers = all.ledgers; calls = all.calls }

-- what goes out is counted, and the calls stay
pub posted-counted : (most mark : ℕ) (step : Stepped) (now o mid other : Party) → record { own = now; other = o } ≡ posted mark step (record { own = mid; other = other }) → AllCounted most now.ledgers → mid.calls.drawn ≤ most → AreCounted most now
posted-counted most mark step now o mid other is ledgers drawn = record { ledgers = ledgers; calls = omega (arith, drawn, ap (λ (e : Ends). e.own.calls.drawn) is) }

packet-few : (g : Ledger) (state : AutoState) (mark : ℕ) (packet : Packet) → (heard g state mark packet).n ≡ g.n
packet-few g state mark (Request id options) = grind arith
packet-few g state mark (Ack id options) = refl
packet-few g state mark (Nak id options) = refl
packet-few g state mark (Reject id options) = refl
packet-few g state mark (Other code id octets) = refl

heard-few : (g : Ledger) (a : Option Auto) (mark : ℕ) (o : Option Packet) → (heard_packet g a mark o).n ≡ g.n
heard-few g (Some a) mark (Some packet) = packet-few g a.state mark packet
heard-few g (Some a) mark None = refl
heard-few g None mark o = refl

orders-few : (g : Ledger) (a : Option Auto) (mark : ℕ) (os : List Order) → (heard_by g a mark os).n ≡ g.n
orders-few g a mark [] = refl
orders-few g a mark (Commands event ∷ os) = refl
orders-few g a mark (SetsCap cap ∷ os) = refl
orders-few g a mark (Hears octets ∷ os) = heard-few g a mark (packet_of octets)
orders-few g a mark (RejectsProtocol packet ∷ os) = refl

pub heard-counted : (most word : ℕ) (k : Link) (f : Frame) (gs : Ledgers) → IsCounted most gs → IsCounted most (heard_on k f word gs)
heard-counted most word k f gs all p =
    let os = of_link p (Takes f.octets) k word in
    let same : ledger_at (heard_on k f word gs) p ≡ heard_by (ledger_at gs p) (auto_at k.automata p) f.mark os =
    of-ledgers (λ p. heard_by (ledger_at gs p) (auto_at k.automata p) f.mark (of_link p (Takes f.octets) k word)) p in
    let few = orders-few (ledger_at gs p) (auto_at k.automata p) f.mark os in
    let one = all p in
    omega (arith, one, few, ap (λ (g : Ledger). g.n) same)

front-others : (most : ℕ) (says : CallAsk → Bool) (l word : ℕ) (o : Option (List Frame)) (e : Ends) → AreCounted most e.other → AreCounted most (taking_front says l word o e).other
front-others most says l word None e all = all
front-others most says l word (Some []) e all = all
front-others most says l word (Some (f ∷ rest)) e all = record { ledgers = all.ledgers; calls = all.calls }

pub delivers-others : (most : ℕ) (says : CallAsk → Bool) (l word : ℕ) (e : Ends) → AreCounted most e.other → AreCounted most (delivers says l word e).other
unfolding delivers
delivers-others most says l word e all = front-others most says l word (slice_get e.own.incoming (l - 1)) e all

pub asks-others : (most : ℕ) (what : BapAsk) (l word : ℕ) (e : Ends) → AreCounted most e.other → AreCounted most (asks l what word e).other
unfolding asks
asks-others most what l word e all = record { ledgers = all.ledgers; calls = all.calls }

pub tells-others : (most status l word : ℕ) (e : Ends) → AreCounted most e.other → AreCounted most (tells l status word e).other
unfolding tells
tells-others most status l word e all = record { ledgers = all.ledgers; calls = all.calls }

pub tries-others : (most l word : ℕ) (e : Ends) → AreCounted most e.other → AreCounted most (tries l word e).other
unfolding tries
tries-others most l word e all = record { ledgers = all.ledgers; calls = all.calls }

pub loses-counted : (most l place : ℕ) (e : Ends) → AreCounted most e.own → AreCounted most (loses l place e).own
unfolding loses
loses-counted most l place e all = record { ledgers = all.ledgers; calls = all.calls }

-- an end as it begins has counted nothing
begun-each : (links : List Link) → AllCounted 0 (map (λ (k : Link). ledgers_begun) links)
begun-each [] = tt
begun-each (k ∷ ks) = ((λ p. let e = of-ledgers (λ p. ledger_begun) p in omega (arith, ap (λ (g : Ledger). g.n) e)), begun-each ks)

begun-counted : (st : Station) → AreCounted 0 (party_begun st)
begun-counted st = record { ledgers = begun-each st.trunk.links; calls = omega arith }

pub downs-others : (most many l word : ℕ) (e : Ends) → AreCounted most e.other → AreCounted most (downs many l word e).other
downs-others most zero l word e all = all
downs-others most (suc many) l word e all = downs-others most many (l + 1) word (happens LineDown l word e) (happens-others most LineDown l word e all)

pub reboots-counted : (word : ℕ) (e : Ends) → AreCounted 0 (reboots word e).own
unfolding reboots
reboots-counted word e =
    let anew = station_anew (station_of e.own) in
    downs-others 0 (length e.other.trunk.links) 1 word (record { own = cleared e.other; other = party_begun anew }) (begun-counted anew)

-- what was heard counts no longer, and what was sent counts on
cleared-each : (most : ℕ) (gss : List Ledgers) → AllCounted most gss → AllCounted most (map unheard gss)
cleared-each most [] all = tt
cleared-each most (gs ∷ gss) all =
    ((λ p. let one = all.0 p in let same = of-ledgers (λ p. record (ledger_at gs p) { got = 0 }) p in omega (arith, one, ap (λ (g : Ledger). g.n) same)), cleared-each most gss all.1)

pub cleared-counted : (most : ℕ) (e : Party) → AreCounted most e → AreCounted most (cleared e)
cleared-counted most e all = record { ledgers = cleared-each most e.ledgers all.ledgers; calls = all.calls }

-- ---- one line after the other goes down

pub downs-next : (all i word : ℕ) (e new whole : Ends) → i < all → new ≡ happens LineDown (i + 1) word e →
    downs (all - i) (1 + i) word e ≡ whole → downs (all - (i + 1)) (1 + (i + 1)) word new ≡ whole
downs-next all i word e new whole less is left =
    let many : all - i ≡ suc (all - (i + 1)) = omega arith in
    let number : 1 + i ≡ i + 1 = omega arith in
    let next : 1 + (i + 1) ≡ 1 + i + 1 = omega arith in
    (λ k. downs (all - (i + 1)) (next k) word ((is ∙ ap (λ l. happens LineDown l word e) (sym number)) k))
    ∙ ap (λ n. downs n (1 + i) word e) (sym many)
    ∙ left

-- the station that the line goes down at
pub short-next : (all i word : ℕ) (st : Station) (e new : Ends) → i < all → new ≡ happens LineDown (i + 1) word e → AreShort (moves LineDown (i + 1) (station_of e.own) word).out.entries →
    (AreShortDowns word (all - i) (1 + i) (station_of e.own) → AreShortDowns word all 1 st) → AreShortDowns word (all - (i + 1)) (1 + (i + 1)) (station_of new.own) → AreShortDowns word all 1 st
unfolding happens
short-next all i word st e new less is one before rest =
    let many : suc (all - (i + 1)) ≡ all - i = omega (arith, less) in
    let number : i + 1 ≡ 1 + i = omega arith in
    let next : 1 + (i + 1) ≡ i + 1 + 1 = omega arith in
    let after : AreShortDowns word (all - (i + 1)) (i + 1 + 1) (moves LineDown (i + 1) (station_of e.own) word).station =
    subst (λ (e : Ends). AreShortDowns word (all - (i + 1)) (i + 1 + 1) (station_of e.own)) is (subst (λ l. AreShortDowns word (all - (i + 1)) l (station_of new.own)) next rest) in
    let both : AreShortDowns word (suc (all - (i + 1))) (i + 1) (station_of e.own) = (one, after) in
    before (subst (λ n. AreShortDowns word n (1 + i) (station_of e.own)) many (subst (λ l. AreShortDowns word (suc (all - (i + 1))) l (station_of e.own)) number both))
