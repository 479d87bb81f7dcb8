-- What is kept of the two ends of a protocol on a link, by an event at either end.
use Rattle.std.proofs.Common.{◌≡◌, ℕ, ◌-◌, ◌≤◌, Bool, List, [], ◌∷◌, length, map, refl, sym, ap, subst, ◌∙◌, arith}
use Rattle.std.specs.Prelude.{Option, Some, None, slice_get}
use Rattle.ppp_bap.specs.declared.bap_ask.BapAsk.{BapAsk}
use Rattle.ppp_bap.specs.declared.call_ask.CallAsk.{CallAsk}
use Rattle.ppp_duet.specs.Duet as duet
use Rattle.ppp_duet.specs.Duet.{Duet, Event, Happening, Setup, start}
use Rattle.ppp_duet.specs.NarrowRun.{IsNarrowWhereTaken, NarrowIfTaken}
use Rattle.ppp_duet.specs.Reached.{Reached}
use Rattle.ppp_duet.specs.Span.{Narrow}
use Rattle.ppp_duet.proofs.ReachedLemmas.{reached_more, reached_on, reached_start}
use Rattle.ppp_packet.specs.declared.proto.Proto.{Proto}
use Rattle.ppp_link.specs.Link.{Link}
use Rattle.ppp_trunk.specs.Phases.{IsTrunk}
use Rattle.ppp_trunk.specs.Trunk.{Trunk, IsBegun, IsOfLink}
use Rattle.ppp_trunk.specs.StationOut.{AreShort}
use Rattle.ppp_trunk.specs.Steps.{Happening as Happens}
use Rattle.ppp_station.specs.Station.{IsStation, Station, asks_peer, moves, tells_peer, tries_again}
use Rattle.ppp_party.specs.Downs.{AllShortDowns}
use Rattle.ppp_party.specs.Events.{DeliversFirst, AreCaused, IsCaused, Leads, Makes}
use Rattle.ppp_party.specs.Frame.{Frame, only}
use Rattle.ppp_party.specs.Kept.{Kept, duet_of}
use Rattle.ppp_party.specs.Ledger.{end_of, ledger_at}
use Rattle.ppp_party.specs.Party.{Ends, IsShortDelivery, asks, delivers, ends_begun, happens, loses, reboots, station_of, taking_front, tells, tries, turned}
use Rattle.ppp_party.specs.Seat.{Anew, Came, IsNoFrame, IsSpoken, Seat, SeatAt, rebooted}
use Rattle.ppp_party.proofs.CameLemmas.{asks-came, delivers-came, happens-came, loses-came, tells-came, tries-came}
use Rattle.ppp_party.proofs.RebootLemmas.{begins-came, flip-one, flip-run, flipped, reboots-came}

-- ---- states that are led to

no-delivery : (what : Happening) (d : Duet) → IsCaused what → NarrowIfTaken what d
no-delivery (duet.Commands event) d none = λ same. absurd (cc)
no-delivery (duet.SetsCap cap) d none = λ same. absurd (cc)
no-delivery (duet.RejectsProtocol id octets) d none = λ same. absurd (cc)
no-delivery duet.Delivers d none = absurd none
no-delivery (duet.Loses place) d none = λ same. absurd (cc)
no-delivery duet.Reboots d none = absurd none

none-taken : (sa sb : Setup) (es : List Event) (d : Duet) → AreCaused es → IsNarrowWhereTaken sa sb es d
none-taken sa sb [] d none = tt
none-taken sa sb (e ∷ es) d none = (no-delivery e.what d none.0, none-taken sa sb es (duet.happens sa sb d e) none.1)

first-taken : (sa sb : Setup) (es : List Event) (d : Duet) → DeliversFirst es → Narrow d → IsNarrowWhereTaken sa sb es d
first-taken sa sb [] d first narrow = tt
first-taken sa sb (e ∷ es) d first narrow = (λ same. narrow, none-taken sa sb es (duet.happens sa sb d e) first.1)

pub reached-makes : (sa sb : Setup) (a b : Duet) → Narrow a → Makes sa sb a b → Reached sa sb a → Reached sa sb b
reached-makes sa sb a b narrow makes reached = subst (Reached sa sb) makes.leads (reached_more sa sb a makes.events (first-taken sa sb makes.events a makes.first narrow) reached)

-- ---- the other end

-- its link and its ledgers stay, and what is under way to it is what goes out
pub record IsSame (before after : Ends) : Type 0 where
  pub trunk : after.other.trunk ≡ before.other.trunk
  pub ledgers : after.other.ledgers ≡ before.other.ledgers

pub same-then : (a b c : Ends) → IsSame a b → IsSame b c → IsSame a c
same-then a b c one two = record { trunk = two.trunk ∙ one.trunk; ledgers = two.ledgers ∙ one.ledgers }

abbrev pub other_with : Seat → Seat → Seat
other_with o s = record { link = o.link; ledgers = o.ledgers; incoming = s.outgoing; outgoing = s.incoming }

pub other-at : (m : ℕ) (before after : Ends) (o s : Seat) → IsSame before after → SeatAt m (turned before) o → SeatAt m after s → SeatAt m (turned after) (other_with o s)
other-at m before after o s same was at = record {
  link = ap (λ (st : Trunk). slice_get st.links (m - 1)) same.trunk ∙ was.link;
  ledgers = ap (λ gs. slice_get gs (m - 1)) same.ledgers ∙ was.ledgers;
  incoming = at.outgoing;
  outgoing = at.incoming;
}

-- the two queues are the same from both ends
pub record AreQueues (own other : Seat) : Type 0 where
  pub incoming : other.incoming ≡ own.outgoing
  pub outgoing : other.outgoing ≡ own.incoming

pub queues-at : (m : ℕ) (e : Ends) (s o : Seat) → SeatAt m e s → SeatAt m (turned e) o → AreQueues s o
queues-at m e s o own other = record {
  incoming = let both : Some o.incoming ≡ Some s.outgoing = sym other.incoming ∙ own.outgoing in cc;
  outgoing = let both : Some o.outgoing ≡ Some s.incoming = sym other.outgoing ∙ own.incoming in cc;
}

-- ---- what an event makes of two ends that both speak it

-- they do so still, and a list of their events leads there
pub record MadeFrom (sa sb : Setup) (p : Proto) (m : ℕ) (before : Duet) (after : Ends) : Type 0 where
  pub kept : Kept sa sb p m after
  pub makes : Makes sa sb before (duet_of kept)

-- the same of a list that delivers nothing
pub record LedFrom (sa sb : Setup) (p : Proto) (m : ℕ) (before : Duet) (after : Ends) : Type 0 where
  pub kept : Kept sa sb p m after
  pub leads : Leads sa sb before (duet_of kept)

-- an event at the own end
pub came-made : (sa sb : Setup) (p : Proto) (m : ℕ) (before after : Ends) (k : Kept sa sb p m before) → IsSame before after → Narrow (duet_of k) →
    Came sa sb p m k.own k.own_auto (end_of k.other_auto (ledger_at k.other.ledgers p)) after → MadeFrom sa sb p m (duet_of k) after
came-made sa sb p m before after k same narrow came =
    let queues = queues-at m before k.own k.other k.own_seated.at k.other_seated.at in
    let few = k.other_seated.well.few in
    record {
      kept = record {
        own = came.seat;
        other = other_with k.other came.seat;
        own_auto = came.auto;
        other_auto = k.other_auto;
        own_seated = came.seated;
        other_seated = record {
          trunk = subst IsTrunk (sym same.trunk) k.other_seated.trunk;
          at = other-at m before after k.other came.seat same k.other_seated.at came.seated.at;
          well = record {
            settled = k.other_seated.well.settled;
            incoming = came.seated.well.outgoing;
            outgoing = came.seated.well.incoming;
            few = omega (arith, came.fewer, few, ap length queues.outgoing);
          };
          end = record { spoken = k.other_seated.end.spoken; auto = k.other_seated.end.auto; kept = k.other_seated.end.kept };
        };
        reached = reached-makes sa sb _ _ narrow came.makes k.reached;
      };
      makes = came.makes;
    }

pub came-kept : (sa sb : Setup) (p : Proto) (m : ℕ) (before after : Ends) (k : Kept sa sb p m before) → IsSame before after → Narrow (duet_of k) →
    Came sa sb p m k.own k.own_auto (end_of k.other_auto (ledger_at k.other.ledgers p)) after → Kept sa sb p m after
came-kept sa sb p m before after k same narrow came = (came-made sa sb p m before after k same narrow came).kept

pub reached-leads : (sa sb : Setup) (a b : Duet) → Leads sa sb a b → Reached sa sb a → Reached sa sb b
reached-leads sa sb a b l reached = subst (Reached sa sb) l.leads (reached_more sa sb a l.events (none-taken sa sb l.events a l.none) reached)

-- both ends as they begin, and one that begins anew
anew-led : (sa sb : Setup) (p : Proto) (m : ℕ) (d : Duet) (after : Ends) → Reached sa sb d → Anew sa sb p m d after → LedFrom sa sb p m d after
anew-led sa sb p m d after reached anew = record {
  kept = record {
    own = anew.own;
    other = anew.other;
    own_auto = anew.own_auto;
    other_auto = anew.other_auto;
    own_seated = anew.own_seated;
    other_seated = anew.other_seated;
    reached = reached-leads sa sb d _ anew.leads reached;
  };
  leads = anew.leads;
}

-- ---- seen from the other end

narrow-turned : (d : Duet) → Narrow d → Narrow (duet.turned d)
narrow-turned d narrow = record { of_a = narrow.of_b; of_b = narrow.of_a }

flip-taken : (sa sb : Setup) (es : List Event) (d : Duet) → IsNarrowWhereTaken sa sb es d → IsNarrowWhereTaken sb sa (map flipped es) (duet.turned d)
unfolding flipped
flip-taken sa sb [] d taken = tt
flip-taken sa sb (e ∷ es) d taken =
    (λ same. narrow-turned d (taken.0 same), subst (IsNarrowWhereTaken sb sa (map flipped es)) (flip-one sa sb d e) (flip-taken sa sb es (duet.happens sa sb d e) taken.1))

reached-turned : (sa sb : Setup) (d : Duet) → Reached sa sb d → Reached sb sa (duet.turned d)
reached-turned sa sb d r = record {
  events = map flipped r.events;
  narrow = flip-taken sa sb r.events (start sa sb) r.narrow;
  ends = sym (flip-run sa sb r.events (start sa sb)) ∙ ap duet.turned r.ends;
}

pub turned-kept : (sa sb : Setup) (p : Proto) (m : ℕ) (e : Ends) → Kept sa sb p m e → Kept sb sa p m (turned e)
turned-kept sa sb p m e k =
    let queues = queues-at m e k.own k.other k.own_seated.at k.other_seated.at in
    record {
      own = k.other;
      other = k.own;
      own_auto = k.other_auto;
      other_auto = k.own_auto;
      own_seated = k.other_seated;
      other_seated = k.own_seated;
      reached = subst (Reached sb sa) (sym (λ i. record {
        a = end_of k.other_auto (ledger_at k.other.ledgers p);
        b = end_of k.own_auto (ledger_at k.own.ledgers p);
        to_a = only p (queues.incoming i);
        to_b = only p (queues.outgoing i);
      })) (reached-turned sa sb _ k.reached);
    }

-- ---- the steps

pub happens-same : (what : Happens) (l word : ℕ) (e : Ends) → IsSame e (happens what l word e)
unfolding happens
happens-same what l word e = record { trunk = refl; ledgers = refl }

front-same : (says : CallAsk → Bool) (l word : ℕ) (o : Option (List Frame)) (e : Ends) → IsSame e (taking_front says l word o e)
front-same says l word None e = record { trunk = refl; ledgers = refl }
front-same says l word (Some []) e = record { trunk = refl; ledgers = refl }
front-same says l word (Some (f ∷ rest)) e = record { trunk = refl; ledgers = refl }

pub delivers-same : (says : CallAsk → Bool) (l word : ℕ) (e : Ends) → IsSame e (delivers says l word e)
unfolding delivers
delivers-same says l word e = front-same says l word (slice_get e.own.incoming (l - 1)) e

pub asks-same : (what : BapAsk) (l word : ℕ) (e : Ends) → IsSame e (asks l what word e)
unfolding asks
asks-same what l word e = record { trunk = refl; ledgers = refl }

pub tells-same : (status l word : ℕ) (e : Ends) → IsSame e (tells l status word e)
unfolding tells
tells-same status l word e = record { trunk = refl; ledgers = refl }

pub tries-same : (l word : ℕ) (e : Ends) → IsSame e (tries l word e)
unfolding tries
tries-same l word e = record { trunk = refl; ledgers = refl }

pub loses-same : (l place : ℕ) (e : Ends) → IsSame e (loses l place e)
unfolding loses
loses-same l place e = record { trunk = refl; ledgers = refl }

pub begins-kept : (sa sb : Setup) (p : Proto) (m : ℕ) (own other : Station) (k j : Link) → slice_get own.trunk.links (m - 1) ≡ Some k → slice_get other.trunk.links (m - 1) ≡ Some j →
    IsBegun own.trunk → IsBegun other.trunk → IsSpoken sa p k.tables → IsSpoken sb p j.tables → Kept sa sb p m (ends_begun own other)
begins-kept sa sb p m own other k j there here ready steady spoken heard =
    (anew-led sa sb p m (start sa sb) _ (reached_start sa sb) (begins-came sa sb p m own other k j there here ready steady spoken heard)).kept

pub happens-made : (sa sb : Setup) (p : Proto) (what : Happens) (l m word : ℕ) (e : Ends) (k : Kept sa sb p m e) → IsOfLink (length e.own.trunk.links) l → 1 ≤ m → Narrow (duet_of k) →
    IsNoFrame what → AreShort (moves what l (station_of e.own) word).out.entries → MadeFrom sa sb p m (duet_of k) (happens what l word e)
happens-made sa sb p what l m word e k of least narrow quiet short =
    came-made sa sb p m e _ k (happens-same what l word e) narrow
    (happens-came sa sb p what l m word e k.own k.own_auto (end_of k.other_auto (ledger_at k.other.ledgers p)) of least quiet short k.own_seated)

pub delivers-made : (sa sb : Setup) (p : Proto) (says : CallAsk → Bool) (l m word : ℕ) (e : Ends) (k : Kept sa sb p m e) → IsStation (station_of e.own) → IsOfLink (length e.own.trunk.links) l → 1 ≤ m → Narrow (duet_of k) →
    IsShortDelivery says l word e.own → MadeFrom sa sb p m (duet_of k) (delivers says l word e)
delivers-made sa sb p says l m word e k well of least narrow short =
    came-made sa sb p m e _ k (delivers-same says l word e) narrow
    (delivers-came sa sb p says l m word e k.own k.own_auto (end_of k.other_auto (ledger_at k.other.ledgers p)) well of least short k.own_seated)

pub asks-made : (sa sb : Setup) (p : Proto) (what : BapAsk) (l m word : ℕ) (e : Ends) (k : Kept sa sb p m e) → IsStation (station_of e.own) → IsOfLink (length e.own.trunk.links) l → 1 ≤ m → Narrow (duet_of k) →
    AreShort (asks_peer l what (station_of e.own) word).out.entries → MadeFrom sa sb p m (duet_of k) (asks l what word e)
asks-made sa sb p what l m word e k well of least narrow short =
    came-made sa sb p m e _ k (asks-same what l word e) narrow
    (asks-came sa sb p what l m word e k.own k.own_auto (end_of k.other_auto (ledger_at k.other.ledgers p)) well of least short k.own_seated)

pub tells-made : (sa sb : Setup) (p : Proto) (status l m word : ℕ) (e : Ends) (k : Kept sa sb p m e) → IsStation (station_of e.own) → IsOfLink (length e.own.trunk.links) l → 1 ≤ m → Narrow (duet_of k) →
    AreShort (tells_peer l status (station_of e.own) word).out.entries → MadeFrom sa sb p m (duet_of k) (tells l status word e)
tells-made sa sb p status l m word e k well of least narrow short =
    came-made sa sb p m e _ k (tells-same status l word e) narrow
    (tells-came sa sb p status l m word e k.own k.own_auto (end_of k.other_auto (ledger_at k.other.ledgers p)) well of least short k.own_seated)

pub tries-made : (sa sb : Setup) (p : Proto) (l m word : ℕ) (e : Ends) (k : Kept sa sb p m e) → IsStation (station_of e.own) → IsOfLink (length e.own.trunk.links) l → 1 ≤ m → Narrow (duet_of k) →
    AreShort (tries_again l (station_of e.own) word).out.entries → MadeFrom sa sb p m (duet_of k) (tries l word e)
tries-made sa sb p l m word e k well of least narrow short =
    came-made sa sb p m e _ k (tries-same l word e) narrow
    (tries-came sa sb p l m word e k.own k.own_auto (end_of k.other_auto (ledger_at k.other.ledgers p)) well of least short k.own_seated)

pub loses-made : (sa sb : Setup) (p : Proto) (l m place : ℕ) (e : Ends) (k : Kept sa sb p m e) → 1 ≤ l → 1 ≤ m → Narrow (duet_of k) → MadeFrom sa sb p m (duet_of k) (loses l place e)
loses-made sa sb p l m place e k low least narrow =
    came-made sa sb p m e _ k (loses-same l place e) narrow
    (loses-came sa sb p l m place e k.own k.own_auto (end_of k.other_auto (ledger_at k.other.ledgers p)) low least k.own_seated)

pub reboots-led : (sa sb : Setup) (p : Proto) (m word : ℕ) (e : Ends) (k : Kept sa sb p m e) → 1 ≤ m → AllShortDowns word (station_of e.other) → LedFrom sa sb p m (rebooted sa sb word (duet_of k)) (reboots word e)
reboots-led sa sb p m word e k least short =
    anew-led sa sb p m (rebooted sa sb word (duet_of k)) _ (reached_on sa sb (duet_of k) (record { side = duet.A; what = duet.Reboots; word = word }) (λ same. absurd (cc)) k.reached)
    (reboots-came sa sb p m word e k.own k.other k.own_auto k.other_auto least short k.own_seated k.other_seated)

-- ---- what is kept

pub loses-kept : (sa sb : Setup) (p : Proto) (l m place : ℕ) (e : Ends) (k : Kept sa sb p m e) → 1 ≤ l → 1 ≤ m → Narrow (duet_of k) → Kept sa sb p m (loses l place e)
loses-kept sa sb p l m place e k low least narrow = (loses-made sa sb p l m place e k low least narrow).kept

pub reboots-kept : (sa sb : Setup) (p : Proto) (m word : ℕ) (e : Ends) (k : Kept sa sb p m e) → 1 ≤ m → AllShortDowns word (station_of e.other) → Kept sa sb p m (reboots word e)
reboots-kept sa sb p m word e k least short = (reboots-led sa sb p m word e k least short).kept
