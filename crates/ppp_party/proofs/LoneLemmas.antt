-- What an event at an end makes of a link, for a protocol that only one end speaks.
use Rattle.std.proofs.Common.{◌≡◌, ◌≢◌, ℕ, zero, suc, ◌+◌, ◌-◌, ◌≤◌, Bool, true, false, if◌then◌else◌, List, [], ◌∷◌, ◌++◌, length, refl, sym, ap, subst, ◌∙◌, inl, inr, length-take, arith}
use Rattle.std.specs.Prelude.{◌⊎◌, Option, Some, None, slice_get}
use Rattle.std.proofs.lemmas.Grind.{flat_map-append}
use Rattle.ppp_auto.specs.Auto.{Auto, is_off}
use Rattle.ppp_auto.specs.Packet.{Packet, Request, Ack, Nak, Reject, Other, packet_of}
use Rattle.ppp_auto.specs.declared.auto_state.AutoState.{AutoState}
use Rattle.ppp_packet.specs.declared.proto.Proto.{Proto}
use Rattle.ppp_duet.proofs.Queues.{by_request, marks_append}
use Rattle.ppp_link.specs.Automata.{auto_at}
use Rattle.ppp_link.specs.Link.{Link}
use Rattle.ppp_bap.specs.declared.bap_ask.BapAsk.{BapAsk}
use Rattle.ppp_bap.specs.declared.call_ask.CallAsk.{CallAsk}
use Rattle.ppp_bundle.specs.Bundles.{bundle_at}
use Rattle.ppp_trunk.specs.Orders.{Order, Commands, SetsCap, Hears, RejectsProtocol, of_link}
use Rattle.ppp_trunk.specs.StationOut.{AreShort}
use Rattle.ppp_trunk.specs.Steps.{Happening, LineDown, Takes}
use Rattle.ppp_trunk.specs.Trunk.{IsOfLink}
use Rattle.ppp_trunk.proofs.MovesLemmas.{counts}
use Rattle.ppp_station.specs.Moves.{AreCaused, Does, IsMoved, Move, Moved, moves_all, moves_one}
use Rattle.ppp_station.specs.Station.{IsStation, Station, Stepped, asks_peer, moves, tells_peer, tries_again}
use Rattle.ppp_station.specs.Steps.{bundle_timed}
use Rattle.ppp_station.proofs.KeptLemmas.{moved-asks, moved-tells, moved-tries}
use Rattle.ppp_party.specs.Calls.{Calls, notes_ask, notes_drawn, ordinal_if}
use Rattle.ppp_party.specs.Downs.{AreShortDowns}
use Rattle.ppp_party.specs.Frame.{Frame, carried, marked_frames, only, packets_for, seen}
use Rattle.ppp_party.specs.Ledger.{Ledger, Ledgers, heard, ledger_at, noted_all, stamped}
use Rattle.ppp_party.specs.Party.{Ends, IsShortDelivery, asks, delivers, downs, happens, heard_by, heard_on, heard_packet, loses, posted, pushes_on, queued, room, station_of, taken, taking_front, tells, tries, with_heard}
use Rattle.ppp_party.specs.Seat.{Seat, SeatAt, seat_loses, seat_posted}
use Rattle.ppp_party.proofs.CameLemmas.{AreTaken, IsCalled, IsTaken, are-taken, calls-at, moves_begun, took}
use Rattle.ppp_party.proofs.KeptLemmas.{IsSame, same-then}
use Rattle.ppp_party.proofs.ListLemmas.{there-is}
use Rattle.ppp_party.proofs.MoveLemmas.{Silent, count-one, short-all, short-passed, silent-all, silent-does}
use Rattle.ppp_party.proofs.PostLemmas.{marked-frames, none-only, noted-frames}
use Rattle.ppp_party.proofs.SeatLemmas.{heard-others, heard-own, length-without, lost, lost-others, lost-own, posted-at, same-or}
use Rattle.ppp_party.proofs.SpansLemmas.{AreNear, near-take, stamped-near}
use Rattle.ppp_party.proofs.StepLemmas.{IsLess, heard-at, less-first, less-without, none-without}

-- an end that doesn't speak the protocol sends nothing of it
pub record IsQuiet (p : Proto) (s new : Seat) : Type 0 where
  pub auto : auto_at new.link.automata p ≡ None
  pub sent : (ledger_at new.ledgers p).n ≡ (ledger_at s.ledgers p).n
  pub none : only p s.outgoing ≡ [] → only p new.outgoing ≡ []

-- what becomes of a link of an end by an event at the end
pub record Becomes (p : Proto) (s new : Seat) : Type 0 where
  pub tables : new.link.tables ≡ s.link.tables
  pub less : IsLess (only p new.incoming) (only p s.incoming)
  pub fewer : length new.incoming ≤ length s.incoming
  pub few : length s.outgoing ≤ room → length new.outgoing ≤ room
  pub quiet : auto_at s.link.automata p ≡ None → IsQuiet p s new

-- the requests under way from there are near the newest ordinal, if they were
abbrev pub StaysNear : Proto → Seat → Seat → Type 0
StaysNear p s new = AreNear (ledger_at s.ledgers p).n (only p s.outgoing) → AreNear (ledger_at s.ledgers p).n (only p new.outgoing)

pub stays-so : (p : Proto) (s : Seat) → Becomes p s s
stays-so p s = record {
  tables = refl;
  less = (0, sym (none-without (only p s.incoming)));
  fewer = omega arith;
  few = λ few. few;
  quiet = λ none. record { auto = none; sent = refl; none = λ none. none };
}

-- one event behind the other, of which the second takes nothing
pub becomes-then : (p : Proto) (s mid new : Seat) → Becomes p s mid → new.incoming ≡ mid.incoming → Becomes p mid new → Becomes p s new
becomes-then p s mid new one same two = record {
  tables = two.tables ∙ one.tables;
  less = (one.less.0, ap (only p) same ∙ one.less.1);
  fewer = omega (arith, one.fewer, two.fewer);
  few = λ few. two.few (one.few few);
  quiet = λ silent.
      let first = one.quiet silent in
      let next = two.quiet first.auto in
      record { auto = next.auto; sent = next.sent ∙ first.sent; none = λ none. next.none (first.none none) };
}

-- ---- the trunk's step

only-append : (p : Proto) (xs ys : List Frame) → only p (xs ++ ys) ≡ only p xs ++ only p ys
only-append p xs ys = flat_map-append (seen p) xs ys

near-queued : (n : ℕ) (p : Proto) (queue : List Frame) (gs : Ledgers) (mark : ℕ) (frames : List (List ℕ)) → n ≤ (ledger_at gs p).n → AreNear n (only p queue) →
    AreNear n (only p (queued queue (marked_frames gs mark frames)))
near-queued n p queue gs mark frames below near =
    let sent = marked_frames gs mark frames in
    let new : AreNear n (only p sent) = subst (AreNear n) (sym (marked-frames gs p mark frames)) (stamped-near n (ledger_at gs p) mark (packets_for p frames) below) in
    near-take n p room (queue ++ sent) (subst (AreNear n) (sym (only-append p queue sent)) (marks_append by_request _ (only p queue) (only p sent) near new))

-- the end's ledgers and what is under way to it, before the step; the link then, and the frames that went out on it
module _ (p : Proto) (m mark : ℕ) (s : Seat) (gs : Ledgers) (incoming : List Frame) (mv : Moved)
    (g : Silent p m s.link mv) (same : (ledger_at gs p).n ≡ (ledger_at s.ledgers p).n) where
  abbrev before : Seat
  before = record s { ledgers = gs; incoming = incoming }

  posted-quiet : auto_at s.link.automata p ≡ None → IsQuiet p s (seat_posted mark g.link (pushes_on m mv.out) before)
  posted-quiet silent =
      let frames = pushes_on m mv.out in
      let none = g.none silent in
      let sent : only p (marked_frames gs mark frames) ≡ [] = marked-frames gs p mark frames ∙ ap (stamped (ledger_at gs p) mark) none in
      record {
        auto = g.auto silent;
        sent = ap (λ (g : Ledger). g.n) (noted-frames gs p frames ∙ ap (noted_all (ledger_at gs p)) none) ∙ same;
        none = λ empty. none-only p (s.outgoing ++ marked_frames gs mark frames) room
            (only-append p s.outgoing (marked_frames gs mark frames) ∙ (λ i. empty i ++ sent i));
      }

  pub posted-so : IsLess (only p incoming) (only p s.incoming) → length incoming ≤ length s.incoming → Becomes p s (seat_posted mark g.link (pushes_on m mv.out) before)
  posted-so less fewer = record {
    tables = g.tables;
    less = less;
    fewer = fewer;
    few = λ few. omega (arith, length-take room (s.outgoing ++ marked_frames gs mark (pushes_on m mv.out)));
    quiet = λ silent. posted-quiet silent;
  }

  pub posted-near : StaysNear p s (seat_posted mark g.link (pushes_on m mv.out) before)
  posted-near near = near-queued (ledger_at s.ledgers p).n p s.outgoing gs mark (pushes_on m mv.out) (omega (arith, same)) near

-- what is heard of draws no ordinal
heard-sent : (g : Ledger) (state : AutoState) (mark : ℕ) (packet : Packet) → (heard g state mark packet).n ≡ g.n
heard-sent g state mark (Request id options) = off (is_off state)
  where
    off : (b : Bool) → (if b then g else record g { got = mark }).n ≡ g.n
    off true = refl
    off false = refl
heard-sent g state mark (Ack id options) = refl
heard-sent g state mark (Nak id options) = refl
heard-sent g state mark (Reject id options) = refl
heard-sent g state mark (Other code id octets) = refl

packet-sent : (g : Ledger) (a : Option Auto) (mark : ℕ) (o : Option Packet) → (heard_packet g a mark o).n ≡ g.n
packet-sent g None mark o = refl
packet-sent g (Some a) mark None = refl
packet-sent g (Some a) mark (Some packet) = heard-sent g a.state mark packet

by-sent : (g : Ledger) (a : Option Auto) (mark : ℕ) (os : List Order) → (heard_by g a mark os).n ≡ g.n
by-sent g a mark [] = refl
by-sent g a mark (Commands event ∷ os) = refl
by-sent g a mark (SetsCap cap ∷ os) = refl
by-sent g a mark (Hears octets ∷ os) = packet-sent g a mark (packet_of octets)
by-sent g a mark (RejectsProtocol packet ∷ os) = refl

heard-same : (p : Proto) (word : ℕ) (f : Frame) (s : Seat) → (ledger_at (heard_on s.link f word s.ledgers) p).n ≡ (ledger_at s.ledgers p).n
heard-same p word f s =
    ap (λ (g : Ledger). g.n) (heard-at s.link f word s.ledgers p) ∙ by-sent (ledger_at s.ledgers p) (auto_at s.link.automata p) f.mark (of_link p (Takes f.octets) s.link word)

loses-so : (p : Proto) (place : ℕ) (s : Seat) → Becomes p s (seat_loses place s)
loses-so p place s = record {
  tables = refl;
  less = less-without p place s.incoming;
  fewer = length-without place s.incoming;
  few = λ few. few;
  quiet = λ none. record { auto = none; sent = refl; none = λ none. none };
}

-- ---- among all links

-- the link as it is after an event at the end, on whatever link; the other end's trunk stays
pub record Goes (m : ℕ) (p : Proto) (e : Ends) (s : Seat) (after : Ends) : Type 0 where
  pub new : Seat
  pub at : SeatAt m after new
  pub becomes : Becomes p s new
  pub near : StaysNear p s new
  pub same : IsSame e after

stays-there : (m : ℕ) (p : Proto) (e : Ends) (s : Seat) → SeatAt m e s → Goes m p e s e
stays-there m p e s at = record { new = s; at = at; becomes = stays-so p s; near = λ near. near; same = record { trunk = refl; ledgers = refl } }

-- the links as a station's step left them
abbrev moved_to : Stepped → Moved
moved_to step = record { trunk = step.station.trunk; out = step.out.entries }

start-silent : (p : Proto) (m : ℕ) (e : Ends) (s : Seat) → SeatAt m e s → Silent p m s.link (moves_begun e.own.trunk)
start-silent p m e s at = record { link = s.link; at = at.link; tables = refl; auto = λ silent. silent; none = λ silent. refl }

-- what the moves came to is what the step came to
step-goes : (p : Proto) (m mark : ℕ) (step : Stepped) (e now : Ends) (s : Seat) (gs : Ledgers) (incoming : List Frame) → 1 ≤ m → SeatAt m now (record s { ledgers = gs; incoming = incoming }) →
    now.other.trunk ≡ e.other.trunk → now.other.ledgers ≡ e.other.ledgers → (ledger_at gs p).n ≡ (ledger_at s.ledgers p).n → IsLess (only p incoming) (only p s.incoming) → length incoming ≤ length s.incoming →
    Silent p m s.link (moved_to step) → Goes m p e s (posted mark step now)
step-goes p m mark step e now s gs incoming least at trunk ledgers same less fewer g =
    let base : Seat = record s { ledgers = gs; incoming = incoming } in
    let frames = pushes_on m step.out.entries in
    record {
      new = seat_posted mark g.link frames base;
      at = posted-at mark m step now base g.link frames least g.at refl at;
      becomes = posted-so p m mark s gs incoming (moved_to step) g same less fewer;
      near = posted-near p m mark s gs incoming (moved_to step) g same;
      same = record { trunk = trunk; ledgers = ledgers };
    }

all-less : (p : Proto) (s : Seat) → IsLess (only p s.incoming) (only p s.incoming)
all-less p s = (0, sym (none-without (only p s.incoming)))

pub happens-goes : (p : Proto) (what : Happening) (l m word : ℕ) (e : Ends) (s : Seat) → IsOfLink (length e.own.trunk.links) l → 1 ≤ m →
    AreShort (moves what l (station_of e.own) word).out.entries → SeatAt m e s → Goes m p e s (happens what l word e)
unfolding happens
happens-goes p what l m word e s of least short at =
    step-goes p m 0 (moves what l (station_of e.own) word) e e s s.ledgers s.incoming least at refl refl refl (all-less p s) (omega arith)
    (silent-does p m word s.link what l (moves_begun e.own.trunk) least of (short-passed _ short) (start-silent p m e s at))

-- what BAP causes follows
tail-silent : (p : Proto) (m word : ℕ) (k : Link) (before : Station) (first : Move) (step : Stepped) → 1 ≤ m → IsMoved (first ∷ []) word before step.station step.out.entries → AreShort step.out.entries →
    (AreShort (moves_one word first (moves_begun before.trunk)).out → Silent p m k (moves_one word first (moves_begun before.trunk))) → Silent p m k (moved_to step)
tail-silent p m word k before first step least moved short start =
    let mv = moves_one word first (moves_begun before.trunk) in
    let all : AreShort (moves_all word moved.more mv).out = subst (λ (x : Moved). AreShort x.out) (sym moved.leads) short in
    subst (Silent p m k) moved.leads
    (silent-all p m word k moved.more mv least (subst (λ n. AreCaused n moved.more) (sym (count-one word first (moves_begun before.trunk))) moved.caused) all
    (start (short-all word moved.more mv all)))

taken-silent : (p : Proto) (l m word : ℕ) (f : Frame) (step : Stepped) (e : Ends) (s : Seat) → IsOfLink (length e.own.trunk.links) l → 1 ≤ m → IsTaken l word f e step → AreShort step.out.entries → SeatAt m e s →
    Silent p m s.link (moved_to step)
taken-silent p l m word f step e s of least moved short at =
    tail-silent p m word s.link (station_of e.own) (Does (Takes f.octets) l) step least moved short
    (λ first. silent-does p m word s.link (Takes f.octets) l (moves_begun e.own.trunk) least of (short-passed _ first) (start-silent p m e s at))

-- on the link that the frame came on
taking-own : (p : Proto) (l word : ℕ) (f : Frame) (rest : List Frame) (step : Stepped) (e : Ends) (s : Seat) → IsOfLink (length e.own.trunk.links) l → s.incoming ≡ f ∷ rest →
    IsTaken l word f e step → AreShort step.out.entries → SeatAt l e s → Goes l p e s (took step l word f rest s.link e)
taking-own p l word f rest step e s of front moved short at =
    step-goes p l f.mark step e (record e { own = with_heard l word f rest (Some s.link) e.own }) s (heard_on s.link f word s.ledgers) rest of.0 (heard-own l word f rest e s of.0 at) refl refl (heard-same p word f s)
    (subst (λ frames. IsLess (only p rest) (only p frames)) (sym front) (less-first f.mark p (carried f.octets) (only p rest))) (omega (arith, ap length front))
    (taken-silent p l l word f step e s of of.0 moved short at)

-- on another
taking-other : (p : Proto) (l m word : ℕ) (f : Frame) (rest : List Frame) (step : Stepped) (e : Ends) (s : Seat) (k : Link) → IsOfLink (length e.own.trunk.links) l → 1 ≤ m → m ≢ l →
    IsTaken l word f e step → AreShort step.out.entries → SeatAt m e s → Goes m p e s (took step l word f rest k e)
taking-other p l m word f rest step e s k of least other moved short at =
    step-goes p m f.mark step e (record e { own = with_heard l word f rest (Some k) e.own }) s s.ledgers s.incoming least (heard-others l m word f rest e s k least other at) refl refl refl (all-less p s) (omega arith)
    (taken-silent p l m word f step e s of least moved short at)

taking-by : (p : Proto) (l m word : ℕ) (f : Frame) (rest : List Frame) (step : Stepped) (e : Ends) (s : Seat) (k : Link) → IsOfLink (length e.own.trunk.links) l → 1 ≤ m → slice_get e.own.trunk.links (l - 1) ≡ Some k →
    slice_get e.own.incoming (l - 1) ≡ Some (f ∷ rest) → IsTaken l word f e step → AreShort step.out.entries → SeatAt m e s → (m ≡ l) ⊎ (m ≢ l) → Goes m p e s (took step l word f rest k e)
taking-by p l m word f rest step e s k of least there front moved short at (inl same) =
    let here : SeatAt l e s = subst (λ m. SeatAt m e s) same at in
    let link : k ≡ s.link = let both : Some k ≡ Some s.link = sym there ∙ here.link in cc in
    let queue : s.incoming ≡ f ∷ rest = let both : Some s.incoming ≡ Some (f ∷ rest) = sym here.incoming ∙ front in cc in
    subst (λ m. Goes m p e s (took step l word f rest k e)) (sym same) (subst (λ k. Goes l p e s (took step l word f rest k e)) (sym link) (taking-own p l word f rest step e s of queue moved short here))
taking-by p l m word f rest step e s k of least there front moved short at (inr other) = taking-other p l m word f rest step e s k of least other moved short at

front-by : (p : Proto) (says : CallAsk → Bool) (l m word : ℕ) (e : Ends) (s : Seat) (k : Link) (o : Option (List Frame)) → slice_get e.own.incoming (l - 1) ≡ o → IsOfLink (length e.own.trunk.links) l → 1 ≤ m → slice_get e.own.trunk.links (l - 1) ≡ Some k →
    AreTaken says l word e o → ((f : Frame) (rest : List Frame) → o ≡ Some (f ∷ rest) → AreShort (taken says l word f e.own).out.entries) → SeatAt m e s → Goes m p e s (taking_front says l word o e)
front-by p says l m word e s k None is of least there moved short at = stays-there m p e s at
front-by p says l m word e s k (Some []) is of least there moved short at = stays-there m p e s at
front-by p says l m word e s k (Some (f ∷ rest)) is of least there moved short at =
    subst (λ o. Goes m p e s (posted f.mark (taken says l word f e.own) (record e { own = with_heard l word f rest o e.own }))) (sym there)
    (taking-by p l m word f rest (taken says l word f e.own) e s k of least there is (moved f rest refl) (short f rest refl) at (same-or m l))

pub delivers-goes : (p : Proto) (says : CallAsk → Bool) (l m word : ℕ) (e : Ends) (s : Seat) → IsStation (station_of e.own) → IsOfLink (length e.own.trunk.links) l → 1 ≤ m →
    IsShortDelivery says l word e.own → SeatAt m e s → Goes m p e s (delivers says l word e)
unfolding delivers
delivers-goes p says l m word e s well of least short at =
    let there = there-is e.own.trunk.links l of.0 of.1 in
    front-by p says l m word e s there.0 (slice_get e.own.incoming (l - 1)) refl of least there.1 (are-taken says l word e well of) short at

-- the peer is asked or told, or BAP's timer fires
called-goes : (p : Proto) (m mark word : ℕ) (step : Stepped) (calls : Calls) (e : Ends) (s : Seat) → 1 ≤ m → IsCalled word e step → AreShort step.out.entries → SeatAt m e s →
    Goes m p e s (posted mark step (record e { own = record e.own { calls = calls } }))
called-goes p m mark word step calls e s least moved short at =
    let mv = moves_begun e.own.trunk in
    let all : AreShort (moves_all word moved.more mv).out = subst (λ (x : Moved). AreShort x.out) (sym moved.leads) short in
    step-goes p m mark step e (record e { own = record e.own { calls = calls } }) s s.ledgers s.incoming least (calls-at m e calls s at) refl refl refl (all-less p s) (omega arith)
    (subst (Silent p m s.link) moved.leads (silent-all p m word s.link moved.more mv least moved.caused all (start-silent p m e s at)))

pub asks-goes : (p : Proto) (what : BapAsk) (l m word : ℕ) (e : Ends) (s : Seat) → IsStation (station_of e.own) → IsOfLink (length e.own.trunk.links) l → 1 ≤ m →
    AreShort (asks_peer l what (station_of e.own) word).out.entries → SeatAt m e s → Goes m p e s (asks l what word e)
unfolding asks
asks-goes p what l m word e s well of least short at =
    let step = asks_peer l what (station_of e.own) word in
    called-goes p m (e.own.calls.drawn + 1) word step (notes_ask (bundle_at l e.own.trunk.bundles) step.out.entries e.own.calls) e s least (moved-asks l word what (station_of e.own) well of) short at

pub tells-goes : (p : Proto) (status l m word : ℕ) (e : Ends) (s : Seat) → IsStation (station_of e.own) → IsOfLink (length e.own.trunk.links) l → 1 ≤ m →
    AreShort (tells_peer l status (station_of e.own) word).out.entries → SeatAt m e s → Goes m p e s (tells l status word e)
unfolding tells
tells-goes p status l m word e s well of least short at =
    let step = tells_peer l status (station_of e.own) word in
    called-goes p m (e.own.calls.drawn + 1) word step (notes_drawn step.out.entries e.own.calls) e s least (moved-tells l status word (station_of e.own) well of) short at

pub tries-goes : (p : Proto) (l m word : ℕ) (e : Ends) (s : Seat) → IsStation (station_of e.own) → IsOfLink (length e.own.trunk.links) l → 1 ≤ m →
    AreShort (tries_again l (station_of e.own) word).out.entries → SeatAt m e s → Goes m p e s (tries l word e)
unfolding tries
tries-goes p l m word e s well of least short at =
    called-goes p m (ordinal_if (bundle_timed l e.own.trunk) e.own.calls) word (tries_again l (station_of e.own) word) e.own.calls e s least (moved-tries l word (station_of e.own) well of) short at

loses-by : (p : Proto) (l m place : ℕ) (e : Ends) (s : Seat) → 1 ≤ l → 1 ≤ m → SeatAt m e s → (m ≡ l) ⊎ (m ≢ l) → Goes m p e s (lost l place e)
loses-by p l m place e s low least at (inl same) =
    let here : SeatAt l e s = subst (λ m. SeatAt m e s) same at in
    let goes : Goes l p e s (lost l place e) = record {
      new = seat_loses place s;
      at = lost-own l place e s low here;
      becomes = loses-so p place s;
      near = λ near. near;
      same = record { trunk = refl; ledgers = refl };
    } in
    subst (λ m. Goes m p e s (lost l place e)) (sym same) goes
loses-by p l m place e s low least at (inr other) = record {
  new = s;
  at = lost-others l m place e s least other at;
  becomes = stays-so p s;
  near = λ near. near;
  same = record { trunk = refl; ledgers = refl };
}

pub loses-goes : (p : Proto) (l m place : ℕ) (e : Ends) (s : Seat) → 1 ≤ l → 1 ≤ m → SeatAt m e s → Goes m p e s (loses l place e)
unfolding loses
loses-goes p l m place e s low least at = loses-by p l m place e s low least at (same-or m l)

-- ---- lines that go down

-- the link when they have gone down
pub record GoesDown (m : ℕ) (p : Proto) (e : Ends) (s : Seat) (after : Ends) : Type 0 where
  pub new : Seat
  pub at : SeatAt m after new
  pub becomes : Becomes p s new
  pub takes : new.incoming ≡ s.incoming
  pub same : IsSame e after

-- the own frames stay under way
down-takes : (m l word : ℕ) (e : Ends) (s new : Seat) → SeatAt m e s → SeatAt m (happens LineDown l word e) new → new.incoming ≡ s.incoming
unfolding happens
down-takes m l word e s new was is = let both : Some new.incoming ≡ Some s.incoming = sym is.incoming ∙ was.incoming in cc

pub downs-goes : (p : Proto) (n l m word : ℕ) (e : Ends) (s : Seat) → 1 ≤ l → 1 ≤ m → l + n ≤ 1 + length e.own.trunk.links → AreShortDowns word n l (station_of e.own) → SeatAt m e s →
    GoesDown m p e s (downs n l word e)
unfolding happens
downs-goes p zero l m word e s low least high short at = record { new = s; at = at; becomes = stays-so p s; takes = refl; same = record { trunk = refl; ledgers = refl } }
downs-goes p (suc n) l m word e s low least high short at =
    let one = happens-goes p LineDown l m word e s (low, omega (arith, high)) least short.0 at in
    let next = happens LineDown l word e in
    let more = downs-goes p n (l + 1) m word next one.new (omega arith) least (omega (arith, high, counts LineDown l word e.own.trunk)) short.1 one.at in
    record {
      new = more.new;
      at = more.at;
      becomes = becomes-then p s one.new more.new one.becomes more.takes more.becomes;
      takes = more.takes ∙ down-takes m l word e s one.new at one.at;
      same = same-then e next (downs n (l + 1) word next) one.same more.same;
    }
