-- An event at an end is, for each protocol on each link, a list of the two ends' events.
use Rattle.std.proofs.Common.{◌≡◌, ◌≢◌, ℕ, ◌+◌, ◌-◌, ◌≤◌, Bool, List, [], ◌∷◌, length, refl, sym, ap, subst, ◌∙◌, inl, inr, arith}
use Rattle.std.specs.Prelude.{◌⊎◌, Option, Some, None, slice_get}
use Rattle.std.specs.List.{AllByRecursion}
use Rattle.ppp_auto.specs.Auto.{Auto}
use Rattle.ppp_bap.specs.declared.bap_ask.BapAsk.{BapAsk}
use Rattle.ppp_bap.specs.declared.call_ask.CallAsk.{CallAsk}
use Rattle.ppp_bundle.specs.Bundles.{bundle_at}
use Rattle.ppp_duet.specs.Duet.{End, Setup}
use Rattle.ppp_frame.specs.Deframer.{feed_step}
use Rattle.ppp_packet.specs.declared.proto.Proto.{Proto}
use Rattle.ppp_link.specs.Link.{Link, read_by}
use Rattle.ppp_trunk.specs.Moves.{runs_of}
use Rattle.ppp_trunk.specs.Phases.{IsTrunk}
use Rattle.ppp_trunk.specs.StationOut.{AreShort}
use Rattle.ppp_trunk.specs.Steps.{Happening, Takes}
use Rattle.ppp_trunk.specs.Trunk.{IsOfLink, Trunk, on_link}
use Rattle.ppp_trunk.proofs.MovesLemmas.{all-framed, moves-at}
use Rattle.ppp_trunk.proofs.TrunkPhaseLemmas.{kept-trunk}
use Rattle.ppp_station.specs.Moves.{AreCaused, Does, IsMoved, Move, Moved, moves_all, moves_one}
use Rattle.ppp_station.specs.Station.{IsStation, Station, Stepped, asks_peer, moves, tells_peer, tries_again}
use Rattle.ppp_station.specs.Steps.{bundle_timed}
use Rattle.ppp_station.proofs.KeptLemmas.{moved-asks, moved-octets, moved-tells, moved-tries}
use Rattle.ppp_party.specs.Calls.{Calls, notes_ask, notes_drawn, ordinal_if}
use Rattle.ppp_party.specs.Frame.{Frame}
use Rattle.ppp_party.specs.Party.{Ends, IsShortDelivery, asked_for_frame, asks, delivers, happens, loses, posted, pushes_on, station_of, taken, taking_front, tells, tries, with_heard}
use Rattle.ppp_station.specs.Shipped.{answered}
use Rattle.ppp_party.specs.Seat.{AreSent, Came, IsNoFrame, IsSeated, IsSent, IsWell, Seat, SeatAt, seat_heard, seat_loses, seat_posted}
use Rattle.ppp_party.proofs.ListLemmas.{there-is}
use Rattle.ppp_party.proofs.MoveLemmas.{Going, and-posts, count-one, does-goes, goes-all, passed-pushes, posted-none, short-all, short-passed, still-all}
use Rattle.ppp_party.proofs.SeatLemmas.{heard-others, heard-own, length-without, lost, lost-others, lost-own, loses-well, others-settled, own-deframer, own-reads, posted-at, pushes-sent, same-or, settled-so, takes-so, well-posted}
use Rattle.ppp_party.proofs.StepLemmas.{SeatMakes, loses-makes, other-none, quiet-leads, taking-makes}

-- the links before any move
abbrev pub moves_begun : Trunk → Moved
moves_begun st = record { trunk = st; out = [] }

stays : (sa sb : Setup) (p : Proto) (m : ℕ) (s : Seat) (a : Auto) (b : End) (after : Ends) → IsSeated sa p m after s a → Came sa sb p m s a b after
stays sa sb p m s a b after is = record { seat = s; auto = a; seated = is; fewer = omega arith; makes = record { events = []; first = tt; leads = refl } }

came : (sa sb : Setup) (p : Proto) (m : ℕ) (s new : Seat) (a : Auto) (b : End) (after : Ends) → IsTrunk after.own.trunk → SeatAt m after new → IsWell new → length new.incoming ≤ length s.incoming →
    SeatMakes sa sb p s new a b → Came sa sb p m s a b after
came sa sb p m s new a b after trunk at well fewer did =
    record { seat = new; auto = did.auto; seated = record { trunk = trunk; at = at; well = well; end = did.end }; fewer = fewer; makes = did.makes }

-- ---- a station's step

pub start-goes : (sa sb : Setup) (p : Proto) (m mark : ℕ) (e : Ends) (s : Seat) (a : Auto) (b : End) → IsSeated sa p m e s a → Going sa sb p m mark s s a b (moves_begun e.own.trunk)
start-goes sa sb p m mark e s a b is = record {
  link = s.link;
  trunk = is.trunk;
  at = is.at.link;
  settled = is.well.settled;
  sent = tt;
  did = subst (λ x. SeatMakes sa sb p s x a b) (sym (posted-none mark s is.well.few)) (record { auto = a; end = is.end; makes = record { events = []; first = tt; leads = refl } });
}

-- what the moves came to is what the step came to
goes-came : (sa sb : Setup) (p : Proto) (m mark : ℕ) (step : Stepped) (e : Ends) (old s : Seat) (a : Auto) (b : End) → 1 ≤ m → SeatAt m e s → AreSent s.incoming → AreSent s.outgoing → length s.incoming ≤ length old.incoming →
    Going sa sb p m mark old s a b (record { trunk = step.station.trunk; out = step.out.entries }) → Came sa sb p m old a b (posted mark step e)
goes-came sa sb p m mark step e old s a b least at incoming outgoing fewer g =
    let frames = pushes_on m step.out.entries in
    came sa sb p m old (seat_posted mark g.link frames s) a b _ g.trunk (posted-at mark m step e s g.link frames least g.at refl at) (well-posted mark g.link frames s g.sent g.settled incoming outgoing) fewer g.did

pub happens-came : (sa sb : Setup) (p : Proto) (what : Happening) (l m word : ℕ) (e : Ends) (s : Seat) (a : Auto) (b : End) → IsOfLink (length e.own.trunk.links) l → 1 ≤ m →
    IsNoFrame what → AreShort (moves what l (station_of e.own) word).out.entries → IsSeated sa p m e s a → Came sa sb p m s a b (happens what l word e)
unfolding happens
happens-came sa sb p what l m word e s a b of least quiet short is =
    goes-came sa sb p m 0 (moves what l (station_of e.own) word) e s s a b least is.at is.well.incoming is.well.outgoing (omega arith)
    (does-goes sa sb p m 0 word s s a b what l (moves_begun e.own.trunk) least of quiet (short-passed _ short) (start-goes sa sb p m 0 e s a b is))

-- ---- the front frame is taken

-- on the link that it came on
taking-own : (sa sb : Setup) (p : Proto) (l word : ℕ) (f : Frame) (rest : List Frame) (e : Ends) (s : Seat) (a : Auto) (b : End) → 1 ≤ l → s.incoming ≡ f ∷ rest →
    AreShort (on_link (Takes f.octets) l e.own.trunk word).out.entries → IsSeated sa p l e s a →
    Going sa sb p l f.mark s (seat_heard word f rest s) a b (moves_one word (Does (Takes f.octets) l) (moves_begun e.own.trunk))
taking-own sa sb p l word f rest e s a b low front short is =
    let what = Takes f.octets in
    let st = e.own.trunk in
    let es = (on_link what l st word).out.entries in
    let rs = runs_of what l st word in
    let to = moves-at what l l word st s.link s.link low low is.at.link is.at.link short in
    let sent : AreSent (f ∷ rest) = rw front at is.well.incoming in
    let frames = passed-pushes l es in
    record {
      link = to.link;
      trunk = kept-trunk what l word st s.link low is.at.link is.trunk;
      at = to.at;
      settled = settled-so to.link _ (own-deframer what l word rs s.link to.link es to.moves) (takes-so f.octets s.link word sent.0 is.well.settled);
      sent = subst (λ fs. AllByRecursion IsSent fs) (sym frames) (pushes-sent l es (all-framed what l word st) short);
      did = subst (λ fs. SeatMakes sa sb p s (seat_posted f.mark to.link fs (seat_heard word f rest s)) a b) (sym frames)
          (taking-makes sa sb p l word rs f rest s to.link es a b front is.well.settled sent.0 to.moves is.end);
    }

-- on another
taking-other : (sa sb : Setup) (p : Proto) (l m word mark : ℕ) (octets : List ℕ) (e : Ends) (s : Seat) (k : Link) (a : Auto) (b : End) → 1 ≤ l → 1 ≤ m → m ≢ l → slice_get e.own.trunk.links (l - 1) ≡ Some k →
    AreShort (on_link (Takes octets) l e.own.trunk word).out.entries → IsSeated sa p m e s a →
    Going sa sb p m mark s s a b (moves_one word (Does (Takes octets) l) (moves_begun e.own.trunk))
unfolding start-goes
taking-other sa sb p l m word mark octets e s k a b low least other there short is =
    let what = Takes octets in
    let st = e.own.trunk in
    let es = (on_link what l st word).out.entries in
    let rs = runs_of what l st word in
    let to = moves-at what l m word st k s.link low least there is.at.link short in
    let g = start-goes sa sb p m mark e s a b is in
    let now = seat_posted mark g.link [] s in
    and-posts sa sb p m mark s s a b (moves_begun st) _ to.link (pushes_on m es) g (kept-trunk what l word st k low there is.trunk) to.at (others-settled what l m word rs s.link to.link es to.moves other is.well.settled)
    (pushes-sent m es (all-framed what l word st) short) (passed-pushes m es)
    (quiet-leads sa sb p what l m word mark rs now to.link es g.did.auto b (other-none l m p what rs s.link word other) to.moves g.did.end)

-- what BAP causes follows
tail-goes : (sa sb : Setup) (p : Proto) (m mark word : ℕ) (old s : Seat) (a : Auto) (b : End) (before : Station) (first : Move) (step : Stepped) → 1 ≤ m →
    IsMoved (first ∷ []) word before step.station step.out.entries → AreShort step.out.entries →
    (AreShort (moves_one word first (moves_begun before.trunk)).out → Going sa sb p m mark old s a b (moves_one word first (moves_begun before.trunk))) →
    Going sa sb p m mark old s a b (record { trunk = step.station.trunk; out = step.out.entries })
tail-goes sa sb p m mark word old s a b before first step least moved short start =
    let mv = moves_one word first (moves_begun before.trunk) in
    let all : AreShort (moves_all word moved.more mv).out = subst (λ (x : Moved). AreShort x.out) (sym moved.leads) short in
    subst (Going sa sb p m mark old s a b) moved.leads
    (goes-all sa sb p m mark word old s a b moved.more mv least (subst (λ n. AreCaused n moved.more) (sym (count-one word first (moves_begun before.trunk))) moved.caused) all
    (start (short-all word moved.more mv all)))

-- the end has taken that frame by that step
abbrev pub took : Stepped → ℕ → ℕ → Frame → List Frame → Link → Ends → Ends
took step l word f rest k e = posted f.mark step (record e { own = with_heard l word f rest (Some k) e.own })

-- the links' step comes first
abbrev pub IsTaken : ℕ → ℕ → Frame → Ends → Stepped → Type 0
IsTaken l word f e step = IsMoved (Does (Takes f.octets) l ∷ []) word (station_of e.own) step.station step.out.entries

own-came : (sa sb : Setup) (p : Proto) (l word : ℕ) (f : Frame) (rest : List Frame) (step : Stepped) (e : Ends) (s : Seat) (a : Auto) (b : End) → 1 ≤ l → s.incoming ≡ f ∷ rest →
    IsTaken l word f e step → AreShort step.out.entries → IsSeated sa p l e s a → Came sa sb p l s a b (took step l word f rest s.link e)
own-came sa sb p l word f rest step e s a b low front moved short is =
    let sent : AreSent (f ∷ rest) = rw front at is.well.incoming in
    goes-came sa sb p l f.mark step (record e { own = with_heard l word f rest (Some s.link) e.own }) s (seat_heard word f rest s) a b low (heard-own l word f rest e s low is.at) sent.1 is.well.outgoing
    (omega (arith, ap length front))
    (tail-goes sa sb p l f.mark word s (seat_heard word f rest s) a b (station_of e.own) (Does (Takes f.octets) l) step low moved short
    (λ first. taking-own sa sb p l word f rest e s a b low front (short-passed _ first) is))

other-came : (sa sb : Setup) (p : Proto) (l m word : ℕ) (f : Frame) (rest : List Frame) (step : Stepped) (e : Ends) (s : Seat) (k : Link) (a : Auto) (b : End) → 1 ≤ l → 1 ≤ m → m ≢ l →
    slice_get e.own.trunk.links (l - 1) ≡ Some k → IsTaken l word f e step → AreShort step.out.entries → IsSeated sa p m e s a → Came sa sb p m s a b (took step l word f rest k e)
other-came sa sb p l m word f rest step e s k a b low least other there moved short is =
    goes-came sa sb p m f.mark step (record e { own = with_heard l word f rest (Some k) e.own }) s s a b least (heard-others l m word f rest e s k least other is.at) is.well.incoming is.well.outgoing (omega arith)
    (tail-goes sa sb p m f.mark word s s a b (station_of e.own) (Does (Takes f.octets) l) step least moved short
    (λ first. taking-other sa sb p l m word f.mark f.octets e s k a b low least other there (short-passed _ first) is))

taking-by : (sa sb : Setup) (p : Proto) (l m word : ℕ) (f : Frame) (rest : List Frame) (step : Stepped) (e : Ends) (s : Seat) (k : Link) (a : Auto) (b : End) → 1 ≤ l → 1 ≤ m → slice_get e.own.trunk.links (l - 1) ≡ Some k →
    slice_get e.own.incoming (l - 1) ≡ Some (f ∷ rest) → IsTaken l word f e step → AreShort step.out.entries → IsSeated sa p m e s a → (m ≡ l) ⊎ (m ≢ l) → Came sa sb p m s a b (took step l word f rest k e)
taking-by sa sb p l m word f rest step e s k a b low least there front moved short is (inl same) =
    let here : IsSeated sa p l e s a = subst (λ m. IsSeated sa p m e s a) same is in
    let link : k ≡ s.link = let both : Some k ≡ Some s.link = sym there ∙ here.at.link in cc in
    let queue : s.incoming ≡ f ∷ rest = let both : Some s.incoming ≡ Some (f ∷ rest) = sym here.at.incoming ∙ front in cc in
    subst (λ m. Came sa sb p m s a b (took step l word f rest k e)) (sym same)
    (subst (λ k. Came sa sb p l s a b (took step l word f rest k e)) (sym link) (own-came sa sb p l word f rest step e s a b low queue moved short here))
taking-by sa sb p l m word f rest step e s k a b low least there front moved short is (inr other) = other-came sa sb p l m word f rest step e s k a b low least other there moved short is

-- so it is with the front frame of a link
abbrev pub AreTaken : (CallAsk → Bool) → ℕ → ℕ → Ends → Option (List Frame) → Type 0
AreTaken says l word e o = (f : Frame) (rest : List Frame) → o ≡ Some (f ∷ rest) → IsTaken l word f e (taken says l word f e.own)

pub are-taken : (says : CallAsk → Bool) (l word : ℕ) (e : Ends) → IsStation (station_of e.own) → IsOfLink (length e.own.trunk.links) l → AreTaken says l word e (slice_get e.own.incoming (l - 1))
are-taken says l word e well of f rest front = moved-octets (answered says (asked_for_frame l word f e.own)) l word f.octets (station_of e.own) well of

front-by : (sa sb : Setup) (p : Proto) (says : CallAsk → Bool) (l m word : ℕ) (e : Ends) (s : Seat) (k : Link) (a : Auto) (b : End) (o : Option (List Frame)) → slice_get e.own.incoming (l - 1) ≡ o → 1 ≤ l → 1 ≤ m → slice_get e.own.trunk.links (l - 1) ≡ Some k →
    AreTaken says l word e o → ((f : Frame) (rest : List Frame) → o ≡ Some (f ∷ rest) → AreShort (taken says l word f e.own).out.entries) → IsSeated sa p m e s a → Came sa sb p m s a b (taking_front says l word o e)
front-by sa sb p says l m word e s k a b None front low least there moved short is = stays sa sb p m s a b e is
front-by sa sb p says l m word e s k a b (Some []) front low least there moved short is = stays sa sb p m s a b e is
front-by sa sb p says l m word e s k a b (Some (f ∷ rest)) front low least there moved short is =
    subst (λ o. Came sa sb p m s a b (posted f.mark (taken says l word f e.own) (record e { own = with_heard l word f rest o e.own }))) (sym there)
    (taking-by sa sb p l m word f rest (taken says l word f e.own) e s k a b low least there front (moved f rest refl) (short f rest refl) is (same-or m l))

pub delivers-came : (sa sb : Setup) (p : Proto) (says : CallAsk → Bool) (l m word : ℕ) (e : Ends) (s : Seat) (a : Auto) (b : End) → IsStation (station_of e.own) → IsOfLink (length e.own.trunk.links) l → 1 ≤ m →
    IsShortDelivery says l word e.own → IsSeated sa p m e s a → Came sa sb p m s a b (delivers says l word e)
unfolding delivers
delivers-came sa sb p says l m word e s a b well of least short is =
    let there = there-is e.own.trunk.links l of.0 of.1 in
    front-by sa sb p says l m word e s there.0 a b (slice_get e.own.incoming (l - 1)) refl of.0 least there.1 (are-taken says l word e well of) short is

-- ---- the peer is asked or told, or BAP's timer fires

-- an end with the same links, ledgers and queues
pub calls-at : (m : ℕ) (e : Ends) (calls : Calls) (s : Seat) → SeatAt m e s → SeatAt m (record e { own = record e.own { calls = calls } }) s
calls-at m e calls s at = record { link = at.link; ledgers = at.ledgers; incoming = at.incoming; outgoing = at.outgoing }

-- the step is what BAP causes
abbrev pub IsCalled : ℕ → Ends → Stepped → Type 0
IsCalled word e step = IsMoved [] word (station_of e.own) step.station step.out.entries

called-came : (sa sb : Setup) (p : Proto) (m mark word : ℕ) (step : Stepped) (calls : Calls) (e : Ends) (s : Seat) (a : Auto) (b : End) → 1 ≤ m → IsCalled word e step → AreShort step.out.entries →
    IsSeated sa p m e s a → Came sa sb p m s a b (posted mark step (record e { own = record e.own { calls = calls } }))
called-came sa sb p m mark word step calls e s a b least moved short is =
    let mv = moves_begun e.own.trunk in
    let all : AreShort (moves_all word moved.more mv).out = subst (λ (x : Moved). AreShort x.out) (sym moved.leads) short in
    goes-came sa sb p m mark step (record e { own = record e.own { calls = calls } }) s s a b least (calls-at m e calls s is.at) is.well.incoming is.well.outgoing (omega arith)
    (subst (Going sa sb p m mark s s a b) moved.leads (goes-all sa sb p m mark word s s a b moved.more mv least moved.caused all (start-goes sa sb p m mark e s a b is)))

pub asks-came : (sa sb : Setup) (p : Proto) (what : BapAsk) (l m word : ℕ) (e : Ends) (s : Seat) (a : Auto) (b : End) → IsStation (station_of e.own) → IsOfLink (length e.own.trunk.links) l → 1 ≤ m →
    AreShort (asks_peer l what (station_of e.own) word).out.entries → IsSeated sa p m e s a → Came sa sb p m s a b (asks l what word e)
unfolding asks
asks-came sa sb p what l m word e s a b well of least short is =
    let step = asks_peer l what (station_of e.own) word in
    called-came sa sb p m (e.own.calls.drawn + 1) word step (notes_ask (bundle_at l e.own.trunk.bundles) step.out.entries e.own.calls) e s a b least (moved-asks l word what (station_of e.own) well of) short is

pub tells-came : (sa sb : Setup) (p : Proto) (status l m word : ℕ) (e : Ends) (s : Seat) (a : Auto) (b : End) → IsStation (station_of e.own) → IsOfLink (length e.own.trunk.links) l → 1 ≤ m →
    AreShort (tells_peer l status (station_of e.own) word).out.entries → IsSeated sa p m e s a → Came sa sb p m s a b (tells l status word e)
unfolding tells
tells-came sa sb p status l m word e s a b well of least short is =
    let step = tells_peer l status (station_of e.own) word in
    called-came sa sb p m (e.own.calls.drawn + 1) word step (notes_drawn step.out.entries e.own.calls) e s a b least (moved-tells l status word (station_of e.own) well of) short is

pub tries-came : (sa sb : Setup) (p : Proto) (l m word : ℕ) (e : Ends) (s : Seat) (a : Auto) (b : End) → IsStation (station_of e.own) → IsOfLink (length e.own.trunk.links) l → 1 ≤ m →
    AreShort (tries_again l (station_of e.own) word).out.entries → IsSeated sa p m e s a → Came sa sb p m s a b (tries l word e)
unfolding tries
tries-came sa sb p l m word e s a b well of least short is =
    called-came sa sb p m (ordinal_if (bundle_timed l e.own.trunk) e.own.calls) word (tries_again l (station_of e.own) word) e.own.calls e s a b least (moved-tries l word (station_of e.own) well of) short is

-- ---- a frame is lost

loses-by : (sa sb : Setup) (p : Proto) (l m place : ℕ) (e : Ends) (s : Seat) (a : Auto) (b : End) → 1 ≤ l → 1 ≤ m → IsSeated sa p m e s a → (m ≡ l) ⊎ (m ≢ l) → Came sa sb p m s a b (lost l place e)
loses-by sa sb p l m place e s a b low least is (inl same) =
    let here : IsSeated sa p l e s a = subst (λ m. IsSeated sa p m e s a) same is in
    subst (λ m. Came sa sb p m s a b (lost l place e)) (sym same)
    (came sa sb p l s (seat_loses place s) a b _ here.trunk (lost-own l place e s low here.at) (loses-well place s here.well) (length-without place s.incoming) (loses-makes sa sb p place s a b here.end))
loses-by sa sb p l m place e s a b low least is (inr other) =
    stays sa sb p m s a b _ (record { trunk = is.trunk; at = lost-others l m place e s least other is.at; well = is.well; end = is.end })

pub loses-came : (sa sb : Setup) (p : Proto) (l m place : ℕ) (e : Ends) (s : Seat) (a : Auto) (b : End) → 1 ≤ l → 1 ≤ m → IsSeated sa p m e s a → Came sa sb p m s a b (loses l place e)
unfolding loses
loses-came sa sb p l m place e s a b low least is = loses-by sa sb p l m place e s a b low least is (same-or m l)

-- ---- the link that a frame is delivered to

-- it is there afterwards, and its deframer lends what it read of the frame
pub record Lends (l : ℕ) (k : Link) (f : Frame) (after : Ends) : Type 0 where
  pub link : Link
  pub at : slice_get after.own.trunk.links (l - 1) ≡ Some link
  pub reads : link.deframer.frame ≡ (feed_step (read_by k.automata.lcp k.deframer) f.octets).left.frame

-- so it is with a station that takes octets there
pub record LendsOf (l : ℕ) (k : Link) (octets : List ℕ) (after : Station) : Type 0 where
  pub link : Link
  pub at : slice_get after.trunk.links (l - 1) ≡ Some link
  pub reads : link.deframer.frame ≡ (feed_step (read_by k.automata.lcp k.deframer) octets).left.frame

pub step-lends : (l word : ℕ) (st : Station) (k : Link) (octets : List ℕ) (step : Stepped) → 1 ≤ l → slice_get st.trunk.links (l - 1) ≡ Some k →
    IsMoved (Does (Takes octets) l ∷ []) word st step.station step.out.entries → AreShort step.out.entries → LendsOf l k octets step.station
step-lends l word st k octets step low there moved short =
    let t = st.trunk in
    let mv = moves_one word (Does (Takes octets) l) (moves_begun t) in
    let all : AreShort (moves_all word moved.more mv).out = subst (λ (x : Moved). AreShort x.out) (sym moved.leads) short in
    let to = moves-at (Takes octets) l l word t k k low low there there (short-passed _ (short-all word moved.more mv all)) in
    let still = still-all l word to.link moved.more mv low (subst (λ n. AreCaused n moved.more) (sym (count-one word (Does (Takes octets) l) (moves_begun t))) moved.caused) all
    (record { link = to.link; at = to.at; deframer = refl }) in
    record {
      link = still.link;
      at = ap (λ (x : Moved). slice_get x.trunk.links (l - 1)) (sym moved.leads) ∙ still.at;
      reads = ap (λ d. d.frame) still.deframer ∙ own-reads octets l word (runs_of (Takes octets) l t word) k to.link (on_link (Takes octets) l t word).out.entries to.moves;
    }

taking-lends : (l word : ℕ) (e : Ends) (k : Link) (f : Frame) (rest : List Frame) (step : Stepped) → 1 ≤ l → slice_get e.own.trunk.links (l - 1) ≡ Some k →
    IsTaken l word f e step → AreShort step.out.entries → Lends l k f (took step l word f rest k e)
taking-lends l word e k f rest step low there moved short =
    let of = step-lends l word (station_of e.own) k f.octets step low there moved short in
    record { link = of.link; at = of.at; reads = of.reads }

front-lends : (says : CallAsk → Bool) (l word : ℕ) (e : Ends) (k : Link) (f : Frame) (rest : List Frame) (o : Option (List Frame)) → o ≡ Some (f ∷ rest) → 1 ≤ l → slice_get e.own.trunk.links (l - 1) ≡ Some k →
    IsTaken l word f e (taken says l word f e.own) → AreShort (taken says l word f e.own).out.entries → Lends l k f (taking_front says l word o e)
front-lends says l word e k f rest o is low there moved short =
    let step = taken says l word f e.own in
    subst (λ o. Lends l k f (taking_front says l word o e)) (sym is)
    (subst (λ o. Lends l k f (posted f.mark step (record e { own = with_heard l word f rest o e.own }))) (sym there) (taking-lends l word e k f rest step low there moved short))

pub delivers-lends : (says : CallAsk → Bool) (l word : ℕ) (e : Ends) (k : Link) (f : Frame) (rest : List Frame) → IsStation (station_of e.own) → IsOfLink (length e.own.trunk.links) l → slice_get e.own.trunk.links (l - 1) ≡ Some k → slice_get e.own.incoming (l - 1) ≡ Some (f ∷ rest) →
    AreShort (taken says l word f e.own).out.entries → Lends l k f (delivers says l word e)
unfolding delivers
delivers-lends says l word e k f rest well of there front short =
    front-lends says l word e k f rest (slice_get e.own.incoming (l - 1)) front of.0 there (are-taken says l word e well of f rest front) short
