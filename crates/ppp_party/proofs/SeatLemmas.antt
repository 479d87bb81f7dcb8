-- What an event at an end makes of one of its links, whatever link it is on; and what stays so on the link.
use Rattle.std.proofs.Common.{◌≡◌, ◌≢◌, ℕ, zero, suc, ◌+◌, ◌-◌, ◌≤◌, Bool, true, false, if◌then◌else◌, List, [], ◌∷◌, ◌++◌, length, take, refl, sym, ap, ◌∙◌, inl, inr, arith, length-take}
use Rattle.std.specs.Prelude.{◌⊎◌, ◌==◌, Some, option_map, slice_get}
use Rattle.std.specs.List.{AllByRecursion}
use Rattle.std.proofs.lemmas.Bool.{eq-eqb, eqb-true, eqb-false, ne_eqb}
use Rattle.ppp_auto.specs.Auto.{is_off}
use Rattle.ppp_duet.specs.Duet.{without}
use Rattle.ppp_frame.specs.Deframer.{DeframerState, feed_step}
use Rattle.ppp_frame.specs.Standing.{fresh}
use Rattle.ppp_packet.specs.Proto.{proto_number}
use Rattle.ppp_link.specs.Link.{Link, cleared_if, fed_with, read_by}
use Rattle.ppp_link.specs.declared.link.TheConstants.{MOST_FRAME}
use Rattle.ppp_link.specs.declared.link_out.TheConstants.{MOST_PUSH}
use Rattle.ppp_trunk.specs.Control.{Run}
use Rattle.ppp_trunk.specs.Moves.{AreFramed, IsFrame, Moves}
use Rattle.ppp_station.specs.Station.{Stepped}
use Rattle.ppp_trunk.specs.StationOut.{AreShort, Entry, Push, Got, Hang, Dial, Asked}
use Rattle.ppp_trunk.specs.Steps.{Happening, LineUp, LineDown, Opens, Closes, TimesOut, Takes, link_does}
use Rattle.ppp_trunk.proofs.FrameLemmas.{enc-longer}
use Rattle.ppp_party.specs.Frame.{Frame, carried, marked_frames, noted_by, noted_frames}
use Rattle.ppp_party.specs.Ledger.{Ledgers}
use Rattle.ppp_party.specs.Party.{Ends, at_link, heard_on, posted, pushes_on, queued, room, with_heard}
use Rattle.ppp_party.specs.Seat.{AreSent, Control, IsNoFrame, IsSent, IsSettled, IsWell, Seat, SeatAt, seat_heard, seat_loses, seat_posted}
use Rattle.ppp_party.proofs.OrderLemmas.{AllByRecursion-append}
use Rattle.ppp_party.proofs.PostLemmas.{noted-at, queued-at}
use Rattle.ppp_party.proofs.ReadLemmas.{stands-again}

-- ---- the deframer

-- a deframer stands as after a flag, and reads as much as before
pub record StandsSo (d : DeframerState) : Type 0 where
  pub stands : d.standing ≡ fresh
  pub limit : d.reader.limit ≡ MOST_FRAME

stands-still : (k : Link) → IsSettled k → StandsSo k.deframer
stands-still k settled = record { stands = settled.stands; limit = settled.limit }

cleared-so : (b : Bool) (d : DeframerState) → StandsSo d → StandsSo (cleared_if b d)
cleared-so true d so = record { stands = refl; limit = so.limit }
cleared-so false d so = so

does-so : (what : Happening) (k : Link) (word : ℕ) → IsNoFrame what → IsSettled k → StandsSo (link_does what k word).link.deframer
does-so LineUp k word quiet settled = cleared-so (is_off k.automata.lcp.state) k.deframer (stands-still k settled)
does-so LineDown k word quiet settled = stands-still k settled
does-so (Opens p) k word quiet settled = stands-still k settled
does-so (Closes p) k word quiet settled = stands-still k settled
does-so (TimesOut p) k word quiet settled = stands-still k settled
does-so (Takes octets) k word quiet settled = absurd quiet

pub takes-so : (octets : List ℕ) (k : Link) (word : ℕ) → IsSent octets → IsSettled k → StandsSo (link_does (Takes octets) k word).link.deframer
unfolding fed_with
takes-so octets k word sent settled =
    let d = read_by k.automata.lcp k.deframer in
    let again = stands-again d sent.form sent.sender sent.info settled.stands in
    record {
      stands = ap (λ xs. (feed_step d xs).left.standing) sent.is ∙ again.0;
      limit = ap (λ xs. (feed_step d xs).left.reader.limit) sent.is ∙ ap (λ r. r.limit) again.1 ∙ settled.limit;
    }

pub settled-so : (now : Link) (d : DeframerState) → now.deframer ≡ d → StandsSo d → IsSettled now
settled-so now d same so = record { stands = ap (λ d. d.standing) same ∙ so.stands; limit = ap (λ d. d.reader.limit) same ∙ so.limit }

if-so : (b : Bool) (one other : DeframerState) → StandsSo one → StandsSo other → StandsSo (if b then one else other)
if-so true one other so stays = so
if-so false one other so stays = stays

module _ (what : Happening) (l m word : ℕ) (rs : List Run) (k now : Link) (out : List Entry) (moves : Moves l m what rs word k now out) where
  pub happens-settled : IsNoFrame what → IsSettled k → IsSettled now
  happens-settled quiet settled = settled-so now _ moves.deframer (if-so (l == m) _ _ (does-so what k word quiet settled) (stands-still k settled))

  -- on another link
  pub others-settled : m ≢ l → IsSettled k → IsSettled now
  others-settled other settled =
      settled-so now k.deframer (moves.deframer ∙ ap (λ b. if b then (link_does what k word).link.deframer else k.deframer) (ne_eqb l m (λ same. other (sym same)))) (stands-still k settled)

-- on the own link
pub own-deframer : (what : Happening) (l word : ℕ) (rs : List Run) (k now : Link) (out : List Entry) → Moves l l what rs word k now out → now.deframer ≡ (link_does what k word).link.deframer
own-deframer what l word rs k now out moves = moves.deframer ∙ ap (λ b. if b then (link_does what k word).link.deframer else k.deframer) (eq-eqb l l refl)

-- it lends the frame that the octets that came read as
pub own-reads : (octets : List ℕ) (l word : ℕ) (rs : List Run) (k now : Link) (out : List Entry) → Moves l l (Takes octets) rs word k now out →
    now.deframer.frame ≡ (feed_step (read_by k.automata.lcp k.deframer) octets).left.frame
unfolding fed_with
own-reads octets l word rs k now out moves = ap (λ d. d.frame) (own-deframer (Takes octets) l word rs k now out moves)

-- ---- what stays so on a link

pub length-without : (i : ℕ) (frames : List Frame) → length (without i frames) ≤ length frames
length-without i [] = omega arith
length-without zero (f ∷ fs) = omega arith
length-without (suc zero) (f ∷ fs) = omega arith
length-without (suc (suc i)) (f ∷ fs) = let more = length-without (suc i) fs in omega arith

sent-take : (n : ℕ) (frames : List Frame) → AreSent frames → AreSent (take n frames)
sent-take zero frames sent = tt
sent-take (suc n) [] sent = tt
sent-take (suc n) (f ∷ fs) sent = (sent.0, sent-take n fs sent.1)

sent-without : (place : ℕ) (frames : List Frame) → AreSent frames → AreSent (without place frames)
sent-without place [] sent = tt
sent-without zero (f ∷ fs) sent = sent
sent-without (suc zero) (f ∷ fs) sent = sent.1
sent-without (suc (suc place)) (f ∷ fs) sent = (sent.0, sent-without (suc place) fs sent.1)

sent-marked : (gs : Ledgers) (mark : ℕ) (frames : List (List ℕ)) → AllByRecursion IsSent frames → AreSent (marked_frames gs mark frames)
sent-marked gs mark [] sent = tt
sent-marked gs mark (octets ∷ more) sent = (sent.0, sent-marked (noted_by gs (carried octets)) mark more sent.1)

-- what goes out on a link is what is sent of packets
pub pushes-sent : (m : ℕ) (es : List Entry) → AreFramed es → AreShort es → AllByRecursion IsSent (pushes_on m es)
pushes-sent m [] all short = tt
pushes-sent m (Push link octets ∷ es) all short = one (link == m) all.0 short.0 (pushes-sent m es all.1 short.1)
  where
    one : (b : Bool) → IsFrame octets → length octets ≤ MOST_PUSH → AllByRecursion IsSent (pushes_on m es) → AllByRecursion IsSent ((if b then octets ∷ [] else []) ++ pushes_on m es)
    one true is few more =
        let longer = enc-longer is.form (proto_number is.proto) is.info in
        let size = ap length is.is in
        (record { form = is.form; sender = Control is.proto; info = is.info; is = is.is; few = omega (arith, few, longer, size) }, more)
    one false is few more = more
pushes-sent m (Got class protocol octets ∷ es) all short = pushes-sent m es all.1 short.1
pushes-sent m (Hang link ∷ es) all short = pushes-sent m es all.1 short.1
pushes-sent m (Dial link ∷ es) all short = pushes-sent m es all.1 short.1
pushes-sent m (Asked answer ∷ es) all short = pushes-sent m es all.1 short.1

pub well-posted : (mark : ℕ) (now : Link) (frames : List (List ℕ)) (s : Seat) → AllByRecursion IsSent frames → IsSettled now → AreSent s.incoming → AreSent s.outgoing → IsWell (seat_posted mark now frames s)
well-posted mark now frames s out settled incoming outgoing =
    let sent = marked_frames s.ledgers mark frames in
    let all = AllByRecursion-append (λ f. IsSent f.octets) s.outgoing sent outgoing (sent-marked s.ledgers mark frames out) in
    record {
      settled = settled;
      incoming = incoming;
      outgoing = sent-take room (s.outgoing ++ sent) all;
      few = omega (arith, length-take room (s.outgoing ++ sent));
    }

pub loses-well : (place : ℕ) (s : Seat) → IsWell s → IsWell (seat_loses place s)
loses-well place s well = record { settled = well.settled; incoming = sent-without place s.incoming well.incoming; outgoing = well.outgoing; few = well.few }

-- ---- among all links

-- two numbers are the same or not
pub same-or : (m l : ℕ) → (m ≡ l) ⊎ (m ≢ l)
same-or m l = by (m == l) refl
  where
    by : (b : Bool) → (m == l) ≡ b → (m ≡ l) ⊎ (m ≢ l)
    by true e = inl (eqb-true m l e)
    by false e = inr (eqb-false m l e)

pub at-own : {X : Type 0} (l : ℕ) (f : X → X) (xs : List X) (x : X) → 1 ≤ l → slice_get xs (l - 1) ≡ Some x → slice_get (at_link l f xs) (l - 1) ≡ Some (f x)
at-own l f [] x low is = absurd (cc)
at-own zero f (y ∷ ys) x low is = absurd (omega arith)
at-own (suc zero) f (y ∷ ys) x low is = ap (option_map f) is
at-own (suc (suc l)) f (y ∷ ys) x low is =
    let e : suc (suc l) - 1 ≡ suc (suc l - 1) = omega arith in
    let there : slice_get ys (suc l - 1) ≡ Some x = rw e at is in
    rw e (at-own (suc l) f ys x (omega arith) there)

pub at-others : {X : Type 0} (l m : ℕ) (f : X → X) (xs : List X) → 1 ≤ m → m ≢ l → slice_get (at_link l f xs) (m - 1) ≡ slice_get xs (m - 1)
at-others l m f [] low other = refl
at-others zero m f (y ∷ ys) low other = refl
at-others (suc zero) zero f (y ∷ ys) low other = absurd (omega arith)
at-others (suc zero) (suc zero) f (y ∷ ys) low other = absurd (other refl)
at-others (suc zero) (suc (suc m)) f (y ∷ ys) low other = let e : suc (suc m) - 1 ≡ suc m = omega arith in rw e refl
at-others (suc (suc l)) zero f (y ∷ ys) low other = absurd (omega arith)
at-others (suc (suc l)) (suc zero) f (y ∷ ys) low other = refl
at-others (suc (suc l)) (suc (suc m)) f (y ∷ ys) low other =
    let e : suc (suc m) - 1 ≡ suc (suc m - 1) = omega arith in
    rw e (at-others (suc l) (suc m) f ys (omega arith) (λ same. other (ap suc same)))

-- a link of the station after its step, with what goes out on it
pub posted-at : (mark m : ℕ) (step : Stepped) (e : Ends) (s : Seat) (now : Link) (frames : List (List ℕ)) → 1 ≤ m → slice_get step.station.trunk.links (m - 1) ≡ Some now → pushes_on m step.out.entries ≡ frames →
    SeatAt m e s → SeatAt m (posted mark step e) (seat_posted mark now frames s)
posted-at mark m step e s now frames low is out at =
    let es = step.out.entries in
    let one : 1 + (m - 1) ≡ m = omega arith in
    let all : pushes_on (1 + (m - 1)) es ≡ frames = ap (λ n. pushes_on n es) one ∙ out in
    record {
      link = is;
      ledgers = noted-at 1 es e.own.ledgers (m - 1) ∙ (λ i. option_map (λ g. noted_frames g (all i)) (at.ledgers i));
      incoming = at.incoming;
      outgoing = queued-at 1 mark es e.own.ledgers e.other.incoming (m - 1) s.ledgers s.outgoing at.ledgers at.outgoing
          ∙ (λ i. Some (queued s.outgoing (marked_frames s.ledgers mark (all i))));
    }

-- the front frame is taken out and heard of
pub heard-own : (l word : ℕ) (f : Frame) (rest : List Frame) (e : Ends) (s : Seat) → 1 ≤ l → SeatAt l e s →
    SeatAt l (record e { own = with_heard l word f rest (Some s.link) e.own }) (seat_heard word f rest s)
heard-own l word f rest e s low at = record {
  link = at.link;
  ledgers = at-own l (heard_on s.link f word) e.own.ledgers s.ledgers low at.ledgers;
  incoming = at-own l (λ queue. rest) e.own.incoming s.incoming low at.incoming;
  outgoing = at.outgoing;
}

pub heard-others : (l m word : ℕ) (f : Frame) (rest : List Frame) (e : Ends) (s : Seat) (k : Link) → 1 ≤ m → m ≢ l → SeatAt m e s →
    SeatAt m (record e { own = with_heard l word f rest (Some k) e.own }) s
heard-others l m word f rest e s k low other at = record {
  link = at.link;
  ledgers = at-others l m (heard_on k f word) e.own.ledgers low other ∙ at.ledgers;
  incoming = at-others l m (λ queue. rest) e.own.incoming low other ∙ at.incoming;
  outgoing = at.outgoing;
}

-- the end has lost that frame
abbrev pub lost : ℕ → ℕ → Ends → Ends
lost l place e = record e { own = record e.own { incoming = at_link l (without place) e.own.incoming } }

pub lost-own : (l place : ℕ) (e : Ends) (s : Seat) → 1 ≤ l → SeatAt l e s → SeatAt l (lost l place e) (seat_loses place s)
lost-own l place e s low at = record {
  link = at.link;
  ledgers = at.ledgers;
  incoming = at-own l (without place) e.own.incoming s.incoming low at.incoming;
  outgoing = at.outgoing;
}

pub lost-others : (l m place : ℕ) (e : Ends) (s : Seat) → 1 ≤ m → m ≢ l → SeatAt m e s → SeatAt m (lost l place e) s
lost-others l m place e s low other at = record {
  link = at.link;
  ledgers = at.ledgers;
  incoming = at-others l m (without place) e.own.incoming low other ∙ at.incoming;
  outgoing = at.outgoing;
}
