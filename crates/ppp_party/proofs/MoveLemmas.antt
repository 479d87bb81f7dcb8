-- What the moves of a station's links make of one link of an end, for each protocol there.
use Rattle.std.proofs.Common.{◌≡◌, ℕ, ◌-◌, ◌≤◌, Bool, true, false, if◌then◌else◌, List, [], ◌∷◌, ◌++◌, length, refl, sym, ap, subst, ◌∙◌, append-nil, arith}
use Rattle.std.specs.Prelude.{Option, Some, None, ◌==◌, slice_get}
use Rattle.std.specs.List.{AllByRecursion}
use Rattle.std.proofs.lemmas.Grind.{flat_map-append}
use Rattle.ppp_auto.specs.Auto.{Auto}
use Rattle.ppp_auto.specs.declared.outbox.TheConstants.{MOST_OCTETS as MOST_PACKET}
use Rattle.ppp_duet.specs.Duet.{End, Setup}
use Rattle.ppp_frame.specs.Deframer.{DeframerState}
use Rattle.ppp_frame.specs.Frame.{enc}
use Rattle.ppp_packet.specs.declared.proto.Proto.{Proto}
use Rattle.ppp_link.specs.Automata.{auto_at, form_of}
use Rattle.ppp_link.specs.Link.{Link}
use Rattle.ppp_trunk.specs.Moves.{orders_at, runs_of}
use Rattle.ppp_trunk.specs.Orders.{auto_by, sent_by}
use Rattle.ppp_trunk.specs.Phases.{IsTrunk}
use Rattle.ppp_trunk.specs.StationOut.{AreShort, Entry, Push, Got, Hang, Dial, Asked}
use Rattle.ppp_trunk.specs.Steps.{Happening, LineUp, LineDown, Opens, Closes, TimesOut, Takes, frame_on, link_does}
use Rattle.ppp_trunk.specs.Trunk.{IsOfLink, on_link}
use Rattle.ppp_trunk.specs.declared.steps.TheConstants.{BAP}
use Rattle.ppp_trunk.proofs.MarkLemmas.{trunk-marked}
use Rattle.ppp_trunk.proofs.MovesLemmas.{all-framed, counts, moves-at}
use Rattle.ppp_trunk.proofs.TrunkPhaseLemmas.{kept-trunk}
use Rattle.ppp_station.specs.Moves.{AreCaused, Does, IsCaused, IsClosing, IsTold, Marks, Move, Moved, Sends, Tells, moves_all, moves_one}
use Rattle.ppp_station.specs.Steps.{passed_on}
use Rattle.ppp_party.specs.Frame.{marked_frames, noted_frames, packets_for}
use Rattle.ppp_party.specs.Party.{pushes_on, queued, room}
use Rattle.ppp_party.specs.Seat.{Bap, IsNoFrame, IsSent, IsSettled, Seat, seat_posted}
use Rattle.ppp_party.proofs.LedgerLemmas.{read_all}
use Rattle.ppp_party.proofs.ListLemmas.{there-is}
use Rattle.ppp_party.proofs.PostLemmas.{pushes-packets}
use Rattle.ppp_party.proofs.SeatLemmas.{happens-settled, pushes-sent}
use Rattle.ppp_party.proofs.SendLemmas.{marked-append, none-queued, noted-append, queued-queued}
use Rattle.ppp_party.proofs.SenderLemmas.{bap-carries}
use Rattle.ppp_party.proofs.StepLemmas.{SeatLeads, SeatMakes, plain-leads, quiet-leads, quiet-none, then-leads}

-- ---- what is passed on

-- the same frames go out
pub passed-pushes : (m : ℕ) (es : List Entry) → pushes_on m (passed_on es) ≡ pushes_on m es
passed-pushes m [] = refl
passed-pushes m (Push l octets ∷ es) = ap (λ fs. (if l == m then octets ∷ [] else []) ++ fs) (passed-pushes m es)
passed-pushes m (Got class protocol octets ∷ es) = one (protocol == BAP) (passed-pushes m es)
  where
    one : (b : Bool) → pushes_on m (passed_on es) ≡ pushes_on m es → pushes_on m ((if b then [] else Got class protocol octets ∷ []) ++ passed_on es) ≡ pushes_on m es
    one true same = same
    one false same = same
passed-pushes m (Hang l ∷ es) = passed-pushes m es
passed-pushes m (Dial l ∷ es) = passed-pushes m es
passed-pushes m (Asked answer ∷ es) = passed-pushes m es

pub short-passed : (es : List Entry) → AreShort (passed_on es) → AreShort es
short-passed [] short = tt
short-passed (Push l octets ∷ es) short = (short.0, short-passed es short.1)
short-passed (Got class protocol octets ∷ es) short = (tt, short-passed es (one (protocol == BAP) short))
  where
    one : (b : Bool) → AreShort ((if b then [] else Got class protocol octets ∷ []) ++ passed_on es) → AreShort (passed_on es)
    one true short = short
    one false short = short.1
short-passed (Hang l ∷ es) short = (tt, short-passed es short.1)
short-passed (Dial l ∷ es) short = (tt, short-passed es short.1)
short-passed (Asked answer ∷ es) short = (tt, short-passed es short.1)

pub short-front : (xs ys : List Entry) → AreShort (xs ++ ys) → AreShort xs
short-front [] ys short = tt
short-front (x ∷ xs) ys short = (short.0, short-front xs ys short.1)

pub short-back : (xs ys : List Entry) → AreShort (xs ++ ys) → AreShort ys
short-back [] ys short = short
short-back (x ∷ xs) ys short = short-back xs ys short.1

-- the entries so far are among those at the end
short-one : (word : ℕ) (x : Move) (mv : Moved) → AreShort (moves_one word x mv).out → AreShort mv.out
short-one word (Does what l) mv short = short-front mv.out _ short
short-one word (Sends l octets) mv short = short-front mv.out _ short
short-one word (Marks l) mv short = short
short-one word (Tells entry) mv short = short-front mv.out _ short

pub short-all : (word : ℕ) (xs : List Move) (mv : Moved) → AreShort (moves_all word xs mv).out → AreShort mv.out
short-all word [] mv short = short
short-all word (x ∷ xs) mv short = short-one word x mv (short-all word xs (moves_one word x mv) short)

pub count-one : (word : ℕ) (x : Move) (mv : Moved) → length (moves_one word x mv).trunk.links ≡ length mv.trunk.links
count-one word (Does what l) mv = counts what l word mv.trunk
count-one word (Sends l octets) mv = refl
count-one word (Marks l) mv = refl
count-one word (Tells entry) mv = refl

told-none : (m : ℕ) (entry : Entry) → IsTold entry → pushes_on m (entry ∷ []) ≡ []
told-none m (Push l octets) told = absurd told
told-none m (Got class protocol octets) told = absurd told
told-none m (Hang l) told = absurd told
told-none m (Dial l) told = refl
told-none m (Asked answer) told = refl

closing-quiet : (what : Happening) → IsClosing what → IsNoFrame what
closing-quiet LineUp closing = tt
closing-quiet LineDown closing = tt
closing-quiet (Opens p) closing = tt
closing-quiet (Closes p) closing = tt
closing-quiet (TimesOut p) closing = tt
closing-quiet (Takes octets) closing = absurd closing

-- ---- a packet of BAP that goes out

bap-none : (p : Proto) (m l : ℕ) (octets : List ℕ) (o : Option Link) → length octets ≤ MOST_PACKET → packets_for p (pushes_on m (frame_on o l BAP octets)) ≡ []
bap-none p m l octets None few = refl
bap-none p m l octets (Some k) few = one (l == m)
  where
    one : (b : Bool) → packets_for p ((if b then enc (form_of k.automata.lcp) BAP octets ∷ [] else []) ++ []) ≡ []
    one true = ap (λ ps. ps ++ []) (bap-carries (form_of k.automata.lcp) octets p (omega (arith, few)))
    one false = refl

bap-sent : (m l : ℕ) (octets : List ℕ) (o : Option Link) → length octets ≤ MOST_PACKET → AllByRecursion IsSent (pushes_on m (frame_on o l BAP octets))
bap-sent m l octets None few = tt
bap-sent m l octets (Some k) few = one (l == m)
  where
    one : (b : Bool) → AllByRecursion IsSent ((if b then enc (form_of k.automata.lcp) BAP octets ∷ [] else []) ++ [])
    one true = (record { form = form_of k.automata.lcp; sender = Bap; info = octets; is = refl; few = omega (arith, few) }, tt)
    one false = tt

-- ---- a link of which frames go out, twice

posted-again : (mark : ℕ) (one two : Link) (xs ys : List (List ℕ)) (s : Seat) → seat_posted mark two ys (seat_posted mark one xs s) ≡ seat_posted mark two (xs ++ ys) s
posted-again mark one two xs ys s =
    (λ i. record {
      link = two;
      ledgers = sym (noted-append s.ledgers xs ys) i;
      incoming = s.incoming;
      outgoing = (queued-queued s.outgoing (marked_frames s.ledgers mark xs) (marked_frames (noted_frames s.ledgers xs) mark ys)
          ∙ ap (queued s.outgoing) (sym (marked-append s.ledgers mark xs ys))) i;
    })

pub posted-none : (mark : ℕ) (s : Seat) → length s.outgoing ≤ room → seat_posted mark s.link [] s ≡ s
posted-none mark s few = (λ i. record { link = s.link; ledgers = s.ledgers; incoming = s.incoming; outgoing = none-queued s.outgoing few i })

-- ---- move by move

-- A link of the station as the moves so far left it, and a list of the two ends' events that leads there for a protocol, of which
-- only the first may be a delivery. What went out so far is noted and under way, behind a frame of that mark.
pub record Going (sa sb : Setup) (p : Proto) (m mark : ℕ) (old s : Seat) (a : Auto) (b : End) (mv : Moved) : Type 0 where
  pub link : Link
  pub trunk : IsTrunk mv.trunk
  pub at : slice_get mv.trunk.links (m - 1) ≡ Some link
  pub settled : IsSettled link
  pub sent : AllByRecursion IsSent (pushes_on m mv.out)
  pub did : SeatMakes sa sb p old (seat_posted mark link (pushes_on m mv.out) s) a b

sent-append : (xs ys : List (List ℕ)) → AllByRecursion IsSent xs → AllByRecursion IsSent ys → AllByRecursion IsSent (xs ++ ys)
sent-append [] ys first rest = rest
sent-append (x ∷ xs) ys first rest = (first.0, sent-append xs ys first.1 rest)

-- more frames go out
pub and-posts : (sa sb : Setup) (p : Proto) (m mark : ℕ) (old s : Seat) (a : Auto) (b : End) (mv now : Moved) (link : Link) (ys : List (List ℕ)) (g : Going sa sb p m mark old s a b mv) →
    IsTrunk now.trunk → slice_get now.trunk.links (m - 1) ≡ Some link → IsSettled link → AllByRecursion IsSent ys → pushes_on m now.out ≡ pushes_on m mv.out ++ ys →
    SeatLeads sa sb p (seat_posted mark g.link (pushes_on m mv.out) s) (seat_posted mark link ys (seat_posted mark g.link (pushes_on m mv.out) s)) g.did.auto b →
    Going sa sb p m mark old s a b now
and-posts sa sb p m mark old s a b mv now link ys g trunk at settled sent frames leads =
    let xs = pushes_on m mv.out in
    let new = posted-again mark g.link link xs ys s ∙ ap (λ fs. seat_posted mark link fs s) (sym frames) in
    record {
      link = link;
      trunk = trunk;
      at = at;
      settled = settled;
      sent = subst (AllByRecursion IsSent) (sym frames) (sent-append xs ys g.sent sent);
      did = subst (λ x. SeatMakes sa sb p old x a b) new (then-leads sa sb p old _ _ a b g.did leads);
    }

-- something happens to a link that brings no frame
pub does-goes : (sa sb : Setup) (p : Proto) (m mark word : ℕ) (old s : Seat) (a : Auto) (b : End) (what : Happening) (l : ℕ) (mv : Moved) → 1 ≤ m → IsOfLink (length mv.trunk.links) l → IsNoFrame what →
    AreShort (on_link what l mv.trunk word).out.entries → Going sa sb p m mark old s a b mv → Going sa sb p m mark old s a b (moves_one word (Does what l) mv)
does-goes sa sb p m mark word old s a b what l mv least of quiet short g =
    let st = mv.trunk in
    let es = (on_link what l st word).out.entries in
    let rs = runs_of what l st word in
    let there = there-is st.links l of.0 of.1 in
    let to = moves-at what l m word st there.0 g.link of.0 least there.1 g.at short in
    and-posts sa sb p m mark old s a b mv _ to.link (pushes_on m es) g
    (kept-trunk what l word st there.0 of.0 there.1 g.trunk) to.at (happens-settled what l m word rs g.link to.link es to.moves quiet g.settled)
    (pushes-sent m es (all-framed what l word st) short)
    (flat_map-append _ mv.out (passed_on es) ∙ ap (λ fs. pushes_on m mv.out ++ fs) (passed-pushes m es))
    (quiet-leads sa sb p what l m word mark rs (seat_posted mark g.link (pushes_on m mv.out) s) to.link es g.did.auto b (quiet-none l m p what rs g.link word quiet) to.moves g.did.end)

-- no frame goes out
and-tells : (sa sb : Setup) (p : Proto) (m mark : ℕ) (old s : Seat) (a : Auto) (b : End) (mv now : Moved) (g : Going sa sb p m mark old s a b mv) →
    IsTrunk now.trunk → now.trunk.links ≡ mv.trunk.links → pushes_on m now.out ≡ pushes_on m mv.out → Going sa sb p m mark old s a b now
and-tells sa sb p m mark old s a b mv now g trunk links frames = record {
  link = g.link;
  trunk = trunk;
  at = ap (λ ks. slice_get ks (m - 1)) links ∙ g.at;
  settled = g.settled;
  sent = subst (AllByRecursion IsSent) (sym frames) g.sent;
  did = subst (λ fs. SeatMakes sa sb p old (seat_posted mark g.link fs s) a b) (sym frames) g.did;
}

-- what BAP causes
goes-one : (sa sb : Setup) (p : Proto) (m mark word : ℕ) (old s : Seat) (a : Auto) (b : End) (x : Move) (mv : Moved) → 1 ≤ m → IsCaused (length mv.trunk.links) x →
    AreShort (moves_one word x mv).out → Going sa sb p m mark old s a b mv → Going sa sb p m mark old s a b (moves_one word x mv)
goes-one sa sb p m mark word old s a b (Does what l) mv least caused short g =
    does-goes sa sb p m mark word old s a b what l mv least caused.1 (closing-quiet what caused.0) (short-passed _ (short-back mv.out _ short)) g
goes-one sa sb p m mark word old s a b (Sends l octets) mv least caused short g =
    let o = slice_get mv.trunk.links (l - 1) in
    let es = frame_on o l BAP octets in
    and-posts sa sb p m mark old s a b mv _ g.link (pushes_on m es) g g.trunk g.at g.settled (bap-sent m l octets o caused.1) (flat_map-append _ mv.out es)
    (plain-leads sa sb p mark (seat_posted mark g.link (pushes_on m mv.out) s) (pushes_on m es) g.did.auto b (bap-none p m l octets o caused.1) g.did.end)
goes-one sa sb p m mark word old s a b (Marks l) mv least caused short g = and-tells sa sb p m mark old s a b mv _ g (trunk-marked l mv.trunk g.trunk) refl refl
goes-one sa sb p m mark word old s a b (Tells entry) mv least caused short g =
    and-tells sa sb p m mark old s a b mv _ g g.trunk refl
    (flat_map-append _ mv.out (entry ∷ []) ∙ ap (λ fs. pushes_on m mv.out ++ fs) (told-none m entry caused) ∙ append-nil (pushes_on m mv.out))

pub goes-all : (sa sb : Setup) (p : Proto) (m mark word : ℕ) (old s : Seat) (a : Auto) (b : End) (xs : List Move) (mv : Moved) → 1 ≤ m → AreCaused (length mv.trunk.links) xs →
    AreShort (moves_all word xs mv).out → Going sa sb p m mark old s a b mv → Going sa sb p m mark old s a b (moves_all word xs mv)
goes-all sa sb p m mark word old s a b [] mv least caused short g = g
goes-all sa sb p m mark word old s a b (x ∷ xs) mv least caused short g =
    let next = moves_one word x mv in
    goes-all sa sb p m mark word old s a b xs next least (subst (λ n. AreCaused n xs) (sym (count-one word x mv)) caused.1) short
    (goes-one sa sb p m mark word old s a b x mv least caused.0 (short-all word xs next short) g)

-- ---- a link that doesn't speak the protocol

-- the link as the moves so far left it
pub record Silent (p : Proto) (m : ℕ) (k : Link) (mv : Moved) : Type 0 where
  pub link : Link
  pub at : slice_get mv.trunk.links (m - 1) ≡ Some link
  pub tables : link.tables ≡ k.tables
  pub auto : auto_at k.automata p ≡ None → auto_at link.automata p ≡ None
  pub none : auto_at k.automata p ≡ None → packets_for p (pushes_on m mv.out) ≡ []

silent-posts : (p : Proto) (m : ℕ) (k link : Link) (mv now : Moved) (ys : List (List ℕ)) → Silent p m k mv → slice_get now.trunk.links (m - 1) ≡ Some link → link.tables ≡ k.tables →
    (auto_at k.automata p ≡ None → auto_at link.automata p ≡ None) → (auto_at k.automata p ≡ None → packets_for p ys ≡ []) → pushes_on m now.out ≡ pushes_on m mv.out ++ ys → Silent p m k now
silent-posts p m k link mv now ys g at tables auto none frames = record {
  link = link;
  at = at;
  tables = tables;
  auto = auto;
  none = λ silent. ap (packets_for p) frames ∙ flat_map-append _ (pushes_on m mv.out) ys ∙ (λ i. g.none silent i ++ none silent i);
}

-- anything happens to a link
pub silent-does : (p : Proto) (m word : ℕ) (k : Link) (what : Happening) (l : ℕ) (mv : Moved) → 1 ≤ m → IsOfLink (length mv.trunk.links) l →
    AreShort (on_link what l mv.trunk word).out.entries → Silent p m k mv → Silent p m k (moves_one word (Does what l) mv)
silent-does p m word k what l mv least of short g =
    let st = mv.trunk in
    let es = (on_link what l st word).out.entries in
    let rs = runs_of what l st word in
    let there = there-is st.links l of.0 of.1 in
    let to = moves-at what l m word st there.0 g.link of.0 least there.1 g.at short in
    let os = orders_at l m p what rs g.link word in
    silent-posts p m k to.link mv _ (pushes_on m es) g to.at (to.moves.tables ∙ g.tables)
    (λ silent. to.moves.automata p ∙ ap (auto_by g.link.tables p word os) (g.auto silent))
    (λ silent. pushes-packets p m es ∙ ap read_all (to.moves.packets p ∙ ap (sent_by g.link.tables p word os) (g.auto silent)))
    (flat_map-append _ mv.out (passed_on es) ∙ ap (λ fs. pushes_on m mv.out ++ fs) (passed-pushes m es))

silent-tells : (p : Proto) (m : ℕ) (k : Link) (mv now : Moved) → Silent p m k mv → now.trunk.links ≡ mv.trunk.links → pushes_on m now.out ≡ pushes_on m mv.out → Silent p m k now
silent-tells p m k mv now g links frames = record {
  link = g.link;
  at = ap (λ ks. slice_get ks (m - 1)) links ∙ g.at;
  tables = g.tables;
  auto = g.auto;
  none = λ silent. ap (packets_for p) frames ∙ g.none silent;
}

silent-one : (p : Proto) (m word : ℕ) (k : Link) (x : Move) (mv : Moved) → 1 ≤ m → IsCaused (length mv.trunk.links) x → AreShort (moves_one word x mv).out → Silent p m k mv → Silent p m k (moves_one word x mv)
silent-one p m word k (Does what l) mv least caused short g = silent-does p m word k what l mv least caused.1 (short-passed _ (short-back mv.out _ short)) g
silent-one p m word k (Sends l octets) mv least caused short g =
    let o = slice_get mv.trunk.links (l - 1) in
    let es = frame_on o l BAP octets in
    silent-posts p m k g.link mv _ (pushes_on m es) g g.at g.tables g.auto (λ silent. bap-none p m l octets o caused.1) (flat_map-append _ mv.out es)
silent-one p m word k (Marks l) mv least caused short g = silent-tells p m k mv _ g refl refl
silent-one p m word k (Tells entry) mv least caused short g =
    silent-tells p m k mv _ g refl (flat_map-append _ mv.out (entry ∷ []) ∙ ap (λ fs. pushes_on m mv.out ++ fs) (told-none m entry caused) ∙ append-nil (pushes_on m mv.out))

pub silent-all : (p : Proto) (m word : ℕ) (k : Link) (xs : List Move) (mv : Moved) → 1 ≤ m → AreCaused (length mv.trunk.links) xs → AreShort (moves_all word xs mv).out → Silent p m k mv → Silent p m k (moves_all word xs mv)
silent-all p m word k [] mv least caused short g = g
silent-all p m word k (x ∷ xs) mv least caused short g =
    let next = moves_one word x mv in
    silent-all p m word k xs next least (subst (λ n. AreCaused n xs) (sym (count-one word x mv)) caused.1) short (silent-one p m word k x mv least caused.0 (short-all word xs next short) g)

-- ---- what a link lends

-- what BAP causes feeds no deframer
pub record Still (m : ℕ) (k : Link) (mv : Moved) : Type 0 where
  pub link : Link
  pub at : slice_get mv.trunk.links (m - 1) ≡ Some link
  pub deframer : link.deframer ≡ k.deframer

closing-still : (what : Happening) (k : Link) (word : ℕ) → IsClosing what → (link_does what k word).link.deframer ≡ k.deframer
closing-still LineUp k word closing = absurd closing
closing-still LineDown k word closing = absurd closing
closing-still (Opens p) k word closing = absurd closing
closing-still (Closes p) k word closing = refl
closing-still (TimesOut p) k word closing = absurd closing
closing-still (Takes octets) k word closing = absurd closing

either-still : (b : Bool) (one two : DeframerState) → one ≡ two → (if b then one else two) ≡ two
either-still true one two same = same
either-still false one two same = refl

still-one : (m word : ℕ) (k : Link) (x : Move) (mv : Moved) → 1 ≤ m → IsCaused (length mv.trunk.links) x → AreShort (moves_one word x mv).out → Still m k mv → Still m k (moves_one word x mv)
still-one m word k (Does what l) mv least caused short g =
    let st = mv.trunk in
    let there = there-is st.links l caused.1.0 caused.1.1 in
    let to = moves-at what l m word st there.0 g.link caused.1.0 least there.1 g.at (short-passed _ (short-back mv.out _ short)) in
    record { link = to.link; at = to.at; deframer = to.moves.deframer ∙ either-still (l == m) _ g.link.deframer (closing-still what g.link word caused.0) ∙ g.deframer }
still-one m word k (Sends l octets) mv least caused short g = record { link = g.link; at = g.at; deframer = g.deframer }
still-one m word k (Marks l) mv least caused short g = record { link = g.link; at = g.at; deframer = g.deframer }
still-one m word k (Tells entry) mv least caused short g = record { link = g.link; at = g.at; deframer = g.deframer }

pub still-all : (m word : ℕ) (k : Link) (xs : List Move) (mv : Moved) → 1 ≤ m → AreCaused (length mv.trunk.links) xs → AreShort (moves_all word xs mv).out → Still m k mv → Still m k (moves_all word xs mv)
still-all m word k [] mv least caused short g = g
still-all m word k (x ∷ xs) mv least caused short g =
    let next = moves_one word x mv in
    still-all m word k xs next least (subst (λ n. AreCaused n xs) (sym (count-one word x mv)) caused.1) short (still-one m word k x mv least caused.0 (short-all word xs next short) g)
