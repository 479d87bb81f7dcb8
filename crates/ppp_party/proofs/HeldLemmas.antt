-- What holds of a protocol on a link in each state of a world, by an event at either end.
use Rattle.std.proofs.Common.{◌≡◌, ℕ, ◌-◌, ◌≤◌, Bool, [], length, refl, sym, ap, subst, ◌∙◌, inl, inr, arith}
use Rattle.std.specs.Prelude.{Option, Some, None, option_map, slice_get}
use Rattle.ppp_auto.specs.Auto.{Auto}
use Rattle.ppp_bap.specs.declared.bap_ask.BapAsk.{BapAsk}
use Rattle.ppp_bap.specs.declared.call_ask.CallAsk.{CallAsk}
use Rattle.ppp_duet.specs.Duet.{End, Setup, without}
use Rattle.ppp_duet.specs.Span.{Narrow, widest}
use Rattle.ppp_duet.proofs.Queues.{by_request, marks_without}
use Rattle.ppp_packet.specs.declared.proto.Proto.{Proto}
use Rattle.ppp_link.specs.Automata.{auto_at, automata_begun}
use Rattle.ppp_link.specs.Link.{Link}
use Rattle.ppp_link.specs.LinkTables.{LinkTables, table_of}
use Rattle.ppp_trunk.specs.Trunk.{IsBegun, IsOfLink, link_ready, trunk_anew}
use Rattle.ppp_trunk.specs.StationOut.{AreShort}
use Rattle.ppp_trunk.specs.Steps.{Happening}
use Rattle.ppp_station.specs.Station.{IsStation, Station, asks_peer, moves, tells_peer, tries_again}
use Rattle.ppp_party.specs.Downs.{AllShortDowns}
use Rattle.ppp_party.specs.Frame.{only}
use Rattle.ppp_party.specs.Held.{HeldAfter, IsHeld, IsLone}
use Rattle.ppp_party.specs.Kept.{Kept, duet_of}
use Rattle.ppp_party.specs.Ledger.{Ledger, end_of, first_id, ledger_at}
use Rattle.ppp_party.specs.Party.{Ends, IsShortDelivery, asks, delivers, downs, ends_begun, happens, loses, reboots, station_of, tells, tries, turned}
use Rattle.ppp_party.specs.Seat.{Came, IsNoFrame, IsSeated, IsSpoken, Seat, SeatAt}
use Rattle.ppp_party.specs.Spans.{NarrowOn, ledger_if, sent_on}
use Rattle.ppp_party.proofs.CameLemmas.{asks-came, delivers-came, happens-came, loses-came, tells-came, tries-came}
use Rattle.ppp_party.proofs.KeptLemmas.{IsSame, asks-same, begins-kept, came-kept, delivers-same, happens-same, loses-same, tells-same, tries-same, other-at, other_with, queues-at, reboots-kept, turned-kept}
use Rattle.ppp_party.proofs.LoneLemmas.{Becomes, Goes, GoesDown, asks-goes, delivers-goes, downs-goes, happens-goes, loses-goes, tells-goes, tries-goes}
use Rattle.ppp_party.proofs.RebootLemmas.{begun-at, begun-ready, mapped-there, opened_anew, ready-auto, ready-tables, seat-begun, seat_begun, silenced, silenced-at, stilled, unheard-at}
use Rattle.ppp_party.proofs.SpansLemmas.{AreNear, duet-narrow, makes-narrow, narrow-duet, near-span, own-sent, seat-spans, span-near, span-none}

-- ---- both ends

-- the other end draws no ordinal
same-sent : (m : ℕ) (p : Proto) (before after : Ends) → IsSame before after → sent_on m p after.other ≡ sent_on m p before.other
same-sent m p before after same = ap (λ gs. (ledger_if p (slice_get gs (m - 1))).n) same.ledgers

-- ---- both speak it

kept-after : (sa sb : Setup) (m : ℕ) (p : Proto) (e after : Ends) (k : Kept sa sb p m e) → NarrowOn m p e → IsSame e after →
    Came sa sb p m k.own k.own_auto (end_of k.other_auto (ledger_at k.other.ledgers p)) after → HeldAfter m p e after
kept-after sa sb m p e after k narrow same came =
    let before : Narrow (duet_of k) = narrow-duet sa sb p m e k narrow in
    let at = came.seated.at in
    let there = other-at m e after k.other came.seat same k.other_seated.at at in
    let spans = seat-spans m p after came.seat k.other.ledgers at there.ledgers in
    let old = own-sent m p e k.own k.own_seated.at in
    let new = own-sent m p after came.seat at in
    record {
      held = inl (record { own_setup = sa; other_setup = sb; kept = came-kept sa sb p m e after k same before came });
      narrow = λ still. duet-narrow m p after came.seat came.auto k.other_auto k.other.ledgers spans
          (makes-narrow sa sb _ _ came.makes (omega (arith, still, old, new)) (omega arith) before);
      other = same-sent m p e after same;
    }

-- ---- one speaks it, and the event is there

lone-own : (m : ℕ) (p : Proto) (e after : Ends) (h : IsLone m p e) (new : Seat) → SeatAt m after new → Becomes p h.own new → IsSame e after → IsLone m p after
lone-own m p e after h new at becomes same = record {
  own = new;
  other = other_with h.other new;
  own_at = at;
  other_at = other-at m e after h.other new same h.other_at at;
  few_out = becomes.few h.few_out;
  few_in = omega (arith, becomes.fewer, h.few_in);
  silent = h.silent;
  unset = h.unset;
  none_sent = h.none_sent;
  none_under_way = becomes.less.1 ∙ ap (without becomes.less.0) h.none_under_way;
}

lone-own-after : (m : ℕ) (p : Proto) (e after : Ends) (h : IsLone m p e) → NarrowOn m p e → Goes m p e h.own after → HeldAfter m p e after
unfolding lone-own
lone-own-after m p e after h narrow goes =
    let now = lone-own m p e after h goes.new goes.at goes.becomes goes.same in
    let n = (ledger_at h.own.ledgers p).n in
    let was = seat-spans m p e h.own h.other.ledgers h.own_at h.other_at.ledgers in
    let is = seat-spans m p after goes.new h.other.ledgers goes.at now.other_at.ledgers in
    let old = own-sent m p e h.own h.own_at in
    let new = own-sent m p after goes.new goes.at in
    let near : AreNear n (only p h.own.outgoing) = span-near n (only p h.own.outgoing) (only p h.own.incoming) (subst (λ n. n ≤ widest) was.of_own narrow.of_own) in
    record {
      held = inr (inl now);
      narrow = λ still. record {
        of_own = subst (λ n. n ≤ widest) (sym is.of_own)
            (near-span n (ledger_at goes.new.ledgers p).n (only p goes.new.outgoing) (only p goes.new.incoming) now.none_under_way (omega (arith, still, old, new)) (goes.near near));
        of_other = subst (λ n. n ≤ widest) (sym is.of_other) (span-none _ (only p goes.new.incoming) (only p goes.new.outgoing) h.none_sent);
      };
      other = same-sent m p e after goes.same;
    }

-- ---- one speaks it, and the event is at the other

lone-other : (m : ℕ) (p : Proto) (e after : Ends) (h : IsLone m p (turned e)) (new : Seat) → SeatAt m after new → Becomes p h.other new → IsSame e after → IsLone m p (turned after)
lone-other m p e after h new at becomes same =
    let queues = queues-at m e h.other h.own h.other_at h.own_at in
    let quiet = becomes.quiet h.silent in
    let in_few = h.few_in in
    let out_few = h.few_out in
    record {
      own = other_with h.own new;
      other = new;
      own_at = other-at m e after h.own new same h.own_at at;
      other_at = at;
      few_out = omega (arith, becomes.fewer, out_few, ap length queues.outgoing);
      few_in = becomes.few (omega (arith, in_few, ap length queues.incoming));
      silent = quiet.auto;
      unset = ap (λ t. auto_at (automata_begun t) p) becomes.tables ∙ h.unset;
      none_sent = quiet.sent ∙ h.none_sent;
      none_under_way = quiet.none (ap (only p) (sym queues.incoming) ∙ h.none_under_way);
    }

lone-other-after : (m : ℕ) (p : Proto) (e after : Ends) (h : IsLone m p (turned e)) → NarrowOn m p e → Goes m p e h.other after → HeldAfter m p e after
unfolding lone-other
lone-other-after m p e after h narrow goes =
    let s = h.other in
    let now = lone-other m p e after h goes.new goes.at goes.becomes goes.same in
    let n = (ledger_at h.own.ledgers p).n in
    let was = seat-spans m p e s h.own.ledgers h.other_at h.own_at.ledgers in
    let is = seat-spans m p after goes.new h.own.ledgers goes.at now.own_at.ledgers in
    let near : AreNear n (only p s.incoming) = span-near n (only p s.incoming) (only p s.outgoing) (subst (λ n. n ≤ widest) was.of_other narrow.of_other) in
    let left : AreNear n (only p goes.new.incoming) = subst (AreNear n) (sym goes.becomes.less.1) (marks_without by_request _ goes.becomes.less.0 (only p s.incoming) near) in
    record {
      held = inr (inr now);
      narrow = λ still. record {
        of_own = subst (λ n. n ≤ widest) (sym is.of_own) (span-none _ (only p goes.new.outgoing) (only p goes.new.incoming) now.none_sent);
        of_other = subst (λ n. n ≤ widest) (sym is.of_other) (near-span n n (only p goes.new.incoming) (only p goes.new.outgoing) now.none_under_way (omega arith) left);
      };
      other = same-sent m p e after goes.same;
    }

-- ---- the steps

-- an event of the first end that is a list of the two ends' events where both speak the protocol, and leaves a link as it may
step-held : (m : ℕ) (p : Proto) (e after : Ends) → IsSame e after →
    ((sa sb : Setup) (s : Seat) (a : Auto) (b : End) → IsSeated sa p m e s a → Came sa sb p m s a b after) → ((s : Seat) → SeatAt m e s → Goes m p e s after) →
    NarrowOn m p e → IsHeld m p e → HeldAfter m p e after
step-held m p e after same came goes narrow (inl on) =
    let h = on.kept in
    kept-after on.own_setup on.other_setup m p e after h narrow same (came on.own_setup on.other_setup h.own h.own_auto (end_of h.other_auto (ledger_at h.other.ledgers p)) h.own_seated)
step-held m p e after same came goes narrow (inr (inl h)) = lone-own-after m p e after h narrow (goes h.own h.own_at)
step-held m p e after same came goes narrow (inr (inr h)) = lone-other-after m p e after h narrow (goes h.other h.other_at)

pub happens-held : (what : Happening) (l m : ℕ) (p : Proto) (word : ℕ) (e : Ends) → IsOfLink (length e.own.trunk.links) l → 1 ≤ m → IsNoFrame what → AreShort (moves what l (station_of e.own) word).out.entries →
    NarrowOn m p e → IsHeld m p e → HeldAfter m p e (happens what l word e)
happens-held what l m p word e of least quiet short =
    step-held m p e (happens what l word e) (happens-same what l word e)
    (λ sa sb s a b seated. happens-came sa sb p what l m word e s a b of least quiet short seated)
    (λ s at. happens-goes p what l m word e s of least short at)

pub delivers-held : (says : CallAsk → Bool) (l m : ℕ) (p : Proto) (word : ℕ) (e : Ends) → IsStation (station_of e.own) → IsOfLink (length e.own.trunk.links) l → 1 ≤ m →
    IsShortDelivery says l word e.own → NarrowOn m p e → IsHeld m p e → HeldAfter m p e (delivers says l word e)
delivers-held says l m p word e well of least short =
    step-held m p e (delivers says l word e) (delivers-same says l word e)
    (λ sa sb s a b seated. delivers-came sa sb p says l m word e s a b well of least short seated)
    (λ s at. delivers-goes p says l m word e s well of least short at)

pub asks-held : (what : BapAsk) (l m : ℕ) (p : Proto) (word : ℕ) (e : Ends) → IsStation (station_of e.own) → IsOfLink (length e.own.trunk.links) l → 1 ≤ m →
    AreShort (asks_peer l what (station_of e.own) word).out.entries → NarrowOn m p e → IsHeld m p e → HeldAfter m p e (asks l what word e)
asks-held what l m p word e well of least short =
    step-held m p e (asks l what word e) (asks-same what l word e)
    (λ sa sb s a b seated. asks-came sa sb p what l m word e s a b well of least short seated)
    (λ s at. asks-goes p what l m word e s well of least short at)

pub tells-held : (status l m : ℕ) (p : Proto) (word : ℕ) (e : Ends) → IsStation (station_of e.own) → IsOfLink (length e.own.trunk.links) l → 1 ≤ m →
    AreShort (tells_peer l status (station_of e.own) word).out.entries → NarrowOn m p e → IsHeld m p e → HeldAfter m p e (tells l status word e)
tells-held status l m p word e well of least short =
    step-held m p e (tells l status word e) (tells-same status l word e)
    (λ sa sb s a b seated. tells-came sa sb p status l m word e s a b well of least short seated)
    (λ s at. tells-goes p status l m word e s well of least short at)

pub tries-held : (l m : ℕ) (p : Proto) (word : ℕ) (e : Ends) → IsStation (station_of e.own) → IsOfLink (length e.own.trunk.links) l → 1 ≤ m →
    AreShort (tries_again l (station_of e.own) word).out.entries → NarrowOn m p e → IsHeld m p e → HeldAfter m p e (tries l word e)
tries-held l m p word e well of least short =
    step-held m p e (tries l word e) (tries-same l word e)
    (λ sa sb s a b seated. tries-came sa sb p l m word e s a b well of least short seated)
    (λ s at. tries-goes p l m word e s well of least short at)

pub loses-held : (l m place : ℕ) (p : Proto) (e : Ends) → 1 ≤ l → 1 ≤ m → NarrowOn m p e → IsHeld m p e → HeldAfter m p e (loses l place e)
loses-held l m place p e low least =
    step-held m p e (loses l place e) (loses-same l place e)
    (λ sa sb s a b seated. loses-came sa sb p l m place e s a b low least seated)
    (λ s at. loses-goes p l m place e s low least at)

pub turned-held : (m : ℕ) (p : Proto) (e : Ends) → IsHeld m p e → IsHeld m p (turned e)
turned-held m p e (inl on) = inl (record { own_setup = on.other_setup; other_setup = on.own_setup; kept = turned-kept on.own_setup on.other_setup p m e on.kept })
turned-held m p e (inr (inl h)) = inr (inr h)
turned-held m p e (inr (inr h)) = inr (inl h)

-- ---- both ends as they begin

-- a protocol that isn't configured has no automaton
none-ready : (t : LinkTables) (p : Proto) → auto_at (automata_begun t) p ≡ None → auto_at (link_ready t).automata p ≡ None
none-ready t p none = ready-auto t p ∙ ap (option_map (opened_anew p (table_of t p))) none

-- an end begins as that setup, where the protocol is configured
setup-of : LinkTables → Proto → Setup
setup-of t p = record { table = table_of t p; first = first_id }

begun-spoken : (t : LinkTables) (p : Proto) (a : Auto) → auto_at (automata_begun t) p ≡ Some a → IsSpoken (setup-of t p) p t
unfolding setup-of
begun-spoken t p a is = record { first = refl; table = refl; auto = a; there = is }

-- the link of the second isn't configured for it
lone-begun : (m : ℕ) (p : Proto) (own other : Station) (k j : Link) → slice_get own.trunk.links (m - 1) ≡ Some k → slice_get other.trunk.links (m - 1) ≡ Some j → IsBegun own.trunk → IsBegun other.trunk →
    auto_at (automata_begun j.tables) p ≡ None → IsLone m p (ends_begun own other)
lone-begun m p own other k j there here ready steady none = record {
  own = seat_begun k.tables [];
  other = seat_begun j.tables [];
  own_at = seat-begun m own other k j there here (begun-ready m own.trunk k ready there);
  other_at = seat-begun m other own j k here there (begun-ready m other.trunk j steady here);
  few_out = omega arith;
  few_in = omega arith;
  silent = none-ready j.tables p none;
  unset = ap (λ t. auto_at (automata_begun t) p) (ready-tables j.tables) ∙ none;
  none_sent = ap (λ (g : Ledger). g.n) (begun-at p);
  none_under_way = refl;
}

begins-by : (m : ℕ) (p : Proto) (own other : Station) (k j : Link) → slice_get own.trunk.links (m - 1) ≡ Some k → slice_get other.trunk.links (m - 1) ≡ Some j → IsBegun own.trunk → IsBegun other.trunk →
    (a b : Option Auto) → auto_at (automata_begun k.tables) p ≡ a → auto_at (automata_begun j.tables) p ≡ b → IsHeld m p (ends_begun own other)
begins-by m p own other k j there here ready steady (Some a) (Some b) is one =
    let sa = setup-of k.tables p in
    let sb = setup-of j.tables p in
    inl (record { own_setup = sa; other_setup = sb; kept = begins-kept sa sb p m own other k j there here ready steady (begun-spoken k.tables p a is) (begun-spoken j.tables p b one) })
begins-by m p own other k j there here ready steady None (Some b) is one = inr (inr (lone-begun m p other own j k here there steady ready is))
begins-by m p own other k j there here ready steady a None is one = inr (inl (lone-begun m p own other k j there here ready steady one))

pub begins-held : (m : ℕ) (p : Proto) (own other : Station) (k j : Link) → 1 ≤ m → slice_get own.trunk.links (m - 1) ≡ Some k → slice_get other.trunk.links (m - 1) ≡ Some j → IsBegun own.trunk → IsBegun other.trunk →
    IsHeld m p (ends_begun own other)
begins-held m p own other k j least there here ready steady = begins-by m p own other k j there here ready steady _ _ refl refl

-- ---- an end that begins anew

-- the end itself
begun-at-other : (m : ℕ) (e : Ends) (s o : Seat) → SeatAt m e s → SeatAt m (turned e) o → SeatAt m (turned (stilled e)) (seat_begun s.link.tables [])
begun-at-other m e s o own other =
    let there = mapped-there (λ k. link_ready k.tables) e.own.trunk.links (m - 1) s.link own.link in
    record {
      link = there;
      ledgers = mapped-there _ (trunk_anew e.own.trunk).links (m - 1) (link_ready s.link.tables) there;
      incoming = mapped-there _ (trunk_anew e.own.trunk).links (m - 1) (link_ready s.link.tables) there;
      outgoing = mapped-there (λ queue. []) e.other.incoming (m - 1) o.incoming other.incoming;
    }

-- what the other end's link comes to when its lines have gone down
has-downs : (m word : ℕ) (p : Proto) (e : Ends) (s o : Seat) → 1 ≤ m → AllShortDowns word (station_of e.other) → SeatAt m e s → SeatAt m (turned e) o →
    GoesDown m p (stilled e) (silenced o) (downs (length e.other.trunk.links) 1 word (stilled e))
has-downs m word p e s o least short own other = downs-goes p (length e.other.trunk.links) 1 m word (stilled e) (silenced o) (omega arith) least (omega arith) short (silenced-at m e s o own other)

-- the other end doesn't speak it: it is still so when its lines have gone down
reboots-own : (m : ℕ) (p : Proto) (word : ℕ) (e : Ends) → 1 ≤ m → AllShortDowns word (station_of e.other) → IsLone m p e → IsLone m p (reboots word e)
unfolding reboots
reboots-own m p word e least short h =
    let downs = has-downs m word p e h.own h.other least short h.own_at h.other_at in
    let before : IsLone m p (turned (stilled e)) = record {
      own = seat_begun h.own.link.tables [];
      other = silenced h.other;
      own_at = begun-at-other m e h.own h.other h.own_at h.other_at;
      other_at = silenced-at m e h.own h.other h.own_at h.other_at;
      few_out = omega arith;
      few_in = omega arith;
      silent = h.silent;
      unset = h.unset;
      none_sent = ap (λ (g : Ledger). g.n) (unheard-at h.other.ledgers p) ∙ h.none_sent;
      none_under_way = refl;
    } in
    lone-other m p (stilled e) _ before downs.new downs.at downs.becomes downs.same

-- the end that begins anew doesn't speak it
reboots-other : (m : ℕ) (p : Proto) (word : ℕ) (e : Ends) → 1 ≤ m → AllShortDowns word (station_of e.other) → IsLone m p (turned e) → IsLone m p (turned (reboots word e))
unfolding reboots
reboots-other m p word e least short h =
    let downs = has-downs m word p e h.other h.own least short h.other_at h.own_at in
    let t = h.other.link.tables in
    let before : IsLone m p (stilled e) = record {
      own = silenced h.own;
      other = seat_begun t [];
      own_at = silenced-at m e h.other h.own h.other_at h.own_at;
      other_at = begun-at-other m e h.other h.own h.other_at h.own_at;
      few_out = omega arith;
      few_in = omega arith;
      silent = none-ready t p h.unset;
      unset = ap (λ t. auto_at (automata_begun t) p) (ready-tables t) ∙ h.unset;
      none_sent = ap (λ (g : Ledger). g.n) (begun-at p);
      none_under_way = refl;
    } in
    lone-own m p (stilled e) _ before downs.new downs.at downs.becomes downs.same

pub reboots-held : (m : ℕ) (p : Proto) (word : ℕ) (e : Ends) → 1 ≤ m → AllShortDowns word (station_of e.other) → IsHeld m p e → IsHeld m p (reboots word e)
reboots-held m p word e least short (inl on) = inl (record { own_setup = on.own_setup; other_setup = on.other_setup; kept = reboots-kept on.own_setup on.other_setup p m word e on.kept least short })
reboots-held m p word e least short (inr (inl h)) = inr (inl (reboots-own m p word e least short h))
reboots-held m p word e least short (inr (inr h)) = inr (inr (reboots-other m p word e least short h))
