-- An end that begins anew, as the two ends of each protocol see it.
use Rattle.std.proofs.Common.{◌≡◌, ◌≢◌, ℕ, zero, suc, ◌+◌, ◌-◌, ◌<◌, ◌≤◌, Bool, true, false, if◌then◌else◌, List, [], ◌∷◌, ◌++◌, length, map, refl, sym, ap, subst, ◌∙◌, append-nil, append_assoc, inl, inr, arith}
use Rattle.std.specs.Prelude.{⊤, ◌⊎◌, ◌==◌, ◌&&◌, Option, Some, None, option_map, slice_get}
use Rattle.std.specs.List.{AllByRecursion}
use Rattle.std.proofs.lemmas.Option.{slice_get-map, slice_get_within}
use Rattle.ppp_auto.specs.Auto.{Auto, begun, is_off, is_opened}
use Rattle.ppp_auto.specs.Automaton.{after, command, does_row, effects, entries_of}
use Rattle.ppp_auto.specs.EventTable.{cell_of}
use Rattle.ppp_auto.specs.OptionTable.{Table}
use Rattle.ppp_auto.specs.Taken.{Taken, input_of, taken_as}
use Rattle.ppp_auto.specs.declared.auto_event.AutoEvent.TheVariants.{Up, Down, AdminOpen, AdminClose, Timeout, RejectedWell, RejectedBadly}
use Rattle.ppp_auto.specs.declared.auto_state.AutoState.{AutoState}
use Rattle.ppp_auto.specs.declared.auto_state.AutoState.TheVariants.{Initial, Starting, Closed, Stopped, Closing, Stopping, ReqSent, AckRcvd, AckSent, Opened}
use Rattle.ppp_auto.specs.declared.input.Input.TheVariants as on
use Rattle.ppp_duet.specs.Duet as duet
use Rattle.ppp_duet.specs.Duet.{Did, Duet, End, Event, Marked, Setup, at_first, run}
use Rattle.ppp_packet.specs.declared.proto.Proto.{Proto}
use Rattle.ppp_packet.specs.declared.proto.Proto.TheVariants.{Lcp, Ip, Ipv6, Osi, Mpls, Bacp}
use Rattle.ppp_link.specs.Automata.{auto_at, automata_begun, begun_if, with_cap}
use Rattle.ppp_link.specs.Link.{Link}
use Rattle.ppp_link.specs.LinkTables.{LinkTables, bacp_table, ip_table, ipv6_table, mpls_table, osi_table, table_if, table_of}
use Rattle.ppp_link.specs.Steps.{does, run_by}
use Rattle.ppp_trunk.specs.Control.{Run}
use Rattle.ppp_trunk.specs.Moves.{Moves, goes_with, of_own, of_run, of_runs, orders_at, runs_of}
use Rattle.ppp_trunk.specs.Orders.{Obeyed, Order, Commands, SetsCap, Hears, RejectsProtocol, auto_by, is_same, obeys, obeys_all, of_link, packets_in}
use Rattle.ppp_trunk.specs.Phases.{IsTrunk, IsUpWhere}
use Rattle.ppp_trunk.specs.Trunk.{Trunk, IsBegun, IsReady, link_ready, on_link, opens_all, trunk_anew}
use Rattle.ppp_trunk.specs.StationOut.{AreShort, Entry}
use Rattle.ppp_trunk.specs.Steps.{LineDown}
use Rattle.ppp_trunk.proofs.MovesLemmas.{all-framed, counts, moves-at}
use Rattle.ppp_trunk.proofs.TrunkPhaseLemmas.{begun-anew, begun-trunk, kept-trunk, off-trunk}
use Rattle.ppp_station.specs.Station.{Station, moves, station_anew}
use Rattle.ppp_party.specs.Downs.{AllShortDowns, AreShortDowns}
use Rattle.ppp_party.specs.Events.{DeliversFirst, AreCaused, Leads, Makes}
use Rattle.ppp_party.specs.Frame.{Frame, only}
use Rattle.ppp_party.specs.Ledger.{Ledger, Ledgers, IsLedgerOf, end_of, first_id, ledger_at, ledger_begun, ledgers_begun, noted_all, stamped}
use Rattle.ppp_party.specs.Party.{Ends, cleared, downs, ends_begun, happens, party_begun, pushes_on, reboots, station_of, turned, unheard}
use Rattle.ppp_party.specs.Seat.{Anew, IsEnd, IsSeated, IsSettled, IsSpoken, IsWell, Seat, SeatAt, rebooted, seat_duet, seat_posted}
use Rattle.ppp_party.proofs.LedgerLemmas.{commanded_kept, commanded_seen, packets_of, proper_command, read_all, sent_in}
use Rattle.ppp_party.proofs.ListLemmas.{all-at, there-is}
use Rattle.ppp_party.proofs.MoveLemmas.{passed-pushes, short-passed}
use Rattle.ppp_party.proofs.OrderLemmas.{BringsNone, duet_with, joined, orders-run}
use Rattle.ppp_party.proofs.SeatLemmas.{happens-settled, posted-at, pushes-sent, same-or, well-posted}
use Rattle.ppp_party.proofs.StepLemmas.{None_in, goes-out, is-done, none-append, own-here, own-other}

-- ---- the row Down

-- it sends nothing
down-packets : (old new : Auto) (taken : Taken) (s : AutoState) → packets_of (effects old new taken (cell_of on.Down s).actions) ≡ []
down-packets old new taken Initial = refl
down-packets old new taken Starting = refl
down-packets old new taken Closed = refl
down-packets old new taken Stopped = refl
down-packets old new taken Closing = refl
down-packets old new taken Stopping = refl
down-packets old new taken ReqSent = refl
down-packets old new taken AckRcvd = refl
down-packets old new taken AckSent = refl
down-packets old new taken Opened = refl

pub down-sends-none : (t : Table) (a : Auto) (word : ℕ) → sent_in (command t a Down word) ≡ []
down-sends-none t a word =
    let input = input_of a Down in
    let taken = taken_as a (Some input) 0 in
    let row = cell_of input a.state in
    proper_command t a Down word ∙ down-packets a (after t a input row taken word) taken a.state

-- it does nothing to an automaton in Initial or Starting
off-by : (t : Table) (a : Auto) (word : ℕ) (s : AutoState) → a.state ≡ s → is_off s ≡ true → (command t a Down word).auto ≡ a
unfolding does_row
off-by t a word Initial e off = rw e refl
off-by t a word Starting e off = rw e refl
off-by t a word Closed e off = absurd (cc)
off-by t a word Stopped e off = absurd (cc)
off-by t a word Closing e off = absurd (cc)
off-by t a word Stopping e off = absurd (cc)
off-by t a word ReqSent e off = absurd (cc)
off-by t a word AckRcvd e off = absurd (cc)
off-by t a word AckSent e off = absurd (cc)
off-by t a word Opened e off = absurd (cc)

pub off-down : (t : Table) (a : Auto) (word : ℕ) → is_off a.state ≡ true → (command t a Down word).auto ≡ a
off-down t a word off = off-by t a word a.state refl off

-- a cap that is set before it is the cap after it
capped-down : (t : Table) (a : Auto) (cap word : ℕ) → (command t (with_cap cap a) Down word).auto ≡ with_cap cap (command t a Down word).auto
unfolding does_row
capped-down t a cap word = refl

-- it sends no octets either
silent-by : (t : Table) (a : Auto) (word : ℕ) (s : AutoState) → a.state ≡ s → packets_in (entries_of (command t a Down word)) ≡ []
unfolding does_row
silent-by t a word Initial e = rw e refl
silent-by t a word Starting e = rw e refl
silent-by t a word Closed e = rw e refl
silent-by t a word Stopped e = rw e refl
silent-by t a word Closing e = rw e refl
silent-by t a word Stopping e = rw e refl
silent-by t a word ReqSent e = rw e refl
silent-by t a word AckRcvd e = rw e refl
silent-by t a word AckSent e = rw e refl
silent-by t a word Opened e = rw e refl

down-silent : (t : Table) (a : Auto) (word : ℕ) → packets_in (entries_of (command t a Down word)) ≡ []
down-silent t a word = silent-by t a word a.state refl

-- and it leads to Initial or Starting
down-by : (t : Table) (a : Auto) (word : ℕ) (s : AutoState) → a.state ≡ s → is_off (command t a Down word).auto.state ≡ true
unfolding does_row
down-by t a word Initial e = rw e refl
down-by t a word Starting e = rw e refl
down-by t a word Closed e = rw e refl
down-by t a word Stopped e = rw e refl
down-by t a word Closing e = rw e refl
down-by t a word Stopping e = rw e refl
down-by t a word ReqSent e = rw e refl
down-by t a word AckRcvd e = rw e refl
down-by t a word AckSent e = rw e refl
down-by t a word Opened e = rw e refl

down-off : (t : Table) (a : Auto) (word : ℕ) → is_off (command t a Down word).auto.state ≡ true
down-off t a word = down-by t a word a.state refl

-- Up does nothing to one that is beyond them
record Stays (t : Table) (a : Auto) (word : ℕ) : Type 0 where
  auto : (command t a Up word).auto ≡ a
  silent : packets_in (entries_of (command t a Up word)) ≡ []

up-by : (t : Table) (a : Auto) (word : ℕ) (s : AutoState) → a.state ≡ s → is_off s ≡ false → Stays t a word
unfolding does_row
up-by t a word Initial e on = absurd (cc)
up-by t a word Starting e on = absurd (cc)
up-by t a word Closed e on = record { auto = rw e refl; silent = rw e refl }
up-by t a word Stopped e on = record { auto = rw e refl; silent = rw e refl }
up-by t a word Closing e on = record { auto = rw e refl; silent = rw e refl }
up-by t a word Stopping e on = record { auto = rw e refl; silent = rw e refl }
up-by t a word ReqSent e on = record { auto = rw e refl; silent = rw e refl }
up-by t a word AckRcvd e on = record { auto = rw e refl; silent = rw e refl }
up-by t a word AckSent e on = record { auto = rw e refl; silent = rw e refl }
up-by t a word Opened e on = record { auto = rw e refl; silent = rw e refl }

up-on : (t : Table) (a : Auto) (word : ℕ) → is_off a.state ≡ false → Stays t a word
up-on t a word on = up-by t a word a.state refl on

-- ---- an automaton that is to go Down, and one that did

-- The two ends' machine has the other end see its line go down at once. At the other end Down comes somewhere among what its
-- lines that go down cause, or never where the automaton is off. So the machine's automaton is that of the end, or what Down
-- makes of that.
abbrev Behind : Table → ℕ → Auto → Auto → Type 0
Behind t word d w = (d ≡ w) ⊎ ((is_off w.state ≡ false) × (d ≡ (command t w Down word).auto))

behind-first : (t : Table) (word : ℕ) (w : Auto) → Behind t word (command t w Down word).auto w
behind-first t word w = by (is_off w.state) refl
  where
    by : (off : Bool) → is_off w.state ≡ off → Behind t word (command t w Down word).auto w
    by true off = inl (off-down t w word off)
    by false on = inr (on, refl)

caught-up : (t : Table) (word : ℕ) (d w : Auto) → Behind t word d w → is_off w.state ≡ true → d ≡ w
caught-up t word d w (inl same) off = same
caught-up t word d w (inr (on, is)) off = let both : true ≡ false = sym off ∙ on in absurd (cc)

-- what a line that goes down is to an automaton: it goes Up or Down, or its cap is set
abbrev IsRun : Order → Type 0
IsRun (Commands Up) = ⊤
IsRun (Commands Down) = ⊤
IsRun (SetsCap cap) = ⊤
IsRun order = ⊥

abbrev AreRuns : List Order → Type 0
AreRuns os = AllByRecursion IsRun os

run-none : (o : Order) → IsRun o → BringsNone o
run-none (Commands event) run = tt
run-none (SetsCap cap) run = tt
run-none (Hears octets) run = absurd run
run-none (RejectsProtocol packet) run = absurd run

runs-append : (os more : List Order) → AreRuns os → AreRuns more → AreRuns (os ++ more)
runs-append [] more first rest = rest
runs-append (o ∷ os) more first rest = (first.0, runs-append os more first.1 rest)

command-runs : (b on : Bool) → AreRuns (if b then Commands (run_by on) ∷ [] else [])
command-runs true true = (tt, tt)
command-runs true false = (tt, tt)
command-runs false on = tt

all-runs : (m : ℕ) (p : Proto) (rs : List Run) → AreRuns (of_runs m p rs)
all-runs m p [] = tt
all-runs m p (r ∷ rs) = runs-append (of_run m p r) (of_runs m p rs) (command-runs ((r.link == m) && goes_with p r.bacp) r.on) (all-runs m p rs)

own-runs : (p : Proto) (k : Link) (word : ℕ) (own : Bool) → AreRuns (if own then of_link p LineDown k word else [])
own-runs p k word true = runs-append (if is_same p Lcp then Commands Down ∷ [] else []) _ (command-runs (is_same p Lcp) false) (tt, tt)
own-runs p k word false = tt

down-runs : (l m : ℕ) (p : Proto) (rs : List Run) (k : Link) (word : ℕ) → AreRuns (orders_at l m p LineDown rs k word)
down-runs l m p rs k word = runs-append (of_own l m p LineDown k word) (of_runs m p rs) (own-runs p k word (l == m)) (all-runs m p rs)

-- the machine's automaton follows by orders of its own, and sends the same
record Follows (t : Table) (word : ℕ) (d : Auto) (did : Obeyed) : Type 0 where
  orders : List Order
  none : None_in orders
  sent : (obeys_all t word orders d).sent ≡ did.sent
  behind : Behind t word (obeys_all t word orders d).auto did.auto

follows-one : (t : Table) (word : ℕ) (o : Order) (d w : Auto) → IsRun o → Behind t word d w → Follows t word d (obeys t word o w)
follows-one t word o d w run (inl same) = record {
  orders = o ∷ [];
  none = (run-none o run, tt);
  sent = append-nil (obeys t word o d).sent ∙ ap (λ x. (obeys t word o x).sent) same;
  behind = inl (ap (λ x. (obeys t word o x).auto) same);
}
follows-one t word (Commands Up) d w run (inr (on, is)) =
    let up = up-on t w word on in
    record { orders = []; none = tt; sent = sym up.silent; behind = subst (Behind t word d) (sym up.auto) (inr (on, is)) }
follows-one t word (Commands Down) d w run (inr (on, is)) = record { orders = []; none = tt; sent = sym (down-silent t w word); behind = inl is }
follows-one t word (Commands AdminOpen) d w run (inr behind) = absurd run
follows-one t word (Commands AdminClose) d w run (inr behind) = absurd run
follows-one t word (Commands Timeout) d w run (inr behind) = absurd run
follows-one t word (Commands RejectedWell) d w run (inr behind) = absurd run
follows-one t word (Commands RejectedBadly) d w run (inr behind) = absurd run
follows-one t word (SetsCap cap) d w run (inr (on, is)) =
    record { orders = SetsCap cap ∷ []; none = (tt, tt); sent = refl; behind = inr (on, ap (with_cap cap) is ∙ sym (capped-down t w cap word)) }
follows-one t word (Hears octets) d w run (inr behind) = absurd run
follows-one t word (RejectsProtocol packet) d w run (inr behind) = absurd run

-- orders, one behind the other
more-auto : (t : Table) (word : ℕ) (os more : List Order) (a : Auto) → (obeys_all t word (os ++ more) a).auto ≡ (obeys_all t word more (obeys_all t word os a).auto).auto
more-auto t word [] more a = refl
more-auto t word (o ∷ os) more a = more-auto t word os more (obeys t word o a).auto

more-sent : (t : Table) (word : ℕ) (os more : List Order) (a : Auto) →
    (obeys_all t word (os ++ more) a).sent ≡ (obeys_all t word os a).sent ++ (obeys_all t word more (obeys_all t word os a).auto).sent
more-sent t word [] more a = refl
more-sent t word (o ∷ os) more a =
    let first = obeys t word o a in
    ap (λ xs. first.sent ++ xs) (more-sent t word os more first.auto)
    ∙ sym (append_assoc first.sent (obeys_all t word os first.auto).sent (obeys_all t word more (obeys_all t word os first.auto).auto).sent)

follows-all : (t : Table) (word : ℕ) (os : List Order) (d w : Auto) → AreRuns os → Behind t word d w → Follows t word d (obeys_all t word os w)
follows-all t word [] d w runs behind = record { orders = []; none = tt; sent = refl; behind = behind }
follows-all t word (o ∷ os) d w runs behind =
    let one = follows-one t word o d w runs.0 behind in
    let first = obeys t word o w in
    let mid = obeys_all t word one.orders d in
    let more = follows-all t word os mid.auto first.auto runs.1 one.behind in
    record {
      orders = one.orders ++ more.orders;
      none = none-append one.orders more.orders one.none more.none;
      sent = more-sent t word one.orders more.orders d ∙ (λ i. one.sent i ++ more.sent i);
      behind = subst (λ x. Behind t word x (obeys_all t word os first.auto).auto) (sym (more-auto t word one.orders more.orders d)) more.behind;
    }

-- ---- LCP of a link whose line went down

never-with : (b : Bool) → (b && false) ≡ false
never-with true = refl
never-with false = refl

lcp-runs : (m : ℕ) (rs : List Run) → of_runs m Lcp rs ≡ []
lcp-runs m [] = refl
lcp-runs m (r ∷ rs) = (λ i. (if never-with (r.link == m) i then Commands (run_by r.on) ∷ [] else []) ++ lcp-runs m rs i)

lcp-down : (m word : ℕ) (rs : List Run) (k now : Link) (out : List Entry) → Moves m m LineDown rs word k now out → is_off now.automata.lcp.state ≡ true
lcp-down m word rs k now out moves =
    let t = table_of k.tables Lcp in
    let a = k.automata.lcp in
    let os : orders_at m m Lcp LineDown rs k word ≡ of_link Lcp LineDown k word = (λ i. own-here m Lcp LineDown k word i ++ lcp-runs m rs i) in
    let both : Some now.automata.lcp ≡ Some (obeys_all t word (of_link Lcp LineDown k word) a).auto = moves.automata Lcp ∙ ap (λ os. auto_by k.tables Lcp word os (Some a)) os in
    let same : now.automata.lcp ≡ (obeys_all t word (of_link Lcp LineDown k word) a).auto = cc in
    ap (λ (a : Auto). is_off a.state) same ∙ down-off t a word

-- it stays so while others go down
lcp-stays : (l m word : ℕ) (rs : List Run) (k now : Link) (out : List Entry) → m ≢ l → Moves l m LineDown rs word k now out → now.automata.lcp ≡ k.automata.lcp
lcp-stays l m word rs k now out other moves =
    let os : orders_at l m Lcp LineDown rs k word ≡ [] = (λ i. own-other l m Lcp LineDown k word other i ++ lcp-runs m rs i) in
    let both : Some now.automata.lcp ≡ Some k.automata.lcp = moves.automata Lcp ∙ ap (λ os. auto_by k.tables Lcp word os (Some k.automata.lcp)) os in
    cc

off-closed : (s : AutoState) → is_off s ≡ true → is_opened s ≡ false
off-closed Initial off = refl
off-closed Starting off = refl
off-closed Closed off = refl
off-closed Stopped off = refl
off-closed Closing off = refl
off-closed Stopping off = refl
off-closed ReqSent off = refl
off-closed AckRcvd off = refl
off-closed AckSent off = refl
off-closed Opened off = absurd (cc)

-- no automaton is Up on such a link
net-off : (st : Trunk) (i : ℕ) (k : Link) (p : Proto) (w : Auto) → IsTrunk st → slice_get st.links i ≡ Some k → p ≢ Lcp → auto_at k.automata p ≡ Some w → is_off k.automata.lcp.state ≡ true → is_off w.state ≡ true
net-off st i k p w trunk at other is off = subst (IsUpWhere false) is (off-trunk st i k p trunk at other (off-closed k.automata.lcp.state off))

all-off : (st : Trunk) (i : ℕ) (k : Link) (p : Proto) (w : Auto) → IsTrunk st → slice_get st.links i ≡ Some k → auto_at k.automata p ≡ Some w → is_off k.automata.lcp.state ≡ true → is_off w.state ≡ true
all-off st i k Lcp w trunk at is off = let same : k.automata.lcp ≡ w = cc in subst (λ (a : Auto). is_off a.state ≡ true) same off
all-off st i k Ip w trunk at is off = net-off st i k Ip w trunk at (λ same. cc) is off
all-off st i k Ipv6 w trunk at is off = net-off st i k Ipv6 w trunk at (λ same. cc) is off
all-off st i k Osi w trunk at is off = net-off st i k Osi w trunk at (λ same. cc) is off
all-off st i k Mpls w trunk at is off = net-off st i k Mpls w trunk at (λ same. cc) is off
all-off st i k Bacp w trunk at is off = net-off st i k Bacp w trunk at (λ same. cc) is off

-- ---- the lines that go down, one after the other

-- A link of the end while they do: its automaton, that of the two ends' machine, and a list of events that delivers nothing and
-- leads the machine there; LCP is off once the link's own line has gone down.
record Walk (sa sb : Setup) (p : Proto) (m l word : ℕ) (start : Duet) (b : End) (e : Ends) : Type 0 where
  seat : Seat
  auto : Auto
  real : Auto
  trunk : IsTrunk e.own.trunk
  at : SeatAt m e seat
  well : IsWell seat
  empty : seat.incoming ≡ []
  spoken : IsSpoken sa p seat.link.tables
  is : auto_at seat.link.automata p ≡ Some real
  behind : Behind sa.table word auto real
  kept : IsLedgerOf auto (ledger_at seat.ledgers p)
  leads : Leads sa sb start (seat_duet p auto seat b)
  off : m < l → is_off seat.link.automata.lcp.state ≡ true

below : (m l : ℕ) → m < l + 1 → m ≢ l → m < l
below m l less other = grind arith

off-next : (l m word : ℕ) (rs : List Run) (k now : Link) (out : List Entry) → Moves l m LineDown rs word k now out → (m < l → is_off k.automata.lcp.state ≡ true) → m < l + 1 → (m ≡ l) ⊎ (m ≢ l) → is_off now.automata.lcp.state ≡ true
off-next l m word rs k now out moves off less (inl same) = lcp-down m word rs k now out (subst (λ l. Moves l m LineDown rs word k now out) (sym same) moves)
off-next l m word rs k now out moves off less (inr other) = ap (λ (a : Auto). is_off a.state) (lcp-stays l m word rs k now out other moves) ∙ off (below m l less other)

walk-next : (sa sb : Setup) (p : Proto) (m l word : ℕ) (start : Duet) (b : End) (e : Ends) → 1 ≤ l → 1 ≤ m → l ≤ length e.own.trunk.links → AreShort (moves LineDown l (station_of e.own) word).out.entries →
    Walk sa sb p m l word start b e → Walk sa sb p m (l + 1) word start b (happens LineDown l word e)
unfolding happens
walk-next sa sb p m l word start b e low least high quick w =
    let st = e.own.trunk in
    let es = (on_link LineDown l st word).out.entries in
    let short : AreShort es = short-passed es quick in
    let rs = runs_of LineDown l st word in
    let s = w.seat in
    let link = there-is st.links l low high in
    let to = moves-at LineDown l m word st link.0 s.link low least link.1 w.at.link short in
    let os = orders_at l m p LineDown rs s.link word in
    let done = is-done sa p LineDown l m word rs s.link to.link es w.real to.moves w.spoken.table w.is in
    let follows = follows-all sa.table word os w.auto w.real (down-runs l m p rs s.link word) w.behind in
    let did = obeys_all sa.table word follows.orders w.auto in
    let obeys = orders-run sa sb w.auto (ledger_at s.ledgers p) 0 word b (only p s.incoming) (only p s.outgoing) follows.orders follows.none w.kept in
    let out = goes-out sa sb p 0 s to.link (pushes_on m es) did.auto b (read_all did.sent) (done.sent ∙ ap read_all (sym follows.sent)) obeys.kept in
    record {
      seat = seat_posted 0 to.link (pushes_on m es) s;
      auto = did.auto;
      real = (obeys_all sa.table word os w.real).auto;
      trunk = kept-trunk LineDown l word st link.0 low link.1 w.trunk;
      at = posted-at 0 m (moves LineDown l (station_of e.own) word) e s to.link (pushes_on m es) least to.at (passed-pushes m es) w.at;
      well = well-posted 0 to.link (pushes_on m es) s (pushes-sent m es (all-framed LineDown l word st) short)
          (happens-settled LineDown l m word rs s.link to.link es to.moves tt w.well.settled) w.well.incoming w.well.outgoing;
      empty = w.empty;
      spoken = subst (IsSpoken sa p) (sym to.moves.tables) w.spoken;
      is = done.auto;
      behind = follows.behind;
      kept = out.kept;
      leads = joined sa sb _ _ _ w.leads (joined sa sb _ _ _ obeys.events out.leads);
      off = λ less. off-next l m word rs s.link to.link es to.moves w.off less (same-or m l);
    }

walk-all : (sa sb : Setup) (p : Proto) (n m l word : ℕ) (start : Duet) (b : End) (e : Ends) → 1 ≤ l → 1 ≤ m → l + n ≤ 1 + length e.own.trunk.links → AreShortDowns word n l (station_of e.own) →
    Walk sa sb p m l word start b e → Walk sa sb p m (l + n) word start b (downs n l word e)
unfolding happens
walk-all sa sb p zero m l word start b e low least high short w = subst (λ x. Walk sa sb p m x word start b e) (omega arith) w
walk-all sa sb p (suc n) m l word start b e low least high short w =
    let next = happens LineDown l word e in
    subst (λ x. Walk sa sb p m x word start b (downs n (l + 1) word next)) (omega arith)
    (walk-all sa sb p n m (l + 1) word start b next (omega arith) least (omega (arith, high, counts LineDown l word e.own.trunk)) short.1
    (walk-next sa sb p m l word start b e low least (omega (arith, high)) short.0 w))

-- ---- an end as it begins

-- the automaton of a protocol as a trunk begins with it: a control protocol above LCP is to be opened
abbrev pub opened_anew : Proto → Table → Auto → Auto
opened_anew Lcp t a = a
opened_anew p t a = (command t a AdminOpen 0).auto

pub ready-auto : (t : LinkTables) (p : Proto) → auto_at (link_ready t).automata p ≡ option_map (opened_anew p (table_of t p)) (auto_at (automata_begun t) p)
unfolding opens_all does
ready-auto t Lcp = refl
ready-auto t Ip = refl
ready-auto t Ipv6 = refl
ready-auto t Osi = refl
ready-auto t Mpls = refl
ready-auto t Bacp = refl

begun-if : {T : Type 0} (table : T → Table) (o : Option T) (a : Auto) → begun_if table o ≡ Some a → a ≡ begun (table_if table o) first_id
begun-if table None a is = absurd (cc)
begun-if table (Some t) a is = cc

begun-auto : (t : LinkTables) (p : Proto) (a : Auto) → auto_at (automata_begun t) p ≡ Some a → a ≡ begun (table_of t p) first_id
begun-auto t Lcp a is = cc
begun-auto t Ip a is = begun-if ip_table t.ip a is
begun-auto t Ipv6 a is = begun-if ipv6_table t.ipv6 a is
begun-auto t Osi a is = begun-if osi_table t.osi a is
begun-auto t Mpls a is = begun-if mpls_table t.mpls a is
begun-auto t Bacp a is = begun-if bacp_table t.bacp a is

ready-settled : (t : LinkTables) → IsSettled (link_ready t)
unfolding opens_all
ready-settled t = record { stands = refl; limit = refl }

pub ready-tables : (t : LinkTables) → (link_ready t).tables ≡ t
unfolding opens_all
ready-tables t = refl

-- it is led to from the start
record BeginsAs (sa sb : Setup) (b : End) (to_a to_b : List Marked) (a : Auto) : Type 0 where
  kept : IsLedgerOf a ledger_begun
  leads : Leads sa sb (duet_with (begun sa.table sa.first) ledger_begun b to_a to_b) (duet_with a ledger_begun b to_a to_b)

start-kept : (t : Table) → IsLedgerOf (begun t first_id) ledger_begun
start-kept t = record { ids = refl; last = λ asking. absurd (cc) }

open-sends-none : (t : Table) → sent_in (command t (begun t first_id) AdminOpen 0) ≡ []
open-sends-none t = proper_command t (begun t first_id) AdminOpen 0

opens-as : (sa sb : Setup) (b : End) (to_a to_b : List Marked) → sa.first ≡ first_id → BeginsAs sa sb b to_a to_b (command sa.table (begun sa.table first_id) AdminOpen 0).auto
opens-as sa sb b to_a to_b first =
    let a = begun sa.table first_id in
    let obeys = orders-run sa sb a ledger_begun 0 0 b to_a to_b (Commands AdminOpen ∷ []) (tt, tt) (start-kept sa.table) in
    let did = obeys_all sa.table 0 (Commands AdminOpen ∷ []) a in
    let none : read_all did.sent ≡ [] = ap read_all (append-nil (packets_in (entries_of (command sa.table a AdminOpen 0)))) ∙ open-sends-none sa.table in
    record {
      kept = subst (λ ps. IsLedgerOf did.auto (noted_all ledger_begun ps)) none obeys.kept;
      leads = record {
        events = obeys.events.events;
        none = obeys.events.none;
        leads = ap (λ n. run sa sb obeys.events.events (duet_with (begun sa.table n) ledger_begun b to_a to_b)) first
            ∙ obeys.events.leads
            ∙ ap (λ ps. duet_with did.auto (noted_all ledger_begun ps) b to_a (to_b ++ stamped ledger_begun 0 ps)) none
            ∙ ap (duet_with did.auto ledger_begun b to_a) (append-nil to_b);
      };
    }

begins-as : (sa sb : Setup) (p : Proto) (b : End) (to_a to_b : List Marked) → sa.first ≡ first_id → BeginsAs sa sb b to_a to_b (opened_anew p sa.table (begun sa.table first_id))
begins-as sa sb Lcp b to_a to_b first = record {
  kept = start-kept sa.table;
  leads = record { events = []; none = tt; leads = ap (λ n. duet_with (begun sa.table n) ledger_begun b to_a to_b) first };
}
begins-as sa sb Ip b to_a to_b first = opens-as sa sb b to_a to_b first
begins-as sa sb Ipv6 b to_a to_b first = opens-as sa sb b to_a to_b first
begins-as sa sb Osi b to_a to_b first = opens-as sa sb b to_a to_b first
begins-as sa sb Mpls b to_a to_b first = opens-as sa sb b to_a to_b first
begins-as sa sb Bacp b to_a to_b first = opens-as sa sb b to_a to_b first

-- ---- both ends of a protocol

pub unheard-at : (gs : Ledgers) (p : Proto) → ledger_at (unheard gs) p ≡ record (ledger_at gs p) { got = 0 }
unheard-at gs Lcp = refl
unheard-at gs Ip = refl
unheard-at gs Ipv6 = refl
unheard-at gs Osi = refl
unheard-at gs Mpls = refl
unheard-at gs Bacp = refl

pub begun-at : (p : Proto) → ledger_at ledgers_begun p ≡ ledger_begun
begun-at Lcp = refl
begun-at Ip = refl
begun-at Ipv6 = refl
begun-at Osi = refl
begun-at Mpls = refl
begun-at Bacp = refl

pub mapped-there : {X Y : Type 0} (f : X → Y) (xs : List X) (i : ℕ) (x : X) → slice_get xs i ≡ Some x → slice_get (map f xs) i ≡ Some (f x)
mapped-there f xs i x is = slice_get-map f xs i ∙ ap (option_map f) is

-- the other end, when all that was under way is lost
abbrev pub silenced : Seat → Seat
silenced o = record { link = o.link; ledgers = unheard o.ledgers; incoming = []; outgoing = [] }

-- before its lines go down
abbrev pub stilled : Ends → Ends
stilled e = record { own = cleared e.other; other = party_begun (station_anew (station_of e.own)) }

pub silenced-at : (m : ℕ) (e : Ends) (s o : Seat) → SeatAt m e s → SeatAt m (turned e) o → SeatAt m (stilled e) (silenced o)
silenced-at m e s o at_own at_other = record {
  link = at_other.link;
  ledgers = mapped-there unheard e.other.ledgers (m - 1) o.ledgers at_other.ledgers;
  incoming = mapped-there (λ queue. []) e.other.incoming (m - 1) o.incoming at_other.incoming;
  outgoing = mapped-there (λ k. []) (trunk_anew e.own.trunk).links (m - 1) (link_ready s.link.tables) (mapped-there (λ k. link_ready k.tables) e.own.trunk.links (m - 1) s.link at_own.link);
}

-- a link as a trunk begins with it, with these frames under way to it
abbrev pub seat_begun : LinkTables → List Frame → Seat
seat_begun t incoming = record { link = link_ready t; ledgers = ledgers_begun; incoming = incoming; outgoing = [] }

begun-end : (sa : Setup) (p : Proto) (t : LinkTables) (incoming outgoing : List Frame) → IsSpoken sa p t →
    IsEnd sa p (record { link = link_ready t; ledgers = ledgers_begun; incoming = incoming; outgoing = outgoing }) (opened_anew p sa.table (begun sa.table first_id))
begun-end sa p t incoming outgoing spoken =
    let auto = opened_anew p sa.table (begun sa.table first_id) in
    let begun_is : spoken.auto ≡ begun (table_of t p) first_id = begun-auto t p spoken.auto spoken.there in
    let opened = begins-as sa sa p (end_of auto ledger_begun) [] [] spoken.first in
    record {
      spoken = subst (IsSpoken sa p) (sym (ready-tables t)) spoken;
      auto = ready-auto t p ∙ ap (option_map (opened_anew p (table_of t p))) spoken.there ∙ ap (λ x. Some (opened_anew p (table_of t p) x)) begun_is
          ∙ ap (λ t. Some (opened_anew p t (begun t first_id))) (sym spoken.table);
      kept = subst (λ g. IsLedgerOf auto g) (sym (begun-at p)) opened.kept;
    }

-- ---- seen from the other end

unfoldable pub flipped : Event → Event
flipped e = record { side = other_side e.side; what = e.what; word = e.word }
  where
    other_side : duet.Side → duet.Side
    other_side duet.A = duet.B
    other_side duet.B = duet.A

pub flip-one : (sa sb : Setup) (d : Duet) (e : Event) → duet.turned (duet.happens sa sb d e) ≡ duet.happens sb sa (duet.turned d) (flipped e)
unfolding flipped
flip-one sa sb d e = by e.side
  where
    by : (side : duet.Side) → duet.turned (duet.at_side side sa sb d e.what e.word) ≡ duet.happens sb sa (duet.turned d) (flipped (record { side = side; what = e.what; word = e.word }))
    by duet.A = refl
    by duet.B = refl

pub flip-run : (sa sb : Setup) (es : List Event) (d : Duet) → duet.turned (run sa sb es d) ≡ run sb sa (map flipped es) (duet.turned d)
flip-run sa sb [] d = refl
flip-run sa sb (e ∷ es) d = flip-run sa sb es (duet.happens sa sb d e) ∙ ap (run sb sa (map flipped es)) (flip-one sa sb d e)

flip-none : (es : List Event) → AreCaused es → AreCaused (map flipped es)
unfolding flipped
flip-none [] none = tt
flip-none (e ∷ es) none = (none.0, flip-none es none.1)

pub flip-first : (es : List Event) → DeliversFirst es → DeliversFirst (map flipped es)
unfolding flipped
flip-first [] first = tt
flip-first (e ∷ es) first = (first.0, flip-none es first.1)

pub turned-leads : (sa sb : Setup) (a b : Duet) → Leads sa sb a b → Leads sb sa (duet.turned a) (duet.turned b)
turned-leads sa sb a b l = record { events = map flipped l.events; none = flip-none l.events l.none; leads = sym (flip-run sa sb l.events a) ∙ ap duet.turned l.leads }

-- what is a list of events for one end is one for the other
pub turned-makes : (sa sb : Setup) (a b : Duet) → Makes sa sb a b → Makes sb sa (duet.turned a) (duet.turned b)
turned-makes sa sb a b l = record { events = map flipped l.events; first = flip-first l.events l.first; leads = sym (flip-run sa sb l.events a) ∙ ap duet.turned l.leads }

-- ---- the end that begins anew, and the other

-- what the two ends' machine makes of the other end
module _ (sb : Setup) (g : Ledger) (b : Auto) (word : ℕ) (kept : IsLedgerOf b g) where
  abbrev clear : Ledger
  clear = record g { got = 0 }

  clear-kept : IsLedgerOf b clear
  clear-kept = record { ids = kept.ids; last = kept.last }

  down-kept : IsLedgerOf (command sb.table b Down word).auto clear
  down-kept =
      subst (λ ps. IsLedgerOf (command sb.table b Down word).auto (noted_all clear ps)) (down-sends-none sb.table b word) (commanded_kept sb.table b clear Down word clear-kept)

  rebooted-is : (sa : Setup) (a : End) (to_a to_b : List Marked) →
      rebooted sa sb word (record { a = a; b = end_of b g; to_a = to_a; to_b = to_b }) ≡ record { a = duet.end_begun sa; b = end_of (command sb.table b Down word).auto clear; to_a = []; to_b = [] }
  unfolding at_first
  rebooted-is sa a to_a to_b =
      let acted = command sb.table b Down word in
      let down = ap (λ (d : Did). d.end) (commanded_seen sb b clear Down word clear-kept) ∙ ap (λ ps. end_of acted.auto (noted_all clear ps)) (down-sends-none sb.table b word) in
      ap (λ (e : End). record { a = duet.end_begun sa; b = e; to_a = []; to_b = [] }) down

-- the other end before its lines go down
walk-first : (sa sb : Setup) (p : Proto) (m word : ℕ) (e : Ends) (s o : Seat) (b : Auto) → 1 ≤ m → SeatAt m e s → (is : IsSeated sb p m (turned e) o b) →
    let down = (command sb.table b Down word).auto in
    Walk sb sa p m 1 word (record { a = end_of down (record (ledger_at o.ledgers p) { got = 0 }); b = duet.end_begun sa; to_a = []; to_b = [] }) (duet.end_begun sa) (stilled e)
walk-first sa sb p m word e s o b least own is =
    let g = ledger_at o.ledgers p in
    let down = (command sb.table b Down word).auto in
    record {
      seat = silenced o;
      auto = down;
      real = b;
      trunk = is.trunk;
      at = silenced-at m e s o own is.at;
      well = record { settled = is.well.settled; incoming = tt; outgoing = tt; few = omega arith };
      empty = refl;
      spoken = is.end.spoken;
      is = is.end.auto;
      behind = behind-first sb.table word b;
      kept = subst (λ g. IsLedgerOf down g) (sym (unheard-at o.ledgers p)) (down-kept sb g b word is.end.kept);
      leads = record { events = []; none = tt; leads = sym (λ i. duet_with down (unheard-at o.ledgers p i) (duet.end_begun sa) [] []) };
      off = λ less. absurd (omega (arith, less, least));
    }

-- the trunk and the ledgers of the end itself
record StaysAnew (before after : Ends) : Type 0 where
  trunk : after.other.trunk ≡ before.other.trunk
  ledgers : after.other.ledgers ≡ before.other.ledgers

downs-stay : (n l word : ℕ) (e : Ends) → StaysAnew e (downs n l word e)
unfolding happens
downs-stay zero l word e = record { trunk = refl; ledgers = refl }
downs-stay (suc n) l word e =
    let more = downs-stay n (l + 1) word (happens LineDown l word e) in
    record { trunk = more.trunk; ledgers = more.ledgers }

pub reboots-came : (sa sb : Setup) (p : Proto) (m word : ℕ) (e : Ends) (s o : Seat) (a b : Auto) → 1 ≤ m → AllShortDowns word (station_of e.other) →
    IsSeated sa p m e s a → IsSeated sb p m (turned e) o b → Anew sa sb p m (rebooted sa sb word (seat_duet p a s (end_of b (ledger_at o.ledgers p)))) (reboots word e)
unfolding reboots
reboots-came sa sb p m word e s o a b least short own other =
    let n = length e.other.trunk.links in
    let t = s.link.tables in
    let anew = trunk_anew e.own.trunk in
    let within = slice_get_within e.other.trunk.links (m - 1) o.link other.at.link in
    let w = walk-all sb sa p n m 1 word _ (duet.end_begun sa) (stilled e) (omega arith) least (omega arith) short (walk-first sa sb p m word e s o b least own.at other) in
    let now = w.seat in
    let off = all-off (downs n 1 word (stilled e)).own.trunk (m - 1) now.link p w.real w.trunk w.at.link w.is (w.off (omega (arith, within, least))) in
    let same = caught-up sb.table word w.auto w.real w.behind off in
    let back = sym same in
    let stays = downs-stay n 1 word (stilled e) in
    let auto = opened_anew p sa.table (begun sa.table first_id) in
    let g = ledger_at now.ledgers p in
    let opened = begins-as sa sb p (end_of w.auto g) (only p now.outgoing) (only p now.incoming) own.end.spoken.first in
    let first = rebooted-is sb (ledger_at o.ledgers p) b word other.end.kept sa (end_of a (ledger_at s.ledgers p)) (only p s.incoming) (only p s.outgoing) in
    let all = joined sa sb _ _ _ (turned-leads sb sa _ _ w.leads) opened.leads in
    let there = mapped-there (λ k. link_ready k.tables) e.own.trunk.links (m - 1) s.link own.at.link in
    record {
      own = record { link = link_ready t; ledgers = ledgers_begun; incoming = now.outgoing; outgoing = now.incoming };
      other = now;
      own_auto = auto;
      other_auto = w.real;
      own_seated = record {
        trunk = subst IsTrunk (sym stays.trunk) (begun-trunk anew (begun-anew e.own.trunk own.trunk));
        at = record {
          link = ap (λ (st : Trunk). slice_get st.links (m - 1)) stays.trunk ∙ there;
          ledgers = ap (λ gs. slice_get gs (m - 1)) stays.ledgers ∙ mapped-there (λ k. ledgers_begun) anew.links (m - 1) (link_ready t) there;
          incoming = w.at.outgoing;
          outgoing = w.at.incoming;
        };
        well = record { settled = ready-settled t; incoming = w.well.outgoing; outgoing = w.well.incoming; few = omega (arith, ap length w.empty) };
        end = begun-end sa p t now.outgoing now.incoming own.end.spoken;
      };
      other_seated = record {
        trunk = w.trunk;
        at = w.at;
        well = w.well;
        end = record { spoken = w.spoken; auto = w.is; kept = subst (λ a. IsLedgerOf a g) same w.kept };
      };
      leads = record {
        events = all.events;
        none = all.none;
        leads = ap (run sa sb all.events) first ∙ all.leads ∙ sym (λ i. duet_with auto (begun-at p i) (end_of (back i) g) (only p now.outgoing) (only p now.incoming));
      };
    }

-- ---- both ends as they begin

pub begun-ready : (m : ℕ) (st : Trunk) (k : Link) → IsBegun st → slice_get st.links (m - 1) ≡ Some k → k ≡ link_ready k.tables
begun-ready m st k begun is = all-at IsReady st.links (m - 1) k begun.ready is

pub seat-begun : (m : ℕ) (own other : Station) (k j : Link) → slice_get own.trunk.links (m - 1) ≡ Some k → slice_get other.trunk.links (m - 1) ≡ Some j → k ≡ link_ready k.tables →
    SeatAt m (ends_begun own other) (seat_begun k.tables [])
seat-begun m own other k j there here ready = record {
  link = there ∙ ap (λ k. Some k) ready;
  ledgers = mapped-there (λ k. ledgers_begun) own.trunk.links (m - 1) k there;
  incoming = mapped-there (λ k. []) own.trunk.links (m - 1) k there;
  outgoing = mapped-there (λ k. []) other.trunk.links (m - 1) j here;
}

well-begun : (t : LinkTables) → IsWell (seat_begun t [])
well-begun t = record { settled = ready-settled t; incoming = tt; outgoing = tt; few = omega arith }

pub begins-came : (sa sb : Setup) (p : Proto) (m : ℕ) (own other : Station) (k j : Link) → slice_get own.trunk.links (m - 1) ≡ Some k → slice_get other.trunk.links (m - 1) ≡ Some j →
    IsBegun own.trunk → IsBegun other.trunk → IsSpoken sa p k.tables → IsSpoken sb p j.tables → Anew sa sb p m (duet.start sa sb) (ends_begun own other)
begins-came sa sb p m own other k j there here ready steady spoken heard =
    let a = opened_anew p sa.table (begun sa.table first_id) in
    let b = opened_anew p sb.table (begun sb.table first_id) in
    let one = begins-as sa sb p (duet.end_begun sb) [] [] spoken.first in
    let two = begins-as sb sa p (end_of a ledger_begun) [] [] heard.first in
    let all = joined sa sb (duet.start sa sb) (duet_with a ledger_begun (duet.end_begun sb) [] []) (duet_with a ledger_begun (end_of b ledger_begun) [] []) one.leads (turned-leads sb sa _ _ two.leads) in
    record {
      own = seat_begun k.tables [];
      other = seat_begun j.tables [];
      own_auto = a;
      other_auto = b;
      own_seated = record { trunk = begun-trunk own.trunk ready; at = seat-begun m own other k j there here (begun-ready m own.trunk k ready there); well = well-begun k.tables; end = begun-end sa p k.tables [] [] spoken };
      other_seated = record { trunk = begun-trunk other.trunk steady; at = seat-begun m other own j k here there (begun-ready m other.trunk j steady here); well = well-begun j.tables; end = begun-end sb p j.tables [] [] heard };
      leads = record { events = all.events; none = all.none; leads = all.leads ∙ sym (λ i. duet_with a (begun-at p i) (end_of b (begun-at p i)) [] []) };
    }
