-- Orders to an automaton are events of the two ends' machine.
use Rattle.std.proofs.Common.{◌≡◌, ℕ, List, [], ◌∷◌, ◌++◌, refl, sym, ap, subst, ◌∙◌, append_assoc, append-nil}
use Rattle.std.specs.Prelude.{Option, Some, None, ⊤}
use Rattle.std.specs.List.{AllByRecursion}
use Rattle.std.proofs.lemmas.Grind.{flat_map-append}
use Rattle.ppp_packet.specs.Code.{code_number}
use Rattle.ppp_packet.specs.declared.code.Code.TheVariants.{ProtocolReject}
use Rattle.ppp_auto.specs.Auto.{Auto}
use Rattle.ppp_auto.specs.Automaton.{after, answering, command, does_row, effects, entries_of, take_in, take_read}
use Rattle.ppp_auto.specs.EventTable.{cell_of}
use Rattle.ppp_auto.specs.OptionTable.{Table}
use Rattle.ppp_auto.specs.Outbox.{Effect}
use Rattle.ppp_auto.specs.Packet.{Packet, Request, Ack, Nak, Reject, Other, octets_of, packet_of}
use Rattle.ppp_auto.specs.Taken.{Taken, input_of, taken_as}
use Rattle.ppp_auto.specs.declared.action.Action.{Action}
use Rattle.ppp_auto.specs.declared.action.Action.TheVariants.{ThisLayerUp, ThisLayerDown, ThisLayerStarted, ThisLayerFinished, InitializeRestartCount, ZeroRestartCount, SendConfigureRequest, RepeatConfigureRequest, SendConfigureAck, SendConfigureNak, SendTerminateRequest, SendTerminateAck, SendCodeReject, SendEchoReply}
use Rattle.ppp_auto.specs.declared.auto_event.AutoEvent.{AutoEvent}
use Rattle.ppp_duet.specs.Duet as duet
use Rattle.ppp_duet.specs.Duet.{Duet, End, Event, Marked, Setup, at_first, run, with_a}
use Rattle.ppp_duet.proofs.NarrowRunLemmas.{run_append}
use Rattle.ppp_link.specs.Automata.{with_cap}
use Rattle.ppp_trunk.specs.Orders.{Obeyed, Order, Commands, SetsCap, Hears, RejectsProtocol, and_sends, obeyed, obeys, obeys_all, packets_in}
use Rattle.ppp_party.specs.Events.{Leads, Makes}
use Rattle.ppp_party.specs.Ledger.{Ledger, IsLedgerOf, end_of, heard, noted, noted_all, stamp, stamped}
use Rattle.ppp_party.proofs.LedgerLemmas.{commanded_kept, commanded_seen, packet_of-octets_of, packets_of, proper_command, read_all, read_one, sent_in, taken_kept, taken_seen}

-- ---- what is noted and stamped, one behind the other

pub noted_all-append : (g : Ledger) (ps qs : List Packet) → noted_all g (ps ++ qs) ≡ noted_all (noted_all g ps) qs
noted_all-append g [] qs = refl
noted_all-append g (p ∷ ps) qs = noted_all-append (noted g p) ps qs

pub stamped-append : (g : Ledger) (mark : ℕ) (ps qs : List Packet) → stamped g mark (ps ++ qs) ≡ stamped g mark ps ++ stamped (noted_all g ps) mark qs
stamped-append g mark [] qs = refl
stamped-append g mark (p ∷ ps) qs = ap (λ ms. stamp g mark p ∷ ms) (stamped-append (noted g p) mark ps qs)

pub read_all-append : (xs ys : List (List ℕ)) → read_all (xs ++ ys) ≡ read_all xs ++ read_all ys
read_all-append xs ys = flat_map-append (λ octets. read_one (packet_of octets)) xs ys

-- ---- packets that answer nothing have the same marks behind any packet

abbrev IsPlain : Packet → Type 0
IsPlain (Request id options) = ⊤
IsPlain (Ack id options) = ⊥
IsPlain (Nak id options) = ⊥
IsPlain (Reject id options) = ⊥
IsPlain (Other code id octets) = ⊤

stamped-plain : (g : Ledger) (mark other : ℕ) (ps : List Packet) → AllByRecursion IsPlain ps → stamped g mark ps ≡ stamped g other ps
stamped-plain g mark other [] plain = refl
stamped-plain g mark other (Request id options ∷ ps) plain = ap (λ ms. stamp g mark (Request id options) ∷ ms) (stamped-plain (noted g (Request id options)) mark other ps plain.1)
stamped-plain g mark other (Ack id options ∷ ps) plain = absurd plain.0
stamped-plain g mark other (Nak id options ∷ ps) plain = absurd plain.0
stamped-plain g mark other (Reject id options ∷ ps) plain = absurd plain.0
stamped-plain g mark other (Other code id octets ∷ ps) plain = ap (λ ms. stamp g mark (Other code id octets) ∷ ms) (stamped-plain g mark other ps plain.1)

plain-answer : (taken : Taken) (es : List Effect) → taken.answer ≡ None → packets_of (answering taken.answer ++ es) ≡ packets_of es
plain-answer taken es none = ap (λ answer. packets_of (answering answer ++ es)) none

plain-row : (old new : Auto) (taken : Taken) (actions : List Action) → taken.answer ≡ None → AllByRecursion IsPlain (packets_of (effects old new taken actions))
plain-row old new taken [] none = tt
plain-row old new taken (ThisLayerUp ∷ more) none = plain-row old new taken more none
plain-row old new taken (ThisLayerDown ∷ more) none = plain-row old new taken more none
plain-row old new taken (ThisLayerStarted ∷ more) none = plain-row old new taken more none
plain-row old new taken (ThisLayerFinished ∷ more) none = plain-row old new taken more none
plain-row old new taken (InitializeRestartCount ∷ more) none = plain-row old new taken more none
plain-row old new taken (ZeroRestartCount ∷ more) none = plain-row old new taken more none
plain-row old new taken (SendConfigureRequest ∷ more) none = (tt, plain-row old new taken more none)
plain-row old new taken (RepeatConfigureRequest ∷ more) none = (tt, plain-row old new taken more none)
plain-row old new taken (SendConfigureAck ∷ more) none = rw (plain-answer taken (effects old new taken more) none) (plain-row old new taken more none)
plain-row old new taken (SendConfigureNak ∷ more) none = rw (plain-answer taken (effects old new taken more) none) (plain-row old new taken more none)
plain-row old new taken (SendTerminateRequest ∷ more) none = (tt, plain-row old new taken more none)
plain-row old new taken (SendTerminateAck ∷ more) none = (tt, plain-row old new taken more none)
plain-row old new taken (SendCodeReject ∷ more) none = (tt, plain-row old new taken more none)
plain-row old new taken (SendEchoReply ∷ more) none = rw (plain-answer taken (effects old new taken more) none) (plain-row old new taken more none)

plain-command : (t : Table) (a : Auto) (event : AutoEvent) (word : ℕ) → AllByRecursion IsPlain (sent_in (command t a event word))
unfolding does_row
plain-command t a event word =
    let input = input_of a event in
    let taken = taken_as a (Some input) 0 in
    let row = cell_of input a.state in
    rw (proper_command t a event word) (plain-row a (after t a input row taken word) taken row.actions refl)

-- ---- events

abbrev pub at_own : duet.Happening → ℕ → Event
at_own what word = record { side = duet.A; what = what; word = word }

-- an end with its ledger, as the machine has it, and what is under way
abbrev pub duet_with : Auto → Ledger → End → List Marked → List Marked → Duet
duet_with a g b to_a to_b = record { a = end_of a g; b = b; to_a = to_a; to_b = to_b }

-- the packet is a Protocol-Reject
abbrev pub IsReject : List ℕ → Type 0
IsReject packet = (id : ℕ) × (octets : List ℕ) × (packet ≡ octets_of (Other (code_number ProtocolReject) id octets))

-- no frame is among the orders
abbrev pub BringsNone : Order → Type 0
BringsNone (Commands event) = ⊤
BringsNone (SetsCap cap) = ⊤
BringsNone (Hears octets) = ⊥
BringsNone (RejectsProtocol packet) = IsReject packet

-- what orders come to at an end: its automaton, its ledger, and what went out
pub record Obeys (sa sb : Setup) (a : Auto) (g : Ledger) (mark : ℕ) (b : End) (to_a to_b : List Marked) (did : Obeyed) : Type 0 where
  pub kept : IsLedgerOf did.auto (noted_all g (read_all did.sent))
  pub events : Leads sa sb (duet_with a g b to_a to_b) (duet_with did.auto (noted_all g (read_all did.sent)) b to_a (to_b ++ stamped g mark (read_all did.sent)))

one-order : (sa sb : Setup) (a : Auto) (g : Ledger) (mark word : ℕ) (b : End) (to_a to_b : List Marked) (o : Order) → BringsNone o → IsLedgerOf a g →
    Obeys sa sb a g mark b to_a to_b (obeys sa.table word o a)
unfolding at_first
one-order sa sb a g mark word b to_a to_b (Commands event) none kept =
    let acted = command sa.table a event word in
    let ps = sent_in acted in
    let same : stamped g 0 ps ≡ stamped g mark ps = stamped-plain g 0 mark ps (plain-command sa.table a event word) in
    record {
      kept = commanded_kept sa.table a g event word kept;
      events = record {
        events = at_own (duet.Commands event) word ∷ [];
        none = (tt, tt);
        leads = ap (with_a (duet_with a g b to_a to_b)) (commanded_seen sa a g event word kept)
            ∙ ap (λ ms. duet_with acted.auto (noted_all g ps) b to_a (to_b ++ ms)) same;
      };
    }
one-order sa sb a g mark word b to_a to_b (SetsCap cap) none kept = record {
  kept = record { ids = kept.ids; last = kept.last };
  events = record { events = at_own (duet.SetsCap cap) word ∷ []; none = (tt, tt); leads = ap (duet_with (with_cap cap a) g b to_a) (sym (append-nil to_b)) };
}
one-order sa sb a g mark word b to_a to_b (Hears octets) none kept = absurd none
one-order sa sb a g mark word b to_a to_b (RejectsProtocol packet) (id, octets, is) kept =
    let sent : Packet = Other (code_number ProtocolReject) id octets in
    let reads : read_all (packet ∷ []) ≡ sent ∷ [] = ap (λ xs. read_one (packet_of xs) ++ []) is ∙ ap (λ (o : Option Packet). read_one o ++ []) (packet_of-octets_of sent refl) in
    record {
      kept = rw reads kept;
      events = record {
        events = at_own (duet.RejectsProtocol id octets) word ∷ [];
        none = (tt, tt);
        leads = ap (λ ps. duet_with a (noted_all g ps) b to_a (to_b ++ stamped g mark ps)) (sym reads);
      };
    }

-- ---- several orders

pub AllByRecursion-append : {X : Type 0} (P : X → Type 0) (xs ys : List X) → AllByRecursion P xs → AllByRecursion P ys → AllByRecursion P (xs ++ ys)
AllByRecursion-append P [] ys first rest = rest
AllByRecursion-append P (x ∷ xs) ys first rest = (first.0, AllByRecursion-append P xs ys first.1 rest)

pub joined : (sa sb : Setup) (a b c : Duet) → Leads sa sb a b → Leads sa sb b c → Leads sa sb a c
joined sa sb a b c one two = record {
  events = one.events ++ two.events;
  none = AllByRecursion-append _ one.events two.events one.none two.none;
  leads = run_append sa sb one.events two.events a ∙ ap (run sa sb two.events) one.leads ∙ two.leads;
}

-- one thing done, and more behind it
followed : (sa sb : Setup) (a : Auto) (g : Ledger) (mark : ℕ) (b : End) (to_a to_b : List Marked) (first rest : Obeyed) →
    Obeys sa sb a g mark b to_a to_b first →
    Obeys sa sb first.auto (noted_all g (read_all first.sent)) mark b to_a (to_b ++ stamped g mark (read_all first.sent)) rest →
    Obeys sa sb a g mark b to_a to_b (record { auto = rest.auto; sent = first.sent ++ rest.sent })
followed sa sb a g mark b to_a to_b first rest one two =
    let ps = read_all first.sent in
    let qs = read_all rest.sent in
    let all = read_all-append first.sent rest.sent in
    let ledger : noted_all (noted_all g ps) qs ≡ noted_all g (read_all (first.sent ++ rest.sent)) = sym (ap (noted_all g) all ∙ noted_all-append g ps qs) in
    let out : (to_b ++ stamped g mark ps) ++ stamped (noted_all g ps) mark qs ≡ to_b ++ stamped g mark (read_all (first.sent ++ rest.sent)) =
    append_assoc to_b (stamped g mark ps) (stamped (noted_all g ps) mark qs)
    ∙ ap (λ ms. to_b ++ ms) (sym (ap (stamped g mark) all ∙ stamped-append g mark ps qs)) in
    let both = joined sa sb _ _ _ one.events two.events in
    record {
      kept = subst (λ g. IsLedgerOf rest.auto g) ledger two.kept;
      events = record { events = both.events; none = both.none; leads = both.leads ∙ (λ i. duet_with rest.auto (ledger i) b to_a (out i)) };
    }

pub orders-run : (sa sb : Setup) (a : Auto) (g : Ledger) (mark word : ℕ) (b : End) (to_a to_b : List Marked) (os : List Order) → AllByRecursion BringsNone os → IsLedgerOf a g →
    Obeys sa sb a g mark b to_a to_b (obeys_all sa.table word os a)
orders-run sa sb a g mark word b to_a to_b [] none kept = record {
  kept = kept;
  events = record { events = []; none = tt; leads = ap (duet_with a g b to_a) (sym (append-nil to_b)) };
}
orders-run sa sb a g mark word b to_a to_b (o ∷ os) none kept =
    let first = obeys sa.table word o a in
    let one = one-order sa sb a g mark word b to_a to_b o none.0 kept in
    let rest = orders-run sa sb first.auto (noted_all g (read_all first.sent)) mark word b to_a (to_b ++ stamped g mark (read_all first.sent)) os none.1 one.kept in
    followed sa sb a g mark b to_a to_b first (obeys_all sa.table word os first.auto) one rest

-- ---- a frame that comes, and orders behind it

-- what a delivery comes to: the front packet is taken out of its queue
pub record Hears-as (sa sb : Setup) (a : Auto) (g : Ledger) (mark : ℕ) (b : End) (to_a rest to_b : List Marked) (heard : Ledger) (did : Obeyed) : Type 0 where
  pub kept : IsLedgerOf did.auto (noted_all heard (read_all did.sent))
  pub events : Makes sa sb (duet_with a g b to_a to_b) (duet_with did.auto (noted_all heard (read_all did.sent)) b rest (to_b ++ stamped heard mark (read_all did.sent)))

pub frame-run : (sa sb : Setup) (a : Auto) (g : Ledger) (word : ℕ) (b : End) (m : Marked) (rest to_b : List Marked) (octets : List ℕ) (os : List Order) →
    packet_of octets ≡ Some m.packet → AllByRecursion BringsNone os → IsLedgerOf a g →
    Hears-as sa sb a g m.mark b (m ∷ rest) rest to_b (heard g a.state m.mark m.packet) (obeys_all sa.table word (Hears octets ∷ os) a)
unfolding at_first
frame-run sa sb a g word b m rest to_b octets os reads none kept =
    let now = heard g a.state m.mark m.packet in
    let acted = take_in sa.table a m.packet word in
    let first : Obeyed = record { auto = acted.auto; sent = packets_in (entries_of acted) } in
    let same : obeys sa.table word (Hears octets) a ≡ first = ap (λ o. obeyed (take_read sa.table a o word)) reads in
    let ps = read_all first.sent in
    let more = orders-run sa sb first.auto (noted_all now ps) m.mark word b rest (to_b ++ stamped now m.mark ps) os none (taken_kept sa.table a g m word kept) in
    let did = obeys_all sa.table word os first.auto in
    let qs = read_all did.sent in
    let all = read_all-append first.sent did.sent in
    let ledger : noted_all (noted_all now ps) qs ≡ noted_all now (read_all (first.sent ++ did.sent)) = sym (ap (noted_all now) all ∙ noted_all-append now ps qs) in
    let out : (to_b ++ stamped now m.mark ps) ++ stamped (noted_all now ps) m.mark qs ≡ to_b ++ stamped now m.mark (read_all (first.sent ++ did.sent)) =
    append_assoc to_b (stamped now m.mark ps) (stamped (noted_all now ps) m.mark qs)
    ∙ ap (λ ms. to_b ++ ms) (sym (ap (stamped now m.mark) all ∙ stamped-append now m.mark ps qs)) in
    let whole : obeys_all sa.table word (Hears octets ∷ os) a ≡ record { auto = did.auto; sent = first.sent ++ did.sent } =
    ap (λ (x : Obeyed). and_sends x.sent (obeys_all sa.table word os x.auto)) same in
    subst (λ x. Hears-as sa sb a g m.mark b (m ∷ rest) rest to_b now x) (sym whole) (record {
      kept = subst (λ g. IsLedgerOf did.auto g) ledger more.kept;
      events = record {
        events = at_own duet.Delivers word ∷ more.events.events;
        first = (tt, more.events.none);
        leads = ap (λ d. run sa sb more.events.events (with_a (duet_with a g b rest to_b) d)) (taken_seen sa a g m word kept)
            ∙ more.events.leads
            ∙ (λ i. duet_with did.auto (ledger i) b rest (out i));
      };
    })
