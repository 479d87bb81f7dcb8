-- What two ends say to each other in every run, whatever the spans.
use Rattle.std.proofs.Common.{◌≡◌, ℕ, ◌+◌, Bool, true, false, if◌then◌else◌, List, [], ◌∷◌, ◌++◌, Option, Some, None, refl, subst, append-nil, arith}
use Rattle.std.proofs.lemmas.Bool.Decides.{nat_tests}
use Rattle.std.specs.List.{AllByRecursion}
use Rattle.ppp_packet.specs.ConfigOption.{ConfigOption}
use Rattle.ppp_packet.specs.declared.code.Code.TheVariants.{ProtocolReject}
use Rattle.ppp_packet.specs.Code.{code_number}
use Rattle.ppp_auto.specs.declared.input.Input.{Input}
use Rattle.ppp_auto.specs.declared.input.Input.TheVariants.{Down, ReceiveConfigureRequestGood}
use Rattle.ppp_auto.specs.declared.action.Action.{Action}
use Rattle.ppp_auto.specs.declared.action.Action.TheVariants.{ThisLayerUp, ThisLayerDown, ThisLayerStarted, ThisLayerFinished, InitializeRestartCount, ZeroRestartCount, SendConfigureRequest, RepeatConfigureRequest, SendConfigureAck, SendConfigureNak, SendTerminateRequest, SendTerminateAck, SendCodeReject, SendEchoReply}
use Rattle.ppp_auto.specs.Auto.{Auto, begins_anew, is_stopped}
use Rattle.ppp_auto.specs.Automaton.{after, answering, does_row, effects}
use Rattle.ppp_auto.specs.EventTable.{acks, asks, cell_of}
use Rattle.ppp_auto.specs.OptionTable.{Table}
use Rattle.ppp_auto.specs.Outbox.{Effect}
use Rattle.ppp_auto.specs.Packet.{Packet, Request, Ack, Nak, Reject, Other}
use Rattle.ppp_auto.specs.Reply.{reply_with, reply_to}
use Rattle.ppp_auto.specs.Taken.{Taken, input_of, is_nak_of, is_reject_of, judging, kind, taken_as}
use Rattle.ppp_duet.specs.Duet.{End, Marked, Duet, Setup, Side, A, B, Happening, Commands, SetsCap, RejectsProtocol, Delivers, Loses, Reboots, Event, does, does_if, takes, got_after, marked, turned, end_begun, start, delivers, at_first, at_side, happens, run}
use Rattle.ppp_duet.specs.Reached.{Reached}
use Rattle.ppp_duet.specs.Said.{Speech, IsSaid, SaidBy, Said, Says}
use Rattle.ppp_duet.proofs.EventTableLemmas.{acked_from, acks_good}
use Rattle.ppp_duet.proofs.Queues.{all_append, all_without, request_id, answer_id}
use Rattle.ppp_duet.proofs.RowMoves.{keeps_if}
use Rattle.ppp_duet.proofs.TakenLemmas.{command_asks_nothing, good_is_request, good_asks, nak_kept, other_adapted, replies}

abbrev AreSaid : Speech → List Marked → Type 0
AreSaid s ms = AllByRecursion (λ m. IsSaid s m.packet) ms

-- What is taken in leads to such a list and is answered by such a packet, and a list that is acknowledged is one of
-- these.
record Leads (s : Speech) (input : Option Input) (taken : Taken) : Type 0 where
  adapted : s.asks taken.adapted
  answer : (p : Packet) → taken.answer ≡ Some p → IsSaid s p
  acked : input ≡ Some ReceiveConfigureRequestGood → s.acks taken.theirs

-- the packets that a row sends
module _ (s : Speech) (n mark : ℕ) (old new : Auto) (taken : Taken) (own : s.asks new.own) (answer : (p : Packet) → taken.answer ≡ Some p → IsSaid s p) where
  answer_said : (o : Option Packet) (es : List Effect) → ((p : Packet) → o ≡ Some p → IsSaid s p) → AreSaid s (marked n mark es) → AreSaid s (marked n mark (answering o ++ es))
  answer_said None es h k = k
  answer_said (Some p) es h k = (h p refl, k)

  all_said : (actions : List Action) → AreSaid s (marked n mark (effects old new taken actions))
  all_said [] = tt
  all_said (ThisLayerUp ∷ more) = all_said more
  all_said (ThisLayerDown ∷ more) = all_said more
  all_said (ThisLayerStarted ∷ more) = all_said more
  all_said (ThisLayerFinished ∷ more) = all_said more
  all_said (InitializeRestartCount ∷ more) = all_said more
  all_said (ZeroRestartCount ∷ more) = all_said more
  all_said (SendConfigureRequest ∷ more) = (own, all_said more)
  all_said (RepeatConfigureRequest ∷ more) = (own, all_said more)
  all_said (SendConfigureAck ∷ more) = answer_said taken.answer (effects old new taken more) answer (all_said more)
  all_said (SendConfigureNak ∷ more) = answer_said taken.answer (effects old new taken more) answer (all_said more)
  all_said (SendTerminateRequest ∷ more) = (tt, all_said more)
  all_said (SendTerminateAck ∷ more) = (tt, all_said more)
  all_said (SendCodeReject ∷ more) = (tt, all_said more)
  all_said (SendEchoReply ∷ more) = answer_said taken.answer (effects old new taken more) answer (all_said more)

list_by : (P : List ConfigOption → Type 0) (b : Bool) (one other : List ConfigOption) → (b ≡ true → P one) → (b ≡ false → P other) → P (if b then one else other)
list_by P true one other h k = h refl
list_by P false one other h k = k refl

-- an answer is a request's alone
neither_said : (s : Speech) (p : Packet) → request_id p ≡ None → ((id : ℕ) → answer_id p ≡ Some id → ⊥) → IsSaid s p
neither_said s (Request id options) asks answers = absurd (cc)
neither_said s (Ack id options) asks answers = absurd (answers id refl)
neither_said s (Nak id options) asks answers = absurd (answers id refl)
neither_said s (Reject id options) asks answers = absurd (answers id refl)
neither_said s (Other code id octets) asks answers = tt

good_reply : (naks id : ℕ) (theirs refused better missing bad : List ConfigOption) → (reply_with naks id theirs refused better missing bad).input ≡ ReceiveConfigureRequestGood →
    (reply_with naks id theirs refused better missing bad).answer ≡ Ack id theirs
good_reply naks id theirs [] [] [] bad good = refl
good_reply naks id theirs [] [] (o ∷ missing) bad good = cc
good_reply naks id theirs [] (o ∷ better) missing bad good = grind (arith, nat_tests)
good_reply naks id theirs (o ∷ refused) better missing bad good = cc

-- a list that is good is acknowledged as it came
good_acks : (t : Table) (own : List ConfigOption) (naks word id : ℕ) (theirs : List ConfigOption) →
    (reply_to t own naks word id theirs).input ≡ ReceiveConfigureRequestGood → (reply_to t own naks word id theirs).answer ≡ Ack id theirs
good_acks t own naks word id theirs good = good_reply naks id theirs _ _ _ _ good

module _ (s : Setup) (mine theirs : Speech) (says : Says s.table mine theirs) where
  -- an event without a packet, and a packet of the peer's
  command_leads : (a : Auto) (input : Input) → (Some input ≡ Some ReceiveConfigureRequestGood → ⊥) → mine.asks a.own → Leads mine (Some input) (taken_as a (Some input) 0)
  command_leads a input not_good own = record { adapted = own; answer = λ p is. absurd (cc); acked = λ good. absurd (not_good good) }

  no_reply : (a : Auto) (p : Packet) (word : ℕ) → request_id p ≡ None → (q : Packet) → (kind s.table a p word).answer ≡ Some q → IsSaid mine q
  no_reply a p word asks q is =
      let k = replies s.table a p word (λ id. ⊥) (λ id e. absurd (cc)) q is in neither_said mine q k.0 k.1

  no_ack : (a : Auto) (p : Packet) (word : ℕ) → request_id p ≡ None → (kind s.table a p word).input ≡ Some ReceiveConfigureRequestGood → mine.acks (kind s.table a p word).theirs
  no_ack a p word asks good = let is = good_asks s.table a p word good in absurd (cc)

  packet_leads : (a : Auto) (p : Packet) (word : ℕ) → mine.asks a.own → IsSaid theirs p → let taken = kind s.table a p word in Leads mine taken.input taken
  packet_leads a (Request id list) word own said =
      let against = judging s.table a word in
      let asks = keeps_if mine.asks (is_stopped a.state) (s.table.initial word) a.own (says.first word) own in
      let answers = says.answers against list a.naks word id asks said in
      record {
        adapted = own;
        answer = λ p is. let same : (reply_to s.table against a.naks word id list).answer ≡ p = cc in subst (IsSaid mine) same answers;
        acked = λ good.
            let fine : (reply_to s.table against a.naks word id list).input ≡ ReceiveConfigureRequestGood = cc in
            subst (IsSaid mine) (good_acks s.table against a.naks word id list fine) answers;
      }
  packet_leads a (Ack id options) word own said =
      record { adapted = own; answer = no_reply a (Ack id options) word refl; acked = no_ack a (Ack id options) word refl }
  packet_leads a (Nak id options) word own said = record {
    adapted = nak_kept mine.asks a (is_nak_of a id options) id (s.table.adapt_nak a.own options word) (says.after_nak a.own options word own said) own;
    answer = no_reply a (Nak id options) word refl;
    acked = no_ack a (Nak id options) word refl;
  }
  packet_leads a (Reject id options) word own said = record {
    adapted = nak_kept mine.asks a (is_reject_of a id options) id (s.table.adapt_reject a.own options word) (says.after_reject a.own options word own said) own;
    answer = no_reply a (Reject id options) word refl;
    acked = no_ack a (Reject id options) word refl;
  }
  packet_leads a (Other code id octets) word own said = record {
    adapted = rw (other_adapted s.table a code id octets word) own;
    answer = no_reply a (Other code id octets) word refl;
    acked = no_ack a (Other code id octets) word refl;
  }

  -- a row
  row_said : (x : End) (out : List Marked) (input : Input) (taken : Taken) (mark word : ℕ) → SaidBy mine x out → Leads mine (Some input) taken →
      let did = does s x input taken mark word in SaidBy mine did.end (out ++ did.sent)
  unfolding does does_row
  row_said x out input taken mark word h leads =
      let row = cell_of input x.auto.state in
      let asked = asks row.actions in
      let new = after s.table x.auto input row taken word in
      let n = (if asked then x.n + 1 else x.n) in
      let anew = (if begins_anew x.auto.state then s.table.initial word else taken.adapted) in
      let own = keeps_if mine.asks asked anew x.auto.own (keeps_if mine.asks (begins_anew x.auto.state) (s.table.initial word) taken.adapted (says.first word) leads.adapted) h.own in
      record {
        own = own;
        under_way = all_append (λ m. IsSaid mine m.packet) out (marked n mark (effects x.auto new taken row.actions)) h.under_way
            (all_said mine n mark x.auto new taken own leads.answer row.actions);
        acknowledged = λ acked. list_by mine.acks (acks row.actions) taken.theirs x.auto.peer
            (λ sends. leads.acked (acks_good input x.auto.state sends).0)
            (λ stands. h.acknowledged (acked_from input x.auto.state acked stands).0);
      }

  -- the ordinals are nothing that is said
  heard_said : (x : End) (got : ℕ) (out : List Marked) → SaidBy mine x out → SaidBy mine (record x { got = got }) out
  heard_said x got out h = record { own = h.own; under_way = h.under_way; acknowledged = h.acknowledged }

  quiet_said : (x : End) (out : List Marked) → SaidBy mine x out → SaidBy mine x (out ++ [])
  quiet_said x out h = rw (append-nil out) h

  if_said : (x : End) (out : List Marked) (input : Option Input) (taken : Taken) (mark word : ℕ) → SaidBy mine x out → Leads mine input taken →
      let did = does_if s x input taken mark word in SaidBy mine did.end (out ++ did.sent)
  if_said x out None taken mark word h leads = quiet_said x out h
  if_said x out (Some input) taken mark word h leads = row_said x out input taken mark word h leads

  takes_said : (x : End) (out : List Marked) (m : Marked) (word : ℕ) → SaidBy mine x out → IsSaid theirs m.packet →
      let did = takes s x m word in SaidBy mine did.end (out ++ did.sent)
  unfolding takes
  takes_said x out m word h said =
      let taken = kind s.table x.auto m.packet word in
      if_said (record x { got = got_after x m.mark m.packet }) out taken.input taken m.mark word (heard_said x (got_after x m.mark m.packet) out h)
      (packet_leads x.auto m.packet word h.own said)

  begun_said : SaidBy mine (end_begun s) []
  begun_said = record { own = says.first 0; under_way = tt; acknowledged = λ acked. absurd (cc) }

  -- a line that goes down, with nothing under way
  down_said : (x : End) (out : List Marked) (word : ℕ) → SaidBy mine x out → SaidBy mine (does s (record x { got = 0 }) Down (taken_as x.auto (Some Down) 0) 0 word).end []
  down_said x out word h =
      let k = row_said (record x { got = 0 }) out Down (taken_as x.auto (Some Down) 0) 0 word (heard_said x 0 out h) (command_leads x.auto Down (λ no. cc) h.own) in
      record { own = k.own; under_way = tt; acknowledged = k.acknowledged }

module _ (sa sb : Setup) (a b : Speech) (says_a : Says sa.table a b) (says_b : Says sb.table b a) where
  delivers_said : (x y : End) (to_x to_y : List Marked) (word : ℕ) → let d : Duet = record { a = x; b = y; to_a = to_x; to_b = to_y } in
      Said a b d → Said a b (delivers sa d to_x word)
  delivers_said x y [] to_y word h = h
  delivers_said x y (m ∷ rest) to_y word h = record {
    by_a = takes_said sa a b says_a x to_y m word h.by_a h.by_b.under_way.0;
    by_b = record { own = h.by_b.own; under_way = h.by_b.under_way.1; acknowledged = h.by_b.acknowledged };
  }

  -- what happens at the first end
  first_said : (d : Duet) (what : Happening) (word : ℕ) → Said a b d → Said a b (at_first sa sb d what word)
  unfolding at_first
  first_said d (Commands e) word h = record {
    by_a = row_said sa a b says_a d.a d.to_b (input_of d.a.auto e) (taken_as d.a.auto (Some (input_of d.a.auto e)) 0) 0 word h.by_a
        (command_leads sa a b says_a d.a.auto (input_of d.a.auto e) (good_is_request (Some (input_of d.a.auto e)) (command_asks_nothing d.a.auto e)) h.by_a.own);
    by_b = h.by_b;
  }
  first_said d (SetsCap cap) word h =
      record { by_a = record { own = h.by_a.own; under_way = h.by_a.under_way; acknowledged = h.by_a.acknowledged }; by_b = h.by_b }
  first_said d (RejectsProtocol id octets) word h = record {
    by_a = record {
      own = h.by_a.own;
      under_way = all_append (λ m. IsSaid a m.packet) d.to_b (record { mark = 0; packet = Other (code_number ProtocolReject) id octets } ∷ []) h.by_a.under_way (tt, tt);
      acknowledged = h.by_a.acknowledged;
    };
    by_b = h.by_b;
  }
  first_said d Delivers word h = delivers_said d.a d.b d.to_a d.to_b word h
  first_said d (Loses place) word h = record {
    by_a = h.by_a;
    by_b = record {
      own = h.by_b.own;
      under_way = all_without (λ m. IsSaid b m.packet) place d.to_a h.by_b.under_way;
      acknowledged = h.by_b.acknowledged;
    };
  }
  first_said d Reboots word h = record { by_a = begun_said sa a b says_a; by_b = down_said sb b a says_b d.b d.to_a word h.by_b }

-- as the other end sees it
turned_said : (a b : Speech) (d : Duet) → Said a b d → Said b a (turned d)
turned_said a b d h = record { by_a = h.by_b; by_b = h.by_a }

module _ (sa sb : Setup) (a b : Speech) (says_a : Says sa.table a b) (says_b : Says sb.table b a) where
  side_said : (side : Side) (d : Duet) (what : Happening) (word : ℕ) → Said a b d → Said a b (at_side side sa sb d what word)
  side_said A d what word h = first_said sa sb a b says_a says_b d what word h
  side_said B d what word h =
      turned_said b a (at_first sb sa (turned d) what word) (first_said sb sa b a says_b says_a (turned d) what word (turned_said a b d h))

  -- an event keeps it
  pub said_on : (d : Duet) (e : Event) → Said a b d → Said a b (happens sa sb d e)
  said_on d e h = side_said e.side d e.what e.word h

  pub said_more : (es : List Event) (d : Duet) → Said a b d → Said a b (run sa sb es d)
  said_more [] d h = h
  said_more (e ∷ es) d h = said_more es (happens sa sb d e) (said_on d e h)

  pub said_start : Said a b (start sa sb)
  said_start = record { by_a = begun_said sa a b says_a; by_b = begun_said sb b a says_b }

  -- in every state of every run
  pub said_run : (es : List Event) → Said a b (run sa sb es (start sa sb))
  said_run es = said_more es (start sa sb) said_start

  pub said_at : (d : Duet) → Reached sa sb d → Said a b d
  said_at d r = subst (Said a b) r.ends (said_run r.events)
