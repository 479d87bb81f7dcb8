-- What a packet does at the end that takes it in is a move.
use Rattle.std.proofs.Common.{◌≡◌, ℕ, ◌+◌, ◌≤◌, List, ◌∷◌, Option, Some, None, refl, sym, ◌∙◌, arith, []}
use Rattle.ppp_packet.specs.ConfigOption.{ConfigOption}
use Rattle.ppp_auto.specs.declared.auto_event.AutoEvent.{AutoEvent}
use Rattle.ppp_auto.specs.declared.input.Input.{Input}
use Rattle.ppp_auto.specs.Auto.{last_id, is_stopped}
use Rattle.ppp_auto.specs.Taken.{Taken, taken_as, input_of, judging, is_nak_of, is_reject_of, kind}
use Rattle.ppp_auto.specs.Packet.{Packet, Request, Ack, Nak, Reject, Other}
use Rattle.ppp_duet.specs.Duet.{End, Marked, Setup, does, does_if, takes, got_after}
use Rattle.ppp_duet.specs.Span.{span_of, widest, requests}
use Rattle.ppp_duet.specs.Terms.{Terms}
use Rattle.ppp_duet.proofs.Identifiers.{same_ordinal, last_is}
use Rattle.ppp_duet.proofs.Invariant.{Asked, Half}
use Rattle.ppp_duet.proofs.Moves.{AnswersTo, Move}
use Rattle.ppp_duet.proofs.Queues.{answer_marked, ack_answers, options_in, ack_id, rising_within}
use Rattle.ppp_duet.proofs.RowMoves.{Ready, keeps_if, row_moves, rest_moves}
use Rattle.ppp_duet.proofs.SpanLemmas.{answer_near}
use Rattle.ppp_duet.proofs.TakenLemmas.{command_asks_nothing, command_acks_nothing, good_is_request, replies, ack_named, got_else, got_on, good_asks, good_own, theirs_are, good_passes, other_adapted, nak_kept}
use Rattle.ppp_duet.proofs.TermsLemmas.{Used}

module _ (compat : List ConfigOption → List ConfigOption → Type 0) (tx ty : Terms) where
  -- an event without a packet
  pub command_moves : (x y : End) (out back : List Marked) (e : AutoEvent) (word : ℕ) → Used compat tx → Half tx ty x y out back →
      let did = does tx.setup x (input_of x.auto e) (taken_as x.auto (Some (input_of x.auto e)) 0) 0 word in
      Move tx ty x y did.end did.sent
  command_moves x y out back e word used h =
      let input = input_of x.auto e in
      row_moves tx ty x y x.got input (taken_as x.auto (Some input) 0) 0 word (record {
        adapted = h.keeps_own;
        answer = λ _ p is. absurd (cc);
        granted = λ good _. absurd (good_is_request (Some input) (command_asks_nothing x.auto e) good);
        heard = λ acked _. absurd (command_acks_nothing x.auto e acked);
        got_else = λ _. refl;
      }) h.ids h.heard h.keeps_own (used.kept.first_kept word)

  adapted_kept : (x : End) (p : Packet) (word : ℕ) → Used compat tx → tx.keeps x.auto.own → tx.keeps (kind tx.setup.table x.auto p word).adapted
  adapted_kept x (Request id theirs) word used own = own
  adapted_kept x (Ack id options) word used own = own
  adapted_kept x (Nak id options) word used own =
      nak_kept tx.keeps x.auto (is_nak_of x.auto id options) id (tx.setup.table.adapt_nak x.auto.own options word) (used.kept.after_nak_kept x.auto.own options word own) own
  adapted_kept x (Reject id options) word used own =
      nak_kept tx.keeps x.auto (is_reject_of x.auto id options) id (tx.setup.table.adapt_reject x.auto.own options word) (used.kept.after_reject_kept x.auto.own options word own) own
  adapted_kept x (Other code id octets) word used own = rw (other_adapted tx.setup.table x.auto code id octets word) own

  -- an Ack that counts is one of the newest request
  ack_newest : (x y : End) (mark : ℕ) (p : Packet) (out rest : List Marked) → span_of x.n out (record { mark = mark; packet = p } ∷ rest) ≤ widest →
      Half tx ty x y out (record { mark = mark; packet = p } ∷ rest) → ack_id p ≡ Some (last_id x.auto) → y.got ≡ x.n
  ack_newest x y mark p out rest narrow h is =
      let last = last_id x.auto in
      let answers = ack_answers p last is in
      let marks = rw (answer_marked mark p, answers) at h.answered in
      let below : y.got ≤ x.n = rising_within y.got x.n (requests out) h.rising in
      let taken : mark ≤ y.got = rising_within mark y.got _ marks.1 in
      let near : x.n ≤ mark + 255 = answer_near x.n out mark p last rest answers narrow in
      let newest : mark ≡ x.n = same_ordinal tx.setup.first mark x.n (sym (h.acked.0 last is) ∙ last_is tx.setup.first x.auto.next_id x.n h.ids) (omega arith) near in
      omega arith

  packet_ready : (x y : End) (m : Marked) (out rest : List Marked) (word : ℕ) → Used compat tx → span_of x.n out (m ∷ rest) ≤ widest →
      Half tx ty x y out (m ∷ rest) → Asked ty y m →
      let taken = kind tx.setup.table x.auto m.packet word in
      Ready tx ty x y (got_after x m.mark m.packet) taken.input taken m.mark word
  packet_ready x y m out rest word used narrow h asked =
      let t = tx.setup.table in
      let taken = kind t x.auto m.packet word in
      record {
        adapted = adapted_kept x m.packet word used h.keeps_own;
        answer = λ on. replies t x.auto m.packet word (AnswersTo ty (got_after x m.mark m.packet) m.mark)
            (λ id is. ((asked id is).0, sym (got_on x m.mark id m.packet is on)));
        granted = λ good on.
            let is = good_asks t x.auto m.packet word good in
            let ask = asked taken.id is in
            let theirs = theirs_are t x.auto m.packet word in
            let own = keeps_if tx.keeps (is_stopped x.auto.state) (t.initial word) x.auto.own (used.kept.first_kept word) h.keeps_own in
            record {
              own = good_own t x.auto m.packet word good;
              allowed = rw theirs (used.allowed (judging t x.auto word) (options_in m.packet) word own (good_passes t x.auto m.packet word good));
              knows = λ e. theirs ∙ ask.2 (sym (got_on x m.mark taken.id m.packet is on) ∙ e);
              keeps_peer = rw theirs ask.3;
            };
        heard = λ acked on. ack_newest x y m.mark m.packet out rest narrow h (ack_named t x.auto m.packet word acked on);
        got_else = λ none. got_else t x m.mark m.packet word none;
      }

  if_moves : (x y : End) (got : ℕ) (input : Option Input) (taken : Taken) (mark word : ℕ) (out back : List Marked) → Used compat tx → Half tx ty x y out back →
      Ready tx ty x y got input taken mark word →
      let did = does_if tx.setup (record x { got = got }) input taken mark word in
      Move tx ty x y did.end did.sent
  if_moves x y got None taken mark word out back used h ready = rest_moves tx ty x y got x.auto.cap [] (ready.got_else refl) h.ids h.heard h.keeps_own tt
  if_moves x y got (Some input) taken mark word out back used h ready =
      row_moves tx ty x y got input taken mark word ready h.ids h.heard h.keeps_own (used.kept.first_kept word)

  pub packet_moves : (x y : End) (m : Marked) (out rest : List Marked) (word : ℕ) → Used compat tx → span_of x.n out (m ∷ rest) ≤ widest →
      Half tx ty x y out (m ∷ rest) → Asked ty y m → Move tx ty x y (takes tx.setup x m word).end (takes tx.setup x m word).sent
  unfolding takes
  packet_moves x y m out rest word used narrow h asked =
      let taken = kind tx.setup.table x.auto m.packet word in
      if_moves x y (got_after x m.mark m.packet) taken.input taken m.mark word out (m ∷ rest) used h (packet_ready x y m out rest word used narrow h asked)

got_if : (s : Setup) (e : End) (input : Option Input) (taken : Taken) (mark word : ℕ) → (does_if s e input taken mark word).end.got ≡ e.got
unfolding does
got_if s e None taken mark word = refl
got_if s e (Some input) taken mark word = refl

-- the ordinal of the last request taken in, after a packet
pub takes_got : (s : Setup) (x : End) (m : Marked) (word : ℕ) → (takes s x m word).end.got ≡ got_after x m.mark m.packet
unfolding takes
takes_got s x m word =
    let taken = kind s.table x.auto m.packet word in
    got_if s (record x { got = got_after x m.mark m.packet }) taken.input taken m.mark word
