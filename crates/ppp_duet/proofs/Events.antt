-- Each event of two ends keeps the invariant.
use Rattle.std.proofs.Common.{◌≡◌, ℕ, ◌+◌, ◌%◌, ◌≤◌, inl, inr, ⊎_elim, Bool, true, false, if◌then◌else◌, List, [], ◌∷◌, ◌++◌, Some, refl, sym, append-nil, arith}
use Rattle.std.specs.List.{AllByRecursion}
use Rattle.ppp_packet.specs.ConfigOption.{ConfigOption}
use Rattle.ppp_auto.specs.declared.auto_event.AutoEvent.{AutoEvent}
use Rattle.ppp_auto.specs.declared.input.Input.TheVariants.{Down}
use Rattle.ppp_auto.specs.Taken.{taken_as, input_of}
use Rattle.ppp_auto.specs.Auto.{is_heard, has_acked}
use Rattle.ppp_auto.specs.Automaton.{does_row}
use Rattle.ppp_auto.specs.Packet.{Packet, Request, Ack, Nak, Reject, Other}
use Rattle.ppp_packet.specs.declared.code.Code.TheVariants.{ProtocolReject}
use Rattle.ppp_packet.specs.Code.{code_number}
use Rattle.ppp_duet.specs.Duet.{End, Marked, Duet, Side, A, B, Happening, Commands, SetsCap, RejectsProtocol, Delivers, Loses, Reboots, Event, does, takes, got_after, without, turned, end_begun, start, delivers, commands, reboots, at_first, at_side, happens, run}
use Rattle.ppp_auto.specs.Auto.{is_off}
use Rattle.ppp_duet.specs.NarrowRun.{NarrowIfTaken, IsNarrowWhereTaken}
use Rattle.ppp_duet.specs.Span.{request_mark, answer_mark, requests, answers, span_of, widest}
use Rattle.ppp_duet.specs.Terms.{Terms}
use Rattle.ppp_duet.proofs.EventTableLemmas.{down_low, down_asks_nothing, low_not_heard, low_not_acked}
use Rattle.ppp_duet.proofs.Invariant.{Asked, Acked, Half, Holds}
use Rattle.ppp_duet.proofs.Moves.{SentBy, Move, own_half, other_half, both_judged}
use Rattle.ppp_duet.proofs.PacketMoves.{command_moves, packet_moves, takes_got}
use Rattle.ppp_duet.proofs.Queues.{all_without, Rising, rising_within, rising_from, rising_back, rising_without, by_request, by_answer}
use Rattle.ppp_duet.proofs.RowMoves.{rest_moves}
use Rattle.ppp_duet.proofs.TermsLemmas.{Used}
use Rattle.ppp_duet.proofs.Turns.{Turn, turn_mine, turn_other, turn_low}

-- the ordinal taken in last, and the requests that are left
record Later (got got' high : ℕ) (rest : List ℕ) : Type 0 where
  later : got ≤ got'
  rising : Rising got' high rest

later_if : (got mark high : ℕ) (rest : List ℕ) (b : Bool) → got ≤ mark → Rising mark high rest → Later got (if b then got else mark) high rest
later_if got mark high rest true h k = record { later = omega arith; rising = rising_from got mark high rest h k }
later_if got mark high rest false h k = record { later = h; rising = k }

later_after : (x : End) (mark : ℕ) (p : Packet) (high : ℕ) (rest : List ℕ) → Rising x.got high (request_mark mark p ++ rest) →
    Later x.got (got_after x mark p) high rest
later_after x mark (Request id options) high rest h = later_if x.got mark high rest (is_off x.auto.state) h.0 h.1
later_after x mark (Ack id options) high rest h = record { later = omega arith; rising = h }
later_after x mark (Nak id options) high rest h = record { later = omega arith; rising = h }
later_after x mark (Reject id options) high rest h = record { later = omega arith; rising = h }
later_after x mark (Other code id octets) high rest h = record { later = omega arith; rising = h }

-- nothing is under way, and nothing was heard or acknowledged
quiet_half : (te tf : Terms) (e f : End) → e.auto.next_id % 256 ≡ (te.setup.first + e.n) % 256 → te.keeps e.auto.own → f.got ≡ 0 →
    is_heard e.auto.state ≡ false → has_acked f.auto.state ≡ false → Half te tf e f [] []
quiet_half te tf e f ids own got not_heard not_acked = record {
  ids = ids;
  asked = tt;
  acked = tt;
  rising = omega arith;
  answered = omega arith;
  heard = λ k. absurd (cc);
  keeps_own = own;
  allowed = λ k. absurd (cc);
  knows = λ k. absurd (cc);
  keeps_peer = λ k. absurd (cc);
}

module _ (ta tb : Terms) where
  -- what an event comes to: the invariant, and the turn as each end sees it
  pub record Goes (d d' : Duet) : Type 0 where
    pub holds : Holds ta tb d'
    pub mine : Turn d.a d.b d'.a d'.b
    pub other : Turn d.b d.a d'.b d'.a

  -- the first end moved, and these are the queues after it
  record Acts (d : Duet) (x : End) (sent rest to_b : List Marked) : Type 0 where
    move : Move ta tb d.a d.b x sent
    queued : to_b ≡ d.to_b ++ sent
    acked : AllByRecursion (Acked ta) rest
    answered : Rising 0 d.b.got (answers rest)
    asked : AllByRecursion (Asked tb d.b) rest
    rising : Rising x.got d.b.n (requests rest)
    later : d.a.got ≤ x.got

  goes : (d : Duet) (x : End) (sent rest to_b : List Marked) → Holds ta tb d → Acts d x sent rest to_b →
      Goes d (record { a = x; b = d.b; to_a = rest; to_b = to_b })
  goes d x sent rest to_b h k =
      let below = rising_within d.b.got d.a.n (requests d.to_b) h.of_a.rising in
      record {
        holds = record {
          of_a = rw k.queued (own_half ta tb d.a d.b x d.to_b d.to_a rest sent h.of_a k.acked k.answered k.move);
          of_b = rw k.queued (other_half ta tb d.a d.b x d.to_b d.to_a rest sent h.of_b k.asked k.rising k.later k.move);
          judged = both_judged ta tb d.a d.b x sent below h.judged k.move;
        };
        mine = turn_mine ta tb d.a d.b x sent below k.move;
        other = turn_other ta tb d.a d.b x sent h.of_b.heard k.move;
      }

  -- no packet is taken in
  acts : (d : Duet) (x : End) (sent to_b : List Marked) → Holds ta tb d → x.got ≡ d.a.got → Move ta tb d.a d.b x sent → to_b ≡ d.to_b ++ sent →
      Acts d x sent d.to_a to_b
  acts d x sent to_b h e m q =
      record { move = m; queued = q; acked = h.of_a.acked; answered = h.of_a.answered; asked = h.of_b.asked; rising = rw e h.of_b.rising; later = omega arith }

  -- the first end stays as it is, but for its cap
  rests : (d : Duet) (cap' : ℕ) (sent : List Marked) → Holds ta tb d → let x : End = record d.a { auto = record d.a.auto { cap = cap' } } in
      AllByRecursion (SentBy tb x) sent → Move ta tb d.a d.b x sent
  rests d cap' sent h sends = rest_moves ta tb d.a d.b d.a.got cap' sent refl h.of_a.ids h.of_a.heard h.of_a.keeps_own sends

  cap_goes : (d : Duet) (cap : ℕ) → Holds ta tb d → Goes d (record d { a = record d.a { auto = record d.a.auto { cap = cap } } })
  cap_goes d cap h =
      let x : End = record d.a { auto = record d.a.auto { cap = cap } } in
      goes d x [] d.to_a d.to_b h (acts d x [] d.to_b h refl (rests d cap [] h tt) (sym (append-nil d.to_b)))

  rejects_goes : (d : Duet) (id : ℕ) (octets : List ℕ) → Holds ta tb d →
      Goes d (record d { to_b = d.to_b ++ record { mark = 0; packet = Other (code_number ProtocolReject) id octets } ∷ [] })
  rejects_goes d id octets h =
      let sent : List Marked = record { mark = 0; packet = Other (code_number ProtocolReject) id octets } ∷ [] in
      goes d d.a sent d.to_a (d.to_b ++ sent) h (acts d d.a sent (d.to_b ++ sent) h refl
      (rests d d.a.auto.cap sent h (record { asks = λ _ is. absurd (cc); replies = λ _ is. absurd (cc) }, tt)) refl)

  -- nothing happens but that the queue to the first end gets shorter
  loses_goes : (d : Duet) (place : ℕ) → Holds ta tb d → Goes d (record d { to_a = without place d.to_a })
  loses_goes d place h = goes d d.a [] (without place d.to_a) d.to_b h (record {
    move = rests d d.a.auto.cap [] h tt;
    queued = sym (append-nil d.to_b);
    acked = all_without (Acked ta) place d.to_a h.of_a.acked;
    answered = rising_without by_answer place d.to_a 0 d.b.got h.of_a.answered;
    asked = all_without (Asked tb d.b) place d.to_a h.of_b.asked;
    rising = rising_without by_request place d.to_a d.a.got d.b.n h.of_b.rising;
    later = omega arith;
  })

module _ (compat : List ConfigOption → List ConfigOption → Type 0) (ta tb : Terms) where
  commands_goes : (d : Duet) (e : AutoEvent) (word : ℕ) → Used compat ta → Holds ta tb d → Goes ta tb d (commands ta.setup d e word)
  unfolding does
  commands_goes d e word used h =
      let input = input_of d.a.auto e in
      let did = does ta.setup d.a input (taken_as d.a.auto (Some input) 0) 0 word in
      goes ta tb d did.end did.sent d.to_a (d.to_b ++ did.sent) h
      (acts ta tb d did.end did.sent (d.to_b ++ did.sent) h refl (command_moves compat ta tb d.a d.b d.to_b d.to_a e word used h.of_a) refl)

  delivers_goes : (a b : End) (to_a to_b : List Marked) (word : ℕ) → let d : Duet = record { a = a; b = b; to_a = to_a; to_b = to_b } in
      Used compat ta → span_of a.n to_b to_a ≤ widest → Holds ta tb d → Goes ta tb d (delivers ta.setup d to_a word)
  delivers_goes a b [] to_b word used narrow h = loses_goes ta tb (record { a = a; b = b; to_a = []; to_b = to_b }) 0 h
  delivers_goes a b (m ∷ rest) to_b word used narrow h =
      let did = takes ta.setup a m word in
      let got = takes_got ta.setup a m word in
      let later = later_after a m.mark m.packet b.n (requests rest) h.of_b.rising in
      goes ta tb (record { a = a; b = b; to_a = m ∷ rest; to_b = to_b }) did.end did.sent rest (to_b ++ did.sent) h (record {
        move = packet_moves compat ta tb a b m to_b rest word used narrow h.of_a h.of_b.asked.0;
        queued = refl;
        acked = h.of_a.acked.1;
        answered = rising_back 0 b.got (answer_mark m.mark m.packet) (answers rest) h.of_a.answered;
        asked = h.of_b.asked.1;
        rising = rw got later.rising;
        later = rw got later.later;
      })

  reboots_goes : (d : Duet) (word : ℕ) → Used compat ta → Holds ta tb d → Goes ta tb d (reboots ta.setup tb.setup d word)
  unfolding does does_row
  reboots_goes d word used h =
      let down = does tb.setup (record d.b { got = 0 }) Down (taken_as d.b.auto (Some Down) 0) 0 word in
      let low = down_low d.b.auto.state in
      let asked = down_asks_nothing d.b.auto.state in
      let not_heard : is_heard down.end.auto.state ≡ false = low_not_heard down.end.auto.state low in
      let not_acked : has_acked down.end.auto.state ≡ false = low_not_acked down.end.auto.state low in
      record {
        holds = record {
          of_a = quiet_half ta tb (end_begun ta.setup) down.end (omega arith) (used.kept.first_kept 0) refl refl not_acked;
          of_b = quiet_half tb ta down.end (end_begun ta.setup) (rw asked h.of_b.ids) (rw asked h.of_b.keeps_own) refl not_heard refl;
          judged = λ k. absurd (cc);
        };
        mine = turn_low d.a d.b (end_begun ta.setup) down.end refl;
        other = turn_low d.b d.a down.end (end_begun ta.setup) low;
      }

  -- what happens at the first end
  first_goes : (d : Duet) (what : Happening) (word : ℕ) → Used compat ta → NarrowIfTaken what d → Holds ta tb d →
      Goes ta tb d (at_first ta.setup tb.setup d what word)
  unfolding at_first
  first_goes d (Commands e) word used narrow h = commands_goes d e word used h
  first_goes d (SetsCap cap) word used narrow h = cap_goes ta tb d cap h
  first_goes d (RejectsProtocol id octets) word used narrow h = rejects_goes ta tb d id octets h
  first_goes d Delivers word used narrow h = delivers_goes d.a d.b d.to_a d.to_b word used (narrow refl).of_a h
  first_goes d (Loses place) word used narrow h = loses_goes ta tb d place h
  first_goes d Reboots word used narrow h = reboots_goes d word used h

-- as the other end sees it
turned_holds : (ta tb : Terms) (d : Duet) → Holds ta tb d → Holds tb ta (turned d)
turned_holds ta tb d h = record {
  of_a = h.of_b;
  of_b = h.of_a;
  judged = λ acked_b acked_a got_b got_a. ⊎_elim (λ e. inr e) (λ e. inl e) (h.judged acked_a acked_b got_a got_b);
}

module _ (compat : List ConfigOption → List ConfigOption → Type 0) (ta tb : Terms) (used_a : Used compat ta) (used_b : Used compat tb) where
  side_goes : (side : Side) (d : Duet) (what : Happening) (word : ℕ) → NarrowIfTaken what d → Holds ta tb d →
      Goes ta tb d (at_side side ta.setup tb.setup d what word)
  side_goes A d what word narrow h = first_goes compat ta tb d what word used_a narrow h
  side_goes B d what word narrow h =
      let other = turned d in
      let g = first_goes compat tb ta other what word used_b (λ e. let n = narrow e in record { of_a = n.of_b; of_b = n.of_a }) (turned_holds ta tb d h) in
      record { holds = turned_holds tb ta (at_first tb.setup ta.setup other what word) g.holds; mine = g.other; other = g.mine }

  -- an event keeps the invariant, and is a turn as each end sees it
  pub event_goes : (d : Duet) (e : Event) → NarrowIfTaken e.what d → Holds ta tb d → Goes ta tb d (happens ta.setup tb.setup d e)
  event_goes d e narrow h = side_goes e.side d e.what e.word narrow h

  pub run_holds : (es : List Event) (d : Duet) → IsNarrowWhereTaken ta.setup tb.setup es d → Holds ta tb d → Holds ta tb (run ta.setup tb.setup es d)
  run_holds [] d narrow h = h
  run_holds (e ∷ es) d narrow h = run_holds es (happens ta.setup tb.setup d e) narrow.1 (event_goes d e narrow.0 h).holds

  pub start_holds : Holds ta tb (start ta.setup tb.setup)
  start_holds = record {
    of_a = quiet_half ta tb (end_begun ta.setup) (end_begun tb.setup) (omega arith) (used_a.kept.first_kept 0) refl refl refl;
    of_b = quiet_half tb ta (end_begun tb.setup) (end_begun ta.setup) (omega arith) (used_b.kept.first_kept 0) refl refl refl;
    judged = λ k. absurd (cc);
  }
