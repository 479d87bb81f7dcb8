-- What a row comes to at one end, and that it keeps the invariant: nothing is said here of tables, packets or rows.
use Rattle.std.proofs.Common.{◌≡◌, ℕ, ◌+◌, ◌%◌, ◌≤◌, ◌<◌, ◌⊎◌, inl, inr, true, false, List, ◌++◌, sym, ◌∙◌, arith}
use Rattle.std.specs.List.{AllByRecursion}
use Rattle.ppp_auto.specs.Auto.{is_heard, has_acked, is_opened}
use Rattle.ppp_duet.specs.Duet.{End, Marked}
use Rattle.ppp_duet.specs.Reopening.{is_low}
use Rattle.ppp_duet.specs.Span.{requests, answers}
use Rattle.ppp_duet.specs.Terms.{Terms}
use Rattle.ppp_duet.proofs.Identifiers.{id_of, last_is}
use Rattle.ppp_duet.proofs.Invariant.{Asked, Acked, Half, Judged}
use Rattle.ppp_duet.proofs.Packets.{Sent, sent_requests, sent_answers}
use Rattle.ppp_duet.proofs.Queues.{ack_answers, all_weaker, all_append, Rising, rising_within, rising_newest, by_request, by_answer}
use Rattle.ppp_packet.specs.ConfigOption.{ConfigOption}

-- the peer's list stood acknowledged, and stands
pub record Stood (x x' : End) : Type 0 where
  pub before : has_acked x.auto.state ≡ true
  pub peer : x'.auto.peer ≡ x.auto.peer
  pub got : x'.got ≡ x.got
  pub against : x'.against ≡ x.against

-- the peer's list was acknowledged just now
pub record Fresh (tx ty : Terms) (x' y : End) : Type 0 where
  pub against : x'.against ≡ x'.auto.own
  pub allowed : tx.allows x'.against x'.auto.peer
  pub knows : x'.got ≡ y.n → x'.auto.peer ≡ y.auto.own
  pub keeps_peer : ty.keeps x'.auto.peer

-- an answer of that mark and Identifier is one to the request taken in last
abbrev pub AnswersTo : Terms → ℕ → ℕ → ℕ → Type 0
AnswersTo ty got mark id = (id ≡ id_of ty.setup.first mark) × (mark ≡ got)

abbrev pub SentBy : Terms → End → Marked → Type 0
SentBy ty x m = Sent x.n x.auto (AnswersTo ty x.got) m

-- The end `x` became `x'` and sent packets, and `y` is the other end.
pub record Move (tx ty : Terms) (x y x' : End) (sent : List Marked) : Type 0 where
  pub ids : x'.auto.next_id % 256 ≡ (tx.setup.first + x'.n) % 256
  pub more : x.n ≤ x'.n
  pub same : x'.n ≡ x.n → x'.auto.own ≡ x.auto.own
  pub sends : AllByRecursion (SentBy ty x') sent
  pub heard : is_heard x'.auto.state ≡ true → y.got ≡ x'.n
  pub keeps_own : tx.keeps x'.auto.own
  pub acked : has_acked x'.auto.state ≡ true → Stood x x' ⊎ Fresh tx ty x' y
  -- of use where an end opens again
  pub low : is_low x.auto.state ≡ true → (is_low x'.auto.state ≡ true) ⊎ (x.n < x'.n)
  pub left : is_opened x.auto.state ≡ true → (is_opened x'.auto.state ≡ true) ⊎ (is_low x'.auto.state ≡ true) ⊎ (x.n < x'.n)
  pub took : (x'.got ≡ x.got) ⊎ (is_opened x.auto.state ≡ false) ⊎ (is_opened x'.auto.state ≡ false)

module _ (tx ty : Terms) where
  -- the requests that were under way, and those that were sent
  asked_before : (x x' : End) → x.n ≤ x'.n → (x'.n ≡ x.n → x'.auto.own ≡ x.auto.own) → (m : Marked) → Asked tx x m → Asked tx x' m
  asked_before x x' more same m h id is =
      let k = h id is in
      (k.0, omega (arith, k.1), (λ newest. k.2 (omega (arith, k.1)) ∙ sym (same (omega (arith, k.1)))), k.3)

  asked_now : (x y x' : End) (sent : List Marked) → Move tx ty x y x' sent → (m : Marked) → SentBy ty x' m → Asked tx x' m
  asked_now x y x' sent move m s id is =
      let k = s.asks id is in
      (rw k.0 (k.1 ∙ last_is tx.setup.first x'.auto.next_id x'.n move.ids), omega (arith, k.0), (λ _. k.2), rw k.2 move.keeps_own)

  acked_now : (x' : End) (m : Marked) → SentBy ty x' m → Acked ty m
  acked_now x' m s id is = (s.replies id (ack_answers m.packet id is)).0

  -- of the requests of the end that moved
  pub own_half : (x y x' : End) (out before rest sent : List Marked) → Half tx ty x y out before → AllByRecursion (Acked tx) rest →
      Rising 0 y.got (answers rest) →
      Move tx ty x y x' sent → Half tx ty x' y (out ++ sent) rest
  own_half x y x' out before rest sent h acked answered move =
      let below : y.got ≤ x.n = rising_within y.got x.n (requests out) h.rising in
      record {
        ids = move.ids;
        asked = all_append (Asked tx x') out sent (all_weaker (asked_before x x' move.more move.same) out h.asked)
            (all_weaker (asked_now x y x' sent move) sent move.sends);
        acked = acked;
        rising = rising_newest by_request y.got x.n x'.n out sent move.more h.rising (sent_requests x'.n x'.auto (AnswersTo ty x'.got) sent move.sends);
        answered = answered;
        heard = move.heard;
        keeps_own = move.keeps_own;
        allowed = h.allowed;
        knows = λ acked newest. let stays : x'.n ≡ x.n = omega (arith, move.more) in h.knows acked (newest ∙ stays) ∙ sym (move.same stays);
        keeps_peer = h.keeps_peer;
      }

  -- of the peer's list, whether it stood acknowledged or was just now
  now : (P : List ConfigOption → List ConfigOption → Type 0) (x y x' : End) → (has_acked x.auto.state ≡ true → P x.against x.auto.peer) →
      (Fresh tx ty x' y → P x'.against x'.auto.peer) → Stood x x' ⊎ Fresh tx ty x' y → P x'.against x'.auto.peer
  now P x y x' h k (inl s) = rw (s.against, s.peer) (h s.before)
  now P x y x' h k (inr f) = k f

  -- of the requests of the other end, over what is left of its queue
  pub other_half : (x y x' : End) (out before rest sent : List Marked) → Half ty tx y x before out →
      AllByRecursion (Asked ty y) rest → Rising x'.got y.n (requests rest) → x.got ≤ x'.got → Move tx ty x y x' sent → Half ty tx y x' rest (out ++ sent)
  other_half x y x' out before rest sent h asked rising later move =
      let below : x'.got ≤ y.n = rising_within x'.got y.n (requests rest) rising in
      record {
        ids = h.ids;
        asked = asked;
        acked = all_append (Acked ty) out sent h.acked (all_weaker (acked_now x') sent move.sends);
        rising = rising;
        answered = rising_newest by_answer 0 x.got x'.got out sent later h.answered
            (sent_answers x'.n x'.auto (AnswersTo ty x'.got) (λ mark. mark ≡ x'.got) (λ mark id k. k.1) sent move.sends);
        heard = λ heard. let was : x.got ≡ y.n = h.heard heard in omega arith;
        keeps_own = h.keeps_own;
        allowed = λ acked. now tx.allows x y x' h.allowed (λ f. f.allowed) (move.acked acked);
        knows = λ acked newest. let k = move.acked acked in grind (arith, h.knows);
        keeps_peer = λ acked. now (λ _ peer. ty.keeps peer) x y x' h.keeps_peer (λ f. f.keeps_peer) (move.acked acked);
      }

  -- of both
  pub both_judged : (x y x' : End) (sent : List Marked) → y.got ≤ x.n → Judged x y → Move tx ty x y x' sent → Judged x' y
  both_judged x y x' sent below j move mine acked newest got =
      let k = move.acked mine in
      let more = move.more in
      let same = move.same in
      grind (arith, j)
