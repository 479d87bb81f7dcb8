-- What a row of the event table does at one end is a move, where the packet is ready for it.
use Rattle.std.proofs.Common.{◌≡◌, ℕ, ◌+◌, ◌%◌, ◌⊎◌, inl, inr, ⊎_elim, Bool, true, false, if◌then◌else◌, List, Option, Some, refl, arith}
use Rattle.std.specs.List.{AllByRecursion}
use Rattle.ppp_packet.specs.ConfigOption.{ConfigOption}
use Rattle.ppp_auto.specs.declared.input.Input.{Input}
use Rattle.ppp_auto.specs.declared.input.Input.TheVariants.{ReceiveConfigureRequestGood, ReceiveConfigureAck}
use Rattle.ppp_auto.specs.Taken.{Taken, judging}
use Rattle.ppp_auto.specs.Auto.{is_heard, has_acked, is_idle, begins_anew}
use Rattle.ppp_auto.specs.Automaton.{does_row, after}
use Rattle.ppp_auto.specs.EventTable.{cell_of, asks, acks}
use Rattle.ppp_duet.specs.Duet.{End, does, Marked}
use Rattle.ppp_auto.specs.Auto.{is_off}
use Rattle.ppp_duet.specs.Terms.{Terms}
use Rattle.ppp_duet.proofs.EventTableLemmas.{is_request, heard_asks_nothing, heard_from, acked_from, acks_good, acks_unasked, acks_anew, answers_on, low_stays, opened_left, request_ends}
use Rattle.ppp_duet.proofs.Identifiers.{next_is}
use Rattle.ppp_duet.proofs.Moves.{Stood, Fresh, AnswersTo, SentBy, Move}
use Rattle.ppp_duet.proofs.Packets.{RepliesIf, all_sent}

-- what is known of a request that is acknowledged
pub record Granted (tx ty : Terms) (x y : End) (got : ℕ) (taken : Taken) (word : ℕ) : Type 0 where
  pub own : taken.adapted ≡ x.auto.own
  pub allowed : tx.allows (judging tx.setup.table x.auto word) taken.theirs
  pub knows : got ≡ y.n → taken.theirs ≡ y.auto.own
  pub keeps_peer : ty.keeps taken.theirs

-- What a row needs of the packet that it answers; `got` is the ordinal of the last request taken in, this one included.
pub record Ready (tx ty : Terms) (x y : End) (got : ℕ) (input : Option Input) (taken : Taken) (mark word : ℕ) : Type 0 where
  pub adapted : tx.keeps taken.adapted
  pub answer : is_off x.auto.state ≡ false → RepliesIf (AnswersTo ty got mark) taken.answer
  pub granted : input ≡ Some ReceiveConfigureRequestGood → is_off x.auto.state ≡ false → Granted tx ty x y got taken word
  pub heard : input ≡ Some ReceiveConfigureAck → is_idle x.auto.state ≡ false → y.got ≡ x.n
  pub got_else : is_request input ≡ false → got ≡ x.got

pub keeps_if : (keeps : List ConfigOption → Type 0) (b : Bool) (one other : List ConfigOption) → keeps one → keeps other → keeps (if b then one else other)
keeps_if keeps true one other h k = h
keeps_if keeps false one other h k = k

either : (b : Bool) → (b ≡ true) ⊎ (b ≡ false)
either true = inl refl
either false = inr refl

module _ (tx ty : Terms) (x y : End) (got : ℕ) (input : Input) (taken : Taken) (mark word : ℕ) (ready : Ready tx ty x y got (Some input) taken mark word) where
  -- the Ack that a row sends, or the list that it leaves
  fresh_if : acks (cell_of input x.auto.state).actions ≡ true → Fresh tx ty (does tx.setup (record x { got = got }) input taken mark word).end y
  unfolding does does_row
  fresh_if h =
      let good = acks_good input x.auto.state h in
      let granted = ready.granted good.0 good.1 in
      record {
        against = grind (arith, acks_anew, acks_unasked);
        allowed = rw h granted.allowed;
        knows = λ e. rw h (granted.knows e);
        keeps_peer = rw h granted.keeps_peer;
      }

  stood_if : has_acked (cell_of input x.auto.state).next ≡ true → acks (cell_of input x.auto.state).actions ≡ false →
      Stood x (does tx.setup (record x { got = got }) input taken mark word).end
  unfolding does does_row
  stood_if acked h =
      let from = acked_from input x.auto.state acked h in
      record { before = from.0; peer = grind arith; got = ready.got_else from.1; against = grind arith }

  pub row_moves : x.auto.next_id % 256 ≡ (tx.setup.first + x.n) % 256 → (is_heard x.auto.state ≡ true → y.got ≡ x.n) → tx.keeps x.auto.own →
      tx.keeps (tx.setup.table.initial word) →
      Move tx ty x y (does tx.setup (record x { got = got }) input taken mark word).end (does tx.setup (record x { got = got }) input taken mark word).sent
  unfolding does does_row
  row_moves ids heard own first =
      let row = cell_of input x.auto.state in
      let asked = asks row.actions in
      let new = after tx.setup.table x.auto input row taken word in
      let n = (if asked then x.n + 1 else x.n) in
      let anew = (if begins_anew x.auto.state then tx.setup.table.initial word else taken.adapted) in
      record {
        ids = grind (arith, next_is);
        more = grind arith;
        same = λ h. grind arith;
        sends = all_sent n mark x.auto new taken (AnswersTo ty got) row.actions (λ h. ready.answer (answers_on input x.auto.state h));
        heard = λ h. let got = ⊎_elim heard (λ k. ready.heard k.0 k.1) (heard_from input x.auto.state h) in grind (arith, heard_asks_nothing);
        keeps_own = keeps_if tx.keeps asked anew x.auto.own (keeps_if tx.keeps (begins_anew x.auto.state) (tx.setup.table.initial word) taken.adapted first ready.adapted) own;
        acked = λ h. ⊎_elim (λ k. inr (fresh_if k)) (λ k. inl (stood_if h k)) (either (acks row.actions));
        low = λ h. grind (arith, low_stays);
        left = λ h. grind (arith, opened_left);
        took = grind (arith, request_ends, ready.got_else);
      }

-- nothing is done but that the cap is set, and no request or answer is sent
pub rest_moves : (tx ty : Terms) (x y : End) (got cap : ℕ) (sent : List Marked) → got ≡ x.got → x.auto.next_id % 256 ≡ (tx.setup.first + x.n) % 256 →
    (is_heard x.auto.state ≡ true → y.got ≡ x.n) → tx.keeps x.auto.own → let x' : End = record x { got = got; auto = record x.auto { cap = cap } } in
    AllByRecursion (SentBy ty x') sent → Move tx ty x y x' sent
rest_moves tx ty x y got cap sent e ids heard own sends = record {
  ids = ids;
  more = omega arith;
  same = λ _. refl;
  sends = sends;
  heard = heard;
  keeps_own = own;
  acked = λ h. inl (record { before = h; peer = refl; got = e; against = refl });
  low = λ h. inl h;
  left = λ h. inl h;
  took = inl e;
}
