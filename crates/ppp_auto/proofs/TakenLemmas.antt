-- What is so of each packet that comes in.
use Rattle.std.proofs.Common.{◌≡◌, ℕ, ◌+◌, ◌-◌, ◌≤◌, ◌⊎◌, inl, inr, Bool, true, false, ◌&&◌, ◌==◌, nat_lt, nat_le, if◌then◌else◌, List, [], ◌∷◌, ◌++◌, length, take, drop, Option, Some, None, refl, ap, sym, ◌∙◌, arith}
use Rattle.std.proofs.Math.Seq.{take-append-add}
use Rattle.std.specs.Option.{option_map, option_to_list}
use Rattle.ppp_packet.specs.ConfigOption.{ConfigOption}
use Rattle.ppp_packet.specs.declared.code.Code.TheVariants.{EchoRequest, EchoReply}
use Rattle.ppp_packet.specs.Code.{code_number}
use Rattle.ppp_auto.specs.declared.auto.TheConstants.{LEAST_CAP}
use Rattle.ppp_auto.specs.declared.taken.TheConstants.{MAGIC}
use Rattle.ppp_packet.specs.declared.packet_ref.TheConstants.{PACKET_HEADER}
use Rattle.ppp_auto.specs.declared.auto_event.AutoEvent.{AutoEvent}
use Rattle.ppp_auto.specs.declared.auto_event.AutoEvent.TheVariants as event
use Rattle.ppp_auto.specs.declared.auto_state.AutoState.{AutoState}
use Rattle.ppp_auto.specs.declared.auto_state.AutoState.TheVariants.{Initial, Starting, Closed, Stopped, Closing, Stopping, ReqSent, AckRcvd, AckSent, Opened}
use Rattle.ppp_auto.specs.declared.input.Input.{Input}
use Rattle.ppp_auto.specs.declared.input.Input.TheVariants as on
use Rattle.ppp_auto.specs.Auto.{Auto, is_off, is_stopped}
use Rattle.ppp_auto.specs.Judged.{judging_by}
use Rattle.ppp_auto.specs.Lawful.{Lawful}
use Rattle.ppp_auto.specs.OptionTable.{Table}
use Rattle.ppp_auto.specs.Packet.{Packet, Request, Ack, Nak, Reject, Other}
use Rattle.ppp_auto.specs.Reply.{has_options, rejected, reply_with, suggested, unacceptable}
use Rattle.ppp_auto.specs.Taken.{Taken, code_reject_input, echo_answer, four_octets, extended_taken, input_of, IsFit, is_ack_of, is_extended_code, is_nak_of, is_reject_of, judging, kind, rejected_protocol, taken_as, unknown_taken}
use Rattle.ppp_auto.proofs.ReplyLemmas.{acked_short, good_found, judging_sent, reply_input}

-- the events that a packet is
abbrev pub comes_in_packet : Input → Bool
comes_in_packet on.Up = false
comes_in_packet on.Down = false
comes_in_packet on.Open = false
comes_in_packet on.Close = false
comes_in_packet on.TimeoutAboveZero = false
comes_in_packet on.TimeoutExpired = false
comes_in_packet input = true

-- what a packet is: it fits, its event is one of those, and in Initial and Starting it rejects no protocol
pub record Comes (sendable : List ConfigOption → Type 0) (a : Auto) (taken : Taken) : Type 0 where
  pub fit : IsFit sendable taken
  pub packet : (input : Input) → taken.input ≡ Some input → comes_in_packet input ≡ true
  pub silent : is_off a.state ≡ true → taken.rejects ≡ None

-- an event that is no good request
abbrev is_plain : Option Input → Bool
is_plain None = true
is_plain (Some on.ReceiveConfigureRequestGood) = false
is_plain (Some input) = comes_in_packet input

plain_not_good : (input : Option Input) → is_plain input ≡ true → input ≡ Some on.ReceiveConfigureRequestGood → ⊥
plain_not_good input h e = let no : true ≡ false = sym h ∙ ap is_plain e in cc

plain_packet : (input : Input) → is_plain (Some input) ≡ true → comes_in_packet input ≡ true
plain_packet input h = grind arith

module _ (sendable : List ConfigOption → Type 0) (a : Auto) where
  comes_plain : (taken : Taken) → is_plain taken.input ≡ true → sendable taken.adapted → (is_off a.state ≡ true → taken.rejects ≡ None) → Comes sendable a taken
  comes_plain taken h s r = record {
    fit = record { adapted = s; short = λ e. absurd (plain_not_good taken.input h e) };
    packet = λ input e. plain_packet input (sym (ap is_plain e) ∙ h);
    silent = r;
  }

  comes_if : (b : Bool) (one other : Taken) → Comes sendable a one → Comes sendable a other → Comes sendable a (if b then one else other)
  comes_if true one other h k = h
  comes_if false one other h k = k

  comes_as : (input : Option Input) (id : ℕ) → is_plain input ≡ true → sendable a.own → Comes sendable a (taken_as a input id)
  comes_as input id h s = comes_plain (taken_as a input id) h s (λ _. refl)

  plain_if : (b : Bool) → is_plain (if b then Some on.ReceiveConfigureAck else None) ≡ true
  plain_if true = refl
  plain_if false = refl

  plain_code : (octets : List ℕ) → is_plain (code_reject_input octets) ≡ true
  plain_code [] = refl
  plain_code (code ∷ rest) = either (nat_le 1 code && nat_le code 7)
    where
      either : (b : Bool) → is_plain (Some (if b then on.ReceiveRejectCatastrophic else on.ReceiveRejectPermitted)) ≡ true
      either true = refl
      either false = refl

  silent_off : (s : AutoState) (octets : List ℕ) → is_off s ≡ true → rejected_protocol s octets ≡ None
  silent_off Initial octets h = refl
  silent_off Starting octets h = refl
  silent_off Closed octets h = refl
  silent_off Stopped octets h = refl
  silent_off Closing octets h = refl
  silent_off Stopping octets h = refl
  silent_off ReqSent octets h = refl
  silent_off AckRcvd octets h = refl
  silent_off AckSent octets h = refl
  silent_off Opened octets h = cc

  comes_extended : (t : Table) (code id : ℕ) (octets : List ℕ) → sendable a.own → Comes sendable a (extended_taken t a code id octets)
  comes_extended t code id octets s =
      comes_if (code == 8) _ _ (comes_plain _ refl s (silent_off a.state octets))
      (comes_if (nat_lt (length octets) 4) _ _ (comes_as None id refl s) (comes_plain _ refl s (λ _. refl)))

  comes_other : (t : Table) (code id : ℕ) (octets : List ℕ) (word : ℕ) → sendable a.own → Comes sendable a (kind t a (Other code id octets) word)
  comes_other t code id octets word s =
      comes_if (code == 5) _ _ (comes_as (Some on.ReceiveTerminateRequest) id refl s)
      (comes_if (code == 6) _ _ (comes_as (Some on.ReceiveTerminateAck) id refl s)
      (comes_if (code == 7) _ _ (comes_as (code_reject_input octets) id (plain_code octets) s)
      (comes_if (t.extended && is_extended_code code) _ _ (comes_extended t code id octets s) (comes_plain (unknown_taken a code id octets) refl s (λ _. refl)))))

-- what a packet is
pub kind_comes : (t : Table) (sendable : List ConfigOption → Type 0) (unknown : ConfigOption → Type 0) (allows compat : List ConfigOption → List ConfigOption → Type 0) → Lawful t sendable unknown allows compat →
    (a : Auto) → sendable a.own → (p : Packet) (word : ℕ) → Comes sendable a (kind t a p word)
kind_comes t sendable unknown allows compat l a s (Request id theirs) word =
    let own = judging t a word in
    let judge = judging_by t own word in
    let refused = rejected judge [] theirs in
    let better = suggested judge theirs in
    let missing = option_to_list (t.missing own theirs word) in
    let bad = unacceptable judge theirs in
    record {
      fit = record {
        adapted = s;
        short = λ e.
            let good : (reply_with a.naks id theirs refused better missing bad).input ≡ on.ReceiveConfigureRequestGood = cc in
            let found = good_found a.naks id theirs refused better missing bad good in
            acked_short t sendable unknown allows compat l own word theirs (judging_sent sendable (is_stopped a.state) (t.initial word) a.own (l.first_sent word) s) (sym (ap has_options found.none)) found.nothing;
      };
      packet = λ input e. request-packet _ input (reply_input a.naks id theirs refused better missing bad) e;
      silent = λ _. refl;
    }
  where
    request-packet : (given input : Input) → (given ≡ on.ReceiveConfigureRequestGood) ⊎ (given ≡ on.ReceiveConfigureRequestBad) → Some given ≡ Some input → comes_in_packet input ≡ true
    request-packet given input (inl h) e = let is : input ≡ on.ReceiveConfigureRequestGood = cc in rw is refl
    request-packet given input (inr h) e = let is : input ≡ on.ReceiveConfigureRequestBad = cc in rw is refl
kind_comes t sendable unknown allows compat l a s (Ack id options) word = comes_as sendable a _ id (plain_if sendable a (is_ack_of a id options)) s
kind_comes t sendable unknown allows compat l a s (Nak id options) word =
    comes_if sendable a (is_nak_of a id options) _ _ (comes_plain sendable a _ refl (l.after_nak_sent a.own options word s) (λ _. refl)) (comes_as sendable a None id refl s)
kind_comes t sendable unknown allows compat l a s (Reject id options) word =
    comes_if sendable a (is_reject_of a id options) _ _ (comes_plain sendable a _ refl (l.after_reject_sent a.own options word s) (λ _. refl)) (comes_as sendable a None id refl s)
kind_comes t sendable unknown allows compat l a s (Other code id octets) word = comes_other sendable a t code id octets word s

-- a packet that was read fits
pub read_fit : (t : Table) (sendable : List ConfigOption → Type 0) (a : Auto) (packet : Option Packet) (word : ℕ) (taken : Taken) → ((p : Packet) → Comes sendable a (kind t a p word)) →
    Some taken ≡ option_map (λ p. kind t a p word) packet → IsFit sendable taken
read_fit t sendable a None word taken h e = cc
read_fit t sendable a (Some p) word taken h e = let is : taken ≡ kind t a p word = cc in rw is (h p).fit

-- what an event without a packet is
pub command_fit : (sendable : List ConfigOption → Type 0) (a : Auto) (e : AutoEvent) (id : ℕ) → sendable a.own → IsFit sendable (taken_as a (Some (input_of a e)) id)
command_fit sendable a e id s = record { adapted = s; short = λ h. absurd (not_good a e h) }
  where
    not_good : (a : Auto) (e : AutoEvent) → Some (input_of a e) ≡ Some on.ReceiveConfigureRequestGood → ⊥
    not_good a event.Up h = cc
    not_good a event.Down h = cc
    not_good a event.AdminOpen h = cc
    not_good a event.AdminClose h = cc
    not_good a event.Timeout h = timed (nat_lt 0 a.restart) h
      where
        timed : (b : Bool) → Some (if b then on.TimeoutAboveZero else on.TimeoutExpired) ≡ Some on.ReceiveConfigureRequestGood → ⊥
        timed true h = cc
        timed false h = cc
    not_good a event.RejectedWell h = cc
    not_good a event.RejectedBadly h = cc

-- an Echo-Request is answered
pub echoed : (t : Table) (a : Auto) (code id magic : ℕ) (octets given : List ℕ) (answer : Packet) → code ≡ code_number EchoRequest → LEAST_CAP ≤ a.cap → magic ≡ t.magic a.own →
    given ≡ take (a.cap - PACKET_HEADER - MAGIC) (drop MAGIC octets) → answer ≡ Other (code_number EchoReply) id (four_octets magic ++ given) → Some answer ≡ echo_answer t a code id octets
echoed t a code id magic octets given answer c h m d e =
    let room : a.cap - PACKET_HEADER ≡ 4 + (a.cap - PACKET_HEADER - MAGIC) = omega arith in
    let all = take-append-add (four_octets (t.magic a.own)) (drop MAGIC octets) (a.cap - PACKET_HEADER - MAGIC) in
    rw (c, room, e, m, d) (ap (λ (xs : List ℕ). Some (Other (code_number EchoReply) id xs)) (sym all))
