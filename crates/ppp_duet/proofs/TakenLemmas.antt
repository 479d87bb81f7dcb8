-- What a packet is to an end: its event, its answer and its lists.
use Rattle.std.proofs.Common.{◌≡◌, ℕ, Bool, true, false, List, Option, Some, None, sym, ◌∙◌, arith}
use Rattle.std.proofs.lemmas.Bool.Decides.{nat_tests}
use Rattle.ppp_packet.specs.ConfigOption.{ConfigOption}
use Rattle.ppp_auto.specs.declared.auto_event.AutoEvent.{AutoEvent}
use Rattle.ppp_auto.specs.declared.input.Input.{Input}
use Rattle.ppp_auto.specs.declared.input.Input.TheVariants.{ReceiveConfigureRequestGood, ReceiveConfigureAck}
use Rattle.ppp_auto.specs.Auto.{Auto, last_id, is_idle}
use Rattle.ppp_auto.specs.Taken.{input_of, nak_taken, judging, kind}
use Rattle.ppp_auto.specs.Lawful.{Passes}
use Rattle.ppp_auto.specs.OptionTable.{Table}
use Rattle.ppp_auto.specs.Packet.{Packet, Other}
use Rattle.ppp_auto.specs.Reply.{reply_to}
use Rattle.ppp_duet.specs.Duet.{End, got_after}
use Rattle.ppp_auto.specs.Auto.{is_off}
use Rattle.ppp_duet.proofs.EventTableLemmas.{is_request}
use Rattle.ppp_duet.proofs.Packets.{RepliesIf}
use Rattle.ppp_duet.proofs.Queues.{request_id, ack_id, answer_id, options_in}
use Rattle.ppp_duet.proofs.ReplyLemmas.{accepted_passes}

-- an event without a packet is neither a request nor an Ack
pub command_asks_nothing : (a : Auto) (e : AutoEvent) → is_request (Some (input_of a e)) ≡ false
command_asks_nothing a e = grind (arith, nat_tests)

pub command_acks_nothing : (a : Auto) (e : AutoEvent) → Some (input_of a e) ≡ Some ReceiveConfigureAck → ⊥
command_acks_nothing a e h = grind (arith, nat_tests)

pub good_is_request : (input : Option Input) → is_request input ≡ false → input ≡ Some ReceiveConfigureRequestGood → ⊥
good_is_request input h e = grind arith

abbrev reply_id : Option Packet → Option ℕ
reply_id None = None
reply_id (Some p) = answer_id p

abbrev asked_id : Option Packet → Option ℕ
asked_id None = None
asked_id (Some p) = request_id p

-- No packet is answered by a request, and a request alone by an answer, with its Identifier.
asks_nothing : (t : Table) (a : Auto) (p : Packet) (word : ℕ) → asked_id (kind t a p word).answer ≡ None
asks_nothing t a p word = grind (arith, nat_tests)

answers_request : (t : Table) (a : Auto) (p : Packet) (word : ℕ) → reply_id (kind t a p word).answer ≡ request_id p
answers_request t a p word = grind (arith, nat_tests)

pub replies : (t : Table) (a : Auto) (p : Packet) (word : ℕ) (P : ℕ → Type 0) → ((id : ℕ) → request_id p ≡ Some id → P id) →
    RepliesIf P (kind t a p word).answer
replies t a p word P h q is =
    let asks : request_id q ≡ None = rw is at (asks_nothing t a p word) in
    let answers : answer_id q ≡ request_id p = rw is at (answers_request t a p word) in
    (asks, λ id k. h id (sym answers ∙ k))

-- an Ack that counts names the last request
pub ack_named : (t : Table) (a : Auto) (p : Packet) (word : ℕ) → (kind t a p word).input ≡ Some ReceiveConfigureAck → is_idle a.state ≡ false →
    ack_id p ≡ Some (last_id a)
ack_named t a p word h k = grind (arith, nat_tests)

-- nothing but a request sets the ordinal that was taken in last
pub got_else : (t : Table) (e : End) (mark : ℕ) (p : Packet) (word : ℕ) → is_request (kind t e.auto p word).input ≡ false → got_after e mark p ≡ e.got
got_else t e mark p word h = grind (arith, nat_tests)

pub got_on : (e : End) (mark id : ℕ) (p : Packet) → request_id p ≡ Some id → is_off e.auto.state ≡ false → got_after e mark p ≡ mark
got_on e mark id p h k = grind arith

-- a request that is acknowledged
pub good_asks : (t : Table) (a : Auto) (p : Packet) (word : ℕ) → (kind t a p word).input ≡ Some ReceiveConfigureRequestGood →
    request_id p ≡ Some (kind t a p word).id
good_asks t a p word h = grind (arith, nat_tests)

pub good_own : (t : Table) (a : Auto) (p : Packet) (word : ℕ) → (kind t a p word).input ≡ Some ReceiveConfigureRequestGood → (kind t a p word).adapted ≡ a.own
good_own t a p word h = grind (arith, nat_tests)

pub theirs_are : (t : Table) (a : Auto) (p : Packet) (word : ℕ) → (kind t a p word).theirs ≡ options_in p
theirs_are t a p word = grind (arith, nat_tests)

good_reply : (t : Table) (a : Auto) (p : Packet) (word : ℕ) → (kind t a p word).input ≡ Some ReceiveConfigureRequestGood →
    (reply_to t (judging t a word) a.naks word (kind t a p word).id (options_in p)).input ≡ ReceiveConfigureRequestGood
good_reply t a p word h = grind (arith, nat_tests)

pub good_passes : (t : Table) (a : Auto) (p : Packet) (word : ℕ) → (kind t a p word).input ≡ Some ReceiveConfigureRequestGood →
    Passes t (judging t a word) (options_in p) word
good_passes t a p word h = accepted_passes t (judging t a word) a.naks word (kind t a p word).id (options_in p) (good_reply t a p word h)

-- the list that is asked for next
pub nak_kept : (keeps : List ConfigOption → Type 0) (a : Auto) (b : Bool) (id : ℕ) (adapted : List ConfigOption) → keeps adapted → keeps a.own → keeps (nak_taken a b id adapted).adapted
nak_kept keeps a true id adapted h own = h
nak_kept keeps a false id adapted h own = own

pub other_adapted : (t : Table) (a : Auto) (code id : ℕ) (octets : List ℕ) (word : ℕ) → (kind t a (Other code id octets) word).adapted ≡ a.own
other_adapted t a code id octets word = grind (arith, nat_tests)
