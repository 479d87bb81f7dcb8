-- Two ends with tables of one type, and a queue of packets to each: one protocol on one link. Each Configure-Request
-- in a queue carries its ordinal as a mark, each answer to it the same mark. No end reads a mark.
use Rattle.std.specs.Prelude.{ℕ, zero, suc, ◌+◌, if◌then◌else◌, List, [], ◌∷◌, ◌++◌, Option, Some, None}
use Rattle.ppp_packet.specs.declared.code.Code.TheVariants.{ProtocolReject}
use Rattle.ppp_packet.specs.Code.{code_number}
use Rattle.ppp_packet.specs.ConfigOption.{ConfigOption}
use Rattle.ppp_auto.specs.declared.auto_event.AutoEvent.{AutoEvent}
use Rattle.ppp_auto.specs.declared.input.Input.{Input}
use Rattle.ppp_auto.specs.declared.input.Input.TheVariants.{Down}
use Rattle.ppp_auto.specs.Auto.{Auto, begun, is_off}
use Rattle.ppp_auto.specs.Taken.{Taken, taken_as, kind, input_of, judging}
use Rattle.ppp_auto.specs.Automaton.{does_row}
use Rattle.ppp_auto.specs.Outbox.{Effect, Sends, Tells}
use Rattle.ppp_auto.specs.Packet.{Packet, Request, Other}
use Rattle.ppp_auto.specs.EventTable.{cell_of, asks, acks}
use Rattle.ppp_auto.specs.OptionTable.{Table}

pub record End : Type 0 where
  pub auto : Auto
  -- the ordinal of its last Configure-Request, 0 before the first; one that repeats the last has its ordinal
  pub n : ℕ
  -- the ordinal of the peer's last request that it took in outside Initial and Starting
  pub got : ℕ
  -- its own list when it judged the request that it acknowledged last
  pub against : List ConfigOption

pub record Marked : Type 0 where
  pub mark : ℕ
  pub packet : Packet

pub record Duet : Type 0 where
  pub a : End
  pub b : End
  pub to_a : List Marked
  pub to_b : List Marked

-- what an end begins with: its table and the Identifier of its first request
pub record Setup : Type 0 where
  pub table : Table
  pub first : ℕ

abbrev pub end_begun : Setup → End
end_begun s = record { auto = begun s.table s.first; n = 0; got = 0; against = [] }

abbrev pub start : Setup → Setup → Duet
start sa sb = record { a = end_begun sa; b = end_begun sb; to_a = []; to_b = [] }

-- the same duet as the second end sees it
abbrev pub turned : Duet → Duet
turned d = record { a = d.b; b = d.a; to_a = d.to_b; to_b = d.to_a }

pub data Side : Type 0 where
  A : Side
  B : Side

pub data Happening : Type 0 where
  -- an event of the table without a packet
  Commands : (event : AutoEvent) → Happening
  -- the octets that an answer may have change
  SetsCap : (cap : ℕ) → Happening
  -- a Protocol-Reject, which no automaton makes, goes to the end of the other's queue
  RejectsProtocol : (id : ℕ) (octets : List ℕ) → Happening
  -- the front packet is taken in
  Delivers : Happening
  -- the packet of that place, from 1, is lost
  Loses : (place : ℕ) → Happening
  -- the end begins anew: what is under way is lost, and the other end sees its line go down
  Reboots : Happening

pub record Event : Type 0 where
  pub side : Side
  pub what : Happening
  pub word : ℕ

-- a request is marked by its ordinal, an answer as what it answers
abbrev pub mark_of : ℕ → ℕ → Packet → ℕ
mark_of n mark (Request id options) = n
mark_of n mark (Other code id octets) = 0
mark_of n mark answer = mark

-- the packets that are sent, marked
abbrev pub marked : ℕ → ℕ → List Effect → List Marked
marked n mark [] = []
marked n mark (Sends packet ∷ es) = record { mark = mark_of n mark packet; packet = packet } ∷ marked n mark es
marked n mark (Tells told ∷ es) = marked n mark es

pub record Did : Type 0 where
  pub end : End
  pub sent : List Marked

-- a row at an end, in answer to a packet of that mark
unfoldable pub does : Setup → End → Input → Taken → ℕ → ℕ → Did
does s e input taken mark word =
    let acted = does_row s.table e.auto input taken word in
    let actions = (cell_of input e.auto.state).actions in
    let n = (if asks actions then e.n + 1 else e.n) in
    record {
      end = record {
        auto = acted.auto;
        n = n;
        got = e.got;
        against = if acks actions then judging s.table e.auto word else e.against;
      };
      sent = marked n mark acted.effects;
    }

-- the ordinal of the last request taken in, after a packet of that mark
abbrev pub got_after : End → ℕ → Packet → ℕ
got_after e mark (Request id options) = if is_off e.auto.state then e.got else mark
got_after e mark p = e.got

abbrev pub does_if : Setup → End → Option Input → Taken → ℕ → ℕ → Did
does_if s e None taken mark word = record { end = e; sent = [] }
does_if s e (Some input) taken mark word = does s e input taken mark word

-- a packet taken in
unfoldable pub takes : Setup → End → Marked → ℕ → Did
takes s e m word =
    let heard : End = record e { got = got_after e m.mark m.packet } in
    let taken = kind s.table e.auto m.packet word in
    does_if s heard taken.input taken m.mark word

-- the list without what stands at a place, from 1
abbrev pub without : {X : Type 0} → ℕ → List X → List X
without place [] = []
without zero (x ∷ xs) = x ∷ xs
without (suc zero) (x ∷ xs) = xs
without (suc (suc place)) (x ∷ xs) = x ∷ without (suc place) xs

-- the first end did that
abbrev pub with_a : Duet → Did → Duet
with_a d did = record { a = did.end; b = d.b; to_a = d.to_a; to_b = d.to_b ++ did.sent }

abbrev pub commands : Setup → Duet → AutoEvent → ℕ → Duet
commands s d event word =
    let input = input_of d.a.auto event in
    with_a d (does s d.a input (taken_as d.a.auto (Some input) 0) 0 word)

abbrev pub delivers : Setup → Duet → List Marked → ℕ → Duet
delivers s d [] word = d
delivers s d (m ∷ rest) word = with_a (record d { to_a = rest }) (takes s d.a m word)

-- The first end begins anew, both queues are emptied, and the other end has to hear of its requests again and sees
-- its line go down.
abbrev pub reboots : Setup → Setup → Duet → ℕ → Duet
reboots sa sb d word =
    let down = does sb (record d.b { got = 0 }) Down (taken_as d.b.auto (Some Down) 0) 0 word in
    record { a = end_begun sa; b = down.end; to_a = []; to_b = [] }

-- what happens at the first end
unfoldable pub at_first : Setup → Setup → Duet → Happening → ℕ → Duet
at_first sa sb d (Commands event) word = commands sa d event word
at_first sa sb d (SetsCap cap) word = record d { a = record d.a { auto = record d.a.auto { cap = cap } } }
at_first sa sb d (RejectsProtocol id octets) word = record d { to_b = d.to_b ++ record { mark = 0; packet = Other (code_number ProtocolReject) id octets } ∷ [] }
at_first sa sb d Delivers word = delivers sa d d.to_a word
at_first sa sb d (Loses place) word = record d { to_a = without place d.to_a }
at_first sa sb d Reboots word = reboots sa sb d word

abbrev pub at_side : Side → Setup → Setup → Duet → Happening → ℕ → Duet
at_side A sa sb d what word = at_first sa sb d what word
at_side B sa sb d what word = turned (at_first sb sa (turned d) what word)

abbrev pub happens : Setup → Setup → Duet → Event → Duet
happens sa sb d event = at_side event.side sa sb d event.what event.word

abbrev pub run : Setup → Setup → List Event → Duet → Duet
run sa sb [] d = d
run sa sb (e ∷ es) d = run sa sb es (happens sa sb d e)
