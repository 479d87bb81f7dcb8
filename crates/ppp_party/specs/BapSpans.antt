-- How far the ordinals of BAP span at an end: from the last that it drew back to the oldest whose request or answer is under way.
use Rattle.std.specs.Prelude.{ℕ, zero, suc, ◌-◌, nat_lt, ◌==◌, Bool, false, if◌then◌else◌, List, [], ◌∷◌, ◌++◌, length, Option, Some, None, option_map}
use Rattle.std.specs.List.{flat_map}
use Rattle.ppp_bap.specs.PacketType.{read_type}
use Rattle.ppp_bap.specs.declared.packet_type.PacketType.{PacketType}
use Rattle.ppp_bap.specs.declared.packet_type.PacketType.TheVariants.{CallRequest, CallResponse, CallbackRequest, CallbackResponse, DropRequest, DropResponse, StatusIndication, StatusResponse}
use Rattle.ppp_duet.specs.Span.{least}
use Rattle.ppp_frame.specs.Header.{Read}
use Rattle.ppp_trunk.specs.Orders.{read_in}
use Rattle.ppp_trunk.specs.declared.steps.TheConstants.{BAP}
use Rattle.ppp_party.specs.About.{is_answer, is_request}
use Rattle.ppp_party.specs.Frame.{Frame}
use Rattle.ppp_party.specs.Party.{Ends}
use Rattle.ppp_party.specs.Spans.{queue_on}
use Rattle.ppp_party.specs.declared.about.PacketKind.{PacketKind}
use Rattle.ppp_party.specs.declared.about.PacketKind.TheVariants as kind
use Rattle.ppp_party.specs.declared.party.Oldest.{Oldest as Kept}

-- ---- what a packet of BAP is (RFC 2125): the Call-Status packets are neither requests nor answers here

abbrev pub kind_of_type : PacketType → PacketKind
kind_of_type CallRequest = kind.Request
kind_of_type CallResponse = kind.Answer
kind_of_type CallbackRequest = kind.Request
kind_of_type CallbackResponse = kind.Answer
kind_of_type DropRequest = kind.Request
kind_of_type DropResponse = kind.Answer
kind_of_type StatusIndication = kind.Other
kind_of_type StatusResponse = kind.Other

-- by its Type octet
abbrev pub bap_kind_in : List ℕ → Option PacketKind
bap_kind_in [] = None
bap_kind_in (octet ∷ more) = option_map kind_of_type (read_type octet)

abbrev pub bap_kind_by : Option Read → Option PacketKind
bap_kind_by None = None
bap_kind_by (Some read) = if read.protocol == BAP then bap_kind_in read.info else None

unfoldable pub bap_kind : List ℕ → Option PacketKind
bap_kind octets = bap_kind_by (read_in octets)

-- ---- the marks under way

abbrev pub is_request_kind : Option PacketKind → Bool
is_request_kind None = false
is_request_kind (Some kind) = is_request kind

abbrev pub is_answer_kind : Option PacketKind → Bool
is_answer_kind None = false
is_answer_kind (Some kind) = is_answer kind

abbrev pub bap_request : Frame → List ℕ
bap_request f = if is_request_kind (bap_kind f.octets) then f.mark ∷ [] else []

abbrev pub bap_answer : Frame → List ℕ
bap_answer f = if is_answer_kind (bap_kind f.octets) then f.mark ∷ [] else []

abbrev pub bap_requests : List Frame → List ℕ
bap_requests frames = flat_map bap_request frames

abbrev pub bap_answers : List Frame → List ℕ
bap_answers frames = flat_map bap_answer frames

-- of the first end's requests, and of the answers to them, on a link
abbrev pub bap_marks_on : ℕ → Ends → List ℕ
bap_marks_on m e = bap_requests (queue_on m e.other) ++ bap_answers (queue_on m e.own)

-- ---- the oldest

-- an ordinal, and the least link on which it is under way
pub record Oldest : Type 0 where
  pub mark : ℕ
  pub link : ℕ

abbrev pub oldest_seen : Kept → Oldest
oldest_seen o = record { mark = o.mark; link = o.link }

abbrev pub older : Oldest → ℕ → ℕ → Oldest
older best mark link = if nat_lt mark best.mark then record { mark = mark; link = link } else best

-- on the links up to that one; the last ordinal, where none is older
abbrev pub bap_oldest_to : ℕ → Ends → Oldest
bap_oldest_to zero e = record { mark = e.own.calls.drawn; link = 1 }
bap_oldest_to (suc before) e =
    older (bap_oldest_to before e) (least e.own.calls.drawn (bap_marks_on (suc before) e)) (suc before)

abbrev pub bap_oldest : Ends → Oldest
bap_oldest e = bap_oldest_to (length e.own.trunk.links) e

-- how far the first end's ordinals span
abbrev pub bap_span : Ends → ℕ
bap_span e = e.own.calls.drawn - (bap_oldest e).mark
