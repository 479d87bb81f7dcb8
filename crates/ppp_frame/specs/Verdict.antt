-- What one piece between two flags is: a frame, or the cause for which it is discarded.
use Rattle.std.specs.Prelude.{ℕ, ◌-◌, nat_lt, Bool, false, not, if◌then◌else◌, List, length, take, drop, Option, Some, None, bytes_eq}
use Rattle.ppp_frame.specs.declared.why.Why.{Why}
use Rattle.ppp_frame.specs.declared.why.Why.TheVariants.{Aborted, Oversize, Short, BadFcs, BadHeader}
use Rattle.ppp_frame.specs.declared.fed.Got.{Got}
use Rattle.ppp_frame.specs.declared.fed.Got.TheVariants.{Frame, Discard}
use Rattle.ppp_frame.specs.Escapes.{unstuffed, escaped_after}
use Rattle.ppp_frame.specs.Fcs.{fcs_octets}
use Rattle.ppp_frame.specs.Header.{Read, read_of}

-- how frames are read: their most octets, and whether address and control (ac) and the protocol (pf) may be short
pub record Reader : Type 0 where
  pub limit : ℕ
  pub ac : Bool
  pub pf : Bool

-- whole headers alone
abbrev pub whole_headers : ℕ → Reader
whole_headers limit = record { limit = limit; ac = false; pf = false }

pub data Verdict : Type 0 where
  Discarded : (why : Why) → Verdict
  Taken : (read : Read) → Verdict

-- the octets before the check sequence
abbrev pub before_check : List ℕ → List ℕ
before_check plain = take (length plain - 2) plain

-- the last two octets are the check sequence of those before
unfoldable pub is_checked : List ℕ → Bool
is_checked plain = bytes_eq (drop (length plain - 2) plain) (fcs_octets (before_check plain))

abbrev pub verdict_of_header : Option Read → Verdict
verdict_of_header None = Discarded BadHeader
verdict_of_header (Some read) = Taken read

-- octets as they are behind the escapes
abbrev pub verdict_of : Bool → Bool → List ℕ → Verdict
verdict_of ac pf plain =
    if nat_lt (length plain) 4 then Discarded Short
    else if not (is_checked plain) then Discarded BadFcs
    else verdict_of_header (read_of ac pf (before_check plain))

-- a piece: the first cause that applies, or else the frame
abbrev pub answer_of : Reader → List ℕ → Verdict
answer_of r piece =
    if escaped_after false piece then Discarded Aborted
    else if nat_lt r.limit (length (unstuffed false piece)) then Discarded Oversize
    else verdict_of r.ac r.pf (unstuffed false piece)

abbrev pub got_of : Verdict → Got
got_of (Discarded why) = Discard why
got_of (Taken read) = Frame

abbrev pub frame_in : Verdict → Option Read
frame_in (Discarded why) = None
frame_in (Taken read) = Some read
