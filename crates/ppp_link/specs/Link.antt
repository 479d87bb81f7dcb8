-- One link of an end: its automata, and what cuts the octets that come into frames.
use Rattle.std.specs.Prelude.{ℕ, Bool, true, false, List, None}
use Rattle.ppp_auto.specs.Auto.{Auto, is_off}
use Rattle.ppp_auto.specs.declared.auto_event.AutoEvent.{AutoEvent}
use Rattle.ppp_auto.specs.declared.auto_event.AutoEvent.TheVariants.{Up}
use Rattle.ppp_frame.specs.Deframer.{DeframerState, feed_step}
use Rattle.ppp_frame.specs.Standing.{fresh}
use Rattle.ppp_frame.specs.Verdict.{whole_headers}
use Rattle.ppp_packet.specs.declared.proto.Proto.{Proto}
use Rattle.ppp_packet.specs.declared.proto.Proto.TheVariants.{Lcp}
use Rattle.ppp_link.specs.Automata.{Automata, automata_begun, reads_ac, reads_pf}
use Rattle.ppp_link.specs.LinkOut.{Entry}
use Rattle.ppp_link.specs.LinkTables.{LinkTables}
use Rattle.ppp_link.specs.Steps.{Did, Event, begins, does, each_does, hears_inner, hears_read, run_by, runs}

pub record Link : Type 0 where
  pub tables : LinkTables
  pub automata : Automata
  pub deframer : DeframerState

-- ---- the deframer

-- stands as after a flag, with nothing held and no frame
abbrev pub cleared : DeframerState → DeframerState
cleared d = record { reader = d.reader; standing = fresh; frame = None }

-- as it begins
abbrev pub deframer_begun : DeframerState
deframer_begun = record { reader = whole_headers 8200; standing = fresh; frame = None }

-- reads short headers as LCP grants them
abbrev pub read_by : Auto → DeframerState → DeframerState
read_by lcp d = record d { reader = record { limit = d.reader.limit; ac = reads_ac lcp; pf = reads_pf lcp } }

-- a line that comes up begins with no piece of a frame
abbrev pub cleared_if : Bool → DeframerState → DeframerState
cleared_if true d = cleared d
cleared_if false d = d

-- ---- the calls

-- as it begins, with these tables
abbrev pub link_begun : LinkTables → Link
link_begun t = record { tables = t; automata = automata_begun t; deframer = deframer_begun }

-- what calls do: an event of a protocol, and control protocols that go Up or Down
abbrev pub event_did : Link → Proto → AutoEvent → ℕ → Did
event_did k p event word = does k.tables p (Event event) word (begins k.automata)

abbrev pub run_did : Link → Bool → Bool → ℕ → Did
run_did k on bacp word = each_does k.tables (runs bacp) (run_by on) word (begins k.automata)

-- and a packet that came inside multilink
abbrev pub inner_did : Link → ℕ → List ℕ → ℕ → Did
inner_did k number octets word = hears_inner k.tables number octets word (begins k.automata)

-- a link after that
abbrev pub link_with : Link → Did → Link
link_with k did = record k { automata = did.automata }

-- the line comes up: where LCP had none, what came of a frame before is dropped
abbrev pub link_up : Link → ℕ → Link
link_up k word = record (link_with k (event_did k Lcp Up word)) { deframer = cleared_if (is_off k.automata.lcp.state) k.deframer }

-- what octets come to, up to the end of the first frame or discard: the link after them, the entries, and how many octets
-- were used
pub record Fed : Type 0 where
  pub link : Link
  pub out : List Entry
  pub used : ℕ

unfoldable pub fed_with : Link → List ℕ → ℕ → Fed
fed_with k piece word =
    let step = feed_step (read_by k.automata.lcp k.deframer) piece in
    let did = hears_read k.tables step.left.frame word (begins k.automata) in
    record {
      link = record { tables = k.tables; automata = did.automata; deframer = step.left };
      out = did.out;
      used = step.fed.used;
    }
