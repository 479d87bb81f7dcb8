-- What an event of a trunk is to each of its links and each protocol there: orders of its automaton, in the words of the laws
-- on two ends. They are the own step of the link, where the event is of that link, and then the control protocols that go Up or
-- Down there because LCP told so, on that link or another.
use Rattle.std.specs.Prelude.{◌≡◌, ℕ, ◌-◌, Bool, false, true, ◌==◌, ◌&&◌, if◌then◌else◌, List, [], ◌∷◌, ◌++◌, Option, Some, None, slice_get}
use Rattle.std.specs.List.{AllByRecursion, flat_map}
use Rattle.ppp_frame.specs.Frame.{enc}
use Rattle.ppp_frame.specs.declared.form.Form.{Form}
use Rattle.ppp_packet.specs.Proto.{proto_number}
use Rattle.ppp_packet.specs.declared.proto.Proto.{Proto}
use Rattle.ppp_packet.specs.declared.proto.Proto.TheVariants.{Lcp, Ip, Ipv6, Osi, Mpls, Bacp}
use Rattle.ppp_auto.specs.Auto.{Auto}
use Rattle.ppp_bundle.specs.Bundles.{Bundles}
use Rattle.ppp_link.specs.Automata.{auto_at}
use Rattle.ppp_link.specs.Link.{Link}
use Rattle.ppp_link.specs.LinkOut.{Entry as Told}
use Rattle.ppp_link.specs.LinkOut as told
use Rattle.ppp_link.specs.Steps.{run_by}
use Rattle.ppp_trunk.specs.Control.{Moved, Run, comes, goes, key_in}
use Rattle.ppp_trunk.specs.Orders.{Order, Commands, auto_by, of_link, packets_of, sent_by}
use Rattle.ppp_trunk.specs.Trunk.{IsOfLink, Trunk, on_link}
use Rattle.ppp_trunk.specs.StationOut.{Entry, Push, Got, Hang, Dial, Asked}
use Rattle.ppp_trunk.specs.Steps.{Happening, link_does}

-- ---- control protocols that go Up or Down together

-- whether a protocol is among them
abbrev pub goes_with : Proto → Bool → Bool
goes_with Lcp bacp = false
goes_with Ip bacp = true
goes_with Ipv6 bacp = true
goes_with Osi bacp = true
goes_with Mpls bacp = true
goes_with Bacp bacp = bacp

abbrev pub of_run : ℕ → Proto → Run → List Order
of_run m p r = if (r.link == m) && goes_with p r.bacp then Commands (run_by r.on) ∷ [] else []

abbrev pub of_runs : ℕ → Proto → List Run → List Order
of_runs m p rs = flat_map (of_run m p) rs

-- what an entry of a link's step causes, where LCP is as it is after the step; and what all of them cause
abbrev pub caused_by : ℕ → Auto → Told → Bundles → Moved
caused_by l lcp told.LcpUp b = comes l (key_in lcp) b
caused_by l lcp told.LcpDown b = goes l b
caused_by l lcp entry b = record { bundles = b; runs = [] }

abbrev pub caused : ℕ → Auto → List Told → Bundles → Moved
caused l lcp [] b = record { bundles = b; runs = [] }
caused l lcp (e ∷ es) b =
    let first = caused_by l lcp e b in
    let rest = caused l lcp es first.bundles in
    record { bundles = rest.bundles; runs = first.runs ++ rest.runs }

abbrev pub runs_with : Happening → ℕ → Bundles → ℕ → Option Link → List Run
runs_with what l b word None = []
runs_with what l b word (Some k) = let fed = link_does what k word in (caused l fed.link.automata.lcp fed.out b).runs

unfoldable pub runs_of : Happening → ℕ → Trunk → ℕ → List Run
runs_of what l st word = runs_with what l st.bundles word (slice_get st.links (l - 1))

-- ---- a link of a trunk, where an event is of link l

-- the orders of a protocol on link m
abbrev pub of_own : ℕ → ℕ → Proto → Happening → Link → ℕ → List Order
of_own l m p what k word = if l == m then of_link p what k word else []

abbrev pub orders_at : ℕ → ℕ → Proto → Happening → List Run → Link → ℕ → List Order
orders_at l m p what rs k word = of_own l m p what k word ++ of_runs m p rs

-- the link as it is then, and its frames among the entries
pub record Moves (l m : ℕ) (what : Happening) (rs : List Run) (word : ℕ) (k now : Link) (out : List Entry) : Type 0 where
  pub automata : (p : Proto) → auto_at now.automata p ≡ auto_by k.tables p word (orders_at l m p what rs k word) (auto_at k.automata p)
  pub packets : (p : Proto) → packets_of p m out ≡ sent_by k.tables p word (orders_at l m p what rs k word) (auto_at k.automata p)
  pub tables : now.tables ≡ k.tables
  pub deframer : now.deframer ≡ (if l == m then (link_does what k word).link.deframer else k.deframer)

pub record MovesAt (what : Happening) (l m word : ℕ) (st : Trunk) (k : Link) : Type 0 where
  pub link : Link
  pub at : slice_get (on_link what l st word).trunk.links (m - 1) ≡ Some link
  pub moves : Moves l m what (runs_of what l st word) word k link (on_link what l st word).out.entries

-- ---- frames

-- these octets are some frame of a control protocol
pub record IsFrame (octets : List ℕ) : Type 0 where
  pub form : Form
  pub proto : Proto
  pub info : List ℕ
  pub is : octets ≡ enc form (proto_number proto) info

abbrev pub IsFramed : Entry → Type 0
IsFramed (Push link octets) = IsFrame octets
IsFramed (Got class protocol octets) = Unit {0}
IsFramed (Hang link) = Unit {0}
IsFramed (Dial link) = Unit {0}
IsFramed (Asked answer) = Unit {0}

abbrev pub AreFramed : List Entry → Type 0
AreFramed es = AllByRecursion IsFramed es

-- each goes out on one of so many links
abbrev pub IsLinked : ℕ → Entry → Type 0
IsLinked links (Push link octets) = IsOfLink links link
IsLinked links (Got class protocol octets) = Unit {0}
IsLinked links (Hang link) = Unit {0}
IsLinked links (Dial link) = Unit {0}
IsLinked links (Asked answer) = Unit {0}

abbrev pub AreLinked : ℕ → List Entry → Type 0
AreLinked links es = AllByRecursion (IsLinked links) es
