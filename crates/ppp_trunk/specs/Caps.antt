-- The most octets of a Code-Reject and of an Echo-Reply, on a whole link: 1,500, and while LCP is Opened no more than the peer
-- receives.
use Rattle.std.specs.Prelude.{◌≡◌, ℕ, Option, Some, None, slice_get}
use Rattle.ppp_auto.specs.Auto.{Auto}
use Rattle.ppp_packet.specs.declared.proto.Proto.{Proto}
use Rattle.ppp_link.specs.Automata.{Automata, auto_at, cap_of}
use Rattle.ppp_link.specs.Link.{Link}
use Rattle.ppp_trunk.specs.Trunk.{Trunk}

-- an automaton that is configured has that cap
abbrev pub IsCappedAt : ℕ → Option Auto → Type 0
IsCappedAt cap None = Unit {0}
IsCappedAt cap (Some a) = a.cap ≡ cap

-- each automaton has the cap that LCP grants
unfoldable pub IsCapped : Automata → Type 0
IsCapped k = (p : Proto) → IsCappedAt (cap_of k.lcp) (auto_at k p)

-- so it is on each link of a trunk
unfoldable pub AreCapped : Trunk → Type 0
AreCapped st = (i : ℕ) (k : Link) → slice_get st.links i ≡ Some k → IsCapped k.automata
