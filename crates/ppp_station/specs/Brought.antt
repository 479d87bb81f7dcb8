-- What a station may bring of what BAP wants, and how many entries it makes of it.
use Rattle.std.specs.Prelude.{◌≡◌, ◌≤◌, ℕ, ◌+◌, List, [], ◌∷◌, length, Some, ⊤}
use Rattle.ppp_auto.specs.declared.outbox.TheConstants.{MOST_OCTETS as MOST_PACKET}
use Rattle.ppp_bap.specs.BapOut.{Entry as Brought}
use Rattle.ppp_bap.specs.BapOut as brought
use Rattle.ppp_bundle.specs.Bundles.{bundle_at}
use Rattle.ppp_link.specs.declared.link_out.TheConstants.{MOST_PUSH}
use Rattle.ppp_trunk.specs.Trunk.{IsOfLink, Trunk}
use Rattle.ppp_trunk.specs.declared.steps.TheConstants.{MOST_MADE, MOST_MADE_OCTETS}
use Rattle.ppp_station.specs.Steps.{Done, brings_one}

-- A packet is short, a link that is marked is joined in the bundle, and one whose LCP closes is there.
abbrev pub IsBrought : ℕ → Trunk → Brought → Type 0
IsBrought b t (brought.Send octets) = length octets ≤ MOST_PACKET
IsBrought b t (brought.Mark l) = IsOfLink (length t.links) l × (bundle_at l t.bundles ≡ Some b)
IsBrought b t (brought.CloseLink l) = IsOfLink (length t.links) l
IsBrought b t (brought.Dial l) = ⊤

-- so it is of each, when it is brought
abbrev pub AreBrought : ℕ → ℕ → List Brought → Done → Type 0
AreBrought b word [] done = ⊤
AreBrought b word (e ∷ es) done = IsBrought b done.trunk e × AreBrought b word es (brings_one b word e done)

-- the most entries that are made of it, and the most octets of these
abbrev pub made_by : Brought → ℕ
made_by (brought.Send octets) = 1
made_by (brought.Mark l) = 0
made_by (brought.CloseLink l) = MOST_MADE
made_by (brought.Dial l) = 1

abbrev pub made_by_all : List Brought → ℕ
made_by_all [] = 0
made_by_all (e ∷ es) = made_by e + made_by_all es

abbrev pub octets_by : Brought → ℕ
octets_by (brought.Send octets) = MOST_PUSH
octets_by (brought.Mark l) = 0
octets_by (brought.CloseLink l) = MOST_MADE_OCTETS
octets_by (brought.Dial l) = 0

abbrev pub octets_by_all : List Brought → ℕ
octets_by_all [] = 0
octets_by_all (e ∷ es) = octets_by e + octets_by_all es
