-- What a station does: a step of its links, the waits that end by it, and what BAP makes of it.
use Rattle.std.specs.Prelude.{ℕ, ◌-◌, Bool, false, ◌==◌, if◌then◌else◌, List, [], ◌∷◌, ◌++◌, Option, Some, None, Err, slice_get}
use Rattle.std.specs.List.{find, flat_map}
use Rattle.std.specs.Option.{option_map}
use Rattle.ppp_packet.specs.declared.proto.Proto.TheVariants.{Lcp}
use Rattle.ppp_bap.specs.Ask.{asks as bap_asks}
use Rattle.ppp_bap.specs.Wish.{request_for, told}
use Rattle.ppp_bap.specs.BapOut.{Entry as Brought}
use Rattle.ppp_bap.specs.BapOut as brought
use Rattle.ppp_bap.specs.BapPacket.{packet_of}
use Rattle.ppp_bap.specs.Requests.{Requests, wait_of}
use Rattle.ppp_bap.specs.Step.{asked_by, takes, tells_status, times_out}
use Rattle.ppp_bap.specs.declared.ask_refused.AskRefused.TheVariants.{NotOpen}
use Rattle.ppp_bap.specs.declared.bap_ask.BapAsk.{BapAsk}
use Rattle.ppp_bap.specs.declared.bundle_view.BundleView.{BundleView}
use Rattle.ppp_bap.specs.declared.call_ask.CallAsk.{CallAsk}
use Rattle.ppp_bundle.specs.Bundles.{bundle_at, control_of, marked_at}
use Rattle.ppp_trunk.specs.Control.{is_same_link}
use Rattle.ppp_trunk.specs.Trunk.{Stepped, Trunk, on_link}
use Rattle.ppp_trunk.specs.StationOut.{Entry, Push, Got, Hang, Dial, Asked}
use Rattle.ppp_trunk.specs.Steps.{Happening, Closes, control_for, frame_on}
use Rattle.ppp_trunk.specs.declared.steps.TheConstants.{BAP}
use Rattle.ppp_station.specs.View.{view_of}
use Rattle.ppp_station.specs.Waits.{settled}
use Rattle.ppp_station.specs.declared.bap_terms.BapTerms.{BapTerms}

-- what was done so far in an event: the links as they are now, the requests that wait, and the entries, in order
pub record Done : Type 0 where
  pub trunk : Trunk
  pub requests : Requests
  pub out : List Entry

abbrev pub so_far : Trunk → Requests → List Entry → Done
so_far t q out = record { trunk = t; requests = q; out = out }

abbrev pub and_tells : Done → Entry → Done
and_tells done entry = record done { out = done.out ++ entry ∷ [] }

-- ---- a step of the links

-- what it tells is passed on, but for a packet of BAP
abbrev pub is_bap : Entry → Bool
is_bap (Got class protocol octets) = protocol == BAP
is_bap (Push link octets) = false
is_bap (Hang link) = false
is_bap (Dial link) = false
is_bap (Asked answer) = false

abbrev pub passed : Entry → List Entry
passed e = if is_bap e then [] else e ∷ []

abbrev pub passed_on : List Entry → List Entry
passed_on es = flat_map passed es

-- and that is taken
abbrev pub octets_got : Entry → List ℕ
octets_got (Got class protocol octets) = octets
octets_got entry = []

abbrev pub bap_in : Entry → Option (List ℕ)
bap_in e = if is_bap e then Some (octets_got e) else None

abbrev pub bap_packet : List Entry → Option (List ℕ)
bap_packet es = option_map octets_got (find is_bap es)

-- the links did a step: the waits end that end by it, and what it tells is passed on
abbrev pub follows : Stepped → Done → Done
follows t done = record {
  trunk = t.trunk;
  requests = settled done.trunk.bundles t.trunk done.requests;
  out = done.out ++ passed_on t.out.entries;
}

-- the links do a step, and what follows
abbrev pub links_do : Happening → ℕ → ℕ → Done → Done
links_do what l word done = follows (on_link what l done.trunk word) done

-- ---- what BAP brings

-- a packet goes out on a link
abbrev pub goes_out : Option ℕ → List ℕ → Done → Done
goes_out None octets done = done
goes_out (Some l) octets done = record done { out = done.out ++ frame_on (slice_get done.trunk.links (l - 1)) l BAP octets }

abbrev pub marks : ℕ → Done → Done
marks l done = record done { trunk = record done.trunk { bundles = marked_at l done.trunk.bundles } }

-- a packet goes out on the bundle's control link; a link is marked; LCP of a link closes; a link is dialled
abbrev pub brings_one : ℕ → ℕ → Brought → Done → Done
brings_one b word (brought.Send octets) done = goes_out (control_of b done.trunk.bundles) octets done
brings_one b word (brought.Mark l) done = marks l done
brings_one b word (brought.CloseLink l) done = links_do (Closes Lcp) l word done
brings_one b word (brought.Dial l) done = and_tells done (Dial l)

abbrev pub brings : ℕ → ℕ → List Brought → Done → Done
brings b word [] done = done
brings b word (e ∷ es) done = brings b word es (brings_one b word e done)

-- ---- a packet of BAP

-- it is taken by the bundle of the link that it came on
abbrev pub takes_in : Bool → BapTerms → Option ℕ → ℕ → List ℕ → Done → Done
takes_in allowed terms None word octets done = done
takes_in allowed terms (Some b) word octets done =
    let step = takes allowed (view_of b terms done.trunk) octets done.requests in
    brings b word step.out (record done { requests = step.requests })

abbrev pub takes_bap : Bool → BapTerms → ℕ → ℕ → Option (List ℕ) → Done → Done
takes_bap allowed terms l word None done = done
takes_bap allowed terms l word (Some octets) done = takes_in allowed terms (bundle_at l done.trunk.bundles) word octets done

-- what the policy is asked for it, if it is
abbrev pub asked_in : BapTerms → Option ℕ → List ℕ → Done → Option CallAsk
asked_in terms None octets done = None
asked_in terms (Some b) octets done = asked_by (view_of b terms done.trunk) done.requests (packet_of octets)

abbrev pub asked_for : BapTerms → ℕ → Option (List ℕ) → Done → Option CallAsk
asked_for terms l None done = None
asked_for terms l (Some octets) done = asked_in terms (bundle_at l done.trunk.bundles) octets done

-- ---- what an end asks and tells

-- the request goes out, or it is refused; a link that is in no bundle has no BACP
abbrev pub asks_in : ℕ → BapAsk → BundleView → ℕ → Done → Done
asks_in b what v word done =
    let step = bap_asks what v done.requests in
    and_tells (brings b word step.out (record done { requests = step.requests })) (Asked (told (request_for what v done.requests)))

abbrev pub asks : BapTerms → Option ℕ → BapAsk → ℕ → Done → Done
asks terms None what word done = and_tells done (Asked (Err NotOpen))
asks terms (Some b) what word done = asks_in b what (view_of b terms done.trunk) word done

abbrev pub tells : BapTerms → Option ℕ → ℕ → ℕ → Done → Done
tells terms None status word done = done
tells terms (Some b) status word done =
    let step = tells_status status (view_of b terms done.trunk) done.requests in
    brings b word step.out (record done { requests = step.requests })

-- the timer of a bundle stands at its control link
abbrev pub bundle_timed : ℕ → Trunk → Option ℕ
bundle_timed l t = if is_same_link (control_for l t.bundles) (Some l) then bundle_at l t.bundles else None

abbrev pub times : Option ℕ → ℕ → Done → Done
times None word done = done
times (Some b) word done =
    let step = times_out b (wait_of b done.requests) done.requests in
    brings b word step.out (record done { requests = step.requests })
