-- The lines of a report on an end's bundles (RFC 1990).
use Rattle.std.specs.Prelude.{ℕ, zero, suc, ◌-◌, ◌/◌, ◌%◌, ◌^◌, Bool, ◌==◌, if◌then◌else◌, List, [], ◌++◌, Option, Some, None, codes}
use Rattle.std.specs.Fmt.{decimal}
use Rattle.hex.specs.Hex.{encode_lower}
use Rattle.ppp_bap.specs.Requests.{Requests, asked_of}
use Rattle.ppp_bap.specs.declared.bap_ask.BapAsk.{BapAsk}
use Rattle.ppp_bundle.specs.Bundles.{Bundles, bundle_at, control_of, joined_in, marked_in, peer_of}
use Rattle.ppp_bundle.specs.declared.limits.TheConstants.{MOST_LINKS}
use Rattle.ppp_script.specs.End.{end_name}
use Rattle.ppp_script.specs.declared.end.End.{End}
use Rattle.ppp_world.specs.AskLine.{ask_text}

-- ---- sets of links: the bit l - 1 of a number stands for link l

abbrev pub is_in : ℕ → ℕ → Bool
is_in l set = set / 2 ^ (l - 1) % 2 == 1

-- whether no link below that one is in a set
abbrev pub is_first_of : ℕ → ℕ → Bool
is_first_of l set = set % 2 ^ (l - 1) == 0

-- a link of a set, parted from those below it by a comma
abbrev pub comma_before : ℕ → ℕ → List ℕ
comma_before l set = if is_first_of l set then [] else codes ","

abbrev pub link_in : ℕ → ℕ → List ℕ
link_in l set = if is_in l set then comma_before l set ++ decimal l else []

-- the links of a set up to that one
abbrev pub links_to : ℕ → ℕ → List ℕ
links_to zero set = []
links_to (suc before) set = links_to before set ++ link_in (suc before) set

unfoldable pub set_text : ℕ → List ℕ
set_text set = if set == 0 then codes "-" else links_to MOST_LINKS set

-- ---- bundles

-- the discriminator of its peer in hexadecimal digits; nothing where it has no link
unfoldable pub peer_text : ℕ → Bundles → List ℕ
peer_text b t = encode_lower (peer_of b t)

abbrev pub link_text : Option ℕ → List ℕ
link_text None = codes "-"
link_text (Some l) = decimal l

-- its links, its control link and its marked links
unfoldable pub bundle_links : ℕ → Bundles → List ℕ
bundle_links b t =
    codes "links " ++ set_text (joined_in b t) ++ codes " control " ++ link_text (control_of b t) ++ codes " marked " ++ set_text (marked_in b t)

-- what the request of a bundle asks that waits
abbrev pub wait_text : Option BapAsk → List ℕ
wait_text None = codes "-"
wait_text (Some what) = ask_text what

-- `E bundle DISC links LS control L marked MS waiting W`
unfoldable pub bundle_line : End → ℕ → Bundles → Option BapAsk → List ℕ
bundle_line e b t waiting =
    end_name e ++ codes " bundle " ++ peer_text b t ++ codes " " ++ bundle_links b t
    ++ codes " waiting " ++ wait_text waiting ++ codes "\n"

-- a bundle's line stands at its first link
abbrev pub line_by : End → ℕ → Option ℕ → Bundles → Requests → List ℕ
line_by e l None t q = []
line_by e l (Some b) t q = if is_first_of l (joined_in b t) then bundle_line e b t (asked_of b q) else []

unfoldable pub line_at : End → ℕ → Bundles → Requests → List ℕ
line_at e l t q = line_by e l (bundle_at l t) t q

-- those of so many links, from 1 on
abbrev pub lines_to : End → ℕ → Bundles → Requests → List ℕ
lines_to e zero t q = []
lines_to e (suc before) t q = lines_to e before t q ++ line_at e (suc before) t q

abbrev pub bundle_lines : End → Bundles → Requests → List ℕ
bundle_lines e t q = lines_to e t.limits.links t q
