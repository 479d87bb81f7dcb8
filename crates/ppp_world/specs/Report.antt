-- The report of a world: a block for each `show`.
use Rattle.std.specs.Prelude.{ℕ, zero, suc, Bool, true, false, ◌||◌, if◌then◌else◌, List, [], ◌∷◌, ◌++◌, length, Option, Some, None, is_some, option_map, codes}
use Rattle.std.specs.Fmt.{decimal}
use Rattle.std.specs.List.{flat_map}
use Rattle.std.specs.Option.{option_and_then}
use Rattle.hex.specs.Hex.{encode_lower}
use Rattle.ppp_packet.specs.ConfigOption.{ConfigOption}
use Rattle.ppp_packet.specs.Options.{written}
use Rattle.ppp_packet.specs.Proto.{proto_name}
use Rattle.ppp_packet.specs.declared.proto.Proto.{Proto}
use Rattle.ppp_auto.specs.Auto.{Auto, mine_of, peer_of}
use Rattle.ppp_auto.specs.AutoState.{state_name}
use Rattle.ppp_auto.specs.declared.auto_state.AutoState.{AutoState}
use Rattle.ppp_link.specs.Link.{Link}
use Rattle.ppp_party.specs.Party.{Ends, station_of}
use Rattle.ppp_station.specs.Station.{Station}
use Rattle.ppp_script.specs.declared.end.End.TheVariants.{A, B}
use Rattle.ppp_trunk.specs.Trunk.{Trunk}
use Rattle.ppp_world.specs.Agreement.{agree_on, auto_on, opened_on}
use Rattle.ppp_world.specs.BundleLines.{bundle_lines}
use Rattle.ppp_world.specs.Outstanding.{protocols}

-- a granted list in hexadecimal digits
abbrev pub list_text : Option (List ConfigOption) → List ℕ
list_text None = codes "-"
list_text (Some []) = codes "empty"
list_text (Some (o ∷ os)) = encode_lower (written (o ∷ os))

abbrev pub agree_text : Option Bool → List ℕ
agree_text None = codes "-"
agree_text (Some true) = codes "yes"
agree_text (Some false) = codes "no"

-- the state of an end, where it has the protocol
abbrev pub state_text : Option AutoState → List ℕ
state_text None = codes "Absent"
state_text (Some s) = state_name s

-- the lists granted to an end and to its peer
unfoldable pub granted_text : Option Auto → List ℕ
granted_text a = list_text (option_and_then mine_of a) ++ codes " " ++ list_text (option_and_then peer_of a)

-- the states at both ends
unfoldable pub both_states : Option AutoState → Option AutoState → List ℕ
both_states a b = state_text a ++ codes " " ++ state_text b

-- what is granted to each end and to its peer, and whether they agree
unfoldable pub terms_text : Option Auto → Option Auto → Option Bool → List ℕ
terms_text a b agree = granted_text a ++ codes " " ++ granted_text b ++ codes " agree " ++ agree_text agree

-- the line of a protocol on a link
abbrev pub line : ℕ → Proto → Option Auto → Option Auto → Option Bool → List ℕ
line m p a b agree =
    decimal m ++ codes " " ++ proto_name p ++ codes " " ++ both_states (option_map (λ a. a.state) a) (option_map (λ b. b.state) b)
    ++ codes " " ++ terms_text a b agree ++ codes "\n"

-- nothing where neither end has it
abbrev pub line_if : ℕ → Proto → Option Auto → Option Auto → Option Bool → List ℕ
line_if m p a b agree = if is_some a || is_some b then line m p a b agree else []

-- what tells whether the ends agree
abbrev pub Told : Type 0
Told = ℕ → Proto → Option Bool

abbrev pub line_on : Told → ℕ → List Link → List Link → Proto → List ℕ
line_on told m own other p = line_if m p (auto_on m p own) (auto_on m p other) (told m p)

-- the lines of a link
unfoldable pub link_lines : Told → ℕ → List Link → List Link → List ℕ
link_lines told m own other = flat_map (line_on told m own other) protocols

-- those of so many links, from 1 on
abbrev pub lines_of : Told → ℕ → List Link → List Link → List ℕ
lines_of told zero own other = []
lines_of told (suc before) own other = lines_of told before own other ++ link_lines told (suc before) own other

-- what is said of the links of two ends, and behind it what is said of their bundles
abbrev pub links_block : Told → ℕ → Trunk → Trunk → List ℕ
links_block told k own other = codes "show " ++ decimal k ++ codes "\n" ++ lines_of told (length own.links) own.links other.links

abbrev pub block_by : Told → ℕ → Station → Station → List ℕ
block_by told k own other =
    links_block told k own.trunk other.trunk ++ bundle_lines A own.trunk.bundles own.requests ++ bundle_lines B other.trunk.bundles other.requests

-- the block of a `show` at a step
abbrev pub told_block : ℕ → Ends → List ℕ
told_block k e = block_by (λ m p. agree_on m p e) k (station_of e.own) (station_of e.other)

-- The same from the stations alone, as it is written: wherever no two ends disagree it is that block (proofs/AgreementLemmas,
-- `told-block`).
abbrev pub show_block : ℕ → Station → Station → List ℕ
show_block k own other = block_by (λ m p. opened_on m p own.trunk.links other.trunk.links) k own other
