-- The printed table of one end: its members, in table order.
use Rattle.std.specs.Prelude.{ℕ, ◌+◌, pos, Bool, true, false, List, [], ◌∷◌, get_or, codes, Option, Some, None}
use Rattle.std.specs.Int.{w32, w64, to_be_bytes}
use Rattle.std.specs.Net.Text.{ipv4_text}
use Rattle.hex.specs.Hex.{encode_lower}
use Rattle.toml.specs.Data.{Data, Items, Members, no_items, no_members, push_item, integer, boolean, string, array}
use Rattle.ppp_conf.specs.EndConfig.{EndSettings}
use Rattle.ppp_conf.specs.Fields.{Field, put_all, number_there}

abbrev pub number_field : List ℕ → ℕ → Field
number_field name n = (name, Some (integer (pos n)))

abbrev pub truth_field : List ℕ → Bool → Field
truth_field name value = (name, Some (boolean value))

abbrev pub text_field : List ℕ → List ℕ → Field
text_field name text = (name, Some (string text))

-- an address in four decimal numbers
abbrev pub dotted_text : ℕ → List ℕ
dotted_text n = ipv4_text (to_be_bytes w32 n)

abbrev pub dotted_there : Option ℕ → Option Data
dotted_there (Some n) = Some (string (dotted_text n))
dotted_there None = None

abbrev pub ifid_text : Option ℕ → List ℕ
ifid_text (Some n) = encode_lower (to_be_bytes w64 n)
ifid_text None = codes "none"

-- the Class's digit, `:` (58), and the address in digits
abbrev pub disc_text : ℕ × List ℕ → List ℕ
disc_text disc = (48 + disc.0) ∷ 58 ∷ encode_lower disc.1

-- the items, and a name behind them if it is in the set
abbrev pub name_if : Bool → List ℕ → Items → Items
name_if true name items = push_item items (string name)
name_if false name items = items

abbrev pub protocol_items : List Bool → Items
protocol_items protocols =
    name_if (get_or protocols 3 false) (codes "mpls")
    (name_if (get_or protocols 2 false) (codes "osi")
    (name_if (get_or protocols 1 false) (codes "ipv6")
    (name_if (get_or protocols 0 false) (codes "ip") no_items)))

-- the members that LCP sends
abbrev pub lcp_fields : EndSettings → List Field
lcp_fields s =
    number_field (codes "mru") s.mru
    ∷ number_field (codes "accm") s.accm
    ∷ truth_field (codes "magic") s.magic
    ∷ truth_field (codes "pfc") s.pfc
    ∷ truth_field (codes "acfc") s.acfc
    ∷ number_field (codes "mrru") s.mrru
    ∷ truth_field (codes "short") s.short
    ∷ number_field (codes "classes") s.classes
    ∷ text_field (codes "disc") (disc_text s.disc)
    ∷ []

-- the members on the bundle and the network protocols
abbrev pub network_fields : EndSettings → List Field
network_fields s =
    (codes "link_disc", number_there s.link_disc)
    ∷ (codes "favored", number_there s.favored)
    ∷ truth_field (codes "bap") s.bap
    ∷ (codes "protocols", Some (array (protocol_items s.protocols)))
    ∷ text_field (codes "ip") (dotted_text s.ip)
    ∷ (codes "give", dotted_there s.give)
    ∷ text_field (codes "ifid") (ifid_text s.ifid)
    ∷ number_field (codes "align") s.align
    ∷ []

-- the members on the end's own conduct
abbrev pub conduct_fields : EndSettings → List Field
conduct_fields s =
    number_field (codes "fragment") s.fragment
    ∷ number_field (codes "most") s.most
    ∷ number_field (codes "least") s.least
    ∷ truth_field (codes "calls") s.calls
    ∷ truth_field (codes "callbacks") s.callbacks
    ∷ number_field (codes "speed") s.speed
    ∷ number_field (codes "max_speed") s.max_speed
    ∷ text_field (codes "socket") s.socket
    ∷ truth_field (codes "listen") s.listen
    ∷ []

abbrev pub end_table : EndSettings → Members
end_table s = put_all (conduct_fields s) (put_all (network_fields s) (put_all (lcp_fields s) no_members))
