-- Unknown keys: the least path in the order of octets.
use Rattle.std.specs.Prelude.{ℕ, ◌==◌, Bool, ◌&&◌, ◌||◌, if◌then◌else◌, List, [], ◌∷◌, ◌++◌, codes, bytes_eq, Option, Some, None}
use Rattle.std.specs.Cmp.Lexicographic.{slice_cmp}
use Rattle.std.specs.List.{list_any}
use Rattle.std.specs.Ordering.{match_ordering, nat_cmp}
use Rattle.std.specs.declared.cmp.Ordering.{Ordering}
use Rattle.toml.specs.Data.{Data, Members, no_members, member, get_member, as_table}
use Rattle.ppp_conf.specs.declared.unknown.Level.{Level}
use Rattle.ppp_conf.specs.declared.unknown.Level.TheVariants.{Top, End}

abbrev pub among : List (List ℕ) → List ℕ → Bool
among names name = list_any (bytes_eq name) names

abbrev pub top_keys : List (List ℕ)
top_keys = codes "version" ∷ codes "links" ∷ codes "a" ∷ codes "b" ∷ []

abbrev pub end_keys : List (List ℕ)
end_keys =
    codes "mru" ∷ codes "accm" ∷ codes "magic" ∷ codes "mrru" ∷ codes "short" ∷ codes "classes" ∷ codes "disc"
    ∷ codes "link_disc" ∷ codes "favored" ∷ codes "bap" ∷ codes "protocols" ∷ codes "ip" ∷ codes "give"
    ∷ codes "ifid" ∷ codes "align" ∷ codes "fragment" ∷ codes "most" ∷ codes "least" ∷ codes "calls"
    ∷ codes "callbacks" ∷ codes "speed" ∷ codes "max_speed" ∷ codes "socket" ∷ codes "listen" ∷ []

-- the keys of an end that version 2 adds
abbrev pub short_header_keys : List (List ℕ)
short_header_keys = codes "pfc" ∷ codes "acfc" ∷ []

abbrev pub is_end_key : ℕ → List ℕ → Bool
is_end_key version name = among end_keys name || (version == 2 && among short_header_keys name)

-- whether a table of this level has a key of this name
abbrev pub knows : Level → List ℕ → Bool
knows Top name = among top_keys name
knows (End version) name = is_end_key version name

abbrev pub first_of : Ordering → List ℕ → List ℕ → Option (List ℕ)
first_of order path other = match_ordering order (Some path) (Some path) (Some other)

-- the one of two paths that comes first; none comes behind every path
abbrev pub lesser : Option (List ℕ) → Option (List ℕ) → Option (List ℕ)
lesser None other = other
lesser (Some path) None = Some path
lesser (Some path) (Some other) = first_of (slice_cmp nat_cmp path other) path other

abbrev pub unless : Bool → List ℕ → Option (List ℕ)
unless known path = if known then None else Some path

-- the least path of the members of a table that aren't known
abbrev pub least_unknown : List ℕ → (List ℕ → Bool) → Members → Option (List ℕ)
least_unknown prefix is_known no_members = None
least_unknown prefix is_known (member name value rest) =
    lesser (unless (is_known name) (prefix ++ name)) (least_unknown prefix is_known rest)

-- the members of a value that is a table; of another there is none
abbrev pub table_members : Option Members → Members
table_members (Some entries) = entries
table_members None = no_members

abbrev pub inside : Option Data → Members
inside (Some value) = table_members (as_table value)
inside None = no_members

-- the least path of all that aren't known
abbrev pub unknown_of : ℕ → Members → Option (List ℕ)
unknown_of version top =
    lesser (least_unknown [] (knows Top) top)
    (lesser (least_unknown (codes "a.") (knows (End version)) (inside (get_member (codes "a") top)))
    (least_unknown (codes "b.") (knows (End version)) (inside (get_member (codes "b") top))))
