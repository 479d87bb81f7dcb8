-- Tables as they are printed: members that are put in one behind the other, each at its place in the order of keys.
use Rattle.std.specs.Prelude.{ℕ, pos, List, [], ◌∷◌, Option, Some, None}
use Rattle.std.specs.Cmp.Lexicographic.{slice_cmp}
use Rattle.std.specs.Ordering.{match_ordering, nat_cmp}
use Rattle.toml.specs.Data.{Data, Members, no_members, member, integer}

-- the members with this value at this key
abbrev pub put_member : List ℕ → Data → Members → Members
put_member name value no_members = member name value no_members
put_member name value (member other old rest) =
    match_ordering (slice_cmp nat_cmp name other)
    (member name value (member other old rest))
    (member other value rest)
    (member other old (put_member name value rest))

-- the same of a value that may be missing
abbrev pub put_value : List ℕ → Option Data → Members → Members
put_value name (Some value) entries = put_member name value entries
put_value name None entries = entries

abbrev pub Field : Type 0
Field = List ℕ × Option Data

abbrev pub put_all : List Field → Members → Members
put_all [] entries = entries
put_all (field ∷ fields) entries = put_all fields (put_value field.0 field.1 entries)

-- a number that may be missing
abbrev pub number_there : Option ℕ → Option Data
number_there (Some n) = Some (integer (pos n))
number_there None = None
