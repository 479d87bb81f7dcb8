-- The rules that an end's settings keep beside the ranges of single keys.
use Rattle.std.specs.Prelude.{ℕ, Bool, true, ◌==◌, ◌&&◌, ◌||◌, nat_le, nat_lt, if◌then◌else◌, List, codes, Option, Some, None, is_none}

-- a value that may be missing is missing, or within these bounds
abbrev pub all_within : ℕ → ℕ → Option ℕ → Bool
all_within least most None = true
all_within least most (Some n) = nat_le least n && nat_le n most

-- whether one of the values that BAP wants isn't there: multilink, a Favored-Peer number, a Link-Discriminator
abbrev pub lacks : ℕ → Option ℕ → Option ℕ → Bool
lacks mrru favored link_disc = (mrru == 0 || is_none favored) || is_none link_disc

-- the key of the first rule that is broken, in this order: with short sequence numbers there are at most 4 classes; the
-- least is at most the most; with BAP there is what it wants
abbrev pub broken : Bool → ℕ → ℕ → ℕ → Bool → ℕ → Option ℕ → Option ℕ → Option (List ℕ)
broken short classes most least bap mrru favored link_disc =
    if short && nat_lt 4 classes then Some (codes "classes")
    else if nat_lt most least then Some (codes "least")
    else if bap && lacks mrru favored link_disc then Some (codes "bap")
    else None
