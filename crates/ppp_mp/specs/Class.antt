-- One class of fragments at its receiver (RFC 1990 section 4.1, RFC 2686 section 4; the rule is this project's own).
use Rattle.std.specs.Prelude.{ℕ, ◌+◌, ◌-◌, ◌*◌, ◌/◌, ◌%◌, min, Bool, ◌==◌, ◌&&◌, ◌||◌, if◌then◌else◌, nat_le, nat_lt, List, [], ◌∷◌, length, map, replicate, slice_set, Option, Some, None, unwrap_or}
use Rattle.std.specs.List.{list_any}
use Rattle.ppp_mp.specs.Fragments.{Fragment, Numbered}
use Rattle.ppp_mp.specs.Settlement.{Row, Settled, settled}
use Rattle.ppp_mp.specs.declared.limits.TheConstants.{MOST_HELD, MOST_LINKS}

-- how many numbers there are, the number of links, and the most octets of a packet
pub record Shape : Type 0 where
  pub space : ℕ
  pub links : ℕ
  pub most : ℕ

-- Numbers count on without wrapping, less whole turns of the number space.
pub record Class : Type 0 where
  -- the least number that isn't settled, once one came
  pub next : Option ℕ
  -- in ascending number
  pub held : List Numbered
  -- of each link one past the last number that came on it, and 0 where none did
  pub heard : List ℕ

-- at the begin of a life
abbrev pub class_begun : Class
class_begun = record { next = None; held = []; heard = replicate MOST_LINKS 0 }

-- a link joins or leaves: its last number is forgotten
abbrev pub forgotten : ℕ → Class → Class
forgotten link k = record k { heard = slice_set k.heard link 0 }

-- ---- numbers

-- how far a number on the wire is ahead of this one
abbrev pub ahead : ℕ → ℕ → ℕ → ℕ
ahead space next wire = (wire + space - next % space) % space

-- it is late from half the number space on
abbrev pub is_late : ℕ → ℕ → ℕ → Bool
is_late space next wire = nat_le (space / 2) (ahead space next wire)

-- the first fragment of a life is the next one
abbrev pub next_at : Option ℕ → ℕ → ℕ
next_at next wire = unwrap_or next wire

-- ---- holding a fragment

abbrev pub sizes_of : List Numbered → ℕ
sizes_of [] = 0
sizes_of (h ∷ hs) = length h.fragment.payload + sizes_of hs

abbrev pub is_held : ℕ → List Numbered → Bool
is_held n held = list_any (λ h. h.number == n) held

-- the room of a class, in octets
abbrev pub room_of : Shape → ℕ
room_of s = (s.links + 1) * s.most

abbrev pub has_room : ℕ → List Numbered → Fragment → Bool
has_room room held f = nat_lt (length held) MOST_HELD && nat_le (sizes_of held + length f.payload) room

-- in ascending number
abbrev pub put : Numbered → List Numbered → List Numbered
put h [] = h ∷ []
put h (x ∷ xs) = if nat_lt h.number x.number then h ∷ x ∷ xs else x ∷ put h xs

-- where it doesn't fit, all that is held is dropped, and it is the next
abbrev pub row_with : ℕ → ℕ → List Numbered → Numbered → Row
row_with room next held h =
    if has_room room held h.fragment then record { next = next; held = put h held }
    else record { next = h.number; held = h ∷ [] }

-- ---- taking a fragment

-- the least of these numbers of the joined links, and n if that is less
abbrev pub least : ℕ → List Bool → List ℕ → ℕ
least n [] heard = n
least n (j ∷ js) [] = n
least n (j ∷ js) (x ∷ xs) = least (if j then min n x else n) js xs

-- whole turns of the number space are taken off
abbrev pub turns_of : ℕ → ℕ → ℕ
turns_of space next = next / space * space

abbrev pub lowered : ℕ → Numbered → Numbered
lowered turns h = record h { number = h.number - turns }

abbrev pub turned : ℕ → Row → List ℕ → Class
turned space r heard = record {
  next = Some (r.next - turns_of space r.next);
  held = map (lowered (turns_of space r.next)) r.held;
  heard = map (λ n. n - turns_of space r.next) heard;
}

-- a class after a fragment came, and what it delivered
pub record Took : Type 0 where
  pub class : Class
  pub out : List (List ℕ)

abbrev pub turned_as : ℕ → Settled → List ℕ → Took
turned_as space r heard = record { class = turned space r.row heard; out = r.out }

-- it is held, its number is the last of its link, and what can be settled is
abbrev pub held_as : Shape → List Bool → Class → ℕ → ℕ → Numbered → Took
held_as s joined k link next h =
    let heard = slice_set k.heard link (h.number + 1) in
    turned_as s.space (settled (least (h.number + 1) joined heard) s.most (row_with (room_of s) next k.held h)) heard

abbrev pub discarded : Class → Took
discarded k = record { class = k; out = [] }

-- a fragment is discarded where it is too long, late or held already
abbrev pub is_discarded : Shape → Class → ℕ → Fragment → Bool
is_discarded s k wire f =
    let next = next_at k.next wire in
    nat_lt s.most (length f.payload) || is_late s.space next wire || is_held (next + ahead s.space next wire) k.held

-- a fragment with that number on the wire comes on a link
abbrev pub received : Shape → List Bool → Class → ℕ → ℕ → Fragment → Took
received s joined k link wire f =
    let next = next_at k.next wire in
    if is_discarded s k wire f then discarded k
    else held_as s joined k link next (record { number = next + ahead s.space next wire; fragment = f })
