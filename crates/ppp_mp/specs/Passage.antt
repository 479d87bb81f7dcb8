-- The fragments of one class on their way, and what its receiver delivers in one life.
use Rattle.std.specs.Prelude.{◌≡◌, ℕ, suc, ◌+◌, ◌-◌, ◌/◌, ◌%◌, ◌<◌, ◌⊎◌, ⊤, Bool, true, false, List, [], ◌∷◌, ◌++◌, length, remove, replicate, slice_get, slice_set, Option, Some, None, MatchOption}
use Rattle.std.specs.List.{AllByRecursion}
use Rattle.ppp_mp.specs.Fragments.{AreSome, Fragment, Numbered, fragments_of}
use Rattle.ppp_mp.specs.Class.{Class, Shape, Took, class_begun, forgotten, received}
use Rattle.ppp_mp.specs.declared.limits.TheConstants.{LONG_SPACE, MOST_LINKS, SHORT_SPACE}

pub record Passage : Type 0 where
  -- the packets that were cut since the sender's reset, and their fragments; the place of a fragment is its true number
  pub packets : List (List ℕ)
  pub sent : List Fragment
  -- the fragments under way, with their true numbers
  pub under_way : List Numbered
  -- the receiver's class, its joined links, and what it delivered in this life
  pub class : Class
  pub joined : List Bool
  pub got : List (List ℕ)

-- `Comes` is any of the fragments under way, on any link; it may come again until it is lost. Links and places are from 0.
pub data Event : Type 0 where
  Cut : (size : ℕ) (packet : List ℕ) → Event
  Comes : (place link : ℕ) → Event
  Lost : (place : ℕ) → Event
  Joins Leaves : (link : ℕ) → Event
  NewLife : Event

-- after the sender's reset
abbrev pub unsent : Passage
unsent = record { packets = []; sent = []; under_way = []; class = class_begun; joined = replicate MOST_LINKS false; got = [] }

-- fragments with their numbers from n on
abbrev pub numbered : ℕ → List Fragment → List Numbered
numbered n [] = []
numbered n (f ∷ fs) = record { number = n; fragment = f } ∷ numbered (suc n) fs

abbrev pub with_cut : List ℕ → List Fragment → Passage → Passage
with_cut packet fs p = record p {
  packets = p.packets ++ packet ∷ [];
  sent = p.sent ++ fs;
  under_way = p.under_way ++ numbered (length p.sent) fs;
}

abbrev pub with_took : Took → Passage → Passage
with_took t p = record p { class = t.class; got = p.got ++ t.out }

-- a fragment comes with its number modulo the number space
abbrev pub comes : Shape → ℕ → Option Numbered → Passage → Passage
comes s link None p = p
comes s link (Some h) p = with_took (received s p.joined p.class link (h.number % s.space) h.fragment) p

abbrev pub after : Shape → Passage → Event → Passage
after s p (Cut size packet) = with_cut packet (fragments_of size packet) p
after s p (Comes place link) = comes s link (slice_get p.under_way place) p
after s p (Lost place) = record p { under_way = remove p.under_way place }
after s p (Joins link) = record p { joined = slice_set p.joined link true; class = forgotten link p.class }
after s p (Leaves link) = record p { joined = slice_set p.joined link false; class = forgotten link p.class }
after s p NewLife = record p { class = class_begun; joined = replicate MOST_LINKS false; got = [] }

abbrev pub after_all : Shape → Passage → List Event → Passage
after_all s p [] = p
after_all s p (e ∷ es) = after_all s (after s p e) es

-- ---- the premise

-- The number is less than half the number space behind the sender's next one; of the receiver's next that is a distance
-- on the circle of numbers.
abbrev pub IsNear : ℕ → ℕ → ℕ → Type 0
IsNear space sent n = sent < n + space / 2

abbrev pub IsNearNext : ℕ → ℕ → ℕ → Type 0
IsNearNext space sent next = (sent + space - next % space) % space < space / 2

-- the numbers in flight span less than half the number space
pub record IsNarrow (space : ℕ) (p : Passage) : Type 0 where
  pub under_way : AllByRecursion (λ h. IsNear space (length p.sent) h.number) p.under_way
  pub next : MatchOption p.class.next ⊤ (IsNearNext space (length p.sent))

-- every state after these events is narrow
abbrev pub StaysNarrow : Shape → Passage → List Event → Type 0
StaysNarrow s p [] = Unit {0}
StaysNarrow s p (e ∷ es) = IsNarrow s.space (after s p e) × StaysNarrow s (after s p e) es

-- ---- the law

-- the number space of the long form, or of the short one
abbrev pub IsSpace : ℕ → Type 0
IsSpace space = (space ≡ LONG_SPACE) ⊎ (space ≡ SHORT_SPACE)

-- what a life delivers, after whatever came before it
abbrev pub InOrder : Shape → List Event → List Event → Type 0
InOrder s before life =
    let begun = after s (after_all s unsent before) NewLife in
    StaysNarrow s begun life → AreSome (after_all s begun life).got (after_all s begun life).packets
