-- What a station does is moves of its links, one after the other.
use Rattle.std.proofs.Common.{◌≡◌, ◌∙◌, ◌-◌, ◌≤◌, ℕ, Bool, true, false, List, [], ◌∷◌, ◌++◌, length, refl, sym, subst, ap}
use Rattle.std.specs.Prelude.{Option, Some, None, if◌then◌else◌, slice_get}
use Rattle.ppp_bap.specs.BapOut.{Entry as Brought}
use Rattle.ppp_bap.specs.BapOut as brought
use Rattle.ppp_bundle.specs.Bundles.{control_of}
use Rattle.ppp_link.specs.Link.{Link}
use Rattle.ppp_packet.specs.declared.proto.Proto.TheVariants.{Lcp}
use Rattle.ppp_trunk.specs.Moves.{AreLinked, IsLinked}
use Rattle.ppp_trunk.specs.Phases.{IsTrunk}
use Rattle.ppp_trunk.specs.Steps.{Closes, Happening, frame_on}
use Rattle.ppp_trunk.specs.StationOut.{Asked, Dial, Entry, Got, Hang, Push}
use Rattle.ppp_trunk.specs.Trunk.{IsOfLink, Trunk, on_link}
use Rattle.ppp_trunk.specs.declared.steps.TheConstants.{BAP}
use Rattle.ppp_trunk.proofs.ListLemmas.{AllByRecursion-append}
use Rattle.ppp_trunk.proofs.MovesLemmas.{all-linked, counts}
use Rattle.ppp_station.specs.Brought.{AreBrought, IsBrought}
use Rattle.ppp_station.specs.Moves.{AreCaused, Does, IsCaused, IsTold, Marks, Move, Moved, Sends, Tells, moves_all, moves_one}
use Rattle.ppp_station.specs.Steps.{Done, and_tells, brings, brings_one, goes_out, is_bap, passed, passed_on}
use Rattle.ppp_station.proofs.SoundLemmas.{control-of-link, count-one, trunk-one}

abbrev moved_of : Done → Moved
moved_of done = record { trunk = done.trunk; out = done.out }

-- one thing done leads to another, by what BAP causes
pub record Leads (links word : ℕ) (from to : Done) : Type 0 where
  pub more : List Move
  pub caused : AreCaused links more
  pub leads : moves_all word more (moved_of from) ≡ moved_of to

all-both : (word : ℕ) (xs ys : List Move) (m : Moved) → moves_all word (xs ++ ys) m ≡ moves_all word ys (moves_all word xs m)
all-both word [] ys m = refl
all-both word (x ∷ xs) ys m = all-both word xs ys (moves_one word x m)

pub leads-none : (links word : ℕ) (done : Done) → Leads links word done done
leads-none links word done = record { more = []; caused = tt; leads = refl }

pub leads-both : (links word : ℕ) (a b c : Done) → Leads links word a b → Leads links word b c → Leads links word a c
leads-both links word a b c first rest = record {
  more = first.more ++ rest.more;
  caused = AllByRecursion-append (IsCaused links) first.more rest.more first.caused rest.caused;
  leads = all-both word first.more rest.more (moved_of a) ∙ ap (moves_all word rest.more) first.leads ∙ rest.leads;
}

pub leads-tell : (links word : ℕ) (e : Entry) (done : Done) → IsTold e → Leads links word done (and_tells done e)
leads-tell links word e done told = record { more = Tells e ∷ []; caused = (told, tt); leads = refl }

leads-out : (links word : ℕ) (o : Option ℕ) (octets : List ℕ) (done : Done) → ((l : ℕ) → o ≡ Some l → IsOfLink links l) → length octets ≤ 1500 →
    Leads links word done (goes_out o octets done)
leads-out links word None octets done of short = leads-none links word done
leads-out links word (Some l) octets done of short = record { more = Sends l octets ∷ []; caused = ((of l refl, short), tt); leads = refl }

leads-one : (b word : ℕ) (e : Brought) (done : Done) → IsTrunk done.trunk → IsBrought b done.trunk e → Leads (length done.trunk.links) word done (brings_one b word e done)
leads-one b word (brought.Send octets) done trunk is =
    leads-out (length done.trunk.links) word (control_of b done.trunk.bundles) octets done (λ l at. control-of-link b l done.trunk trunk at) is
leads-one b word (brought.Mark l) done trunk is = record { more = Marks l ∷ []; caused = (tt, tt); leads = refl }
leads-one b word (brought.CloseLink l) done trunk is = record { more = Does (Closes Lcp) l ∷ []; caused = ((tt, is), tt); leads = refl }
leads-one b word (brought.Dial l) done trunk is = leads-tell (length done.trunk.links) word (Dial l) done tt

pub leads-brings : (b word : ℕ) (es : List Brought) (done : Done) → IsTrunk done.trunk → AreBrought b word es done → Leads (length done.trunk.links) word done (brings b word es done)
leads-brings b word [] done trunk are = leads-none (length done.trunk.links) word done
leads-brings b word (e ∷ es) done trunk are =
    let next = brings_one b word e done in
    leads-both (length done.trunk.links) word done next (brings b word es next) (leads-one b word e done trunk are.0)
    (subst (λ n. Leads n word next (brings b word es next)) (count-one b word e done) (leads-brings b word es next (trunk-one b word e done trunk are.0) are.1))

-- ---- frames go out on links that are there

abbrev linked_if : ℕ → Entry → Type 0
linked_if n e = AreLinked n (passed e)

passed-one : (n : ℕ) (e : Entry) → IsLinked n e → AreLinked n (passed e)
passed-one n (Push l octets) is = (is, tt)
passed-one n (Got class protocol octets) is = by (is_bap (Got class protocol octets)) where
  by : (b : Bool) → AreLinked n (if b then [] else (Got class protocol octets ∷ []))
  by true = tt
  by false = (tt, tt)
passed-one n (Hang l) is = (tt, tt)
passed-one n (Dial l) is = (tt, tt)
passed-one n (Asked answer) is = (tt, tt)

pub passed-linked : (n : ℕ) (es : List Entry) → AreLinked n es → AreLinked n (passed_on es)
passed-linked n [] all = tt
passed-linked n (e ∷ es) all = AllByRecursion-append (IsLinked n) (passed e) (passed_on es) (passed-one n e all.0) (passed-linked n es all.1)

linked-more : (n : ℕ) (es more : List Entry) → AreLinked n es → AreLinked n more → AreLinked n (es ++ more)
linked-more n es more first rest = AllByRecursion-append (IsLinked n) es more first rest

frame-linked : (n l protocol : ℕ) (octets : List ℕ) (t : Trunk) → IsOfLink n l → AreLinked n (frame_on (slice_get t.links (l - 1)) l protocol octets)
frame-linked n l protocol octets t of = by (slice_get t.links (l - 1)) where
  by : (o : Option Link) → AreLinked n (frame_on o l protocol octets)
  by None = tt
  by (Some k) = (of, tt)

told-linked : (n : ℕ) (e : Entry) → IsTold e → IsLinked n e
told-linked n (Push l octets) told = absurd told
told-linked n (Got class protocol octets) told = tt
told-linked n (Hang l) told = tt
told-linked n (Dial l) told = tt
told-linked n (Asked answer) told = tt

-- the links that are there, and the entries so far
pub record Linked (n : ℕ) (m : Moved) : Type 0 where
  pub count : length m.trunk.links ≡ n
  pub linked : AreLinked n m.out

pub does-linked : (n word l : ℕ) (what : Happening) (m : Moved) → IsOfLink n l → Linked n m → Linked n (moves_one word (Does what l) m)
does-linked n word l what m of h = record {
  count = counts what l word m.trunk ∙ h.count;
  linked = linked-more n m.out _ h.linked
      (passed-linked n _ (subst (λ n. AreLinked n (on_link what l m.trunk word).out.entries) h.count (all-linked what l word m.trunk (subst (λ n. IsOfLink n l) (sym h.count) of))));
}

one-linked : (n word : ℕ) (x : Move) (m : Moved) → IsCaused n x → Linked n m → Linked n (moves_one word x m)
one-linked n word (Does what l) m caused h = does-linked n word l what m caused.1 h
one-linked n word (Sends l octets) m caused h = record { count = h.count; linked = linked-more n m.out _ h.linked (frame-linked n l BAP octets m.trunk caused.0) }
one-linked n word (Marks l) m caused h = record { count = h.count; linked = h.linked }
one-linked n word (Tells e) m caused h = record { count = h.count; linked = linked-more n m.out (e ∷ []) h.linked (told-linked n e caused, tt) }

pub caused-linked : (n word : ℕ) (xs : List Move) (m : Moved) → AreCaused n xs → Linked n m → Linked n (moves_all word xs m)
caused-linked n word [] m all h = h
caused-linked n word (x ∷ xs) m all h = caused-linked n word xs (moves_one word x m) all.1 (one-linked n word x m all.0 h)
