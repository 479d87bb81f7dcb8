-- What is put at the end of a list of entries leaves those before where they are.
use Rattle.std.proofs.Common.{◌≡◌, ℕ, zero, suc, ◌+◌, ◌-◌, ◌<◌, ◌≤◌, List, [], ◌∷◌, ◌++◌, length, take, drop, get_or, map, Some, refl, ap, sym, ◌∙◌, arith, length-append, length-drop}
use Rattle.std.specs.Prelude.{None}
use Rattle.std.proofs.lemmas.List.{take-append-le, drop-append-le, map-append}
use Rattle.std.proofs.Math.Seq.{drop-append_seam, take-length}
use Rattle.std.proofs.lemmas.Option.{slice_get-map, slice_get-get_or}
use Rattle.std.specs.List.{slice_get}
use Rattle.std.specs.Option.{option_map}
use Rattle.ppp_trunk.specs.declared.station_out.Slot.{Slot}
use Rattle.ppp_trunk.specs.declared.station_out.Slot.TheVariants as kept
use Rattle.ppp_trunk.specs.StationOut.{Entry, Push, Got, all_octets, octets_of, slot_seen, AreShort, IsShortFrame, IsWithin, AreWithin}

pub all_octets-append : (es more : List Entry) → all_octets (es ++ more) ≡ all_octets es + all_octets more
all_octets-append [] more = omega arith
all_octets-append (e ∷ es) more = let rest = all_octets-append es more in omega arith

part-append : (octets more : List ℕ) (start end : ℕ) → start ≤ end → end ≤ length octets → take (end - start) (drop start (octets ++ more)) ≡ take (end - start) (drop start octets)
part-append octets more start end o w =
    let e : drop start (octets ++ more) ≡ drop start octets ++ more = drop-append-le start octets more (omega arith) in
    let l : end - start ≤ length (drop start octets) = omega (arith, length-drop start octets) in
    ap (take (end - start)) e ∙ take-append-le (end - start) (drop start octets) more l

seen-append : (octets more : List ℕ) (slot : Slot) → IsWithin octets slot → slot_seen (octets ++ more) slot ≡ slot_seen octets slot
seen-append octets more (kept.Push link start end) h = ap (λ xs. Push link xs) (part-append octets more start end h.0 h.1)
seen-append octets more (kept.Got protocol start end) h = ap (λ xs. Got None protocol xs) (part-append octets more start end h.0 h.1)
seen-append octets more (kept.Hang link) h = refl
seen-append octets more (kept.Dial link) h = refl
seen-append octets more (kept.Asked answer) h = refl

within-more : (octets more : List ℕ) (slot : Slot) → IsWithin octets slot → IsWithin (octets ++ more) slot
within-more octets more (kept.Push link start end) h = (h.0, omega (arith, h.1, length-append octets more))
within-more octets more (kept.Got protocol start end) h = (h.0, omega (arith, h.1, length-append octets more))
within-more octets more (kept.Hang link) h = tt
within-more octets more (kept.Dial link) h = tt
within-more octets more (kept.Asked answer) h = tt

all-within : (octets more : List ℕ) (slots : List Slot) → AreWithin octets slots → AreWithin (octets ++ more) slots
all-within octets more [] h = tt
all-within octets more (slot ∷ slots) h = (within-more octets more slot h.0, all-within octets more slots h.1)

all-seen : (octets more : List ℕ) (slots : List Slot) → AreWithin octets slots → map (slot_seen (octets ++ more)) slots ≡ map (slot_seen octets) slots
all-seen octets more [] h = refl
all-seen octets more (slot ∷ slots) h =
    let one = seen-append octets more slot h.0 in
    let rest = all-seen octets more slots h.1 in
    cc

within-snoc : (octets : List ℕ) (slots : List Slot) (slot : Slot) → AreWithin octets slots → IsWithin octets slot → AreWithin octets (slots ++ slot ∷ [])
within-snoc octets [] slot h k = (k, tt)
within-snoc octets (x ∷ xs) slot h k = (h.0, within-snoc octets xs slot h.1 k)

pub short-snoc : (es : List Entry) (e : Entry) → AreShort es → IsShortFrame e → AreShort (es ++ e ∷ [])
short-snoc [] e all one = (one, tt)
short-snoc (x ∷ xs) e all one = (all.0, short-snoc xs e all.1 one)

-- one slot more, with octets of its own
pub record Put (octets all : List ℕ) (slots all_slots : List Slot) (entry : Entry) : Type 0 where
  pub within : AreWithin all all_slots
  pub shown : map (slot_seen all) all_slots ≡ map (slot_seen octets) slots ++ entry ∷ []
  pub sizes : all_octets (map (slot_seen all) all_slots) ≡ all_octets (map (slot_seen octets) slots) + octets_of entry

put : (octets more all : List ℕ) (slots all_slots : List Slot) (slot : Slot) (entry : Entry) → all ≡ octets ++ more → all_slots ≡ slots ++ slot ∷ [] →
    AreWithin octets slots → IsWithin (octets ++ more) slot → slot_seen (octets ++ more) slot ≡ entry → Put octets all slots all_slots entry
put octets more all slots all_slots slot entry a b h w e =
    let shown : map (slot_seen all) all_slots ≡ map (slot_seen octets) slots ++ entry ∷ [] =
    rw (a, b) (map-append (slot_seen (octets ++ more)) slots (slot ∷ []) ∙ rw (all-seen octets more slots h, e) refl) in
    record {
      within = rw (a, b) (within-snoc (octets ++ more) slots slot (all-within octets more slots h) w);
      shown = shown;
      sizes = let sum = ap all_octets shown ∙ all_octets-append (map (slot_seen octets) slots) (entry ∷ []) in omega (arith, sum);
    }

part-new : (octets more : List ℕ) (start end : ℕ) → start ≡ length octets → end ≡ length (octets ++ more) → take (end - start) (drop start (octets ++ more)) ≡ more
part-new octets more start end s e =
    let n : end - start ≡ length more = omega (arith, length-append octets more) in
    rw (n, s, drop-append_seam octets more) (take-length more)

new-within : (octets more : List ℕ) (start end : ℕ) → start ≡ length octets → end ≡ length (octets ++ more) → (start ≤ end) × (end ≤ length (octets ++ more))
new-within octets more start end s e = (omega (arith, length-append octets more), omega arith)

pub put-push : (octets more all : List ℕ) (slots all_slots : List Slot) (link start end : ℕ) → all ≡ octets ++ more → all_slots ≡ slots ++ kept.Push link start end ∷ [] →
    AreWithin octets slots → start ≡ length octets → end ≡ length all → Put octets all slots all_slots (Push link more)
put-push octets more all slots all_slots link start end a b h s e =
    let f : end ≡ length (octets ++ more) = e ∙ ap length a in
    put octets more all slots all_slots (kept.Push link start end) (Push link more) a b h (new-within octets more start end s f) (ap (λ xs. Push link xs) (part-new octets more start end s f))

pub put-got : (octets more all : List ℕ) (slots all_slots : List Slot) (protocol start end : ℕ) → all ≡ octets ++ more → all_slots ≡ slots ++ kept.Got protocol start end ∷ [] →
    AreWithin octets slots → start ≡ length octets → end ≡ length all → Put octets all slots all_slots (Got None protocol more)
put-got octets more all slots all_slots protocol start end a b h s e =
    let f : end ≡ length (octets ++ more) = e ∙ ap length a in
    put octets more all slots all_slots (kept.Got protocol start end) (Got None protocol more) a b h (new-within octets more start end s f) (ap (λ xs. Got None protocol xs) (part-new octets more start end s f))

-- one slot more, without octets
pub put-plain : (octets : List ℕ) (slots all_slots : List Slot) (slot : Slot) (entry : Entry) → all_slots ≡ slots ++ slot ∷ [] →
    ((more : List ℕ) → slot_seen more slot ≡ entry) → ((more : List ℕ) → IsWithin more slot) → octets_of entry ≡ 0 →
    AreWithin octets slots → Put octets octets slots all_slots entry
put-plain octets slots all_slots slot entry b seen within none h =
    let shown : map (slot_seen octets) all_slots ≡ map (slot_seen octets) slots ++ entry ∷ [] =
    rw b (map-append (slot_seen octets) slots (slot ∷ []) ∙ ap (λ (e : Entry). map (slot_seen octets) slots ++ e ∷ []) (seen octets)) in
    record {
      within = rw b (within-snoc octets slots slot h (within octets));
      shown = shown;
      sizes = let sum = ap all_octets shown ∙ all_octets-append (map (slot_seen octets) slots) (entry ∷ []) in omega (arith, sum);
    }

-- the slot at a place
pub within-at : (octets : List ℕ) (slots : List Slot) (i : ℕ) (d slot : Slot) → AreWithin octets slots → i < length slots → get_or slots i d ≡ slot → IsWithin octets slot
within-at octets [] i d slot h l e = absurd (omega arith)
within-at octets (x ∷ xs) zero d slot h l e = rw (sym e) h.0
within-at octets (x ∷ xs) (suc i) d slot h l e = within-at octets xs i d slot h.1 (omega arith) e

pub seen-at : (octets : List ℕ) (slots : List Slot) (i : ℕ) (d slot : Slot) → i < length slots → get_or slots i d ≡ slot → slice_get (map (slot_seen octets) slots) i ≡ Some (slot_seen octets slot)
seen-at octets slots i d slot l e =
    slice_get-map (slot_seen octets) slots i ∙ (ap (option_map (slot_seen octets)) (slice_get-get_or slots i d l) ∙ ap (λ (s : Slot). Some (slot_seen octets s)) e)
