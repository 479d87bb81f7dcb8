-- What is put behind the octets of an outbox leaves its packets where they are.
use Rattle.std.proofs.Common.{◌≡◌, ℕ, zero, suc, ◌+◌, ◌-◌, ◌<◌, ◌≤◌, List, [], ◌∷◌, ◌++◌, length, take, drop, get_or, map, Some, refl, ap, ◌∙◌, arith, length-append, length-drop}
use Rattle.std.proofs.lemmas.List.{take-append-le, drop-append-le, map-append}
use Rattle.std.proofs.Math.Seq.{drop-append_seam, take-length}
use Rattle.std.proofs.lemmas.Option.{slice_get-map, slice_get-get_or}
use Rattle.std.specs.List.{slice_get}
use Rattle.std.specs.Option.{option_map}
use Rattle.ppp_auto.specs.declared.outbox.Slot.{Slot}
use Rattle.ppp_auto.specs.declared.outbox.Slot.TheVariants.{Packet, Told}
use Rattle.ppp_auto.specs.Outbox.{Entry, Send, Signal, slot_seen, AreWithin}

pub within-append : (octets more : List ℕ) (slots : List Slot) → AreWithin octets slots → AreWithin (octets ++ more) slots
within-append octets more [] h = tt
within-append octets more (Packet start end ∷ slots) h = (h.0, omega (arith, h.1, length-append octets more), h.2, within-append octets more slots h.3)
within-append octets more (Told told ∷ slots) h = within-append octets more slots h

pub within_snoc : (octets : List ℕ) (slots : List Slot) (slot : Slot) → AreWithin octets slots → AreWithin octets (slot ∷ []) → AreWithin octets (slots ++ slot ∷ [])
within_snoc octets [] slot h k = k
within_snoc octets (Packet start end ∷ slots) slot h k = (h.0, h.1, h.2, within_snoc octets slots slot h.3 k)
within_snoc octets (Told told ∷ slots) slot h k = within_snoc octets slots slot h k

part-append : (octets more : List ℕ) (start end : ℕ) → start ≤ end → end ≤ length octets → take (end - start) (drop start (octets ++ more)) ≡ take (end - start) (drop start octets)
part-append octets more start end o w =
    let e : drop start (octets ++ more) ≡ drop start octets ++ more = drop-append-le start octets more (omega arith) in
    let l : end - start ≤ length (drop start octets) = omega (arith, length-drop start octets) in
    ap (take (end - start)) e ∙ take-append-le (end - start) (drop start octets) more l

pub view-append : (octets more : List ℕ) (slots : List Slot) → AreWithin octets slots → map (slot_seen (octets ++ more)) slots ≡ map (slot_seen octets) slots
view-append octets more [] h = refl
view-append octets more (Packet start end ∷ slots) h =
    let p = part-append octets more start end h.0 h.1 in
    let q = view-append octets more slots h.3 in
    cc
view-append octets more (Told told ∷ slots) h = ap (λ (es : List Entry). Signal told ∷ es) (view-append octets more slots h)

pub part-new : (octets more : List ℕ) (start end : ℕ) → start ≡ length octets → end ≡ length octets + length more → take (end - start) (drop start (octets ++ more)) ≡ more
part-new octets more start end s e =
    let n : end - start ≡ length more = omega arith in
    rw (n, s, drop-append_seam octets more) (take-length more)

pub within-at : (octets : List ℕ) (slots : List Slot) (i : ℕ) (d : Slot) (start end : ℕ) → AreWithin octets slots → i < length slots → get_or slots i d ≡ Packet start end → (start ≤ end) × (end ≤ length octets) × (end ≤ start + 1500)
within-at octets [] i d start end h l e = absurd (omega arith)
within-at octets (Packet s t ∷ slots) zero d start end h l e =
    let p : s ≡ start = cc in
    let q : t ≡ end = cc in
    (omega (arith, h.0), omega (arith, h.1), omega (arith, h.2))
within-at octets (Told told ∷ slots) zero d start end h l e = cc
within-at octets (Packet s t ∷ slots) (suc i) d start end h l e = within-at octets slots i d start end h.3 (omega arith) e
within-at octets (Told told ∷ slots) (suc i) d start end h l e = within-at octets slots i d start end h (omega arith) e

pub view-at : (octets : List ℕ) (slots : List Slot) (i : ℕ) (d slot : Slot) → i < length slots → get_or slots i d ≡ slot → slice_get (map (slot_seen octets) slots) i ≡ Some (slot_seen octets slot)
view-at octets slots i d slot l e =
    slice_get-map (slot_seen octets) slots i ∙ (ap (option_map (slot_seen octets)) (slice_get-get_or slots i d l) ∙ ap (λ (s : Slot). Some (slot_seen octets s)) e)

-- what the outbox shows after one more slot, and more octets
pub view_snoc : (octets more : List ℕ) (slots : List Slot) (slot : Slot) → AreWithin octets slots → map (slot_seen (octets ++ more)) (slots ++ slot ∷ []) ≡ map (slot_seen octets) slots ++ slot_seen (octets ++ more) slot ∷ []
view_snoc octets more slots slot h = map-append (slot_seen (octets ++ more)) slots (slot ∷ []) ∙ ap (λ (es : List Entry). es ++ slot_seen (octets ++ more) slot ∷ []) (view-append octets more slots h)

-- a packet put at the end
pub record Sent (octets all : List ℕ) (slots all_slots : List Slot) (more : List ℕ) : Type 0 where
  pub within : AreWithin all all_slots
  pub shown : map (slot_seen all) all_slots ≡ map (slot_seen octets) slots ++ Send more ∷ []

pub sent-all : (octets more : List ℕ) (slots : List Slot) (start end : ℕ) → AreWithin octets slots → start ≡ length octets → end ≡ length (octets ++ more) → length more ≤ 1500 →
    Sent octets (octets ++ more) slots (slots ++ Packet start end ∷ []) more
sent-all octets more slots start end h s e m =
    let l = length-append octets more in
    let e' : end ≡ length octets + length more = e ∙ l in
    let p : take (end - start) (drop start (octets ++ more)) ≡ more = part-new octets more start end s e' in
    let w : AreWithin (octets ++ more) (Packet start end ∷ []) = (omega arith, omega arith, omega arith, tt) in
    record {
      within = within_snoc (octets ++ more) slots (Packet start end) (within-append octets more slots h) w;
      shown = view_snoc octets more slots (Packet start end) h ∙ ap (λ (xs : List ℕ). map (slot_seen octets) slots ++ Send xs ∷ []) p;
    }

pub sent : (octets more all : List ℕ) (slots all_slots : List Slot) (start end : ℕ) → all ≡ octets ++ more → all_slots ≡ slots ++ Packet start end ∷ [] →
    AreWithin octets slots → start ≡ length octets → end ≡ length all → length more ≤ 1500 → Sent octets all slots all_slots more
sent octets more all slots all_slots start end a b h s e m = rw (a, b) (sent-all octets more slots start end h s (rw a at e) m)
