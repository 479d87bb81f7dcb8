-- What is put at the end of a list of entries leaves those before where they are.
use Rattle.std.proofs.Common.{◌≡◌, ℕ, zero, suc, ◌+◌, ◌-◌, ◌*◌, ◌<◌, ◌≤◌, Bool, true, false, List, [], ◌∷◌, ◌++◌, length, take, drop, get_or, map, Some, refl, ap, sym, ◌∙◌, arith, length-append, length-drop}
use Rattle.std.specs.Prelude.{if◌then◌else◌, bit_xor}
use Rattle.std.proofs.lemmas.List.{take-append-le, drop-append-le, map-append}
use Rattle.std.proofs.Math.Seq.{drop-append_seam, take-length}
use Rattle.std.proofs.lemmas.Option.{slice_get-map, slice_get-get_or}
use Rattle.std.specs.List.{slice_get}
use Rattle.std.specs.Option.{option_map}
use Rattle.ppp_frame.specs.declared.form.Form.{Form}
use Rattle.ppp_frame.specs.declared.escapes.TheConstants.{FLAG, ESCAPE, TOGGLE}
use Rattle.ppp_frame.specs.Escapes.{must_escape, spelled, stuffed}
use Rattle.ppp_frame.specs.Fcs.{checked, fcs_octets}
use Rattle.ppp_frame.specs.Frame.{enc}
use Rattle.ppp_frame.specs.Header.{address_octets, protocol_octets, header_of, headed, leaves_out, is_short}
use Rattle.ppp_link.specs.declared.link_out.TheConstants.{MOST_PUSH, MOST_OCTETS}
use Rattle.ppp_link.specs.declared.link_out.Slot.{Slot}
use Rattle.ppp_link.specs.declared.link_out.Slot.TheVariants as kept
use Rattle.ppp_link.specs.LinkOut.{Entry, Push, Payload, slot_seen, IsWithin, AreWithin}

-- ---- the octets of a frame

spelled-two : (b : Bool) (x : ℕ) → length (if b then ESCAPE ∷ bit_xor x TOGGLE ∷ [] else x ∷ []) ≤ 2
spelled-two true x = omega arith
spelled-two false x = omega arith

length-stuffed : (form : ℕ) (xs : List ℕ) → length (stuffed form xs) ≤ 2 * length xs
length-stuffed form [] = omega arith
length-stuffed form (x ∷ xs) =
    let rest = length-stuffed form xs in
    let one = spelled-two (must_escape form x) x in
    omega (arith, length-append (spelled form x) (stuffed form xs))

address-two : (b : Bool) → length (address_octets b) ≤ 2
address-two true = omega arith
address-two false = omega arith

protocol-two : (b : Bool) (n : ℕ) → length (protocol_octets b n) ≤ 2
protocol-two true n = omega arith
protocol-two false n = omega arith

-- a frame has at most two octets for each of header, information and check sequence, and two flags
pub length-enc : (form : Form) (protocol : ℕ) (info : List ℕ) → length (enc form protocol info) ≤ 2 * length info + 14
length-enc form protocol info =
    let head = header_of form protocol info in
    let a = address-two (leaves_out form protocol) in
    let b = protocol-two (is_short form protocol info) protocol in
    let h = length-append (address_octets (leaves_out form protocol)) (protocol_octets (is_short form protocol info) protocol) in
    let i = length-append head info in
    let c = length-append (headed form protocol info) (fcs_octets (headed form protocol info)) in
    let s = length-stuffed form.map (checked (headed form protocol info)) in
    let e = length-append (stuffed form.map (checked (headed form protocol info))) (FLAG ∷ []) in
    omega arith

-- ---- entries

part-append : (octets more : List ℕ) (start end : ℕ) → start ≤ end → end ≤ length octets → take (end - start) (drop start (octets ++ more)) ≡ take (end - start) (drop start octets)
part-append octets more start end o w =
    let e : drop start (octets ++ more) ≡ drop start octets ++ more = drop-append-le start octets more (omega arith) in
    let l : end - start ≤ length (drop start octets) = omega (arith, length-drop start octets) in
    ap (take (end - start)) e ∙ take-append-le (end - start) (drop start octets) more l

seen-append : (octets more : List ℕ) (slot : Slot) → IsWithin octets slot → slot_seen (octets ++ more) slot ≡ slot_seen octets slot
seen-append octets more (kept.Push start end) h = ap (λ xs. Push xs) (part-append octets more start end h.0 h.1)
seen-append octets more (kept.Payload protocol start end) h = ap (λ xs. Payload protocol xs) (part-append octets more start end h.0 h.1)
seen-append octets more kept.LcpUp h = refl
seen-append octets more kept.LcpDown h = refl
seen-append octets more kept.Finished h = refl
seen-append octets more (kept.NetUp proto) h = refl
seen-append octets more (kept.NetDown proto) h = refl

within-more : (octets more : List ℕ) (slot : Slot) → IsWithin octets slot → IsWithin (octets ++ more) slot
within-more octets more (kept.Push start end) h = (h.0, omega (arith, h.1, length-append octets more), h.2)
within-more octets more (kept.Payload protocol start end) h = (h.0, omega (arith, h.1, length-append octets more), h.2)
within-more octets more kept.LcpUp h = tt
within-more octets more kept.LcpDown h = tt
within-more octets more kept.Finished h = tt
within-more octets more (kept.NetUp proto) h = tt
within-more octets more (kept.NetDown proto) h = tt

all-within : (octets more : List ℕ) (slots : List Slot) → AreWithin octets slots → AreWithin (octets ++ more) slots
all-within octets more [] h = tt
all-within octets more (slot ∷ slots) h = (within-more octets more slot h.0, all-within octets more slots h.1)

all-seen : (octets more : List ℕ) (slots : List Slot) → AreWithin octets slots → map (slot_seen (octets ++ more)) slots ≡ map (slot_seen octets) slots
all-seen octets more [] h = refl
all-seen octets more (slot ∷ slots) h =
    let one = seen-append octets more slot h.0 in
    let rest = all-seen octets more slots h.1 in
    cc

pub within-snoc : (octets : List ℕ) (slots : List Slot) (slot : Slot) → AreWithin octets slots → IsWithin octets slot → AreWithin octets (slots ++ slot ∷ [])
within-snoc octets [] slot h k = (k, tt)
within-snoc octets (x ∷ xs) slot h k = (h.0, within-snoc octets xs slot h.1 k)

-- one slot more, with octets of its own
pub record Put (octets all : List ℕ) (slots all_slots : List Slot) (entry : Entry) : Type 0 where
  pub within : AreWithin all all_slots
  pub shown : map (slot_seen all) all_slots ≡ map (slot_seen octets) slots ++ entry ∷ []

pub put : (octets more all : List ℕ) (slots all_slots : List Slot) (slot : Slot) (entry : Entry) → all ≡ octets ++ more → all_slots ≡ slots ++ slot ∷ [] →
    AreWithin octets slots → IsWithin (octets ++ more) slot → slot_seen (octets ++ more) slot ≡ entry → Put octets all slots all_slots entry
put octets more all slots all_slots slot entry a b h w e = rw (a, b) (record {
  within = within-snoc (octets ++ more) slots slot (all-within octets more slots h) w;
  shown = map-append (slot_seen (octets ++ more)) slots (slot ∷ []) ∙ rw (all-seen octets more slots h, e) refl;
})

part-new : (octets more : List ℕ) (start end : ℕ) → start ≡ length octets → end ≡ length (octets ++ more) → take (end - start) (drop start (octets ++ more)) ≡ more
part-new octets more start end s e =
    let n : end - start ≡ length more = omega (arith, length-append octets more) in
    rw (n, s, drop-append_seam octets more) (take-length more)

new-within : (most : ℕ) (octets more : List ℕ) (start end : ℕ) → start ≡ length octets → end ≡ length (octets ++ more) → length more ≤ most →
    (start ≤ end) × (end ≤ length (octets ++ more)) × (end ≤ start + most)
new-within most octets more start end s e m = (omega (arith, length-append octets more), omega arith, omega (arith, length-append octets more))

pub put-push : (octets more all : List ℕ) (slots all_slots : List Slot) (start end : ℕ) → all ≡ octets ++ more → all_slots ≡ slots ++ kept.Push start end ∷ [] →
    AreWithin octets slots → start ≡ length octets → end ≡ length all → length more ≤ MOST_PUSH → Put octets all slots all_slots (Push more)
put-push octets more all slots all_slots start end a b h s e m =
    let f : end ≡ length (octets ++ more) = e ∙ ap length a in
    put octets more all slots all_slots (kept.Push start end) (Push more) a b h (new-within MOST_PUSH octets more start end s f m) (ap (λ xs. Push xs) (part-new octets more start end s f))

pub put-payload : (octets more all : List ℕ) (slots all_slots : List Slot) (protocol start end : ℕ) → all ≡ octets ++ more → all_slots ≡ slots ++ kept.Payload protocol start end ∷ [] →
    AreWithin octets slots → start ≡ length octets → end ≡ length all → length more ≤ MOST_OCTETS → Put octets all slots all_slots (Payload protocol more)
put-payload octets more all slots all_slots protocol start end a b h s e m =
    let f : end ≡ length (octets ++ more) = e ∙ ap length a in
    put octets more all slots all_slots (kept.Payload protocol start end) (Payload protocol more) a b h (new-within MOST_OCTETS octets more start end s f m) (ap (λ xs. Payload protocol xs) (part-new octets more start end s f))

-- the slot at a place
pub within-at : (octets : List ℕ) (slots : List Slot) (i : ℕ) (d slot : Slot) → AreWithin octets slots → i < length slots → get_or slots i d ≡ slot → IsWithin octets slot
within-at octets [] i d slot h l e = absurd (omega arith)
within-at octets (x ∷ xs) zero d slot h l e = rw (sym e) h.0
within-at octets (x ∷ xs) (suc i) d slot h l e = within-at octets xs i d slot h.1 (omega arith) e

pub seen-at : (octets : List ℕ) (slots : List Slot) (i : ℕ) (d slot : Slot) → i < length slots → get_or slots i d ≡ slot → slice_get (map (slot_seen octets) slots) i ≡ Some (slot_seen octets slot)
seen-at octets slots i d slot l e =
    slice_get-map (slot_seen octets) slots i ∙ (ap (option_map (slot_seen octets)) (slice_get-get_or slots i d l) ∙ ap (λ (s : Slot). Some (slot_seen octets s)) e)
