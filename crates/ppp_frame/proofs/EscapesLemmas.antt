-- Octets as they are spelled and read.
use Rattle.std.proofs.Common.{◌≡◌, ◌==◌, if◌then◌else◌, ℕ, ◌+◌, ◌*◌, ◌/◌, ◌%◌, ◌<◌, ◌≤◌, Bool, true, false, List, [], ◌∷◌, ◌++◌, length, get_or, take, drop, set, refl, ap, sym, ◌∙◌, arith, bit_xor, append_assoc, length-set, length-append, append-nil, inl, inr, subst, ◌||◌, ◌&&◌, nat_lt}
use Rattle.ppp_frame.proofs.XorLemmas.{xor_again}
use Rattle.std.specs.List.{list_any}
use Rattle.std.specs.Int.{bit_at}
use Rattle.std.proofs.lemmas.Nat.Bits.{bit_at-zero}
use Rattle.std.proofs.lemmas.Bool.{and_left, and_right, or_from, or_parts, eqb-true, eqb-false, ne_eqb, true≢false}
use Rattle.std.proofs.lemmas.List.{take-append-drop, take_more_set, take-set, take_more, flat_map_more}
use Rattle.ppp_frame.specs.Escapes.{Escapes, HasNoFlag, is_escape, is_special, StandsFor, must_escape, spelled, stuffed, opens, read_octet, unstuffed, escaped_after}
use Rattle.ppp_frame.specs.Spelling.{pair_of}
use Rattle.ppp_frame.specs.Fcs.{fcs_of, fcs_octets, checked}
use Rattle.std.proofs.lemmas.List.Concat.{flat_map-append}

-- two octets are written, of which the second may not count
pub two_writes : (wide : Bool) (room : List ℕ) (end first second : ℕ) → end + 1 < length room → take (end + (if wide then 2 else 1)) (set (set room end first) (end + 1) second) ≡ take end room ++ (if wide then first ∷ second ∷ [] else first ∷ [])
two_writes true room end first second within =
    ap (λ n. take n (set (set room end first) (end + 1) second)) (omega arith)
    ∙ take_more_set (set room end first) (end + 1) second (omega (arith, length-set room end first))
    ∙ ap (λ xs. xs ++ second ∷ []) (take_more_set room end first (omega arith))
    ∙ append_assoc (take end room) (first ∷ []) (second ∷ [])
two_writes false room end first second within =
    take-set (set room end first) (end + 1) second ∙ take_more_set room end first (omega arith)

-- what is not escaped is neither an escape nor a flag
pub plain_octet : (map x : ℕ) → must_escape map x ≡ false → ((x == 0x7d) ≡ false) × ((x == 0x7e) ≡ false)
unfolding must_escape
plain_octet map x e = or_parts _ _ (or_parts _ _ e).0

-- an entry of the table spells its octet
pub pair_spells : (map x pair : ℕ) → x < 256 → pair ≡ pair_of map x → spelled map x ≡ (if pair % 256 == 0x7d then (pair % 256) ∷ (pair / 256) ∷ [] else (pair % 256) ∷ [])
pair_spells map x pair fits is = go (must_escape map x) refl
  where
    go : (b : Bool) → must_escape map x ≡ b → spelled map x ≡ (if pair % 256 == 0x7d then (pair % 256) ∷ (pair / 256) ∷ [] else (pair % 256) ∷ [])
    go true e =
        let is' : pair ≡ 0x7d + bit_xor x 0x20 * 256 = rw e at is in
        let low : pair % 256 ≡ 0x7d = omega arith in
        let high : pair / 256 ≡ bit_xor x 0x20 = omega arith in
        rw (e, low, high)
    go false e =
        let is' : pair ≡ x = rw e at is in
        let low : pair % 256 ≡ x = omega arith in
        rw (e, low, (plain_octet map x e).0)

pub stuffed_more : (map : ℕ) (xs : List ℕ) (i d : ℕ) → i < length xs → stuffed map (take (i + 1) xs) ≡ stuffed map (take i xs) ++ spelled map (get_or xs i d)
stuffed_more map xs i d within =
    ap (stuffed map) (take_more xs i d within) ∙ sym (flat_map_more (spelled map) [] (take i xs) (get_or xs i d))

length_by : (wide : Bool) (a b : ℕ) → length (if wide then a ∷ b ∷ [] else a ∷ []) ≡ (if wide then 2 else 1)
length_by true a b = refl
length_by false a b = refl

pub length_spelled : (map x pair : ℕ) → x < 256 → pair ≡ pair_of map x → length (spelled map x) ≡ (if pair % 256 == 0x7d then 2 else 1)
length_spelled map x pair fits is = ap length (pair_spells map x pair fits is) ∙ length_by _ _ _

pub width_by : (pair : ℕ) → (if pair % 256 == 0x7d then 2 else 1) ≤ 2
width_by pair = go (pair % 256 == 0x7d)
  where
    go : (wide : Bool) → (if wide then 2 else 1) ≤ 2
    go true = omega arith
    go false = omega arith

-- a frame in a buffer, part by part
pub frame_written : (map check : ℕ) (r₀ r₁ r₂ r₃ header info : List ℕ) (e₁ e₂ e₃ : ℕ) → 0 < length r₀ → e₃ < length r₃ → check ≡ fcs_of (header ++ info) → take e₁ r₁ ≡ take 1 (set r₀ 0 0x7e) ++ stuffed map header → take e₂ r₂ ≡ take e₁ r₁ ++ stuffed map info → take e₃ r₃ ≡ take e₂ r₂ ++ stuffed map (check % 256 ∷ check / 256 ∷ []) → take (e₃ + 1) (set r₃ e₃ 0x7e) ≡ 0x7e ∷ stuffed map (checked (header ++ info)) ++ 0x7e ∷ []
frame_written map check r₀ r₁ r₂ r₃ header info e₁ e₂ e₃ some within is first second third =
    let flag : take 1 (set r₀ 0 0x7e) ≡ 0x7e ∷ [] = take_more_set r₀ 0 0x7e some in
    let parts : stuffed map (checked (header ++ info)) ≡ (stuffed map header ++ stuffed map info) ++ stuffed map (fcs_octets (header ++ info)) =
    flat_map-append (spelled map) (header ++ info) (fcs_octets (header ++ info))
    ∙ ap (λ xs. xs ++ stuffed map (fcs_octets (header ++ info))) (flat_map-append (spelled map) header info) in
    let last : take e₃ r₃ ≡ ((take 1 (set r₀ 0 0x7e) ++ stuffed map header) ++ stuffed map info) ++ stuffed map (fcs_octets (header ++ info)) =
    third ∙ ap (λ xs. xs ++ stuffed map (check % 256 ∷ check / 256 ∷ [])) (second ∙ ap (λ xs. xs ++ stuffed map info) first)
    ∙ ap (λ n. ((take 1 (set r₀ 0 0x7e) ++ stuffed map header) ++ stuffed map info) ++ stuffed map (n % 256 ∷ n / 256 ∷ [])) is in
    let all : take e₃ r₃ ≡ 0x7e ∷ stuffed map (checked (header ++ info)) =
    last ∙ ap (λ xs. ((xs ++ stuffed map header) ++ stuffed map info) ++ stuffed map (fcs_octets (header ++ info))) flag
    ∙ ap (λ xs. 0x7e ∷ xs) (sym parts) in
    take_more_set r₃ e₃ 0x7e within ∙ ap (λ xs. xs ++ 0x7e ∷ []) all

-- an octet more is written as it is spelled
pub write_more : (map x pair wide end : ℕ) (room front done : List ℕ) → end + 1 < length room → x < 256 → pair ≡ pair_of map x → wide ≡ (if pair % 256 == 0x7d then 2 else 1) → take end room ≡ front ++ done → take (end + wide) (set (set room end (pair % 256)) (end + 1) (pair / 256)) ≡ front ++ (done ++ spelled map x)
write_more map x pair wide end room front done within fits is width_is before =
    ap (λ n. take (end + n) (set (set room end (pair % 256)) (end + 1) (pair / 256))) width_is
    ∙ two_writes (pair % 256 == 0x7d) room end (pair % 256) (pair / 256) within
    ∙ ap (λ ys. take end room ++ ys) (sym (pair_spells map x pair fits is))
    ∙ ap (λ ys. ys ++ spelled map x) before ∙ append_assoc front done (spelled map x)

-- ---- reading

-- an octet is written, and may not count
pub one_write : (escaped : Bool) (x end : ℕ) (room : List ℕ) → end < length room → take (end + (if opens escaped x then 0 else 1)) (set room end (if escaped then bit_xor x 0x20 else x)) ≡ take end room ++ read_octet escaped x
one_write true x end room within = take_more_set room end (bit_xor x 0x20) within
one_write false x end room within = go (x == 0x7d) refl
  where
    go : (b : Bool) → (x == 0x7d) ≡ b → take (end + (if opens false x then 0 else 1)) (set room end x) ≡ take end room ++ read_octet false x
    go true e =
        rw e (ap (λ n. take n (set room end x)) (omega arith) ∙ take-set room end x ∙ sym (append-nil (take end room)))
    go false e = rw e (take_more_set room end x within)

pub length_read : (escaped : Bool) (x : ℕ) → length (read_octet escaped x) ≡ (if opens escaped x then 0 else 1)
length_read true x = refl
length_read false x = go (x == 0x7d)
  where
    go : (b : Bool) → length (if b then [] else x ∷ []) ≡ (if b then 0 else 1)
    go true = refl
    go false = refl

pub unstuffed-append : (escaped : Bool) (xs ys : List ℕ) → unstuffed escaped (xs ++ ys) ≡ unstuffed escaped xs ++ unstuffed (escaped_after escaped xs) ys
unstuffed-append escaped [] ys = refl
unstuffed-append escaped (x ∷ xs) ys =
    ap (λ zs. read_octet escaped x ++ zs) (unstuffed-append (opens escaped x) xs ys)
    ∙ sym (append_assoc (read_octet escaped x) (unstuffed (opens escaped x) xs) (unstuffed (escaped_after (opens escaped x) xs) ys))

pub escaped_after-append : (escaped : Bool) (xs ys : List ℕ) → escaped_after escaped (xs ++ ys) ≡ escaped_after (escaped_after escaped xs) ys
escaped_after-append escaped [] ys = refl
escaped_after-append escaped (x ∷ xs) ys = escaped_after-append (opens escaped x) xs ys

-- no octet is read as two
pub length-unstuffed : (escaped : Bool) (xs : List ℕ) → length (unstuffed escaped xs) ≤ length xs
length-unstuffed escaped [] = omega arith
length-unstuffed escaped (x ∷ xs) =
    let one = at_most_one (opens escaped x) in
    let more = length-unstuffed (opens escaped x) xs in
    omega (arith, length-append (read_octet escaped x) (unstuffed (opens escaped x) xs), length_read escaped x)
  where
    at_most_one : (b : Bool) → (if b then 0 else 1) ≤ 1
    at_most_one true = omega arith
    at_most_one false = omega arith

-- ---- the relation

five_e : (map x : ℕ) → must_escape map x ≡ true → bit_xor x 0x20 ≡ 0x7e → ⊥
unfolding must_escape
five_e map x must same =
    let is : x ≡ 0x5e = sym (xor_again x 0x20) ∙ ap (λ y. bit_xor y 0x20) same in
    absurd (true≢false (sym must ∙ ap (must_escape map) is))

-- what a sender writes stands for what it was given
pub escapes_stuffed : (map : ℕ) (xs : List ℕ) → Escapes xs (stuffed map xs)
escapes_stuffed map [] = refl
escapes_stuffed map (x ∷ xs) = go (escapes_stuffed map xs) (must_escape map x) refl
  where
    go : Escapes xs (stuffed map xs) → (b : Bool) → must_escape map x ≡ b → Escapes (x ∷ xs) (stuffed map (x ∷ xs))
    go more true e = (stuffed map xs, inr (five_e map x e, rw e), more)
    go more false e =
        (stuffed map xs, inl (eqb-false _ _ (plain_octet map x e).0, eqb-false _ _ (plain_octet map x e).1, rw e), more)

-- what stands in a piece is what a reader finds there
pub escapes_read : (xs ys : List ℕ) → Escapes xs ys → (unstuffed false ys ≡ xs) × (escaped_after false ys ≡ false)
escapes_read [] ys none = (ap (unstuffed false) none, ap (escaped_after false) none)
escapes_read (x ∷ xs) ys (rest, stands, more) = go (escapes_read xs rest more) stands
  where
    go : (unstuffed false rest ≡ xs) × (escaped_after false rest ≡ false) → StandsFor x ys rest → (unstuffed false ys ≡ x ∷ xs) × (escaped_after false ys ≡ false)
    go found (inl (plain, other, is)) =
        let test = ne_eqb x 0x7d plain in
        (ap (unstuffed false) is ∙ rw test (ap (λ zs. x ∷ zs) found.0), ap (escaped_after false) is ∙ rw test found.1)
    go found (inr (other, is)) =
        (ap (unstuffed false) is ∙ rw (xor_again x 0x20) (ap (λ zs. x ∷ zs) found.0), ap (escaped_after false) is ∙ found.1)

-- what a reader finds in octets without a flag stands there
record FoundStands (ys : List ℕ) : Type 0 where
  here : escaped_after false ys ≡ false → Escapes (unstuffed false ys) ys
  behind : escaped_after true ys ≡ false → Escapes (unstuffed true ys) (0x7d ∷ ys)

found_stands : (ys : List ℕ) → HasNoFlag ys → FoundStands ys
found_stands [] none = record { here = λ plain. refl; behind = λ plain. absurd (true≢false plain) }
found_stands (y ∷ ys) none = go (found_stands ys none.1) (y == 0x7d) refl
  where
    behind_it : FoundStands ys → escaped_after false ys ≡ false → Escapes (bit_xor y 0x20 ∷ unstuffed false ys) (0x7d ∷ y ∷ ys)
    behind_it more plain =
        (ys, inr (rw (xor_again y 0x20) none.0, rw (xor_again y 0x20)), more.here plain)

    go : FoundStands ys → (b : Bool) → (y == 0x7d) ≡ b → FoundStands (y ∷ ys)
    go more true e = record {
      here = λ plain. rw e (
          subst (λ z. Escapes (unstuffed true ys) (z ∷ ys)) (sym (eqb-true y 0x7d e)) (more.behind (rw e at plain)));
      behind = λ plain. behind_it more plain;
    }
    go more false e = record {
      here = λ plain. rw e (ys, inl (eqb-false y 0x7d e, none.0, refl), more.here (rw e at plain));
      behind = λ plain. behind_it more plain;
    }

pub read_escapes : (ys : List ℕ) → HasNoFlag ys → escaped_after false ys ≡ false → Escapes (unstuffed false ys) ys
read_escapes ys none plain = (found_stands ys none).here plain

-- octets without an escape are read as they are
pub record ReadsPlain (xs : List ℕ) : Type 0 where
  pub same : unstuffed false xs ≡ xs
  pub after : escaped_after false xs ≡ false

pub reads_plain : (xs : List ℕ) → list_any is_escape xs ≡ false → ReadsPlain xs
reads_plain [] none = record { same = refl; after = refl }
reads_plain (x ∷ xs) none =
    let parts : ((x == 0x7d) ≡ false) × (list_any is_escape xs ≡ false) = or_parts _ _ none in
    let plain : (x == 0x7d) ≡ false = parts.0 in
    let more = reads_plain xs parts.1 in
    record { same = rw plain (ap (λ ys. x ∷ ys) more.same); after = rw plain more.after }

-- octets in two parts
whole_again : (n : ℕ) (run block more : List ℕ) → block ≡ take n run → more ≡ drop n run → run ≡ block ++ more
whole_again n run block more front back = sym (take-append-drop n run) ∙ sym (λ i. front i ++ back i)

pub unstuffed_parts : (escaped : Bool) (n : ℕ) (run block more : List ℕ) → block ≡ take n run → more ≡ drop n run → unstuffed escaped run ≡ unstuffed escaped block ++ unstuffed (escaped_after escaped block) more
unstuffed_parts escaped n run block more front back =
    ap (unstuffed escaped) (whole_again n run block more front back) ∙ unstuffed-append escaped block more

pub escaped_parts : (escaped : Bool) (n : ℕ) (run block more : List ℕ) → block ≡ take n run → more ≡ drop n run → escaped_after escaped run ≡ escaped_after (escaped_after escaped block) more
escaped_parts escaped n run block more front back =
    ap (escaped_after escaped) (whole_again n run block more front back) ∙ escaped_after-append escaped block more

-- ---- octets that stand for themselves

plain_octet_by : (map x : ℕ) → is_special (if map == 0 then 0 else 0x20) x ≡ false → must_escape map x ≡ false
unfolding must_escape
plain_octet_by map x none = go (map == 0) refl
  where
    parts : ((x == 0x7d || x == 0x7e) ≡ false) × (nat_lt x (if map == 0 then 0 else 0x20) ≡ false)
    parts = or_parts _ _ none

    go : (b : Bool) → (map == 0) ≡ b → must_escape map x ≡ false
    go true e =
        let bit : (bit_at map x == 1) ≡ false = ap (λ m. bit_at m x == 1) (eqb-true map 0 e) ∙ ap (λ b. b == 1) (bit_at-zero x) in
        or_from (x == 0x7d || x == 0x7e) (nat_lt x 0x20 && bit_at map x == 1) parts.0 (and_right _ _ bit)
    go false e =
        let above : nat_lt x 0x20 ≡ false = rw e at parts.1 in
        or_from (x == 0x7d || x == 0x7e) (nat_lt x 0x20 && bit_at map x == 1) parts.0 (and_left _ _ above)

pub stuffed_plain : (map : ℕ) (xs : List ℕ) → list_any (is_special (if map == 0 then 0 else 0x20)) xs ≡ false → stuffed map xs ≡ xs
stuffed_plain map [] none = refl
stuffed_plain map (x ∷ xs) none =
    let parts : (is_special (if map == 0 then 0 else 0x20) x ≡ false) × (list_any (is_special (if map == 0 then 0 else 0x20)) xs ≡ false) =
    or_parts _ _ none in
    let plain = plain_octet_by map x parts.0 in
    rw plain (ap (λ ys. x ∷ ys) (stuffed_plain map xs parts.1))

pub stuffed_parts : (map n : ℕ) (octets block more : List ℕ) → block ≡ take n octets → more ≡ drop n octets → stuffed map octets ≡ stuffed map block ++ stuffed map more
stuffed_parts map n octets block more front back =
    ap (stuffed map) (whole_again n octets block more front back) ∙ flat_map-append (spelled map) block more
