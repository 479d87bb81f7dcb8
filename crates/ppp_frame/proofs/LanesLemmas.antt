-- Eight octets at once, read as octets one by one.
use Rattle.std.proofs.Common.{◌≡◌, if◌then◌else◌, ℕ, zero, suc, ◌+◌, ◌-◌, ◌*◌, ◌/◌, ◌%◌, ◌^◌, ◌<◌, ◌≤◌, Bool, true, false, List, [], ◌∷◌, ◌++◌, ◌&&◌, length, get_or, take, map, replicate, refl, ap, sym, subst, ◌∙◌, arith, bit_xor, bit_and, cond, eqb, leb, not, w8, length-append, le-leb}
use Rattle.std.specs.Prelude.{⊤}
use Rattle.std.specs.Int.Bits.{xor_zero_r}
use Rattle.std.specs.Int.RustNames.{count_ones}
use Rattle.std.specs.List.{range_with_len}
use Rattle.std.proofs.Math.Seq.{take-append_seam, take-append-add}
use Rattle.std.proofs.lemmas.Nat.{and_shr, and_mod}
use Rattle.std.proofs.lemmas.Bool.{lt-leb, leb-true, leb-false}
use Rattle.std.proofs.lemmas.List.{ext_get_or, length-take-le, take-take, take-map, map-append, length-map}
use Rattle.std.proofs.lemmas.List.FromFn.{length-map-range_with_len, get_or-map-range_with_len}
use Rattle.std.proofs.lemmas.Simd.{mask_l-lt, swz_l, SwzOk, SwzOk-from_below, pick_l-range_with_len, ones-mask_l, ones-mask_l_cons, length-replicate, take_more_put_chunk}
use Rattle.std.specs.Simd.Lanes.{Each1, zip2, chunk, put_chunk, pick_l, sel_l, mask_l}
use Rattle.ppp_frame.specs.declared.place_table.TheConstants.{PLACES}
use Rattle.ppp_frame.specs.Escapes.{is_escape, opens, unstuffed, escaped_after}
use Rattle.ppp_frame.specs.Lanes.{turned, unmarked, low_bits, remaining_places, row_of}

-- ---- lists written out

abbrev listed : (ℕ → ℕ) → ℕ → List ℕ
listed f n = map f (range_with_len 0 n)

-- a fact of each list of n numbers, from the same of n numbers written out
spelled : (P : List ℕ → Type 0) (n : ℕ) → ((f : ℕ → ℕ) → P (listed f n)) → (xs : List ℕ) → length xs ≡ n → P xs
spelled P n h xs long =
    let f = λ (k : ℕ). get_or xs k 0 in
    let many = length-map-range_with_len f 0 n in
    subst P (ext_get_or 0 _ xs (many ∙ sym long) (λ i l. get_or-map-range_with_len f 0 n i i 0 (omega arith) (omega arith))) (h f)

abbrev toggle : Bool → ℕ
toggle escaped = if escaped then 0x20 else 0

-- a vector's octets, changed by the vector of what changes them, one lane further
pub turned_is : (escaped : Bool) (xs : List ℕ) → length xs ≡ 16 → zip2 bit_xor xs (pick_l 0 (replicate 16 (toggle escaped) ++ sel_l (zip2 eqb xs (replicate 16 0x7d)) (replicate 16 0x20) (replicate 16 0)) (range_with_len 15 16)) ≡ turned escaped xs
turned_is escaped =
    spelled (λ xs. zip2 bit_xor xs (pick_l 0 (replicate 16 (toggle escaped) ++ sel_l (zip2 eqb xs (replicate 16 0x7d)) (replicate 16 0x20) (replicate 16 0)) (range_with_len 15 16)) ≡ turned escaped xs) 16 (λ f. refl)

-- ---- the places that are left

length-unmarked-le : (marks : List Bool) (xs : List ℕ) → length (unmarked marks xs) ≤ length xs
length-unmarked-le [] xs = omega arith
length-unmarked-le (mark ∷ marks) [] = omega arith
length-unmarked-le (true ∷ marks) (x ∷ xs) = let more = length-unmarked-le marks xs in omega arith
length-unmarked-le (false ∷ marks) (x ∷ xs) = let more = length-unmarked-le marks xs in omega arith

map-unmarked : (f : ℕ → ℕ) (marks : List Bool) (xs : List ℕ) → map f (unmarked marks xs) ≡ unmarked marks (map f xs)
map-unmarked f [] xs = refl
map-unmarked f (mark ∷ marks) [] = refl
map-unmarked f (true ∷ marks) (x ∷ xs) = map-unmarked f marks xs
map-unmarked f (false ∷ marks) (x ∷ xs) = ap (λ ys. f x ∷ ys) (map-unmarked f marks xs)

Each1-unmarked : (P : ℕ → Type 0) (marks : List Bool) (xs : List ℕ) → Each1 P xs → Each1 P (unmarked marks xs)
Each1-unmarked P [] xs each = tt
Each1-unmarked P (mark ∷ marks) [] each = tt
Each1-unmarked P (true ∷ marks) (x ∷ xs) each = Each1-unmarked P marks xs each.1
Each1-unmarked P (false ∷ marks) (x ∷ xs) each = (each.0, Each1-unmarked P marks xs each.1)

Each1-append : (P : ℕ → Type 0) (xs ys : List ℕ) → Each1 P xs → Each1 P ys → Each1 P (xs ++ ys)
Each1-append P [] ys first second = second
Each1-append P (x ∷ xs) ys first second = (first.0, Each1-append P xs ys first.1 second)

Each1-zeros : (n : ℕ) → Each1 (λ j. j < 16) (replicate n 0)
Each1-zeros zero = tt
Each1-zeros (suc n) = (omega arith, Each1-zeros n)

-- the table's rows
pub row_is : (m : ℕ) (none : List ℕ) → m < 256 → get_or PLACES m none ≡ row_of m
row_is m none within =
    let table : map row_of (range_with_len 0 256) ≡ PLACES = refl in
    sym (ap (λ rows. get_or rows m none) table) ∙ get_or-map-range_with_len row_of 0 256 m m none within (omega arith)

few_remain : (m : ℕ) → length (remaining_places m) ≤ 8
few_remain m = length-unmarked-le (low_bits 8 m) (range_with_len 0 8)

pub length-row_of : (m : ℕ) → length (row_of m) ≡ 8
length-row_of m =
    let few = few_remain m in
    omega (arith, length-append (remaining_places m) (replicate (8 - length (remaining_places m)) 0), length-replicate {A = ℕ} (8 - length (remaining_places m)) 0)

places_below : (m : ℕ) → Each1 (λ j. j < 16) (row_of m)
places_below m =
    Each1-append (λ j. j < 16) (remaining_places m) (replicate (8 - length (remaining_places m)) 0)
    (Each1-unmarked (λ j. j < 16) (low_bits 8 m) (range_with_len 0 8) (omega arith, (omega arith, (omega arith, (omega arith, (omega arith, (omega arith, (omega arith, (omega arith, tt)))))))))
    (Each1-zeros (8 - length (remaining_places m)))

places_ok : (m : ℕ) → Each1 (λ j. j < 16) (row_of m ++ replicate 8 0)
places_ok m = Each1-append (λ j. j < 16) (row_of m) (replicate 8 0) (places_below m) (Each1-zeros 8)

pub row_fits : (m : ℕ) (lanes : List ℕ) → lanes ≡ row_of m ++ replicate 8 0 → SwzOk w8 16 16 0 lanes
row_fits m lanes is =
    SwzOk-from_below w8 16 1 16 0 lanes refl (omega (arith, ap length is, length-append (row_of m) (replicate 8 0), length-row_of m))
    (subst (Each1 (λ j. j < 16)) (sym is) (places_ok m))

-- lanes at places below 16
swz_map : (xs : List ℕ) (i : ℕ) (js : List ℕ) → i + length js ≤ 16 → Each1 (λ j. j < 16) js → swz_l w8 16 xs i js ≡ map (λ j. get_or xs j 0) js
swz_map xs i [] within below = refl
swz_map xs i (j ∷ js) within below =
    let low : leb 128 j ≡ false = lt-leb 128 j (omega (arith, below.0)) in
    let block : 16 * (i / 16) + j ≡ j = omega arith in
    rw (low, block) (ap (λ ys. get_or xs j 0 ∷ ys) (swz_map xs (suc i) js (omega arith) below.1))

pub remaining_is : (m : ℕ) (xs lanes : List ℕ) → lanes ≡ row_of m ++ replicate 8 0 → chunk 0 8 (swz_l w8 16 xs 0 lanes) ≡ map (λ k. get_or xs k 0) (row_of m)
remaining_is m xs lanes is =
    ap (λ js. take 8 (swz_l w8 16 xs 0 js)) is
    ∙ ap (take 8) (swz_map xs 0 (row_of m ++ replicate 8 0) (omega (arith, length-append (row_of m) (replicate 8 0), length-row_of m)) (places_ok m))
    ∙ take-map (λ k. get_or xs k 0) 8 (row_of m ++ replicate 8 0)
    ∙ ap (map (λ k. get_or xs k 0)) (
    ap (λ n. take n (row_of m ++ replicate 8 0)) (sym (length-row_of m)) ∙ take-append_seam (row_of m) (replicate 8 0))

-- ---- the bits that say which octets are escapes

mask_pad : (marks : List Bool) (n : ℕ) → mask_l (marks ++ replicate n false) ≡ mask_l marks
mask_pad [] zero = refl
mask_pad [] (suc n) = let more = mask_pad [] n in omega arith
mask_pad (mark ∷ marks) n = ap (λ m. cond mark 1 0 + 2 * m) (mask_pad marks n)

low_bits-mask_l : (marks : List Bool) → low_bits (length marks) (mask_l marks) ≡ marks
low_bits-mask_l [] = refl
low_bits-mask_l (true ∷ marks) =
    let odd : (1 + 2 * mask_l marks) % 2 ≡ 1 = omega arith in
    let half : (1 + 2 * mask_l marks) / 2 ≡ mask_l marks = omega arith in
    rw (odd, half) (ap (λ bs. true ∷ bs) (low_bits-mask_l marks))
low_bits-mask_l (false ∷ marks) =
    let even : (0 + 2 * mask_l marks) % 2 ≡ 0 = omega arith in
    let half : (0 + 2 * mask_l marks) / 2 ≡ mask_l marks = omega arith in
    rw (even, half) (ap (λ bs. false ∷ bs) (low_bits-mask_l marks))

-- no escape stands behind an escape
abbrev pub Single : Bool → List ℕ → Type 0
Single escaped [] = ⊤
Single escaped (x ∷ xs) = ((escaped && is_escape x) ≡ false) × Single (is_escape x) xs

apart : (a b : Bool) → bit_and (cond a 1 0) (cond b 1 0) ≡ 0 → (b && a) ≡ false
apart true true none = absurd (omega arith)
apart true false none = refl
apart false true none = refl
apart false false none = refl

below_two : (b : Bool) → cond b 1 0 < 2
below_two true = omega arith
below_two false = omega arith

single_step : (e b : Bool) (m t : ℕ) → t ≡ 2 * (cond b 1 0 + 2 * m) + cond e 1 0 → bit_and (cond b 1 0 + 2 * m) t ≡ 0 → ((e && b) ≡ false) × (bit_and m (2 * m + cond b 1 0) ≡ 0)
single_step e b m t is none =
    let first = below_two b in
    let before = below_two e in
    let all = cond b 1 0 + 2 * m in
    let high : bit_and (all / 2) (t / 2) ≡ 0 = sym (and_shr all t 1) ∙ ap (λ n. n / 2) none in
    let low : bit_and (all % 2) (t % 2) ≡ 0 = sym (and_mod all t 1) ∙ ap (λ n. n % 2) none in
    let rest : all / 2 ≡ m = omega arith in
    let more : t / 2 ≡ 2 * m + cond b 1 0 = omega arith in
    let bit : all % 2 ≡ cond b 1 0 = omega arith in
    let carried : t % 2 ≡ cond e 1 0 = omega arith in
    (apart b e (rw (bit, carried) at low), rw (rest, more) at high)

single_from : (escaped : Bool) (xs : List ℕ) (t : ℕ) → t ≡ 2 * mask_l (map is_escape xs) + cond escaped 1 0 → bit_and (mask_l (map is_escape xs)) t ≡ 0 → Single escaped xs
single_from escaped [] t is none = tt
single_from escaped (x ∷ xs) t is none =
    let step = single_step escaped (is_escape x) (mask_l (map is_escape xs)) t is none in
    (step.0, single_from (is_escape x) xs _ refl step.1)

-- ---- what is read

-- every escape goes, and each octet behind one is changed
single_read : (escaped : Bool) (xs : List ℕ) → Single escaped xs → unstuffed escaped xs ≡ unmarked (map is_escape xs) (turned escaped xs)
single_read escaped [] single = refl
single_read true (x ∷ xs) single =
    let plain : is_escape x ≡ false = single.0 in
    rw plain (ap (λ ys. bit_xor x 0x20 ∷ ys) (single_read false xs (subst (λ b. Single b xs) plain single.1)))
single_read false (x ∷ xs) single = go (is_escape x) refl (single_read (is_escape x) xs single.1)
  where
    go : (b : Bool) → is_escape x ≡ b → unstuffed (is_escape x) xs ≡ unmarked (map is_escape xs) (turned (is_escape x) xs) → unstuffed false (x ∷ xs) ≡ unmarked (map is_escape (x ∷ xs)) (turned false (x ∷ xs))
    go true e more = rw e (rw e at more)
    go false e more = rw (e, xor_zero_r x) (ap (λ ys. x ∷ ys) (rw e at more))

leb_double : (a b c : ℕ) → c < 2 → leb (2 * a) (2 * b + c) ≡ leb a b
leb_double a b c few = go (leb a b) refl
  where
    go : (l : Bool) → leb a b ≡ l → leb (2 * a) (2 * b + c) ≡ l
    go true e = let le = leb-true a b e in le-leb _ _ (omega arith)
    go false e = let lt = leb-false a b e in lt-leb _ _ (omega arith)

-- the last octet is an escape
single_after : (escaped : Bool) (xs : List ℕ) → Single escaped xs → escaped_after escaped xs ≡ leb (2 ^ length xs) (2 * mask_l (map is_escape xs) + cond escaped 1 0)
single_after true [] single = refl
single_after false [] single = refl
single_after escaped (x ∷ xs) single =
    let m = mask_l (map is_escape xs) in
    let few = below_two escaped in
    let more : 2 ^ suc (length xs) ≡ 2 * 2 ^ length xs = omega arith in
    let order : cond (is_escape x) 1 0 + 2 * m ≡ 2 * m + cond (is_escape x) 1 0 = omega arith in
    let opened : opens escaped x ≡ is_escape x = opened_by escaped (is_escape x) single.0 in
    ap (λ b. escaped_after b xs) opened ∙ single_after (is_escape x) xs single.1
    ∙ ap (leb (2 ^ length xs)) (sym order)
    ∙ sym (leb_double (2 ^ length xs) (cond (is_escape x) 1 0 + 2 * m) (cond escaped 1 0) few)
    ∙ ap (λ n. leb n (2 * (cond (is_escape x) 1 0 + 2 * m) + cond escaped 1 0)) (sym more)
  where
    opened_by : (e b : Bool) → (e && b) ≡ false → (not e && b) ≡ b
    opened_by true b none = sym none
    opened_by false b none = refl

length-unmarked : (marks : List Bool) (xs : List ℕ) → length xs ≡ length marks → length (unmarked marks xs) + count_ones (mask_l marks) ≡ length marks
length-unmarked [] xs same = let none = ones-mask_l (λ (x : ℕ). true) [] in omega arith
length-unmarked (mark ∷ marks) [] same = absurd (omega arith)
length-unmarked (true ∷ marks) (x ∷ xs) same =
    let more = length-unmarked marks xs (omega arith) in
    omega (arith, ones-mask_l_cons true marks)
length-unmarked (false ∷ marks) (x ∷ xs) same =
    let more = length-unmarked marks xs (omega arith) in
    omega (arith, ones-mask_l_cons false marks)

length-turned : (escaped : Bool) (xs : List ℕ) → length (turned escaped xs) ≡ length xs
length-turned escaped [] = refl
length-turned escaped (x ∷ xs) = ap suc (length-turned (is_escape x) xs)

take-turned : (escaped : Bool) (xs ys : List ℕ) → take (length xs) (turned escaped (xs ++ ys)) ≡ turned escaped xs
take-turned escaped [] ys = refl
take-turned escaped (x ∷ xs) ys = ap (λ zs. bit_xor x (toggle escaped) ∷ zs) (take-turned (is_escape x) xs ys)

-- the zeros behind the eight octets are no escapes
mask_is : (xs : List ℕ) → mask_l (map is_escape (xs ++ replicate 8 0)) ≡ mask_l (map is_escape xs)
mask_is xs =
    ap mask_l (map-append is_escape xs (replicate 8 0)) ∙ mask_pad (map is_escape xs) 8

pub mask_small : (xs : List ℕ) (m : ℕ) → length xs ≡ 8 → m ≡ mask_l (map is_escape (xs ++ replicate 8 0)) → m < 256
mask_small xs m long is =
    let small = mask_l-lt (map is_escape xs) in
    let size : 2 ^ length (map is_escape xs) ≡ 256 = ap (λ n. 2 ^ n) (length-map xs is_escape ∙ long) in
    omega (arith, is, mask_is xs)

pub ones_few : (xs : List ℕ) (m : ℕ) → length xs ≡ 8 → m ≡ mask_l (map is_escape (xs ++ replicate 8 0)) → count_ones m ≤ 8
ones_few xs m long is =
    let marks = map is_escape xs in
    let parts = length-unmarked marks xs (sym (length-map xs is_escape)) in
    let same : count_ones m ≡ count_ones (mask_l marks) = ap count_ones (is ∙ mask_is xs) in
    omega (arith, length-map xs is_escape)

-- eight octets that were read at once
pub record ReadsEight (escaped : Bool) (xs : List ℕ) (m t : ℕ) (lanes : List ℕ) : Type 0 where
  pub size : length (unstuffed escaped xs) + count_ones m ≡ 8
  pub after : escaped_after escaped xs ≡ leb 256 t
  pub same : take (length (unstuffed escaped xs)) lanes ≡ unstuffed escaped xs

pub reads_eight : (escaped : Bool) (xs : List ℕ) (m t : ℕ) (lanes : List ℕ) → length xs ≡ 8 → m ≡ mask_l (map is_escape (xs ++ replicate 8 0)) → t ≡ 2 * m + (if escaped then 1 else 0) → bit_and m t ≡ 0 → lanes ≡ map (λ k. get_or (turned escaped (xs ++ replicate 8 0)) k 0) (row_of m) → ReadsEight escaped xs m t lanes
reads_eight escaped xs m t lanes long is double none lanes_is =
    let f : ℕ → ℕ = λ k. get_or (turned escaped (xs ++ replicate 8 0)) k 0 in
    let marks = map is_escape xs in
    let mask : m ≡ mask_l marks = is ∙ mask_is xs in
    let single : Single escaped xs = single_from escaped xs t (omega arith) (ap (λ n. bit_and n t) (sym mask) ∙ none) in
    let read : unstuffed escaped xs ≡ unmarked marks (turned escaped xs) = single_read escaped xs single in
    let bits : low_bits 8 m ≡ marks =
    ap (low_bits 8) mask ∙ ap (λ n. low_bits n (mask_l marks)) (sym (length-map xs is_escape ∙ long)) ∙ low_bits-mask_l marks in
    let wide : 8 ≤ length (turned escaped (xs ++ replicate 8 0)) =
    omega (arith, length-turned escaped (xs ++ replicate 8 0), length-append xs (replicate 8 0)) in
    let picked : map f (remaining_places m) ≡ unstuffed escaped xs =
    map-unmarked f (low_bits 8 m) (range_with_len 0 8)
    ∙ ap (λ bs. unmarked bs (map f (range_with_len 0 8))) bits
    ∙ ap (unmarked marks) (
    pick_l-range_with_len 0 (turned escaped (xs ++ replicate 8 0)) 0 8 wide
    ∙ ap (λ n. take n (turned escaped (xs ++ replicate 8 0))) (sym long) ∙ take-turned escaped xs (replicate 8 0))
    ∙ sym read in
    let size : length (unstuffed escaped xs) ≡ length (remaining_places m) = sym (ap length picked) ∙ length-map (remaining_places m) f in
    record {
      size =
          ap (λ n. length (unstuffed escaped xs) + count_ones n) mask
          ∙ ap (λ ys. length ys + count_ones (mask_l marks)) read
          ∙ length-unmarked marks (turned escaped xs) (length-turned escaped xs ∙ sym (length-map xs is_escape))
          ∙ length-map xs is_escape ∙ long;
      after =
          single_after escaped xs single
          ∙ ap (λ n. leb (2 ^ n) (2 * mask_l marks + cond escaped 1 0)) long
          ∙ ap (leb 256) (omega arith);
      same =
          ap (take (length (unstuffed escaped xs))) lanes_is
          ∙ take-map f (length (unstuffed escaped xs)) (row_of m)
          ∙ ap (λ n. map f (take n (row_of m))) size
          ∙ ap (map f) (take-append_seam (remaining_places m) (replicate (8 - length (remaining_places m)) 0))
          ∙ picked;
    }

-- eight octets are stored, of which the first n count
pub stored_part : (at n : ℕ) (room lanes read : List ℕ) → length lanes ≡ 8 → at + 8 ≤ length room → n ≤ 8 → take n lanes ≡ read → take (at + n) (put_chunk at room lanes) ≡ take at room ++ read
stored_part at n room lanes read long fits few is =
    let front : length (take at room) ≡ at = length-take-le at room (omega arith) in
    let whole : take (at + 8) (put_chunk at room lanes) ≡ take at room ++ lanes = take_more_put_chunk at room lanes (at + 8) (omega arith) fits in
    sym (take-take (at + n) (at + 8) (put_chunk at room lanes) (omega arith)) ∙ ap (take (at + n)) whole
    ∙ ap (λ k. take (k + n) (take at room ++ lanes)) (sym front) ∙ take-append-add (take at room) lanes n
    ∙ ap (λ ys. take at room ++ ys) is
