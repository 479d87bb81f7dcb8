-- The fragments of a packet on the wire, and their numbers.
use Rattle.std.proofs.Common.{◌≡◌, ℕ, zero, suc, ◌+◌, ◌-◌, ◌*◌, ◌%◌, ◌<◌, ◌≤◌, ◌⊎◌, inl, inr, Bool, true, false, List, [], ◌∷◌, ◌++◌, length, take, drop, map, refl, ap, ◌∙◌, arith, length-append, append_assoc, length-take, length-drop}
use Rattle.std.specs.Prelude.{◌==◌}
use Rattle.std.proofs.lemmas.Bool.{cases_lt, le-leb, lt-leb, ne_eqb}
use Rattle.std.proofs.lemmas.List.{drop-drop, length-map}
use Rattle.std.proofs.Math.Nat.{add-mul, le-mul_of_pos_right, mul-le-mul_right}
use Rattle.std.specs.List.{AllByRecursion}
use Rattle.ppp_mp.specs.Batch.{Packet, sizes_in}
use Rattle.ppp_mp.specs.FragmentOut.{all_octets, octets_of}
use Rattle.ppp_mp.specs.Fragmenter.{IsFragmenter, framed_from}
use Rattle.ppp_mp.specs.Fragments.{Fragment, fragments_of, pieces}
use Rattle.ppp_mp.specs.Header.{header_octets, space_of}
use Rattle.ppp_mp.specs.declared.header.Header.{Header}

pub reduced-fit : (short : Bool) (numbers : List ℕ) → AllByRecursion (λ n. n < space_of short) (map (λ n. n % space_of short) numbers)
reduced-fit short [] = tt
reduced-fit true (n ∷ ns) = (omega arith, reduced-fit true ns)
reduced-fit false (n ∷ ns) = (omega arith, reduced-fit false ns)

pub all-octets : (ps : List Packet) → all_octets (map octets_of ps) ≡ sizes_in ps
all-octets [] = refl
all-octets (p ∷ ps) = ap (λ n. length p.octets + n) (all-octets ps)

pub header-size : (short : Bool) (h : Header) → length (header_octets short h) ≤ 4
header-size true h = omega arith
header-size false h = omega arith

pub reduced-is : (short : Bool) (numbers reduced : List ℕ) (space : ℕ) → space ≡ space_of short → reduced ≡ map (λ n. n % space) numbers → length numbers ≡ 16 → IsFragmenter (record { short = short; numbers = reduced })
reduced-is short numbers reduced space e is size =
    let all : reduced ≡ map (λ n. n % space_of short) numbers = is ∙ ap (λ (s : ℕ). map (λ n. n % s) numbers) e in
    rw all (record { size = length-map numbers (λ n. n % space_of short) ∙ size; fit = reduced-fit short numbers })

-- ---- cutting

module _ (short : Bool) (class first size : ℕ) (packet : List ℕ) where
  -- what is cut of a packet
  pub record IsCutting (out : List (List ℕ)) (at number : ℕ) : Type 0 where
    pub placed : at ≡ length out * size
    pub before : at < length packet
    pub number_is : number ≡ (first + length out) % space_of short
    pub room : all_octets out ≤ at + 4 * length out
    pub rest : out ++ framed_from short class (first + length out) (pieces (length packet - length out) size (at == 0) (drop at packet)) ≡ framed_from short class first (fragments_of size packet)

pub few-cut : (size count at len : ℕ) → at ≡ count * size → at < len → len ≤ 256 * size → (count < 256) × (count < len)
few-cut size count at len is before most = (few (cases_lt count 256), less (le-mul_of_pos_right count (some size)))
  where
    some : (s : ℕ) → 0 < size
    some s = omega arith

    few : (count < 256) ⊎ (256 ≤ count) → count < 256
    few (inl h) = h
    few (inr h) = let more = mul-le-mul_right {m = 256} {n = count} size h in absurd (omega arith)

    less : count ≤ count * size → count < len
    less h = omega arith

last-piece : (most size : ℕ) (begins : Bool) (octets : List ℕ) → length octets ≤ size → pieces most size begins octets ≡ record { begins = begins; ends = true; payload = octets } ∷ []
last-piece zero size begins octets low = refl
last-piece (suc most) size begins octets low = rw (le-leb (length octets) size low) refl

more-pieces : (most size : ℕ) (begins : Bool) (octets : List ℕ) → size < length octets → 0 < most → pieces most size begins octets ≡ record { begins = begins; ends = false; payload = take size octets } ∷ pieces (most - 1) size false (drop size octets)
more-pieces zero size begins octets low some = absurd (omega arith)
more-pieces (suc most) size begins octets low some =
    let less : suc most - 1 ≡ most = omega arith in
    rw (lt-leb (length octets) size low, less) refl

all-snoc : (out : List (List ℕ)) (x : List ℕ) → all_octets (out ++ x ∷ []) ≡ all_octets out + length x
all-snoc [] x = omega arith
all-snoc (y ∷ out) x = let rest = all-snoc out x in omega arith

pub framed-length : (short : Bool) (class n : ℕ) (fs : List Fragment) → length (framed_from short class n fs) ≡ length fs
framed-length short class n [] = refl
framed-length short class n (f ∷ fs) = ap suc (framed-length short class (suc n) fs)

wrapped : (short : Bool) (a b : ℕ) → b ≡ a + 1 → (a % space_of short + 1) % space_of short ≡ b % space_of short
wrapped true a b e = omega arith
wrapped false a b e = omega arith

-- a piece more
pub cut-more : (short : Bool) (class first size : ℕ) (packet : List ℕ) (out : List (List ℕ)) (at number : ℕ) → length packet ≤ 256 * size → size < length packet - at → IsCutting short class first size packet out at number →
    IsCutting short class first size packet (out ++ (header_octets short (record { begin = at == 0; end = false; class = class; number = number }) ++ take size (drop at packet)) ∷ []) (at + size) ((number + 1) % space_of short)
cut-more short class first size packet out at number most more h =
    let few = few-cut size (length out) at (length packet) h.placed h.before most in
    let piece : List ℕ = header_octets short (record { begin = at == 0; end = false; class = class; number = number }) ++ take size (drop at packet) in
    let count : length (out ++ piece ∷ []) ≡ length out + 1 = omega (arith, length-append out (piece ∷ [])) in
    let head = header-size short (record { begin = at == 0; end = false; class = class; number = number }) in
    let whole = length-append (header_octets short (record { begin = at == 0; end = false; class = class; number = number })) (take size (drop at packet)) in
    let part = length-take size (drop at packet) in
    let behind = length-drop at packet in
    let cut = more-pieces (length packet - length out) size (at == 0) (drop at packet) (omega arith) (omega arith) in
    let flag : (at + size == 0) ≡ false = ne_eqb (at + size) 0 (λ e. omega arith) in
    let dropped : drop size (drop at packet) ≡ drop (at + size) packet = drop-drop size at packet in
    let fuel : length packet - length out - 1 ≡ length packet - (length out + 1) = omega arith in
    let up : suc (first + length out) ≡ first + (length out + 1) = omega arith in
    record {
      placed = rw count (omega (arith, h.placed, add-mul (length out) 1 size));
      before = omega arith;
      number_is = rw (count, h.number_is) (wrapped short (first + length out) (first + (length out + 1)) (omega arith));
      room = rw count (omega (arith, all-snoc out piece, h.room));
      rest =
          rw (count, flag, append_assoc out (piece ∷ []) (framed_from short class (first + (length out + 1)) (pieces (length packet - (length out + 1)) size false (drop (at + size) packet))), ← dropped, ← fuel, ← up, h.number_is)
          (rw cut at h.rest);
    }

-- the last piece
pub cut-last : (short : Bool) (class first size : ℕ) (packet : List ℕ) (out : List (List ℕ)) (at number : ℕ) → length packet - at ≤ size → IsCutting short class first size packet out at number →
    out ++ (header_octets short (record { begin = at == 0; end = true; class = class; number = number }) ++ drop at packet) ∷ [] ≡ framed_from short class first (fragments_of size packet)
cut-last short class first size packet out at number low h =
    let behind = length-drop at packet in
    let cut = last-piece (length packet - length out) size (at == 0) (drop at packet) (omega arith) in
    rw h.number_is (rw cut at h.rest)

-- the number that comes after the last piece
pub number-after : (short : Bool) (class first size number : ℕ) (out : List (List ℕ)) (x packet : List ℕ) → number ≡ (first + length out) % space_of short → out ++ x ∷ [] ≡ framed_from short class first (fragments_of size packet) →
    (number + 1) % space_of short ≡ (first + length (fragments_of size packet)) % space_of short
number-after short class first size number out x packet is all =
    let sizes : length out + 1 ≡ length (fragments_of size packet) = omega (arith, length-append out (x ∷ []), ap length all, framed-length short class first (fragments_of size packet)) in
    rw is (wrapped short (first + length out) (first + length (fragments_of size packet)) (omega arith))
