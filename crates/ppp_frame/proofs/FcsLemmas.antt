-- The check sequence: a sum of what each octet adds, and what it comes to over octets and their own check sequence.
use Rattle.std.proofs.Common.{◌≡◌, ℕ, zero, suc, ◌+◌, ◌*◌, ◌/◌, ◌%◌, ◌^◌, ◌<◌, List, [], ◌∷◌, ◌++◌, map, get_or, refl, ap, sym, ◌∙◌, arith, bit_xor}
use Rattle.std.specs.List.{range_with_len}
use Rattle.std.specs.Int.Bits.{xor_assoc, xor_self, xor_zero_r}
use Rattle.std.proofs.lemmas.Nat.{xor_comm, xor_shr, xor_mod, xor_lt}
use Rattle.std.proofs.lemmas.List.FromFn.{get_or-map-range_with_len}
use lib.Bits.{xor_shifted}
use Rattle.ppp_frame.specs.Fcs.{halved, shifted, shifted_by, fcs_run}
use Rattle.ppp_frame.proofs.XorLemmas.{xor_cross, xor_again, same_from_xor}

-- ---- a sum goes through bit by bit

bits_apart : (x y : ℕ) → x < 2 → y < 2 → bit_xor x y * 0x8408 ≡ bit_xor (x * 0x8408) (y * 0x8408)
bits_apart zero zero p q = refl
bits_apart zero (suc zero) p q = refl
bits_apart (suc zero) zero p q = refl
bits_apart (suc zero) (suc zero) p q = refl
bits_apart zero (suc (suc y)) p q = absurd (omega arith)
bits_apart (suc zero) (suc (suc y)) p q = absurd (omega arith)
bits_apart (suc (suc x)) y p q = absurd (omega arith)

halved-xor : (a b : ℕ) → halved (bit_xor a b) ≡ bit_xor (halved a) (halved b)
unfolding halved
halved-xor a b =
    let high : bit_xor a b / 2 ≡ bit_xor (a / 2) (b / 2) = xor_shr a b 1 in
    let low : bit_xor a b % 2 * 0x8408 ≡ bit_xor (a % 2 * 0x8408) (b % 2 * 0x8408) =
    ap (λ x. x * 0x8408) (xor_mod a b 1) ∙ bits_apart (a % 2) (b % 2) (omega arith) (omega arith) in
    ap (λ x. bit_xor x (bit_xor a b % 2 * 0x8408)) high
    ∙ ap (bit_xor (bit_xor (a / 2) (b / 2))) low
    ∙ xor_cross (a / 2) (b / 2) (a % 2 * 0x8408) (b % 2 * 0x8408)

pub shifted-xor : (a b : ℕ) → shifted (bit_xor a b) ≡ bit_xor (shifted a) (shifted b)
unfolding shifted
shifted-xor a b = simp halved-xor

halved-double : (m : ℕ) → halved (m * 2) ≡ m
unfolding halved
halved-double m =
    let high : m * 2 / 2 ≡ m = omega arith in
    let low : m * 2 % 2 * 0x8408 ≡ 0 = omega arith in
    ap (λ x. bit_xor x (m * 2 % 2 * 0x8408)) high ∙ ap (bit_xor m) low ∙ xor_zero_r m

-- an octet of zero only shifts
pub shifted_high : (k : ℕ) → shifted (k * 256) ≡ k
unfolding shifted
shifted_high k =
    let eight : k * 256 ≡ k * 2 * 2 * 2 * 2 * 2 * 2 * 2 * 2 = omega arith in
    rw eight (simp halved-double)

two_parts : (v : ℕ) → v ≡ bit_xor (v / 256 * 256) (v % 256)
two_parts v =
    let sum : v ≡ v / 256 * 256 + v % 256 = omega arith in
    sum ∙ sym (xor_shifted (v / 256) 8 (v % 256) (omega arith))

pub shifted_parts : (v : ℕ) → shifted v ≡ bit_xor (v / 256) (shifted (v % 256))
shifted_parts v =
    ap shifted (two_parts v) ∙ shifted-xor (v / 256 * 256) (v % 256)
    ∙ ap (λ x. bit_xor x (shifted (v % 256))) (shifted_high (v / 256))

-- an octet through a table of the low octets
pub step_is : (fcs octet : ℕ) → shifted (bit_xor fcs octet) ≡ bit_xor (fcs / 256) (shifted (bit_xor (fcs % 256) octet))
step_is fcs octet =
    shifted-xor fcs octet ∙ ap (λ x. bit_xor x (shifted octet)) (shifted_parts fcs)
    ∙ xor_assoc (fcs / 256) (shifted (fcs % 256)) (shifted octet)
    ∙ ap (bit_xor (fcs / 256)) (sym (shifted-xor (fcs % 256) octet))

head_of_eight : (p q r : ℕ) → bit_xor (bit_xor p q) r ≡ bit_xor q (bit_xor p r)
head_of_eight p q r = ap (λ x. bit_xor x r) (xor_comm p q) ∙ xor_assoc q p r

last_again : (p q s r : ℕ) → bit_xor p (bit_xor q (bit_xor s r)) ≡ bit_xor q (bit_xor s (bit_xor p r))
last_again p q s r =
    sym (xor_assoc p q _) ∙ ap (λ x. bit_xor x (bit_xor s r)) (xor_comm p q) ∙ xor_assoc q p _
    ∙ ap (bit_xor q) (sym (xor_assoc p s _) ∙ ap (λ x. bit_xor x r) (xor_comm p s) ∙ xor_assoc s p _)

-- several octets, each through a table of its own
pub eight_steps : (fcs a b c d e f g h : ℕ) → fcs_run fcs (a ∷ b ∷ c ∷ d ∷ e ∷ f ∷ g ∷ h ∷ []) ≡ bit_xor (bit_xor (shifted_by 8 (bit_xor (fcs % 256) a)) (shifted_by 7 (bit_xor (fcs / 256) b))) (bit_xor (bit_xor (bit_xor (bit_xor (bit_xor (shifted_by 6 c) (shifted_by 5 d)) (shifted_by 4 e)) (shifted_by 3 f)) (shifted_by 2 g)) (shifted_by 1 h))
eight_steps fcs a b c d e f g h =
    rw (step_is fcs a) (simp (shifted-xor, xor_assoc) (
    last_again (shifted_by 7 (fcs / 256)) (shifted_by 8 (fcs % 256)) (shifted_by 8 a) (bit_xor (shifted_by 7 b) _)))

pub four_steps : (fcs a b c d : ℕ) → fcs_run fcs (a ∷ b ∷ c ∷ d ∷ []) ≡ bit_xor (bit_xor (shifted_by 4 (bit_xor (fcs % 256) a)) (shifted_by 3 (bit_xor (fcs / 256) b))) (bit_xor (shifted_by 2 c) (shifted_by 1 d))
four_steps fcs a b c d =
    rw (step_is fcs a) (simp (shifted-xor, xor_assoc) (
    last_again (shifted_by 3 (fcs / 256)) (shifted_by 4 (fcs % 256)) (shifted_by 4 a) (bit_xor (shifted_by 3 b) _)))

pub two_steps : (fcs a b : ℕ) → fcs_run fcs (a ∷ b ∷ []) ≡ bit_xor (shifted_by 2 (bit_xor (fcs % 256) a)) (shifted_by 1 (bit_xor (fcs / 256) b))
two_steps fcs a b =
    rw (step_is fcs a) (simp (shifted-xor, xor_assoc) (
    last_again (shifted_by 1 (fcs / 256)) (shifted_by 2 (fcs % 256)) (shifted_by 2 a) (shifted_by 1 b)))

-- an entry of a table that was computed
pub get_or-table : (f : ℕ → ℕ) (table : List ℕ) (k d : ℕ) → map f (range_with_len 0 256) ≡ table → k < 256 → get_or table k d ≡ f k
get_or-table f table k d is within =
    sym (ap (λ xs. get_or xs k d) is) ∙ get_or-map-range_with_len f 0 256 k k d within (omega arith)

pub fcs_run-append : (fcs : ℕ) (xs ys : List ℕ) → fcs_run fcs (xs ++ ys) ≡ fcs_run (fcs_run fcs xs) ys
fcs_run-append fcs [] ys = refl
fcs_run-append fcs (x ∷ xs) ys = fcs_run-append (shifted (bit_xor fcs x)) xs ys

-- ---- nothing but 0 shifts to 0

halved-lt : (v : ℕ) → v < 2 ^ 16 → halved v < 2 ^ 16
unfolding halved
halved-lt v within = xor_lt 16 (v / 2) (v % 2 * 0x8408) (omega arith) (omega arith)

halved_none : (v : ℕ) → v < 2 ^ 16 → halved v ≡ 0 → v ≡ 0
unfolding halved
halved_none v within none =
    let same : v / 2 ≡ v % 2 * 0x8408 = same_from_xor (v / 2) (v % 2 * 0x8408) none in
    omega arith

shifted_none : (v : ℕ) → v < 2 ^ 16 → shifted v ≡ 0 → v ≡ 0
unfolding shifted
shifted_none v w₀ none =
    let w₁ = halved-lt v w₀ in
    let w₂ = halved-lt (halved v) w₁ in
    let w₃ = halved-lt _ w₂ in
    let w₄ = halved-lt _ w₃ in
    let w₅ = halved-lt _ w₄ in
    let w₆ = halved-lt _ w₅ in
    let w₇ = halved-lt _ w₆ in
    halved_none _ w₀ (halved_none _ w₁ (halved_none _ w₂ (halved_none _ w₃ (halved_none _ w₄ (halved_none _ w₅ (halved_none _ w₆ (halved_none _ w₇ none)))))))

pub shifted-lt : (v : ℕ) → v < 2 ^ 16 → shifted v < 2 ^ 16
unfolding shifted
shifted-lt v w₀ =
    halved-lt _ (halved-lt _ (halved-lt _ (halved-lt _ (halved-lt _ (halved-lt _ (halved-lt _ (halved-lt v w₀)))))))

same_from_shifted : (a b : ℕ) → a < 2 ^ 16 → b < 2 ^ 16 → shifted a ≡ shifted b → a ≡ b
same_from_shifted a b p q same =
    same_from_xor a b (shifted_none (bit_xor a b) (xor_lt 16 a b p q) (
    shifted-xor a b ∙ ap (λ x. bit_xor x (shifted b)) same ∙ xor_self (shifted b)))

-- ---- octets and their own check sequence behind them come to one number

-- the two octets of a check sequence at once
both_octets : (fcs low high : ℕ) → low < 256 → fcs_run fcs (low ∷ high ∷ []) ≡ shifted (shifted (bit_xor fcs (high * 256 + low)))
both_octets fcs low high within =
    ap (λ x. shifted (bit_xor (shifted (bit_xor fcs low)) x)) (sym (shifted_high high))
    ∙ ap shifted (sym (shifted-xor (bit_xor fcs low) (high * 256)))
    ∙ ap (λ x. shifted (shifted x)) (xor_assoc fcs low (high * 256) ∙ ap (bit_xor fcs) (xor_comm low (high * 256) ∙ xor_shifted high 8 low within))

-- what they come to
abbrev pub good : ℕ
good = 0xf0b8

good_is : shifted (shifted 0xffff) ≡ good
unfolding shifted halved
good_is = refl

pub good_from_check : (fcs low high : ℕ) → low < 256 → high * 256 + low ≡ bit_xor fcs 0xffff → fcs_run fcs (low ∷ high ∷ []) ≡ good
good_from_check fcs low high within is =
    both_octets fcs low high within
    ∙ ap (λ x. shifted (shifted x)) (ap (bit_xor fcs) is ∙ sym (xor_assoc fcs fcs 0xffff) ∙ ap (λ x. bit_xor x 0xffff) (xor_self fcs))
    ∙ good_is

pub check_from_good : (fcs low high : ℕ) → fcs < 2 ^ 16 → low < 256 → high < 256 → fcs_run fcs (low ∷ high ∷ []) ≡ good → high * 256 + low ≡ bit_xor fcs 0xffff
check_from_good fcs low high fits low_fits high_fits is =
    let number = high * 256 + low in
    let within : bit_xor fcs number < 2 ^ 16 = xor_lt 16 fcs number fits (omega arith) in
    let all : bit_xor fcs number ≡ 0xffff =
    same_from_shifted _ _ within (omega arith) (
    same_from_shifted _ _ (shifted-lt _ within) (shifted-lt 0xffff (omega arith)) (
    sym (both_octets fcs low high low_fits) ∙ is ∙ sym good_is)) in
    sym (xor_again number fcs) ∙ ap (λ x. bit_xor x fcs) (xor_comm number fcs ∙ all) ∙ xor_comm 0xffff fcs
