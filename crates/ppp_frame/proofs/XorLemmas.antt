-- Sums of bits, in other orders.
use Rattle.std.proofs.Common.{◌≡◌, ℕ, ap, sym, ◌∙◌, bit_xor}
use Rattle.std.specs.Int.Bits.{xor_assoc, xor_self, xor_zero_l, xor_zero_r}
use Rattle.std.proofs.lemmas.Nat.{xor_comm}

pub xor_cross : (a b c d : ℕ) → bit_xor (bit_xor a b) (bit_xor c d) ≡ bit_xor (bit_xor a c) (bit_xor b d)
xor_cross a b c d =
    xor_assoc a b (bit_xor c d)
    ∙ ap (bit_xor a) (sym (xor_assoc b c d) ∙ ap (λ x. bit_xor x d) (xor_comm b c) ∙ xor_assoc c b d)
    ∙ sym (xor_assoc a c (bit_xor b d))

-- what is added twice is gone
pub xor_again : (a b : ℕ) → bit_xor (bit_xor a b) b ≡ a
xor_again a b = xor_assoc a b b ∙ ap (bit_xor a) (xor_self b) ∙ xor_zero_r a

-- only equal numbers add up to 0
pub same_from_xor : (a b : ℕ) → bit_xor a b ≡ 0 → a ≡ b
same_from_xor a b none = sym (xor_again a b) ∙ ap (λ x. bit_xor x b) none ∙ xor_zero_l b
