-- Facts on numbers in octets, and on those that are drawn.
use Rattle.std.proofs.Common.{◌≡◌, ◌≢◌, ℕ, ◌^◌, ◌<◌, ◌≤◌, true, arith}
use Rattle.std.proofs.lemmas.Bool.Decides.{nat_tests}
use Rattle.ppp_packet.specs.Packet.{two_octets}
use Rattle.ppp_auto.specs.Taken.{four_octets}
use Rattle.ppp_options.specs.Number.{number, eight_octets, is_within, is_free, is_new, pick, pick64}

pub number-two_octets : (n : ℕ) → n < 2 ^ 16 → number (two_octets n) ≡ n
number-two_octets n h = omega arith

pub number-four_octets : (n : ℕ) → n < 2 ^ 32 → number (four_octets n) ≡ n
number-four_octets n h = omega arith

pub number-eight_octets : (n : ℕ) → n < 2 ^ 64 → number (eight_octets n) ≡ n
number-eight_octets n h = omega arith

pub two_octets-within : (least most n : ℕ) → n < 2 ^ 16 → least ≤ n → n ≤ most → is_within 2 least most (two_octets n) ≡ true
two_octets-within least most n h low high = let same = number-two_octets n h in grind (arith, nat_tests)

-- a drawn number is never 0, never the one to avoid, and below its bound
pub pick-not_zero : (word avoid : ℕ) → pick word avoid ≢ 0
unfolding pick
pick-not_zero word avoid = grind (arith, nat_tests)

pub pick-other : (word avoid : ℕ) → pick word avoid ≢ avoid
unfolding pick
pick-other word avoid = grind (arith, nat_tests)

pub pick-below : (word avoid : ℕ) → pick word avoid < 2 ^ 32
unfolding pick
pick-below word avoid = grind (arith, nat_tests)

pub pick64-not_zero : (word avoid : ℕ) → pick64 word avoid ≢ 0
unfolding pick64
pick64-not_zero word avoid = grind (arith, nat_tests)

pub pick64-other : (word avoid : ℕ) → pick64 word avoid ≢ avoid
unfolding pick64
pick64-other word avoid = grind (arith, nat_tests)

pub pick64-below : (word avoid : ℕ) → pick64 word avoid < 2 ^ 64
unfolding pick64
pick64-below word avoid = grind (arith, nat_tests)

new-of : (n avoid found : ℕ) → found ≡ n → n ≢ 0 → n ≢ avoid → is_free avoid found ≡ true
new-of n avoid found same a b = grind (arith, nat_tests)

-- so its octets are a new number
pub pick-new : (word avoid : ℕ) → is_new 4 avoid (four_octets (pick word avoid)) ≡ true
pick-new word avoid =
    let a = pick-not_zero word avoid in let b = pick-other word avoid in
    let same = number-four_octets (pick word avoid) (pick-below word avoid) in
    new-of (pick word avoid) avoid (number (four_octets (pick word avoid))) same a b

pub pick64-new : (word avoid : ℕ) → is_new 8 avoid (eight_octets (pick64 word avoid)) ≡ true
pick64-new word avoid =
    let a = pick64-not_zero word avoid in let b = pick64-other word avoid in
    let same = number-eight_octets (pick64 word avoid) (pick64-below word avoid) in
    new-of (pick64 word avoid) avoid (number (eight_octets (pick64 word avoid))) same a b
