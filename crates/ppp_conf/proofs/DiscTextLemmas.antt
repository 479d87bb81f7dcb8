-- Facts on discriminators as texts.
use Rattle.std.proofs.Common.{◌≡◌, ℕ, ◌≤◌, true, arith}
use Rattle.std.proofs.lemmas.Bool.Decides.{nat_tests}
use Rattle.ppp_packet.specs.DiscClass.{is_good_disc}

-- the Class of a good discriminator is a digit
pub class_small : (class size : ℕ) → is_good_disc class size ≡ true → class ≤ 5
class_small class size good = grind (arith, nat_tests)
