use Rattle.std.proofs.Common.{refl}
use Rattle.ppp_conf.specs.HexText.{hex_octets}
use Rattle.ppp_conf.proofs.HexTextLemmas.{IsRead-decoded}
use Rattle.ppp_conf.proofs.hex_text.read_octets.Goals as goal

pub returns-then-has_lower_digits : goal.returns-then-has_lower_digits
unfolding hex_octets
returns-then-has_lower_digits c =
    rw (← c.has_lower_digits.ensures, c.if-has_lower_digits.true, c.is_ok.ensures.value)
    (IsRead-decoded _ c.decode_to_slice.result c.decode_to_slice.new.out c.decode_to_slice.ensures.value)

pub returns-else-has_lower_digits : goal.returns-else-has_lower_digits
unfolding hex_octets
returns-else-has_lower_digits c = rw (← c.has_lower_digits.ensures, c.if-has_lower_digits.false) refl
