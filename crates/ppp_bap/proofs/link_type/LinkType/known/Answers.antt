use Rattle.bitflags.proofs.OnLiterals.{bitflags_on_literals}
use Rattle.std.proofs.Common.{ap}
use Rattle.ppp_bap.proofs.link_type.LinkType.known.Goals as goal

pub returns : goal.returns
unfolding bitflags_on_literals
returns c = ap (λ bits. record { 0 = bits }) (c.from_bits_truncate.ensures tt)
