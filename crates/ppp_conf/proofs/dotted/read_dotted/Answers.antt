use Rattle.std.proofs.Common.{◌∙◌, sym, ap}
use Rattle.std.specs.Prelude.{Some}
use Rattle.std.specs.Net.Addr.{ipv4_bits}
use Rattle.ppp_conf.proofs.DottedLemmas.{dotted_of-some, dotted_of-none}
use Rattle.ppp_conf.proofs.dotted.read_dotted.Goals as goal

pub returns-in-Ok : goal.returns-in-Ok
unfolding ipv4_bits
returns-in-Ok c = ap Some c.to_bits.ensures ∙ sym (dotted_of-some _ _ c.in-Ok.ensures)

pub returns-in-Err : goal.returns-in-Err
returns-in-Err c = sym (dotted_of-none _ c.in-Err.ensures)
