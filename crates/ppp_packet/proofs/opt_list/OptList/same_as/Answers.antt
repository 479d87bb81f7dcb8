use Rattle.std.proofs.Common.{◌∙◌, sym}
use Rattle.std.proofs.lemmas.Slice.Eq.{bytes_eq-Decides}
use Rattle.ppp_packet.proofs.OptionLemmas.{same_test}
use Rattle.ppp_packet.proofs.opt_list.OptList.same_as.Goals as goal

pub returns : goal.returns
returns c =
    let decides = bytes_eq-Decides c.octets.result.now c.octets-2.result.now in
    same_test c.eq.result c.args.self.now c.args.list.now c.octets.result.now c.octets-2.result.now c.octets.ensures.value c.octets-2.ensures
    (λ yes. decides.0 (sym c.eq.ensures ∙ yes), λ e. c.eq.ensures ∙ decides.1 e)
