use Rattle.std.proofs.Common.{◌∙◌, sym}
use Rattle.ppp_osimpls.proofs.MplsLemmas.{nothing-after}
use Rattle.ppp_osimpls.proofs.mpls_table.MplsTableOptionTable.adapt_nak.Goals as goal

pub returns : goal.returns
returns c = c.copied.ensures ∙ sym (nothing-after c.args.last.now c.args._nak.now c.args._word)
