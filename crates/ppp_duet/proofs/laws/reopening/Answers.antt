use Rattle.ppp_duet.specs.Terms.{terms_of}
use Rattle.ppp_duet.proofs.ReopeningLemmas.{reopening}
use Rattle.ppp_duet.proofs.TermsLemmas.{used}
use Rattle.ppp_duet.proofs.laws.reopening.Goals as goal

pub returns : goal.returns
returns g c first_a first_b =
    let m = g.T.OptionTable in
    let a = c.args.a.now in
    let b = c.args.b.now in
    let ta = terms_of m.table m.sendable m.unknown m.allows a first_a in
    let tb = terms_of m.table m.sendable m.unknown m.allows b first_b in
    reopening m.compat ta tb (used m.compat ta (g.met.T.OptionTable.lawful a)) (used m.compat tb (g.met.T.OptionTable.lawful b))
