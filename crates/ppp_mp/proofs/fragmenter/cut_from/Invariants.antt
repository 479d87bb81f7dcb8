use Rattle.std.proofs.Common.{◌-◌, length}
use Rattle.ppp_mp.proofs.FragmenterLemmas.{IsCutting}
use Rattle.ppp_mp.proofs.fragmenter.cut_from.Given as goal

abbrev pub invariant-pieces : goal.invariant-pieces
invariant-pieces l = IsCutting l.short l.class l.first l.size l.packet l.out l.at l.number

abbrev pub decreases-pieces : goal.decreases-pieces
decreases-pieces l = length l.packet - l.at
