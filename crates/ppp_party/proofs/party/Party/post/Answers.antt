use Rattle.std.proofs.Common.{◌+◌, subst, sym}
use Rattle.ppp_trunk.specs.declared.station_out.TheConstants.{MOST_ENTRIES}
use Rattle.ppp_party.specs.Counted.{AllCounted}
use Rattle.ppp_party.specs.Party.{Whole}
use Rattle.ppp_party.proofs.ResultLemmas.{on_ok_map}
use Rattle.ppp_party.proofs.SendLemmas.{noted-counted}
use Rattle.ppp_party.proofs.party.Party.post.Goals as goal

pub returns-clause-counted : goal.returns-clause-counted
returns-clause-counted g c n all =
    on_ok_map c.post.result c.post.ensures.ledgers (λ notes.
    subst (AllCounted (n + MOST_ENTRIES)) (sym notes)
    (noted-counted n MOST_ENTRIES 1 c.args.desk.now.out.entries c.self.inside.ledgers.items c.requires.few (subst (λ (w : Whole _). AllCounted n w.party.ledgers) (sym c.self.view_is) all)))
