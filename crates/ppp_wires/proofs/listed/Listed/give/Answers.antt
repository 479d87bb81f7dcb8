use Rattle.ppp_wires.proofs.ListedLemmas.{given-told}
use Rattle.ppp_wires.proofs.listed.Listed.give.Goals as goal

pub returns-clause-told : goal.returns-clause-told
returns-clause-told c = rw (← c.self.view_is, c.number_at-number.ensures, c.deref.ensures.value, c.saturating_add-self-inside.ensures) (given-told c.self.inside.list.items c.self.inside.calls)
