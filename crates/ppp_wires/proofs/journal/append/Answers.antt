use Rattle.std.proofs.Common.{◌≡◌, ◌∙◌, sym}
use Rattle.ppp_wires.proofs.JournalLemmas.{made-append}
use Rattle.ppp_wires.proofs.journal.append.Goals as goal

pub returns-clause-calls : goal.returns-clause-calls
returns-clause-calls c = rw (c.push_reserved.ensures.items, c.put_all.ensures.octets) (made-append c.args.all.now.items c.args.octets.now c.args.calls.now.items c.args.entry c.count_of-start.result c.count_of-start.ensures.count c.requires.inside)
