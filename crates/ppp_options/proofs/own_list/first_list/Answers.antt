use Rattle.std.proofs.Common.{sym}
use Rattle.ppp_options.proofs.OwnListLemmas.{initial-firsts, firsts-room}
use Rattle.ppp_options.proofs.own_list.first_list.Goals as goal

pub rows-init : goal.rows-init
rows-init g c =
    rw (c.new-list.ensures, c.kinds-left.ensures)
    (initial-firsts (g.T.OptionRules.rules c.args.table.now) c.args.word (g.met.T.OptionRules.is_table c.args.table.now))

pub put-requires : goal.put-requires
put-requires g c =
    record {
      room = rw c.body.ensures.value
          (firsts-room (g.T.OptionRules.rules c.args.table.now) c.args.word _ _ _ _ c.in-Some-first.option
          (g.met.T.OptionRules.is_table c.args.table.now) c.rows.invariant c.in-Some.ensures.cases.0 (sym c.in-Some-first.ensures));
    }
