use Rattle.ppp_text.proofs.LinesLemmas.{first_line, last_line}
use Rattle.ppp_text.proofs.lines.split_line.Goals as goal

pub returns-in-Some-clause-line : goal.returns-in-Some-clause-line
returns-in-Some-clause-line c = first_line _ _ _ _ c.in-Some.ensures c.without_return.ensures

pub returns-in-None-clause-line : goal.returns-in-None-clause-line
returns-in-None-clause-line c = last_line c.args.text.now c.requires c.in-None.ensures
