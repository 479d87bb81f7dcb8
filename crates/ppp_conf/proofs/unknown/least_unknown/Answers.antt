use Rattle.std.proofs.Common.{◌++◌, ◌∙◌, ap, Some, None}
use Rattle.ppp_conf.proofs.UnknownLemmas.{least_unknown-found}
use Rattle.ppp_conf.specs.Unknown.{knows}
use Rattle.ppp_conf.proofs.unknown.least_unknown.Goals as goal

pub returns-in_ok-new-in-Some-first_unknown : goal.returns-in_ok-new-in-Some-first_unknown
returns-in_ok-new-in-Some-first_unknown c =
    ap Some (c.in_ok-new-in-Some-first_unknown.ensures ∙ ap (λ text. c.args.prefix.now ++ text) c.as_str.ensures.value) ∙
    least_unknown-found c.args.prefix.now (knows c.args.level) c.args.table c.in-Some.table (Some c.in-Some-first_unknown.key.now)
    c.in-Some.is c.in-Some-first_unknown.ensures.ordered c.in-Some-first_unknown.ensures.first

pub returns-in-None : goal.returns-in-None
returns-in-None c =
    least_unknown-found c.args.prefix.now (knows c.args.level) c.args.table c.in-Some.table None c.in-Some.is c.in-None.ensures.ordered c.in-None.ensures.first
