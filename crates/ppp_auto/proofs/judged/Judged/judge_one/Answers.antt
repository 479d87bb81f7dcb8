use Rattle.std.proofs.Common.{sym, ◌∙◌}
use Rattle.ppp_packet.specs.OptRef.{option_seen}
use Rattle.ppp_auto.proofs.JudgedLemmas.{judges_refused, judges_bad}
use Rattle.ppp_auto.proofs.judged.Judged.judge_one.Goals as goal

pub returns-then-is_rejected : goal.returns-then-is_rejected
returns-then-is_rejected c = judges_refused c.args.self.now _ c.args.twice (option_seen c.args.option) c.args.verdict.now (sym c.is_rejected.ensures ∙ c.if-is_rejected.true) c.refuse.ensures

pub returns-in-Bad : goal.returns-in-Bad
returns-in-Bad c = judges_bad c.args.self.now _ c.args.twice (option_seen c.args.option) c.in-Bad.better c.args.verdict.now (sym c.is_rejected.ensures ∙ c.if-is_rejected.false) c.in-Bad.is c.correct.ensures
