use Rattle.std.proofs.Common.{sym, ◌∙◌}
use Rattle.ppp_text.proofs.SplitLemmas.{IsSplit-position, position_none}
use Rattle.ppp_text.proofs.split.split_once.Goals as goal

pub returns-in_err-end : goal.returns-in_err-end
returns-in_err-end c = rw c.from_residual.ensures (position_none c.args.octet c.args.text.now (sym c.find.ensures ∙ c.in_err-end.was))

pub returns : goal.returns
returns c = IsSplit-position c.args.octet c.in_ok-end.end c.args.text.now _ _ (sym c.in_ok-end.ensures) c.split_at.ensures.front c.split_at.ensures.back
