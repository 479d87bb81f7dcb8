use Rattle.ppp_pair.proofs.CloseLemmas.{closes_if_so, closes_only_so, kept}
use Rattle.ppp_pair.proofs.laws.kept.Goals as goal

pub returns : goal.returns
returns c = record { kept = kept; only = closes_only_so; closes = closes_if_so }
