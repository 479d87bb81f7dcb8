use Rattle.std.specs.String.{string_bytes}
use Rattle.ppp_feed.proofs.FeedLemmas.{happens-adds, happens-used}
use Rattle.ppp_feed.proofs.fed.Fed.happens.Goals as goal

pub returns-clause-adds : goal.returns-clause-adds
returns-clause-adds g c =
    happens-adds (g.F.Policy.says c.args.self.now.station.policy) _ c.args.word _ _ _ (string_bytes c.args.self.now.text) _ _ c.event.ensures.does c.write_all.ensures

pub returns-clause-used : goal.returns-clause-used
returns-clause-used g c = happens-used (g.F.Policy.says c.args.self.now.station.policy) _ c.args.word _ _ _ _ c.event.ensures.does
