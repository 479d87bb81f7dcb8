use Rattle.std.proofs.Common.{ap, sym, ◌∙◌, []}
use Rattle.ppp_frame.specs.Deframer.{DeframerState, FeedStep, feed_step}
use Rattle.ppp_link.proofs.LinkLemmas.{cleared-fed}
use Rattle.ppp_link.proofs.link.clear.Goals as goal

pub returns : goal.returns
returns c =
    let one = ap (λ (s : FeedStep). s.left) c.feed.ensures.step in
    let two = ap (λ (s : FeedStep). s.left) c.feed-2.ensures.step in
    sym two ∙ (ap (λ (d : DeframerState). (feed_step d []).left) (sym one) ∙ cleared-fed c.args.deframer.now)
