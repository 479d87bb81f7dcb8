use Rattle.std.proofs.Common.{ap, sym, ◌∙◌}
use Rattle.ppp_frame.specs.Deframer.{FeedStep}
use Rattle.ppp_party.proofs.ReaderLemmas.{after-flag, lends-same}
use Rattle.ppp_party.proofs.reader.read.Goals as goal

pub returns-clause-frame : goal.returns-clause-frame
returns-clause-frame c =
    let stands = ap (λ (s : FeedStep). s.left.standing) (sym c.feed.ensures.step) ∙ after-flag c.args.reader.now in
    ap (λ (s : FeedStep). s.left.frame) (sym c.feed-2.ensures.step)
    ∙ lends-same c.feed.new.self c.args.octets.now stands (c.feed.ensures.reader ∙ c.requires)
