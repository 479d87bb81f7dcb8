use Rattle.std.proofs.Common.{arith}
use Rattle.ppp_frame.specs.Deframer.{deframer_seen}
use Rattle.ppp_frame.proofs.DeframerLemmas.{fed_more, fed_ends}
use Rattle.ppp_frame.proofs.deframer.Deframer.feed_once.Goals as goal

pub returns-then-used-piece : goal.returns-then-used-piece
returns-then-used-piece c =
    rw (← c.self.view_is) (
    fed_more (deframer_seen c.self.inside) _ c.args.piece.now _ _ _ _ _ c.is_fresh.ensures c.idle_flags-start.ensures.count
    c.split_at.ensures.back c.before_flag-size.ensures.count c.split_at-2.ensures.front c.take_in.ensures c.if-used-piece.true)

pub returns : goal.returns
returns c =
    rw (← c.self.view_is) (
    fed_ends (deframer_seen c.self.inside) _ _ c.args.piece.now _ _ _ _ _ _ c.is_fresh.ensures c.idle_flags-start.ensures.count
    c.split_at.ensures.back c.before_flag-size.ensures.count c.split_at-2.ensures.front c.take_in.ensures c.close.ensures.got
    c.close.ensures.left (omega arith))
