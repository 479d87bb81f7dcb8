use Rattle.std.proofs.Common.{◌+◌, ◌^◌, arith, subst, sym}
use Rattle.ppp_party.specs.Counted.{IsCounted}
use Rattle.ppp_party.proofs.SendLemmas.{counted-frame, counted-more}
use Rattle.ppp_party.proofs.tests.loses_what_finds_no_room.Goals as goal

pub post_frame-requires-clause-counted : goal.post_frame-requires-clause-counted
post_frame-requires-clause-counted g c = counted-more c.posts.counter (2 ^ 63) c.posts.ledgers (omega arith) c.posts.invariant.counted

pub posts-preserved : goal.posts-preserved
posts-preserved g c = record {
  reader = c.post_frame.ensures.reader;
  counted = subst (λ gs. IsCounted (c.posts.counter + 1) gs) (sym c.in_ok-post_frame.ensures.ledgers) (counted-frame c.posts.counter c.posts.ledgers _ c.posts.invariant.counted);
  few = c.post_frame.ensures.few;
}
