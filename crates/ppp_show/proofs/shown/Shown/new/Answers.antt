use Rattle.std.proofs.Common.{refl}
use Rattle.ppp_show.proofs.ShownLemmas.{stream_text-none}
use Rattle.ppp_show.proofs.shown.Shown.new.Goals as goal

pub returns : goal.returns
returns c = record {
  stands = rw c.set_short.ensures c.in_ok-deframer.ensures.stands;
  reader = rw (c.set_short.ensures, c.in_ok-deframer.ensures.reader) refl;
  text = rw (c.new-2.ensures.bytes, stream_text-none) refl;
}
