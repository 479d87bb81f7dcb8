use Rattle.std.proofs.Common.{◌<◌, subst, sym}
use Rattle.ppp_bundle.proofs.ListLemmas.{mask-left}
use Rattle.ppp_bundle.proofs.joined.marked_mask.Goals as goal

pub with_bit-mask-requires : goal.with_bit-mask-requires
with_bit-mask-requires c = subst (λ n. n < 32768) (sym c.places.invariant.left) (mask-left _ _ c.args.places.now c.places.i c.requires c.places-test.true)
