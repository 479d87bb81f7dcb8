use Rattle.std.proofs.Common.{◌++◌, ap, ◌∙◌, replicate, arith, w8}
use Rattle.std.specs.List.{range_with_len}
use Rattle.std.proofs.lemmas.Simd.{swz_l, length-swz_l, pick_l_left, pick_l-range_with_len}
use Rattle.ppp_frame.proofs.LanesLemmas.{row_fits, row_is, remaining_is}
use Rattle.ppp_frame.proofs.lanes.remaining_lanes.Goals as goal

pub swizzle : goal.swizzle
swizzle c =
    row_fits c.args.gone _ (c.loaded.ensures ∙ ap (λ xs. xs ++ replicate 8 0) (row_is c.args.gone _ c.requires))

pub returns : goal.returns
returns c =
    let lanes = swz_l w8 16 c.args.octets 0 c.loaded.result in
    let long = length-swz_l w8 16 c.args.octets 0 c.loaded.result in
    pick_l_left 0 lanes lanes 16 (range_with_len 0 8) (omega (arith, long)) tt
    ∙ pick_l-range_with_len 0 lanes 0 8 (omega (arith, long))
    ∙ remaining_is c.args.gone c.args.octets _ (c.loaded.ensures ∙ ap (λ xs. xs ++ replicate 8 0) (row_is c.args.gone _ c.requires))
