use Rattle.std.proofs.Common.{◌++◌, replicate, bit_xor, eqb, ap, ◌∙◌, w8}
use Rattle.std.specs.List.{range_with_len}
use Rattle.std.proofs.lemmas.Simd.{tops_compared}
use Rattle.std.specs.Simd.Lanes.{pick_l, sel_l, zip2}
use Rattle.ppp_frame.proofs.LanesLemmas.{turned_is}
use Rattle.ppp_frame.proofs.lanes.turned_lanes.Goals as goal

pub returns : goal.returns
returns c =
    let xs = c.args.octets in
    ap (λ ms. zip2 bit_xor xs (pick_l 0 (replicate 16 c.toggle_behind-first.result ++ sel_l ms (replicate 16 0x20) (replicate 16 0)) (range_with_len 15 16)))
    (tops_compared w8 eqb xs (replicate 16 0x7d))
    ∙ ap (λ n. zip2 bit_xor xs (pick_l 0 (replicate 16 n ++ sel_l (zip2 eqb xs (replicate 16 0x7d)) (replicate 16 0x20) (replicate 16 0)) (range_with_len 15 16)))
    c.toggle_behind-first.ensures
    ∙ turned_is c.args.escaped xs c.fits-octets.0
