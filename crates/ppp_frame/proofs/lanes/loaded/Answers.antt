use Rattle.std.proofs.Common.{◌++◌, take, replicate, ap, ◌∙◌, arith, length-append, length-take}
use Rattle.std.proofs.lemmas.List.{take_all}
use Rattle.std.proofs.lemmas.Simd.{pick_l_whole}
use Rattle.ppp_frame.proofs.lanes.loaded.Goals as goal

pub returns : goal.returns
returns c =
    let xs = c.args.eight.now in
    pick_l_whole 0 (take 8 xs ++ replicate 8 0) 16 (omega (arith, c.requires, length-append (take 8 xs) (replicate 8 0), length-take 8 xs))
    ∙ ap (λ ys. ys ++ replicate 8 0) (take_all 8 xs (omega (arith, c.requires)))
