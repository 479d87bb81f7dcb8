use Rattle.std.proofs.Common.{◌≡◌, ◌+◌, ◌++◌, ◌∷◌, [], sym, ◌∙◌, arith, length-set, ℕ}
use Rattle.std.proofs.lemmas.List.{take_more_set, take_all}
use Rattle.std.proofs.lemmas.List.FromFn.{map-range_with_len_more}
use Rattle.ppp_frame.specs.Spelling.{pair_of, pairs_of}
use Rattle.ppp_frame.proofs.spelling.Spelling.new.Goals as goal

pub loop-octet-preserved : goal.loop-octet-preserved
loop-octet-preserved c =
    let i = c.loop-octet.octet in
    let written = take_more_set c.loop-octet.pairs i c.make_pair.result (omega arith) in
    let more : pairs_of c.args.map (i + 1) ≡ pairs_of c.args.map i ++ pair_of c.args.map i ∷ [] =
    map-range_with_len_more (pair_of c.args.map) 0 i i (omega arith) in
    record { size = omega (arith, length-set {A = ℕ}); table = cc }

pub invariant_of-result : goal.invariant_of-result
invariant_of-result c =
    let done : c.loop-octet.octet ≡ 256 = omega arith in
    let all = take_all 256 c.loop-octet.pairs (omega arith) in
    record { is_table = sym all ∙ (rw done at c.loop-octet.invariant.table) }
