use Rattle.std.proofs.Common.{ap, get_or, List, ℕ, arith, ◌∙◌}
use Rattle.std.proofs.lemmas.List.FromFn.{get_or-map-range_with_len}
use Rattle.ppp_frame.specs.Spelling.{pair_of}
use Rattle.ppp_frame.proofs.spelling.Spelling.pair.Goals as goal

pub returns : goal.returns
returns c =
    ap (λ (xs : List ℕ). get_or xs c.args.octet 0) c.args.self.now.is_table
    ∙ get_or-map-range_with_len (pair_of c.args.self.now.map) 0 256 c.args.octet c.args.octet 0 (omega arith) (omega arith)
