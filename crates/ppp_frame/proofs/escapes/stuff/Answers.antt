use Rattle.std.proofs.Common.{◌++◌, length, take, ap, sym, ◌∙◌, append_assoc, length-append, arith, List, ℕ}
use Rattle.ppp_frame.specs.Escapes.{stuffed}
use Rattle.ppp_frame.proofs.EscapesLemmas.{stuffed_parts}
use Rattle.ppp_frame.proofs.escapes.stuff.Goals as goal

pub whole-preserved : goal.whole-preserved
whole-preserved c =
    let map = c.args.spelling.now.map in
    let parts = stuffed_parts map 32 c.whole.rest.now _ _ c.split_at.ensures.front c.split_at.ensures.back in
    let size = ap length parts in
    record {
      end = omega (arith, size, length-append {A = ℕ}, c.whole.invariant.end, c.stuff_block-end.ensures.end);
      within = omega (arith, c.whole.invariant.within, c.stuff_block-end.ensures.within, c.split_at.ensures.front_len, c.split_at.ensures.back_len);
      written = rw c.stuff_block-end.ensures.written (
          append_assoc (take c.whole.end c.whole.room) (stuffed map c.split_at.result.0.now) _
          ∙ ap (λ (ys : List ℕ). take c.whole.end c.whole.room ++ ys) (sym parts) ∙ c.whole.invariant.written);
    }
