use Rattle.std.proofs.Common.{◌++◌, length, take, ap, sym, ◌∙◌, append_assoc, length-append, arith, List, ℕ}
use Rattle.ppp_frame.specs.Escapes.{unstuffed}
use Rattle.ppp_frame.proofs.EscapesLemmas.{escaped_parts, unstuffed_parts}
use Rattle.ppp_frame.proofs.escapes.unstuff.Goals as goal

pub unstuff_block-requires : goal.unstuff_block-requires
unstuff_block-requires c =
    let parts = unstuffed_parts c.whole.behind 32 c.whole.rest.now _ _ c.split_at.ensures.front c.split_at.ensures.back in
    let size = ap length parts in
    omega (arith, size, length-append {A = ℕ}, c.whole.invariant.end)

pub whole-preserved : goal.whole-preserved
whole-preserved c =
    let behind = c.whole.behind in
    let parts = unstuffed_parts behind 32 c.whole.rest.now _ _ c.split_at.ensures.front c.split_at.ensures.back in
    let turned = escaped_parts behind 32 c.whole.rest.now _ _ c.split_at.ensures.front c.split_at.ensures.back in
    let size = ap length parts in
    record {
      end = rw c.unstuff_block.ensures.escaped (
          omega (arith, size, length-append {A = ℕ}, c.whole.invariant.end, c.unstuff_block.ensures.end));
      escaped = rw c.unstuff_block.ensures.escaped (sym turned ∙ c.whole.invariant.escaped);
      written = rw (c.unstuff_block.ensures.escaped, c.unstuff_block.ensures.written) (
          append_assoc (take c.whole.end c.whole.room) (unstuffed behind c.split_at.result.0.now) _
          ∙ ap (λ (ys : List ℕ). take c.whole.end c.whole.room ++ ys) (sym parts) ∙ c.whole.invariant.written);
    }
