use Rattle.std.proofs.Common.{◌++◌, length, take, ap, sym, ◌∙◌, append_assoc, length-append, arith, List, ℕ}
use Rattle.ppp_frame.specs.Escapes.{unstuffed}
use Rattle.ppp_frame.proofs.EscapesLemmas.{escaped_parts, unstuffed_parts}
use Rattle.ppp_frame.proofs.escapes.unstuff_eights.Goals as goal

pub unstuff_eight-requires : goal.unstuff_eight-requires
unstuff_eight-requires c =
    let parts = unstuffed_parts c.eights.behind 8 c.eights.rest.now _ _ c.split_at.ensures.front c.split_at.ensures.back in
    let size = ap length parts in
    omega (arith, size, length-append {A = ℕ}, c.eights.invariant.end)

pub eights-preserved : goal.eights-preserved
eights-preserved c =
    let behind = c.eights.behind in
    let parts = unstuffed_parts behind 8 c.eights.rest.now _ _ c.split_at.ensures.front c.split_at.ensures.back in
    let turned = escaped_parts behind 8 c.eights.rest.now _ _ c.split_at.ensures.front c.split_at.ensures.back in
    let size = ap length parts in
    record {
      end = rw c.unstuff_eight.ensures.escaped (
          omega (arith, size, length-append {A = ℕ}, c.eights.invariant.end, c.unstuff_eight.ensures.end));
      escaped = rw c.unstuff_eight.ensures.escaped (sym turned ∙ c.eights.invariant.escaped);
      written = rw (c.unstuff_eight.ensures.escaped, c.unstuff_eight.ensures.written) (
          append_assoc (take c.eights.end c.eights.room) (unstuffed behind c.split_at.result.0.now) _
          ∙ ap (λ (ys : List ℕ). take c.eights.end c.eights.room ++ ys) (sym parts) ∙ c.eights.invariant.written);
    }
