use Rattle.std.proofs.Common.{◌+◌, ◌*◌, get_or, length, map, take, ◌≡◌, sym, ap, ◌∙◌, arith}
use Rattle.std.proofs.lemmas.List.{length-map}
use Rattle.std.specs.Simd.Lanes.{mask_l}
use Rattle.ppp_frame.specs.Escapes.{is_escape, unstuffed}
use Rattle.ppp_frame.specs.Lanes.{row_of, turned}
use Rattle.ppp_frame.proofs.LanesLemmas.{ReadsEight, length-row_of, mask_small, ones_few, reads_eight, stored_part}
use Rattle.ppp_frame.proofs.escapes.unstuff_eight.Goals as goal

pub remaining_lanes-requires : goal.remaining_lanes-requires
remaining_lanes-requires c =
    mask_small c.args.eight.now _ c.requires.eight
    (c.escapes_in-escapes.ensures.bits ∙ ap (λ xs. mask_l (map is_escape xs)) c.loaded-octets.ensures)

pub overflow_sub-result : goal.overflow_sub-result
overflow_sub-result c =
    let few = ones_few c.args.eight.now c.escapes_in-escapes.result c.requires.eight
    (c.escapes_in-escapes.ensures.bits ∙ ap (λ xs. mask_l (map is_escape xs)) c.loaded-octets.ensures) in
    omega (arith, few)

pub returns : goal.returns
returns c =
    let xs = c.args.eight.now in
    let e = c.args.escaped in
    let m = c.escapes_in-escapes.result in
    let read : ReadsEight e xs m (2 * m + c.carried.result) c.remaining_lanes.result =
    reads_eight e xs m (2 * m + c.carried.result) c.remaining_lanes.result c.requires.eight
    (c.escapes_in-escapes.ensures.bits ∙ ap (λ xs. mask_l (map is_escape xs)) c.loaded-octets.ensures)
    (ap (λ n. 2 * m + n) c.carried.ensures) c.if-escapes-before-ne0.false
    (c.remaining_lanes.ensures ∙ ap (λ ws. map (λ k. get_or ws k 0) (row_of m)) (c.turned_lanes.ensures ∙ ap (turned e) c.loaded-octets.ensures)) in
    let size = read.size in
    let n = length (unstuffed e xs) in
    let long : length c.remaining_lanes.result ≡ 8 =
    ap length c.remaining_lanes.ensures ∙ length-map (row_of m) (λ k. get_or c.turned_lanes.result k 0) ∙ length-row_of m in
    record {
      end = omega (arith, size);
      escaped = sym read.after;
      written =
          ap (λ k. take k c.store.new.room) (omega (arith, size)) ∙ ap (take (c.args.at + n)) c.store.ensures
          ∙ stored_part c.args.at n c.args.room.now c.remaining_lanes.result (unstuffed e xs) long (omega arith) (omega (arith, size)) read.same;
    }
