use Rattle.std.proofs.Common.{◌≡◌, map, ap, ◌∙◌, ◌^◌, eqb, length, arith, w8}
use Rattle.std.proofs.lemmas.List.{length-map}
use Rattle.std.proofs.lemmas.Simd.{bitmask_splat, mask_l-lt}
use Rattle.ppp_frame.specs.Escapes.{is_escape}
use Rattle.ppp_frame.proofs.lanes.escapes_in.Goals as goal

pub returns-clause-bits : goal.returns-clause-bits
returns-clause-bits c = bitmask_splat w8 eqb c.args.octets 16 0x7d c.fits-octets.0 (omega arith)

pub returns-clause-small : goal.returns-clause-small
returns-clause-small c =
    let xs = c.args.octets in
    let is = bitmask_splat w8 eqb xs 16 0x7d c.fits-octets.0 (omega arith) in
    let few = mask_l-lt (map is_escape xs) in
    let size : 2 ^ length (map is_escape xs) ≡ 65536 = ap (λ n. 2 ^ n) (length-map xs is_escape ∙ c.fits-octets.0) in
    omega (arith, is)
