use Rattle.std.proofs.Common.{◌≡◌, ◌++◌, ap, sym, ◌∙◌, arith, bit_xor, length-set, ℕ}
use Rattle.ppp_frame.specs.Fcs.{fcs_of, fcs_run}
use Rattle.ppp_frame.proofs.FcsLemmas.{fcs_run-append}
use Rattle.ppp_frame.proofs.EscapesLemmas.{frame_written}
use Rattle.ppp_frame.proofs.frame_buf.write_frame.Goals as goal

pub returns-clause-octets : goal.returns-clause-octets
returns-clause-octets c =
    let check : bit_xor c.after_octets-check.result 0xffff ≡ fcs_of (c.args.header.now ++ c.args.info.now) =
    ap (λ n. bit_xor n 0xffff) (
    c.after_octets-check.ensures ∙ ap (λ n. fcs_run n c.args.info.now) c.after_octets.ensures
    ∙ sym (fcs_run-append 0xffff c.args.header.now c.args.info.now)) in
    frame_written _ _ _ _ _ _ c.args.header.now c.args.info.now _ _ _ (omega arith) (omega (arith, length-set {A = ℕ})) check
    c.stuff-end.ensures.written c.stuff-end-2.ensures.written c.stuff-end-3.ensures.written
