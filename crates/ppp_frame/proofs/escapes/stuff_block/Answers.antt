use Rattle.std.proofs.Common.{◌≡◌, ◌==◌, if◌then◌else◌, false, ap, sym, ◌∙◌}
use Rattle.std.specs.List.{list_any}
use Rattle.ppp_frame.specs.Escapes.{is_special}
use Rattle.ppp_frame.proofs.EscapesLemmas.{stuffed_plain}
use Rattle.ppp_frame.proofs.escapes.stuff_block.Goals as goal

pub returns-clause-end : goal.returns-clause-end
returns-clause-end c =
    let none : list_any (is_special (if c.args.spelling.now.map == 0 then 0 else 0x20)) c.args.block.now ≡ false =
    ap (λ n. list_any (is_special n) c.args.block.now) (sym c.lowest_plain.ensures) ∙ sym c.has_special.ensures ∙ c.if-has_special.false in
    rw (stuffed_plain c.args.spelling.now.map c.args.block.now none)

pub returns-clause-written : goal.returns-clause-written
returns-clause-written c =
    let none : list_any (is_special (if c.args.spelling.now.map == 0 then 0 else 0x20)) c.args.block.now ≡ false =
    ap (λ n. list_any (is_special n) c.args.block.now) (sym c.lowest_plain.ensures) ∙ sym c.has_special.ensures ∙ c.if-has_special.false in
    rw (stuffed_plain c.args.spelling.now.map c.args.block.now none) c.copy_block.ensures
