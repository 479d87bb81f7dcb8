use Rattle.std.proofs.Common.{◌≡◌, ◌%◌, true, false, sym, arith}
use Rattle.ppp_frame.specs.Header.{is_short, leaves_out}
use Rattle.ppp_frame.proofs.HeaderLemmas.{is_short-lt}
use Rattle.ppp_frame.proofs.header.make_header.Goals as goal

pub returns-in-true-true-clause-octets : goal.returns-in-true-true-clause-octets
returns-in-true-true-clause-octets c =
    let left : leaves_out c.args.form c.args.protocol ≡ true = sym c.in-true-true.ensures in
    let short : is_short c.args.form c.args.protocol c.args.info.now ≡ true = sym c.in-true-true.ensures' in
    let within = is_short-lt c.args.form c.args.protocol c.args.info.now short in
    let low : c.args.protocol % 256 ≡ c.args.protocol = omega arith in
    rw (low, left, short)

pub returns-in-false-true-clause-octets : goal.returns-in-false-true-clause-octets
returns-in-false-true-clause-octets c =
    let left : leaves_out c.args.form c.args.protocol ≡ false = sym c.in-false-true.ensures in
    let short : is_short c.args.form c.args.protocol c.args.info.now ≡ true = sym c.in-false-true.ensures' in
    let within = is_short-lt c.args.form c.args.protocol c.args.info.now short in
    let low : c.args.protocol % 256 ≡ c.args.protocol = omega arith in
    rw (low, left, short)
