use Rattle.std.proofs.Common.{length, ap, arith, length-append}
use Rattle.ppp_mp.specs.FragmentOut.{all_octets}
use Rattle.ppp_mp.specs.Header.{header_octets}
use Rattle.ppp_mp.proofs.FragmenterLemmas.{all-octets, header-size}
use Rattle.ppp_mp.proofs.fragment_out.FragmentOut.push.Goals as goal

pub put_header-requires-clause-room : goal.put_header-requires-clause-room
put_header-requires-clause-room c =
    let b = c.self.inside.batch in
    let size = ap all_octets c.self.view_is in
    let none = ap length c.self.invariant.begun in
    omega (arith, size, none, all-octets b.packets, c.self.invariant.room)

pub extend-requires : goal.extend-requires
extend-requires c =
    let b = c.self.inside.batch in
    let size = ap all_octets c.self.view_is in
    let none = ap length c.self.invariant.begun in
    let head = header-size c.args.short c.args.header in
    let sum = length-append b.begun (header_octets c.args.short c.args.header) in
    rw c.put_header.ensures (omega (arith, size, none, all-octets b.packets, c.self.invariant.room, head, sum))
