use Rattle.std.proofs.Common.{◌≡◌, ◌++◌, drop, ap, arith, length-append}
use Rattle.std.proofs.lemmas.List.{drop-append-le}
use Rattle.ppp_mp.specs.Batch.{BatchState}
use Rattle.ppp_mp.proofs.BatchLemmas.{spans-append}
use Rattle.ppp_mp.proofs.batch.Batch.extend.Goals as goal

pub invariant_of-self : goal.invariant_of-self
invariant_of-self c =
    let b = c.self.inside in
    let more = c.args.octets.now in
    let items : c.put_octets.new.octets.items ≡ b.octets.items ++ more = c.put_octets.ensures.items in
    let shown = spans-append b.octets.items more b.start b.spans.items c.self.invariant.start c.self.invariant.spans in
    let begun = drop-append-le b.start b.octets.items more c.self.invariant.start in
    let size = length-append b.octets.items more in
    let rest = length-append (drop b.start b.octets.items) more in
    record {
      spans = c.self.invariant.spans;
      start = rw items (omega (arith, size, c.self.invariant.start));
      sum = rw (items, shown, begun) (omega (arith, size, rest, c.self.invariant.sum));
      octets = omega (arith, c.put_octets.ensures.capacity, c.self.invariant.octets);
      reserved = c.self.invariant.reserved;
    }

pub returns : goal.returns
returns c =
    let b = c.self.inside in
    let more = c.args.octets.now in
    let items : c.put_octets.new.octets.items ≡ b.octets.items ++ more = c.put_octets.ensures.items in
    let shown = spans-append b.octets.items more b.start b.spans.items c.self.invariant.start c.self.invariant.spans in
    let begun = drop-append-le b.start b.octets.items more c.self.invariant.start in
    rw (items, shown, begun) (ap (λ (s : BatchState). record { room = s.room; packets = s.packets; begun = s.begun ++ more }) c.self.view_is)
