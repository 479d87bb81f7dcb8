use Rattle.std.proofs.Common.{◌≡◌, ◌+◌, ◌^◌, length}
use Rattle.ppp_party.specs.Counted.{AllCounted}
use Rattle.ppp_party.specs.Party.{AreRoomy}
use Rattle.ppp_party.specs.Reader.{IsOpen}
use Rattle.ppp_party.proofs.SendLemmas.{PostedSo}
use Rattle.ppp_party.proofs.desk.post.Given as goal

abbrev pub invariant-loop-i : goal.invariant-loop-i
invariant-loop-i l = record {
  reader : IsOpen l.reader;
  counted : AllCounted (2 ^ 62 + l.i) l.ledgers.items;
  few : AreRoomy l.incoming.items;
  count : length l.ledgers.items ≡ length l.initial.ledgers.items;
  queues : length l.incoming.items ≡ length l.initial.incoming.items;
  so : PostedSo l.mark l.i l.out.entries l.initial.ledgers.items l.ledgers.items l.initial.incoming.items l.incoming.items;
}
