use Rattle.std.proofs.Common.{◌≤◌, length}
use Rattle.ppp_party.specs.Counted.{IsCounted}
use Rattle.ppp_party.specs.Party.{room}
use Rattle.ppp_party.specs.Reader.{IsOpen}
use Rattle.ppp_party.proofs.tests.loses_what_finds_no_room.Given as goal

abbrev pub invariant-posts : goal.invariant-posts
invariant-posts g l = record {
  reader : IsOpen l.reader;
  counted : IsCounted l.counter l.ledgers;
  few : length l.queue ≤ room;
}

abbrev pub invariant-pops : goal.invariant-pops
invariant-pops g l = record {
  most : l.waiting ≤ l.counter;
}
