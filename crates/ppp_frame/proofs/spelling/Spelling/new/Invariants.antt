use Rattle.std.proofs.Common.{◌≡◌, length, take}
use Rattle.ppp_frame.specs.Spelling.{pairs_of}
use Rattle.ppp_frame.proofs.spelling.Spelling.new.Given as goal

abbrev pub invariant-loop-octet : goal.invariant-loop-octet
invariant-loop-octet l = record {
  size : length l.pairs ≡ 256;
  table : take l.octet l.pairs ≡ pairs_of l.map l.octet;
}
