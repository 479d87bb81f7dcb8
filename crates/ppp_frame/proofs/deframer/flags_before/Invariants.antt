use Rattle.std.proofs.Common.{◌≡◌, ◌+◌, ◌-◌, ◌≤◌, length, drop}
use Rattle.std.specs.List.{prefix_len}
use Rattle.ppp_frame.specs.Stream.{is_flag}
use Rattle.ppp_frame.proofs.deframer.flags_before.Given as goal

abbrev pub invariant-flags : goal.invariant-flags
invariant-flags l = record {
  rest : l.count + prefix_len is_flag (drop l.count l.piece) ≡ prefix_len is_flag l.piece;
  within : l.count ≤ length l.piece;
}

abbrev pub decreases-flags : goal.decreases-flags
decreases-flags l = length l.piece - l.count
