use Rattle.std.proofs.Common.{◌≡◌, ◌+◌, ◌≤◌, ℕ, List, length}
use Rattle.ppp_text.specs.Lines.{lines_of}
use Rattle.ppp_show.specs.HexLine.{in_front, octets_from, octets_of_text}
use Rattle.ppp_show.specs.Shown.{HasShown}
use Rattle.ppp_show.proofs.stream.show_stream.Given as goal

-- a stream is shown so far, and with the lines left it is that of the text
abbrev pub invariant-lines : goal.invariant-lines
invariant-lines l = record {
  stream : List ℕ;
  shown : HasShown stream l.shown;
  read : octets_of_text l.text ≡ in_front stream (octets_from l.number (lines_of l.rest));
  counted : l.number + length l.rest ≤ length l.text + 1;
}

abbrev pub decreases-lines : goal.decreases-lines
decreases-lines l = length l.rest
