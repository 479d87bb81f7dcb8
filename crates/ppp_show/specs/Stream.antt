-- What a stream of octets holds, in words.
use Rattle.std.specs.Prelude.{ℕ, true, List, Result, Ok, Err}
use Rattle.std.specs.List.{flat_map}
use Rattle.ppp_frame.specs.Stream.{pieces}
use Rattle.ppp_frame.specs.Verdict.{Reader, Verdict, Discarded, Taken, answer_of}
use Rattle.ppp_show.specs.DiscardLine.{discard_line}
use Rattle.ppp_show.specs.FrameLine.{frame_line}
use Rattle.ppp_show.specs.HexLine.{octets_of_text}
use Rattle.ppp_show.specs.declared.shown.TheConstants.{MOST_FRAME}

-- how frames are read: with both short headers (RFC 1661 sections 6.5 and 6.6)
abbrev pub show_reader : Reader
show_reader = record { limit = MOST_FRAME; ac = true; pf = true }

abbrev pub verdict_line : Verdict → List ℕ
verdict_line (Discarded why) = discard_line why
verdict_line (Taken read) = frame_line read

-- the line of a piece between two flags
abbrev pub piece_line : List ℕ → List ℕ
piece_line piece = verdict_line (answer_of show_reader piece)

-- a line for each piece that ends in a stream
unfoldable pub stream_text : List ℕ → List ℕ
stream_text stream = flat_map piece_line (pieces stream)

abbrev pub shows : Result (List ℕ) ℕ → Result (List ℕ) ℕ
shows (Ok stream) = Ok (stream_text stream)
shows (Err line) = Err line

-- what a text of hex lines shows, or the number of the first line that is refused
abbrev pub show_of : List ℕ → Result (List ℕ) ℕ
show_of text = shows (octets_of_text text)
