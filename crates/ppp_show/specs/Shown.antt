-- What is shown of a stream so far.
use Rattle.std.specs.Prelude.{◌≡◌, ℕ, List, [], Option, Some, None}
use Rattle.std.specs.String.{string_bytes}
use Rattle.ppp_frame.specs.declared.fed.Got.{Got}
use Rattle.ppp_frame.specs.declared.fed.Got.TheVariants.{Frame, Discard, More}
use Rattle.ppp_frame.specs.Deframer.{Stands}
use Rattle.ppp_frame.specs.Header.{Read}
use Rattle.ppp_show.specs.DiscardLine.{discard_line}
use Rattle.ppp_show.specs.FrameLine.{frame_line}
use Rattle.ppp_show.specs.Stream.{show_reader, stream_text}
use Rattle.ppp_show.specs.declared.shown.Shown.{Shown}

-- this stream went through the deframer, and the text is what it shows
pub record HasShown (stream : List ℕ) (shown : Shown) : Type 0 where
  pub stands : Stands shown.deframer stream
  pub reader : shown.deframer.reader ≡ show_reader
  pub text : string_bytes shown.text ≡ stream_text stream

-- the line of a frame that is lent, if one is
abbrev pub lent_text : Option Read → List ℕ
lent_text None = []
lent_text (Some read) = frame_line read

-- the line for what a call of `feed` answered and lends
abbrev pub got_text : Got → Option Read → List ℕ
got_text More frame = []
got_text (Discard why) frame = discard_line why
got_text Frame frame = lent_text frame
