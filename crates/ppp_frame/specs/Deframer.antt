-- A deframer, and what one call of `feed` does.
use Rattle.std.specs.Prelude.{◌≡◌, ℕ, ◌+◌, ◌-◌, ◌≤◌, ◌==◌, true, if◌then◌else◌, List, [], ◌∷◌, ◌++◌, length, take, drop, Option, None, option_map, MatchOption, ⊤, Result, Ok, Err}
use Rattle.std.specs.List.{prefix_len, position_or_len}
use Rattle.ppp_frame.specs.declared.fed.Fed.{Fed}
use Rattle.ppp_frame.specs.declared.fed.Got.{Got}
use Rattle.ppp_frame.specs.declared.fed.Got.TheVariants.{Frame, Discard, More}
use Rattle.ppp_frame.specs.declared.deframer.Lent.{Lent}
use Rattle.ppp_frame.specs.declared.deframer.Deframer.TheInside.{Inside}
use Rattle.ppp_frame.specs.Fcs.{fcs_run}
use Rattle.ppp_frame.specs.Header.{Read, reads}
use Rattle.ppp_frame.specs.Standing.{Standing, after, fresh, is_fresh, standing_of, verdict_at}
use Rattle.ppp_frame.specs.Stream.{is_flag, pieces, unfinished}
use Rattle.ppp_frame.specs.declared.why.Why.{Why}
use Rattle.ppp_frame.specs.Verdict.{Reader, Verdict, Discarded, Taken, answer_of, frame_in, got_of}

-- how it reads, what stands since the last flag, and the frame that it lends
pub record DeframerState : Type 0 where
  pub reader : Reader
  pub standing : Standing
  pub frame : Option Read

-- ---- the fields

abbrev pub lent_seen : List ℕ → Lent → Read
lent_seen room l = reads l.protocol (take (l.end - l.start) (drop l.start room))

abbrev pub deframer_seen : Inside → DeframerState
deframer_seen d = record {
  reader = record { limit = d.limit; ac = d.ac; pf = d.pf };
  standing = record { plain = take d.held d.room.items; past = d.past; escaped = d.escaped };
  frame = option_map (lent_seen d.room.items) d.lent;
}

abbrev pub LiesWithin : ℕ → Lent → Type 0
LiesWithin limit l = (l.start ≤ l.end) × (l.end ≤ limit)

-- eight places more than the limit are taken, so that eight octets can be written before it is known how many of them count
pub record IsDeframer (d : Inside) : Type 0 where
  pub room : length d.room.items ≡ d.limit + 8
  pub within : d.held ≤ d.limit
  pub dropped : d.past ≡ true → d.held ≡ 0
  pub running : d.running ≡ fcs_run 0xffff (take d.held d.room.items)
  pub lent : MatchOption d.lent ⊤ (LiesWithin d.limit)

-- ---- one call, as a function of what stands

-- the flags at the front that end nothing, since nothing stands before them
abbrev pub idle : Standing → List ℕ → ℕ
idle s piece = if is_fresh s then prefix_len is_flag piece else 0

-- the place of the first flag that ends something, or else the length of the piece
abbrev pub run_length : Standing → List ℕ → ℕ
run_length s piece = position_or_len is_flag (drop (idle s piece) piece)

abbrev pub flag_at : Standing → List ℕ → ℕ
flag_at s piece = idle s piece + run_length s piece

abbrev pub run_in : Standing → List ℕ → List ℕ
run_in s piece = take (run_length s piece) (drop (idle s piece) piece)

pub record FeedStep : Type 0 where
  pub fed : Fed
  pub left : DeframerState

-- nothing ended: all is taken in
abbrev pub goes_on : DeframerState → Standing → ℕ → FeedStep
goes_on d s size = record {
  fed = record { used = size; got = More };
  left = record { reader = d.reader; standing = s; frame = None };
}

-- a piece ended: it is judged, and the deframer stands as after a flag
abbrev pub ends_by : DeframerState → Verdict → ℕ → FeedStep
ends_by d verdict used = record {
  fed = record { used = used; got = got_of verdict };
  left = record { reader = d.reader; standing = fresh; frame = frame_in verdict };
}

unfoldable pub feed_step : DeframerState → List ℕ → FeedStep
feed_step d piece =
    let s = after d.reader.limit d.standing (run_in d.standing piece) in
    if flag_at d.standing piece == length piece then goes_on d s (length piece)
    else ends_by d (verdict_at d.reader s) (flag_at d.standing piece + 1)

-- these octets are taken at once and all of them, and are this frame
abbrev pub TakesWhole : DeframerState → List ℕ → Read → Type 0
TakesWhole d octets read = feed_step d octets ≡ ends_by d (Taken read) (length octets)

-- ---- one call, seen from the whole stream

-- the deframer stands where it stands after this stream
abbrev pub Stands : DeframerState → List ℕ → Type 0
Stands d stream = d.standing ≡ standing_of d.reader.limit (unfinished stream)

-- no piece ended
pub record GoesOn (before piece : List ℕ) (used : ℕ) (new : DeframerState) : Type 0 where
  pub all : used ≡ length piece
  pub none : pieces (before ++ piece) ≡ pieces before
  pub frame : new.frame ≡ None

-- one piece ended, at the last octet that was used, and this is the answer to it
pub record EndsOne (old : DeframerState) (before piece : List ℕ) (fed : Fed) (new : DeframerState) : Type 0 where
  pub ended : List ℕ
  pub one : pieces (before ++ take fed.used piece) ≡ pieces before ++ ended ∷ []
  pub whole : unfinished (before ++ take fed.used piece) ≡ []
  pub got : fed.got ≡ got_of (answer_of old.reader ended)
  pub frame : new.frame ≡ frame_in (answer_of old.reader ended)

abbrev pub AnswersGot : Got → DeframerState → List ℕ → List ℕ → Fed → DeframerState → Type 0
AnswersGot More old before piece fed new = GoesOn before piece fed.used new
AnswersGot Frame old before piece fed new = EndsOne old before piece fed new
AnswersGot (Discard why) old before piece fed new = EndsOne old before piece fed new

-- the answer to a piece of the stream, after what came before it
abbrev pub Answers : DeframerState → List ℕ → List ℕ → Fed → DeframerState → Type 0
Answers old before piece fed new = AnswersGot fed.got old before piece fed new

-- the verdict of a judge over these octets
abbrev pub verdict_seen : List ℕ → Result Lent Why → Verdict
verdict_seen plain (Ok l) = Taken (lent_seen plain l)
verdict_seen plain (Err why) = Discarded why
