-- What a piece of the stream adds to what is shown.
use Rattle.std.proofs.Common.{◌≡◌, ◌+◌, ◌==◌, ℕ, Bool, true, false, if◌then◌else◌, arith, rules, List, [], ◌∷◌, ◌++◌, length, take, drop, refl, subst, sym, ap, ◌∙◌, append-nil, append_assoc}
use Rattle.std.proofs.Math.Seq.{take-add}
use Rattle.std.proofs.lemmas.List.{take_all}
use Rattle.std.specs.Prelude.{IsSome}
use Rattle.std.specs.List.{flat_map}
use Rattle.std.proofs.lemmas.Grind.{flat_map-append}
use Rattle.ppp_frame.specs.declared.fed.Fed.{Fed}
use Rattle.ppp_frame.specs.declared.fed.Got.{Got}
use Rattle.ppp_frame.specs.declared.fed.Got.TheVariants.{Frame, Discard, More}
use Rattle.ppp_frame.specs.Deframer.{Answers, AnswersGot, DeframerState, EndsOne, FeedStep, ends_by, feed_step, flag_at, goes_on, run_in}
use Rattle.ppp_frame.specs.Standing.{after, verdict_at}
use Rattle.ppp_frame.specs.Stream.{pieces}
use Rattle.ppp_frame.specs.Verdict.{Verdict, Discarded, Taken, answer_of, frame_in, got_of}
use Rattle.ppp_show.specs.Shown.{got_text}
use Rattle.ppp_show.specs.Stream.{piece_line, show_reader, stream_text, verdict_line}

-- a verdict's line is the one for its answer and the frame that it lends
got_text-verdict : (v : Verdict) → got_text (got_of v) (frame_in v) ≡ verdict_line v
got_text-verdict (Discarded why) = refl
got_text-verdict (Taken read) = refl

stream_text-ends : (before after : List ℕ) (ended : List ℕ) → pieces after ≡ pieces before ++ ended ∷ [] → stream_text after ≡ stream_text before ++ piece_line ended
unfolding stream_text
stream_text-ends before after ended one =
    rw one (flat_map-append piece_line (pieces before) (ended ∷ []) ∙ ap (λ line. flat_map piece_line (pieces before) ++ line) (append-nil (piece_line ended)))

-- a piece of the stream ended
shown-ends : (old new : DeframerState) (before piece : List ℕ) (fed : Fed) → old.reader ≡ show_reader → EndsOne old before piece fed new →
    stream_text (before ++ take fed.used piece) ≡ stream_text before ++ got_text fed.got new.frame
shown-ends old new before piece fed reader e =
    stream_text-ends before (before ++ take fed.used piece) e.ended e.one
    ∙ ap (λ line. stream_text before ++ line) (rw (e.got, e.frame, reader) (sym (got_text-verdict (answer_of show_reader e.ended))))

pub stream_text-none : stream_text [] ≡ []
unfolding stream_text
stream_text-none = refl

stream_text-same : (before after : List ℕ) → pieces after ≡ pieces before → stream_text after ≡ stream_text before
unfolding stream_text
stream_text-same before after same = ap (flat_map piece_line) same

shown-got : (got : Got) (old new : DeframerState) (before piece : List ℕ) (fed : Fed) → fed.got ≡ got → old.reader ≡ show_reader → AnswersGot got old before piece fed new →
    stream_text (before ++ take fed.used piece) ≡ stream_text before ++ got_text fed.got new.frame
shown-got More old new before piece fed is reader a =
    rw (a.all, take_all (length piece) piece (omega arith), is) (stream_text-same before (before ++ piece) a.none ∙ sym (append-nil (stream_text before)))
shown-got Frame old new before piece fed is reader a = shown-ends old new before piece fed reader a
shown-got (Discard why) old new before piece fed is reader a = shown-ends old new before piece fed reader a

-- what a call of `feed` answers is what its octets add
pub shown-fed : (old new : DeframerState) (before piece : List ℕ) (fed : Fed) → old.reader ≡ show_reader → Answers old before piece fed new →
    stream_text (before ++ take fed.used piece) ≡ stream_text before ++ got_text fed.got new.frame
shown-fed old new before piece fed reader a = shown-got fed.got old new before piece fed refl reader a

-- ---- a frame that is answered is lent

abbrev Lends : FeedStep → Type 0
Lends f = f.fed.got ≡ Frame → IsSome f.left.frame

lends-when : (whole : Bool) (a b : FeedStep) → Lends a → Lends b → Lends (if whole then a else b)
lends-when true a b first second = first
lends-when false a b first second = second

lends-end : (d : DeframerState) (v : Verdict) (used : ℕ) → Lends (ends_by d v used)
lends-end d (Discarded why) used = λ is. absurd (cc)
lends-end d (Taken read) used = λ is. search rules

lends-step : (d : DeframerState) (piece : List ℕ) → Lends (feed_step d piece)
unfolding feed_step
lends-step d piece =
    let s = after d.reader.limit d.standing (run_in d.standing piece) in
    lends-when (flag_at d.standing piece == length piece) (goes_on d s (length piece)) (ends_by d (verdict_at d.reader s) (flag_at d.standing piece + 1)) (λ is. absurd (cc)) (lends-end d (verdict_at d.reader s) (flag_at d.standing piece + 1))

pub lends : (d new : DeframerState) (piece : List ℕ) (fed : Fed) → feed_step d piece ≡ record { fed = fed; left = new } → fed.got ≡ Frame → IsSome new.frame
lends d new piece fed is = subst Lends is (lends-step d piece)

-- ---- octets one behind the other

pub stream-on : (stream octets rest : List ℕ) (at used : ℕ) → rest ≡ drop at octets →
    (stream ++ take at octets) ++ take used rest ≡ stream ++ take (at + used) octets
stream-on stream octets rest at used is =
    append_assoc stream (take at octets) (take used rest) ∙ ap (λ more. stream ++ more) (rw (is, take-add at used octets) refl)
