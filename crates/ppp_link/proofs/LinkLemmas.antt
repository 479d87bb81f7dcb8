-- A deframer that stands as after a flag.
use Rattle.std.proofs.Common.{◌≡◌, Bool, true, false, [], ◌∷◌, refl, ap, ◌∙◌}
use Rattle.std.specs.Prelude.{Option, None}
use Rattle.ppp_frame.specs.Header.{Read}
use Rattle.ppp_frame.specs.declared.escapes.TheConstants.{FLAG}
use Rattle.ppp_frame.specs.Deframer.{DeframerState, Stands, feed_step}
use Rattle.ppp_frame.specs.Standing.{Standing, fresh, is_fresh}
use Rattle.ppp_frame.specs.Verdict.{Reader, whole_headers}
use Rattle.ppp_frame.proofs.StandingLemmas.{fresh_start, fresh_is}
use Rattle.ppp_link.specs.Link.{cleared, deframer_begun}
use Rattle.ppp_link.specs.declared.link.TheConstants.{MOST_FRAME}

-- given no octet
empty-fed : (d : DeframerState) → d.standing ≡ fresh → (feed_step d []).left ≡ record { reader = d.reader; standing = fresh; frame = None }
unfolding feed_step
empty-fed d is = rw (is, fresh_start d.reader.limit) refl

-- a flag
flag-fed : (d : DeframerState) (b : Bool) → is_fresh d.standing ≡ b →
    ((feed_step d (FLAG ∷ [])).left.standing ≡ fresh) × ((feed_step d (FLAG ∷ [])).left.reader ≡ d.reader)
unfolding feed_step
flag-fed d true h = let is = fresh_is d.standing h in (rw (is, fresh_start d.reader.limit) refl, rw (is) refl)
flag-fed d false h = (rw h refl, rw h refl)

-- a flag and then nothing: it stands as after a flag, and lends no frame
pub cleared-fed : (d : DeframerState) → (feed_step (feed_step d (FLAG ∷ [])).left []).left ≡ cleared d
cleared-fed d =
    let one = flag-fed d (is_fresh d.standing) refl in
    empty-fed (feed_step d (FLAG ∷ [])).left one.0 ∙ ap (λ r. record { reader = r; standing = fresh; frame = None }) one.1

-- a new one
begun-with : (reader : Reader) (standing : Standing) (frame : Option Read) → reader ≡ whole_headers MOST_FRAME → standing ≡ fresh → frame ≡ None →
    record { reader = reader; standing = standing; frame = frame } ≡ deframer_begun
begun-with reader standing frame a b c = rw (a, b, c) refl

pub begun_deframer : (d : DeframerState) → Stands d [] → d.reader ≡ whole_headers MOST_FRAME → d.frame ≡ None → d ≡ deframer_begun
begun_deframer d stands reader frame = begun-with d.reader d.standing d.frame reader (stands ∙ fresh_start d.reader.limit) frame
