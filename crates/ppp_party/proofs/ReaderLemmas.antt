-- What a deframer lends doesn't hang on what it lent before.
use Rattle.std.proofs.Common.{◌≡◌, ℕ, Bool, true, false, List, [], ◌∷◌, refl}
use Rattle.ppp_frame.specs.declared.escapes.TheConstants.{FLAG}
use Rattle.ppp_frame.specs.Deframer.{DeframerState, feed_step}
use Rattle.ppp_frame.specs.Standing.{fresh, is_fresh}
use Rattle.ppp_frame.proofs.StandingLemmas.{fresh_is, fresh_start}
use Rattle.ppp_trunk.specs.Orders.{open_reader, read_in}

flag-by : (d : DeframerState) (b : Bool) → is_fresh d.standing ≡ b → (feed_step d (FLAG ∷ [])).left.standing ≡ fresh
unfolding feed_step
flag-by d true h = let is = fresh_is d.standing h in rw (is, fresh_start d.reader.limit) refl
flag-by d false h = rw h refl

pub after-flag : (d : DeframerState) → (feed_step d (FLAG ∷ [])).left.standing ≡ fresh
after-flag d = flag-by d (is_fresh d.standing) refl

pub lends-same : (d : DeframerState) (octets : List ℕ) → d.standing ≡ fresh → d.reader ≡ open_reader.reader → (feed_step d octets).left.frame ≡ read_in octets
unfolding feed_step read_in
lends-same d octets stands reader = rw (stands, reader) refl
