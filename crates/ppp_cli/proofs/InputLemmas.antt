-- What reads in turn take.
use Rattle.std.proofs.Common.{ℕ, ◌+◌, ◌≤◌, List, [], ◌++◌, length, refl, arith, length-append}
use Rattle.std.specs.Prelude.{Option, Some, None}
use Rattle.ppp_io.specs.Account.{TakesOff}
use Rattle.ppp_io.proofs.AccountLemmas.{TakesOff-append}
use Rattle.ppp_cli.specs.Input.{TakesAtMost}

takes_nothing : (left : Option (List ℕ)) → TakesOff left left []
takes_nothing None = tt
takes_nothing (Some octets) = refl

-- nothing is taken
pub takes_none : (most : ℕ) (left : Option (List ℕ)) → TakesAtMost most left left
takes_none most left = ([], takes_nothing left, omega arith)

-- octets are taken, and more of them in one read
pub takes_more : (most : ℕ) (old between new : Option (List ℕ)) (xs ys : List ℕ) → TakesOff old between xs → TakesOff between new ys → length xs + length ys ≤ most → TakesAtMost most old new
takes_more most old between new xs ys first second few =
    (xs ++ ys, TakesOff-append old between new xs ys first second, omega (arith, length-append xs ys, few))
