-- What two calls in turn take off or put on, as a loop over a source or a sink needs it.
use Rattle.std.proofs.Common.{List, ◌++◌, sym, ◌∙◌, ap, append_assoc}
use Rattle.std.specs.Prelude.{Option, Some, None}
use Rattle.ppp_io.specs.Account.{TakesOff, PutsOn}

-- what is taken off in two calls is taken off as one list
pub TakesOff-append : {A : Type 0} (old between new : Option (List A)) (xs ys : List A) → TakesOff old between xs → TakesOff between new ys → TakesOff old new (xs ++ ys)
TakesOff-append None between new xs ys first second = tt
TakesOff-append (Some before) None new xs ys first second = absurd first
TakesOff-append (Some before) (Some rest) None xs ys first second = second
TakesOff-append (Some before) (Some rest) (Some after) xs ys first second = first ∙ ap (λ zs. xs ++ zs) second ∙ sym (append_assoc xs ys after)

-- what is put on in two calls is put on as one list
pub PutsOn-append : {A : Type 0} (old between new : Option (List A)) (xs ys : List A) → PutsOn old between xs → PutsOn between new ys → PutsOn old new (xs ++ ys)
PutsOn-append old between None xs ys first second = tt
PutsOn-append old None (Some after) xs ys first second = absurd second
PutsOn-append None (Some rest) (Some after) xs ys first second = absurd first
PutsOn-append (Some before) (Some rest) (Some after) xs ys first second = second ∙ ap (λ zs. zs ++ ys) first ∙ append_assoc before xs ys
