-- What was given is the first of what was left, and what is left now stands behind it.
use Rattle.std.proofs.Common.{◌≡◌, ℕ, ◌+◌, List, ◌++◌, sym, ◌∙◌, ap, take, drop}
use Rattle.std.proofs.lemmas.List.{take_rest, take-append-drop, drop-drop}
use Rattle.ppp_io.proofs.sure_source.SureSourceSource.read.Goals as goal

-- what is left from a place on: the next piece, and what is left behind it
drop-piece : (xs piece : List ℕ) (at count : ℕ) → piece ≡ take count (drop at xs) → drop at xs ≡ piece ++ drop (at + count) xs
drop-piece xs piece at count is = rw (is, ← drop-drop count at xs) (sym (take-append-drop count (drop at xs)))

pub returns-clause-octets : goal.returns-clause-octets
returns-clause-octets c =
    let given = rw (c.deref.ensures.value, take_rest c.self.inside.octets.items c.self.inside.at) at c.give-count.ensures.octets in
    sym (ap (λ s. s.left) c.self.view_is)
    ∙ drop-piece c.self.inside.octets.items (take c.give-count.result c.give-count.new.buf) c.self.inside.at c.give-count.result given
