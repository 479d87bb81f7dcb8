-- Sets of links.
use Rattle.std.proofs.Common.{◌≡◌, ◌≢◌, ℕ, Bool, true, false, not, ◌&&◌, List, [], ◌∷◌, ⊎_elim, eq-eqb, ne_eqb, refl, sym, ◌∙◌}
use Rattle.std.specs.Prelude.{◌==◌}
use Rattle.std.specs.List.{list_any}
use Rattle.std.proofs.lemmas.Bool.{and_parts, cases_eq, eqb-false, not-true, or_cases, true≢false}
use Rattle.ppp_bap.specs.LinkSet.{link_numbers, some_link}
use Rattle.ppp_bap.specs.declared.bap_ask.BapAsk.{BapAsk}
use Rattle.ppp_bap.specs.declared.bap_ask.BapAsk.TheVariants.{Call, Callback, Drop}
use Rattle.ppp_pair.specs.Pair.{End, has_staying, promised, stays_beside, with_link}
use Rattle.ppp_pair.specs.Response.{ResponseCode, Ack, Nak, Rej, FullNak}

pub link_at : (links : ℕ → Bool) (l : ℕ) (is : Bool) → with_link links l is l ≡ is
unfolding with_link
link_at links l is = rw (eq-eqb l l refl) refl

pub link_else : (links : ℕ → Bool) (l : ℕ) (is : Bool) (k : ℕ) → k ≢ l → with_link links l is k ≡ links k
unfolding with_link
link_else links l is k n = rw (ne_eqb k l n) refl

-- what was in stays in where one is put in
pub link_more : (links : ℕ → Bool) (l k : ℕ) → links k ≡ true → with_link links l true k ≡ true
link_more links l k h =
    ⊎_elim (λ (e : k ≡ l). rw e (link_at links l true)) (λ n. link_else links l true k n ∙ h) (cases_eq k l)

pub promised_more : (what : BapAsk) (code : ResponseCode) (marked : ℕ → Bool) (k : ℕ) → marked k ≡ true → promised what code marked k ≡ true
promised_more Call code marked k h = h
promised_more Callback code marked k h = h
promised_more (Drop l) Ack marked k h = link_more marked l k h
promised_more (Drop l) Nak marked k h = h
promised_more (Drop l) Rej marked k h = h
promised_more (Drop l) FullNak marked k h = h

-- one of the numbers passes the test
pub record IsSome (test : ℕ → Bool) : Type 0 where
  pub link : ℕ
  pub is : test link ≡ true

some_of : (test : ℕ → Bool) (ls : List ℕ) → list_any test ls ≡ true → IsSome test
some_of test [] h = absurd (true≢false (sym h))
some_of test (l ∷ ls) h = ⊎_elim (λ here. record { link = l; is = here }) (λ there. some_of test ls there) (or_cases (test l) (list_any test ls) h)

pub some_link_is : (test : ℕ → Bool) → some_link test ≡ true → IsSome test
unfolding some_link
some_link_is test h = some_of test link_numbers h

-- a joined and unmarked link beside one
pub record IsBeside (l : ℕ) (e : End) : Type 0 where
  pub link : ℕ
  pub other : link ≢ l
  pub joined : e.joined link ≡ true
  pub unmarked : e.marked link ≡ false

pub is_beside : (l : ℕ) (e : End) → has_staying l e ≡ true → IsBeside l e
is_beside l e h =
    let some = some_link_is (stays_beside l e) h in
    let k = some.link in
    let parts = and_parts (not (k == l)) (e.joined k && not (e.marked k)) some.is in
    let both = and_parts (e.joined k) (not (e.marked k)) parts.1 in
    record { link = k; other = eqb-false k l (not-true (k == l) parts.0); joined = both.0; unmarked = not-true (e.marked k) both.1 }
