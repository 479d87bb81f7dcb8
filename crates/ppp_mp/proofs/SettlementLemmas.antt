-- Each point of the settlement keeps to what was sent.
use Rattle.std.proofs.Common.{◌≡◌, ℕ, zero, suc, ◌+◌, ◌≤◌, inl, min, Bool, true, false, not, if◌then◌else◌, ◌==◌, List, [], ◌∷◌, ◌++◌, length, refl, ap, sym, ◌∙◌, subst, arith, append_assoc, append-nil}
use Rattle.std.specs.Prelude.{Some, nat_le, nat_lt, slice_get}
use Rattle.std.proofs.lemmas.Bool.{eqb-true, ltb-true}
use Rattle.std.proofs.lemmas.Option.{slice_get_within}
use Rattle.ppp_mp.specs.Fragments.{AreSome, Fragment, Numbered}
use Rattle.ppp_mp.specs.Settlement.{AreRising, Move, Row, Run, Settled, at_first, by_run, given, least_held, move, moved, past_missing, run_from, settle}
use Rattle.ppp_mp.specs.Settlement.Run.{Whole, Again, Gap}
use Rattle.ppp_mp.specs.Settlement.Move.{Still, To}
use Rattle.ppp_mp.proofs.FragmentsLemmas.{alone-done, begun_at, done, done-later, first-begun, last-done, middle-begun, more_from, some-both, unended-done}

-- each is a fragment that was sent, with its number less c
abbrev pub AreOf : List Fragment → ℕ → List Numbered → Type 0
AreOf sent c [] = Unit {0}
AreOf sent c (h ∷ hs) = (slice_get sent (h.number + c) ≡ Some h.fragment) × AreOf sent c hs

module _ (sent : List Fragment) (c : ℕ) where
  -- what is held from a number on, that number being at or past m
  pub record IsFrom (m at : ℕ) (held : List Numbered) : Type 0 where
    pub past : m ≤ at
    pub within : at + c ≤ length sent
    pub rising : AreRising at held
    pub fits : AreOf sent c held

  -- ---- a run

  abbrev pub GoodRun : List (List ℕ) → ℕ → Run → Type 0
  GoodRun before m (Whole past packet rest) = IsFrom m past rest × (done sent (past + c) ≡ before ++ packet ∷ [])
  GoodRun before m (Again at rest) = IsFrom m at rest × (done sent (at + c) ≡ before)
  GoodRun before m (Gap at rest) = IsFrom m at rest × (done sent (at + c) ≡ before)

  run-good : (before : List (List ℕ)) (m : ℕ) (held : List Numbered) (n : ℕ) (begun : List ℕ) → IsFrom m n held → done sent (n + c) ≡ before → begun_at sent (n + c) ≡ begun → GoodRun before m (run_from n begun held)
  run-good before m [] n begun from was has = (from, was)
  run-good before m (h ∷ hs) n begun from was has =
      go (h.number == n) refl h.fragment.begins refl h.fragment.ends refl (run-good before m hs (n + 1) (begun ++ h.fragment.payload))
    where
      go : (same : Bool) → (h.number == n) ≡ same → (b : Bool) → h.fragment.begins ≡ b → (e : Bool) → h.fragment.ends ≡ e →
          (IsFrom m (n + 1) hs → done sent (n + 1 + c) ≡ before → begun_at sent (n + 1 + c) ≡ begun ++ h.fragment.payload → GoodRun before m (run_from (n + 1) (begun ++ h.fragment.payload) hs)) →
          GoodRun before m (if same then (if b then Again n (h ∷ hs) else if e then Whole (n + 1) (begun ++ h.fragment.payload) hs else run_from (n + 1) (begun ++ h.fragment.payload) hs) else Gap n (h ∷ hs))
      go false s b bs e es more = (from, was)
      go true s true bs e es more = (from, was)
      go true s false bs true es more =
          let same : h.number ≡ n = eqb-true h.number n s in
          let at : slice_get sent (n + c) ≡ Some h.fragment = subst (λ x. slice_get sent (x + c) ≡ Some h.fragment) same from.fits.0 in
          let low = slice_get_within sent (n + c) h.fragment at in (
            record {
              past = omega (arith, from.past);
              within = omega arith;
              rising = subst (λ x. AreRising (x + 1) hs) same from.rising.1;
              fits = from.fits.1;
            },
            last-done sent (n + c) (n + 1 + c) h.fragment begun before at (omega arith) was has bs es,
          )
      go true s false bs false es more =
          let same : h.number ≡ n = eqb-true h.number n s in
          let at : slice_get sent (n + c) ≡ Some h.fragment = subst (λ x. slice_get sent (x + c) ≡ Some h.fragment) same from.fits.0 in
          let low = slice_get_within sent (n + c) h.fragment at in
          more (record {
            past = omega (arith, from.past);
            within = omega arith;
            rising = subst (λ x. AreRising (x + 1) hs) same from.rising.1;
            fits = from.fits.1;
          }) (unended-done sent (n + c) (n + 1 + c) h.fragment begun before at (omega arith) was has es)
          (middle-begun sent (n + c) (n + 1 + c) h.fragment begun before at (omega arith) was has bs es)

  -- ---- a point

  -- the packets that ended between two numbers, some of which were delivered
  pub record Gave (n at : ℕ) (out : List (List ℕ)) : Type 0 where
    pub more : List (List ℕ)
    pub done_is : done sent (at + c) ≡ done sent (n + c) ++ more
    pub some : AreSome out more

  abbrev pub GoodMove : ℕ → Move → Type 0
  GoodMove n Still = Unit {0}
  GoodMove n (To r out) = IsFrom n r.next r.held × Gave n r.next out

  gave-none : (n at : ℕ) → n ≤ at → Gave n at []
  gave-none n at up = record { more = more_from sent (n + c) (at + c); done_is = done-later sent (n + c) (at + c) (omega arith); some = tt }

  some-given : (most : ℕ) (packet : List ℕ) → AreSome (given most packet) (packet ∷ [])
  some-given most packet = go (nat_le (length packet) most)
    where
      go : (b : Bool) → AreSome (if b then packet ∷ [] else []) (packet ∷ [])
      go true = inl (refl, tt)
      go false = tt

  by_run-good : (limit most n : ℕ) (r : Run) → GoodRun (done sent (n + c)) n r → GoodMove n (by_run limit most r)
  by_run-good limit most n (Whole past packet rest) h = (h.0, record { more = packet ∷ []; done_is = h.1; some = some-given most packet })
  by_run-good limit most n (Again at rest) h = (h.0, gave-none n at h.0.past)
  by_run-good limit most n (Gap at rest) h = go (nat_lt at limit)
    where
      go : (b : Bool) → GoodMove n (if b then To (record { next = at; held = rest }) [] else Still)
      go true = (h.0, gave-none n at h.0.past)
      go false = tt

  at_first-good : (limit most n : ℕ) (h : Numbered) (hs : List Numbered) → h.number ≡ n → IsFrom n n (h ∷ hs) → GoodMove n (at_first limit most n h hs)
  at_first-good limit most n h hs same from = go h.fragment.begins refl h.fragment.ends refl
    where
      behind : slice_get sent (n + c) ≡ Some h.fragment → IsFrom n (n + 1) hs
      behind at =
          let low = slice_get_within sent (n + c) h.fragment at in
          record { past = omega arith; within = omega arith; rising = subst (λ x. AreRising (x + 1) hs) same from.rising.1; fits = from.fits.1 }

      go : (b : Bool) → h.fragment.begins ≡ b → (e : Bool) → h.fragment.ends ≡ e →
          GoodMove n (if not b then To (record { next = n + 1; held = hs }) [] else by_run limit most (if e then Whole (n + 1) h.fragment.payload hs else run_from (n + 1) h.fragment.payload hs))
      go false bs e es =
          let at : slice_get sent (n + c) ≡ Some h.fragment = subst (λ x. slice_get sent (x + c) ≡ Some h.fragment) same from.fits.0 in
          (behind at, gave-none n (n + 1) (omega arith))
      go true bs true es =
          let at : slice_get sent (n + c) ≡ Some h.fragment = subst (λ x. slice_get sent (x + c) ≡ Some h.fragment) same from.fits.0 in (
            behind at,
            record {
              more = h.fragment.payload ∷ [];
              done_is = alone-done sent (n + c) (n + 1 + c) h.fragment (begun_at sent (n + c)) (done sent (n + c)) at (omega arith) refl refl bs es;
              some = some-given most h.fragment.payload;
            },
          )
      go true bs false es =
          let at : slice_get sent (n + c) ≡ Some h.fragment = subst (λ x. slice_get sent (x + c) ≡ Some h.fragment) same from.fits.0 in
          by_run-good limit most n (run_from (n + 1) h.fragment.payload hs) (
          run-good (done sent (n + c)) n hs (n + 1) h.fragment.payload (behind at)
          (unended-done sent (n + c) (n + 1 + c) h.fragment (begun_at sent (n + c)) (done sent (n + c)) at (omega arith) refl refl es)
          (first-begun sent (n + c) (n + 1 + c) h.fragment (begun_at sent (n + c)) (done sent (n + c)) at (omega arith) refl refl bs es))

  past_missing-good : (limit most n : ℕ) (held : List Numbered) → limit + c ≤ length sent → IsFrom n n held → GoodMove n (past_missing limit n held)
  past_missing-good limit most n held few from = go held from (nat_lt n limit) refl
    where
      go : (held : List Numbered) → IsFrom n n held → (b : Bool) → nat_lt n limit ≡ b → GoodMove n (if b then To (record { next = least_held limit held; held = held }) [] else Still)
      go held from false e = tt
      go [] from true e =
          let low = ltb-true n limit e in
          (record { past = omega arith; within = few; rising = tt; fits = tt }, gave-none n limit (omega arith))
      go (h ∷ hs) from true e =
          let low = ltb-true n limit e in
          let up = from.rising.0 in
          (record { past = omega arith; within = omega arith; rising = (omega arith, from.rising.1); fits = from.fits }, gave-none n (min h.number limit) (omega arith))

  move-good : (limit most n : ℕ) (held : List Numbered) → limit + c ≤ length sent → IsFrom n n held → GoodMove n (move limit most n held)
  move-good limit most n [] few from = past_missing-good limit most n [] few from
  move-good limit most n (h ∷ hs) few from = go (h.number == n) refl
    where
      go : (b : Bool) → (h.number == n) ≡ b → GoodMove n (if b then at_first limit most n h hs else past_missing limit n (h ∷ hs))
      go true e = at_first-good limit most n h hs (eqb-true h.number n e) from
      go false e = past_missing-good limit most n (h ∷ hs) few from

  -- ---- all points

  abbrev pub GoodSettled : ℕ → Settled → Type 0
  GoodSettled n s = IsFrom n s.row.next s.row.held × Gave n s.row.next s.out

  then-gave : (l m n : ℕ) (one two : List (List ℕ)) → Gave l m one → Gave m n two → Gave l n (one ++ two)
  then-gave l m n one two a b = record {
    more = a.more ++ b.more;
    done_is = b.done_is ∙ ap (λ x. x ++ b.more) a.done_is ∙ append_assoc (done sent (l + c)) a.more b.more;
    some = some-both one a.more two b.more a.some b.some;
  }

  from-itself : (n at : ℕ) (held : List Numbered) → IsFrom n at held → IsFrom at at held
  from-itself n at held h = record { past = omega arith; within = h.within; rising = h.rising; fits = h.fits }

  moved-good : (more : Row → Settled) (r : Row) (m : Move) → IsFrom r.next r.next r.held → GoodMove r.next m →
      ((s : Row) → IsFrom s.next s.next s.held → GoodSettled s.next (more s)) → GoodSettled r.next (moved more r m)
  moved-good more r Still from good rest = (from, record { more = []; done_is = sym (append-nil (done sent (r.next + c))); some = tt })
  moved-good more r (To s out) from good rest =
      let last = rest s (from-itself r.next s.next s.held good.0) in (
        record {
          past = omega (arith, good.0.past, last.0.past);
          within = last.0.within;
          rising = last.0.rising;
          fits = last.0.fits;
        },
        then-gave r.next s.next (more s).row.next out (more s).out good.1 last.1,
      )

  pub settle-good : (points limit most : ℕ) (r : Row) → limit + c ≤ length sent → IsFrom r.next r.next r.held → GoodSettled r.next (settle points limit most r)
  settle-good zero limit most r few from = (from, record { more = []; done_is = sym (append-nil (done sent (r.next + c))); some = tt })
  settle-good (suc points) limit most r few from =
      moved-good (settle points limit most) r (move limit most r.next r.held) from (move-good limit most r.next r.held few from)
      (λ s h. settle-good points limit most s few h)
