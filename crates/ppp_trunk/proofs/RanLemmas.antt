-- What control protocols that go Up and Down do to each link of a trunk.
use Rattle.std.proofs.Common.{◌≡◌, ◌≢◌, ℕ, ◌-◌, ◌≤◌, Bool, true, false, if◌then◌else◌, List, [], ◌∷◌, length, refl, sym, ap, subst, ◌∙◌, inl, inr, eq-eqb, ne_eqb}
use Rattle.std.specs.Prelude.{◌⊎◌, ◌==◌, ◌&&◌, Option, Some, None, slice_get}
use Rattle.std.proofs.lemmas.Option.{same_Some}
use Rattle.ppp_auto.specs.Auto.{Auto}
use Rattle.ppp_auto.specs.Automaton.{does_row}
use Rattle.ppp_packet.specs.declared.proto.Proto.{Proto}
use Rattle.ppp_packet.specs.declared.proto.Proto.TheVariants.{Lcp}
use Rattle.ppp_link.specs.Automata.{auto_at}
use Rattle.ppp_link.specs.Link.{Link, link_with, run_did}
use Rattle.ppp_link.specs.LinkTables.{LinkTables}
use Rattle.ppp_link.specs.Steps.{begins, run_by}
use Rattle.ppp_trunk.specs.Control.{Run}
use Rattle.ppp_trunk.specs.Moves.{goes_with}
use Rattle.ppp_trunk.specs.Orders.{Commands, auto_by}
use Rattle.ppp_trunk.specs.Phases.{IsUpWhere}
use Rattle.ppp_trunk.specs.Steps.{Done, runs, runs_all, runs_at}
use Rattle.ppp_trunk.proofs.LinksLemmas.{same-or, with-length, with-others, with-own}
use Rattle.ppp_trunk.proofs.OrdersLemmas.{no-orders, run-tracks}
use Rattle.ppp_trunk.proofs.SteadyLemmas.{down-off, up-on}
use Rattle.ppp_trunk.proofs.UpLemmas.{all_upped}

-- ---- one of the automata

run-up : (t : LinkTables) (p : Proto) (word : ℕ) (on : Bool) (o : Option Auto) → IsUpWhere on (auto_by t p word (Commands (run_by on) ∷ []) o)
unfolding does_row
run-up t p word on None = tt
run-up t p word true (Some a) = up-on a.state
run-up t p word false (Some a) = down-off a.state

group-up : (t : LinkTables) (p : Proto) (word : ℕ) (goes on up : Bool) (o : Option Auto) → IsUpWhere up o →
    IsUpWhere (if goes then on else up) (auto_by t p word (if goes then Commands (run_by on) ∷ [] else []) o)
group-up t p word true on up o is = run-up t p word on o
group-up t p word false on up o is = rw (no-orders t p word o).0 is

-- ---- one link

-- LCP stays, and any other automaton is Up where the last of them left it
pub record Ran (m : ℕ) (rs : List Run) (k now : Link) : Type 0 where
  pub lcp : now.automata.lcp ≡ k.automata.lcp
  pub ups : (p : Proto) (up : Bool) → p ≢ Lcp → IsUpWhere up (auto_at k.automata p) → IsUpWhere (all_upped m p up rs) (auto_at now.automata p)

ran-own : (m word : ℕ) (r : Run) (k : Link) → r.link ≡ m → Ran m (r ∷ []) k (link_with k (run_did k r.on r.bacp word))
ran-own m word r k same =
    let t = k.tables in
    let did = run_did k r.on r.bacp word in
    record {
      lcp = same_Some did.automata.lcp k.automata.lcp (run-tracks Lcp t r.bacp word (run_by r.on) (begins k.automata)).auto;
      ups = λ p up other is.
          let o = auto_at k.automata p in
          let goes = goes_with p r.bacp in
          let at : (if (r.link == m) && goes then r.on else up) ≡ (if goes then r.on else up) = ap (λ b. if b && goes then r.on else up) (eq-eqb r.link m same) in
          rw (at, (run-tracks p t r.bacp word (run_by r.on) (begins k.automata)).auto) (group-up t p word goes r.on up o is);
    }

ran-aside : (m : ℕ) (r : Run) (k : Link) → r.link ≢ m → Ran m (r ∷ []) k k
ran-aside m r k other = record {
  lcp = refl;
  ups = λ p up net is.
      let at : (if (r.link == m) && goes_with p r.bacp then r.on else up) ≡ up = ap (λ b. if b && goes_with p r.bacp then r.on else up) (ne_eqb r.link m other) in
      rw at is;
}

-- ---- a link among others

-- so it is with a link that is there
abbrev pub RanIf : ℕ → List Run → Option Link → Option Link → Type 0
RanIf m rs None None = Unit {0}
RanIf m rs None (Some now) = ⊥
RanIf m rs (Some k) None = ⊥
RanIf m rs (Some k) (Some now) = Ran m rs k now

none-ran : (m : ℕ) (o : Option Link) → RanIf m [] o o
none-ran m None = tt
none-ran m (Some k) = record { lcp = refl; ups = λ p up other is. is }

aside-ran : (m : ℕ) (r : Run) (o : Option Link) → r.link ≢ m → RanIf m (r ∷ []) o o
aside-ran m r None other = tt
aside-ran m r (Some k) other = ran-aside m r k other

one-ran : (m word : ℕ) (r : Run) (o : Option Link) (done : Done) → 1 ≤ m → slice_get done.links (r.link - 1) ≡ o → (r.link ≡ m) ⊎ (r.link ≢ m) →
    RanIf m (r ∷ []) (slice_get done.links (m - 1)) (slice_get (runs_at r word o done).links (m - 1))
one-ran m word r None done low is (inl same) =
    let at : slice_get done.links (m - 1) ≡ None = ap (λ l. slice_get done.links (l - 1)) (sym same) ∙ is in
    rw at tt
one-ran m word r (Some k) done low is (inl same) =
    let new = link_with k (run_did k r.on r.bacp word) in
    let at : slice_get done.links (m - 1) ≡ Some k = ap (λ l. slice_get done.links (l - 1)) (sym same) ∙ is in
    let now : slice_get (runs_at r word (Some k) done).links (m - 1) ≡ Some new =
    ap (λ l. slice_get (runs_at r word (Some k) done).links (l - 1)) (sym same) ∙ with-own done.links r.link new k (subst (λ l. 1 ≤ l) (sym same) low) is in
    subst (λ o. RanIf m (r ∷ []) o (slice_get (runs_at r word (Some k) done).links (m - 1))) (sym at)
    (subst (λ o. RanIf m (r ∷ []) (Some k) o) (sym now) (ran-own m word r k same))
one-ran m word r None done low is (inr other) = aside-ran m r (slice_get done.links (m - 1)) other
one-ran m word r (Some k) done low is (inr other) =
    subst (λ o. RanIf m (r ∷ []) (slice_get done.links (m - 1)) o) (sym (with-others done.links r.link m (link_with k (run_did k r.on r.bacp word)) low other))
    (aside-ran m r (slice_get done.links (m - 1)) other)

behind : (m : ℕ) (r : Run) (rs : List Run) (a b c : Option Link) → RanIf m (r ∷ []) a b → RanIf m rs b c → RanIf m (r ∷ rs) a c
behind m r rs None None None first rest = tt
behind m r rs None None (Some c) first rest = rest
behind m r rs None (Some b) c first rest = absurd first
behind m r rs (Some a) None c first rest = absurd first
behind m r rs (Some a) (Some b) None first rest = rest
behind m r rs (Some a) (Some b) (Some c) first rest = record {
  lcp = rest.lcp ∙ first.lcp;
  ups = λ p up other is. rest.ups p (all_upped m p up (r ∷ [])) other (first.ups p up other is);
}

pub all-ran : (m word : ℕ) (rs : List Run) (done : Done) → 1 ≤ m → RanIf m rs (slice_get done.links (m - 1)) (slice_get (runs_all word rs done).links (m - 1))
unfolding runs_all runs
all-ran m word [] done low = none-ran m (slice_get done.links (m - 1))
all-ran m word (r ∷ rs) done low =
    behind m r rs (slice_get done.links (m - 1)) (slice_get (runs word r done).links (m - 1)) (slice_get (runs_all word rs (runs word r done)).links (m - 1))
    (one-ran m word r (slice_get done.links (r.link - 1)) done low refl (same-or r.link m))
    (all-ran m word rs (runs word r done) low)

-- the link as it was before
pub record RanFrom (m : ℕ) (rs : List Run) (o : Option Link) (now : Link) : Type 0 where
  pub link : Link
  pub at : o ≡ Some link
  pub ran : Ran m rs link now

pub ran-from : (m : ℕ) (rs : List Run) (o : Option Link) (now : Link) → RanIf m rs o (Some now) → RanFrom m rs o now
ran-from m rs None now ran = absurd ran
ran-from m rs (Some k) now ran = record { link = k; at = refl; ran = ran }

run-length : (word : ℕ) (r : Run) (o : Option Link) (done : Done) → length (runs_at r word o done).links ≡ length done.links
run-length word r None done = refl
run-length word r (Some k) done = with-length r.link (link_with k (run_did k r.on r.bacp word)) done.links

pub all-length : (word : ℕ) (rs : List Run) (done : Done) → length (runs_all word rs done).links ≡ length done.links
unfolding runs_all runs
all-length word [] done = refl
all-length word (r ∷ rs) done = all-length word rs (runs word r done) ∙ run-length word r (slice_get done.links (r.link - 1)) done
