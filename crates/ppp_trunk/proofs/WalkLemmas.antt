-- What holds of a trunk while the entries of a link's step are worked off.
use Rattle.std.proofs.Common.{◌≡◌, ℕ, ◌-◌, Bool, true, false, if◌then◌else◌, List, [], ◌∷◌, refl, Some, slice_get}
use Rattle.std.specs.Prelude.{Option, None}
use Rattle.std.specs.List.{AllByRecursion}
use Rattle.ppp_bundle.specs.Bundles.{Bundles}
use Rattle.ppp_bundle.specs.JoinKey.{Key}
use Rattle.ppp_link.specs.Link.{Link}
use Rattle.ppp_link.specs.LinkOut.{Entry as LinkTold}
use Rattle.ppp_link.specs.LinkOut as told
use Rattle.ppp_trunk.specs.Control.{Moved, Run, comes, goes, key_in}
use Rattle.ppp_trunk.specs.StationOut.{Push, Got, Hang}
use Rattle.ppp_trunk.specs.Steps.{Done, and_tells, comes_up, follows, is_taken, runs, runs_all, runs_at, works, works_one}

-- what is so of anything is so of each in a list
pub all-any : {X : Type 0} (P : X → Type 0) → ((x : X) → P x) → (xs : List X) → AllByRecursion P xs
all-any P any [] = tt
all-any P any (x ∷ xs) = (any x, all-any P any xs)

-- P is kept, where those entries come of link l, and where its signals cause those runs
pub record IsKept (l word : ℕ) (IsTold : LinkTold → Type 0) (IsRun : Run → Type 0) (P : Done → Type 0) : Type 0 where
  pub pushed : (done : Done) (octets : List ℕ) → IsTold (told.Push octets) → P done → P (and_tells done (Push l octets))
  pub handed : (done : Done) (number : ℕ) (octets : List ℕ) → P done → P (and_tells done (Got None number octets))
  pub hung : (done : Done) → P done → P (and_tells done (Hang l))
  pub moved : (done : Done) (b : Bundles) → P done → P (record done { bundles = b })
  pub ran : (done : Done) (r : Run) (k : Link) → IsRun r → slice_get done.links (r.link - 1) ≡ Some k → P done → P (runs_at r word (Some k) done)
  pub came : (key : Key) (b : Bundles) → AllByRecursion IsRun (comes l key b).runs
  pub went : (b : Bundles) → AllByRecursion IsRun (goes l b).runs

module _ (l word : ℕ) (IsTold : LinkTold → Type 0) (IsRun : Run → Type 0) (P : Done → Type 0) (keeps : IsKept l word IsTold IsRun P) where
  at-kept : (r : Run) (o : Option Link) (done : Done) → IsRun r → slice_get done.links (r.link - 1) ≡ o → P done → P (runs_at r word o done)
  at-kept r None done is at holds = holds
  at-kept r (Some k) done is at holds = keeps.ran done r k is at holds

  all-kept : (rs : List Run) (done : Done) → AllByRecursion IsRun rs → P done → P (runs_all word rs done)
  unfolding runs_all runs
  all-kept [] done are holds = holds
  all-kept (r ∷ rs) done are holds = all-kept rs (runs word r done) are.1 (at-kept r (slice_get done.links (r.link - 1)) done are.0 refl holds)

  follows-kept : (m : Moved) (done : Done) → AllByRecursion IsRun m.runs → P done → P (follows word m done)
  follows-kept m done are holds = all-kept m.runs (record done { bundles = m.bundles }) are (keeps.moved done m.bundles holds)

  came-kept : (o : Option Link) (done : Done) → P done → P (comes_up l word o done)
  came-kept None done holds = holds
  came-kept (Some k) done holds = let key = key_in k.automata.lcp in follows-kept (comes l key done.bundles) done (keeps.came key done.bundles) holds

  hands-kept : (number : ℕ) (octets : List ℕ) (done : Done) (b : Bool) → P done → P (if b then and_tells done (Got None number octets) else done)
  hands-kept number octets done true holds = keeps.handed done number octets holds
  hands-kept number octets done false holds = holds

  one-kept : (e : LinkTold) (done : Done) → IsTold e → P done → P (works_one l word e done)
  unfolding works_one
  one-kept (told.Push octets) done is holds = keeps.pushed done octets is holds
  one-kept told.LcpUp done is holds = came-kept (slice_get done.links (l - 1)) done holds
  one-kept told.LcpDown done is holds = follows-kept (goes l done.bundles) done (keeps.went done.bundles) holds
  one-kept told.Finished done is holds = keeps.hung done holds
  one-kept (told.NetUp q) done is holds = holds
  one-kept (told.NetDown q) done is holds = holds
  one-kept (told.Payload number octets) done is holds =
      hands-kept number octets done (is_taken done.links l number done.bundles) holds

  pub works-kept : (es : List LinkTold) (done : Done) → AllByRecursion IsTold es → P done → P (works l word es done)
  unfolding works
  works-kept [] done are holds = holds
  works-kept (e ∷ es) done are holds = works-kept es (works_one l word e done) are.1 (one-kept e done are.0 holds)
