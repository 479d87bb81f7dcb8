-- Which links the control protocols go Up or Down on.
use Rattle.std.proofs.Common.{ℕ, ◌+◌, ◌≤◌, Bool, true, false, if◌then◌else◌, List, [], ◌∷◌, ◌++◌, arith}
use Rattle.std.specs.Prelude.{Option, Some, None, nat_le}
use Rattle.std.specs.List.{AllByRecursion}
use Rattle.std.specs.Option.{option_map}
use Rattle.ppp_bundle.specs.Bundles.{Bundles, bundle_at, control_of, first_of, first_some, is_senior_by, keys_in, least_from, left, numbered}
use Rattle.ppp_bundle.specs.JoinKey.{Key}
use Rattle.ppp_bundle.specs.Joining.{join_answer, joined_as}
use Rattle.ppp_bundle.specs.declared.join.Join.{Join}
use Rattle.ppp_bundle.specs.declared.join.Join.TheVariants.{First, Added, Single}
use Rattle.ppp_trunk.specs.Control.{Run, comes, control_run, goes, is_same_link, joined_runs, left_runs, moves}
use Rattle.ppp_trunk.proofs.ListLemmas.{AllByRecursion-append}

-- links are numbered from 1 on
abbrev pub IsFromOne : Run → Type 0
IsFromOne r = 1 ≤ r.link

abbrev pub AreFromOne : List Run → Type 0
AreFromOne rs = AllByRecursion IsFromOne rs

-- ---- the control link of a bundle

-- where there is one, it is no lesser
abbrev IsFrom : ℕ → Option ℕ → Type 0
IsFrom l None = Unit {0}
IsFrom l (Some link) = l ≤ link

from-next : (l : ℕ) (o : Option ℕ) → IsFrom (l + 1) o → IsFrom l o
from-next l None is = tt
from-next l (Some link) is = omega (arith, is)

first-from : (l : ℕ) (o p : Option _) → let first = first_of o p in
    IsFrom l (option_map (λ c. c.link) o) → IsFrom l (option_map (λ c. c.link) p) → IsFrom l (option_map (λ c. c.link) first)
first-from l None p one two = two
first-from l (Some c) None one two = one
first-from l (Some c) (Some d) one two = by (nat_le c.number d.number)
  where
    by : (b : Bool) → IsFrom l (option_map (λ c. c.link) (if b then Some c else Some d))
    by true = one
    by false = two

numbered-from : (senior : Bool) (l : ℕ) (o : Option Key) → IsFrom l (option_map (λ c. c.link) (numbered senior l o))
numbered-from senior l None = tt
numbered-from senior l (Some k) = omega arith

least-from : (senior : Bool) (l : ℕ) (ks : List (Option Key)) → IsFrom l (option_map (λ c. c.link) (least_from senior l ks))
least-from senior l [] = tt
least-from senior l (k ∷ ks) =
    first-from l (numbered senior l k) (least_from senior (l + 1) ks) (numbered-from senior l k) (from-next l (option_map (λ c. c.link) (least_from senior (l + 1) ks)) (least-from senior (l + 1) ks))

-- ---- runs

run-from : (on : Bool) (o : Option ℕ) → IsFrom 1 o → AreFromOne (control_run on o)
run-from on None is = tt
run-from on (Some link) is = (is, tt)

control-from : (on : Bool) (i : ℕ) (b : Bundles) → AreFromOne (control_run on (control_of i b))
control-from on i b = let ks = keys_in i b in run-from on (control_of i b) (least-from (is_senior_by (first_some ks)) 1 ks)

if-from : (b : Bool) (rs : List Run) → AreFromOne rs → AreFromOne (if b then [] else rs)
if-from true rs are = tt
if-from false rs are = are

moves-from : (i : ℕ) (old new : Bundles) → AreFromOne (moves (control_of i old) (control_of i new))
moves-from i old new =
    let down = control_run false (control_of i old) in
    let up = control_run true (control_of i new) in
    if-from (is_same_link (control_of i old) (control_of i new)) (down ++ up) (AllByRecursion-append IsFromOne down up (control-from false i old) (control-from true i new))

joined-from : (l : ℕ) (join : Join) (old new : Bundles) → 1 ≤ l → AreFromOne (joined_runs l join old new)
joined-from l (First i) old new low = moves-from i old new
joined-from l (Added i) old new low = moves-from i old new
joined-from l (Single why) old new low = (low, tt)

left-from : (l : ℕ) (o : Option ℕ) (old new : Bundles) → 1 ≤ l → AreFromOne (left_runs l o old new)
left-from l None old new low = (low, tt)
left-from l (Some i) old new low = (low, moves-from i old new)

-- those of a link that joins or leaves
pub comes-from : (l : ℕ) (key : Key) (b : Bundles) → 1 ≤ l → AreFromOne (comes l key b).runs
unfolding comes
comes-from l key b low = joined-from l (join_answer key b) b (joined_as l key b) low

pub goes-from : (l : ℕ) (b : Bundles) → 1 ≤ l → AreFromOne (goes l b).runs
unfolding goes
goes-from l b low = left-from l (bundle_at l b) b (left l b) low
