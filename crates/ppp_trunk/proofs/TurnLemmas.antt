-- LCP tells in turn that it came to be Opened and left Opened, and while it isn't Opened its link is in no bundle.
use Rattle.std.proofs.Common.{◌≡◌, ℕ, ◌+◌, ◌-◌, ◌≤◌, Bool, true, false, if◌then◌else◌, List, [], ◌∷◌, refl, sym, ap, subst, ◌∙◌, arith, true≢false}
use Rattle.std.specs.Prelude.{Option, Some, None, option_map, slice_get}
use Rattle.ppp_auto.specs.Auto.{Auto, is_opened}
use Rattle.ppp_bundle.specs.Bundles.{Bundles, Member, bundle_at, member_at}
use Rattle.ppp_link.specs.Link.{Link}
use Rattle.ppp_link.specs.LinkOut.{Entry as Told, Push, LcpUp, LcpDown, Finished, NetUp, NetDown, Payload}
use Rattle.ppp_trunk.specs.Control.{Run, goes}
use Rattle.ppp_trunk.specs.Phases.{IsJoinedBy, IsTrunk}
use Rattle.ppp_trunk.specs.Trunk.{Trunk}
use Rattle.ppp_trunk.specs.StationOut.{Got}
use Rattle.ppp_trunk.specs.Steps.{Done, Happening, InTurn, and_tells, comes_up, follows, hands_up, link_does, runs, runs_all, runs_at, works_one}
use Rattle.ppp_trunk.proofs.BundleLemmas.{none-at}
use Rattle.ppp_trunk.proofs.SteadyLemmas.{link-steady}

-- ---- at the start

-- a link whose LCP isn't Opened is in no bundle
closed-out : (o : Option Member) (lcp : Auto) → IsJoinedBy o lcp → is_opened lcp.state ≡ false → option_map (λ m. m.bundle) o ≡ None
closed-out None lcp joined closed = refl
closed-out (Some m) lcp joined closed = absurd (true≢false (sym joined.0 ∙ closed))

pub out-closed : (l : ℕ) (st : Trunk) (k : Link) → 1 ≤ l → slice_get st.links (l - 1) ≡ Some k → IsTrunk st → is_opened k.automata.lcp.state ≡ false →
    bundle_at l st.bundles ≡ None
unfolding IsTrunk
out-closed l st k low is trunk closed =
    let at : l - 1 + 1 ≡ l = omega arith in
    closed-out (member_at l st.bundles) k.automata.lcp (subst (λ m. IsJoinedBy (member_at m st.bundles) k.automata.lcp) at (trunk.joined (l - 1) k is)) closed

pub in-turn : (what : Happening) (l word : ℕ) (st : Trunk) (k : Link) → 1 ≤ l → slice_get st.links (l - 1) ≡ Some k → IsTrunk st →
    InTurn l st.bundles (link_does what k word).out
in-turn what l word st k low is trunk = record {
  opened = is_opened k.automata.lcp.state;
  tells = (link-steady what k word).turn;
  out = λ closed. out-closed l st k low is trunk closed;
}

-- ---- entry by entry

run-bundles : (r : Run) (word : ℕ) (o : Option Link) (done : Done) → (runs_at r word o done).bundles ≡ done.bundles
run-bundles r word None done = refl
run-bundles r word (Some k) done = refl

pub all-bundles : (word : ℕ) (rs : List Run) (done : Done) → (runs_all word rs done).bundles ≡ done.bundles
unfolding runs_all runs
all-bundles word [] done = refl
all-bundles word (r ∷ rs) done =
    all-bundles word rs (runs word r done) ∙ run-bundles r word (slice_get done.links (r.link - 1)) done

up-turn : (l word : ℕ) (o : Option Link) (es : List Told) (done : Done) → InTurn l done.bundles (LcpUp ∷ es) → InTurn l (comes_up l word o done).bundles es
up-turn l word o es done turn = record { opened = true; tells = turn.tells.1; out = λ closed. absurd (true≢false closed) }

down-out : (l word : ℕ) (done : Done) → bundle_at l (follows word (goes l done.bundles) done).bundles ≡ None
unfolding goes
down-out l word done =
    ap (bundle_at l) (all-bundles word (goes l done.bundles).runs (record done { bundles = (goes l done.bundles).bundles }))
    ∙ ap (option_map (λ (m : Member). m.bundle)) (none-at l done.bundles)

handed : (handed : Bool) (l protocol : ℕ) (octets : List ℕ) (done : Done) → (if handed then and_tells done (Got None protocol octets) else done).bundles ≡ done.bundles
handed true l protocol octets done = refl
handed false l protocol octets done = refl

-- the entries that are left tell in turn, wherever the bundles are the same
turn-same : (l : ℕ) (b c : Bundles) (es : List Told) → c ≡ b → InTurn l b es → InTurn l c es
turn-same l b c es same turn = subst (λ b. InTurn l b es) (sym same) turn

pub turn-next : (l word : ℕ) (e : Told) (es : List Told) (done : Done) → InTurn l done.bundles (e ∷ es) → InTurn l (works_one l word e done).bundles es
unfolding works_one
turn-next l word (Push octets) es done turn = record { opened = turn.opened; tells = turn.tells; out = turn.out }
turn-next l word LcpUp es done turn = up-turn l word (slice_get done.links (l - 1)) es done turn
turn-next l word LcpDown es done turn = record { opened = false; tells = turn.tells; out = λ closed. down-out l word done }
turn-next l word Finished es done turn = record { opened = turn.opened; tells = turn.tells; out = turn.out }
turn-next l word (NetUp p) es done turn = record { opened = turn.opened; tells = turn.tells; out = turn.out }
turn-next l word (NetDown p) es done turn = record { opened = turn.opened; tells = turn.tells; out = turn.out }
turn-next l word (Payload protocol octets) es done turn =
    turn-same l done.bundles (hands_up l protocol octets done).bundles es (handed _ l protocol octets done)
    (record { opened = turn.opened; tells = turn.tells; out = turn.out })

pub turn-now : (l : ℕ) (b : Bundles) (es : List Told) → InTurn l b (LcpUp ∷ es) → bundle_at l b ≡ None
turn-now l b es turn = turn.out turn.tells.0
