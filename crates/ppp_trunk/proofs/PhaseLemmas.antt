-- Where control protocols above LCP are Up while the entries of a link's step are worked off: on a single link exactly while
-- LCP tells that it is Opened, in a bundle on its control link.
use Rattle.std.proofs.Common.{◌≡◌, ◌≢◌, ℕ, ◌-◌, ◌≤◌, Bool, true, false, if◌then◌else◌, List, [], ◌∷◌, length, refl, sym, ap, subst, ◌∙◌, true≢false}
use Rattle.std.specs.Prelude.{Option, Some, None, option_map, slice_get}
use Rattle.std.proofs.lemmas.Option.{none-some, same_Some}
use Rattle.ppp_auto.specs.Auto.{Auto, is_opened}
use Rattle.ppp_packet.specs.declared.proto.Proto.{Proto}
use Rattle.ppp_packet.specs.declared.proto.Proto.TheVariants.{Lcp}
use Rattle.ppp_bundle.specs.BundleTable.{IsBundles, IsLinkOf}
use Rattle.ppp_bundle.specs.Bundles.{Bundles, Member, bundle_at, left, member_at}
use Rattle.ppp_bundle.specs.Joining.{joined_as}
use Rattle.ppp_bundle.specs.declared.limits.Limits.{Limits}
use Rattle.ppp_link.specs.Automata.{auto_at}
use Rattle.ppp_link.specs.Link.{Link}
use Rattle.ppp_link.specs.LinkOut.{Entry as Told, Push, LcpUp, LcpDown, Finished, NetUp, NetDown, Payload}
use Rattle.ppp_trunk.specs.Control.{Run, comes, goes, key_in}
use Rattle.ppp_trunk.specs.Phases.{IsUpWhere, is_up}
use Rattle.ppp_trunk.specs.Trunk.{limits_of}
use Rattle.ppp_trunk.specs.StationOut.{Got}
use Rattle.ppp_trunk.specs.Steps.{Done, TellsInTurn, and_tells, comes_up, follows, runs_all, works, works_one}
use Rattle.ppp_trunk.proofs.BundleLemmas.{joined-key, joins-bundles, leaves-bundles, limits-joined, none-at, others-at, others-joined}
use Rattle.ppp_trunk.proofs.RanLemmas.{Ran, RanFrom, RanIf, all-length, all-ran, ran-from}
use Rattle.ppp_trunk.proofs.SteadyLemmas.{IsStill, all_opened}
use Rattle.ppp_trunk.proofs.TurnLemmas.{all-bundles}
use Rattle.ppp_trunk.proofs.UpLemmas.{all_upped, other-comes, other-goes, own-comes, own-goes}

-- ---- what is so of a link in between

-- a joined link counts as Opened, and if so it is joined by what LCP grants; the others are Up where they are to be
pub record Holds (m : ℕ) (opened : Bool) (Still : Type 0) (b : Bundles) (k : Link) : Type 0 where
  pub joined : (j : Member) → member_at m b ≡ Some j → opened ≡ true
  pub keyed : (j : Member) → member_at m b ≡ Some j → Still → j.key ≡ key_in k.automata.lcp
  pub up : (p : Proto) → p ≢ Lcp → IsUpWhere (is_up p m opened b) (auto_at k.automata p)

-- as if LCP of link l were Opened or not, where those entries are left
pub record Walks (l : ℕ) (lcp : Auto) (opened : Bool) (es : List Told) (b : Bundles) (links : List Link) : Type 0 where
  pub limits : b.limits ≡ limits_of (length links)
  pub bundles : IsBundles b
  pub of : IsLinkOf b l
  pub same : (k : Link) → slice_get links (l - 1) ≡ Some k → k.automata.lcp ≡ lcp
  pub own : (k : Link) → slice_get links (l - 1) ≡ Some k → Holds l opened (IsStill es) b k
  pub others : (m : ℕ) (k : Link) → 1 ≤ m → m ≢ l → slice_get links (m - 1) ≡ Some k → Holds m (is_opened k.automata.lcp.state) (Unit {0}) b k

-- ---- control protocols go Up and Down

-- the link as it was, where it is there now
found : (m word : ℕ) (rs : List Run) (done : Done) (now : Link) → 1 ≤ m → slice_get (runs_all word rs done).links (m - 1) ≡ Some now →
    RanFrom m rs (slice_get done.links (m - 1)) now
found m word rs done now low is = ran-from m rs (slice_get done.links (m - 1)) now (subst (λ o. RanIf m rs (slice_get done.links (m - 1)) o) is (all-ran m word rs done low))

up-after : (m : ℕ) (rs : List Run) (b c : Bundles) (was opened : Bool) (k now : Link) → Ran m rs k now →
    ((p : Proto) → p ≢ Lcp → all_upped m p (is_up p m was b) rs ≡ is_up p m opened c) →
    ((p : Proto) → p ≢ Lcp → IsUpWhere (is_up p m was b) (auto_at k.automata p)) → (p : Proto) → p ≢ Lcp → IsUpWhere (is_up p m opened c) (auto_at now.automata p)
up-after m rs b c was opened k now ran moved up p net =
    subst (λ b. IsUpWhere b (auto_at now.automata p)) (moved p net) (ran.ups p (is_up p m was b) net (up p net))

-- any other link
other-holds : (m : ℕ) (rs : List Run) (b c : Bundles) (k now : Link) → Ran m rs k now → member_at m c ≡ member_at m b →
    ((p : Proto) (opened : Bool) → p ≢ Lcp → all_upped m p (is_up p m opened b) rs ≡ is_up p m opened c) →
    Holds m (is_opened k.automata.lcp.state) (Unit {0}) b k → Holds m (is_opened now.automata.lcp.state) (Unit {0}) c now
other-holds m rs b c k now ran stays moved holds =
    let same : is_opened k.automata.lcp.state ≡ is_opened now.automata.lcp.state = ap (λ (a : Auto). is_opened a.state) (sym ran.lcp) in
    subst (λ opened. Holds m opened (Unit {0}) c now) same (record {
      joined = λ j is. holds.joined j (sym stays ∙ is);
      keyed = λ j is still. holds.keyed j (sym stays ∙ is) still ∙ ap key_in (sym ran.lcp);
      up = up-after m rs b c (is_opened k.automata.lcp.state) (is_opened k.automata.lcp.state) k now ran (λ p net. moved p (is_opened k.automata.lcp.state) net) holds.up;
    })

-- ---- LCP came to be Opened

free-at : (l : ℕ) (b : Bundles) (o : Option Member) → member_at l b ≡ o → ((j : Member) → member_at l b ≡ Some j → false ≡ true) → bundle_at l b ≡ None
free-at l b None is never = ap (option_map (λ (m : Member). m.bundle)) is
free-at l b (Some j) is never = absurd (true≢false (sym (never j is)))

comes-walks : (l word : ℕ) (lcp : Auto) (es : List Told) (done : Done) (k : Link) → slice_get done.links (l - 1) ≡ Some k →
    Walks l lcp false (LcpUp ∷ es) done.bundles done.links →
    let came = follows word (comes l (key_in k.automata.lcp) done.bundles) done in Walks l lcp true es came.bundles came.links
unfolding comes
comes-walks l word lcp es done k is walks =
    let b = done.bundles in
    let key = key_in k.automata.lcp in
    let new = joined_as l key b in
    let rs = (comes l key b).runs in
    let start : Done = record done { bundles = new } in
    let end = runs_all word rs start in
    let low = walks.of.0 in
    let free = free-at l b (member_at l b) refl (walks.own k is).joined in
    let whole = joins-bundles l key b walks.bundles free walks.of in
    let kept = limits-joined l key b in
    subst (λ b. Walks l lcp true es b end.links) (sym (all-bundles word rs start)) (record {
      limits = kept ∙ (walks.limits ∙ ap limits_of (sym (all-length word rs start)));
      bundles = whole;
      of = (low, subst (λ n. l ≤ n) (ap (λ (n : Limits). n.links) (sym kept)) walks.of.1);
      same = λ now there. let from = found l word rs start now low there in from.ran.lcp ∙ walks.same from.link from.at;
      own = λ now there.
          let from = found l word rs start now low there in
          let same : from.link ≡ k = same_Some from.link k (sym from.at ∙ is) in
          record {
            joined = λ j at. refl;
            keyed = λ j at still.
                joined-key l key b j walks.bundles free walks.of at
                ∙ ap (λ (k : Link). key_in k.automata.lcp) (sym same)
                ∙ ap key_in (sym from.ran.lcp);
            up = up-after l rs b new false true from.link now from.ran (λ p net. own-comes l key p b net walks.bundles free walks.of) (walks.own from.link from.at).up;
          };
      others = λ m now least other there.
          let from = found m word rs start now least there in
          other-holds m rs b new from.link now from.ran (others-joined l m key b low least other)
          (λ p opened net. other-comes l m key p opened b net walks.bundles whole free low least other)
          (walks.others m from.link least other from.at);
    })

up-walks : (l word : ℕ) (lcp : Auto) (es : List Told) (done : Done) (o : Option Link) → slice_get done.links (l - 1) ≡ o →
    Walks l lcp false (LcpUp ∷ es) done.bundles done.links → Walks l lcp true es (comes_up l word o done).bundles (comes_up l word o done).links
up-walks l word lcp es done None none walks = record {
  limits = walks.limits;
  bundles = walks.bundles;
  of = walks.of;
  same = walks.same;
  own = λ k is. absurd (none-some k (sym none ∙ is));
  others = walks.others;
}
up-walks l word lcp es done (Some k) is walks = comes-walks l word lcp es done k is walks

-- ---- LCP left Opened

goes-walks : (l word : ℕ) (lcp : Auto) (opened : Bool) (es : List Told) (done : Done) → Walks l lcp opened (LcpDown ∷ es) done.bundles done.links →
    let went = follows word (goes l done.bundles) done in Walks l lcp false es went.bundles went.links
unfolding goes
goes-walks l word lcp opened es done walks =
    let b = done.bundles in
    let new = left l b in
    let rs = (goes l b).runs in
    let start : Done = record done { bundles = new } in
    let end = runs_all word rs start in
    let low = walks.of.0 in
    let whole = leaves-bundles l b walks.bundles walks.of in
    subst (λ b. Walks l lcp false es b end.links) (sym (all-bundles word rs start)) (record {
      limits = walks.limits ∙ ap limits_of (sym (all-length word rs start));
      bundles = whole;
      of = walks.of;
      same = λ now there. let from = found l word rs start now low there in from.ran.lcp ∙ walks.same from.link from.at;
      own = λ now there.
          let from = found l word rs start now low there in
          record {
            joined = λ j at. absurd (none-some j (sym (none-at l b) ∙ at));
            keyed = λ j at still. absurd (none-some j (sym (none-at l b) ∙ at));
            up = up-after l rs b new opened false from.link now from.ran (λ p net. own-goes l p opened b net whole) (walks.own from.link from.at).up;
          };
      others = λ m now least other there.
          let from = found m word rs start now least there in
          other-holds m rs b new from.link now from.ran (others-at l m None b low least other)
          (λ p opened net. other-goes l m p opened b net walks.bundles whole low least other)
          (walks.others m from.link least other from.at);
    })

-- ---- entry by entry

-- an entry that is no signal of LCP
same-walks : (l : ℕ) (lcp : Auto) (opened : Bool) (e : Told) (es : List Told) (b : Bundles) (links : List Link) → (IsStill es → IsStill (e ∷ es)) →
    Walks l lcp opened (e ∷ es) b links → Walks l lcp opened es b links
same-walks l lcp opened e es b links still walks = record {
  limits = walks.limits;
  bundles = walks.bundles;
  of = walks.of;
  same = walks.same;
  own = λ k is.
      let holds = walks.own k is in
      record { joined = holds.joined; keyed = λ j at rest. holds.keyed j at (still rest); up = holds.up };
  others = walks.others;
}

handed-walks : (handed : Bool) (l protocol : ℕ) (octets : List ℕ) (lcp : Auto) (opened : Bool) (es : List Told) (done : Done) → Walks l lcp opened es done.bundles done.links →
    let now = if handed then and_tells done (Got None protocol octets) else done in Walks l lcp opened es now.bundles now.links
handed-walks true l protocol octets lcp opened es done walks = walks
handed-walks false l protocol octets lcp opened es done walks = walks

pub works-walks : (l word : ℕ) (lcp : Auto) (opened : Bool) (es : List Told) (done : Done) → TellsInTurn opened es → Walks l lcp opened es done.bundles done.links →
    Walks l lcp (all_opened opened es) [] (works l word es done).bundles (works l word es done).links
unfolding works works_one
works-walks l word lcp opened [] done turn walks = walks
works-walks l word lcp opened (Push octets ∷ es) done turn walks =
    works-walks l word lcp opened es (works_one l word (Push octets) done) turn (same-walks l lcp opened (Push octets) es done.bundles done.links (λ still. (refl, still)) walks)
works-walks l word lcp opened (LcpUp ∷ es) done turn walks =
    works-walks l word lcp true es (works_one l word LcpUp done) turn.1
    (up-walks l word lcp es done (slice_get done.links (l - 1)) refl (subst (λ opened. Walks l lcp opened (LcpUp ∷ es) done.bundles done.links) turn.0 walks))
works-walks l word lcp opened (LcpDown ∷ es) done turn walks =
    works-walks l word lcp false es (works_one l word LcpDown done) turn (goes-walks l word lcp opened es done walks)
works-walks l word lcp opened (Finished ∷ es) done turn walks =
    works-walks l word lcp opened es (works_one l word Finished done) turn (same-walks l lcp opened Finished es done.bundles done.links (λ still. (refl, still)) walks)
works-walks l word lcp opened (NetUp p ∷ es) done turn walks =
    works-walks l word lcp opened es done turn (same-walks l lcp opened (NetUp p) es done.bundles done.links (λ still. (refl, still)) walks)
works-walks l word lcp opened (NetDown p ∷ es) done turn walks =
    works-walks l word lcp opened es done turn (same-walks l lcp opened (NetDown p) es done.bundles done.links (λ still. (refl, still)) walks)
works-walks l word lcp opened (Payload protocol octets ∷ es) done turn walks =
    works-walks l word lcp opened es (works_one l word (Payload protocol octets) done) turn
    (handed-walks _ l protocol octets lcp opened es done (same-walks l lcp opened (Payload protocol octets) es done.bundles done.links (λ still. (refl, still)) walks))
