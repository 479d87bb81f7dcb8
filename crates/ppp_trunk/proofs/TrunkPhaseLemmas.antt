-- When the control protocols above LCP are Up, on each link of a trunk with bundles.
use Rattle.std.proofs.Common.{◌≡◌, ◌≢◌, ℕ, zero, suc, ◌+◌, ◌-◌, ◌≤◌, Bool, true, false, List, [], ◌∷◌, ◌++◌, length, map, refl, sym, ap, subst, ◌∙◌, inl, inr, arith, true≢false}
use Rattle.std.specs.Prelude.{◌⊎◌, ◌&&◌, Option, Some, None, option_map, slice_get}
use Rattle.std.specs.List.{AllByRecursion}
use Rattle.std.proofs.lemmas.List.{length-map}
use Rattle.std.proofs.lemmas.Option.{none-some, same_Some, slice_get_within}
use Rattle.ppp_auto.specs.Auto.{Auto, is_opened}
use Rattle.ppp_auto.specs.Automaton.{does_row}
use Rattle.ppp_auto.specs.OptionTable.{Table}
use Rattle.ppp_auto.specs.declared.auto_event.AutoEvent.TheVariants.{AdminOpen}
use Rattle.ppp_packet.specs.declared.proto.Proto.{Proto}
use Rattle.ppp_packet.specs.declared.proto.Proto.TheVariants.{Lcp, Ip, Ipv6, Osi, Mpls, Bacp}
use Rattle.ppp_bundle.specs.BundleTable.{IsLimits}
use Rattle.ppp_bundle.specs.Bundles.{Bundles, Member, bundles_begun, member_at}
use Rattle.ppp_bundle.specs.declared.limits.Limits.{Limits}
use Rattle.ppp_link.specs.Automata.{auto_at, begun_if}
use Rattle.ppp_link.specs.Link.{Link, event_did, link_begun, link_with}
use Rattle.ppp_link.specs.LinkTables.{LinkTables, bacp_table, ip_table, ipv6_table, mpls_table, osi_table, table_if}
use Rattle.ppp_link.specs.Proto.{nets}
use Rattle.ppp_link.specs.Steps.{Event, auto_given, does}
use Rattle.ppp_trunk.specs.Control.{key_in}
use Rattle.ppp_trunk.specs.Moves.{goes_with}
use Rattle.ppp_trunk.specs.Phases.{IsJoinedBy, IsPhased, IsTrunk, IsTrunkOf, IsUpWhere, is_up, is_up_by}
use Rattle.ppp_trunk.specs.Trunk.{Trunk, limits_of, link_ready, on_link, opens_all, trunk_anew, stepped_by, IsBegun, IsReady}
use Rattle.ppp_trunk.specs.Steps.{Done, Happening, link_does, with_link, works}
use Rattle.ppp_trunk.proofs.BundleLemmas.{begun-bundles, none-begun}
use Rattle.ppp_trunk.proofs.LinksLemmas.{same-or, with-length, with-others, with-own}
use Rattle.ppp_trunk.proofs.PhaseLemmas.{Holds, Walks, works-walks}
use Rattle.ppp_trunk.proofs.SteadyLemmas.{IsStill, link-steady, off_if}

-- ---- as a trunk begins with a link

opens-tables : (ps : List Proto) (k : Link) → (opens_all ps k).tables ≡ k.tables
unfolding opens_all
opens-tables [] k = refl
opens-tables (p ∷ ps) k = opens-tables ps (link_with k (event_did k p AdminOpen 0))

pub ready-again : (t : LinkTables) → IsReady (link_ready t)
ready-again t = ap link_ready (sym (opens-tables (nets ++ Bacp ∷ []) (link_begun t)))

opened-off : {T : Type 0} (table : T → Table) (o : Option T) → IsUpWhere false (option_map (auto_given (table_if table o) (Event AdminOpen) 0) (begun_if table o))
unfolding does_row
opened-off table None = tt
opened-off table (Some t) = refl

ready-off : (t : LinkTables) (p : Proto) → p ≢ Lcp → IsUpWhere false (auto_at (link_ready t).automata p)
unfolding opens_all does
ready-off t Lcp other = absurd (other refl)
ready-off t Ip other = opened-off ip_table t.ip
ready-off t Ipv6 other = opened-off ipv6_table t.ipv6
ready-off t Osi other = opened-off osi_table t.osi
ready-off t Mpls other = opened-off mpls_table t.mpls
ready-off t Bacp other = opened-off bacp_table t.bacp

ready-closed : (t : LinkTables) → is_opened (link_ready t).automata.lcp.state ≡ false
unfolding opens_all does
ready-closed t = refl

-- ---- where LCP isn't Opened

net-off : (net opened : Bool) → opened ≡ false → (net && opened) ≡ false
net-off true opened closed = closed
net-off false opened closed = refl

-- ---- as a trunk begins

each-ready : (ks : List Link) (i : ℕ) (k : Link) → AllByRecursion IsReady ks → slice_get ks i ≡ Some k → IsReady k
each-ready [] i k all is = absurd (none-some k is)
each-ready (x ∷ xs) zero k all is = subst IsReady (same_Some x k is) all.0
each-ready (x ∷ xs) (suc i) k all is = each-ready xs i k all.1 is

begun-limits : (n : ℕ) → 1 ≤ n → n ≤ 16 → IsLimits (limits_of n)
begun-limits n some most = record {
  some_links = some;
  most_links = most;
  some_bundles = omega arith;
  most_bundles = omega arith;
  some_peers = omega arith;
  most_peers = omega arith;
}

begun-phased : (m : ℕ) (n : Limits) (k : Link) → IsReady k → IsPhased m (bundles_begun n) k
unfolding IsPhased
begun-phased m n k ready p other =
    let closed : is_opened k.automata.lcp.state ≡ false = ap (λ (k : Link). is_opened k.automata.lcp.state) ready ∙ ready-closed k.tables in
    let off : IsUpWhere false (auto_at k.automata p) = subst (λ (k : Link). IsUpWhere false (auto_at k.automata p)) (sym ready) (ready-off k.tables p other) in
    let down : is_up p m (is_opened k.automata.lcp.state) (bundles_begun n) ≡ false =
    ap (λ o. is_up_by (option_map (λ (m : Member). m.bundle) o) p m (is_opened k.automata.lcp.state) (bundles_begun n)) (none-begun n m)
    ∙ net-off (goes_with p false) (is_opened k.automata.lcp.state) closed in
    subst (λ up. IsUpWhere up (auto_at k.automata p)) (sym down) off

pub begun-trunk : (st : Trunk) → IsBegun st → IsTrunk st
unfolding IsTrunk
begun-trunk st begun =
    let n = limits_of (length st.links) in
    subst (λ b. IsTrunkOf (record { links = st.links; bundles = b })) (sym begun.bundles) (record {
      limits = refl;
      bundles = begun-bundles n (begun-limits (length st.links) begun.some begun.most);
      joined = λ i k is. subst (λ o. IsJoinedBy o k.automata.lcp) (sym (none-begun n (i + 1))) tt;
      phased = λ i k is. begun-phased (i + 1) n k (each-ready st.links i k begun.ready is);
    })

all-again : (ks : List Link) → AllByRecursion IsReady (map (λ k. link_ready k.tables) ks)
all-again [] = tt
all-again (k ∷ ks) = (ready-again k.tables, all-again ks)

pub begun-anew : (st : Trunk) → IsTrunk st → IsBegun (trunk_anew st)
unfolding IsTrunk
begun-anew st trunk =
    let count : length (map (λ (k : Link). link_ready k.tables) st.links) ≡ length st.links = length-map st.links (λ (k : Link). link_ready k.tables) in
    let links : st.bundles.limits.links ≡ length st.links = ap (λ (n : Limits). n.links) trunk.limits in
    record {
      some = subst (λ n. 1 ≤ n) (links ∙ sym count) trunk.bundles.limits.some_links;
      most = subst (λ n. n ≤ 16) (links ∙ sym count) trunk.bundles.limits.most_links;
      ready = all-again st.links;
      bundles = ap bundles_begun (trunk.limits ∙ ap limits_of (sym count));
    }

-- ---- before an event

joined-holds : (o : Option Member) (lcp : Auto) (j : Member) → IsJoinedBy o lcp → o ≡ Some j → (is_opened lcp.state ≡ true) × (j.key ≡ key_in lcp)
joined-holds None lcp j joined is = absurd (none-some j is)
joined-holds (Some m) lcp j joined is = let same : m ≡ j = same_Some m j is in (joined.0, ap (λ (m : Member). m.key) (sym same) ∙ joined.1)

trunk-holds : (st : Trunk) (m : ℕ) (k : Link) → 1 ≤ m → slice_get st.links (m - 1) ≡ Some k → IsTrunk st → Holds m (is_opened k.automata.lcp.state) (Unit {0}) st.bundles k
unfolding IsTrunk IsPhased
trunk-holds st m k low is trunk =
    let at : m - 1 + 1 ≡ m = omega arith in
    let joined = subst (λ m. IsJoinedBy (member_at m st.bundles) k.automata.lcp) at (trunk.joined (m - 1) k is) in
    record {
      joined = λ j there. (joined-holds (member_at m st.bundles) k.automata.lcp j joined there).0;
      keyed = λ j there still. (joined-holds (member_at m st.bundles) k.automata.lcp j joined there).1;
      up = λ p other. subst (λ m. IsUpWhere (is_up p m (is_opened k.automata.lcp.state) st.bundles) (auto_at k.automata p)) at (trunk.phased (m - 1) k is p other);
    }

-- the link's own step takes no control protocol above LCP Up or Down
same-up : (up : Bool) (o more : Option Auto) → off_if more ≡ off_if o → IsUpWhere up o → IsUpWhere up more
same-up up None None same is = tt
same-up up None (Some a) same is = absurd (cc)
same-up up (Some a) None same is = tt
same-up up (Some a) (Some b) same is = cc

own-step : (what : Happening) (l word : ℕ) (k now : Link) (b : Bundles) → now ≡ (link_does what k word).link → Holds l (is_opened k.automata.lcp.state) (Unit {0}) b k →
    Holds l (is_opened k.automata.lcp.state) (IsStill (link_does what k word).out) b now
own-step what l word k now b is holds =
    let steady = link-steady what k word in
    subst (λ now. Holds l (is_opened k.automata.lcp.state) (IsStill (link_does what k word).out) b now) (sym is) (record {
      joined = holds.joined;
      keyed = λ j there still. holds.keyed j there tt ∙ sym (steady.keeps (holds.joined j there) still);
      up = λ p other.
          same-up (is_up p l (is_opened k.automata.lcp.state) b) (auto_at k.automata p) (auto_at (link_does what k word).link.automata p) (steady.off p other) (holds.up p other);
    })

start-walks : (what : Happening) (l word : ℕ) (st : Trunk) (k : Link) → 1 ≤ l → slice_get st.links (l - 1) ≡ Some k → IsTrunk st →
    let fed = link_does what k word in Walks l fed.link.automata.lcp (is_opened k.automata.lcp.state) fed.out st.bundles (with_link l fed.link st.links)
unfolding IsTrunk
start-walks what l word st k low is trunk =
    let fed = link_does what k word in
    let own = with-own st.links l fed.link k low is in
    let count = with-length l fed.link st.links in
    let links : st.bundles.limits.links ≡ length st.links = ap (λ (n : Limits). n.links) trunk.limits in
    record {
      limits = trunk.limits ∙ ap limits_of (sym count);
      bundles = trunk.bundles;
      of = (low, subst (λ n. l ≤ n) (sym links) (let within = slice_get_within st.links (l - 1) k is in omega (arith, low, within)));
      same = λ now there. ap (λ (k : Link). k.automata.lcp) (same_Some now fed.link (sym there ∙ own));
      own = λ now there. own-step what l word k now st.bundles (same_Some now fed.link (sym there ∙ own)) (trunk-holds st l k low is trunk);
      others = λ m now least other there.
          trunk-holds st m now least (sym (with-others st.links l m fed.link least (λ same. other (sym same))) ∙ there) trunk;
    }

-- ---- after it

end-holds : (l : ℕ) (lcp : Auto) (b : Bundles) (links : List Link) (m : ℕ) (k : Link) → Walks l lcp (is_opened lcp.state) [] b links → 1 ≤ m → slice_get links (m - 1) ≡ Some k →
    (m ≡ l) ⊎ (m ≢ l) → Holds m (is_opened k.automata.lcp.state) (Unit {0}) b k
end-holds l lcp b links m k walks low is (inl same) =
    let at : slice_get links (l - 1) ≡ Some k = ap (λ m. slice_get links (m - 1)) (sym same) ∙ is in
    subst (λ m. Holds m (is_opened k.automata.lcp.state) (Unit {0}) b k) (sym same)
    (subst (λ (a : Auto). Holds l (is_opened a.state) (Unit {0}) b k) (sym (walks.same k at)) (walks.own k at))
end-holds l lcp b links m k walks low is (inr other) = walks.others m k low other is

joined-by : (o : Option Member) (lcp : Auto) → ((j : Member) → o ≡ Some j → (is_opened lcp.state ≡ true) × (j.key ≡ key_in lcp)) → IsJoinedBy o lcp
joined-by None lcp all = tt
joined-by (Some m) lcp all = all m refl

end-trunk : (l : ℕ) (lcp : Auto) (b : Bundles) (links : List Link) → Walks l lcp (is_opened lcp.state) [] b links → IsTrunk (record { links = links; bundles = b })
unfolding IsTrunk IsPhased
end-trunk l lcp b links walks = record {
  limits = walks.limits;
  bundles = walks.bundles;
  joined = λ i k is. let holds = end i k is in joined-by (member_at (i + 1) b) k.automata.lcp (λ j at. (holds.joined j at, holds.keyed j at tt));
  phased = λ i k is. (end i k is).up;
}
  where
    end : (i : ℕ) (k : Link) → slice_get links i ≡ Some k → Holds (i + 1) (is_opened k.automata.lcp.state) (Unit {0}) b k
    end i k is =
        let at : i ≡ i + 1 - 1 = omega arith in
        end-holds l lcp b links (i + 1) k walks (omega arith) (ap (slice_get links) (sym at) ∙ is) (same-or (i + 1) l)

pub kept-trunk : (what : Happening) (l word : ℕ) (st : Trunk) (k : Link) → 1 ≤ l → slice_get st.links (l - 1) ≡ Some k → IsTrunk st → IsTrunk (on_link what l st word).trunk
kept-trunk what l word st k low is trunk =
    let fed = link_does what k word in
    let lcp = fed.link.automata.lcp in
    let steady = link-steady what k word in
    let begin : Done = record { links = with_link l fed.link st.links; bundles = st.bundles; out = [] } in
    let done = works l word fed.out begin in
    let walks = works-walks l word lcp (is_opened k.automata.lcp.state) fed.out begin steady.turn (start-walks what l word st k low is trunk) in
    subst (λ o. IsTrunk (stepped_by what l st word o).trunk) (sym is)
    (end-trunk l lcp done.bundles done.links (subst (λ opened. Walks l lcp opened [] done.bundles done.links) steady.opened walks))

-- ---- while LCP isn't Opened

off-by : (o : Option Member) (i : ℕ) (k : Link) (p : Proto) (b : Bundles) → member_at i b ≡ o → IsJoinedBy o k.automata.lcp → is_opened k.automata.lcp.state ≡ false →
    is_up p i (is_opened k.automata.lcp.state) b ≡ false
off-by None i k p b is joined closed =
    ap (λ o. is_up_by (option_map (λ (m : Member). m.bundle) o) p i (is_opened k.automata.lcp.state) b) is
    ∙ net-off (goes_with p false) (is_opened k.automata.lcp.state) closed
off-by (Some m) i k p b is joined closed = absurd (true≢false (sym joined.0 ∙ closed))

pub off-trunk : (st : Trunk) (i : ℕ) (k : Link) (p : Proto) → IsTrunk st → slice_get st.links i ≡ Some k → p ≢ Lcp → is_opened k.automata.lcp.state ≡ false →
    IsUpWhere false (auto_at k.automata p)
unfolding IsTrunk IsPhased
off-trunk st i k p trunk is other closed =
    let down = off-by (member_at (i + 1) st.bundles) (i + 1) k p st.bundles refl (trunk.joined i k is) closed in
    subst (λ up. IsUpWhere up (auto_at k.automata p)) down (trunk.phased i k is p other)

-- ---- its limits

pub its-limits : (st : Trunk) → IsTrunk st → st.bundles.limits ≡ limits_of (length st.links)
unfolding IsTrunk
its-limits st trunk = trunk.limits

pub few-links : (st : Trunk) → IsTrunk st → length st.links ≤ 16
unfolding IsTrunk
few-links st trunk = subst (λ n. n ≤ 16) (ap (λ (n : Limits). n.links) trunk.limits) trunk.bundles.limits.most_links
