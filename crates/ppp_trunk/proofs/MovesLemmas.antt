-- What an event of a trunk is to each of its links and each protocol there.
use Rattle.std.proofs.Common.{◌≡◌, ◌≢◌, ℕ, ◌-◌, ◌≤◌, if◌then◌else◌, List, [], ◌∷◌, ◌++◌, length, refl, sym, ap, subst, ◌∙◌, inl, inr, Some, slice_get, arith}
use Rattle.std.specs.Prelude.{◌⊎◌, ◌==◌, Option, None}
use Rattle.std.proofs.lemmas.Bool.{eq-eqb, ne_eqb}
use Rattle.std.proofs.lemmas.Option.{slice_get_within}
use Rattle.ppp_auto.specs.Auto.{Auto}
use Rattle.ppp_bundle.specs.Bundles.{Bundles}
use Rattle.ppp_packet.specs.declared.proto.Proto.{Proto}
use Rattle.ppp_packet.specs.declared.proto.Proto.TheVariants.{Lcp, Ip, Ipv6, Osi, Mpls, Bacp}
use Rattle.ppp_link.specs.Automata.{auto_at}
use Rattle.ppp_link.specs.Link.{Fed, Link, link_with, run_did}
use Rattle.ppp_link.specs.LinkOut.{Entry as LinkTold}
use Rattle.ppp_link.specs.LinkOut as told
use Rattle.ppp_trunk.specs.Control.{comes, goes}
use Rattle.ppp_trunk.specs.Moves.{AreFramed, AreLinked, IsLinked, Moves, MovesAt, caused, of_own, of_runs, runs_of}
use Rattle.ppp_trunk.specs.Orders.{auto_by, of_link, packets_of, sent_by}
use Rattle.ppp_trunk.specs.Trunk.{IsOfLink, Trunk, on_link, stepped_by}
use Rattle.ppp_trunk.specs.StationOut.{AreShort, Entry, Push, Got, Hang}
use Rattle.ppp_trunk.specs.Steps.{Done, Happening, all_plain, link_does, with_link, works}
use Rattle.ppp_trunk.proofs.ControlLemmas.{IsFromOne, comes-from, goes-from}
use Rattle.ppp_trunk.proofs.FramedLemmas.{framed-by}
use Rattle.ppp_trunk.proofs.LinksLemmas.{same-or, with-length, with-others, with-own}
use Rattle.ppp_trunk.proofs.ListLemmas.{AllByRecursion-append}
use Rattle.ppp_trunk.proofs.OrdersLemmas.{AllShort, auto_by-append, link-tracks, no-orders}
use Rattle.ppp_trunk.proofs.SignalLemmas.{IsParted, all_signals, link-parted}
use Rattle.ppp_trunk.proofs.WalkLemmas.{IsKept, all-any, works-kept}
use Rattle.ppp_trunk.proofs.WovenLemmas.{IsApart, lcp-runs, orders_for, plain-elsewhere, plain-packets, unwoven, works-follows, works-short, woven}

-- ---- the own step of link l

-- link m after it, which was j, and the packets there
record Begins (l m word : ℕ) (what : Happening) (j : Link) (fed : Fed) (links : List Link) : Type 0 where
  link : Link
  at : slice_get links (m - 1) ≡ Some link
  tables : link.tables ≡ j.tables
  deframer : link.deframer ≡ (if l == m then (link_does what j word).link.deframer else j.deframer)
  auto : (p : Proto) → auto_at link.automata p ≡ auto_by j.tables p word (of_own l m p what j word) (auto_at j.automata p)
  sent : AllShort fed.out → (p : Proto) → packets_of p m (all_plain l fed.out) ≡ sent_by j.tables p word (of_own l m p what j word) (auto_at j.automata p)

begins-own : (what : Happening) (l word : ℕ) (links : List Link) (k : Link) → 1 ≤ l → slice_get links (l - 1) ≡ Some k →
    Begins l l word what k (link_does what k word) (with_link l (link_does what k word).link links)
begins-own what l word links k from there =
    let fed = link_does what k word in
    record {
      link = fed.link;
      at = with-own links l fed.link k from there;
      tables = (link-tracks Lcp what k word).tables;
      deframer = ap (λ b. if b then fed.link.deframer else k.deframer) (sym (eq-eqb l l refl));
      auto = λ p. (link-tracks p what k word).auto ∙ ap (λ b. auto_by k.tables p word (if b then of_link p what k word else []) (auto_at k.automata p)) (sym (eq-eqb l l refl));
      sent = λ short p.
          plain-packets p l fed.out
          ∙ (link-tracks p what k word).sent short
          ∙ ap (λ b. sent_by k.tables p word (if b then of_link p what k word else []) (auto_at k.automata p)) (sym (eq-eqb l l refl));
    }

begins-other : (what : Happening) (l m word : ℕ) (links : List Link) (fed : Fed) (j : Link) → 1 ≤ m → l ≢ m → slice_get links (m - 1) ≡ Some j →
    Begins l m word what j fed (with_link l fed.link links)
begins-other what l m word links fed j low other there = record {
  link = j;
  at = with-others links l m fed.link low other ∙ there;
  tables = refl;
  deframer = ap (λ b. if b then (link_does what j word).link.deframer else j.deframer) (sym (ne_eqb l m other));
  auto = λ p. sym (no-orders j.tables p word (auto_at j.automata p)).0 ∙ ap (λ b. auto_by j.tables p word (if b then of_link p what j word else []) (auto_at j.automata p)) (sym (ne_eqb l m other));
  sent = λ short p.
      plain-elsewhere p l m fed.out other
      ∙ sym (no-orders j.tables p word (auto_at j.automata p)).1
      ∙ ap (λ b. sent_by j.tables p word (if b then of_link p what j word else []) (auto_at j.automata p)) (sym (ne_eqb l m other));
}

begins-by : (what : Happening) (l m word : ℕ) (links : List Link) (k j : Link) → 1 ≤ l → 1 ≤ m → slice_get links (l - 1) ≡ Some k → slice_get links (m - 1) ≡ Some j →
    (l ≡ m) ⊎ (l ≢ m) → Begins l m word what j (link_does what k word) (with_link l (link_does what k word).link links)
begins-by what l m word links k j from low there here (inl same) =
    let is : k ≡ j = let both : Some k ≡ Some j = sym there ∙ ap (λ n. slice_get links (n - 1)) same ∙ here in cc in
    let fed = link_does what k word in
    subst (λ m. Begins l m word what j fed (with_link l fed.link links)) same
    (subst (λ j. Begins l l word what j fed (with_link l fed.link links)) is (begins-own what l word links k from there))
begins-by what l m word links k j from low there here (inr other) = begins-other what l m word links (link_does what k word) j low other here

-- ---- packets of its own, or signals

quiet-runs : (l : ℕ) (lcp : Auto) (es : List LinkTold) (b : Bundles) → all_signals es ≡ [] → (caused l lcp es b).runs ≡ []
quiet-runs l lcp [] b none = refl
quiet-runs l lcp (told.Push octets ∷ es) b none = quiet-runs l lcp es b none
quiet-runs l lcp (told.LcpUp ∷ es) b none = absurd (cc)
quiet-runs l lcp (told.LcpDown ∷ es) b none = absurd (cc)
quiet-runs l lcp (told.Finished ∷ es) b none = quiet-runs l lcp es b none
quiet-runs l lcp (told.NetUp q ∷ es) b none = quiet-runs l lcp es b none
quiet-runs l lcp (told.NetDown q ∷ es) b none = quiet-runs l lcp es b none
quiet-runs l lcp (told.Payload number octets ∷ es) b none = quiet-runs l lcp es b none

parted-apart : (l : ℕ) (p : Proto) (lcp : Auto) (es : List LinkTold) (b : Bundles) → IsParted p es → IsApart l l p lcp es b
parted-apart l p lcp es b (inl none) = inl (plain-packets p l es ∙ none)
parted-apart l p lcp es b (inr none) = inr (ap (of_runs l p) (quiet-runs l lcp es b none))

apart-own : (p : Proto) (what : Happening) (l word : ℕ) (k : Link) (lcp : Auto) (b : Bundles) → AllShort (link_does what k word).out →
    IsApart l l p lcp (link_does what k word).out b
apart-own Lcp what l word k lcp b short = inr (lcp-runs l (caused l lcp (link_does what k word).out b).runs)
apart-own Ip what l word k lcp b short = parted-apart l Ip lcp (link_does what k word).out b (link-parted Ip what k word (λ same. absurd (cc)) short)
apart-own Ipv6 what l word k lcp b short = parted-apart l Ipv6 lcp (link_does what k word).out b (link-parted Ipv6 what k word (λ same. absurd (cc)) short)
apart-own Osi what l word k lcp b short = parted-apart l Osi lcp (link_does what k word).out b (link-parted Osi what k word (λ same. absurd (cc)) short)
apart-own Mpls what l word k lcp b short = parted-apart l Mpls lcp (link_does what k word).out b (link-parted Mpls what k word (λ same. absurd (cc)) short)
apart-own Bacp what l word k lcp b short = parted-apart l Bacp lcp (link_does what k word).out b (link-parted Bacp what k word (λ same. absurd (cc)) short)

apart-by : (p : Proto) (what : Happening) (l m word : ℕ) (k : Link) (lcp : Auto) (b : Bundles) → AllShort (link_does what k word).out → (l ≡ m) ⊎ (l ≢ m) →
    IsApart l m p lcp (link_does what k word).out b
apart-by p what l m word k lcp b short (inl same) = subst (λ m. IsApart l m p lcp (link_does what k word).out b) same (apart-own p what l word k lcp b short)
apart-by p what l m word k lcp b short (inr other) = inl (plain-elsewhere p l m (link_does what k word).out other)

-- ---- the whole of what happens to a link

moves-with : (what : Happening) (l m word : ℕ) (st : Trunk) (k j : Link) → 1 ≤ l → 1 ≤ m → slice_get st.links (l - 1) ≡ Some k → slice_get st.links (m - 1) ≡ Some j →
    AreShort (on_link what l st word).out.entries → (l ≡ m) ⊎ (l ≢ m) → MovesAt what l m word st j
unfolding runs_of
moves-with what l m word st k j from low there here short either =
    let fed = link_does what k word in
    let lcp = fed.link.automata.lcp in
    let begun : Done = record { links = with_link l fed.link st.links; bundles = st.bundles; out = [] } in
    let own : slice_get begun.links (l - 1) ≡ Some fed.link = with-own st.links l fed.link k from there in
    let first = begins-by what l m word st.links k j from low there here either in
    let rest = works-follows l m word lcp fed.out begun fed.link first.link from own refl low first.at in
    let is_short : AreShort (works l word fed.out begun).out = rw there at short in
    let told = works-short l word lcp fed.out begun fed.link from own refl is_short in
    let caused_here = orders_for l m lcp fed.out st.bundles in
    let moves : Moves l m what (caused l lcp fed.out st.bundles).runs word j rest.link (works l word fed.out begun).out = record {
      automata = λ p.
          rest.auto p
          ∙ (λ i. auto_by (first.tables i) p word (caused_here p) (first.auto p i))
          ∙ sym (auto_by-append j.tables p word (of_own l m p what j word) (caused_here p) (auto_at j.automata p));
      packets = λ p.
          rest.sent is_short p
          ∙ (λ i. woven l m p (first.tables i) word lcp fed.out st.bundles (first.auto p i))
          ∙ unwoven l m p j.tables word (of_own l m p what j word) lcp fed.out st.bundles (auto_at j.automata p) (apart-by p what l m word k lcp st.bundles told either) (first.sent told p);
      tables = rest.tables ∙ first.tables;
      deframer = rest.deframer ∙ first.deframer;
    } in
    record {
      link = rest.link;
      at = rw there rest.at;
      moves = rw there moves;
    }

pub moves-at : (what : Happening) (l m word : ℕ) (st : Trunk) (k j : Link) → 1 ≤ l → 1 ≤ m → slice_get st.links (l - 1) ≡ Some k → slice_get st.links (m - 1) ≡ Some j →
    AreShort (on_link what l st word).out.entries → MovesAt what l m word st j
moves-at what l m word st k j from low there here short = moves-with what l m word st k j from low there here short (same-or l m)

-- ---- what goes out are frames

pub all-framed : (what : Happening) (l word : ℕ) (st : Trunk) → AreFramed (on_link what l st word).out.entries
all-framed what l word st = framed-by what l word st (slice_get st.links (l - 1))

-- ---- how many links there are

counts-kept : (l word n : ℕ) → IsKept l word (λ e. Unit {0}) (λ r. Unit {0}) (λ done. length done.links ≡ n)
counts-kept l word n = record {
  pushed = λ done octets is same. same;
  handed = λ done number octets same. same;
  hung = λ done same. same;
  moved = λ done b same. same;
  ran = λ done r k is at same. with-length r.link (link_with k (run_did k r.on r.bacp word)) done.links ∙ same;
  came = λ key b. all-any (λ r. Unit {0}) (λ r. tt) (comes l key b).runs;
  went = λ b. all-any (λ r. Unit {0}) (λ r. tt) (goes l b).runs;
}

counts-by : (what : Happening) (l word : ℕ) (st : Trunk) (o : Option Link) → length (stepped_by what l st word o).trunk.links ≡ length st.links
counts-by what l word st None = refl
counts-by what l word st (Some k) =
    let fed = link_does what k word in
    works-kept l word (λ e. Unit {0}) (λ r. Unit {0}) (λ done. length done.links ≡ length st.links) (counts-kept l word (length st.links))
    fed.out (record { links = with_link l fed.link st.links; bundles = st.bundles; out = [] }) (all-any (λ e. Unit {0}) (λ e. tt) fed.out) (with-length l fed.link st.links)

pub counts : (what : Happening) (l word : ℕ) (st : Trunk) → length (on_link what l st word).trunk.links ≡ length st.links
counts what l word st = counts-by what l word st (slice_get st.links (l - 1))

-- ---- frames go out on links that are there

plain-linked : (n l : ℕ) (es : List LinkTold) → IsOfLink n l → AreLinked n (all_plain l es)
plain-linked n l [] of = tt
plain-linked n l (told.Push octets ∷ es) of = (of, plain-linked n l es of)
plain-linked n l (told.LcpUp ∷ es) of = plain-linked n l es of
plain-linked n l (told.LcpDown ∷ es) of = plain-linked n l es of
plain-linked n l (told.Finished ∷ es) of = plain-linked n l es of
plain-linked n l (told.NetUp q ∷ es) of = plain-linked n l es of
plain-linked n l (told.NetDown q ∷ es) of = plain-linked n l es of
plain-linked n l (told.Payload number octets ∷ es) of = plain-linked n l es of

-- so many links, and the frames on them
record Linked (n : ℕ) (done : Done) : Type 0 where
  count : length done.links ≡ n
  linked : AreLinked n done.out

linked-more : (n : ℕ) (es more : List Entry) → AreLinked n es → AreLinked n more → AreLinked n (es ++ more)
linked-more n es more first rest = AllByRecursion-append (IsLinked n) es more first rest

links-kept : (l word n : ℕ) → IsOfLink n l → IsKept l word (λ e. Unit {0}) IsFromOne (Linked n)
links-kept l word n of = record {
  pushed = λ done octets is all. record { count = all.count; linked = linked-more n done.out (Push l octets ∷ []) all.linked (of, tt) };
  handed = λ done number octets all. record { count = all.count; linked = linked-more n done.out (Got None number octets ∷ []) all.linked (tt, tt) };
  hung = λ done all. record { count = all.count; linked = linked-more n done.out (Hang l ∷ []) all.linked (tt, tt) };
  moved = λ done b all. record { count = all.count; linked = all.linked };
  ran = λ done r k from at all.
      let did = run_did k r.on r.bacp word in
      record {
        count = with-length r.link (link_with k did) done.links ∙ all.count;
        linked = linked-more n done.out (all_plain r.link did.out) all.linked (plain-linked n r.link did.out (from, omega (arith, from, slice_get_within done.links (r.link - 1) k at, all.count)));
      };
  came = λ key b. comes-from l key b of.0;
  went = λ b. goes-from l b of.0;
}

linked-by : (what : Happening) (l word : ℕ) (st : Trunk) (o : Option Link) → IsOfLink (length st.links) l → AreLinked (length st.links) (stepped_by what l st word o).out.entries
linked-by what l word st None of = tt
linked-by what l word st (Some k) of =
    let fed = link_does what k word in
    let n = length st.links in
    (works-kept l word (λ e. Unit {0}) IsFromOne (Linked n) (links-kept l word n of)
    fed.out (record { links = with_link l fed.link st.links; bundles = st.bundles; out = [] }) (all-any (λ e. Unit {0}) (λ e. tt) fed.out)
    (record { count = with-length l fed.link st.links; linked = tt })).linked

pub all-linked : (what : Happening) (l word : ℕ) (st : Trunk) → IsOfLink (length st.links) l → AreLinked (length st.links) (on_link what l st word).out.entries
all-linked what l word st of = linked-by what l word st (slice_get st.links (l - 1)) of

pub linked-after : (what : Happening) (l word : ℕ) (old new : Trunk) (es : List Entry) → IsOfLink (length old.links) l → new ≡ (on_link what l old word).trunk →
    es ≡ (on_link what l old word).out.entries → AreLinked (length new.links) es
linked-after what l word old new es of is told =
    let same : length old.links ≡ length new.links = sym (counts what l word old) ∙ sym (ap (λ (st : Trunk). length st.links) is) in
    subst (AreLinked (length new.links)) (sym told) (subst (λ n. AreLinked n (on_link what l old word).out.entries) same (all-linked what l word old of))
