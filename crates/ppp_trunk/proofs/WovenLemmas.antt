-- The entries of a link's step, worked off in order, as the automata of any one link see them.
use Rattle.std.proofs.Common.{◌≡◌, ◌≢◌, ℕ, ◌-◌, ◌≤◌, Bool, true, false, if◌then◌else◌, List, [], ◌∷◌, ◌++◌, refl, sym, ap, subst, ◌∙◌, append_assoc, append-nil, inl, inr, Some, slice_get}
use Rattle.std.specs.Prelude.{◌⊎◌, ◌&&◌, ◌==◌, Option, None}
use Rattle.std.proofs.lemmas.Grind.{flat_map-append}
use Rattle.std.proofs.lemmas.Bool.{eq-eqb, ne_eqb}
use Rattle.ppp_auto.specs.Auto.{Auto}
use Rattle.ppp_bundle.specs.Bundles.{Bundles}
use Rattle.ppp_packet.specs.declared.proto.Proto.{Proto}
use Rattle.ppp_packet.specs.declared.proto.Proto.TheVariants.{Lcp}
use Rattle.ppp_link.specs.Automata.{auto_at}
use Rattle.ppp_link.specs.Link.{Link, link_with, run_did}
use Rattle.ppp_link.specs.LinkOut.{Entry as LinkTold}
use Rattle.ppp_link.specs.LinkOut as told
use Rattle.ppp_link.specs.LinkTables.{LinkTables}
use Rattle.ppp_link.specs.Steps.{begins, run_by}
use Rattle.ppp_trunk.specs.Control.{Moved, Run, comes, goes, key_in}
use Rattle.ppp_trunk.specs.Moves.{caused, caused_by, of_run, of_runs}
use Rattle.ppp_trunk.specs.Orders.{Commands, Order, auto_by, packet_of, packets_of, sent_by}
use Rattle.ppp_trunk.specs.StationOut.{AreShort, Entry, Push, Got, Hang}
use Rattle.ppp_trunk.specs.Steps.{Done, all_plain, and_tells, comes_up, follows, plain, runs, runs_all, runs_at, works, works_one, is_taken}
use Rattle.ppp_trunk.proofs.LinksLemmas.{same-or, with-others, with-own}
use Rattle.ppp_trunk.proofs.OrdersLemmas.{AllShort, IsShortPush, auto_by-append, link_packet, link_packets, no-orders, of_group, run-tracks, sent_by-append}

-- ---- lists

short-front : (xs ys : List Entry) → AreShort (xs ++ ys) → AreShort xs
short-front [] ys short = tt
short-front (x ∷ xs) ys short = (short.0, short-front xs ys short.1)

short-behind : (xs ys : List Entry) → AreShort (xs ++ ys) → AreShort ys
short-behind [] ys short = short
short-behind (x ∷ xs) ys short = short-behind xs ys short.1

nil-front : {X : Type 0} (xs ys : List X) → xs ++ ys ≡ [] → xs ≡ []
nil-front [] ys e = refl
nil-front (x ∷ xs) ys e = absurd (cc)

nil-behind : {X : Type 0} (xs ys : List X) → xs ++ ys ≡ [] → ys ≡ []
nil-behind [] ys e = e
nil-behind (x ∷ xs) ys e = absurd (cc)

-- ---- frames that go out on a link

own-packet : (p : Proto) (l : ℕ) (octets : List ℕ) → packet_of p l (Push l octets) ≡ link_packet p (told.Push octets)
own-packet p l octets = rw (eq-eqb l l refl) refl

pub plain-packets : (p : Proto) (l : ℕ) (es : List LinkTold) → packets_of p l (all_plain l es) ≡ link_packets p es
plain-packets p l [] = refl
plain-packets p l (told.Push octets ∷ es) = ap (λ xs. xs ++ packets_of p l (all_plain l es)) (own-packet p l octets) ∙ ap (λ xs. link_packet p (told.Push octets) ++ xs) (plain-packets p l es)
plain-packets p l (told.LcpUp ∷ es) = plain-packets p l es
plain-packets p l (told.LcpDown ∷ es) = plain-packets p l es
plain-packets p l (told.Finished ∷ es) = plain-packets p l es
plain-packets p l (told.NetUp q ∷ es) = plain-packets p l es
plain-packets p l (told.NetDown q ∷ es) = plain-packets p l es
plain-packets p l (told.Payload number octets ∷ es) = plain-packets p l es

-- none goes out on another
pub plain-elsewhere : (p : Proto) (l m : ℕ) (es : List LinkTold) → l ≢ m → packets_of p m (all_plain l es) ≡ []
plain-elsewhere p l m [] other = refl
plain-elsewhere p l m (told.Push octets ∷ es) other = rw (ne_eqb l m other) (plain-elsewhere p l m es other)
plain-elsewhere p l m (told.LcpUp ∷ es) other = plain-elsewhere p l m es other
plain-elsewhere p l m (told.LcpDown ∷ es) other = plain-elsewhere p l m es other
plain-elsewhere p l m (told.Finished ∷ es) other = plain-elsewhere p l m es other
plain-elsewhere p l m (told.NetUp q ∷ es) other = plain-elsewhere p l m es other
plain-elsewhere p l m (told.NetDown q ∷ es) other = plain-elsewhere p l m es other
plain-elsewhere p l m (told.Payload number octets ∷ es) other = plain-elsewhere p l m es other

plain-short : (l : ℕ) (es : List LinkTold) → AreShort (all_plain l es) → AllShort es
plain-short l [] short = tt
plain-short l (told.Push octets ∷ es) short = (short.0, plain-short l es short.1)
plain-short l (told.LcpUp ∷ es) short = (tt, plain-short l es short)
plain-short l (told.LcpDown ∷ es) short = (tt, plain-short l es short)
plain-short l (told.Finished ∷ es) short = (tt, plain-short l es short)
plain-short l (told.NetUp q ∷ es) short = (tt, plain-short l es short)
plain-short l (told.NetDown q ∷ es) short = (tt, plain-short l es short)
plain-short l (told.Payload number octets ∷ es) short = (tt, plain-short l es short)

-- ---- between two moments

-- what the automaton of a protocol of a link sends by orders
abbrev pub sends : ℕ → (Proto → List Order) → Link → Proto → List (List ℕ)
sends word os j p = sent_by j.tables p word (os p) (auto_at j.automata p)

-- link m was j, and then these orders were given to its automata; the packets among the frames that went out on it since
pub record Follows (m word : ℕ) (os : Proto → List Order) (more : Proto → List (List ℕ)) (j : Link) (before : List Entry) (after : Done) : Type 0 where
  pub link : Link
  pub at : slice_get after.links (m - 1) ≡ Some link
  pub tables : link.tables ≡ j.tables
  pub deframer : link.deframer ≡ j.deframer
  pub auto : (p : Proto) → auto_at link.automata p ≡ auto_by j.tables p word (os p) (auto_at j.automata p)
  pub short : AreShort after.out → AreShort before
  pub sent : AreShort after.out → (p : Proto) → packets_of p m after.out ≡ packets_of p m before ++ more p

behind : (m word : ℕ) (os next all : Proto → List Order) (xs ys zs : Proto → List (List ℕ)) (j : Link) (before : List Entry) (mid after : Done)
    (one : Follows m word os xs j before mid) → Follows m word next ys one.link mid.out after →
    ((p : Proto) → os p ++ next p ≡ all p) → ((p : Proto) → xs p ++ ys p ≡ zs p) → Follows m word all zs j before after
behind m word os next all xs ys zs j before mid after one two orders packets = record {
  link = two.link;
  at = two.at;
  tables = two.tables ∙ one.tables;
  deframer = two.deframer ∙ one.deframer;
  auto = λ p.
      two.auto p
      ∙ (λ i. auto_by (one.tables i) p word (next p) (one.auto p i))
      ∙ sym (auto_by-append j.tables p word (os p) (next p) (auto_at j.automata p))
      ∙ ap (λ os. auto_by j.tables p word os (auto_at j.automata p)) (orders p);
  short = λ short. one.short (two.short short);
  sent = λ short p.
      two.sent short p
      ∙ ap (λ ps. ps ++ ys p) (one.sent (two.short short) p)
      ∙ append_assoc (packets_of p m before) (xs p) (ys p)
      ∙ ap (λ ps. packets_of p m before ++ ps) (packets p);
}

-- nothing was given to them
untouched : (m word : ℕ) (os : Proto → List Order) (xs : Proto → List (List ℕ)) (j : Link) (before more : List Entry) (after : Done) →
    ((p : Proto) → os p ≡ []) → slice_get after.links (m - 1) ≡ Some j → after.out ≡ before ++ more → ((p : Proto) → packets_of p m more ≡ xs p) →
    Follows m word os (λ p. xs p ++ sends word os j p) j before after
untouched m word os xs j before more after none at out packets = record {
  link = j;
  at = at;
  tables = refl;
  deframer = refl;
  auto = λ p. sym (no-orders j.tables p word (auto_at j.automata p)).0 ∙ ap (λ os. auto_by j.tables p word os (auto_at j.automata p)) (sym (none p));
  short = λ short. short-front before more (subst AreShort out short);
  sent = λ short p.
      ap (packets_of p m) out
      ∙ flat_map-append (packet_of p m) before more
      ∙ ap (λ ps. packets_of p m before ++ ps) (
      packets p
      ∙ sym (append-nil (xs p))
      ∙ ap (λ ps. xs p ++ ps) (sym (no-orders j.tables p word (auto_at j.automata p)).1 ∙ ap (λ os. sent_by j.tables p word os (auto_at j.automata p)) (sym (none p)))
      );
}

-- ---- control protocols that go Up or Down together

run-own : (p : Proto) (r : Run) → of_group p r.bacp (run_by r.on) ≡ of_run r.link p r
run-own p r = rw (eq-eqb r.link r.link refl) refl

run-other : (m : ℕ) (p : Proto) (r : Run) → r.link ≢ m → of_run m p r ≡ []
run-other m p r other = rw (ne_eqb r.link m other) refl

ran-own : (word : ℕ) (r : Run) (done : Done) (j : Link) → 1 ≤ r.link → slice_get done.links (r.link - 1) ≡ Some j →
    Follows r.link word (λ p. of_run r.link p r) (sends word (λ p. of_run r.link p r) j) j done.out (runs_at r word (Some j) done)
ran-own word r done j low there =
    let did = run_did j r.on r.bacp word in
    let more = all_plain r.link did.out in
    record {
      link = link_with j did;
      at = with-own done.links r.link (link_with j did) j low there;
      tables = refl;
      deframer = refl;
      auto = λ p. (run-tracks p j.tables r.bacp word (run_by r.on) (begins j.automata)).auto ∙ ap (λ os. auto_by j.tables p word os (auto_at j.automata p)) (run-own p r);
      short = λ short. short-front done.out more short;
      sent = λ short p.
          flat_map-append (packet_of p r.link) done.out more
          ∙ ap (λ ps. packets_of p r.link done.out ++ ps) (
          plain-packets p r.link did.out
          ∙ (run-tracks p j.tables r.bacp word (run_by r.on) (begins j.automata)).sent (plain-short r.link did.out (short-behind done.out more short))
          ∙ ap (λ os. sent_by j.tables p word os (auto_at j.automata p)) (run-own p r)
          );
    }

ran-other : (m word : ℕ) (r : Run) (done : Done) (j : Link) (o : Option Link) → 1 ≤ m → r.link ≢ m → slice_get done.links (m - 1) ≡ Some j →
    Follows m word (λ p. of_run m p r) (sends word (λ p. of_run m p r) j) j done.out (runs_at r word o done)
ran-other m word r done j None low other there =
    untouched m word (λ p. of_run m p r) (λ p. []) j done.out [] done (λ p. run-other m p r other) there (sym (append-nil done.out)) (λ p. refl)
ran-other m word r done j (Some k) low other there =
    let did = run_did k r.on r.bacp word in
    untouched m word (λ p. of_run m p r) (λ p. []) j done.out (all_plain r.link did.out) (runs_at r word (Some k) done)
    (λ p. run-other m p r other) (with-others done.links r.link m (link_with k did) low other ∙ there) refl (λ p. plain-elsewhere p r.link m did.out other)

ran-by : (m word : ℕ) (r : Run) (done : Done) (j : Link) → 1 ≤ m → slice_get done.links (m - 1) ≡ Some j → (r.link ≡ m) ⊎ (r.link ≢ m) →
    Follows m word (λ p. of_run m p r) (sends word (λ p. of_run m p r) j) j done.out (runs word r done)
unfolding runs
ran-by m word r done j low there (inl same) =
    let here : slice_get done.links (r.link - 1) ≡ Some j = ap (λ n. slice_get done.links (n - 1)) same ∙ there in
    let own = ran-own word r done j (subst (λ n. 1 ≤ n) (sym same) low) here in
    subst (λ m. Follows m word (λ p. of_run m p r) (sends word (λ p. of_run m p r) j) j done.out (runs_at r word (slice_get done.links (r.link - 1)) done)) same
    (subst (λ o. Follows r.link word (λ p. of_run r.link p r) (sends word (λ p. of_run r.link p r) j) j done.out (runs_at r word o done)) (sym here) own)
ran-by m word r done j low there (inr other) = ran-other m word r done j (slice_get done.links (r.link - 1)) low other there

ran : (m word : ℕ) (r : Run) (done : Done) (j : Link) → 1 ≤ m → slice_get done.links (m - 1) ≡ Some j →
    Follows m word (λ p. of_run m p r) (sends word (λ p. of_run m p r) j) j done.out (runs word r done)
ran m word r done j low there = ran-by m word r done j low there (same-or r.link m)

-- what is sent by orders, and then by more of them
sends-then : (m word : ℕ) (os next : Proto → List Order) (xs : Proto → List (List ℕ)) (j : Link) (before : List Entry) (after : Done) (one : Follows m word os xs j before after) (p : Proto) →
    sends word os j p ++ sends word next one.link p ≡ sends word (λ p. os p ++ next p) j p
sends-then m word os next xs j before after one p =
    (λ i. sends word os j p ++ sent_by (one.tables i) p word (next p) (one.auto p i))
    ∙ sym (sent_by-append j.tables p word (os p) (next p) (auto_at j.automata p))

pub all-ran : (m word : ℕ) (rs : List Run) (done : Done) (j : Link) → 1 ≤ m → slice_get done.links (m - 1) ≡ Some j →
    Follows m word (λ p. of_runs m p rs) (sends word (λ p. of_runs m p rs) j) j done.out (runs_all word rs done)
unfolding runs_all
all-ran m word [] done j low there = untouched m word (λ p. []) (λ p. []) j done.out [] done (λ p. refl) there (sym (append-nil done.out)) (λ p. refl)
all-ran m word (r ∷ rs) done j low there =
    let one = ran m word r done j low there in
    let mid = runs word r done in
    behind m word (λ p. of_run m p r) (λ p. of_runs m p rs) (λ p. of_runs m p (r ∷ rs)) (sends word (λ p. of_run m p r) j) (sends word (λ p. of_runs m p rs) one.link) (sends word (λ p. of_runs m p (r ∷ rs)) j)
    j done.out mid (runs_all word rs mid) one (all-ran m word rs mid one.link low one.at)
    (λ p. refl) (sends-then m word (λ p. of_run m p r) (λ p. of_runs m p rs) (sends word (λ p. of_run m p r) j) j done.out mid one)

-- runs change no bundle
at-bundles : (word : ℕ) (r : Run) (o : Option Link) (done : Done) → (runs_at r word o done).bundles ≡ done.bundles
at-bundles word r None done = refl
at-bundles word r (Some k) done = refl

pub all-bundles : (word : ℕ) (rs : List Run) (done : Done) → (runs_all word rs done).bundles ≡ done.bundles
unfolding runs_all runs
all-bundles word [] done = refl
all-bundles word (r ∷ rs) done = all-bundles word rs (runs word r done) ∙ at-bundles word r (slice_get done.links (r.link - 1)) done

-- ---- one entry

-- the packets of an entry of link l, and then what it causes at link m
abbrev one_woven : ℕ → ℕ → ℕ → Auto → LinkTold → Bundles → Link → Proto → List (List ℕ)
one_woven l m word lcp e b j p = packets_of p m (plain l e) ++ sends word (λ p. of_runs m p (caused_by l lcp e b).runs) j p

tells : (m word : ℕ) (done : Done) (entry : Entry) (j : Link) → slice_get done.links (m - 1) ≡ Some j →
    Follows m word (λ p. []) (λ p. packets_of p m (entry ∷ []) ++ sends word (λ p. []) j p) j done.out (and_tells done entry)
tells m word done entry j there = untouched m word (λ p. []) (λ p. packets_of p m (entry ∷ [])) j done.out (entry ∷ []) (and_tells done entry) (λ p. refl) there refl (λ p. refl)

stays : (m word : ℕ) (done : Done) (j : Link) → slice_get done.links (m - 1) ≡ Some j → Follows m word (λ p. []) (sends word (λ p. []) j) j done.out done
stays m word done j there = untouched m word (λ p. []) (λ p. []) j done.out [] done (λ p. refl) there (sym (append-nil done.out)) (λ p. refl)

handed : (m word number : ℕ) (octets : List ℕ) (done : Done) (j : Link) (b : Bool) → slice_get done.links (m - 1) ≡ Some j →
    Follows m word (λ p. []) (sends word (λ p. []) j) j done.out (if b then and_tells done (Got None number octets) else done)
handed m word number octets done j true there = tells m word done (Got None number octets) j there
handed m word number octets done j false there = stays m word done j there

followed : (m word : ℕ) (moved : Moved) (done : Done) (j : Link) → 1 ≤ m → slice_get done.links (m - 1) ≡ Some j →
    Follows m word (λ p. of_runs m p moved.runs) (sends word (λ p. of_runs m p moved.runs) j) j done.out (follows word moved done)
followed m word moved done j low there = all-ran m word moved.runs (record done { bundles = moved.bundles }) j low there

came : (l m word : ℕ) (lcp : Auto) (done : Done) (k j : Link) (o : Option Link) → o ≡ Some k → k.automata.lcp ≡ lcp → 1 ≤ m → slice_get done.links (m - 1) ≡ Some j →
    let rs = (comes l (key_in lcp) done.bundles).runs in
    Follows m word (λ p. of_runs m p rs) (sends word (λ p. of_runs m p rs) j) j done.out (comes_up l word o done)
came l m word lcp done k j o is same low there =
    let os : Auto → Proto → List Order = λ lcp p. of_runs m p (comes l (key_in lcp) done.bundles).runs in
    subst (λ o. Follows m word (os lcp) (sends word (os lcp) j) j done.out (comes_up l word o done)) (sym is)
    (subst (λ lcp. Follows m word (os lcp) (sends word (os lcp) j) j done.out (comes_up l word (Some k) done)) same (followed m word (comes l (key_in k.automata.lcp) done.bundles) done j low there))

one-follows : (l m word : ℕ) (lcp : Auto) (e : LinkTold) (done : Done) (k j : Link) → slice_get done.links (l - 1) ≡ Some k → k.automata.lcp ≡ lcp →
    1 ≤ m → slice_get done.links (m - 1) ≡ Some j →
    Follows m word (λ p. of_runs m p (caused_by l lcp e done.bundles).runs) (one_woven l m word lcp e done.bundles j) j done.out (works_one l word e done)
unfolding works_one
one-follows l m word lcp (told.Push octets) done k j own same low there = tells m word done (Push l octets) j there
one-follows l m word lcp told.LcpUp done k j own same low there = came l m word lcp done k j (slice_get done.links (l - 1)) own same low there
one-follows l m word lcp told.LcpDown done k j own same low there = followed m word (goes l done.bundles) done j low there
one-follows l m word lcp told.Finished done k j own same low there = tells m word done (Hang l) j there
one-follows l m word lcp (told.NetUp q) done k j own same low there = stays m word done j there
one-follows l m word lcp (told.NetDown q) done k j own same low there = stays m word done j there
one-follows l m word lcp (told.Payload number octets) done k j own same low there =
    handed m word number octets done j (is_taken done.links l number done.bundles) there

came-bundles : (l word : ℕ) (lcp : Auto) (done : Done) (k : Link) (o : Option Link) → o ≡ Some k → k.automata.lcp ≡ lcp → (comes_up l word o done).bundles ≡ (comes l (key_in lcp) done.bundles).bundles
came-bundles l word lcp done k o is same =
    let moved = comes l (key_in k.automata.lcp) done.bundles in
    ap (λ o. (comes_up l word o done).bundles) is
    ∙ all-bundles word moved.runs (record done { bundles = moved.bundles })
    ∙ ap (λ lcp. (comes l (key_in lcp) done.bundles).bundles) same

handed-bundles : (number : ℕ) (octets : List ℕ) (done : Done) (b : Bool) → (if b then and_tells done (Got None number octets) else done).bundles ≡ done.bundles
handed-bundles number octets done true = refl
handed-bundles number octets done false = refl

pub one-bundles : (l word : ℕ) (lcp : Auto) (e : LinkTold) (done : Done) (k : Link) → slice_get done.links (l - 1) ≡ Some k → k.automata.lcp ≡ lcp →
    (works_one l word e done).bundles ≡ (caused_by l lcp e done.bundles).bundles
unfolding works_one
one-bundles l word lcp (told.Push octets) done k own same = refl
one-bundles l word lcp told.LcpUp done k own same = came-bundles l word lcp done k (slice_get done.links (l - 1)) own same
one-bundles l word lcp told.LcpDown done k own same = all-bundles word (goes l done.bundles).runs (record done { bundles = (goes l done.bundles).bundles })
one-bundles l word lcp told.Finished done k own same = refl
one-bundles l word lcp (told.NetUp q) done k own same = refl
one-bundles l word lcp (told.NetDown q) done k own same = refl
one-bundles l word lcp (told.Payload number octets) done k own same =
    handed-bundles number octets done (is_taken done.links l number done.bundles)

-- ---- all of them

-- LCP goes Up or Down by no run
pub lcp-runs : (m : ℕ) (rs : List Run) → of_runs m Lcp rs ≡ []
lcp-runs m [] = refl
lcp-runs m (r ∷ rs) = ap (λ os. os ++ of_runs m Lcp rs) (by (r.link == m)) ∙ lcp-runs m rs
  where
    by : (b : Bool) → (if b && false then Commands (run_by r.on) ∷ [] else []) ≡ []
    by true = refl
    by false = refl

lcp-stays : (m word : ℕ) (rs : List Run) (more : Proto → List (List ℕ)) (j : Link) (before : List Entry) (after : Done) (one : Follows m word (λ p. of_runs m p rs) more j before after) →
    one.link.automata.lcp ≡ j.automata.lcp
lcp-stays m word rs more j before after one =
    let is : Some one.link.automata.lcp ≡ Some j.automata.lcp = one.auto Lcp ∙ ap (λ os. auto_by j.tables Lcp word os (Some j.automata.lcp)) (lcp-runs m rs) in
    cc

-- the packets of entries of link l, and of what each of them causes at link m, in order
abbrev pub woven : ℕ → ℕ → Proto → LinkTables → ℕ → Auto → List LinkTold → Bundles → Option Auto → List (List ℕ)
woven l m p t word lcp [] b o = []
woven l m p t word lcp (e ∷ es) b o =
    let first = caused_by l lcp e b in
    let os = of_runs m p first.runs in
    (packets_of p m (plain l e) ++ sent_by t p word os o) ++ woven l m p t word lcp es first.bundles (auto_by t p word os o)

-- what the entries cause at link m
abbrev pub orders_for : ℕ → ℕ → Auto → List LinkTold → Bundles → Proto → List Order
orders_for l m lcp es b p = of_runs m p (caused l lcp es b).runs

abbrev pub all_woven : ℕ → ℕ → ℕ → Auto → List LinkTold → Bundles → Link → Proto → List (List ℕ)
all_woven l m word lcp es b j p = woven l m p j.tables word lcp es b (auto_at j.automata p)

pub works-follows : (l m word : ℕ) (lcp : Auto) (es : List LinkTold) (done : Done) (k j : Link) → 1 ≤ l → slice_get done.links (l - 1) ≡ Some k → k.automata.lcp ≡ lcp →
    1 ≤ m → slice_get done.links (m - 1) ≡ Some j →
    Follows m word (orders_for l m lcp es done.bundles) (all_woven l m word lcp es done.bundles j) j done.out (works l word es done)
unfolding works
works-follows l m word lcp [] done k j from own same low there = record {
  link = j;
  at = there;
  tables = refl;
  deframer = refl;
  auto = λ p. sym (no-orders j.tables p word (auto_at j.automata p)).0;
  short = λ short. short;
  sent = λ short p. sym (append-nil (packets_of p m done.out));
}
works-follows l m word lcp (e ∷ es) done k j from own same low there =
    let first = caused_by l lcp e done.bundles in
    let mid = works_one l word e done in
    let here = one-follows l l word lcp e done k k own same from own in
    let one = one-follows l m word lcp e done k j own same low there in
    let bundles = one-bundles l word lcp e done k own same in
    let lcp_is = lcp-stays l word first.runs (one_woven l l word lcp e done.bundles k) k done.out mid here ∙ same in
    behind m word (λ p. of_runs m p first.runs) (orders_for l m lcp es mid.bundles) (orders_for l m lcp (e ∷ es) done.bundles)
    (one_woven l m word lcp e done.bundles j) (all_woven l m word lcp es mid.bundles one.link) (all_woven l m word lcp (e ∷ es) done.bundles j)
    j done.out mid (works l word es mid) one (works-follows l m word lcp es mid here.link one.link from here.at lcp_is low one.at)
    (λ p. ap (λ b. of_runs m p first.runs ++ orders_for l m lcp es b p) bundles ∙ sym (flat_map-append (of_run m p) first.runs (caused l lcp es first.bundles).runs))
    (λ p i. one_woven l m word lcp e done.bundles j p ++ woven l m p (one.tables i) word lcp es (bundles i) (one.auto p i))

pub works-bundles : (l word : ℕ) (lcp : Auto) (es : List LinkTold) (done : Done) (k : Link) → 1 ≤ l → slice_get done.links (l - 1) ≡ Some k → k.automata.lcp ≡ lcp →
    (works l word es done).bundles ≡ (caused l lcp es done.bundles).bundles
unfolding works
works-bundles l word lcp [] done k from own same = refl
works-bundles l word lcp (e ∷ es) done k from own same =
    let first = caused_by l lcp e done.bundles in
    let mid = works_one l word e done in
    let here = one-follows l l word lcp e done k k own same from own in
    let lcp_is = lcp-stays l word first.runs (one_woven l l word lcp e done.bundles k) k done.out mid here ∙ same in
    works-bundles l word lcp es mid here.link from here.at lcp_is
    ∙ ap (λ b. (caused l lcp es b).bundles) (one-bundles l word lcp e done k own same)

one-short : (l word : ℕ) (e : LinkTold) (done : Done) → AreShort (works_one l word e done).out → IsShortPush e
unfolding works_one
one-short l word (told.Push octets) done short = (short-behind done.out (Push l octets ∷ []) short).0
one-short l word told.LcpUp done short = tt
one-short l word told.LcpDown done short = tt
one-short l word told.Finished done short = tt
one-short l word (told.NetUp q) done short = tt
one-short l word (told.NetDown q) done short = tt
one-short l word (told.Payload number octets) done short = tt

pub works-short : (l word : ℕ) (lcp : Auto) (es : List LinkTold) (done : Done) (k : Link) → 1 ≤ l → slice_get done.links (l - 1) ≡ Some k → k.automata.lcp ≡ lcp →
    AreShort (works l word es done).out → AllShort es
unfolding works
works-short l word lcp [] done k from own same short = tt
works-short l word lcp (e ∷ es) done k from own same short =
    let first = caused_by l lcp e done.bundles in
    let mid = works_one l word e done in
    let here = one-follows l l word lcp e done k k own same from own in
    let lcp_is = lcp-stays l word first.runs (one_woven l l word lcp e done.bundles k) k done.out mid here ∙ same in
    let rest = works-follows l l word lcp es mid here.link here.link from here.at lcp_is from here.at in
    (one-short l word e done (rest.short short), works-short l word lcp es mid here.link from here.at lcp_is short)

-- ---- own packets, and then those of what was caused

-- entries without packets of their own
woven-caused : (l m : ℕ) (p : Proto) (t : LinkTables) (word : ℕ) (lcp : Auto) (es : List LinkTold) (b : Bundles) (o : Option Auto) → packets_of p m (all_plain l es) ≡ [] →
    woven l m p t word lcp es b o ≡ sent_by t p word (orders_for l m lcp es b p) o
woven-caused l m p t word lcp [] b o none = sym (no-orders t p word o).1
woven-caused l m p t word lcp (e ∷ es) b o none =
    let first = caused_by l lcp e b in
    let os = of_runs m p first.runs in
    let next = auto_by t p word os o in
    let more = orders_for l m lcp es first.bundles p in
    let both : packets_of p m (plain l e) ++ packets_of p m (all_plain l es) ≡ [] = sym (flat_map-append (packet_of p m) (plain l e) (all_plain l es)) ∙ none in
    ap (λ xs. (xs ++ sent_by t p word os o) ++ woven l m p t word lcp es first.bundles next) (nil-front (packets_of p m (plain l e)) (packets_of p m (all_plain l es)) both)
    ∙ ap (λ xs. sent_by t p word os o ++ xs) (woven-caused l m p t word lcp es first.bundles next (nil-behind (packets_of p m (plain l e)) (packets_of p m (all_plain l es)) both))
    ∙ sym (sent_by-append t p word os more o)
    ∙ ap (λ os. sent_by t p word os o) (sym (flat_map-append (of_run m p) first.runs (caused l lcp es first.bundles).runs))

-- entries that cause nothing there
woven-own : (l m : ℕ) (p : Proto) (t : LinkTables) (word : ℕ) (lcp : Auto) (es : List LinkTold) (b : Bundles) (o : Option Auto) → orders_for l m lcp es b p ≡ [] →
    woven l m p t word lcp es b o ≡ packets_of p m (all_plain l es)
woven-own l m p t word lcp [] b o none = refl
woven-own l m p t word lcp (e ∷ es) b o none =
    let first = caused_by l lcp e b in
    let os = of_runs m p first.runs in
    let more = orders_for l m lcp es first.bundles p in
    let next = auto_by t p word os o in
    let own = packets_of p m (plain l e) in
    let both : os ++ more ≡ [] = sym (flat_map-append (of_run m p) first.runs (caused l lcp es first.bundles).runs) ∙ none in
    ap (λ os. (own ++ sent_by t p word os o) ++ woven l m p t word lcp es first.bundles next) (nil-front os more both)
    ∙ ap (λ xs. (own ++ xs) ++ woven l m p t word lcp es first.bundles next) (no-orders t p word o).1
    ∙ ap (λ xs. xs ++ woven l m p t word lcp es first.bundles next) (append-nil own)
    ∙ ap (λ xs. own ++ xs) (woven-own l m p t word lcp es first.bundles next (nil-behind os more both))
    ∙ sym (flat_map-append (packet_of p m) (plain l e) (all_plain l es))

-- the entries of link l have no packet of the protocol on link m, or cause nothing there
abbrev pub IsApart : ℕ → ℕ → Proto → Auto → List LinkTold → Bundles → Type 0
IsApart l m p lcp es b = (packets_of p m (all_plain l es) ≡ []) ⊎ (orders_for l m lcp es b p ≡ [])

pub unwoven : (l m : ℕ) (p : Proto) (t : LinkTables) (word : ℕ) (os : List Order) (lcp : Auto) (es : List LinkTold) (b : Bundles) (o : Option Auto) → IsApart l m p lcp es b →
    packets_of p m (all_plain l es) ≡ sent_by t p word os o → woven l m p t word lcp es b (auto_by t p word os o) ≡ sent_by t p word (os ++ orders_for l m lcp es b p) o
unwoven l m p t word os lcp es b o (inl none) own =
    let more = orders_for l m lcp es b p in
    woven-caused l m p t word lcp es b (auto_by t p word os o) none
    ∙ ap (λ xs. xs ++ sent_by t p word more (auto_by t p word os o)) (sym none ∙ own)
    ∙ sym (sent_by-append t p word os more o)
unwoven l m p t word os lcp es b o (inr none) own =
    woven-own l m p t word lcp es b (auto_by t p word os o) none
    ∙ own
    ∙ ap (λ os. sent_by t p word os o) (sym (append-nil os) ∙ ap (λ more. os ++ more) (sym none))
