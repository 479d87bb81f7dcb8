-- What a class delivers in one life is what was sent.
use Rattle.std.proofs.Common.{◌≡◌, ℕ, zero, suc, ◌+◌, ◌-◌, ◌*◌, ◌/◌, ◌%◌, ◌<◌, ◌≤◌, inl, inr, min, Bool, true, false, if◌then◌else◌, ◌==◌, ◌||◌, List, [], ◌∷◌, ◌++◌, length, map, take, drop, refl, ap, sym, ◌∙◌, subst, arith, append-nil, length-append}
use Rattle.std.specs.Prelude.{Option, Some, None, nat_le, nat_lt, slice_get, slice_set, remove, MatchOption, ⊤}
use Rattle.std.specs.List.{AllByRecursion}
use Rattle.std.proofs.lemmas.Bool.{eqb-false, leb-false, ltb-true, ltb-false, or_parts}
use Rattle.std.proofs.lemmas.List.{drop_at, take-append-le}
use Rattle.std.proofs.lemmas.Option.{none-some, same_Some, slice_get_within}
use Rattle.ppp_mp.specs.Class.{Class, Shape, Took, ahead, discarded, held_as, is_discarded, is_held, is_late, least, lowered, next_at, put, received, room_of, row_with, has_room, turned, turns_of}
use Rattle.ppp_mp.specs.Fragments.{AreSome, Fragment, Numbered, fragments_of, packets, pieces}
use Rattle.ppp_mp.specs.Passage.{Event, InOrder, IsNarrow, IsNear, IsNearNext, IsSpace, Passage, StaysNarrow, after, after_all, comes, numbered, unsent}
use Rattle.ppp_mp.specs.Passage.Event.{Cut, Comes, Lost, Joins, Leaves, NewLife}
use Rattle.ppp_mp.specs.Settlement.{AreRising, Row, points_of, settled}
use Rattle.ppp_mp.proofs.FragmentsLemmas.{begun_by, cut-packets, done, done-all, done-later, more_from, packets-append, some-both, some-more}
use Rattle.ppp_mp.proofs.SettlementLemmas.{AreOf, GoodSettled, IsFrom, settle-good}

-- ---- numbers

-- a fragment that isn't late is read as what it is
window : (space next q all t : ℕ) → IsSpace space → next + q * space ≤ all → all < next + q * space + space / 2 → t < all → all < t + space / 2 → ahead space next (t % space) < space / 2 → next + ahead space next (t % space) + q * space ≡ t
window space next q all t (inl e) low near within now small =
    subst (λ s. next + q * s ≤ all → all < next + q * s + s / 2 → t < all → all < t + s / 2 → ahead s next (t % s) < s / 2 → next + ahead s next (t % s) + q * s ≡ t) (sym e) (λ a b c d f. omega arith) low near within now small
window space next q all t (inr e) low near within now small =
    subst (λ s. next + q * s ≤ all → all < next + q * s + s / 2 → t < all → all < t + s / 2 → ahead s next (t % s) < s / 2 → next + ahead s next (t % s) + q * s ≡ t) (sym e) (λ a b c d f. omega arith) low near within now small

-- the first fragment of a life is the next one
first-window : (space t : ℕ) → IsSpace space → (t % space + t / space * space ≡ t) × (t % space + ahead space (t % space) (t % space) + t / space * space ≡ t)
first-window space t (inl e) = subst (λ s. (t % s + t / s * s ≡ t) × (t % s + ahead s (t % s) (t % s) + t / s * s ≡ t)) (sym e) (omega arith, omega arith)
first-window space t (inr e) = subst (λ s. (t % s + t / s * s ≡ t) × (t % s + ahead s (t % s) (t % s) + t / s * s ≡ t)) (sym e) (omega arith, omega arith)

-- whole turns are taken off the numbers and added to what they stand for
turn-parts : (space q n : ℕ) → IsSpace space → ((q + n / space) * space ≡ q * space + turns_of space n) × (turns_of space n ≤ n)
turn-parts space q n (inl e) = subst (λ s. ((q + n / s) * s ≡ q * s + turns_of s n) × (turns_of s n ≤ n)) (sym e) (omega arith, omega arith)
turn-parts space q n (inr e) = subst (λ s. ((q + n / s) * s ≡ q * s + turns_of s n) × (turns_of s n ≤ n)) (sym e) (omega arith, omega arith)

-- a distance on the circle is the true one, where that is less than the whole circle
near-again : (space q n all : ℕ) → IsSpace space → n + q * space ≤ all → all < n + q * space + 2 * (space / 2) → IsNearNext space all n → all < n + q * space + space / 2
near-again space q n all (inl e) low whole near =
    subst (λ s. n + q * s ≤ all → all < n + q * s + 2 * (s / 2) → IsNearNext s all n → all < n + q * s + s / 2) (sym e) (λ a b c. omega arith) low whole near
near-again space q n all (inr e) low whole near =
    subst (λ s. n + q * s ≤ all → all < n + q * s + 2 * (s / 2) → IsNearNext s all n → all < n + q * s + s / 2) (sym e) (λ a b c. omega arith) low whole near

-- ---- what is held

above : (a b : ℕ) → a ≤ b → (a ≡ b → ⊥) → a + 1 ≤ b
above a b le ne = omega arith

pub put-rising : (h : Numbered) (n : ℕ) (held : List Numbered) → n ≤ h.number → is_held h.number held ≡ false → AreRising n held → AreRising n (put h held)
put-rising h n [] low new rising = (low, tt)
put-rising h n (x ∷ xs) low new rising =
    let parts = or_parts (x.number == h.number) (is_held h.number xs) new in
    go (nat_lt h.number x.number) refl (eqb-false x.number h.number parts.0) (λ up. put-rising h (x.number + 1) xs up parts.1 rising.1)
  where
    go : (b : Bool) → nat_lt h.number x.number ≡ b → (x.number ≡ h.number → ⊥) → (x.number + 1 ≤ h.number → AreRising (x.number + 1) (put h xs)) → AreRising n (if b then h ∷ x ∷ xs else x ∷ put h xs)
    go true e other rest = let less = ltb-true h.number x.number e in (low, (omega arith, rising.1))
    go false e other rest = (rising.0, rest (above x.number h.number (ltb-false h.number x.number e) other))

put-fits : (sent : List Fragment) (c : ℕ) (h : Numbered) (held : List Numbered) → slice_get sent (h.number + c) ≡ Some h.fragment → AreOf sent c held → AreOf sent c (put h held)
put-fits sent c h [] own fits = (own, tt)
put-fits sent c h (x ∷ xs) own fits = go (nat_lt h.number x.number) (put-fits sent c h xs own fits.1)
  where
    go : (b : Bool) → AreOf sent c (put h xs) → AreOf sent c (if b then h ∷ x ∷ xs else x ∷ put h xs)
    go true rest = (own, fits)
    go false rest = (fits.0, rest)

pub lowered-rising : (turns n : ℕ) (held : List Numbered) → turns ≤ n → AreRising n held → AreRising (n - turns) (map (lowered turns) held)
lowered-rising turns n [] low rising = tt
lowered-rising turns n (x ∷ xs) low rising =
    let up = rising.0 in
    let same : x.number + 1 - turns ≡ x.number - turns + 1 = omega arith in
    (omega arith, subst (λ m. AreRising m (map (lowered turns) xs)) same (lowered-rising turns (x.number + 1) xs (omega arith) rising.1))

lowered-fits : (sent : List Fragment) (c d turns n : ℕ) (held : List Numbered) → d ≡ c + turns → turns ≤ n → AreRising n held → AreOf sent c held → AreOf sent d (map (lowered turns) held)
lowered-fits sent c d turns n [] is low rising fits = tt
lowered-fits sent c d turns n (x ∷ xs) is low rising fits =
    let up = rising.0 in
    let same : x.number + c ≡ x.number - turns + d = omega arith in
    (subst (λ m. slice_get sent m ≡ Some x.fragment) same fits.0, lowered-fits sent c d turns (x.number + 1) xs is (omega arith) rising.1 fits.1)

least-less : (n : ℕ) (js : List Bool) (xs : List ℕ) → least n js xs ≤ n
least-less n [] xs = omega arith
least-less n (j ∷ js) [] = omega arith
least-less n (true ∷ js) (x ∷ xs) = let low = least-less (min n x) js xs in omega arith
least-less n (false ∷ js) (x ∷ xs) = least-less n js xs

-- ---- a class in one life

-- where a class stands: `c` is what its numbers lack, in whole turns of the number space
pub record Good (sent : List Fragment) (half c : ℕ) (got : List (List ℕ)) (next : ℕ) (held : List Numbered) : Type 0 where
  pub from : IsFrom sent c next next held
  pub near : length sent < next + c + half
  pub whole : AreSome got (done sent (next + c))

abbrev pub GoodRow : List Fragment → ℕ → ℕ → List (List ℕ) → Row → Type 0
GoodRow sent half c got r = Good sent half c got r.next r.held

abbrev pub Stands : List Fragment → ℕ → List (List ℕ) → Option ℕ → List Numbered → Type 0
Stands sent space got None held = (held ≡ []) × (got ≡ [])
Stands sent space got (Some next) held = (q : ℕ) × Good sent (space / 2) (q * space) got next held

abbrev pub StandsTook : List Fragment → ℕ → List (List ℕ) → Took → Type 0
StandsTook sent space got t = Stands sent space (got ++ t.out) t.class.next t.class.held

turned-good : (sent : List Fragment) (space q : ℕ) (got : List (List ℕ)) (r : Row) (heard : List ℕ) → IsSpace space → Good sent (space / 2) (q * space) got r.next r.held → Stands sent space got (turned space r heard).next (turned space r heard).held
turned-good sent space q got r heard is good =
    let parts = turn-parts space q r.next is in
    let turns : ℕ = turns_of space r.next in
    let sum : r.next - turns_of space r.next + (q + r.next / space) * space ≡ r.next + q * space = omega (arith, parts.0, parts.1) in (
      q + r.next / space,
      record {
        from = record {
          past = omega arith;
          within = omega (arith, good.from.within);
          rising = lowered-rising (turns_of space r.next) r.next r.held parts.1 good.from.rising;
          fits = lowered-fits sent (q * space) ((q + r.next / space) * space) (turns_of space r.next) r.next r.held parts.0 parts.1 good.from.rising good.from.fits;
        };
        near = omega (arith, good.near);
        whole = rw sum good.whole;
      },
    )

settled-good : (sent : List Fragment) (half c limit most : ℕ) (got : List (List ℕ)) (r : Row) → limit + c ≤ length sent → Good sent half c got r.next r.held →
    Good sent half c (got ++ (settled limit most r).out) (settled limit most r).row.next (settled limit most r).row.held
settled-good sent half c limit most got r few good = all (settle-good sent c (points_of r.held) limit most r few good.from)
  where
    all : GoodSettled sent c r.next (settled limit most r) → Good sent half c (got ++ (settled limit most r).out) (settled limit most r).row.next (settled limit most r).row.held
    all last = record {
      from = record { past = omega arith; within = last.0.within; rising = last.0.rising; fits = last.0.fits };
      near = omega (arith, last.0.past, good.near);
      whole = rw last.1.done_is (some-both got (done sent (r.next + c)) (settled limit most r).out last.1.more good.whole last.1.some);
    }

row-good : (sent : List Fragment) (half c room : ℕ) (got : List (List ℕ)) (next : ℕ) (held : List Numbered) (h : Numbered) → Good sent half c got next held → next ≤ h.number → slice_get sent (h.number + c) ≡ Some h.fragment → is_held h.number held ≡ false →
    Good sent half c got (row_with room next held h).next (row_with room next held h).held
row-good sent half c room got next held h good low own new = go (has_room room held h.fragment)
  where
    inside : h.number + c < length sent
    inside = slice_get_within sent (h.number + c) h.fragment own

    go : (b : Bool) → GoodRow sent half c got (if b then record { next = next; held = put h held } else record { next = h.number; held = h ∷ [] })
    go true = record {
      from = record {
        past = omega arith;
        within = good.from.within;
        rising = put-rising h next held low new good.from.rising;
        fits = put-fits sent c h held own good.from.fits;
      };
      near = good.near;
      whole = good.whole;
    }
    go false = record {
      from = record { past = omega arith; within = omega (arith, inside); rising = (omega arith, tt); fits = (own, tt) };
      near = omega (arith, good.near);
      whole = rw (done-later sent (next + c) (h.number + c) (omega arith)) (some-more got (done sent (next + c)) (more_from sent (next + c) (h.number + c)) good.whole);
    }

held-good : (s : Shape) → IsSpace s.space → (sent : List Fragment) (joined : List Bool) (k : Class) (q link next : ℕ) (got : List (List ℕ)) (h : Numbered) → Good sent (s.space / 2) (q * s.space) got next k.held → next ≤ h.number → slice_get sent (h.number + q * s.space) ≡ Some h.fragment → is_held h.number k.held ≡ false →
    StandsTook sent s.space got (held_as s joined k link next h)
held-good s is sent joined k q link next got h good low own new =
    let inside = slice_get_within sent (h.number + q * s.space) h.fragment own in
    let heard = slice_set k.heard link (h.number + 1) in
    let less = least-less (h.number + 1) joined heard in
    turned-good sent s.space q _ _ heard is (
    settled-good sent (s.space / 2) (q * s.space) (least (h.number + 1) joined heard) s.most got (row_with (room_of s) next k.held h) (omega arith)
    (row-good sent (s.space / 2) (q * s.space) (room_of s) got next k.held h good low own new))

-- where the first fragment of a life is the next one
begun-good : (sent : List Fragment) (space t : ℕ) (f : Fragment) → IsSpace space → slice_get sent t ≡ Some f → length sent < t + space / 2 → Good sent (space / 2) (t / space * space) [] (t % space) []
begun-good sent space t f is at near =
    let same = (first-window space t is).0 in
    let low = slice_get_within sent t f at in
    record {
      from = record { past = omega arith; within = omega arith; rising = tt; fits = tt };
      near = omega arith;
      whole = tt;
    }

-- the number that a fragment is read as stands for its true one
pub record IsRead (sent : List Fragment) (space : ℕ) (got : List (List ℕ)) (next : ℕ) (held : List Numbered) (n t : ℕ) : Type 0 where
  pub turns : ℕ
  pub good : Good sent (space / 2) (turns * space) got next held
  pub low : next ≤ n
  pub same : n + turns * space ≡ t

read-by : (sent : List Fragment) (space t : ℕ) (f : Fragment) (got : List (List ℕ)) (next : Option ℕ) (held : List Numbered) → IsSpace space → slice_get sent t ≡ Some f → length sent < t + space / 2 → Stands sent space got next held →
    is_late space (next_at next (t % space)) (t % space) ≡ false → IsRead sent space got (next_at next (t % space)) held (next_at next (t % space) + ahead space (next_at next (t % space)) (t % space)) t
read-by sent space t f got None held is at near stands late = record {
  turns = t / space;
  good = subst (λ x. Good sent (space / 2) (t / space * space) x (t % space) held) (sym stands.1) (subst (λ x. Good sent (space / 2) (t / space * space) [] (t % space) x) (sym stands.0) (begun-good sent space t f is at near));
  low = omega arith;
  same = (first-window space t is).1;
}
read-by sent space t f got (Some next) held is at near stands late =
    let low = slice_get_within sent t f at in
    let good = stands.1 in
    record {
      turns = stands.0;
      good = good;
      low = omega arith;
      same = window space next stands.0 (length sent) t is good.from.within good.near low near (leb-false (space / 2) (ahead space next (t % space)) late);
    }

-- a fragment that was sent comes
pub took-good : (s : Shape) → IsSpace s.space → (sent : List Fragment) (joined : List Bool) (k : Class) (link t : ℕ) (f : Fragment) (got : List (List ℕ)) → slice_get sent t ≡ Some f → length sent < t + s.space / 2 → Stands sent s.space got k.next k.held →
    StandsTook sent s.space got (received s joined k link (t % s.space) f)
took-good s is sent joined k link t f got at near stands = go (is_discarded s k (t % s.space) f) refl
  where
    go : (b : Bool) → is_discarded s k (t % s.space) f ≡ b → StandsTook sent s.space got (if b then discarded k else held_as s joined k link (next_at k.next (t % s.space)) (record { number = next_at k.next (t % s.space) + ahead s.space (next_at k.next (t % s.space)) (t % s.space); fragment = f }))
    go true e = rw (append-nil got) stands
    go false e =
        let first = or_parts (nat_lt s.most (length f.payload) || is_late s.space (next_at k.next (t % s.space)) (t % s.space)) (is_held (next_at k.next (t % s.space) + ahead s.space (next_at k.next (t % s.space)) (t % s.space)) k.held) e in
        let late = or_parts (nat_lt s.most (length f.payload)) (is_late s.space (next_at k.next (t % s.space)) (t % s.space)) first.0 in
        let is-read = read-by sent s.space t f got k.next k.held is at near stands late.1 in
        held-good s is sent joined k is-read.turns link _ got _ is-read.good is-read.low (subst (λ n. slice_get sent n ≡ Some f) (sym is-read.same) at) first.1

-- ---- what is under way

abbrev pub AreSent : List Fragment → List Numbered → Type 0
AreSent sent hs = AllByRecursion (λ h. slice_get sent h.number ≡ Some h.fragment) hs

get-more : (sent fs : List Fragment) (n : ℕ) (f : Fragment) → slice_get sent n ≡ Some f → slice_get (sent ++ fs) n ≡ Some f
get-more [] fs n f h = absurd (none-some f h)
get-more (x ∷ xs) fs zero f h = h
get-more (x ∷ xs) fs (suc n) f h = get-more xs fs n f h

sent-more : (sent fs : List Fragment) (hs : List Numbered) → AreSent sent hs → AreSent (sent ++ fs) hs
sent-more sent fs [] all = tt
sent-more sent fs (h ∷ hs) all = (get-more sent fs h.number h.fragment all.0, sent-more sent fs hs all.1)

all-append : (P : Numbered → Type 0) (xs ys : List Numbered) → AllByRecursion P xs → AllByRecursion P ys → AllByRecursion P (xs ++ ys)
all-append P [] ys a b = b
all-append P (x ∷ xs) ys a b = (a.0, all-append P xs ys a.1 b)

all-behind : (P : Numbered → Type 0) (xs ys : List Numbered) → AllByRecursion P (xs ++ ys) → AllByRecursion P ys
all-behind P [] ys all = all
all-behind P (x ∷ xs) ys all = all-behind P xs ys all.1

all-removed : (P : Numbered → Type 0) (xs : List Numbered) (i : ℕ) → AllByRecursion P xs → AllByRecursion P (remove xs i)
all-removed P xs i all = all-append P (take i xs) (drop (suc i) xs) (front i xs all) (back (suc i) xs all)
  where
    front : (i : ℕ) (xs : List Numbered) → AllByRecursion P xs → AllByRecursion P (take i xs)
    front zero xs all = tt
    front (suc i) [] all = tt
    front (suc i) (x ∷ xs) all = (all.0, front i xs all.1)

    back : (i : ℕ) (xs : List Numbered) → AllByRecursion P xs → AllByRecursion P (drop i xs)
    back zero xs all = all
    back (suc i) [] all = tt
    back (suc i) (x ∷ xs) all = back i xs all.1

all-at : (P : Numbered → Type 0) (xs : List Numbered) (i : ℕ) (h : Numbered) → AllByRecursion P xs → slice_get xs i ≡ Some h → P h
all-at P [] i h all is = absurd (none-some h is)
all-at P (x ∷ xs) zero h all is = subst P (same_Some x h is) all.0
all-at P (x ∷ xs) (suc i) h all is = all-at P xs i h all.1 is

-- the fragments from a place on are at their numbers
at-head : (all : List Fragment) (n : ℕ) (f : Fragment) (fs : List Fragment) → drop n all ≡ f ∷ fs → (slice_get all n ≡ Some f) × (drop (suc n) all ≡ fs)
at-head [] zero f fs is = absurd (cc)
at-head [] (suc n) f fs is = absurd (cc)
at-head (x ∷ xs) zero f fs is = (cc, cc)
at-head (x ∷ xs) (suc n) f fs is = at-head xs n f fs is

numbered-sent : (all : List Fragment) (n : ℕ) (fs : List Fragment) → drop n all ≡ fs → AreSent all (numbered n fs)
numbered-sent all n [] is = tt
numbered-sent all n (f ∷ fs) is = let head = at-head all n f fs is in (head.0, numbered-sent all (suc n) fs head.1)

-- a cut has a first fragment
first-near : (space all n most size : ℕ) (begins : Bool) (octets : List ℕ) → AllByRecursion (λ h. IsNear space all h.number) (numbered n (pieces most size begins octets)) → IsNear space all n
first-near space all n zero size begins octets near = near.0
first-near space all n (suc most) size begins octets near = go (nat_le (length octets) size) (pieces most size false (drop size octets)) near
  where
    go : (b : Bool) (rest : List Fragment) → AllByRecursion (λ h. IsNear space all h.number) (numbered n (if b then record { begins = begins; ends = true; payload = octets } ∷ [] else record { begins = begins; ends = false; payload = take size octets } ∷ rest)) → IsNear space all n
    go true rest near = near.0
    go false rest near = near.0

-- ---- the passage

-- what is so of the sender, and of all that is under way, at any time
pub record IsSound (p : Passage) : Type 0 where
  pub marks : AreSent p.sent p.under_way
  pub made : packets [] p.sent ≡ p.packets

pub record IsIn (s : Shape) (p : Passage) : Type 0 where
  pub sound : IsSound p
  pub stands : Stands p.sent s.space p.got p.class.next p.class.held

cut-sound : (p : Passage) (size : ℕ) (packet : List ℕ) (s : Shape) → IsSound p → IsSound (after s p (Cut size packet))
cut-sound p size packet s h = record {
  marks = all-append (λ x. slice_get (p.sent ++ fragments_of size packet) x.number ≡ Some x.fragment) p.under_way (numbered (length p.sent) (fragments_of size packet))
      (sent-more p.sent (fragments_of size packet) p.under_way h.marks)
      (numbered-sent (p.sent ++ fragments_of size packet) (length p.sent) (fragments_of size packet) (drop_at p.sent (fragments_of size packet) (length p.sent) refl));
  made =
      packets-append [] p.sent (fragments_of size packet)
      ∙ ap (λ x. packets [] p.sent ++ x) (cut-packets size (begun_by [] p.sent) packet)
      ∙ ap (λ x. x ++ packet ∷ []) h.made;
}

comes-sound : (s : Shape) (link : ℕ) (o : Option Numbered) (p : Passage) → IsSound p → IsSound (comes s link o p)
comes-sound s link None p h = h
comes-sound s link (Some x) p h = record { marks = h.marks; made = h.made }

after-sound : (s : Shape) (p : Passage) (e : Event) → IsSound p → IsSound (after s p e)
after-sound s p (Cut size packet) h = cut-sound p size packet s h
after-sound s p (Comes place link) h = comes-sound s link (slice_get p.under_way place) p h
after-sound s p (Lost place) h = record { marks = all-removed (λ x. slice_get p.sent x.number ≡ Some x.fragment) p.under_way place h.marks; made = h.made }
after-sound s p (Joins link) h = record { marks = h.marks; made = h.made }
after-sound s p (Leaves link) h = record { marks = h.marks; made = h.made }
after-sound s p NewLife h = record { marks = h.marks; made = h.made }

all-sound : (s : Shape) (p : Passage) (es : List Event) → IsSound p → IsSound (after_all s p es)
all-sound s p [] h = h
all-sound s p (e ∷ es) h = all-sound s (after s p e) es (after-sound s p e h)

-- ---- in a life

of-more : (sent fs : List Fragment) (c : ℕ) (hs : List Numbered) → AreOf sent c hs → AreOf (sent ++ fs) c hs
of-more sent fs c [] fits = tt
of-more sent fs c (h ∷ hs) fits = (get-more sent fs (h.number + c) h.fragment fits.0, of-more sent fs c hs fits.1)

-- more is sent
pub more-stands : (space : ℕ) → IsSpace space → (sent fs : List Fragment) (got : List (List ℕ)) (next : Option ℕ) (held : List Numbered) → IsNear space (length (sent ++ fs)) (length sent) → MatchOption next ⊤ (IsNearNext space (length (sent ++ fs))) →
    Stands sent space got next held → Stands (sent ++ fs) space got next held
more-stands space is sent fs got None held few near stands = stands
more-stands space is sent fs got (Some next) held few near stands =
    let q = stands.0 in
    let good = stands.1 in
    let size = length-append sent fs in (
      stands.0,
      record {
        from = record {
          past = omega arith;
          within = omega (arith, good.from.within);
          rising = good.from.rising;
          fits = of-more sent fs (stands.0 * space) held good.from.fits;
        };
        near = near-again space stands.0 next (length (sent ++ fs)) is (omega (arith, good.from.within)) (omega (arith, good.near)) near;
        whole = subst (λ x. AreSome got (packets [] x)) (sym (take-append-le (next + stands.0 * space) sent fs good.from.within)) good.whole;
      },
    )

comes-in : (s : Shape) → IsSpace s.space → (link place : ℕ) (o : Option Numbered) (p : Passage) → slice_get p.under_way place ≡ o → IsNarrow s.space (comes s link o p) → IsIn s p → IsIn s (comes s link o p)
comes-in s is link place None p at near h = h
comes-in s is link place (Some x) p at near h = record {
  sound = comes-sound s link (Some x) p h.sound;
  stands = took-good s is p.sent p.joined p.class link x.number x.fragment p.got
      (all-at (λ y. slice_get p.sent y.number ≡ Some y.fragment) p.under_way place x h.sound.marks at)
      (all-at (λ y. IsNear s.space (length p.sent) y.number) p.under_way place x near.under_way at) h.stands;
}

after-in : (s : Shape) → IsSpace s.space → (p : Passage) (e : Event) → IsNarrow s.space (after s p e) → IsIn s p → IsIn s (after s p e)
after-in s is p (Cut size packet) near h = record {
  sound = cut-sound p size packet s h.sound;
  stands = more-stands s.space is p.sent (fragments_of size packet) p.got p.class.next p.class.held
      (first-near s.space (length (p.sent ++ fragments_of size packet)) (length p.sent) (length packet) size true packet
      (all-behind (λ x. IsNear s.space (length (p.sent ++ fragments_of size packet)) x.number) p.under_way (numbered (length p.sent) (fragments_of size packet)) near.under_way))
      near.next h.stands;
}
after-in s is p (Comes place link) near h = comes-in s is link place (slice_get p.under_way place) p refl near h
after-in s is p (Lost place) near h = record { sound = after-sound s p (Lost place) h.sound; stands = h.stands }
after-in s is p (Joins link) near h = record { sound = after-sound s p (Joins link) h.sound; stands = h.stands }
after-in s is p (Leaves link) near h = record { sound = after-sound s p (Leaves link) h.sound; stands = h.stands }
after-in s is p NewLife near h = record { sound = after-sound s p NewLife h.sound; stands = (refl, refl) }

all-in : (s : Shape) → IsSpace s.space → (p : Passage) (es : List Event) → StaysNarrow s p es → IsIn s p → IsIn s (after_all s p es)
all-in s is p [] near h = h
all-in s is p (e ∷ es) near h = all-in s is (after s p e) es near.1 (after-in s is p e near.0 h)

in-whole : (space : ℕ) (p : Passage) (next : Option ℕ) (held : List Numbered) → IsSound p → Stands p.sent space p.got next held → AreSome p.got p.packets
in-whole space p None held sound stands = rw stands.1 tt
in-whole space p (Some next) held sound stands = subst (AreSome p.got) sound.made (done-all p.sent (next + stands.0 * space) p.got stands.1.whole)

pub in-order : (s : Shape) → IsSpace s.space → (before life : List Event) → InOrder s before life
in-order s is before life near =
    let begun = after s (after_all s unsent before) NewLife in
    let sound : IsSound (after_all s unsent before) = all-sound s unsent before (record { marks = tt; made = refl }) in
    let all = all-in s is (after s (after_all s unsent before) NewLife) life near (record { sound = after-sound s (after_all s unsent before) NewLife sound; stands = (refl, refl) }) in
    in-whole s.space (after_all s (after s (after_all s unsent before) NewLife) life) _ _ all.sound all.stands
