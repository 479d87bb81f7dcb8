-- Over links that give each packet once at most, the two ends go the same ways.
use Rattle.std.proofs.Common.{◌≡◌, ◌+◌, ℕ, Bool, true, false, not, ◌&&◌, List, [], ◌∷◌, ◌++◌, Option, Some, None, ⊎_elim, ap, refl, sym, subst}
use Rattle.std.specs.Prelude.{if◌then◌else◌, ◌||◌}
use Rattle.std.specs.List.{list_any}
use Rattle.std.proofs.lemmas.Bool.{or_cases}
use Rattle.ppp_bap.specs.declared.bap_ask.BapAsk.{BapAsk}
use Rattle.ppp_bap.specs.declared.bap_ask.BapAsk.TheVariants.{Call, Callback, Drop}
use Rattle.ppp_pair.specs.Close.{IsClosing, IsKept}
use Rattle.ppp_pair.specs.Delivery.{CrossingOnce, Happens, Included, IsLike, KeptOnce, Loses, Passed, Passing, at_first_once, loses, passed, passes, run_once, takes_once, without_packet}
use Rattle.ppp_pair.specs.Pair.{A, Asks, AsksAgain, B, Draws, End, EndsWait, Event, Happening, Joins, Leaves, Packet, Pair, Reboots, Request, Response, Side, TakesRequest, TakesResponse, Waiting, answers, asks, asks_again, at_first, closes, follows, grants, happens, has_staying, hears, is_coming, is_response_to, is_waiting, joins, leaves, may_answer, may_ask, may_grant, run, same_packet, seen, start, takes_response, turned}
use Rattle.ppp_pair.specs.Response.{Ack, DropResponse, FullNak, Nak, Rej, ResponseCode, ResponseType, response_type}
use Rattle.ppp_pair.proofs.CloseLemmas.{closes_so, closing_kept}
use Rattle.ppp_pair.proofs.Invariant.{Holds}
use Rattle.ppp_pair.proofs.Runs.{every_holds}

-- ---- what is under way

-- each packet in the first list is in the second
abbrev Covers : List Packet → List Packet → Type 0
Covers ps qs = (p : Packet) → list_any (same_packet p) ps ≡ true → list_any (same_packet p) qs ≡ true

here_or : (x y : Bool) → x ≡ true → (x || y) ≡ true
here_or x y h = rw h refl

later_or : (x y : Bool) → y ≡ true → (x || y) ≡ true
later_or true y h = refl
later_or false y h = h

covers_more : (x : Packet) (ps qs : List Packet) → Covers ps qs → Covers (x ∷ ps) (x ∷ qs)
covers_more x ps qs c p h = ⊎_elim
    (λ here. here_or (same_packet p x) (list_any (same_packet p) qs) here)
    (λ later. later_or (same_packet p x) (list_any (same_packet p) qs) (c p later))
    (or_cases (same_packet p x) (list_any (same_packet p) ps) h)

covers_without : (x : Packet) (ps : List Packet) → Covers (without_packet x ps) ps
covers_without x [] p h = h
covers_without x (q ∷ qs) p h = by (covers_without x qs) (same_packet x q) h where
  by : Covers (without_packet x qs) qs → (b : Bool) → list_any (same_packet p) (if b then qs else q ∷ without_packet x qs) ≡ true →
      list_any (same_packet p) (q ∷ qs) ≡ true
  by c true k = later_or (same_packet p q) (list_any (same_packet p) qs) k
  by c false k = covers_more q (without_packet x qs) qs c p k

-- the same ends, and other packets under way
abbrev with_coming : Pair → List Packet → List Packet → Pair
with_coming s xs ys = record { a = record s.a { coming = xs }; b = record s.b { coming = ys } }

-- `q` is `s` but for what is under way, and that is no less
record Goes (s q : Pair) : Type 0 where
  to_a : List Packet
  to_b : List Packet
  is : q ≡ with_coming s to_a to_b
  covers_a : Covers s.a.coming to_a
  covers_b : Covers s.b.coming to_b

turned_goes : (s q : Pair) → Goes s q → Goes (turned s) (turned q)
turned_goes s q g = record { to_a = g.to_b; to_b = g.to_a; is = ap turned g.is; covers_a = g.covers_b; covers_b = g.covers_a }

seen_goes : (side : Side) (s q : Pair) → Goes s q → Goes (seen side s) (seen side q)
seen_goes A s q g = g
seen_goes B s q g = turned_goes s q g

-- neither what may be asked nor what may be answered rests on it
asked_same : (what : BapAsk) (e : End) (ps : List Packet) → may_ask what (record e { coming = ps }) ≡ may_ask what e
asked_same Call e ps = refl
asked_same Callback e ps = refl
asked_same (Drop l) e ps = refl

granted_same : (what : BapAsk) (e : End) (ps : List Packet) → may_grant what (record e { coming = ps }) ≡ may_grant what e
granted_same Call e ps = refl
granted_same Callback e ps = refl
granted_same (Drop l) e ps = refl

answered_same : (what : BapAsk) (code : ResponseCode) (e : End) (ps : List Packet) → may_answer what code (record e { coming = ps }) ≡ may_answer what code e
answered_same what Ack e ps = ap (λ (b : Bool). not (is_waiting e) && b) (granted_same what e ps)
answered_same what Nak e ps = refl
answered_same what Rej e ps = refl
answered_same what FullNak e ps = refl

-- ---- what happens at the first end

module _ (xs ys : List Packet) where
  abbrev Covered : Pair → Type 0
  Covered s = Covers s.a.coming xs × Covers s.b.coming ys

  same_goes : (s : Pair) → Covered s → Goes s (with_coming s xs ys)
  same_goes s c = record { to_a = xs; to_b = ys; is = refl; covers_a = c.0; covers_b = c.1 }

  asks_goes : (s : Pair) (what : BapAsk) → Covered s → (b : Bool) →
      Goes (if b then asks (s.a.drawn + 1) what s else s) (if b then asks (s.a.drawn + 1) what (with_coming s xs ys) else with_coming s xs ys)
  asks_goes s what c true = record {
    to_a = xs;
    to_b = Request (s.a.drawn + 1) what ∷ ys;
    is = refl;
    covers_a = c.0;
    covers_b = covers_more (Request (s.a.drawn + 1) what) s.b.coming ys c.1;
  }
  asks_goes s what c false = same_goes s c

  again_goes : (s : Pair) → Covered s → (o : Option Waiting) → Goes (asks_again o s) (asks_again o (with_coming s xs ys))
  again_goes s c None = same_goes s c
  again_goes s c (Some w) = record {
    to_a = xs;
    to_b = Request w.ordinal w.what ∷ ys;
    is = refl;
    covers_a = c.0;
    covers_b = covers_more (Request w.ordinal w.what) s.b.coming ys c.1;
  }

  answers_goes : (s : Pair) (n : ℕ) (what : BapAsk) (code : ResponseCode) → Covered s → (b : Bool) →
      Goes (if b then answers n what code s else s) (if b then answers n what code (with_coming s xs ys) else with_coming s xs ys)
  answers_goes s n what code c true = record {
    to_a = xs;
    to_b = Response n (response_type what) code ∷ ys;
    is = refl;
    covers_a = c.0;
    covers_b = covers_more (Response n (response_type what) code) s.b.coming ys c.1;
  }
  answers_goes s n what code c false = same_goes s c

  follows_goes : (s : Pair) (w : Waiting) (what : BapAsk) → Covered s → Goes (follows what (grants w s)) (follows what (grants w (with_coming s xs ys)))
  follows_goes s w Call c = same_goes (grants w s) c
  follows_goes s w Callback c = same_goes (grants w s) c
  follows_goes s w (Drop l) c = by (has_staying l s.a) where
    by : (b : Bool) → Goes (if b then closes l (grants w s) else grants w s)
        (if b then closes l (grants w (with_coming s xs ys)) else grants w (with_coming s xs ys))
    by true = record { to_a = xs; to_b = ys; is = refl; covers_a = c.0; covers_b = c.1 }
    by false = same_goes (grants w s) c

  hears_goes : (s : Pair) (w : Waiting) (code : ResponseCode) → Covered s → Goes (hears w code s) (hears w code (with_coming s xs ys))
  hears_goes s w Ack c = follows_goes s w w.what c
  hears_goes s w Nak c = record { to_a = xs; to_b = ys; is = refl; covers_a = c.0; covers_b = c.1 }
  hears_goes s w Rej c = record { to_a = xs; to_b = ys; is = refl; covers_a = c.0; covers_b = c.1 }
  hears_goes s w FullNak c = record { to_a = xs; to_b = ys; is = refl; covers_a = c.0; covers_b = c.1 }

  takes_goes : (s : Pair) (n : ℕ) (t : ResponseType) (code : ResponseCode) → Covered s → (o : Option Waiting) →
      Goes (takes_response o n t code s) (takes_response o n t code (with_coming s xs ys))
  takes_goes s n t code c None = same_goes s c
  takes_goes s n t code c (Some w) = by (is_response_to w n t) where
    by : (b : Bool) → Goes (if b then hears w code s else s) (if b then hears w code (with_coming s xs ys) else with_coming s xs ys)
    by true = hears_goes s w code c
    by false = same_goes s c

  joins_goes : (s : Pair) (l : ℕ) → Covered s → (b : Bool) →
      Goes (if b then s else joins l s) (if b then with_coming s xs ys else joins l (with_coming s xs ys))
  joins_goes s l c true = same_goes s c
  joins_goes s l c false = record { to_a = xs; to_b = ys; is = refl; covers_a = c.0; covers_b = c.1 }

  leaves_goes : (s : Pair) (l : ℕ) → Covered s → (b : Bool) →
      Goes (if b then leaves l s else s) (if b then leaves l (with_coming s xs ys) else with_coming s xs ys)
  leaves_goes s l c true = record { to_a = xs; to_b = ys; is = refl; covers_a = c.0; covers_b = c.1 }
  leaves_goes s l c false = same_goes s c

  -- a packet that is under way is taken
  request_goes : (s : Pair) (n : ℕ) (what : BapAsk) (code : ResponseCode) → Covered s → is_coming (Request n what) s.a ≡ true →
      Goes (at_first s (TakesRequest n what code)) (at_first (with_coming s xs ys) (TakesRequest n what code))
  unfolding at_first
  request_goes s n what code c sent =
      rw (sent, c.0 (Request n what) sent, answered_same what code s.a xs) (answers_goes s n what code c (may_answer what code s.a))

  response_goes : (s : Pair) (n : ℕ) (t : ResponseType) (code : ResponseCode) → Covered s → is_coming (Response n t code) s.a ≡ true →
      Goes (at_first s (TakesResponse n t code)) (at_first (with_coming s xs ys) (TakesResponse n t code))
  unfolding at_first
  response_goes s n t code c sent = rw (sent, c.0 (Response n t code) sent) (takes_goes s n t code c s.a.waiting)

-- a packet is under way no longer
loses_goes : (p : Packet) (s q : Pair) → Goes s q → Goes (loses p s) q
loses_goes p s q g = record {
  to_a = g.to_a;
  to_b = g.to_b;
  is = g.is;
  covers_a = λ x h. g.covers_a x (covers_without p s.a.coming x h);
  covers_b = g.covers_b;
}

-- ---- one event

abbrev first_if : Option Happening → Pair → Pair
first_if None q = q
first_if (Some what) q = at_first q what

-- what happens at the first end where the packets stay
record Meets (s q : Pair) : Type 0 where
  what : Option Happening
  goes : Goes s (first_if what q)

taken_meets : (s : Pair) (xs ys : List Packet) (p : Packet) (what : Happening) → Covered xs ys s →
    (is_coming p s.a ≡ true → Goes (at_first s what) (at_first (with_coming s xs ys) what)) → Meets (takes_once p what s) (with_coming s xs ys)
taken_meets s xs ys p what c step = by (is_coming p s.a) refl where
  by : (b : Bool) → is_coming p s.a ≡ b → Meets (if b then loses p (at_first s what) else s) (with_coming s xs ys)
  by true sent = record { what = Some what; goes = loses_goes p (at_first s what) (at_first (with_coming s xs ys) what) (step sent) }
  by false sent = record { what = None; goes = same_goes xs ys s c }

first_meets : (s : Pair) (xs ys : List Packet) → Covered xs ys s → (what : Happening) → Meets (at_first_once s what) (with_coming s xs ys)
unfolding at_first
first_meets s xs ys c Draws = record { what = Some Draws; goes = record { to_a = xs; to_b = ys; is = refl; covers_a = c.0; covers_b = c.1 } }
first_meets s xs ys c (Asks what) = record { what = Some (Asks what); goes = rw (asked_same what s.a xs) (asks_goes xs ys s what c (may_ask what s.a)) }
first_meets s xs ys c AsksAgain = record { what = Some AsksAgain; goes = again_goes xs ys s c s.a.waiting }
first_meets s xs ys c (TakesRequest n what code) =
    taken_meets s xs ys (Request n what) (TakesRequest n what code) c (request_goes xs ys s n what code c)
first_meets s xs ys c (TakesResponse n t code) =
    taken_meets s xs ys (Response n t code) (TakesResponse n t code) c (response_goes xs ys s n t code c)
first_meets s xs ys c EndsWait = record { what = Some EndsWait; goes = record { to_a = xs; to_b = ys; is = refl; covers_a = c.0; covers_b = c.1 } }
first_meets s xs ys c (Joins l) = record { what = Some (Joins l); goes = joins_goes xs ys s l c (s.a.joined l || s.a.barred l) }
first_meets s xs ys c (Leaves l) = record { what = Some (Leaves l); goes = leaves_goes xs ys s l c (s.a.joined l) }
first_meets s xs ys c Reboots = record { what = Some Reboots; goes = record { to_a = []; to_b = []; is = refl; covers_a = λ p h. h; covers_b = λ p h. h } }

passes_meets : (s q : Pair) → Goes s q → (what : Passing) → Meets (passes s what) q
passes_meets s q g (Happens what) =
    subst (λ x. Meets (at_first_once s what) x) (sym g.is) (first_meets s g.to_a g.to_b (g.covers_a, g.covers_b) what)
passes_meets s q g (Loses p) = record { what = None; goes = loses_goes p s q g }

-- ---- runs

record Runs (s q : Pair) : Type 0 where
  events : List Event
  goes : Goes s (run events q)

passed_runs : (s q : Pair) (e : Passed) → Goes s q → Runs (passed s e) q
passed_runs s q e g = by meets.what meets.goes where
  meets : Meets (passes (seen e.side s) e.what) (seen e.side q)
  meets = passes_meets (seen e.side s) (seen e.side q) (seen_goes e.side s q g) e.what

  twice : (side : Side) (x : Pair) → seen side (seen side x) ≡ x
  twice A x = refl
  twice B x = refl

  by : (o : Option Happening) → Goes (passes (seen e.side s) e.what) (first_if o (seen e.side q)) → Runs (passed s e) q
  by None k = record {
    events = [];
    goes = subst (λ x. Goes (passed s e) x) (twice e.side q) (seen_goes e.side (passes (seen e.side s) e.what) (seen e.side q) k);
  }
  by (Some what) k = record {
    events = record { side = e.side; what = what } ∷ [];
    goes = seen_goes e.side (passes (seen e.side s) e.what) (at_first (seen e.side q) what) k;
  }

run_append : (es fs : List Event) (s : Pair) → run (es ++ fs) s ≡ run fs (run es s)
run_append [] fs s = refl
run_append (e ∷ es) fs s = run_append es fs (happens s e)

all_runs : (es : List Passed) (s q : Pair) → Goes s q → Runs (run_once es s) q
all_runs [] s q g = record { events = []; goes = g }
all_runs (e ∷ es) s q g =
    let next = passed_runs s q e g in
    let rest = all_runs es (passed s e) (run next.events q) next.goes in
    record {
      events = next.events ++ rest.events;
      goes = subst (λ x. Goes (run_once es (passed s e)) x) (sym (run_append next.events rest.events q)) rest.goes;
    }

-- the run where the packets stay
staying_run : (es : List Passed) → Runs (run_once es start) start
staying_run es = all_runs es start start (record { to_a = []; to_b = []; is = refl; covers_a = λ p h. h; covers_b = λ p h. h })

like : (e : End) (ps : List Packet) → Covers e.coming ps → IsLike e (record e { coming = ps })
like e ps c = record { joined = refl; marked = refl; drawn = refl; waiting = refl; boots = refl; past = refl; barred = refl; closed = refl; coming = c }

pub included : Included
included es =
    let runs = staying_run es in
    let s = run_once es start in
    let g = runs.goes in
    record {
      events = runs.events;
      of_a = subst (λ x. IsLike s.a x.a) (sym g.is) (like s.a g.to_a g.covers_a);
      of_b = subst (λ x. IsLike s.b x.b) (sym g.is) (like s.b g.to_b g.covers_b);
    }

-- ---- the laws on requests there

pub crossing_once : CrossingOnce
crossing_once es p q cross granted grant =
    let runs = staying_run es in
    let s = run_once es start in
    let holds : Holds (with_coming s runs.goes.to_a runs.goes.to_b) = subst (λ x. Holds x) runs.goes.is (every_holds runs.events A) in
    holds.free p q cross.of_a cross.of_b granted grant

closing_once : (s q : Pair) (n l : ℕ) → Goes s q → Holds q → IsClosing s n l → IsKept s l
closing_once s q n l g h c =
    let more : Pair = with_coming s g.to_a g.to_b in
    let holds : Holds more = subst (λ x. Holds x) g.is h in
    let kept : IsKept more l =
    closing_kept more n l holds (record { waits = c.waits; granted = g.covers_a (Response n DropResponse Ack) c.granted; stays = c.stays }) in
    record { link = kept.link; other = kept.other; joined = kept.joined; unmarked = kept.unmarked; unclosed = kept.unclosed }

pub kept_once : KeptOnce
kept_once es side n t code l c =
    let runs = staying_run es in
    let s = seen side (run_once es start) in
    closing_once s (seen side (run runs.events start)) n l (seen_goes side (run_once es start) (run runs.events start) runs.goes) (every_holds runs.events side)
    (closes_so s n t code l c).0
