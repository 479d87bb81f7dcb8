-- The invariant holds in every state of a run, and so do the laws on crossing requests and on last links.
use Rattle.std.proofs.Common.{◌≡◌, ◌+◌, ◌==◌, ℕ, Bool, true, false, ◌&&◌, List, [], ◌∷◌, Option, Some, None, eqb-true, ⊎_elim, refl, sym, subst}
use Rattle.std.specs.Prelude.{if◌then◌else◌, ◌||◌}
use Rattle.std.proofs.lemmas.Bool.{and_parts, true≢false}
use Rattle.ppp_bap.specs.declared.bap_ask.BapAsk.{BapAsk}
use Rattle.ppp_bap.specs.declared.bap_ask.BapAsk.TheVariants.{Call, Callback, Drop}
use Rattle.ppp_pair.specs.Crossing.{NoCrossing}
use Rattle.ppp_pair.specs.Pair.{A, Asked, Asks, AsksAgain, B, Draws, EndsWait, Event, Granted, Happening, Joins, Leaves, Pair, Reboots, Request, Response, Side, TakesRequest, TakesResponse, Waiting, answers, asks, at_first, closes, follows, grants, happens, has_staying, hears, is_coming, is_response_to, joins, leaves, may_answer, may_ask, run, seen, start, takes_response, turned}
use Rattle.ppp_pair.specs.Response.{Ack, FullNak, Nak, Rej, ResponseCode, ResponseType, response_type, same_type}
use Rattle.ppp_pair.proofs.Invariant.{Half, Holds, IsResponseSound, IsSound}
use Rattle.ppp_pair.proofs.LinkSteps.{closes_keeps, joins_keeps, leaves_keeps, reboots_keeps}
use Rattle.ppp_pair.proofs.PacketLemmas.{packet_all}
use Rattle.ppp_pair.proofs.PastLemmas.{free_turned, has_none}
use Rattle.ppp_pair.proofs.Steps.{again_keeps, answers_keeps, asks_keeps, draws_keeps, ends_keeps, grants_keeps}

-- ---- a response that is taken

pub matches_ordinal : (w : Waiting) (n : ℕ) (t : ResponseType) → is_response_to w n t ≡ true → w.ordinal ≡ n
matches_ordinal w n t h = eqb-true w.ordinal n (and_parts (w.ordinal == n) (same_type (response_type w.what) t) h).0

follows_keeps : (s : Pair) (w : Waiting) (what : BapAsk) → s.a.waiting ≡ Some w → w.what ≡ what → IsResponseSound s.a s.b w.ordinal (response_type what) Ack →
    Holds s → Holds (follows what (grants w s))
follows_keeps s w Call x is sound h = grants_keeps s w x (sound.acked refl) h
follows_keeps s w Callback x is sound h = grants_keeps s w x (sound.acked refl) h
follows_keeps s w (Drop l) x is sound h = by (has_staying l (grants w s).a) where
  granted : Holds (grants w s)
  granted = grants_keeps s w x (sound.acked refl) h

  by : (b : Bool) → Holds (if b then closes l (grants w s) else grants w s)
  by true = closes_keeps (grants w s) l (sound.held refl w l x refl is) granted
  by false = granted

-- a sound response to the request that waits is one of its Type
sound_typed : (s : Pair) (w : Waiting) (n : ℕ) (t : ResponseType) (code : ResponseCode) → s.a.waiting ≡ Some w → w.ordinal ≡ n →
    IsResponseSound s.a s.b n t code →
    IsResponseSound s.a s.b w.ordinal (response_type w.what) code
sound_typed s w n t code x o sound =
    let at : IsResponseSound s.a s.b w.ordinal t code = subst (λ m. IsResponseSound s.a s.b m t code) (sym o) sound in
    subst (λ u. IsResponseSound s.a s.b w.ordinal u code) (sym (sound.type w x o)) at

hears_keeps : (s : Pair) (w : Waiting) (code : ResponseCode) → s.a.waiting ≡ Some w → IsResponseSound s.a s.b w.ordinal (response_type w.what) code →
    Holds s → Holds (hears w code s)
hears_keeps s w Ack x sound h = follows_keeps s w w.what x refl sound h
hears_keeps s w Nak x sound h = ends_keeps s h
hears_keeps s w Rej x sound h = ends_keeps s h
hears_keeps s w FullNak x sound h = ends_keeps s h

takes_keeps : (s : Pair) (n : ℕ) (t : ResponseType) (code : ResponseCode) → IsResponseSound s.a s.b n t code → Holds s →
    Holds (takes_response s.a.waiting n t code s)
takes_keeps s n t code sound h = by s.a.waiting refl where
  one : (w : Waiting) (b : Bool) → s.a.waiting ≡ Some w → is_response_to w n t ≡ b → Holds (if b then hears w code s else s)
  one w true x is = hears_keeps s w code x (sound_typed s w n t code x (matches_ordinal w n t is) sound) h
  one w false x is = h

  by : (o : Option Waiting) → s.a.waiting ≡ o → Holds (takes_response o n t code s)
  by None x = h
  by (Some w) x = one w (is_response_to w n t) x refl

-- ---- events

asks_if : (s : Pair) (what : BapAsk) → Holds s → (b : Bool) → may_ask what s.a ≡ b → Holds (if b then asks (s.a.drawn + 1) what s else s)
asks_if s what h true may = asks_keeps s what may h
asks_if s what h false may = h

answers_if : (s : Pair) (n : ℕ) (what : BapAsk) (code : ResponseCode) → Holds s → (b : Bool) → is_coming (Request n what) s.a && may_answer what code s.a ≡ b →
    Holds (if b then answers n what code s else s)
answers_if s n what code h true may =
    let both = and_parts (is_coming (Request n what) s.a) (may_answer what code s.a) may in
    answers_keeps s n what code both.0 both.1 h
answers_if s n what code h false may = h

takes_if : (s : Pair) (n : ℕ) (t : ResponseType) (code : ResponseCode) → Holds s → (b : Bool) → is_coming (Response n t code) s.a ≡ b →
    Holds (if b then takes_response s.a.waiting n t code s else s)
takes_if s n t code h true sent = takes_keeps s n t code (packet_all (IsSound s.a s.b) (Response n t code) s.a.coming h.of_a.coming sent) h
takes_if s n t code h false sent = h

or_none : (x y : Bool) → (x || y) ≡ false → (x ≡ false) × (y ≡ false)
or_none true y h = absurd (true≢false h)
or_none false y h = (refl, h)

joins_if : (s : Pair) (l : ℕ) → Holds s → (b : Bool) → (s.a.joined l || s.a.barred l) ≡ b → Holds (if b then s else joins l s)
joins_if s l h true is = h
joins_if s l h false is = let none = or_none (s.a.joined l) (s.a.barred l) is in joins_keeps s l none.0 none.1 h

leaves_if : (s : Pair) (l : ℕ) → Holds s → (b : Bool) → Holds (if b then leaves l s else s)
leaves_if s l h true = leaves_keeps s l h
leaves_if s l h false = h

first_keeps : (s : Pair) (what : Happening) → Holds s → Holds (at_first s what)
unfolding at_first
first_keeps s Draws h = draws_keeps s h
first_keeps s (Asks what) h = asks_if s what h (may_ask what s.a) refl
first_keeps s AsksAgain h = again_keeps s h
first_keeps s (TakesRequest n what code) h = answers_if s n what code h (is_coming (Request n what) s.a && may_answer what code s.a) refl
first_keeps s (TakesResponse n t code) h = takes_if s n t code h (is_coming (Response n t code) s.a) refl
first_keeps s EndsWait h = ends_keeps s h
first_keeps s (Joins l) h = joins_if s l h (s.a.joined l || s.a.barred l) refl
first_keeps s (Leaves l) h = leaves_if s l h (s.a.joined l)
first_keeps s Reboots h = reboots_keeps s h

pub turned_holds : (s : Pair) → Holds s → Holds (turned s)
turned_holds s h = record { of_a = h.of_b; of_b = h.of_a; free = free_turned s.a.past s.b.past h.free }

pub seen_holds : (side : Side) (s : Pair) → Holds s → Holds (seen side s)
seen_holds A s h = h
seen_holds B s h = turned_holds s h

pub happens_keeps : (s : Pair) (e : Event) → Holds s → Holds (happens s e)
happens_keeps s e h = seen_holds e.side (at_first (seen e.side s) e.what) (first_keeps (seen e.side s) e.what (seen_holds e.side s h))

pub run_keeps : (es : List Event) (s : Pair) → Holds s → Holds (run es s)
run_keeps [] s h = h
run_keeps (e ∷ es) s h = run_keeps es (happens s e) (happens_keeps s e h)

none_waits : (w : Waiting) → None ≡ Some w → ⊥
none_waits w e = cc

half_begun : Half start.a start.b
half_begun = record {
  drawn = λ k own. ⊎_elim (λ asked. absurd (has_none (Asked k) asked)) (λ granted. absurd (has_none (Granted k) granted)) own;
  waits = λ w x. absurd (none_waits w x);
  unwaited = λ p q before acked wait. none_waits wait.request wait.waits;
  there = λ w l x d. absurd (none_waits w x);
  marked = λ l m. absurd (true≢false (sym m));
  barred = λ l b. refl;
  since = λ l b. absurd (true≢false (sym b));
  unclosed = λ l j m. refl;
  granted = λ k g. absurd (has_none (Granted k) g);
  coming = tt;
}

pub start_holds : Holds start
start_holds = record { of_a = half_begun; of_b = half_begun; free = λ p q before other granted grant. has_none (Granted p) granted }

-- in every run, as the end of a side sees it
pub every_holds : (es : List Event) (side : Side) → Holds (seen side (run es start))
every_holds es side = seen_holds side (run es start) (run_keeps es start start_holds)

-- ---- no two crossing requests are both granted

pub crossing : (es : List Event) → NoCrossing (run es start)
crossing es p q cross granted grant = (run_keeps es start start_holds).free p q cross.of_a cross.of_b granted grant
