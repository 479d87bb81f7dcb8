-- A step of the two ends is what follows from what the policies answer.
use Rattle.std.proofs.Common.{◌≡◌, ℕ, ◌-◌, List, [], ◌∷◌, refl, ap, subst}
use Rattle.std.specs.Prelude.{Bool, false, Option, Some, None, Result, OnOk, slice_get}
use Rattle.ppp_bap.specs.Answer.{IfAsked as IfAskedSo}
use Rattle.ppp_bap.specs.declared.bap_ask.BapAsk.{BapAsk}
use Rattle.ppp_bap.specs.declared.call_ask.CallAsk.{CallAsk}
use Rattle.ppp_party.specs.Downs.{AllShortDowns}
use Rattle.ppp_party.specs.Frame.{Frame}
use Rattle.ppp_party.specs.Happening.{happening_seen}
use Rattle.ppp_party.specs.Party.{Delivered, Ends, Party, asked_in_delivery, asks, happens, loses, reboots, station_of, taken, tells, tries, turned}
use Rattle.ppp_party.specs.declared.happening.Happening.{Happening}
use Rattle.ppp_script.specs.declared.end.End.{End}
use Rattle.ppp_script.specs.declared.end.End.TheVariants.{A, B}
use Rattle.ppp_station.specs.Station.{asks_peer, moves, tells_peer, tries_again}
use Rattle.ppp_trunk.specs.StationOut.{AreShort}
use Rattle.ppp_world.specs.Says.{IfAsked, Says}
use Rattle.ppp_world.specs.Step.{at_end, party_at, peer_of, taken_entries, word_of}
use Rattle.ppp_world.specs.World.{Moved}
use Rattle.ppp_world.specs.declared.step.Step.TheVariants.{Happens, Delivers, Asks, Tells, Tries, Loses, Reboots, Reports, Rests}
use Rattle.ppp_world.proofs.CountedLemmas.{ok-both, ok-map}

-- ---- at an end

-- seen from that end
abbrev pub turn : End → Ends → Ends
turn A e = e
turn B e = turned e

at-end : (at : End) (does : Ends → Ends) (before after : Ends) → turn at after ≡ does (turn at before) → after ≡ at_end at does before
at-end A does before after is = is
at-end B does before after is = ap turned is

-- ---- what policies answer: always so

abbrev pub so : Bool → Says
so allowed at question = allowed

abbrev pub never : Says
never = so false

-- ---- steps in which no policy is asked

pub moved-happens : {X E : Type 0} (r : Result X E) (may : End → CallAsk → Bool → Type 0) (k : ℕ) (at : End) (l : ℕ) (what : Happening) (word : ℕ) (before after : Ends) → word ≡ word_of at k →
    OnOk r (turn at after ≡ happens (happening_seen what) l word (turn at before)) → AreShort (moves (happening_seen what) l (station_of (party_at at before)) word).out.entries →
    OnOk r (Moved may k (Happens at l what) before after)
moved-happens r may k at l what word before after same done short = ok-map r done (λ (is : turn at after ≡ happens (happening_seen what) l word (turn at before)). record {
  says = never;
  said = tt;
  is = at-end at (happens (happening_seen what) l (word_of at k)) before after (subst (λ w. turn at after ≡ happens (happening_seen what) l w (turn at before)) same is);
  short = subst (λ w. AreShort (moves (happening_seen what) l (station_of (party_at at before)) w).out.entries) same short;
})

pub moved-asks : {X E : Type 0} (r : Result X E) (may : End → CallAsk → Bool → Type 0) (k : ℕ) (at : End) (l : ℕ) (what : BapAsk) (word : ℕ) (before after : Ends) → word ≡ word_of at k →
    OnOk r (turn at after ≡ asks l what word (turn at before)) → AreShort (asks_peer l what (station_of (party_at at before)) word).out.entries →
    OnOk r (Moved may k (Asks at l what) before after)
moved-asks r may k at l what word before after same done short = ok-map r done (λ (is : turn at after ≡ asks l what word (turn at before)). record {
  says = never;
  said = tt;
  is = at-end at (asks l what (word_of at k)) before after (subst (λ w. turn at after ≡ asks l what w (turn at before)) same is);
  short = subst (λ w. AreShort (asks_peer l what (station_of (party_at at before)) w).out.entries) same short;
})

pub moved-tells : {X E : Type 0} (r : Result X E) (may : End → CallAsk → Bool → Type 0) (k : ℕ) (at : End) (l status word : ℕ) (before after : Ends) → word ≡ word_of at k →
    OnOk r (turn at after ≡ tells l status word (turn at before)) → AreShort (tells_peer l status (station_of (party_at at before)) word).out.entries →
    OnOk r (Moved may k (Tells at l status) before after)
moved-tells r may k at l status word before after same done short = ok-map r done (λ (is : turn at after ≡ tells l status word (turn at before)). record {
  says = never;
  said = tt;
  is = at-end at (tells l status (word_of at k)) before after (subst (λ w. turn at after ≡ tells l status w (turn at before)) same is);
  short = subst (λ w. AreShort (tells_peer l status (station_of (party_at at before)) w).out.entries) same short;
})

pub moved-tries : {X E : Type 0} (r : Result X E) (may : End → CallAsk → Bool → Type 0) (k : ℕ) (at : End) (l word : ℕ) (before after : Ends) → word ≡ word_of at k →
    OnOk r (turn at after ≡ tries l word (turn at before)) → AreShort (tries_again l (station_of (party_at at before)) word).out.entries →
    OnOk r (Moved may k (Tries at l) before after)
moved-tries r may k at l word before after same done short = ok-map r done (λ (is : turn at after ≡ tries l word (turn at before)). record {
  says = never;
  said = tt;
  is = at-end at (tries l (word_of at k)) before after (subst (λ w. turn at after ≡ tries l w (turn at before)) same is);
  short = subst (λ w. AreShort (tries_again l (station_of (party_at at before)) w).out.entries) same short;
})

pub moved-reboots : {X E : Type 0} (r : Result X E) (may : End → CallAsk → Bool → Type 0) (k : ℕ) (at : End) (word : ℕ) (before after : Ends) → word ≡ word_of (peer_of at) k →
    OnOk r (turn at after ≡ reboots word (turn at before)) → OnOk r (AllShortDowns word (station_of (party_at (peer_of at) before))) →
    OnOk r (Moved may k (Reboots at) before after)
moved-reboots r may k at word before after same done short = ok-both r done short (λ (is : turn at after ≡ reboots word (turn at before)) brief. record {
  says = never;
  said = tt;
  is = at-end at (reboots (word_of (peer_of at) k)) before after (subst (λ w. turn at after ≡ reboots w (turn at before)) same is);
  short = subst (λ w. AllShortDowns w (station_of (party_at (peer_of at) before))) same brief;
})

pub moved-loses : (may : End → CallAsk → Bool → Type 0) (k : ℕ) (at : End) (l place : ℕ) (before after : Ends) → turn at after ≡ loses l place (turn at before) →
    Moved may k (Loses at l place) before after
moved-loses may k at l place before after is = record {
  says = never;
  said = tt;
  is = at-end at (loses l place) before after is;
  short = tt;
}

-- ---- a delivery, in which one may be asked

asked-so : (may : CallAsk → Bool → Type 0) (o : Option CallAsk) (allowed : Bool) → IfAskedSo may o allowed → IfAsked may (λ question. allowed) o
asked-so may None allowed said = said
asked-so may (Some question) allowed said = said

-- what it sends is short, where there is a frame
taken-are-short : (says : CallAsk → Bool) (l word : ℕ) (p : Party) → ((f : Frame) (rest : List Frame) → slice_get p.incoming (l - 1) ≡ Some (f ∷ rest) → AreShort (taken says l word f p).out.entries) →
    AreShort (taken_entries says l word p (slice_get p.incoming (l - 1)))
taken-are-short says l word p short = by_queue (slice_get p.incoming (l - 1)) refl
  where
    by_queue : (o : Option (List Frame)) → slice_get p.incoming (l - 1) ≡ o → AreShort (taken_entries says l word p o)
    by_queue None is = tt
    by_queue (Some []) is = tt
    by_queue (Some (f ∷ rest)) is = short f rest is

pub moved-delivers-a : {X E : Type 0} (r : Result X E) (may : End → CallAsk → Bool → Type 0) (k l word : ℕ) (before after : Ends) → word ≡ word_of A k →
    OnOk r (Delivered (may A) l word before after) → OnOk r (Moved may k (Delivers A l) before after)
moved-delivers-a r may k l word before after same done = ok-map r (subst (λ w. OnOk r (Delivered (may A) l w before after)) same done) (λ (d : Delivered (may A) l (word_of A k) before after). record {
  says = so d.allowed;
  said = asked-so (may A) (asked_in_delivery l (word_of A k) before.own) d.allowed d.said;
  is = d.is;
  short = taken-are-short (λ question. d.allowed) l (word_of A k) before.own d.short;
})

pub moved-delivers-b : {X E : Type 0} (r : Result X E) (may : End → CallAsk → Bool → Type 0) (k l word : ℕ) (before after : Ends) → word ≡ word_of B k →
    OnOk r (Delivered (may B) l word (turned before) (turned after)) → OnOk r (Moved may k (Delivers B l) before after)
moved-delivers-b r may k l word before after same done = ok-map r (subst (λ w. OnOk r (Delivered (may B) l w (turned before) (turned after))) same done) (λ (d : Delivered (may B) l (word_of B k) (turned before) (turned after)). record {
  says = so d.allowed;
  said = asked-so (may B) (asked_in_delivery l (word_of B k) before.other) d.allowed d.said;
  is = ap turned d.is;
  short = taken-are-short (λ question. d.allowed) l (word_of B k) before.other d.short;
})

-- ---- nothing

pub moved-reports : (may : End → CallAsk → Bool → Type 0) (k : ℕ) (e : Ends) → Moved may k Reports e e
moved-reports may k e = record { says = never; said = tt; is = refl; short = tt }

pub moved-rests : (may : End → CallAsk → Bool → Type 0) (k : ℕ) (e : Ends) → Moved may k Rests e e
moved-rests may k e = record { says = never; said = tt; is = refl; short = tt }
