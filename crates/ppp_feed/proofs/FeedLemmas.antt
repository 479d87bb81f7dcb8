-- Facts on what a feed does, event by event.
use Rattle.std.proofs.Common.{◌≡◌, ℕ, zero, suc, ◌+◌, ◌<◌, ◌==◌, Bool, false, List, [], ◌∷◌, ◌++◌, length, take, drop, refl, sym, ap, ◌∙◌, arith, subst, get_or, append_assoc, append-nil}
use Rattle.std.specs.Prelude.{All, Some, Result, Ok, Err, OnOk, slice_get, sum_by}
use Rattle.std.proofs.lemmas.Grind.{flat_map-append}
use Rattle.std.proofs.lemmas.List.{drop_more, length-map, take_more}
use Rattle.std.proofs.lemmas.List.Sums.{sum_by-cons}
use Rattle.std.proofs.lemmas.Option.{get_or_from_slice_get, slice_get_within}
use Rattle.ppp_bap.specs.declared.call_ask.CallAsk.{CallAsk}
use Rattle.ppp_conf.specs.EndConfig.{EndSettings}
use Rattle.ppp_feed.specs.EntryLine.{entry_line, entry_lines}
use Rattle.ppp_feed.specs.Fed.{Adds}
use Rattle.ppp_feed.specs.Feed.{Written, and_more, takes, takes_all, takes_frame, line_does, word_of, text_from, feed_text, written_by, IsFeed}
use Rattle.ppp_script.specs.FeedEvent.{IsWithin}
use Rattle.ppp_script.specs.declared.feed_event.FeedEvent.{FeedEvent}
use Rattle.ppp_station.specs.Shipped.{IsShippedAs, allows_up_to, shipped_does}
use Rattle.ppp_station.specs.Station.{BeginsBy, Station, Steps}
use Rattle.ppp_station.specs.declared.station_event.StationEvent.{StationEvent}
use Rattle.ppp_station.proofs.ShippedLemmas.{steps-shipped}
use Rattle.ppp_trunk.specs.StationOut.{Entry, Out}
use Rattle.ppp_trunk.specs.Trunk.{all_settings}

-- ---- an event with the policy that comes with the program

pub happens-adds : (says : CallAsk → Bool → Type 0) (ev : StationEvent) (word : ℕ) (old new : Station) (out : Out) (begun all : List ℕ) {E : Type 0} (r : Result (Unit {0}) E) → Steps says ev word old new out →
    OnOk r (all ≡ begun ++ entry_lines out.entries) → (most : ℕ) → IsShippedAs says most → OnOk r (Adds (written_by (shipped_does most ev old word)) old begun new all)
happens-adds says ev word old new out begun all (Err e) did wrote most known = tt
happens-adds says ev word old new out begun all (Ok done) did wrote most known =
    let both = steps-shipped says most ev word old new out known did in record {
      station = both.0;
      text = wrote ∙ ap (λ (o : Out). begun ++ entry_lines o.entries) both.1;
    }

pub happens-used : (says : CallAsk → Bool → Type 0) (ev : StationEvent) (word : ℕ) (old new : Station) (out : Out) {E : Type 0} (r : Result (Unit {0}) E) → Steps says ev word old new out →
    (most : ℕ) → IsShippedAs says most → OnOk r (out.used ≡ (shipped_does most ev old word).out.used)
happens-used says ev word old new out (Err e) did most known = tt
happens-used says ev word old new out (Ok done) did most known = ap (λ (o : Out). o.used) (steps-shipped says most ev word old new out known did).1

-- ---- entries are written one behind the other

entries-next : (es : List Entry) (i : ℕ) (e : Entry) → slice_get es i ≡ Some e → entry_lines (take (i + 1) es) ≡ entry_lines (take i es) ++ entry_line e
entries-next es i e is =
    let below = slice_get_within es i e is in
    rw (take_more es i e below, get_or_from_slice_get es i e e is) (flat_map-append entry_line (take i es) (e ∷ []) ∙ ap (λ line. entry_lines (take i es) ++ line) (append-nil (entry_line e)))

pub written-next : (es : List Entry) (i : ℕ) (e : Entry) (first now next : List ℕ) → slice_get es i ≡ Some e →
    now ≡ first ++ entry_lines (take i es) → next ≡ now ++ entry_line e → next ≡ first ++ entry_lines (take (i + 1) es)
written-next es i e first now next is so_far wrote =
    wrote ∙ ap (λ text. text ++ entry_line e) so_far ∙ append_assoc first (entry_lines (take i es)) (entry_line e) ∙ ap (λ text. first ++ text) (sym (entries-next es i e is))

-- ---- octets are taken until they are used up

pub is_some : (rest : List ℕ) → false ≡ (length rest == 0) → 0 < length rest
is_some [] test = absurd (cc)
is_some (x ∷ xs) test = omega arith

and_more-twice : (first second : List ℕ) (fed : Written) → and_more first (and_more second fed) ≡ and_more (first ++ second) fed
and_more-twice first second fed = ap (λ text. record { station = fed.station; text = text }) (sym (append_assoc first second fed.text))

-- what was written, and then what the octets left come to in so many events, is all
pub record HasTaken (says : CallAsk → Bool) (fuel l word : ℕ) (all : Written) (begun : List ℕ) (now : Station) (wrote rest : List ℕ) : Type 0 where
  pub written : List ℕ
  pub text : wrote ≡ begun ++ written
  pub same : all ≡ and_more written (takes says fuel l rest now word)

pub taken-first : (says : CallAsk → Bool) (l word : ℕ) (octets : List ℕ) (st : Station) (begun : List ℕ) → HasTaken says (length octets) l word (takes_all says l octets st word) begun st begun octets
taken-first says l word octets st begun = record { written = []; text = sym (append-nil begun); same = refl }

takes-next : (says : CallAsk → Bool) (fuel l word : ℕ) (rest : List ℕ) (now : Station) → 0 < length rest → let did = takes_frame says l rest now word in
    takes says (suc fuel) l rest now word ≡ and_more (entry_lines did.out.entries) (takes says fuel l (drop did.out.used rest) did.station word)
unfolding takes
takes-next says fuel l word [] now some = absurd (omega arith)
takes-next says fuel l word (x ∷ xs) now some = refl

-- an event takes one off
pub taken-next : (says : CallAsk → Bool) (fuel spare l word used : ℕ) (all : Written) (begun : List ℕ) (now next : Station) (wrote more rest left : List ℕ) → fuel ≡ suc spare → 0 < length rest →
    Adds (written_by (takes_frame says l rest now word)) now wrote next more → used ≡ (takes_frame says l rest now word).out.used → left ≡ drop used rest →
    HasTaken says fuel l word all begun now wrote rest → HasTaken says spare l word all begun next more left
taken-next says fuel spare l word used all begun now next wrote more rest left is some adds used_is left_is h =
    let lines = entry_lines (takes_frame says l rest now word).out.entries in record {
      written = h.written ++ lines;
      text = adds.text ∙ ap (λ text. text ++ lines) h.text ∙ append_assoc begun h.written lines;
      same = rw (left_is, used_is, adds.station)
          (h.same ∙ ap (λ n. and_more h.written (takes says n l rest now word)) is ∙ ap (and_more h.written) (takes-next says spare l word rest now some) ∙ and_more-twice h.written lines _);
    }

pub taken-all : (says : CallAsk → Bool) (fuel l word : ℕ) (all : Written) (begun : List ℕ) (first now : Station) (wrote rest : List ℕ) → length rest ≡ 0 →
    HasTaken says fuel l word all begun now wrote rest → Adds all first begun now wrote
unfolding takes
taken-all says fuel l word all begun first now wrote [] none h = record {
  station = sym (ap (λ (f : Written). f.station) h.same);
  text = h.text ∙ ap (λ text. begun ++ text) (sym (ap (λ (f : Written). f.text) h.same ∙ append-nil h.written));
}
taken-all says fuel l word all begun first now wrote (x ∷ xs) none h = absurd (omega arith)

-- ---- lines happen one behind the other

settings-count : (n number : ℕ) (s : EndSettings) → length (all_settings n number s) ≡ n
settings-count zero number s = refl
settings-count (suc n) number s = ap suc (settings-count n (number + 1) s)

begins-count : (s : EndSettings) (st : Station) → BeginsBy s st → length st.trunk.links ≡ s.links
begins-count s st b = sym (length-map st.trunk.links _) ∙ ap length b.links.settings ∙ settings-count s.links 1 s

-- lines have happened, of which the next is the k-th, and with those left they write what all write
pub record HasFed (s : EndSettings) (all rest : List FeedEvent) (k : ℕ) (now : Station) (written : List ℕ) : Type 0 where
  pub first : Station
  pub begins : BeginsBy s first
  pub count : length now.trunk.links ≡ s.links
  pub same : feed_text (allows_up_to s.max_speed) first all ≡ written ++ text_from (allows_up_to s.max_speed) k now rest

pub fed-first : (s : EndSettings) (all : List FeedEvent) (st : Station) (written : List ℕ) → BeginsBy s st → written ≡ [] → HasFed s all all 1 st written
fed-first s all st written begins none = record {
  first = st;
  begins = begins;
  count = begins-count s st begins;
  same = rw none refl;
}

pub fed-next : (s : EndSettings) (all rest more : List FeedEvent) (e : FeedEvent) (k : ℕ) (now next : Station) (written wrote : List ℕ) → rest ≡ e ∷ more →
    Adds (line_does (allows_up_to s.max_speed) e now (word_of k)) now written next wrote → length next.trunk.links ≡ length now.trunk.links →
    HasFed s all rest k now written → HasFed s all more (k + 1) next wrote
unfolding text_from
fed-next s all rest more e k now next written wrote rest_is adds count fed = record {
  first = fed.first;
  begins = fed.begins;
  count = count ∙ fed.count;
  same = rw (adds.text, adds.station) (rw rest_is at fed.same ∙ sym (append_assoc written (line_does (allows_up_to s.max_speed) e now (word_of k)).text _));
}

pub fed-all : (s : EndSettings) (all : List FeedEvent) (k : ℕ) (now : Station) (written : List ℕ) → HasFed s all [] k now written → IsFeed s all written
unfolding text_from
fed-all s all k now written fed = record {
  station = fed.first;
  begins = fed.begins;
  text = sym (fed.same ∙ append-nil written);
}

-- the next line is within its bounds, and as many links are there
pub fed-within : (s : EndSettings) (all rest : List FeedEvent) (k i : ℕ) (now : Station) (written : List ℕ) (e : FeedEvent) → All (IsWithin s.links) all →
    slice_get all i ≡ Some e → HasFed s all rest k now written → IsWithin (length now.trunk.links) e
fed-within s all rest k i now written e within is fed =
    let at : get_or all i e ≡ e = get_or_from_slice_get all i e e is in
    subst (λ n. IsWithin n e) (sym fed.count) (subst (IsWithin s.links) at (within i e (slice_get_within all i e is)))

-- a line is one step, so there are as many lines as steps
pub lines-counted : (events : List FeedEvent) → sum_by (λ e. 1) events ≡ length events
lines-counted [] = refl
lines-counted (e ∷ es) = sum_by-cons (λ e. 1) e es ∙ omega (arith, lines-counted es)

-- the lines that are left at a place begin with the one there
pub lines-left : (events : List FeedEvent) (i : ℕ) (e : FeedEvent) → slice_get events i ≡ Some e → drop i events ≡ e ∷ drop (i + 1) events
lines-left events i e is =
    drop_more events i e (slice_get_within events i e is) ∙ ap (λ x. x ∷ drop (i + 1) events) (get_or_from_slice_get events i e e is)
