-- What a world keeps, each step keeps that isn't refused; and where a step can make a span too wide.
use Rattle.std.proofs.Common.{◌≡◌, ℕ, zero, suc, ◌+◌, ◌-◌, ◌*◌, ◌^◌, ◌≤◌, ◌<◌, Bool, List, [], ◌∷◌, length, refl, sym, ap, ◌∙◌, subst, arith}
use Rattle.std.specs.Prelude.{Some, None, map, slice_get}
use Rattle.std.specs.List.{AllByRecursion}
use Rattle.std.proofs.lemmas.List.{length-map}
use Rattle.ppp_bap.specs.declared.bap_ask.BapAsk.{BapAsk}
use Rattle.ppp_bap.specs.declared.call_ask.CallAsk.{CallAsk}
use Rattle.ppp_conf.specs.Config.{Settings as Config}
use Rattle.ppp_conf.specs.EndConfig.{EndSettings}
use Rattle.ppp_link.specs.Link.{Link}
use Rattle.ppp_packet.specs.declared.proto.Proto.{Proto}
use Rattle.ppp_party.specs.Counted.{AreCounted, IsCounted}
use Rattle.ppp_party.specs.Downs.{AllShortDowns}
use Rattle.ppp_party.specs.Happening.{happening_seen}
use Rattle.ppp_party.specs.Held.{HeldAfter, IsHeld}
use Rattle.ppp_party.specs.Party.{Ends, IsShortDelivery, Party, asks, delivers, ends_begun, happens, loses, reboots, station_of, tells, tries, turned}
use Rattle.ppp_party.specs.Ledger.{ledger_at, ledgers_begun}
use Rattle.ppp_party.specs.Spans.{NarrowOn, ledger_if}
use Rattle.ppp_party.specs.Seat.{IsNoFrame}
use Rattle.ppp_party.specs.declared.happening.Happening.{Happening}
use Rattle.ppp_party.specs.declared.happening.Happening.TheVariants as what
use Rattle.ppp_party.proofs.HeldLemmas.{asks-held, begins-held, delivers-held, happens-held, loses-held, reboots-held, tells-held, tries-held, turned-held}
use Rattle.ppp_party.proofs.PartyLemmas.{asks-other, asks-own, counted-above, delivers-other, delivers-own, happens-other, happens-own, loses-other, loses-own, reboots-other, reboots-own, tells-other, tells-own, tries-other, tries-own}
use Rattle.ppp_script.specs.declared.script.TheConstants.{MOST_STEPS}
use Rattle.ppp_script.specs.declared.end.End.TheVariants.{A, B}
use Rattle.ppp_station.specs.Station.{BeginsBy, IsStation, Station, asks_peer, moves, tells_peer, tries_again}
use Rattle.ppp_station.proofs.KeptLemmas.{begun-station}
use Rattle.ppp_trunk.specs.Trunk.{IsOfLink, all_settings}
use Rattle.ppp_trunk.specs.StationOut.{AreShort}
use Rattle.ppp_world.specs.Ordinals.{AreOrdinalsFor, AreOrdinalsOf, MayWiden, NoneRoseOn, WidensWhere}
use Rattle.ppp_world.specs.Outstanding.{outstanding_in}
use Rattle.ppp_world.specs.Says.{Says}
use Rattle.ppp_world.specs.Step.{IsLinked, IsShort, moved, taken_entries, word_of}
use Rattle.ppp_world.specs.Run.{AgreeEverywhere}
use Rattle.ppp_world.specs.World.{BothBegin, IsSound, most_a_step}
use Rattle.ppp_world.specs.declared.span.Ordinals.{Ordinals}
use Rattle.ppp_world.specs.declared.step.Step.{Step}
use Rattle.ppp_world.specs.declared.step.Step.TheVariants.{Happens, Delivers, Asks, Tells, Tries, Loses, Reboots, Reports, Rests}
use Rattle.ppp_world.proofs.AgreementLemmas.{agrees-everywhere}
use Rattle.ppp_world.proofs.WidthLemmas.{AllNarrow, all-narrow, none-on-link, quiet-everywhere}

-- ---- the ends turned

pub narrow-turned : (m : ℕ) (p : Proto) (e : Ends) → NarrowOn m p e → NarrowOn m p (turned e)
narrow-turned m p e n = record { of_own = n.of_other; of_other = n.of_own }

pub sound-turned : (e : Ends) (steps : ℕ) → IsSound e steps → IsSound (turned e) steps
sound-turned e steps s = record {
  station_a = s.station_b;
  station_b = s.station_a;
  some = omega (arith, s.some, s.alike);
  alike = sym s.alike;
  held = λ m p above below. turned-held m p e (s.held m p above (omega (arith, below, s.alike)));
  narrow = λ m p above below. narrow-turned m p e (s.narrow m p above (omega (arith, below, s.alike)));
  counted_a = s.counted_b;
  counted_b = s.counted_a;
}

-- ---- a step of the first end

record StepOn (e after : Ends) : Type 0 where
  own_long : length after.own.trunk.links ≡ length e.own.trunk.links
  other_long : length after.other.trunk.links ≡ length e.other.trunk.links
  held : (m : ℕ) (p : Proto) → 1 ≤ m → m ≤ length e.own.trunk.links → HeldAfter m p e after

-- all is narrow where no ordinal rose
narrow-quiet : (e after : Ends) → StepOn e after → (before : Ordinals) → AreOrdinalsOf e.own before → (l : ℕ) → 1 ≤ l → l ≤ length after.own.trunk.links → NoneRoseOn l after.own before → (p : Proto) → NarrowOn l p after
narrow-quiet e after step before are l above below none p =
    let within : l ≤ length e.own.trunk.links = omega (arith, below, step.own_long) in
    (step.held l p above within).narrow (omega (arith, are l p above within, none p))

-- what is kept but for the ordinals' bounds
pub record IsKept (e : Ends) : Type 0 where
  pub some : 1 ≤ length e.own.trunk.links
  pub alike : length e.other.trunk.links ≡ length e.own.trunk.links
  pub held : (m : ℕ) (p : Proto) → 1 ≤ m → m ≤ length e.own.trunk.links → IsHeld m p e

kept-turned : (e : Ends) → IsKept e → IsKept (turned e)
kept-turned e k = record { some = omega (arith, k.some, k.alike); alike = sym k.alike; held = λ m p above below. turned-held m p e (k.held m p above (omega (arith, below, k.alike))) }

kept-after : (e after : Ends) → 1 ≤ length e.own.trunk.links → length e.other.trunk.links ≡ length e.own.trunk.links → StepOn e after → IsKept after
kept-after e after some alike step = record {
  some = omega (arith, some, step.own_long);
  alike = omega (arith, alike, step.own_long, step.other_long);
  held = λ m p above below. (step.held m p above (omega (arith, below, step.own_long))).held;
}

-- ---- the steps on a link of the first end

pub some_at : (links : List Link) (i : ℕ) → i < length links → (k : Link) × (slice_get links i ≡ Some k)
some_at [] i below = absurd (omega arith)
some_at (k ∷ ks) zero below = (k, refl)
some_at (k ∷ ks) (suc i) below = some_at ks i (omega arith)

pub no_frame : (what : Happening) → IsNoFrame (happening_seen what)
no_frame what.LineUp = tt
no_frame what.LineDown = tt
no_frame (what.Opens p) = tt
no_frame (what.Closes p) = tt
no_frame (what.TimesOut p) = tt

module _ (e : Ends) (steps : ℕ) (sound : IsSound e steps) (l : ℕ) (is : IsOfLink (length e.own.trunk.links) l) where
  happens-on : (what : Happening) (word : ℕ) → AreShort (moves (happening_seen what) l (station_of e.own) word).out.entries → StepOn e (happens (happening_seen what) l word e)
  happens-on what word short = record {
    own_long = happens-own (happening_seen what) l word e;
    other_long = ap (λ (st : Station). length st.trunk.links) (happens-other (happening_seen what) l word e);
    held = λ m p above below. happens-held (happening_seen what) l m p word e is above (no_frame what) short (sound.narrow m p above below) (sound.held m p above below);
  }

  delivers-on : (says : CallAsk → Bool) (word : ℕ) → IsShortDelivery says l word e.own → StepOn e (delivers says l word e)
  delivers-on says word short = record {
    own_long = delivers-own says l word e;
    other_long = ap (λ (st : Station). length st.trunk.links) (delivers-other says l word e);
    held = λ m p above below. delivers-held says l m p word e sound.station_a is above short (sound.narrow m p above below) (sound.held m p above below);
  }

  asks-on : (what : BapAsk) (word : ℕ) → AreShort (asks_peer l what (station_of e.own) word).out.entries → StepOn e (asks l what word e)
  asks-on what word short = record {
    own_long = asks-own what l word e;
    other_long = ap (λ (st : Station). length st.trunk.links) (asks-other what l word e);
    held = λ m p above below. asks-held what l m p word e sound.station_a is above short (sound.narrow m p above below) (sound.held m p above below);
  }

  tells-on : (status word : ℕ) → AreShort (tells_peer l status (station_of e.own) word).out.entries → StepOn e (tells l status word e)
  tells-on status word short = record {
    own_long = tells-own status l word e;
    other_long = ap (λ (st : Station). length st.trunk.links) (tells-other status l word e);
    held = λ m p above below. tells-held status l m p word e sound.station_a is above short (sound.narrow m p above below) (sound.held m p above below);
  }

  tries-on : (word : ℕ) → AreShort (tries_again l (station_of e.own) word).out.entries → StepOn e (tries l word e)
  tries-on word short = record {
    own_long = tries-own l word e;
    other_long = ap (λ (st : Station). length st.trunk.links) (tries-other l word e);
    held = λ m p above below. tries-held l m p word e sound.station_a is above short (sound.narrow m p above below) (sound.held m p above below);
  }

  loses-on : (place : ℕ) → StepOn e (loses l place e)
  loses-on place = record {
    own_long = ap (λ (st : Station). length st.trunk.links) (loses-own l place e);
    other_long = ap (λ (p : Party). length p.trunk.links) (loses-other l place e);
    held = λ m p above below. loses-held l m place p e is.0 above (sound.narrow m p above below) (sound.held m p above below);
  }

-- ---- each step

pub taken-short : (says : CallAsk → Bool) (l word : ℕ) (e : Party) → AreShort (taken_entries says l word e (slice_get e.incoming (l - 1))) → IsShortDelivery says l word e
taken-short says l word e short f rest front = rw front at short

-- what is so of the two ends after a step, as a and b stand
pub record After (step : Step) (e after : Ends) : Type 0 where
  pub kept : IsKept after
  pub widens : (before : Ordinals) → AreOrdinalsFor step e before → MayWiden step before after

-- no span is too wide where no ordinal rose, of neither end
widens-where : (party : Party) (before : Ordinals) (after : Ends) →
    ((l : ℕ) → 1 ≤ l → l ≤ length after.own.trunk.links → NoneRoseOn l party before → (p : Proto) → NarrowOn l p after) → length after.other.trunk.links ≡ length after.own.trunk.links → WidensWhere party before after
widens-where party before after narrow alike = record {
  a = λ l above below none. none-on-link A l after (λ p. (narrow l above below none p).of_own);
  b = λ l above below none. none-on-link B l (turned after) (λ p. (narrow l above (omega (arith, below, alike)) none p).of_other);
}

on-a : (e after : Ends) → 1 ≤ length e.own.trunk.links → length e.other.trunk.links ≡ length e.own.trunk.links → StepOn e after → IsKept after × ((before : Ordinals) → AreOrdinalsOf e.own before → WidensWhere after.own before after)
on-a e after some alike step =
    let kept = kept-after e after some alike step in (kept, λ before are. widens-where after.own before after (narrow-quiet e after step before are) kept.alike)

on-b : (e after : Ends) → 1 ≤ length e.own.trunk.links → length e.other.trunk.links ≡ length e.own.trunk.links → StepOn (turned e) after →
    IsKept (turned after) × ((before : Ordinals) → AreOrdinalsOf e.other before → WidensWhere after.own before (turned after))
on-b e after some alike step =
    let kept = kept-after (turned e) after (omega (arith, some, alike)) (sym alike) step in (
      kept-turned after kept,
      λ before are. widens-where after.own before (turned after)
          (λ l above below none p. narrow-turned l p after (narrow-quiet (turned e) after step before are l above (omega (arith, below, kept.alike)) none p)) (sym kept.alike),
    )

-- a loss draws no ordinal
lost-narrow : (l place : ℕ) (e : Ends) → StepOn e (loses l place e) → AllNarrow (loses l place e)
unfolding loses
lost-narrow l place e step m p above below = (step.held m p above (omega (arith, below, step.own_long))).narrow (omega arith)

turned-narrow : (e : Ends) → length e.other.trunk.links ≡ length e.own.trunk.links → AllNarrow e → AllNarrow (turned e)
turned-narrow e alike narrow m p above below = narrow-turned m p e (narrow m p above (omega (arith, below, alike)))

rebooted : (word : ℕ) (e : Ends) → AllShortDowns word (station_of e.other) → IsKept e → IsKept (reboots word e)
rebooted word e short k =
    let own = reboots-own word e in
    record {
      some = omega (arith, own, k.some);
      alike = omega (arith, own, reboots-other word e, k.alike);
      held = λ m p above below. reboots-held m p word e above short (k.held m p above (omega (arith, below, own)));
    }

-- a link of the first end is one of the other's
pub over : (e : Ends) (steps l : ℕ) → IsSound e steps → IsOfLink (length e.own.trunk.links) l → IsOfLink (length e.other.trunk.links) l
over e steps l s is = (is.0, omega (arith, is.1, s.alike))

module _ (says : Says) (k steps : ℕ) (e : Ends) (s : IsSound e steps) where
  on-side-a : (step : Step) (after : Ends) → StepOn e after → ((before : Ordinals) → WidensWhere after.own before after → MayWiden step before after) → ((before : Ordinals) → AreOrdinalsFor step e before → AreOrdinalsOf e.own before) →
      After step e after
  on-side-a step after did widens are =
      let both = on-a e after s.some s.alike did in record { kept = both.0; widens = λ before for. widens before (both.1 before (are before for)) }

  on-side-b : (step : Step) (after : Ends) → StepOn (turned e) after → ((before : Ordinals) → WidensWhere after.own before (turned after) → MayWiden step before (turned after)) →
      ((before : Ordinals) → AreOrdinalsFor step e before → AreOrdinalsOf e.other before) → After step e (turned after)
  on-side-b step after did widens are =
      let both = on-b e after s.some s.alike did in record { kept = both.0; widens = λ before for. widens before (both.1 before (are before for)) }

  pub step-after : (step : Step) → IsLinked (length e.own.trunk.links) step → IsShort says k e step → After step e (moved says k e step)
  step-after (Happens A l what) is short = on-side-a (Happens A l what) _ (happens-on e steps s l is what (word_of A k) short) (λ before w. w) (λ before are. are)
  step-after (Happens B l what) is short =
      on-side-b (Happens B l what) _ (happens-on (turned e) steps (sound-turned e steps s) l (over e steps l s is) what (word_of B k) short) (λ before w. w) (λ before are. are)
  step-after (Delivers A l) is short =
      on-side-a (Delivers A l) _ (delivers-on e steps s l is (says A) (word_of A k) (taken-short (says A) l (word_of A k) e.own short)) (λ before w. w) (λ before are. are)
  step-after (Delivers B l) is short =
      on-side-b (Delivers B l) _ (delivers-on (turned e) steps (sound-turned e steps s) l (over e steps l s is) (says B) (word_of B k) (taken-short (says B) l (word_of B k) e.other short)) (λ before w. w) (λ before are. are)
  step-after (Asks A l what) is short = on-side-a (Asks A l what) _ (asks-on e steps s l is.0 what (word_of A k) short) (λ before w. w) (λ before are. are)
  step-after (Asks B l what) is short =
      on-side-b (Asks B l what) _ (asks-on (turned e) steps (sound-turned e steps s) l (over e steps l s is.0) what (word_of B k) short) (λ before w. w) (λ before are. are)
  step-after (Tells A l status) is short = on-side-a (Tells A l status) _ (tells-on e steps s l is status (word_of A k) short) (λ before w. w) (λ before are. are)
  step-after (Tells B l status) is short =
      on-side-b (Tells B l status) _ (tells-on (turned e) steps (sound-turned e steps s) l (over e steps l s is) status (word_of B k) short) (λ before w. w) (λ before are. are)
  step-after (Tries A l) is short = on-side-a (Tries A l) _ (tries-on e steps s l is (word_of A k) short) (λ before w. w) (λ before are. are)
  step-after (Tries B l) is short =
      on-side-b (Tries B l) _ (tries-on (turned e) steps (sound-turned e steps s) l (over e steps l s is) (word_of B k) short) (λ before w. w) (λ before are. are)
  step-after (Loses A l place) is short =
      let did = loses-on e steps s l is place in
      record { kept = kept-after e _ s.some s.alike did; widens = λ before are. quiet-everywhere _ (lost-narrow l place e did) }
  step-after (Loses B l place) is short =
      let did = loses-on (turned e) steps (sound-turned e steps s) l (over e steps l s is) place in
      let kept = kept-after (turned e) _ (omega (arith, s.some, s.alike)) (sym s.alike) did in
      record { kept = kept-turned _ kept; widens = λ before are. quiet-everywhere _ (turned-narrow _ kept.alike (lost-narrow l place (turned e) did)) }
  step-after (Reboots A) is short = record { kept = rebooted (word_of B k) e short (record { some = s.some; alike = s.alike; held = s.held }); widens = λ before are. tt }
  step-after (Reboots B) is short =
      let t = sound-turned e steps s in
      record { kept = kept-turned _ (rebooted (word_of A k) (turned e) short (record { some = t.some; alike = t.alike; held = t.held })); widens = λ before are. tt }
  step-after Reports is short = record { kept = record { some = s.some; alike = s.alike; held = s.held }; widens = λ before are. quiet-everywhere e s.narrow }
  step-after Rests is short = record { kept = record { some = s.some; alike = s.alike; held = s.held }; widens = λ before are. quiet-everywhere e s.narrow }

-- both ends are stations, and what they count is within its bounds
pub record AreStations (steps : ℕ) (after : Ends) : Type 0 where
  pub a : IsStation (station_of after.own)
  pub b : IsStation (station_of after.other)
  pub counted_a : AreCounted (most_a_step * steps + most_a_step) after.own
  pub counted_b : AreCounted (most_a_step * steps + most_a_step) after.other

-- ---- as it begins

settings-count : (n number : ℕ) (s : EndSettings) → length (all_settings n number s) ≡ n
settings-count zero number s = refl
settings-count (suc n) number s = ap suc (settings-count n (number + 1) s)

begins-count : (s : EndSettings) (st : Station) → BeginsBy s st → length st.trunk.links ≡ s.links
begins-count s st b = sym (length-map st.trunk.links _) ∙ ap length b.links.settings ∙ settings-count s.links 1 s

kept-begun : (c : Config) (own other : Station) → c.a.links ≡ c.b.links → BothBegin c own other → IsKept (ends_begun own other)
kept-begun c own other same begin =
    let of_a = begins-count c.a own begin.a in
    let of_b = begins-count c.b other begin.b in
    record {
      some = begin.a.links.begun.some;
      alike = omega (arith, of_a, of_b, same);
      held = λ m p above below.
          let k = some_at own.trunk.links (m - 1) (omega (arith, above, below)) in
          let j = some_at other.trunk.links (m - 1) (omega (arith, above, below, of_a, of_b, same)) in
          begins-held m p own other k.0 j.0 above k.1 j.1 begin.a.links.begun begin.b.links.begun;
    }

-- ---- two Opened ends agree

pub agree-kept : (e : Ends) → IsKept e → AgreeEverywhere e
agree-kept e kept = agrees-everywhere e kept.held

pub agree-sound : (e : Ends) (steps : ℕ) → IsSound e steps → AgreeEverywhere e
agree-sound e steps s = agree-kept e (record { some = s.some; alike = s.alike; held = s.held })

pub agree-begun : (c : Config) (own other : Station) → c.a.links ≡ c.b.links → BothBegin c own other → AgreeEverywhere (ends_begun own other)
agree-begun c own other same begin = agree-kept (ends_begun own other) (kept-begun c own other same begin)

-- nothing was sent, and nothing is under way
ledgers-zero : (n i : ℕ) (p : Proto) (links : List Link) → (ledger_if p (slice_get (map (λ k. ledgers_begun) links) i)).n ≡ 0
ledgers-zero n i p [] = refl
ledgers-zero n zero p (k ∷ ks) = by p
  where
    by : (p : Proto) → (ledger_at ledgers_begun p).n ≡ 0
    by p = grind arith
ledgers-zero n (suc i) p (k ∷ ks) = ledgers-zero n i p ks

narrow-begun : (own other : Station) → AllNarrow (ends_begun own other)
narrow-begun own other m p above below = record {
  of_own = omega (arith, ledgers-zero 0 (m - 1) p own.trunk.links);
  of_other = omega (arith, ledgers-zero 0 (m - 1) p other.trunk.links);
}

ledgers-counted : (most : ℕ) (links : List Link) → AllByRecursion (λ gs. IsCounted most gs) (map (λ k. ledgers_begun) links)
ledgers-counted most [] = tt
ledgers-counted most (k ∷ ks) = (λ p. grind arith, ledgers-counted most ks)

pub sound-begun : (c : Config) (own other : Station) → c.a.links ≡ c.b.links → BothBegin c own other → IsSound (ends_begun own other) 0
sound-begun c own other same begin =
    let kept = kept-begun c own other same begin in
    record {
      station_a = begun-station c.a own begin.a;
      station_b = begun-station c.b other begin.b;
      some = kept.some;
      alike = kept.alike;
      held = kept.held;
      narrow = narrow-begun own other;
      counted_a = record { ledgers = ledgers-counted (most_a_step * 0) own.trunk.links; calls = omega arith };
      counted_b = record { ledgers = ledgers-counted (most_a_step * 0) other.trunk.links; calls = omega arith };
    }

-- ---- what the code of a step asks

-- the ordinals are within what their machine numbers hold
pub few-sent : (steps : ℕ) (p : Party) → steps + 1 ≤ MOST_STEPS → AreCounted (most_a_step * steps) p → AreCounted (2 ^ 61) p
few-sent steps p few counted = counted-above (most_a_step * steps) (2 ^ 61) p (omega (arith, few)) counted

counted-next : (steps : ℕ) (p : Party) → AreCounted (most_a_step * steps + most_a_step) p → AreCounted (most_a_step * (steps + 1)) p
counted-next steps p counted = counted-above (most_a_step * steps + most_a_step) (most_a_step * (steps + 1)) p (omega arith) counted

module _ (says : Says) (k steps : ℕ) (e after : Ends) (step : Step) (same : after ≡ moved says k e step) (s : IsSound e steps) (is : IsLinked (length e.own.trunk.links) step) (short : IsShort says k e step) where
  pub sound-done : AreStations steps after → outstanding_in after ≡ None → IsSound after (steps + 1)
  sound-done are none =
      let kept = subst IsKept (sym same) (step-after says k steps e s step is short).kept in
      record {
        station_a = are.a;
        station_b = are.b;
        some = kept.some;
        alike = kept.alike;
        held = kept.held;
        narrow = all-narrow after none;
        counted_a = counted-next steps after.own are.counted_a;
        counted_b = counted-next steps after.other are.counted_b;
      }

  -- the two ends are alike still, and a span can be too wide only where the step may have widened it
  pub after-moved : (before : Ordinals) → AreOrdinalsFor step e before → IsKept after × MayWiden step before after
  after-moved before are = let did = subst (After step e) (sym same) (step-after says k steps e s step is short) in (did.kept, did.widens before are)
