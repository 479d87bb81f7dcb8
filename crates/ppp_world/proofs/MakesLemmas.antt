-- Each step of a world is a list of the events of the two ends of each protocol on each link.
use Rattle.std.proofs.Common.{inl, inr, ◌≡◌, ◌⊎◌, ◌<◌, ℕ, zero, suc, ◌+◌, ◌-◌, ◌≤◌, Bool, List, ◌∷◌, length, refl, sym, ap, subst, ◌∙◌, arith}
use Rattle.std.specs.Prelude.{Option, Some, None, option_map, slice_get}
use Rattle.std.specs.Option.{option_and_then}
use Rattle.std.proofs.lemmas.Option.{slice_get_past}
use Rattle.ppp_duet.specs.Duet as duet
use Rattle.ppp_duet.specs.Duet.{Duet, End, Marked, Setup, start}
use Rattle.ppp_duet.specs.Span.{Narrow}
use Rattle.ppp_duet.proofs.ReachedLemmas.{reached_start}
use Rattle.ppp_link.specs.Link.{Link}
use Rattle.ppp_link.specs.LinkTables.{table_if, table_of}
use Rattle.ppp_packet.specs.declared.proto.Proto.{Proto}
use Rattle.ppp_packet.specs.declared.proto.Proto.TheVariants.{Lcp}
use Rattle.ppp_party.specs.Events.{Leads, Makes}
use Rattle.ppp_party.specs.Frame.{Frame}
use Rattle.ppp_party.specs.Downs.{AllShortDowns}
use Rattle.ppp_party.specs.Happening.{happening_seen}
use Rattle.ppp_party.specs.Held.{IsHeld, IsLone, KeptOn}
use Rattle.ppp_party.specs.Kept.{Kept, duet_of}
use Rattle.ppp_bap.specs.declared.bap_ask.BapAsk.{BapAsk}
use Rattle.ppp_bap.specs.declared.call_ask.CallAsk.{CallAsk}
use Rattle.ppp_party.specs.Party.{Ends, IsShortDelivery, Party, asks, delivers, ends_begun, happens, loses, reboots, station_of, tells, tries, turned}
use Rattle.ppp_party.specs.Seat.{Anew, AreSent, IsSpoken, rebooted}
use Rattle.ppp_party.specs.Spans.{queue_if, queue_on}
use Rattle.ppp_party.specs.declared.happening.Happening.{Happening}
use Rattle.ppp_party.proofs.CameLemmas as came
use Rattle.ppp_party.proofs.KeptLemmas.{MadeFrom, asks-made, delivers-made, happens-made, loses-made, reached-leads, reboots-led, tells-made, tries-made}
use Rattle.ppp_party.proofs.RebootLemmas.{begins-came, turned-leads, turned-makes}
use Rattle.ppp_party.proofs.SpansLemmas.{narrow-duet}
use Rattle.ppp_script.specs.declared.end.End.TheVariants.{A, B}
use Rattle.ppp_station.specs.Station.{Station, asks_peer, moves, tells_peer, tries_again}
use Rattle.ppp_trunk.specs.StationOut.{AreShort}
use Rattle.ppp_trunk.specs.Trunk.{IsBegun, IsOfLink}
use Rattle.ppp_world.specs.Agreement.{auto_on, duet_on, duet_with, end_on, link_on}
use Rattle.ppp_world.specs.Makes.{IsRight, LeadsIn, LendsIn, MakesOn, RelatesOn, SentOn, StartEverywhere, StartsOn, lent_on, read_on, setup_on}
use Rattle.ppp_world.specs.Run.{moment_at}
use Rattle.ppp_world.specs.Says.{Says}
use Rattle.ppp_world.specs.Step.{IsLinked, IsShort, moved, word_of}
use Rattle.ppp_world.specs.World.{IsSound}
use Rattle.ppp_world.specs.declared.step.Step.{Step}
use Rattle.ppp_world.specs.declared.step.Step.TheVariants.{Happens, Delivers, Asks, Tells, Tries, Loses, Reboots, Reports, Rests}
use Rattle.ppp_world.proofs.AgreementLemmas.{duet-lone, duet-nowhere, duet-unspoken, kept-duet, link_there, within-or}
use Rattle.ppp_world.proofs.SameControlLemmas.{held-trunks, same-control}
use Rattle.ppp_world.proofs.SoundLemmas.{agree-kept, no_frame, over, some_at, sound-turned, step-after, taken-short}

-- ---- the two ends of a protocol that both speak

setup-there : (m : ℕ) (p : Proto) (sa : Setup) (links : List Link) (k : Link) → link_on m links ≡ Some k → IsSpoken sa p k.tables → sa ≡ setup_on m p links
setup-there m p sa links k there spoken =
    let table : sa.table ≡ table_if (λ (k : Link). table_of k.tables p) (link_on m links) = spoken.table ∙ sym (ap (table_if (λ (k : Link). table_of k.tables p)) there) in
    λ i. record { table = table i; first = spoken.first i }

kept-stands : (Is : Setup → Setup → Duet → Duet → Type 0) (m : ℕ) (p : Proto) (e after : Ends) → 1 ≤ m → (on : KeptOn m p e) (now : Kept on.own_setup on.other_setup p m after) →
    Is on.own_setup on.other_setup (duet_of on.kept) (duet_of now) → RelatesOn Is m p e after
kept-stands Is m p e after low on now so d is =
    let k = on.kept in
    let own = setup-there m p on.own_setup e.own.trunk.links k.own.link (link_there m e.own.trunk.links k.own.link low k.own_seated.at.link) k.own_seated.end.spoken in
    let other = setup-there m p on.other_setup e.other.trunk.links k.other.link (link_there m e.other.trunk.links k.other.link low k.other_seated.at.link) k.other_seated.end.spoken in
    let same : duet_of k ≡ d = let both : Some (duet_of k) ≡ Some d = sym (kept-duet on.own_setup on.other_setup p m e low k) ∙ is in cc in
    record {
      duet = duet_of now;
      there = kept-duet on.own_setup on.other_setup p m after low now;
      so = subst (λ sa. Is sa (setup_on m p e.other.trunk.links) d (duet_of now)) own (subst (λ sb. Is on.own_setup sb d (duet_of now)) other (subst (λ x. Is on.own_setup on.other_setup x (duet_of now)) same so));
    }

-- nothing is to show of a protocol that one of them doesn't speak
nothing-stands : (Is : Setup → Setup → Duet → Duet → Type 0) (m : ℕ) (p : Proto) (e after : Ends) → duet_on m p e ≡ None → RelatesOn Is m p e after
nothing-stands Is m p e after none d is = absurd (let both : None ≡ Some d = sym none ∙ is in cc)

made-stands : (m : ℕ) (p : Proto) (e after : Ends) → 1 ≤ m → IsHeld m p e → ((on : KeptOn m p e) → MadeFrom on.own_setup on.other_setup p m (duet_of on.kept) after) → RelatesOn Makes m p e after
made-stands m p e after low (inl on) made = let did = made on in kept-stands Makes m p e after low on did.kept did.makes
made-stands m p e after low (inr (inl lone)) made = nothing-stands Makes m p e after (duet-lone m p e low lone)
made-stands m p e after low (inr (inr lone)) made = nothing-stands Makes m p e after (duet-unspoken m p e low lone)

abbrev LeadsAnew : ℕ → Setup → Setup → Duet → Duet → Type 0
LeadsAnew word sa sb before after = Leads sa sb (rebooted sa sb word before) after

led-stands : (m : ℕ) (p : Proto) (word : ℕ) (e : Ends) → 1 ≤ m → AllShortDowns word (station_of e.other) → IsHeld m p e → RelatesOn (LeadsAnew word) m p e (reboots word e)
led-stands m p word e low short (inl on) =
    let did = reboots-led on.own_setup on.other_setup p m word e on.kept low short in kept-stands (LeadsAnew word) m p e (reboots word e) low on did.kept did.leads
led-stands m p word e low short (inr (inl lone)) = nothing-stands (LeadsAnew word) m p e (reboots word e) (duet-lone m p e low lone)
led-stands m p word e low short (inr (inr lone)) = nothing-stands (LeadsAnew word) m p e (reboots word e) (duet-unspoken m p e low lone)

-- ---- the ends turned

with-turned : (to_a to_b : List Marked) (a b : Option End) → duet_with to_b to_a b a ≡ option_map duet.turned (duet_with to_a to_b a b)
with-turned to_a to_b (Some a) (Some b) = refl
with-turned to_a to_b (Some a) None = refl
with-turned to_a to_b None (Some b) = refl
with-turned to_a to_b None None = refl

duet-turned : (m : ℕ) (p : Proto) (e : Ends) (d : Duet) → duet_on m p e ≡ Some d → duet_on m p (turned e) ≡ Some (duet.turned d)
duet-turned m p e d is = with-turned _ _ (end_on m p e.own) (end_on m p e.other) ∙ ap (option_map duet.turned) is

relates-turned : (Is Turned : Setup → Setup → Duet → Duet → Type 0) (m : ℕ) (p : Proto) (e after : Ends) →
    ((sa sb : Setup) (c d : Duet) → Is sa sb c d → Turned sb sa (duet.turned c) (duet.turned d)) → RelatesOn Is m p (turned e) after → RelatesOn Turned m p e (turned after)
relates-turned Is Turned m p e after turns on d is =
    let did = on (duet.turned d) (duet-turned m p e d is) in
    record { duet = duet.turned did.duet; there = duet-turned m p after did.duet did.there; so = turns _ _ (duet.turned d) did.duet did.so }

-- ---- the steps on a link of the first end

module _ (e : Ends) (steps : ℕ) (sound : IsSound e steps) (l : ℕ) (is : IsOfLink (length e.own.trunk.links) l) (m : ℕ) (p : Proto) (above : 1 ≤ m) (below : m ≤ length e.own.trunk.links) where
  narrow-here : (on : KeptOn m p e) → Narrow (duet_of on.kept)
  narrow-here on = narrow-duet on.own_setup on.other_setup p m e on.kept (sound.narrow m p above below)

  happens-makes : (what : Happening) (word : ℕ) → AreShort (moves (happening_seen what) l (station_of e.own) word).out.entries → RelatesOn Makes m p e (happens (happening_seen what) l word e)
  happens-makes what word short =
      made-stands m p e _ above (sound.held m p above below)
      (λ on. happens-made on.own_setup on.other_setup p (happening_seen what) l m word e on.kept is above (narrow-here on) (no_frame what) short)

  delivers-makes : (says : CallAsk → Bool) (word : ℕ) → IsShortDelivery says l word e.own → RelatesOn Makes m p e (delivers says l word e)
  delivers-makes says word short =
      made-stands m p e _ above (sound.held m p above below)
      (λ on. delivers-made on.own_setup on.other_setup p says l m word e on.kept sound.station_a is above (narrow-here on) short)

  asks-makes : (what : BapAsk) (word : ℕ) → AreShort (asks_peer l what (station_of e.own) word).out.entries → RelatesOn Makes m p e (asks l what word e)
  asks-makes what word short =
      made-stands m p e _ above (sound.held m p above below)
      (λ on. asks-made on.own_setup on.other_setup p what l m word e on.kept sound.station_a is above (narrow-here on) short)

  tells-makes : (status word : ℕ) → AreShort (tells_peer l status (station_of e.own) word).out.entries → RelatesOn Makes m p e (tells l status word e)
  tells-makes status word short =
      made-stands m p e _ above (sound.held m p above below)
      (λ on. tells-made on.own_setup on.other_setup p status l m word e on.kept sound.station_a is above (narrow-here on) short)

  tries-makes : (word : ℕ) → AreShort (tries_again l (station_of e.own) word).out.entries → RelatesOn Makes m p e (tries l word e)
  tries-makes word short =
      made-stands m p e _ above (sound.held m p above below)
      (λ on. tries-made on.own_setup on.other_setup p l m word e on.kept sound.station_a is above (narrow-here on) short)

  loses-makes : (place : ℕ) → RelatesOn Makes m p e (loses l place e)
  loses-makes place =
      made-stands m p e _ above (sound.held m p above below)
      (λ on. loses-made on.own_setup on.other_setup p l m place e on.kept is.0 above (narrow-here on))

-- ---- each step

-- nothing happens
stays-on : (k : ℕ) (m : ℕ) (p : Proto) (e : Ends) → MakesOn m p k Rests e e
stays-on k m p e d is = record { duet = d; there = is; so = refl }

over-b : (m : ℕ) (p : Proto) (e after : Ends) → RelatesOn Makes m p (turned e) after → RelatesOn Makes m p e (turned after)
over-b m p e after on = relates-turned Makes Makes m p e after (λ sa sb c d so. turned-makes sa sb c d so) on

module _ (says : Says) (k steps : ℕ) (e : Ends) (s : IsSound e steps) (m : ℕ) (p : Proto) (above : 1 ≤ m) (below : m ≤ length e.own.trunk.links) where
  turned-below : m ≤ length e.other.trunk.links
  turned-below = omega (arith, below, s.alike)

  t : IsSound (turned e) steps
  t = sound-turned e steps s

  step-makes : (step : Step) → IsLinked (length e.own.trunk.links) step → IsShort says k e step → MakesOn m p k step e (moved says k e step)
  step-makes (Happens A l what) is short = happens-makes e steps s l is m p above below what (word_of A k) short
  step-makes (Happens B l what) is short = over-b m p e _ (happens-makes (turned e) steps t l (over e steps l s is) m p above turned-below what (word_of B k) short)
  step-makes (Delivers A l) is short = delivers-makes e steps s l is m p above below (says A) (word_of A k) (taken-short (says A) l (word_of A k) e.own short)
  step-makes (Delivers B l) is short = over-b m p e _ (delivers-makes (turned e) steps t l (over e steps l s is) m p above turned-below (says B) (word_of B k) (taken-short (says B) l (word_of B k) e.other short))
  step-makes (Asks A l what) is short = asks-makes e steps s l is.0 m p above below what (word_of A k) short
  step-makes (Asks B l what) is short = over-b m p e _ (asks-makes (turned e) steps t l (over e steps l s is.0) m p above turned-below what (word_of B k) short)
  step-makes (Tells A l status) is short = tells-makes e steps s l is m p above below status (word_of A k) short
  step-makes (Tells B l status) is short = over-b m p e _ (tells-makes (turned e) steps t l (over e steps l s is) m p above turned-below status (word_of B k) short)
  step-makes (Tries A l) is short = tries-makes e steps s l is m p above below (word_of A k) short
  step-makes (Tries B l) is short = over-b m p e _ (tries-makes (turned e) steps t l (over e steps l s is) m p above turned-below (word_of B k) short)
  step-makes (Loses A l place) is short = loses-makes e steps s l is m p above below place
  step-makes (Loses B l place) is short = over-b m p e _ (loses-makes (turned e) steps t l (over e steps l s is) m p above turned-below place)
  step-makes (Reboots A) is short = led-stands m p (word_of B k) e above short (s.held m p above below)
  step-makes (Reboots B) is short =
      relates-turned (LeadsAnew (word_of A k)) (LeadsIn k (Reboots B)) m p e _ (λ sa sb c d so. turned-leads sa sb _ d so)
      (led-stands m p (word_of A k) (turned e) above short (t.held m p above turned-below))
  step-makes Reports is short = stays-on k m p e
  step-makes Rests is short = stays-on k m p e

-- on a link that isn't there nothing is to show
nowhere-makes : (k : ℕ) (e after : Ends) (step : Step) (m : ℕ) (p : Proto) → link_on m e.own.trunk.links ≡ None → MakesOn m p k step e after
nowhere-makes k e after step m p none = nothing-stands (LeadsIn k step) m p e after (duet-nowhere m p e (let off : auto_on m p e.own.trunk.links ≡ None = rw none refl in off))

pub makes-everywhere : (says : Says) (k steps : ℕ) (e : Ends) (step : Step) → IsSound e steps → IsLinked (length e.own.trunk.links) step → IsShort says k e step → (m : ℕ) (p : Proto) → MakesOn m p k step e (moved says k e step)
makes-everywhere says k steps e step s is short m p = by m (within-or m (length e.own.trunk.links))
  where
    by : (m : ℕ) → (m ≤ length e.own.trunk.links) ⊎ (length e.own.trunk.links < m) → MakesOn m p k step e (moved says k e step)
    by zero within = nowhere-makes k e _ step zero p refl
    by (suc before) (inl within) = step-makes says k steps e s (suc before) p (omega arith) within step is short
    by (suc before) (inr beyond) = nowhere-makes k e _ step (suc before) p (slice_get_past e.own.trunk.links before (omega (arith, beyond)))

-- ---- as both ends begin

anew-kept : (sa sb : Setup) (p : Proto) (m : ℕ) (own other : Station) → Anew sa sb p m (start sa sb) (ends_begun own other) → Kept sa sb p m (ends_begun own other)
anew-kept sa sb p m own other anew = record {
  own = anew.own;
  other = anew.other;
  own_auto = anew.own_auto;
  other_auto = anew.other_auto;
  own_seated = anew.own_seated;
  other_seated = anew.other_seated;
  reached = reached-leads sa sb (start sa sb) _ anew.leads (reached_start sa sb);
}

starts-on : (m : ℕ) (p : Proto) (own other : Station) → 1 ≤ m → IsBegun own.trunk → IsBegun other.trunk → IsHeld m p (ends_begun own other) → StartsOn m p (ends_begun own other)
unfolding anew-kept
starts-on m p own other low ready steady (inl on) d is =
    let k = on.kept in
    let own-at = k.own_seated.at.link in
    let other-at = k.other_seated.at.link in
    let spoken = k.own_seated.end.spoken in
    let heard = k.other_seated.end.spoken in
    let anew = begins-came on.own_setup on.other_setup p m own other k.own.link k.other.link own-at other-at ready steady spoken heard in
    let now = anew-kept on.own_setup on.other_setup p m own other anew in
    let same : duet_of now ≡ d = let both : Some (duet_of now) ≡ Some d = sym (kept-duet on.own_setup on.other_setup p m (ends_begun own other) low now) ∙ is in cc in
    subst (λ sa. Leads sa (setup_on m p other.trunk.links) (start sa (setup_on m p other.trunk.links)) d) (setup-there m p on.own_setup own.trunk.links k.own.link (link_there m own.trunk.links k.own.link low own-at) spoken)
    (subst (λ sb. Leads on.own_setup sb (start on.own_setup sb) d) (setup-there m p on.other_setup other.trunk.links k.other.link (link_there m other.trunk.links k.other.link low other-at) heard)
    (subst (Leads on.own_setup on.other_setup (start on.own_setup on.other_setup)) same anew.leads))
starts-on m p own other low ready steady (inr (inl lone)) d is = absurd (let both : None ≡ Some d = sym (duet-lone m p (ends_begun own other) low lone) ∙ is in cc)
starts-on m p own other low ready steady (inr (inr lone)) d is = absurd (let both : None ≡ Some d = sym (duet-unspoken m p (ends_begun own other) low lone) ∙ is in cc)

starts-nowhere : (m : ℕ) (p : Proto) (e : Ends) → link_on m e.own.trunk.links ≡ None → StartsOn m p e
starts-nowhere m p e none d is =
    absurd (let both : None ≡ Some d = sym (duet-nowhere m p e (let off : auto_on m p e.own.trunk.links ≡ None = rw none refl in off)) ∙ is in cc)

pub start-everywhere : (own other : Station) → IsBegun own.trunk → IsBegun other.trunk → IsSound (ends_begun own other) 0 → StartEverywhere (ends_begun own other)
start-everywhere own other ready steady s m p = by m (within-or m (length own.trunk.links))
  where
    by : (m : ℕ) → (m ≤ length own.trunk.links) ⊎ (length own.trunk.links < m) → StartsOn m p (ends_begun own other)
    by zero within = starts-nowhere zero p (ends_begun own other) refl
    by (suc before) (inl within) = starts-on (suc before) p own other (omega arith) ready steady (s.held (suc before) p (omega arith) within)
    by (suc before) (inr beyond) = starts-nowhere (suc before) p (ends_begun own other) (slice_get_past own.trunk.links before (omega (arith, beyond)))

-- ---- the frames under way

queue-there : (m : ℕ) (e : Party) (queue : List Frame) → slice_get e.incoming (m - 1) ≡ Some queue → queue_on m e ≡ queue
queue-there m e queue is = rw is refl

-- both ends speak LCP
never-lone : (m : ℕ) (e : Ends) → IsLone m Lcp e → ⊥
never-lone m e lone = let silent : Some lone.other.link.automata.lcp ≡ None = lone.silent in cc

sent-on : (m : ℕ) (e : Ends) → IsHeld m Lcp e → SentOn m e
sent-on m e (inl on) =
    let s = on.kept.own_seated in (
      subst AreSent (sym (queue-there m e.own on.kept.own.incoming s.at.incoming)) s.well.incoming,
      subst AreSent (sym (queue-there m e.other on.kept.own.outgoing s.at.outgoing)) s.well.outgoing,
    )
sent-on m e (inr (inl lone)) = absurd (never-lone m e lone)
sent-on m e (inr (inr lone)) = absurd (never-lone m (turned e) lone)

-- ---- what a delivery lends

queue-front : (o : Option (List Frame)) (f : Frame) (rest : List Frame) → queue_if o ≡ f ∷ rest → o ≡ Some (f ∷ rest)
queue-front None f rest is = absurd (cc)
queue-front (Some queue) f rest is = ap Some is

delivers-lends : (e : Ends) (steps : ℕ) → IsSound e steps → (says : CallAsk → Bool) (l word : ℕ) → IsOfLink (length e.own.trunk.links) l → IsShortDelivery says l word e.own → (f : Frame) (rest : List Frame) → queue_on l e.own ≡ f ∷ rest →
    lent_on l (delivers says l word e).own.trunk.links ≡ option_and_then (read_on f.octets) (link_on l e.own.trunk.links)
delivers-lends e steps sound says l word is short f rest front =
    let k = some_at e.own.trunk.links (l - 1) (omega (arith, is.0, is.1)) in
    let first = queue-front (slice_get e.own.incoming (l - 1)) f rest front in
    let did = came.delivers-lends says l word e k.0 f rest sound.station_a is k.1 first (short f rest first) in
    ap (option_and_then (λ (k : Link). k.deframer.frame)) (link_there l (delivers says l word e).own.trunk.links did.link is.0 did.at) ∙ did.reads
    ∙ sym (ap (option_and_then (read_on f.octets)) (link_there l e.own.trunk.links k.0 is.0 k.1))

step-lends : (says : Says) (k steps : ℕ) (e : Ends) (step : Step) → IsSound e steps → IsLinked (length e.own.trunk.links) step → IsShort says k e step → LendsIn step e (moved says k e step)
step-lends says k steps e (Delivers A l) s is short = delivers-lends e steps s (says A) l (word_of A k) is (taken-short (says A) l (word_of A k) e.own short)
step-lends says k steps e (Delivers B l) s is short =
    delivers-lends (turned e) steps (sound-turned e steps s) (says B) l (word_of B k) (over e steps l s is) (taken-short (says B) l (word_of B k) e.other short)
step-lends says k steps e (Happens at l what) s is short = tt
step-lends says k steps e (Asks at l what) s is short = tt
step-lends says k steps e (Tells at l status) s is short = tt
step-lends says k steps e (Tries at l) s is short = tt
step-lends says k steps e (Loses at l place) s is short = tt
step-lends says k steps e (Reboots at) s is short = tt
step-lends says k steps e Reports s is short = tt
step-lends says k steps e Rests s is short = tt

-- all that is promised of a step
pub right-moved : (says : Says) (steps : ℕ) (e : Ends) (step : Step) → IsSound e steps → IsLinked (length e.own.trunk.links) step → IsShort says (steps + 1) e step → IsRight e (moment_at says (record { done = steps; ends = e }) step)
right-moved says steps e step s is short =
    let after = moved says (steps + 1) e step in
    let kept = (step-after says (steps + 1) steps e s step is short).kept in
    record {
      agreed = agree-kept after kept;
      makes = makes-everywhere says (steps + 1) steps e step s is short;
      sent = λ m there. sent-on m after (kept.held m Lcp there.0 there.1);
      control = same-control after (held-trunks after (kept.held 1 Lcp (omega arith) kept.some)) (λ l. agree-kept after kept l Lcp);
      lends = step-lends says (steps + 1) steps e step s is short;
    }
