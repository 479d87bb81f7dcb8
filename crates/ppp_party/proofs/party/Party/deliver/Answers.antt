use Rattle.std.proofs.Common.{ℕ, List, get_or, ◌≡◌, ◌+◌, ◌-◌, ◌^◌, ◌∙◌, ap, arith, length, refl, set, subst, sym}
use Rattle.std.specs.Prelude.{Some, slice_get}
use Rattle.ppp_link.specs.Link.{Link}
use Rattle.ppp_station.specs.Station.{Station}
use Rattle.ppp_trunk.specs.Trunk.{IsOfLink}
use Rattle.ppp_trunk.specs.declared.station_out.TheConstants.{MOST_ENTRIES}
use Rattle.ppp_party.specs.Counted.{AllCounted, AreCounted, IsCounted}
use Rattle.ppp_party.specs.Frame.{Frame}
use Rattle.ppp_party.specs.Ledger.{Ledgers}
use Rattle.ppp_party.specs.Party.{IsParty, Whole, heard_on, posted, station_of}
use Rattle.ppp_party.proofs.DoneLemmas.{delivered, party_at, undelivered, whole-taken}
use Rattle.ppp_party.proofs.ListLemmas.{all-at, all-set, lent-at, there-is}
use Rattle.ppp_party.proofs.PartyLemmas.{heard-counted, posted-counted}
use Rattle.ppp_party.proofs.ResultLemmas.{on_ok_both, on_ok_map}
use Rattle.ppp_party.proofs.SendLemmas.{all-more}
use Rattle.ppp_station.proofs.CountLemmas.{hears-count}
use Rattle.ppp_party.proofs.party.Party.deliver.Goals as goal

-- ---- no frame is under way

pub returns-in_default-clause-done : goal.returns-in_default-clause-done
returns-in_default-clause-done g c =
    rw (← c.self.view_is) (
    undelivered c.self.inside.station.station c.self.inside.drawn c.self.inside.ordinals c.self.inside.ledgers.items c.self.inside.incoming.items c.args.link (c.from-i.result - 1) c.index_mut.result.now
    (ap (λ n. n - 1) c.from-i.ensures) c.requires.link.0 (omega (arith, c.requires.link.1, ap (λ (w : Whole _). length w.party.trunk.links) c.self.view_is)) c.self.invariant c.index_mut.ensures.value _ c.args.word c.args.other.now.party c.pop.new.self _ c.in_default.ensures.front.0 c.in_default.ensures.front.1 refl)

pub returns-in_default-clause-counted : goal.returns-in_default-clause-counted
returns-in_default-clause-counted g c n all =
    let old = subst (λ (w : Whole _). AreCounted n w.party) (sym c.self.view_is) all in
    record { ledgers = all-more n (n + MOST_ENTRIES) c.self.inside.ledgers.items (omega arith) old.ledgers; calls = let one = old.calls in omega (arith, one) }

-- ---- the front frame is taken

pub take-requires-clause-link : goal.take-requires-clause-link
take-requires-clause-link g c = subst (λ (w : Whole _). IsOfLink (length w.party.trunk.links) c.args.link) (sym c.self.view_is) c.requires.link

pub take-requires-clause-whole : goal.take-requires-clause-whole
take-requires-clause-whole g c = c.self.invariant.station

pub invariant_of-self-2 : goal.invariant_of-self-2
invariant_of-self-2 g c =
    let st = c.self.inside.station.station in
    let count = ap (λ (st : Station). length st.trunk.links) c.take.ensures.taken.station ∙ hears-count c.take.ensures.taken.allowed c.args.link c.in-Some.frame.octets st c.args.word in
    whole-taken st c.take.new.station.station c.self.inside.drawn c.self.inside.ordinals c.self.inside.ledgers.items c.self.inside.incoming.items (c.from-i.result - 1) c.take.new.ledgers c.pop.new.self
    c.take.ensures.whole count c.pop.ensures.few c.self.invariant

pub post-requires-clause-alike : goal.post-requires-clause-alike
post-requires-clause-alike g c =
    c.requires.alike
    ∙ ap (λ (w : Whole _). length w.party.trunk.links) (sym c.self.view_is)
    ∙ sym (ap (λ (st : Station). length st.trunk.links) c.take.ensures.taken.station ∙ hears-count c.take.ensures.taken.allowed c.args.link c.in-Some.frame.octets c.self.inside.station.station c.args.word)

-- what is heard draws no ordinal
heard-counts : (n : ℕ) (l at word : ℕ) (st : Station) (f : Frame) (drawn : ℕ) (ordinals : List ℕ) (gss : List Ledgers) (queues : List (List Frame)) (gs heard : Ledgers) → at ≡ l - 1 → IsOfLink (length st.trunk.links) l →
    IsParty (party_at st drawn ordinals gss queues) → gs ≡ get_or gss at gs → ((k : Link) → slice_get st.trunk.links (l - 1) ≡ Some k → heard ≡ heard_on k f word gs) → AllCounted n gss → AllCounted n (set gss at heard)
heard-counts n l at word st f drawn ordinals gss queues gs heard is of whole lends hears counted =
    let link = there-is st.trunk.links l of.0 of.1 in
    let there = lent-at gss at l gs is of.0 (let high = of.1 in omega (arith, high, whole.ledgers)) lends in
    all-set (λ gs. IsCounted n gs) gss at heard counted
    (subst (λ gs. IsCounted n gs) (sym (hears link.0 link.1)) (heard-counted n word link.0 f gs (all-at (λ gs. IsCounted n gs) gss (l - 1) gs counted there)))

pub post-requires-clause-counted : goal.post-requires-clause-counted
post-requires-clause-counted g c =
    let of = subst (λ (w : Whole _). IsOfLink (length w.party.trunk.links) c.args.link) (sym c.self.view_is) c.requires.link in
    heard-counts (2 ^ 62) c.args.link (c.from-i.result - 1) c.args.word c.self.inside.station.station c.in-Some.frame c.self.inside.drawn c.self.inside.ordinals c.self.inside.ledgers.items c.self.inside.incoming.items
    c.index_mut-2.result.now c.take.new.ledgers (ap (λ n. n - 1) c.from-i.ensures) of c.self.invariant c.index_mut-2.ensures.value c.take.ensures.heard
    (subst (λ (w : Whole _). AreCounted (2 ^ 62) w.party) (sym c.self.view_is) c.requires.few).ledgers

pub returns-clause-done : goal.returns-clause-done
returns-clause-done g c =
    let of = subst (λ (w : Whole _). IsOfLink (length w.party.trunk.links) c.args.link) (sym c.self.view_is) c.requires.link in
    let link = there-is c.self.inside.station.station.trunk.links c.args.link of.0 of.1 in
    rw (← c.self.view_is) (on_ok_map c.post.result c.post.ensures.done (λ is.
    delivered c.self.inside.station.station c.self.inside.drawn c.self.inside.ordinals c.self.inside.ledgers.items c.self.inside.incoming.items c.args.link (c.from-i.result - 1) c.index_mut.result.now
    (ap (λ n. n - 1) c.from-i.ensures) c.requires.link.0 (omega (arith, c.requires.link.1, ap (λ (w : Whole _). length w.party.trunk.links) c.self.view_is)) c.self.invariant c.index_mut.ensures.value _ c.args.word c.args.other.now.party link.0 c.take.new.station.station c.take.new.out c.in-Some.frame c.pop.new.self c.index_mut-2.result.now c.take.new.ledgers _ c.in-Some.ensures.front link.1
    c.take.ensures.taken c.index_mut-2.ensures.value (c.take.ensures.heard link.0 link.1) c.take.ensures.short
    (is ∙ ap (λ m. posted m (record { station = c.take.new.station.station; out = c.take.new.out })
    (record { own = party_at c.take.new.station.station c.self.inside.drawn c.self.inside.ordinals (set c.self.inside.ledgers.items (c.from-i.result - 1) c.take.new.ledgers) (set c.self.inside.incoming.items (c.from-i.result - 1) c.pop.new.self); other = c.args.other.now.party })) c.mark.ensures)))

pub returns-clause-counted : goal.returns-clause-counted
returns-clause-counted g c n all =
    let of = subst (λ (w : Whole _). IsOfLink (length w.party.trunk.links) c.args.link) (sym c.self.view_is) c.requires.link in
    let old = subst (λ (w : Whole _). AreCounted n w.party) (sym c.self.view_is) all in
    let st = c.take.new.station.station in
    let mid = party_at st c.self.inside.drawn c.self.inside.ordinals (set c.self.inside.ledgers.items (c.from-i.result - 1) c.take.new.ledgers) (set c.self.inside.incoming.items (c.from-i.result - 1) c.pop.new.self) in
    let counted = heard-counts n c.args.link (c.from-i.result - 1) c.args.word c.self.inside.station.station c.in-Some.frame c.self.inside.drawn c.self.inside.ordinals c.self.inside.ledgers.items c.self.inside.incoming.items
    c.index_mut-2.result.now c.take.new.ledgers (ap (λ n. n - 1) c.from-i.ensures) of c.self.invariant c.index_mut-2.ensures.value c.take.ensures.heard old.ledgers in
    on_ok_both c.post.result c.post.ensures.done (c.post.ensures.counted n counted) (λ is few.
    posted-counted (n + MOST_ENTRIES) c.mark.result (record { station = station_of mid; out = c.take.new.out }) c.post.new.self.party c.post.new.other.party mid c.args.other.now.party is few
    (let one = old.calls in omega (arith, one)))
