-- No datagram that the links hand up has a class.
use Rattle.std.proofs.Common.{ℕ, ◌-◌, List, [], ◌∷◌, ◌++◌, refl}
use Rattle.std.specs.Prelude.{Option, Some, None, slice_get}
use Rattle.ppp_link.specs.Link.{Link, run_did}
use Rattle.ppp_link.specs.LinkOut.{Entry as LinkTold}
use Rattle.ppp_link.specs.LinkOut as told
use Rattle.ppp_trunk.specs.Control.{comes, goes}
use Rattle.ppp_trunk.specs.StationOut.{Entry, Got, Hang, Push}
use Rattle.ppp_trunk.specs.Steps.{Closes, Happening, LineDown, LineUp, Opens, Takes, TimesOut, all_plain, link_does, with_link}
use Rattle.ppp_trunk.specs.Trunk.{Trunk, on_link, stepped_by, trunk_does}
use Rattle.ppp_trunk.specs.declared.trunk_event.TrunkEvent.{TrunkEvent}
use Rattle.ppp_trunk.specs.declared.trunk_event.TrunkEvent.TheVariants as event
use Rattle.ppp_trunk.proofs.ListLemmas.{AllByRecursion-append}
use Rattle.ppp_trunk.proofs.WalkLemmas.{IsKept, all-any, works-kept}
use Rattle.ppp_station.specs.Heard.{AreBare, IsBare}

bare-more : (es more : List Entry) → AreBare es → AreBare more → AreBare (es ++ more)
bare-more es more first rest = AllByRecursion-append IsBare es more first rest

plain-bare : (l : ℕ) (es : List LinkTold) → AreBare (all_plain l es)
plain-bare l [] = tt
plain-bare l (told.Push octets ∷ es) = (tt, plain-bare l es)
plain-bare l (told.LcpUp ∷ es) = plain-bare l es
plain-bare l (told.LcpDown ∷ es) = plain-bare l es
plain-bare l (told.Finished ∷ es) = plain-bare l es
plain-bare l (told.NetUp q ∷ es) = plain-bare l es
plain-bare l (told.NetDown q ∷ es) = plain-bare l es
plain-bare l (told.Payload number octets ∷ es) = plain-bare l es

bare-kept : (l word : ℕ) → IsKept l word (λ e. Unit {0}) (λ r. Unit {0}) (λ done. AreBare done.out)
bare-kept l word = record {
  pushed = λ done octets is all. bare-more done.out (Push l octets ∷ []) all (tt, tt);
  handed = λ done number octets all. bare-more done.out (Got None number octets ∷ []) all (refl, tt);
  hung = λ done all. bare-more done.out (Hang l ∷ []) all (tt, tt);
  moved = λ done b all. all;
  ran = λ done r k is at all. let did = run_did k r.on r.bacp word in bare-more done.out (all_plain r.link did.out) all (plain-bare r.link did.out);
  came = λ key b. all-any (λ r. Unit {0}) (λ r. tt) (comes l key b).runs;
  went = λ b. all-any (λ r. Unit {0}) (λ r. tt) (goes l b).runs;
}

bare-by : (what : Happening) (l word : ℕ) (st : Trunk) (o : Option Link) → AreBare (stepped_by what l st word o).out.entries
bare-by what l word st None = tt
bare-by what l word st (Some k) =
    let fed = link_does what k word in
    works-kept l word (λ e. Unit {0}) (λ r. Unit {0}) (λ done. AreBare done.out) (bare-kept l word)
    fed.out (record { links = with_link l fed.link st.links; bundles = st.bundles; out = [] }) (all-any (λ e. Unit {0}) (λ e. tt) fed.out) tt

bare-on : (what : Happening) (l word : ℕ) (st : Trunk) → AreBare (on_link what l st word).out.entries
bare-on what l word st = bare-by what l word st (slice_get st.links (l - 1))

pub event-bare : (ev : TrunkEvent) (word : ℕ) (t : Trunk) → AreBare (trunk_does ev t word).out.entries
event-bare (event.Up l) word t = bare-on LineUp l word t
event-bare (event.Down l) word t = bare-on LineDown l word t
event-bare (event.AdminOpen l p) word t = bare-on (Opens p) l word t
event-bare (event.AdminClose l p) word t = bare-on (Closes p) l word t
event-bare (event.Timeout l p) word t = bare-on (TimesOut p) l word t
event-bare (event.Bytes l octets) word t = bare-on (Takes octets.now) l word t
event-bare event.Reset word t = tt
