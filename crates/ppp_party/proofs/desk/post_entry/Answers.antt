use Rattle.std.proofs.Common.{◌≡◌, ◌≢◌, ◌≤◌, ◌-◌, ◌∙◌, ℕ, Bor, List, ◌∷◌, [], ap, length, length-set, refl, subst, sym}
use Rattle.ppp_party.specs.Party.{each_noted, each_queued, room}
use Rattle.ppp_trunk.specs.Moves.{IsLinked}
use Rattle.ppp_trunk.specs.Trunk.{IsOfLink}
use Rattle.ppp_trunk.specs.StationOut.{Push, entry_seen}
use Rattle.ppp_trunk.specs.declared.station_out.StationEntry.{StationEntry}
use Rattle.ppp_trunk.specs.declared.station_out.StationEntry.TheVariants as lent
use Rattle.ppp_party.proofs.ListLemmas.{all-set}
use Rattle.ppp_party.proofs.ResultLemmas.{on_ok_map}
use Rattle.ppp_party.proofs.SendLemmas.{IsNoPush, noted-nothing, noted-push, queued-nothing, queued-push}
use Rattle.ppp_party.proofs.desk.post_entry.Goals as goal

no-push : (e : StationEntry) → ((link : ℕ) (octets : Bor (List ℕ)) → e ≢ lent.Push link octets) → IsNoPush (entry_seen e)
no-push (lent.Push link octets) not = absurd (not link octets refl)
no-push (lent.Got class protocol octets) not = tt
no-push (lent.Hang link) not = tt
no-push (lent.Dial link) not = tt
no-push (lent.Asked answer) not = tt

pub returns-in_default : goal.returns-in_default
returns-in_default c =
    let none = no-push c.args.entry c.in_default.not-Push in
    record {
      reader = c.requires.reader;
      ledgers = noted-nothing (entry_seen c.args.entry) c.args.ledgers.now.items none;
      incoming = queued-nothing c.args.mark (entry_seen c.args.entry) c.args.ledgers.now.items c.args.incoming.now.items none c.requires.queues;
      few = c.requires.queues;
      count = refl;
      queues = refl;
    }

pub returns : goal.returns
returns c =
    let l = c.in-Push.link in
    let octets = c.in-Push.octets.now in
    let gss = c.args.ledgers.now.items in
    let queues = c.args.incoming.now.items in
    let is : entry_seen c.args.entry ≡ Push l octets = ap entry_seen c.in-Push.is in
    let of : IsOfLink (length gss) l = subst (IsLinked (length gss)) is c.requires.linked in
    let at = ap (λ n. n - 1) c.from-i.ensures in
    let did = c.post_frame.ensures in
    record {
      reader = did.reader;
      ledgers = on_ok_map c.post_frame.result did.ledgers (λ noted.
          noted-push l (c.from-i.result - 1) c.args.mark octets gss queues c.index_mut.result.now c.post_frame.new.ledgers c.index_mut-2.result.now c.post_frame.new.queue at of.0 of.1 c.index_mut.ensures.value noted
          ∙ ap (λ e. each_noted 1 (e ∷ []) gss) (sym is));
      incoming = on_ok_map c.post_frame.result did.queue (λ longer.
          queued-push l (c.from-i.result - 1) c.args.mark octets gss queues c.index_mut.result.now c.post_frame.new.ledgers c.index_mut-2.result.now c.post_frame.new.queue at of.0 of.1 c.index_mut.ensures.value
          c.requires.alike c.requires.queues c.index_mut-2.ensures.value longer
          ∙ ap (λ e. each_queued 1 c.args.mark (e ∷ []) gss queues) (sym is));
      few = all-set (λ queue. length queue ≤ room) queues (c.from-i.result - 1) c.post_frame.new.queue c.requires.queues did.few;
      count = length-set gss (c.from-i.result - 1) c.post_frame.new.ledgers;
      queues = length-set queues (c.from-i.result - 1) c.post_frame.new.queue;
    }
