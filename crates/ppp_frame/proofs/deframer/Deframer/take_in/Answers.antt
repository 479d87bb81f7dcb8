use Rattle.std.proofs.Common.{◌≡◌, ◌≤◌, ◌++◌, None, take, ap, sym, ◌∙◌, arith, length, length-take, ℕ}
use Rattle.std.specs.Option.{option_map}
use Rattle.std.specs.Vec.{with_items}
use Rattle.std.proofs.lemmas.Bool.{leb-true, leb-false, both_ways}
use Rattle.std.proofs.lemmas.List.{with_items_is, length-take-le}
use Rattle.ppp_frame.specs.Deframer.{DeframerState, lent_seen}
use Rattle.ppp_frame.specs.Escapes.{unstuffed}
use Rattle.ppp_frame.specs.Fcs.{fcs_run}
use Rattle.ppp_frame.specs.Standing.{Standing}
use Rattle.ppp_frame.proofs.FcsLemmas.{fcs_run-append}
use Rattle.ppp_frame.proofs.StandingLemmas.{taken_past, taken_whole, taken_over}
use Rattle.ppp_frame.proofs.VerdictLemmas.{none_lent}
use Rattle.ppp_frame.proofs.deframer.Deframer.take_in.Goals as goal

pub returns-then-self : goal.returns-then-self
returns-then-self c =
    let d = c.self.inside in
    let shown : Standing → DeframerState = λ s. record {
      reader = record { limit = d.limit; ac = d.ac; pf = d.pf };
      standing = s;
      frame = option_map (lent_seen d.room.items) d.lent;
    } in
    rw (← c.self.view_is) (
    ap shown (
    taken_past d.limit (take d.held d.room.items) c.args.run.now d.past d.escaped _ c.if-self.true
    (ap (λ n. take n d.room.items) (c.self.invariant.dropped c.if-self.true)) c.ends_escaped-self-inside.ensures))

pub returns-else-fits : goal.returns-else-fits
returns-else-fits c =
    let d = c.self.inside in
    let shown : Standing → DeframerState = λ s. record {
      reader = record { limit = d.limit; ac = d.ac; pf = d.pf };
      standing = s;
      frame = option_map (lent_seen d.room.items) d.lent;
    } in
    let held : length (take d.held d.room.items) ≡ d.held =
    length-take-le d.held d.room.items (omega (arith, c.self.invariant.room, c.self.invariant.within)) in
    let many = leb-false _ _ (sym c.if-fits.ensures) in
    rw (← c.self.view_is) (
    ap shown (
    taken_over d.limit (take d.held d.room.items) c.args.run.now d.past d.escaped _ c.if-self.false
    (omega (arith, c.self.invariant.within)) c.ends_escaped-self-inside-else-fits.ensures))

-- what is written is what is read of the run
pub returns-then-fits : goal.returns-then-fits
returns-then-fits c =
    let d = c.self.inside in
    let new = c.keep.new.room in
    let items : (with_items d.room new).items ≡ new = with_items_is d.room new (omega arith) in
    let few = leb-true _ _ (sym c.if-fits.ensures) in
    let size : length (take c.keep.result.0 new) ≤ d.limit = omega (arith, length-take {A = ℕ}, c.self.invariant.within) in
    let size' : length (take c.keep.result.0 (with_items d.room new).items) ≤ d.limit = rw items size in
    let kept : take c.keep.result.0 new ≡ take d.held d.room.items ++ unstuffed d.escaped c.args.run.now =
    rw c.deref_mut.ensures.value at c.keep.ensures.kept in
    let standing = taken_whole d.limit (take d.held d.room.items) c.args.run.now (take c.keep.result.0 (with_items d.room new).items)
    d.past d.escaped c.keep.result.1 c.if-self.false size' (ap (take c.keep.result.0) items ∙ kept) c.keep.ensures.escaped in
    let none : option_map (lent_seen d.room.items) d.lent ≡ None = ap (λ (x : DeframerState). x.frame) c.self.view_is ∙ c.requires in
    let frame = none_lent d.room.items (with_items d.room new).items d.lent none in
    rw (← c.self.view_is) (λ i. record {
      reader = record { limit = d.limit; ac = d.ac; pf = d.pf };
      standing = standing i;
      frame = frame i;
    })

pub invariant_of-self-then-fits : goal.invariant_of-self-then-fits
invariant_of-self-then-fits c =
    let d = c.self.inside in
    let new = c.keep.new.room in
    let items : (with_items d.room new).items ≡ new = with_items_is d.room new (omega arith) in
    let few = leb-true _ _ (sym c.if-fits.ensures) in
    let kept : take c.keep.result.0 (with_items d.room new).items ≡ take d.held d.room.items ++ unstuffed d.escaped c.args.run.now =
    ap (take c.keep.result.0) items ∙ (rw c.deref_mut.ensures.value at c.keep.ensures.kept) in
    record {
      room = rw items (omega (arith, c.self.invariant.room));
      within = omega (arith, c.self.invariant.within);
      dropped = λ past. absurd (both_ways _ c.if-self.false past);
      running =
          c.keep.ensures.running
          ∙ ap (λ n. fcs_run n (unstuffed d.escaped c.args.run.now)) c.self.invariant.running
          ∙ sym (ap (fcs_run 0xffff) kept ∙ fcs_run-append 0xffff (take d.held d.room.items) (unstuffed d.escaped c.args.run.now));
      lent = c.self.invariant.lent;
    }
