-- Two Opened ends agree.
use Rattle.std.proofs.Common.{◌≡◌, ⊎_elim, List, sym}
use Rattle.ppp_packet.specs.ConfigOption.{ConfigOption}
use Rattle.ppp_auto.specs.declared.auto_state.AutoState.TheVariants.{Opened}
use Rattle.ppp_duet.specs.Agreement.{Agree}
use Rattle.ppp_duet.specs.Duet.{Duet, End, Event, Marked, run, start}
use Rattle.ppp_duet.specs.NarrowRun.{IsNarrowRun}
use Rattle.ppp_duet.specs.Terms.{Terms}
use Rattle.ppp_duet.proofs.Events.{run_holds, start_holds}
use Rattle.ppp_duet.proofs.Invariant.{Half, Holds}
use Rattle.ppp_duet.proofs.NarrowRunLemmas.{where_taken}
use Rattle.ppp_duet.proofs.TermsLemmas.{Used}

-- the end `f` acknowledged the last list of `e`
record Granted (te tf : Terms) (e f : End) : Type 0 where
  got : f.got ≡ e.n
  peer : f.auto.peer ≡ e.auto.own
  allowed : tf.allows f.against e.auto.own

granted : (te tf : Terms) (e f : End) (out back : List Marked) → Half te tf e f out back → e.auto.state ≡ Opened → f.auto.state ≡ Opened → Granted te tf e f
granted te tf e f out back h opened_e opened_f =
    let got : f.got ≡ e.n = h.heard (rw opened_e) in
    let peer = h.knows (rw opened_f) got in
    record { got = got; peer = peer; allowed = rw peer at (h.allowed (rw opened_f)) }

module _ (compat : List ConfigOption → List ConfigOption → Type 0) (ta tb : Terms) (used_a : Used compat ta) (used_b : Used compat tb) where
  -- it reads off the invariant
  pub opened_agree : (d : Duet) → Holds ta tb d → d.a.auto.state ≡ Opened → d.b.auto.state ≡ Opened → Agree ta.keeps tb.keeps ta.allows tb.allows compat d
  opened_agree d h opened_a opened_b =
      let of_a = granted ta tb d.a d.b d.to_b d.to_a h.of_a opened_a opened_b in
      let of_b = granted tb ta d.b d.a d.to_a d.to_b h.of_b opened_b opened_a in
      record {
        a_acked = sym of_a.peer;
        b_acked = sym of_b.peer;
        a_sends = h.of_a.keeps_own;
        b_sends = h.of_b.keeps_own;
        b_allows = of_a.allowed;
        a_allows = of_b.allowed;
        fits = ⊎_elim
            (λ e. used_a.fits d.a.auto.own d.b.auto.own h.of_a.keeps_own (rw e at of_b.allowed))
            (λ e. used_b.fits_both d.b.auto.own d.a.auto.own (used_b.fits d.b.auto.own d.a.auto.own h.of_b.keeps_own (rw e at of_a.allowed)))
            (h.judged (rw opened_a) (rw opened_b) of_b.got of_a.got);
      }

  pub agreement : (es : List Event) → let d = run ta.setup tb.setup es (start ta.setup tb.setup) in
      IsNarrowRun ta.setup tb.setup es (start ta.setup tb.setup) → d.a.auto.state ≡ Opened → d.b.auto.state ≡ Opened → Agree ta.keeps tb.keeps ta.allows tb.allows compat d
  agreement es narrow =
      let first = start ta.setup tb.setup in
      opened_agree (run ta.setup tb.setup es first)
      (run_holds compat ta tb used_a used_b es first (where_taken ta.setup tb.setup es first narrow) (start_holds compat ta tb used_a used_b))
