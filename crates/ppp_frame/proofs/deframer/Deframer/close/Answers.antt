use Rattle.std.proofs.Common.{◌≡◌, Ok, Option, Some, take, length, ap, sym, ◌∙◌, arith, length-take, ℕ}
use Rattle.ppp_frame.specs.Deframer.{DeframerState, LiesWithin, lent_seen, verdict_seen}
use Rattle.ppp_frame.specs.Header.{Read}
use Rattle.ppp_frame.specs.Standing.{fresh, verdict_at}
use Rattle.ppp_frame.specs.Verdict.{Reader, frame_in, verdict_of}
use Rattle.ppp_frame.proofs.VerdictLemmas.{lent_frame}
use Rattle.ppp_frame.proofs.deframer.Deframer.close.Goals as goal
use Rattle.ppp_frame.proofs.deframer.Deframer.close.Goals.{then-self, else-self+then-self-2, else-self+else-self-2}

pub returns-in-Ok-clause-left : goal.returns-in-Ok-clause-left
returns-in-Ok-clause-left c =
    let d = c.self.inside in
    let l = c.in-Ok.lent in
    let r : Reader = record { limit = d.limit; ac = d.ac; pf = d.pf } in
    let shown : Option Read → DeframerState = λ f. record { reader = r; standing = fresh; frame = f } in
    let frame : Some (lent_seen d.room.items l) ≡ frame_in (verdict_at r (record { plain = take d.held d.room.items; past = d.past; escaped = d.escaped })) =
    elim c.if-self.branch [
      | then-self w ↦ absurd (cc (w.judged-is, c.in-Ok.is))
      | else-self+then-self-2 w ↦ absurd (cc (w.judged-is, c.in-Ok.is))
      | else-self+else-self-2 w ↦
          let same : w.judge.result ≡ Ok l = sym w.judged-is ∙ c.in-Ok.is in
          let verdict : verdict_seen (take d.held d.room.items) (Ok l) ≡ verdict_of d.ac d.pf (take d.held d.room.items) =
          ap (verdict_seen (take d.held d.room.items)) (sym same) ∙ (rw w.deref.ensures.value at w.judge.ensures.verdict) in
          let within : LiesWithin (length (take d.held w.deref.result.now)) l = rw same at w.judge.ensures.within in
          lent_frame r d.room.items d.held d.past d.escaped l w.if-self-2.false w.if-self.false within.0
          (omega (arith, length-take {A = ℕ})) verdict
    ] in
    rw (← c.self.view_is) (ap shown frame)
