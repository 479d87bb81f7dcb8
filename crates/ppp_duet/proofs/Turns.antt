-- What one event means for an end that has left Opened and may enter it again.
use Rattle.std.proofs.Common.{◌≡◌, ◌≤◌, ◌⊎◌, inl, inr, true, false, List, arith}
use Rattle.ppp_auto.specs.Auto.{is_heard, is_opened}
use Rattle.ppp_duet.specs.Duet.{End, Marked}
use Rattle.ppp_duet.specs.Terms.{Terms}
use Rattle.ppp_duet.specs.Reopening.{is_low}
use Rattle.ppp_duet.proofs.EventTableLemmas.{low_not_opened, opened_heard}
use Rattle.ppp_duet.proofs.Moves.{Move}
use Rattle.ppp_duet.specs.Reopening.{Away}

-- in one event `e` became `e'`, and `f` became `f'`
pub record Turn (e f e' f' : End) : Type 0 where
  pub left : is_opened e.auto.state ≡ true → (is_opened e'.auto.state ≡ true) ⊎ Away e' f'
  pub onward : Away e f → (is_opened f.auto.state ≡ false) ⊎ (is_opened f'.auto.state ≡ false) ⊎ Away e' f'
  pub enters : Away e f → is_opened e'.auto.state ≡ true → ⊥

module _ (tx ty : Terms) where
  -- the end itself moved
  pub turn_mine : (x y x' : End) (sent : List Marked) → y.got ≤ x.n → Move tx ty x y x' sent → Turn x y x' y
  turn_mine x y x' sent below m = record {
    left = λ opened. let k = m.left opened in grind arith;
    onward = λ away. let k = m.low in let more = m.more in grind arith;
    enters = λ away opened. let k = m.low in let more = m.more in let heard = m.heard in grind (arith, low_not_opened, opened_heard);
  }

  -- the other end moved
  pub turn_other : (x y x' : End) (sent : List Marked) → (is_heard y.auto.state ≡ true → x.got ≡ y.n) → Move tx ty x y x' sent → Turn y x y x'
  turn_other x y x' sent heard m = record {
    left = λ opened. inl opened;
    onward = λ away. let k = m.took in grind arith;
    enters = λ away opened. grind (arith, low_not_opened, opened_heard);
  }

-- an end comes into a low state, whatever becomes of the other
pub turn_low : (e f e' f' : End) → is_low e'.auto.state ≡ true → Turn e f e' f'
turn_low e f e' f' low = record {
  left = λ _. inr (inr low);
  onward = λ _. inr (inr (inr low));
  enters = λ _ opened. let not : is_opened e'.auto.state ≡ false = low_not_opened e'.auto.state low in cc;
}
