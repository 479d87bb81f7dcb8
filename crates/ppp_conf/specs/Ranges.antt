-- What settings that were read keep: the ranges that LCP's options want, and the rules.
use Rattle.std.specs.Prelude.{◌≡◌, true, false, length, is_some}
use Rattle.ppp_packet.specs.DiscClass.{is_good_disc, is_within}
use Rattle.ppp_conf.specs.EndConfig.{EndSettings}
use Rattle.ppp_conf.specs.Config.{Settings}
use Rattle.ppp_conf.specs.Form.{is_zero_or}
use Rattle.ppp_conf.specs.Rules.{broken}

pub record IsInRange (s : EndSettings) : Type 0 where
  pub mru : is_within 128 8192 s.mru ≡ true
  pub mrru : is_zero_or 1500 8192 s.mrru ≡ true
  pub classes : is_within 0 16 s.classes ≡ true
  pub disc : is_good_disc s.disc.0 (length s.disc.1) ≡ true
  pub rules : is_some (broken s.short s.classes s.most s.least s.bap s.mrru s.favored s.link_disc) ≡ false

pub record AreInRange (s : Settings) : Type 0 where
  pub of_a : IsInRange s.a
  pub of_b : IsInRange s.b
