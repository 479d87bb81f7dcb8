-- When a peer's request is granted, and with which link.
use Rattle.std.specs.Prelude.{◌≡◌, ◌<◌, ℕ, Bool, true, false, Option, Some, is_some}
use Rattle.ppp_bap.specs.BundleView.{is_idle, joined_count, leaves_too_few, link_numbered, spare_link}
use Rattle.ppp_bap.specs.LinkSet.{least_link}
use Rattle.ppp_bap.specs.declared.bundle_view.BundleView.{BundleView}

-- a call, with the least idle link
pub record IsCallGranted (allowed : Bool) (v : BundleView) (l : ℕ) : Type 0 where
  pub calls : v.calls ≡ true
  pub wanted : joined_count v < v.most
  pub least : least_link (is_idle v) ≡ Some l
  pub said : allowed ≡ true

-- a callback, with the link that it names
pub record IsCallbackGranted (allowed : Bool) (v : BundleView) (link : Option ℕ) (l : ℕ) : Type 0 where
  pub callbacks : v.callbacks ≡ true
  pub wanted : is_some (spare_link v) ≡ true
  pub named : link ≡ Some l
  pub idle : is_idle v l ≡ true
  pub said : allowed ≡ true

-- a drop, of the least joined link with that number
pub record IsDropGranted (v : BundleView) (number l : ℕ) : Type 0 where
  pub numbered : link_numbered number v ≡ Some l
  pub stays : leaves_too_few l v ≡ false
