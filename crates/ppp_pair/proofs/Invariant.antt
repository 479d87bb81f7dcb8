-- What holds of two ends in every state of a run.
use Rattle.std.proofs.Common.{◌≡◌, ◌≤◌, ◌<◌, ◌⊎◌, ℕ, true, false, List, Contains, Some}
use Rattle.std.specs.List.{AllByRecursion}
use Rattle.ppp_bap.specs.declared.bap_ask.BapAsk.{BapAsk}
use Rattle.ppp_bap.specs.declared.bap_ask.BapAsk.TheVariants.{Drop}
use Rattle.ppp_pair.specs.Crossing.{HasGranted, IsBefore}
use Rattle.ppp_pair.specs.Pair.{Asked, Deed, End, Granted, Key, Packet, Pair, Request, Response, Took, Waiting, key_of}
use Rattle.ppp_pair.specs.Response.{ResponseCode, ResponseType, Ack, response_type}
use Rattle.ppp_pair.proofs.PastLemmas.{AreFree}

-- a copy of it was taken and granted
abbrev pub HasAcked : Key → List Deed → Type 0
HasAcked k past = Contains past (Took k Ack)

-- it is a request of the end's own
abbrev pub IsOwn : Key → List Deed → Type 0
IsOwn k past = Contains past (Asked k) ⊎ Contains past (Granted k)

-- of an earlier life, or of this one and drawn
abbrev pub IsDrawn : End → Key → Type 0
IsDrawn e k = (k.boots < e.boots) ⊎ ((k.boots ≡ e.boots) × (k.ordinal ≤ e.drawn))

-- it waits for its response
pub record Waits (e : End) (k : Key) : Type 0 where
  pub request : Waiting
  pub waits : e.waiting ≡ Some request
  pub key : key_of e request.ordinal ≡ k

-- the end promised that the link goes, or it left and the other end has had it ever since
abbrev pub IsHeld : End → ℕ → Type 0
IsHeld e l = (e.marked l ≡ true) ⊎ (e.barred l ≡ true)

-- a request under way from the end
pub record IsRequestSound (from : End) (n : ℕ) (what : BapAsk) : Type 0 where
  pub drawn : n ≤ from.drawn
  pub newest : (w : Waiting) → from.waiting ≡ Some w → n ≤ w.ordinal
  pub same : (w : Waiting) → from.waiting ≡ Some w → w.ordinal ≡ n → w.what ≡ what

-- a response under way to an end from the other
pub record IsResponseSound (to from : End) (n : ℕ) (t : ResponseType) (code : ResponseCode) : Type 0 where
  pub drawn : n ≤ to.drawn
  pub newest : (w : Waiting) → to.waiting ≡ Some w → n ≤ w.ordinal
  pub type : (w : Waiting) → to.waiting ≡ Some w → w.ordinal ≡ n → response_type w.what ≡ t
  pub acked : code ≡ Ack → HasAcked (key_of to n) from.past
  pub held : code ≡ Ack → (w : Waiting) (l : ℕ) → to.waiting ≡ Some w → w.ordinal ≡ n → w.what ≡ Drop l → IsHeld from l

abbrev pub IsSound : End → End → Packet → Type 0
IsSound to from (Request n what) = IsRequestSound from n what
IsSound to from (Response n t code) = IsResponseSound to from n t code

-- of an end `e`, where `f` is the other one
pub record Half (e f : End) : Type 0 where
  pub drawn : (k : Key) → IsOwn k e.past → IsDrawn e k
  pub waits : (w : Waiting) → e.waiting ≡ Some w → w.ordinal ≤ e.drawn
  pub unwaited : (p q : Key) → IsBefore q p e.past → HasAcked p e.past → Waits e q → ⊥
  pub there : (w : Waiting) (l : ℕ) → e.waiting ≡ Some w → w.what ≡ Drop l → e.joined l ≡ true
  pub marked : (l : ℕ) → e.marked l ≡ true → e.joined l ≡ true
  pub barred : (l : ℕ) → e.barred l ≡ true → e.joined l ≡ false
  pub since : (l : ℕ) → e.barred l ≡ true → f.joined l ≡ true
  pub unclosed : (l : ℕ) → e.joined l ≡ true → e.marked l ≡ false → e.closed l ≡ false
  pub granted : (k : Key) → HasGranted k e.past → HasAcked k f.past
  pub coming : AllByRecursion (IsSound e f) e.coming

pub record Holds (p : Pair) : Type 0 where
  pub of_a : Half p.a p.b
  pub of_b : Half p.b p.a
  pub free : AreFree p.a.past p.b.past
