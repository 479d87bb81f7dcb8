-- A link that closes under a grant isn't the last.
use Rattle.std.proofs.Common.{◌≡◌, ◌∙◌, ◌==◌, ℕ, Bool, true, false, Option, Some, None, eq-eqb, ⊎_elim, ap, ap₂, refl, sym, subst}
use Rattle.std.specs.Prelude.{if◌then◌else◌}
use Rattle.std.proofs.lemmas.Bool.{and_parts, both_ways, cases_eq}
use Rattle.ppp_bap.specs.declared.bap_ask.BapAsk.{BapAsk}
use Rattle.ppp_bap.specs.declared.bap_ask.BapAsk.TheVariants.{Call, Callback, Drop}
use Rattle.ppp_pair.specs.Close.{Closes, ClosesSo, IsClosing, IsKept, Kept, SoCloses}
use Rattle.ppp_pair.specs.Pair.{Pair, Response, Waiting, at_first, closes, follows, grants, has_staying, hears, is_coming, is_response_to, run, seen, start, takes_response, with_link}
use Rattle.ppp_pair.specs.Response.{Ack, DropResponse, FullNak, Nak, Rej, ResponseCode, ResponseType, response_type, same_type}
use Rattle.ppp_pair.proofs.Invariant.{Holds}
use Rattle.ppp_pair.proofs.LinkLemmas.{is_beside, link_at, link_else}
use Rattle.ppp_pair.proofs.PacketLemmas.{type_is}
use Rattle.ppp_pair.proofs.Runs.{every_holds, matches_ordinal}

-- ---- what it takes, step by step

record FollowsSo (s : Pair) (what : BapAsk) (l : ℕ) : Type 0 where
  drop : what ≡ Drop l
  stays : has_staying l s.a ≡ true

follows_so : (s : Pair) (w : Waiting) (what : BapAsk) (l : ℕ) → s.a.joined l ≡ true → (follows what (grants w s)).a.joined l ≡ false → FollowsSo s what l
follows_so s w Call l j left = absurd (both_ways (s.a.joined l) left j)
follows_so s w Callback l j left = absurd (both_ways (s.a.joined l) left j)
follows_so s w (Drop m) l j left = by (has_staying m s.a) refl left where
  closed : has_staying m s.a ≡ true → with_link s.a.joined m false l ≡ false → FollowsSo s (Drop m) l
  closed stays gone = ⊎_elim
      (λ (same : l ≡ m). record { drop = ap (λ (k : ℕ). Drop k) (sym same); stays = subst (λ k. has_staying k s.a ≡ true) (sym same) stays })
      (λ n. absurd (both_ways (s.a.joined l) (sym (link_else s.a.joined m false l n) ∙ gone) j)) (cases_eq l m)

  by : (b : Bool) → has_staying m s.a ≡ b → (if b then closes m (grants w s) else grants w s).a.joined l ≡ false → FollowsSo s (Drop m) l
  by true stays gone = closed stays gone
  by false stays gone = absurd (both_ways (s.a.joined l) gone j)

record HearsSo (s : Pair) (w : Waiting) (code : ResponseCode) (l : ℕ) : Type 0 where
  ack : code ≡ Ack
  follows : FollowsSo s w.what l

hears_so : (s : Pair) (w : Waiting) (code : ResponseCode) (l : ℕ) → s.a.joined l ≡ true → (hears w code s).a.joined l ≡ false → HearsSo s w code l
hears_so s w Ack l j left = record { ack = refl; follows = follows_so s w w.what l j left }
hears_so s w Nak l j left = absurd (both_ways (s.a.joined l) left j)
hears_so s w Rej l j left = absurd (both_ways (s.a.joined l) left j)
hears_so s w FullNak l j left = absurd (both_ways (s.a.joined l) left j)

record TakesSo (s : Pair) (n : ℕ) (t : ResponseType) (code : ResponseCode) (l : ℕ) : Type 0 where
  request : Waiting
  waits : s.a.waiting ≡ Some request
  counts : is_response_to request n t ≡ true
  hears : HearsSo s request code l

takes_so : (s : Pair) (n : ℕ) (t : ResponseType) (code : ResponseCode) (l : ℕ) → s.a.joined l ≡ true →
    (takes_response s.a.waiting n t code s).a.joined l ≡ false → TakesSo s n t code l
takes_so s n t code l j left = by s.a.waiting refl left where
  one : (w : Waiting) (b : Bool) → s.a.waiting ≡ Some w → is_response_to w n t ≡ b → (if b then hears w code s else s).a.joined l ≡ false → TakesSo s n t code l
  one w true x is gone = record { request = w; waits = x; counts = is; hears = hears_so s w code l j gone }
  one w false x is gone = absurd (both_ways (s.a.joined l) gone j)

  by : (o : Option Waiting) → s.a.waiting ≡ o → (takes_response o n t code s).a.joined l ≡ false → TakesSo s n t code l
  by None x gone = absurd (both_ways (s.a.joined l) gone j)
  by (Some w) x gone = one w (is_response_to w n t) x refl gone

record ComesSo (s : Pair) (n : ℕ) (t : ResponseType) (code : ResponseCode) (l : ℕ) : Type 0 where
  coming : is_coming (Response n t code) s.a ≡ true
  takes : TakesSo s n t code l

comes_so : (s : Pair) (n : ℕ) (t : ResponseType) (code : ResponseCode) (l : ℕ) → Closes s n t code l → ComesSo s n t code l
unfolding at_first
comes_so s n t code l c = by (is_coming (Response n t code) s.a) refl c.left where
  by : (b : Bool) → is_coming (Response n t code) s.a ≡ b → (if b then takes_response s.a.waiting n t code s else s).a.joined l ≡ false → ComesSo s n t code l
  by true is gone = record { coming = is; takes = takes_so s n t code l c.joined gone }
  by false is gone = absurd (both_ways (s.a.joined l) gone c.joined)

abbrev waiting : ℕ → BapAsk → Waiting
waiting n what = record { ordinal = n; what = what }

waiting_is : (w : Waiting) (n : ℕ) (what : BapAsk) → w.ordinal ≡ n → w.what ≡ what → w ≡ record { ordinal = n; what = what }
waiting_is w n what o d = ap₂ waiting o d

pub closes_so : (s : Pair) (n : ℕ) (t : ResponseType) (code : ResponseCode) (l : ℕ) → Closes s n t code l → IsClosing s n l × (t ≡ DropResponse) × (code ≡ Ack)
closes_so s n t code l c =
    let comes = comes_so s n t code l c in
    let takes = comes.takes in
    let w = takes.request in
    let hears = takes.hears in
    let drop : w.what ≡ Drop l = hears.follows.drop in
    let ordinal : w.ordinal ≡ n = matches_ordinal w n t takes.counts in
    let typed : response_type w.what ≡ t = type_is (response_type w.what) t (and_parts (w.ordinal == n) (same_type (response_type w.what) t) takes.counts).1 in
    let type : t ≡ DropResponse = sym typed ∙ ap response_type drop in
    let ack : code ≡ Ack = hears.ack in (
      record {
        waits = takes.waits ∙ ap (λ (x : Waiting). Some x) (waiting_is w n (Drop l) ordinal drop);
        granted = subst (λ u. is_coming (Response n u Ack) s.a ≡ true) type (subst (λ x. is_coming (Response n t x) s.a ≡ true) ack comes.coming);
        stays = hears.follows.stays;
      },
      type,
      ack,
    )

-- ---- what stays

pub closing_kept : (s : Pair) (n l : ℕ) → Holds s → IsClosing s n l → IsKept s l
closing_kept s n l h c =
    let beside = is_beside l s.a c.stays in
    record {
      link = beside.link;
      other = beside.other;
      joined = beside.joined;
      unmarked = beside.unmarked;
      unclosed = h.of_a.unclosed beside.link beside.joined beside.unmarked;
    }

pub so_closes : (s : Pair) (n l : ℕ) → Holds s → IsClosing s n l → Closes s n DropResponse Ack l
unfolding at_first
so_closes s n l h c =
    let w : Waiting = record { ordinal = n; what = Drop l } in
    let counts : (n == n) ≡ true = eq-eqb n n refl in
    record {
      joined = h.of_a.there w l c.waits refl;
      left = rw (c.granted, c.waits, counts, c.stays) (link_at s.a.joined l false);
    }

pub kept : Kept
kept es side n t code l c = closing_kept (seen side (run es start)) n l (every_holds es side) (closes_so (seen side (run es start)) n t code l c).0

pub closes_only_so : ClosesSo
closes_only_so es side n t code l c = closes_so (seen side (run es start)) n t code l c

pub closes_if_so : SoCloses
closes_if_so es side n l c = so_closes (seen side (run es start)) n l (every_holds es side) c
