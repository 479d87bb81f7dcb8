-- Discriminators that are the same are equal, and one of two that differ is the lesser; keys that are like a third are alike.
use Rattle.std.proofs.Common.{◌≡◌, ◌≢◌, ℕ, Bool, true, false, not, ◌&&◌, List, [], ◌∷◌, refl, ap, sym, ◌∙◌, arith}
use Rattle.std.specs.Prelude.{Option, Some, None, ◌==◌}
use Rattle.std.specs.Bool.{beq}
use Rattle.std.specs.declared.cmp.Ordering.{Ordering}
use Rattle.std.specs.declared.cmp.Ordering.TheVariants.{Less, Equal, Greater}
use Rattle.std.specs.Ordering.{is_eq, is_lt, nat_cmp, ordering_reverse, ordering_then}
use Rattle.std.specs.Cmp.Lexicographic.{nat_list_cmp_total, slice_cmp}
use Rattle.std.proofs.lemmas.Bool.Decides.{nat_tests}
use Rattle.ppp_bundle.specs.JoinKey.{Key, Terms, are_like, are_like_terms, is_of_one_end, is_same_disc, is_senior, lacks_disc, lacks_mrru, may_join, mirrored, number_of, numbered_by}

pub both-true : (a b : Bool) → (a && b) ≡ true → (a ≡ true) × (b ≡ true)
both-true true b h = (refl, h)
both-true false b h = absurd (cc)

same-then : (o p : Ordering) → is_eq (ordering_then o p) ≡ true → (is_eq o ≡ true) × (is_eq p ≡ true)
same-then Less p h = absurd (cc)
same-then Equal p h = (refl, h)
same-then Greater p h = absurd (cc)

same-number : (x y : ℕ) → is_eq (nat_cmp x y) ≡ true → x ≡ y
same-number x y h = grind (arith, nat_tests)

number-self : (x : ℕ) → nat_cmp x x ≡ Equal
number-self x = grind (arith, nat_tests)

pub disc-same : (d e : List ℕ) → is_same_disc d e ≡ true → d ≡ e
disc-same [] [] h = refl
disc-same [] (y ∷ ys) h = absurd (cc)
disc-same (x ∷ xs) [] h = absurd (cc)
disc-same (x ∷ xs) (y ∷ ys) h =
    let parts = same-then (nat_cmp x y) (slice_cmp nat_cmp xs ys) h in
    let first = same-number x y parts.0 in
    let rest = disc-same xs ys parts.1 in
    cc

pub disc-self : (d : List ℕ) → is_same_disc d d ≡ true
disc-self [] = refl
disc-self (x ∷ xs) = rw (number-self x) (disc-self xs)

pub disc-other : (d e : List ℕ) → is_same_disc d e ≡ false → d ≢ e
disc-other d e h same =
    let k : is_same_disc d d ≡ false = ap (is_same_disc d) same ∙ h in
    let s = disc-self d in
    absurd (cc)

pub not-same : (d e : List ℕ) (b : Bool) → is_same_disc e d ≡ b → d ≢ e → b ≡ false
not-same d e false h other = refl
not-same d e true h other = absurd (other (sym (disc-same e d h)))

-- whichever stands first
pub disc-turned : (d e : List ℕ) → is_same_disc d e ≡ false → is_same_disc e d ≡ false
disc-turned d e h = not-same d e (is_same_disc e d) refl (disc-other d e h)

lesser-by : (o : Ordering) → is_eq (ordering_reverse o) ≡ false → is_lt (ordering_reverse o) ≡ not (is_lt o)
lesser-by Less h = refl
lesser-by Equal h = absurd (cc)
lesser-by Greater h = refl

-- exactly one end is the senior
pub senior-mirrored : (k : Key) → is_of_one_end k ≡ false → is_senior k ≡ not (is_senior (mirrored k))
senior-mirrored k h =
    let turned : slice_cmp nat_cmp k.mine.disc k.peer.disc ≡ ordering_reverse (slice_cmp nat_cmp k.peer.disc k.mine.disc) = nat_list_cmp_total.antisymm k.mine.disc k.peer.disc in
    let differ : is_eq (ordering_reverse (slice_cmp nat_cmp k.peer.disc k.mine.disc)) ≡ false = ap is_eq (sym turned) ∙ h in
    ap is_lt turned ∙ lesser-by (slice_cmp nat_cmp k.peer.disc k.mine.disc) differ

numbered-turned : (senior : Bool) (one other : Option ℕ) → numbered_by senior one other ≡ numbered_by (not senior) other one
numbered-turned true None None = refl
numbered-turned true None (Some y) = refl
numbered-turned true (Some x) None = refl
numbered-turned true (Some x) (Some y) = refl
numbered-turned false None None = refl
numbered-turned false None (Some y) = refl
numbered-turned false (Some x) None = refl
numbered-turned false (Some x) (Some y) = refl

-- both ends give a link the same number
pub number-mirrored : (senior : Bool) (k : Key) → number_of senior (mirrored k) ≡ number_of (not senior) k
number-mirrored senior k = numbered-turned senior k.peer.link_disc k.mine.link_disc

-- ---- keys that may join

pub may-join : (k : Key) → lacks_mrru k ≡ false → lacks_disc k ≡ false → is_of_one_end k ≡ false → may_join k ≡ true
may-join k mrru disc ends = rw (mrru, disc, ends) refl

not-true : (b : Bool) → not b ≡ true → b ≡ false
not-true false h = refl
not-true true h = absurd (cc)

pub may-differ : (k : Key) → may_join k ≡ true → is_of_one_end k ≡ false
may-differ k may = grind (arith, both-true, not-true)

-- ---- keys that are alike

record AreSame (t u : Terms) : Type 0 where
  pub mrru : t.mrru ≡ u.mrru
  pub short : t.short ≡ u.short
  pub classes : t.classes ≡ u.classes

flag-same : (a b : Bool) → beq a b ≡ true → a ≡ b
flag-same true true h = refl
flag-same true false h = absurd (cc)
flag-same false true h = absurd (cc)
flag-same false false h = refl

flag-self : (a : Bool) → beq a a ≡ true
flag-self true = refl
flag-self false = refl

plain-same : (x y : ℕ) → (x == y) ≡ true → x ≡ y
plain-same x y h = grind (arith, nat_tests)

plain-self : (x : ℕ) → (x == x) ≡ true
plain-self x = grind (arith, nat_tests)

same-terms : (t u : Terms) → are_like_terms t u ≡ true → AreSame t u
same-terms t u h = record {
  mrru = plain-same t.mrru u.mrru (grind (arith, both-true));
  short = flag-same t.short u.short (grind (arith, both-true));
  classes = plain-same t.classes u.classes (grind (arith, both-true));
}

like-terms : (t u : Terms) → AreSame t u → are_like_terms t u ≡ true
like-terms t u h = rw (h.mrru, h.short, h.classes, plain-self u.mrru, flag-self u.short, plain-self u.classes) refl

pub like-self : (k : Key) → are_like k k ≡ true
like-self k =
    let mine = like-terms k.mine k.mine (record { mrru = refl; short = refl; classes = refl }) in
    let peer = like-terms k.peer k.peer (record { mrru = refl; short = refl; classes = refl }) in
    rw (mine, peer) refl

like-both : (k m n : Terms) → are_like_terms m k ≡ true → are_like_terms m n ≡ true → are_like_terms k n ≡ true
like-both k m n one other =
    let a = same-terms m k one in
    let b = same-terms m n other in
    like-terms k n (record { mrru = sym a.mrru ∙ b.mrru; short = sym a.short ∙ b.short; classes = sym a.classes ∙ b.classes })

-- two that are like a third are alike
pub like-third : (k m n : Key) → are_like m k ≡ true → are_like m n ≡ true → are_like k n ≡ true
like-third k m n one other =
    let a = both-true (are_like_terms m.mine k.mine) (are_like_terms m.peer k.peer) one in
    let b = both-true (are_like_terms m.mine n.mine) (are_like_terms m.peer n.peer) other in
    rw (like-both k.mine m.mine n.mine a.0 b.0, like-both k.peer m.peer n.peer a.1 b.1) refl
