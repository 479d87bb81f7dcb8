-- The walk over a request's options, one after another.
use Rattle.std.proofs.Common.{◌≡◌, ◌≢◌, ℕ, ◌<◌, ◌⊎◌, Bool, true, false, ◌||◌, ◌&&◌, ◌==◌, if◌then◌else◌, List, [], ◌∷◌, ◌++◌, length, get_or, set, replicate, Option, Some, None, refl, ap, sym, ◌∙◌, arith, append_assoc, append-nil, inl, inr}
use Rattle.std.specs.Option.{option_to_list}
use Rattle.std.proofs.lemmas.Grind.{flat_map-append}
use Rattle.std.proofs.lemmas.List.{get_or-replicate, get_or-set_same, get_or-set_other, length-set}
use Rattle.std.proofs.lemmas.List.Folds.{list_any-append}
use Rattle.std.proofs.lemmas.Bool.Decides.{eqb_tells}
use Rattle.std.proofs.Math.Bool.{or-false, or-true}
use Rattle.ppp_packet.specs.ConfigOption.{ConfigOption}
use Rattle.ppp_auto.specs.declared.front.Front.{Front}
use Rattle.ppp_auto.specs.declared.judged.Judged.{Judged}
use Rattle.ppp_auto.specs.declared.verdict.Verdict.{Verdict}
use Rattle.ppp_auto.specs.declared.verdict.Verdict.TheVariants.{Good, Bad, Unknown}
use Rattle.ppp_auto.specs.Front.{IsFront, PutsBehind}
use Rattle.ppp_auto.specs.Judged.{AreJudged, collected, CorrectsOne, IsJudged, IsSettled, JudgesOne, RefusesOne}
use Rattle.ppp_auto.specs.Reply.{bad_of, better_of, has_kind, has_options, is_refused, rejected, suggested, unacceptable}

-- the kinds that were seen are those of the options so far
pub record AreSeen (seen : List Bool) (earlier : List ConfigOption) : Type 0 where
  pub many : length seen ≡ 256
  pub each : (kind : ℕ) → kind < 256 → get_or seen kind false ≡ has_kind kind earlier

none_seen : AreSeen (replicate 256 false) []
none_seen = record { many = refl; each = λ kind h. get_or-replicate 256 kind false false h }

seen-same : (seen : List Bool) (kind new : ℕ) (b r : Bool) → new < length seen → r ≡ true → new ≡ kind → get_or (set seen new true) kind false ≡ (b || r)
seen-same seen kind new b r h t e = rw (← e, t, or-true b) (get_or-set_same seen new true false h)

seen-other : (seen : List Bool) (kind new : ℕ) (b r : Bool) → r ≡ false → new ≢ kind → get_or seen kind false ≡ b → get_or (set seen new true) kind false ≡ (b || r)
seen-other seen kind new b r f n e = rw (f, or-false b) (get_or-set_other seen new kind true false (λ x. n (sym x)) ∙ e)

seen-at : (seen : List Bool) (kind new : ℕ) (b : Bool) → new < length seen → get_or seen kind false ≡ b → get_or (set seen new true) kind false ≡ (b || (new == kind))
seen-at seen kind new b h e =
    elim (eqb_tells new kind) as (λ _. get_or (set seen new true) kind false ≡ (b || (new == kind))) [
      | inl p ↦ seen-same seen kind new b (new == kind) h p.0 p.1
      | inr p ↦ seen-other seen kind new b (new == kind) p.0 p.1 e
    ]

one_seen : (seen : List Bool) (earlier : List ConfigOption) (o : ConfigOption) → o.kind < 256 → AreSeen seen earlier → AreSeen (set seen o.kind true) (earlier ++ o ∷ [])
one_seen seen earlier o h s = record {
  many = length-set seen o.kind true ∙ s.many;
  each = λ kind k.
      seen-at seen kind o.kind (has_kind kind earlier) (omega (arith, s.many)) (s.each kind k)
      ∙ sym (list_any-append (λ x. x.kind == kind) earlier (o ∷ []) ∙ ap (λ (r : Bool). has_kind kind earlier || r) (or-false (o.kind == kind)));
}

-- what an option adds to the lists
cons-if : (b : Bool) (x : ConfigOption) (whole front tail : List ConfigOption) → whole ≡ front ++ tail → (if b then x ∷ whole else whole) ≡ (if b then x ∷ front else front) ++ tail
cons-if true x whole front tail e = ap (λ (os : List ConfigOption). x ∷ os) e
cons-if false x whole front tail e = e

rejected-snoc : (judge : ConfigOption → Verdict) (earlier list : List ConfigOption) (o : ConfigOption) →
    rejected judge earlier (list ++ o ∷ []) ≡ rejected judge earlier list ++ (if has_kind o.kind (earlier ++ list) || is_refused o (judge o) then o ∷ [] else [])
rejected-snoc judge earlier [] o = rw (append-nil earlier) refl
rejected-snoc judge earlier (x ∷ xs) o =
    cons-if (has_kind x.kind earlier || is_refused x (judge x)) x _ (rejected judge (earlier ++ x ∷ []) xs) _
    (rejected-snoc judge (earlier ++ x ∷ []) xs o
    ∙ ap (λ (os : List ConfigOption). rejected judge (earlier ++ x ∷ []) xs ++ (if has_kind o.kind os || is_refused o (judge o) then o ∷ [] else [])) (append_assoc earlier (x ∷ []) xs))

suggested-snoc : (judge : ConfigOption → Verdict) (list : List ConfigOption) (o : ConfigOption) → suggested judge (list ++ o ∷ []) ≡ suggested judge list ++ better_of (judge o)
suggested-snoc judge list o = flat_map-append (λ x. better_of (judge x)) list (o ∷ []) ∙ ap (λ (os : List ConfigOption). suggested judge list ++ os) (append-nil (better_of (judge o)))

unacceptable-snoc : (judge : ConfigOption → Verdict) (list : List ConfigOption) (o : ConfigOption) → unacceptable judge (list ++ o ∷ []) ≡ unacceptable judge list ++ bad_of o (judge o)
unacceptable-snoc judge list o = flat_map-append (λ x. bad_of x (judge x)) list (o ∷ []) ∙ ap (λ (os : List ConfigOption). unacceptable judge list ++ os) (append-nil (bad_of o (judge o)))

-- the walk: what was judged so far, and what is left
pub record Walks (judge : ConfigOption → Verdict) (spent : Bool) (theirs left : List ConfigOption) (seen : List Bool) (j : Judged) : Type 0 where
  pub earlier : List ConfigOption
  pub are_seen : AreSeen seen earlier
  pub whole : theirs ≡ earlier ++ left
  pub judged : AreJudged judge spent earlier j

pub walks_first : (judge : ConfigOption → Verdict) (spent : Bool) (theirs left : List ConfigOption) (j : Judged) → left ≡ theirs → IsJudged spent [] [] [] j → Walks judge spent theirs left (replicate 256 false) j
walks_first judge spent theirs left j e h = record { earlier = []; are_seen = none_seen; whole = sym e; judged = h }

pub walks_on : (judge : ConfigOption → Verdict) (spent : Bool) (theirs left behind : List ConfigOption) (seen : List Bool) (old new : Judged) (o : ConfigOption) (twice : Bool) (v : Verdict) →
    Walks judge spent theirs left seen old → left ≡ o ∷ behind → o.kind < 256 → v ≡ judge o → twice ≡ get_or seen o.kind false → JudgesOne old new twice o v → Walks judge spent theirs behind (set seen o.kind true) new
walks_on judge spent theirs left behind seen old new o twice v w e k is at one =
    let same : twice ≡ has_kind o.kind w.earlier = at ∙ w.are_seen.each o.kind k in
    let step = one spent (rejected judge [] w.earlier) (suggested judge w.earlier) (unacceptable judge w.earlier) w.judged in
    record {
      earlier = w.earlier ++ o ∷ [];
      are_seen = one_seen seen w.earlier o k w.are_seen;
      whole = w.whole ∙ (ap (λ (os : List ConfigOption). w.earlier ++ os) e ∙ sym (append_assoc w.earlier (o ∷ []) behind));
      judged = rw (rejected-snoc judge [] w.earlier o, suggested-snoc judge w.earlier o, unacceptable-snoc judge w.earlier o, ← same, ← is) step;
    }

pub walks_all : (judge : ConfigOption → Verdict) (spent : Bool) (theirs left : List ConfigOption) (seen : List Bool) (j : Judged) → Walks judge spent theirs left seen j → left ≡ [] → AreJudged judge spent theirs j
walks_all judge spent theirs left seen j w e =
    let all : theirs ≡ w.earlier = w.whole ∙ (ap (λ (os : List ConfigOption). w.earlier ++ os) e ∙ append-nil w.earlier) in
    rw all w.judged

-- an option that is rejected
pub refuses_one : (old new : Judged) (o : ConfigOption) → new.spent ≡ old.spent → new.refused ≡ true → (old.refused ≡ true → PutsBehind old.front new.front o) → (old.refused ≡ false → IsFront (o ∷ []) new.front) →
    RefusesOne old new o
refuses_one old new o s r more first spent [] better bad more' worse j alike = record {
  spends = s ∙ j.spends;
  refuses = r;
  suggests = λ n. cc;
  alike = alike;
  kept = first j.refuses;
}
refuses_one old new o s r more first spent (x ∷ xs) better bad more' worse j alike = record {
  spends = s ∙ j.spends;
  refuses = r;
  suggests = λ n. cc;
  alike = alike;
  kept = more j.refuses (x ∷ xs) j.kept;
}

not-nil : (xs : List ConfigOption) (x : ConfigOption) → xs ++ x ∷ [] ≡ [] → ⊥
not-nil [] x e = cc
not-nil (y ∷ ys) x e = cc

has-snoc : (xs : List ConfigOption) (x : ConfigOption) → true ≡ has_options (xs ++ x ∷ [])
has-snoc [] x = refl
has-snoc (y ∷ ys) x = refl

-- a bad option among such as are rejected
pub corrects_refused : (old new : Judged) (o other : ConfigOption) → new.spent ≡ old.spent → new.refused ≡ old.refused → old.refused ≡ true → new.front ≡ old.front → CorrectsOne old new o other
corrects_refused old new o other s r t f spent [] better bad j = let no : true ≡ false = sym t ∙ j.refuses in cc
corrects_refused old new o other s r t f spent (x ∷ xs) better bad j = record {
  spends = s ∙ j.spends;
  refuses = r ∙ j.refuses;
  suggests = λ n. cc;
  alike = λ n. absurd (not-nil better other n);
  kept = rw f j.kept;
}

collected-bad : (spent : Bool) (better bad : List ConfigOption) → spent ≡ true → collected spent [] better bad ≡ bad
collected-bad true better bad e = refl
collected-bad false better bad e = cc

collected-better : (spent : Bool) (better bad : List ConfigOption) → spent ≡ false → collected spent [] better bad ≡ better
collected-better true better bad e = cc
collected-better false better bad e = refl

-- the bad option itself is put
pub corrects_spent : (old new : Judged) (o other : ConfigOption) → new.spent ≡ old.spent → new.refused ≡ old.refused → new.bad ≡ true → old.refused ≡ false → old.spent ≡ true → PutsBehind old.front new.front o →
    CorrectsOne old new o other
corrects_spent old new o other s r b f t p spent (x ∷ xs) better bad j = let no : false ≡ true = sym f ∙ j.refuses in cc
corrects_spent old new o other s r b f t p spent [] better bad j =
    let is : spent ≡ true = sym j.spends ∙ t in
    record {
      spends = s ∙ j.spends;
      refuses = r ∙ j.refuses;
      suggests = λ n. b ∙ has-snoc better other;
      alike = λ n. absurd (not-nil better other n);
      kept = rw (collected-bad spent (better ++ other ∷ []) (bad ++ o ∷ []) is) (p bad (rw (collected-bad spent better bad is) at j.kept));
    }

-- what is suggested in its place is put
pub corrects_unspent : (old new : Judged) (o other : ConfigOption) → new.spent ≡ old.spent → new.refused ≡ old.refused → new.bad ≡ true → old.refused ≡ false → old.spent ≡ false → PutsBehind old.front new.front other →
    CorrectsOne old new o other
corrects_unspent old new o other s r b f t p spent (x ∷ xs) better bad j = let no : false ≡ true = sym f ∙ j.refuses in cc
corrects_unspent old new o other s r b f t p spent [] better bad j =
    let is : spent ≡ false = sym j.spends ∙ t in
    record {
      spends = s ∙ j.spends;
      refuses = r ∙ j.refuses;
      suggests = λ n. b ∙ has-snoc better other;
      alike = λ n. absurd (not-nil better other n);
      kept = rw (collected-better spent (better ++ other ∷ []) (bad ++ o ∷ []) is) (p better (rw (collected-better spent better bad is) at j.kept));
    }

-- one option, by its verdict
alike-one : (better bad : List ConfigOption) (o : ConfigOption) (v : Verdict) → (better ≡ [] → bad ≡ []) → better ++ better_of v ≡ [] → bad ++ bad_of o v ≡ []
alike-one better bad o Good h n = append-nil bad ∙ h (sym (append-nil better) ∙ n)
alike-one better bad o (Bad other) h n = absurd (not-nil better other n)
alike-one better bad o Unknown h n = append-nil bad ∙ h (sym (append-nil better) ∙ n)

pub judges_refused : (old new : Judged) (twice : Bool) (o : ConfigOption) (v : Verdict) → (twice || is_refused o v) ≡ true → RefusesOne old new o → JudgesOne old new twice o v
judges_refused old new twice o v t one spent refused better bad j =
    rw t (one spent refused better bad (better ++ better_of v) (bad ++ bad_of o v) j (alike-one better bad o v j.alike))

pub judges_bad : (old new : Judged) (twice : Bool) (o other : ConfigOption) (v : Verdict) → (twice || is_refused o v) ≡ false → v ≡ Bad other → CorrectsOne old new o other → JudgesOne old new twice o v
judges_bad old new twice o other v t e one spent refused better bad j =
    rw (t, append-nil refused, e) (one spent refused better bad j)

pub judges_good : (old new : Judged) (twice : Bool) (o : ConfigOption) (v : Verdict) → (twice || is_refused o v) ≡ false → better_of v ≡ [] → bad_of o v ≡ [] → new ≡ old → JudgesOne old new twice o v
judges_good old new twice o v t e f n spent refused better bad j = rw (t, e, f, n, append-nil refused, append-nil better, append-nil bad) j

-- whether options are rejected
pub nothing : (refused bad spent : Bool) → refused ≡ false → (bad ≡ false) ⊎ (spent ≡ false) → (refused || (bad && spent)) ≡ true → ⊥
nothing refused bad spent e h r = grind arith

pub something : (refused bad spent : Bool) → (refused ≡ true) ⊎ ((bad ≡ true) × (spent ≡ true)) → (refused || (bad && spent)) ≡ false → ⊥
something refused bad spent h r = grind arith

pub settles_rejecting : (spent : Bool) (refused better missing bad : List ConfigOption) (j : Judged) → IsJudged spent refused better bad j → (j.refused || (j.bad && j.spent)) ≡ true → IsSettled spent refused better missing bad j
settles_rejecting spent (x ∷ xs) better missing bad j h r = record { spends = h.spends; refuses = h.refuses; suggests = h.suggests; kept = h.kept }
settles_rejecting true [] (b ∷ bs) missing bad j h r = record { spends = h.spends; refuses = h.refuses; suggests = h.suggests; kept = h.kept }
settles_rejecting true [] [] missing bad j h r = absurd (nothing j.refused j.bad j.spent h.refuses (inl (h.suggests refl)) r)
settles_rejecting false [] better missing bad j h r = absurd (nothing j.refused j.bad j.spent h.refuses (inr h.spends) r)

pub settles_missing : (spent : Bool) (refused better missing bad : List ConfigOption) (old new : Judged) → IsJudged spent refused better bad old → (old.refused || (old.bad && old.spent)) ≡ false →
    new.spent ≡ old.spent → new.refused ≡ old.refused → new.bad ≡ old.bad → ((list : List ConfigOption) → IsFront list old.front → IsFront (list ++ missing) new.front) → IsSettled spent refused better missing bad new
settles_missing spent (x ∷ xs) better missing bad old new h r s f b p = absurd (something old.refused old.bad old.spent (inl h.refuses) r)
settles_missing true [] [] missing bad old new h r s f b p = record {
  spends = s ∙ h.spends;
  refuses = f ∙ h.refuses;
  suggests = λ n. b ∙ h.suggests n;
  kept = p [] (rw (h.alike refl) at h.kept);
}
settles_missing true [] (x ∷ xs) missing bad old new h r s f b p = absurd (something old.refused old.bad old.spent (inr (h.suggests refl, h.spends)) r)
settles_missing false [] better missing bad old new h r s f b p = record {
  spends = s ∙ h.spends;
  refuses = f ∙ h.refuses;
  suggests = λ n. b ∙ h.suggests n;
  kept = p better h.kept;
}

-- what is missing is put behind the suggestions
pub puts_missing : (old new : Front) (m : Option ConfigOption) (o : ConfigOption) → Some o ≡ m → PutsBehind old new o → (list : List ConfigOption) → IsFront list old → IsFront (list ++ option_to_list m) new
puts_missing old new m o e p list h = rw (← e) (p list h)

pub puts_nothing : (front : Front) (m : Option ConfigOption) → None ≡ m → (list : List ConfigOption) → IsFront list front → IsFront (list ++ option_to_list m) front
puts_nothing front m e list h = rw (← e, append-nil list) h
