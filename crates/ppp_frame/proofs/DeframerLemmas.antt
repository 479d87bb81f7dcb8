-- One call of `feed`, seen from the whole stream.
use Rattle.std.proofs.Common.{◌≡◌, ℕ, ◌+◌, ◌<◌, ◌≤◌, Bool, true, false, if◌then◌else◌, List, [], ◌∷◌, ◌++◌, length, get_or, take, drop, None, not, ◌⊎◌, inl, inr, refl, ap, sym, subst, ◌∙◌, arith, append_assoc, append-nil, length-drop}
use Rattle.std.specs.List.{prefix_len, position_or_len}
use Rattle.std.proofs.Math.Seq.{take-add}
use Rattle.std.proofs.lemmas.Bool.{eq-eqb, ne_eqb, both_ways, cases_order}
use Rattle.std.proofs.lemmas.List.{take_all, take_more, get_or-drop}
use Rattle.std.proofs.lemmas.List.Sums.{prefix_len-le-length, prefix_len_stops, passes_at_first}
use Rattle.std.proofs.lemmas.List.Folds.{length-prefix_len}
use Rattle.ppp_frame.specs.declared.fed.Fed.{Fed}
use Rattle.ppp_frame.specs.declared.fed.Got.{Got}
use Rattle.ppp_frame.specs.declared.fed.Got.TheVariants.{More}
use Rattle.ppp_frame.specs.Deframer.{Answers, AnswersGot, DeframerState, EndsOne, FeedStep, Stands, ends_by, feed_step, flag_at, goes_on, idle, run_in, run_length}
use Rattle.ppp_frame.specs.Standing.{Standing, after, fresh, is_fresh, standing_of, verdict_at}
use Rattle.ppp_frame.specs.Stream.{is_flag, pieces, pieces_from, unfinished, unfinished_from}
use Rattle.ppp_frame.specs.Verdict.{Reader, Verdict, Discarded, Taken, answer_of, frame_in, got_of}
use Rattle.ppp_frame.proofs.StandingLemmas.{after-append, fresh_none, fresh_start, verdict_is}
use Rattle.ppp_frame.proofs.StreamLemmas.{pieces-append, unfinished-append, idle_pieces, idle_unfinished, run_pieces, run_unfinished, flag_pieces, flag_unfinished}

pub step_more : (d : DeframerState) (piece : List ℕ) → flag_at d.standing piece ≡ length piece → feed_step d piece ≡ goes_on d (after d.reader.limit d.standing (run_in d.standing piece)) (length piece)
unfolding feed_step
step_more d piece all = rw (eq-eqb _ _ all)

pub step_ends : (d : DeframerState) (piece : List ℕ) → flag_at d.standing piece < length piece → feed_step d piece ≡ ends_by d (verdict_at d.reader (after d.reader.limit d.standing (run_in d.standing piece))) (flag_at d.standing piece + 1)
unfolding feed_step
step_ends d piece within =
    rw (ne_eqb (flag_at d.standing piece) (length piece) (λ same. absurd (omega arith)))

-- what stands, and the octets that it came from: the flags in front of the piece change neither
record IdleKeeps (u : List ℕ) (s : Standing) (piece : List ℕ) : Type 0 where
  none : pieces_from u (take (idle s piece) piece) ≡ []
  same : unfinished_from u (take (idle s piece) piece) ≡ u

idle_keeps : (limit : ℕ) (u : List ℕ) (s : Standing) (piece : List ℕ) → s ≡ standing_of limit u → IdleKeeps u s piece
idle_keeps limit u s piece is = go (is_fresh s) refl
  where
    go : (b : Bool) → is_fresh s ≡ b → IdleKeeps u s piece
    go true e =
        let nothing : u ≡ [] = fresh_none limit u (ap is_fresh (sym is) ∙ e) in
        record { none = rw (e, nothing) (idle_pieces piece); same = rw (e, nothing) (idle_unfinished piece) }
    go false e = record { none = rw e; same = rw e }

-- up to the flag, or to the end of the piece
front : (s : Standing) (piece : List ℕ) → take (flag_at s piece) piece ≡ take (idle s piece) piece ++ run_in s piece
front s piece = take-add (idle s piece) (run_length s piece) piece

pub front_pieces : (limit : ℕ) (s : Standing) (before piece : List ℕ) → s ≡ standing_of limit (unfinished before) → pieces (before ++ take (flag_at s piece) piece) ≡ pieces before
front_pieces limit s before piece is =
    let u = unfinished before in
    let kept = idle_keeps limit u s piece is in
    pieces-append [] before (take (flag_at s piece) piece)
    ∙ ap (λ ps. pieces before ++ ps) (
    ap (pieces_from u) (front s piece) ∙ pieces-append u (take (idle s piece) piece) (run_in s piece)
    ∙ ap (λ ps. ps ++ pieces_from (unfinished_from u (take (idle s piece) piece)) (run_in s piece)) kept.none
    ∙ run_pieces (unfinished_from u (take (idle s piece) piece)) (drop (idle s piece) piece))
    ∙ append-nil (pieces before)

pub front_unfinished : (limit : ℕ) (s : Standing) (before piece : List ℕ) → s ≡ standing_of limit (unfinished before) → unfinished (before ++ take (flag_at s piece) piece) ≡ unfinished before ++ run_in s piece
front_unfinished limit s before piece is =
    let u = unfinished before in
    let kept = idle_keeps limit u s piece is in
    unfinished-append [] before (take (flag_at s piece) piece)
    ∙ ap (unfinished_from u) (front s piece) ∙ unfinished-append u (take (idle s piece) piece) (run_in s piece)
    ∙ ap (λ v. unfinished_from v (run_in s piece)) kept.same
    ∙ run_unfinished u (drop (idle s piece) piece)

pub stands_on : (limit : ℕ) (s : Standing) (before piece : List ℕ) → s ≡ standing_of limit (unfinished before) → after limit s (run_in s piece) ≡ standing_of limit (unfinished before ++ run_in s piece)
stands_on limit s before piece is =
    ap (λ t. after limit t (run_in s piece)) is ∙ after-append limit fresh (unfinished before) (run_in s piece)

-- ---- with the flag

flag_there : (s : Standing) (piece : List ℕ) → flag_at s piece < length piece → is_flag (get_or piece (flag_at s piece) 0) ≡ true
flag_there s piece within =
    ap is_flag (sym (get_or-drop (idle s piece) piece (run_length s piece) 0))
    ∙ passes_at_first is_flag (drop (idle s piece) piece) 0 (omega (arith, length-drop (idle s piece) piece))

-- the flag has something to end
some_stands : (limit : ℕ) (s : Standing) (before piece : List ℕ) → s ≡ standing_of limit (unfinished before) → flag_at s piece < length piece → unfinished before ++ run_in s piece ≡ [] → ⊥
some_stands limit s before piece is within nothing = go (is_fresh s) refl
  where
    no_run : run_in s piece ≡ []
    no_run = last_none (unfinished before) (run_in s piece) nothing
      where
        last_none : (xs ys : List ℕ) → xs ++ ys ≡ [] → ys ≡ []
        last_none [] ys e = e
        last_none (x ∷ xs) ys e = absurd (cc)

    none_before : unfinished before ≡ []
    none_before = first_none (unfinished before) (run_in s piece) nothing
      where
        first_none : (xs ys : List ℕ) → xs ++ ys ≡ [] → xs ≡ []
        first_none [] ys e = refl
        first_none (x ∷ xs) ys e = absurd (cc)

    go : (b : Bool) → is_fresh s ≡ b → ⊥
    go true e =
        let short : length (run_in s piece) ≡ 0 = ap length no_run in
        let size : length (run_in s piece) ≡ run_length s piece =
        length-prefix_len _ (drop (idle s piece) piece) in
        let at : flag_at s piece ≡ prefix_len is_flag piece = ap (λ n. idle s piece + n) (sym size ∙ short) ∙ rw e (omega arith) in
        let stops = prefix_len_stops is_flag piece 0 (omega arith) in
        both_ways _ stops (ap (λ n. is_flag (get_or piece n 0)) (sym at) ∙ flag_there s piece within)
    go false e = both_ways _ e (ap is_fresh (is ∙ ap (standing_of limit) none_before ∙ fresh_start limit))

pub ends_one : (limit : ℕ) (s : Standing) (before piece : List ℕ) → s ≡ standing_of limit (unfinished before) → flag_at s piece < length piece → pieces (before ++ take (flag_at s piece + 1) piece) ≡ pieces before ++ (unfinished before ++ run_in s piece) ∷ []
ends_one limit s before piece is within =
    let n = flag_at s piece in
    let x = get_or piece n 0 in
    ap (λ xs. pieces (before ++ xs)) (take_more piece n 0 within)
    ∙ ap pieces (sym (append_assoc before (take n piece) (x ∷ [])))
    ∙ pieces-append [] (before ++ take n piece) (x ∷ [])
    ∙ ap (λ ps. ps ++ pieces_from (unfinished (before ++ take n piece)) (x ∷ [])) (front_pieces limit s before piece is)
    ∙ ap (λ u. pieces before ++ pieces_from u (x ∷ [])) (front_unfinished limit s before piece is)
    ∙ ap (λ ps. pieces before ++ ps) (
    flag_pieces (unfinished before ++ run_in s piece) x (flag_there s piece within) (some_stands limit s before piece is within))

pub ends_whole : (limit : ℕ) (s : Standing) (before piece : List ℕ) → s ≡ standing_of limit (unfinished before) → flag_at s piece < length piece → unfinished (before ++ take (flag_at s piece + 1) piece) ≡ []
ends_whole limit s before piece is within =
    let n = flag_at s piece in
    let x = get_or piece n 0 in
    ap (λ xs. unfinished (before ++ xs)) (take_more piece n 0 within)
    ∙ ap unfinished (sym (append_assoc before (take n piece) (x ∷ [])))
    ∙ unfinished-append [] (before ++ take n piece) (x ∷ [])
    ∙ flag_unfinished (unfinished (before ++ take n piece)) x (flag_there s piece within)

pub ends_answer : (r : Reader) (s : Standing) (before piece : List ℕ) → s ≡ standing_of r.limit (unfinished before) → verdict_at r (after r.limit s (run_in s piece)) ≡ answer_of r (unfinished before ++ run_in s piece)
ends_answer r s before piece is =
    ap (verdict_at r) (stands_on r.limit s before piece is) ∙ verdict_is r (unfinished before ++ run_in s piece)

-- ---- all of one call

flag_at-le : (s : Standing) (piece : List ℕ) → flag_at s piece ≤ length piece
flag_at-le s piece =
    let run = prefix_len-le-length (λ x. not (is_flag x)) (drop (idle s piece) piece) in
    omega (arith, length-drop (idle s piece) piece, idle-le (is_fresh s))
  where
    idle-le : (b : Bool) → (if b then prefix_len is_flag piece else 0) ≤ length piece
    idle-le true = prefix_len-le-length is_flag piece
    idle-le false = omega arith

-- what a call leaves and answers, of what it found
abbrev pub StepKeeps : DeframerState → List ℕ → FeedStep → Type 0
StepKeeps d piece f = ((before : List ℕ) → Stands d before → Stands f.left (before ++ take f.fed.used piece))
    × ((before : List ℕ) → Stands d before → Answers d before piece f.fed f.left)
    × (f.fed.used ≤ length piece) × (0 < length piece → 0 < f.fed.used) × (f.left.reader ≡ d.reader)

goes_on_keeps : (d : DeframerState) (piece : List ℕ) → flag_at d.standing piece ≡ length piece → StepKeeps d piece (goes_on d (after d.reader.limit d.standing (run_in d.standing piece)) (length piece))
goes_on_keeps d piece all =
    let whole : take (length piece) piece ≡ take (flag_at d.standing piece) piece = ap (λ n. take n piece) (sym all) in (
      λ before stands.
          stands_on d.reader.limit d.standing before piece stands
          ∙ ap (standing_of d.reader.limit) (
          sym (front_unfinished d.reader.limit d.standing before piece stands) ∙ ap (λ xs. unfinished (before ++ xs)) (sym whole)),
      λ before stands. record {
        all = refl;
        none =
            ap (λ xs. pieces (before ++ xs)) (sym (take_all (length piece) piece (omega arith)) ∙ whole)
            ∙ front_pieces d.reader.limit d.standing before piece stands;
        frame = refl;
      },
      omega arith,
      λ some. some,
      refl,
    )

-- an answer that something ended, as a frame or as a discard
answers_end : (v : Verdict) (old new : DeframerState) (before piece : List ℕ) (fed : Fed) → EndsOne old before piece fed new → AnswersGot (got_of v) old before piece fed new
answers_end (Discarded why) old new before piece fed one = one
answers_end (Taken read) old new before piece fed one = one

ends_by_keeps : (d : DeframerState) (piece : List ℕ) → flag_at d.standing piece < length piece → StepKeeps d piece (ends_by d (verdict_at d.reader (after d.reader.limit d.standing (run_in d.standing piece))) (flag_at d.standing piece + 1))
ends_by_keeps d piece within =
    let limit = d.reader.limit in
    let s = d.standing in (
      λ before stands.
          sym (fresh_start limit) ∙ ap (standing_of limit) (sym (ends_whole limit s before piece stands within)),
      λ before stands.
          answers_end (verdict_at d.reader (after limit s (run_in s piece))) d _ before piece _ (record {
            ended = unfinished before ++ run_in s piece;
            one = ends_one limit s before piece stands within;
            whole = ends_whole limit s before piece stands within;
            got = ap got_of (ends_answer d.reader s before piece stands);
            frame = ap frame_in (ends_answer d.reader s before piece stands);
          }),
      omega arith,
      λ some. omega arith,
      refl,
    )

pub step_keeps : (d : DeframerState) (piece : List ℕ) → StepKeeps d piece (feed_step d piece)
step_keeps d piece = go (cases_order (flag_at d.standing piece) (length piece))
  where
    go : (flag_at d.standing piece ≡ length piece) ⊎ ((flag_at d.standing piece < length piece) ⊎ (length piece < flag_at d.standing piece)) → StepKeeps d piece (feed_step d piece)
    go (inl all) = subst (StepKeeps d piece) (sym (step_more d piece all)) (goes_on_keeps d piece all)
    go (inr (inl within)) = subst (StepKeeps d piece) (sym (step_ends d piece within)) (ends_by_keeps d piece within)
    go (inr (inr beyond)) = let most = flag_at-le d.standing piece in absurd (omega arith)

-- ---- what the code does is `feed_step`

pub fed_more : (d new : DeframerState) (piece rest run : List ℕ) (fresh_one : Bool) (start size : ℕ) → fresh_one ≡ is_fresh d.standing → start ≡ (if fresh_one then prefix_len is_flag piece else 0) → rest ≡ drop start piece → size ≡ position_or_len is_flag rest → run ≡ take size rest → new ≡ record { reader = d.reader; standing = after d.reader.limit d.standing run; frame = None } → start + size ≡ length piece → feed_step d piece ≡ record { fed = record { used = start + size; got = More }; left = new }
fed_more d new piece rest run fresh_one start size fresh_is start_is rest_is size_is run_is new_is all =
    let at : flag_at d.standing piece ≡ start + size = cc in
    let run_same : run_in d.standing piece ≡ run = cc in
    step_more d piece (at ∙ all)
    ∙ ap (λ r. goes_on d (after d.reader.limit d.standing r) (length piece)) run_same
    ∙ (λ i. record { fed = record { used = sym all i; got = More }; left = sym new_is i })

pub fed_ends : (d mid new : DeframerState) (piece rest run : List ℕ) (got : Got) (fresh_one : Bool) (start size : ℕ) → fresh_one ≡ is_fresh d.standing → start ≡ (if fresh_one then prefix_len is_flag piece else 0) → rest ≡ drop start piece → size ≡ position_or_len is_flag rest → run ≡ take size rest → mid ≡ record { reader = d.reader; standing = after d.reader.limit d.standing run; frame = None } → got ≡ got_of (verdict_at mid.reader mid.standing) → new ≡ record { reader = mid.reader; standing = fresh; frame = frame_in (verdict_at mid.reader mid.standing) } → start + size < length piece → feed_step d piece ≡ record { fed = record { used = start + size + 1; got = got }; left = new }
fed_ends d mid new piece rest run got fresh_one start size fresh_is start_is rest_is size_is run_is mid_is got_is new_is within =
    let at : flag_at d.standing piece ≡ start + size = cc in
    let run_same : run_in d.standing piece ≡ run = cc in
    let left : DeframerState → FeedStep = λ m. record {
      fed = record { used = start + size + 1; got = got_of (verdict_at m.reader m.standing) };
      left = record { reader = m.reader; standing = fresh; frame = frame_in (verdict_at m.reader m.standing) };
    } in
    step_ends d piece (omega arith)
    ∙ ap (λ r. ends_by d (verdict_at d.reader (after d.reader.limit d.standing r)) (flag_at d.standing piece + 1)) run_same
    ∙ ap (λ n. ends_by d (verdict_at d.reader (after d.reader.limit d.standing run)) (n + 1)) at
    ∙ ap left (sym mid_is)
    ∙ (λ i. record { fed = record { used = start + size + 1; got = sym got_is i }; left = sym new_is i })
