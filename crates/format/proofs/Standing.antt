-- Bytes that follow change nothing before them: a test reads only bytes that are there, so a refusal stands unless it is that bytes are missing.
-- Assumes nothing.
use mathlib.Core.Path.{◌≡◌, refl, ap, ◌∙◌, sym, subst}
use mathlib.Core.Bool.{Bool, true, false, not, cond, ◌&&◌, and-eq-true_iff}
use mathlib.Core.List.{List, [], ◌++◌}
use Prim.Native.Nat.{ℕ, zero, suc, ◌+◌, ◌-◌, ◌*◌, ◌≤◌, ◌<◌}
use native.Mathlib.Omega.{arith}
use lib.Dec.{leb, ltb, eqb}
use lib.ListN.{length, length-append, get_or-append}
use borrow.Author.Tests.{leb-false, lt-leb, ltb-true, ltb-false, lt-ltb, le-ltb, not-true}
use Rattle.paper.specs.Outcome.{Outcome, accepted, refused, refuse_when_at, mapped, and_then, passed}
use Rattle.paper.proofs.Scan.{never}
use Rattle.leaves.specs.Leaves.{Leaf}
use Rattle.numbers.specs.Numbers.{Found, found, byte_at, number_at}
use Rattle.leaves.specs.Calls.{out_of_range}
use Rattle.format.specs.Reading.{opens, Head, after_runs, after_roots, head_at, headed, after_last, leaves_from, FoundRun, after_count, after_level, Walk, start, keep, run_at, sound_from, grid_at}
use Rattle.paper.proofs.Tests.{passed_by}
use Rattle.format.proofs.Tests.{then_is, then_stops, not_tagged}
use Rattle.format.proofs.Taking.{mapped_refused}
use Rattle.format.proofs.Following.{runs_at, run_step, apart}

-- an outcome that bytes after it can't change: no byte was missing
abbrev Settled : {A : Type 0} → Outcome A → Type 0
Settled (accepted a) = Unit {0}
Settled (refused number at) = number ≡ 19 → ⊥

abbrev number_of : {A : Type 0} → Outcome A → ℕ
number_of (accepted a) = 0
number_of (refused number at) = number

-- ---- test by test: o is of the bytes alone, p of the bytes with more behind them
when_missing : {A : Type 0} (t u : Bool) (i : ℕ) (o p : Outcome A) → (t ≡ false → u ≡ false) → (t ≡ false → Settled o → p ≡ o)
    → Settled (refuse_when_at t 19 i o) → refuse_when_at u 19 i p ≡ refuse_when_at t 19 i o
when_missing true u i o p there rest s = absurd (s refl)
when_missing false u i o p there rest s = ap (λ (b : Bool). refuse_when_at b 19 i p) (there refl) ∙ rest refl s

when_wrong : {A : Type 0} (t : Bool) (number i : ℕ) (o p : Outcome A) → (Settled o → p ≡ o)
    → Settled (refuse_when_at t number i o) → refuse_when_at t number i p ≡ refuse_when_at t number i o
when_wrong true number i o p rest s = refl
when_wrong false number i o p rest s = rest s

either_stands : {A : Type 0} (t : Bool) (a : A) (o p : Outcome A) → (Settled o → p ≡ o) → Settled (cond t (accepted a) o) → cond t (accepted a) p ≡ cond t (accepted a) o
either_stands true a o p rest s = refl
either_stands false a o p rest s = rest s

then_stands : {A B : Type 0} (o p : Outcome A) (f g : A → Outcome B) → (Settled o → p ≡ o) → ((a : A) → Settled (f a) → g a ≡ f a)
    → Settled (and_then o f) → and_then p g ≡ and_then o f
then_stands (accepted a) p f g first later s = ap (λ (x : Outcome _). and_then x g) (first tt) ∙ later a s
then_stands (refused number at) p f g first later s = ap (λ (x : Outcome _). and_then x g) (first s)

module _ (bs more : List ℕ) where
  longer : length bs ≤ length (bs ++ more)
  longer = omega (arith, length-append bs more)

  there_too : (i : ℕ) → leb (length bs) i ≡ false → leb (length (bs ++ more)) i ≡ false
  there_too i here = let inside : i < length bs = leb-false (length bs) i here in lt-leb (length (bs ++ more)) i (omega (arith, longer))

  same_byte : (i : ℕ) → leb (length bs) i ≡ false → byte_at (bs ++ more) i ≡ byte_at bs i
  same_byte i here = get_or-append bs more 0 i (leb-false (length bs) i here)

  pub number_stands : (i : ℕ) → Settled (number_at bs i) → number_at (bs ++ more) i ≡ number_at bs i
  number_stands i =
      when_missing (leb (length bs) i) (leb (length (bs ++ more)) i) i _ _ (there_too i) (λ here s.
      ap (λ (b : ℕ). cond (ltb b 128) (accepted (found b (i + 1))) (second (bs ++ more) b)) (same_byte i here)
      ∙ either_stands (ltb (byte_at bs i) 128) (found (byte_at bs i) (i + 1)) (second bs (byte_at bs i)) (second (bs ++ more) (byte_at bs i))
      (second_stands (byte_at bs i)) s)
    where
      third : List ℕ → ℕ → ℕ → Outcome Found
      third l a b =
          refuse_when_at (leb (length l) (i + 2)) 19 i
          (refuse_when_at (eqb (byte_at l (i + 2)) 0) 20 i
          (refuse_when_at (leb 128 (byte_at l (i + 2))) 20 i
          (accepted (found (a - 128 + 128 * (b - 128) + 16384 * byte_at l (i + 2)) (i + 3)))))

      second : List ℕ → ℕ → Outcome Found
      second l a =
          refuse_when_at (leb (length l) (i + 1)) 19 i
          (refuse_when_at (eqb (byte_at l (i + 1)) 0) 20 i
          (cond (ltb (byte_at l (i + 1)) 128) (accepted (found (a - 128 + 128 * byte_at l (i + 1)) (i + 2))) (third l a (byte_at l (i + 1)))))

      third_stands : (a b : ℕ) → Settled (third bs a b) → third (bs ++ more) a b ≡ third bs a b
      third_stands a b =
          when_missing (leb (length bs) (i + 2)) (leb (length (bs ++ more)) (i + 2)) i _ _ (there_too (i + 2)) (λ here s.
          ap (λ (x : ℕ). refuse_when_at (eqb x 0) 20 i (refuse_when_at (leb 128 x) 20 i (accepted (found (a - 128 + 128 * (b - 128) + 16384 * x) (i + 3))))) (same_byte (i + 2) here))

      second_stands : (a : ℕ) → Settled (second bs a) → second (bs ++ more) a ≡ second bs a
      second_stands a =
          when_missing (leb (length bs) (i + 1)) (leb (length (bs ++ more)) (i + 1)) i _ _ (there_too (i + 1)) (λ here.
          λ s.
          ap (λ (x : ℕ). refuse_when_at (eqb x 0) 20 i (cond (ltb x 128) (accepted (found (a - 128 + 128 * x) (i + 2))) (third (bs ++ more) a x))) (same_byte (i + 1) here)
          ∙ when_wrong (eqb (byte_at bs (i + 1)) 0) 20 i _ _
          (either_stands (ltb (byte_at bs (i + 1)) 128) (found (a - 128 + 128 * byte_at bs (i + 1)) (i + 2)) (third bs a (byte_at bs (i + 1))) (third (bs ++ more) a (byte_at bs (i + 1)))
          (third_stands a (byte_at bs (i + 1)))) s)

  -- ---- runs
  module _ (n L K : ℕ) where
    pub run_stands : (w : Walk) → Settled (run_at n L bs K w) → run_at n L (bs ++ more) K w ≡ run_at n L bs K w
    run_stands w =
        then_stands (number_at bs w.next) (number_at (bs ++ more) w.next) (after_level n L bs K w) (after_level n L (bs ++ more) K w) (number_stands w.next) (λ l.
        when_wrong (ltb L l.value) 1 w.next _ _ (when_wrong (eqb w.before l.value) 21 w.next _ _
        (then_stands (number_at bs l.next) (number_at (bs ++ more) l.next) (after_count n L K w l) (after_count n L K w l) (number_stands l.next) (λ k s. refl))))

    -- after the last run: ground or bytes left
    last_stands : (w : Walk) (number at : ℕ) → after_last bs K w ≡ refused number at → after_last (bs ++ more) K w ≡ refused number at
    last_stands w number at e = by (not (eqb w.come.root K && eqb w.come.cell 0)) (ltb w.next (length bs)) refl e
      where
        leftover : Bool → Bool → Outcome (Unit {0})
        leftover ground left = refuse_when_at ground 12 w.next (refuse_when_at left 22 w.next passed)

        by : (ground left : Bool) → ltb w.next (length bs) ≡ left → leftover ground left ≡ refused number at
            → leftover ground (ltb w.next (length (bs ++ more))) ≡ refused number at
        by true left is e' = e'
        by false true is e' =
            let inside : w.next < length bs = ltb-true w.next (length bs) is in
            ap (leftover false) (lt-ltb w.next (length (bs ++ more)) (omega (arith, longer))) ∙ e'
        by false false is e' = never tt number at (sym e')

    pub runs_stand : (R : ℕ) (w : Walk) (number at : ℕ) → (number ≡ 19 → ⊥) → runs_at n L bs K R w ≡ refused number at
        → runs_at n L (bs ++ more) K R w ≡ refused number at
    unfolding sound_from
    runs_stand zero w number at there e =
        ap (mapped (λ (u : Unit {0}). [])) (last_stands w number at (mapped_refused (λ (u : Unit {0}). []) _ number at (sym e)))
    runs_stand (suc R) w number at there e =
        apart n L (bs ++ more) K R w ∙ by (run_at n L bs K w) refl (λ r. runs_stand R (keep n L w r) number at there)
      where
        by : (o : Outcome FoundRun) → run_at n L bs K w ≡ o
            → ((r : FoundRun) → runs_at n L bs K R (keep n L w r) ≡ refused number at
            → runs_at n L (bs ++ more) K R (keep n L w r) ≡ refused number at)
            → and_then (run_at n L (bs ++ more) K w) (run_step n L (bs ++ more) K R w) ≡ refused number at
        by (accepted r) is later =
            let rest = sym (then_is (run_at n L bs K w) (run_step n L bs K R w) r is) ∙ sym (apart n L bs K R w) ∙ e in
            then_is (run_at n L (bs ++ more) K w) (run_step n L (bs ++ more) K R w) r (run_stands w (subst Settled (sym is) tt) ∙ is)
            ∙ ap (mapped (λ (vs : List Leaf). leaves_from n L w.come r.level r.count ++ vs)) (later r (mapped_refused (λ (vs : List Leaf). leaves_from n L w.come r.level r.count ++ vs) _ number at (sym rest)))
        by (refused m j) is later =
            let same : ◌≡◌ {A = Outcome _} (refused m j) (refused number at) = sym (then_stops (run_at n L bs K w) (run_step n L bs K R w) m j is) ∙ sym (apart n L bs K R w) ∙ e in
            then_stops (run_at n L (bs ++ more) K w) (run_step n L (bs ++ more) K R w) m j
            (run_stands w (subst Settled (sym is) (λ missing. there (sym (ap number_of same) ∙ missing))) ∙ is)
            ∙ same

  -- ---- the whole file
  pub opens_long : opens bs ≡ true → 4 ≤ length bs
  opens_long h = ltb-false (length bs) 4 (not-true (ltb (length bs) 4) ((and-eq-true_iff (not (ltb (length bs) 4)) _).0 h).0)

  tag_stands : 4 ≤ length bs → opens (bs ++ more) ≡ opens bs
  tag_stands long =
      ap (λ (t : Bool). not t && tagged (byte_at (bs ++ more) 0) (byte_at (bs ++ more) 1) (byte_at (bs ++ more) 2) (byte_at (bs ++ more) 3))
      (le-ltb (length (bs ++ more)) 4 (omega (arith, longer)) ∙ sym (le-ltb (length bs) 4 long))
      ∙ ap (λ (a : ℕ). not (ltb (length bs) 4) && tagged a (byte_at (bs ++ more) 1) (byte_at (bs ++ more) 2) (byte_at (bs ++ more) 3)) (get_or-append bs more 0 0 (omega arith))
      ∙ ap (λ (a : ℕ). not (ltb (length bs) 4) && tagged (byte_at bs 0) a (byte_at (bs ++ more) 2) (byte_at (bs ++ more) 3)) (get_or-append bs more 0 1 (omega arith))
      ∙ ap (λ (a : ℕ). not (ltb (length bs) 4) && tagged (byte_at bs 0) (byte_at bs 1) a (byte_at (bs ++ more) 3)) (get_or-append bs more 0 2 (omega arith))
      ∙ ap (λ (a : ℕ). not (ltb (length bs) 4) && tagged (byte_at bs 0) (byte_at bs 1) (byte_at bs 2) a) (get_or-append bs more 0 3 (omega arith))
    where
      tagged : ℕ → ℕ → ℕ → ℕ → Bool
      tagged a b c d = eqb a 80 && (eqb b 71 && (eqb c 82 && eqb d 49))

  head_stands : opens bs ≡ true → Settled (head_at bs) → head_at (bs ++ more) ≡ head_at bs
  head_stands h s =
      passed_by (not (opens (bs ++ more))) 18 0 _ (ap not (tag_stands (opens_long h) ∙ h))
      ∙ then_stands (number_at bs 4) (number_at (bs ++ more) 4) (after_roots bs) (after_roots (bs ++ more)) (number_stands 4) (λ k.
      when_wrong (out_of_range k.value) 17 4 _ _
      (then_stands (number_at bs k.next) (number_at (bs ++ more) k.next) (after_runs k) (after_runs k) (number_stands k.next) (λ r t. refl)))
      (subst Settled (passed_by (not (opens bs)) 18 0 _ (ap not h)) s)
      ∙ sym (passed_by (not (opens bs)) 18 0 _ (ap not h))

  module _ (n L number at : ℕ) (long : number ≡ 18 → 4 ≤ length bs) (there : number ≡ 19 → ⊥) (e : grid_at n L bs ≡ refused number at) where
    -- another tag stays another, once its four bytes are there
    untagged_stands : opens bs ≡ false → grid_at n L (bs ++ more) ≡ refused number at
    untagged_stands other =
        let same : ◌≡◌ {A = Outcome _} (refused 18 0) (refused number at) = sym (then_stops (head_at bs) (headed n L bs) 18 0 (not_tagged bs other)) ∙ e in
        then_stops (head_at (bs ++ more)) (headed n L (bs ++ more)) 18 0 (not_tagged (bs ++ more) (tag_stands (long (sym (ap number_of same))) ∙ other))
        ∙ same

    tagged_stands : opens bs ≡ true → grid_at n L (bs ++ more) ≡ refused number at
    tagged_stands open_tag = by (head_at bs) refl
      where
        by : (o : Outcome Head) → head_at bs ≡ o → grid_at n L (bs ++ more) ≡ refused number at
        by (accepted h) is =
            let rest = sym (then_is (head_at bs) (headed n L bs) h is) ∙ e in
            then_is (head_at (bs ++ more)) (headed n L (bs ++ more)) h (head_stands open_tag (subst Settled (sym is) tt) ∙ is)
            ∙ ap (mapped (λ (vs : List Leaf). record { roots = h.roots; leaves = vs }))
            (runs_stand n L h.roots h.runs (start n L h.next) number at there (mapped_refused (λ (vs : List Leaf). record { roots = h.roots; leaves = vs }) _ number at (sym rest)))
        by (refused m j) is =
            let same : ◌≡◌ {A = Outcome _} (refused m j) (refused number at) = sym (then_stops (head_at bs) (headed n L bs) m j is) ∙ e in
            then_stops (head_at (bs ++ more)) (headed n L (bs ++ more)) m j (head_stands open_tag (subst Settled (sym is) (λ missing. there (sym (ap number_of same) ∙ missing))) ∙ is)
            ∙ same

    pub grid_stands : grid_at n L (bs ++ more) ≡ refused number at
    grid_stands = by (opens bs) refl
      where
        by : (b : Bool) → opens bs ≡ b → grid_at n L (bs ++ more) ≡ refused number at
        by true is = tagged_stands is
        by false is = untagged_stands is
