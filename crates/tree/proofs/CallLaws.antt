-- What a call answers has passed its tests, and these make it sound; element at a position and position answer each other, since the words
-- under them undo each other on what passes. Assumes nothing.
use Rattle.std.proofs.Common.{◌≡◌, ℕ, ◌+◌, ◌-◌, ◌^◌, ◌<◌, ◌≤◌, sym, ap, ◌∙◌, subst, ap₂, arith}
use Rattle.paper.specs.Outcome.{accepted}
use Rattle.tree.specs.Shape.{Shape}
use Rattle.tree.specs.Words as words
use Rattle.tree.specs.Calls as calls
use Rattle.tree.specs.Laws.{Sound, Lawful}
use Rattle.tree.specs.CallLaws.{Accepts, ByPosition, SoundAnswers}
use Rattle.tree.proofs.RoundTrip.{at_sound, at_level, position_at_lem, position_lt, at_position}
use Rattle.tree.proofs.Descent.{descend_stands}
use Rattle.tree.proofs.Accepting.{accepts}

module _ {E : Type 0} (S : Shape E) (W : Lawful S) where
  calls_accept : Accepts S
  calls_accept = accepts S W

  pub by_position : ByPosition S
  by_position l p e = (there, back)
    where
      there : calls.at S l p ≡ accepted e → (S.level e ≡ l) × (calls.position S e ≡ accepted p)
      there h =
          let d = (calls_accept.at l p e).0 h in
          let sound : Sound S e = subst (Sound S) d.2 (at_sound S W l p d.0 d.1) in
          let place : words.position S e ≡ p = sym (ap (words.position S) d.2) ∙ position_at_lem S W l p d.0 d.1 in
          (sym (ap S.level d.2) ∙ at_level S W l p, (calls_accept.position e p).1 (sound, place))

      back : (S.level e ≡ l) × (calls.position S e ≡ accepted p) → calls.at S l p ≡ accepted e
      back h =
          let d = (calls_accept.position e p).0 h.1 in
          let below : p < S.children ^ l = subst (λ (m : ℕ). p < S.children ^ m) h.0 (rw d.1 at (position_lt S W e d.0)) in
          (calls_accept.at l p e).1
          (omega (arith, h.0, W.shallow e d.0), below, ap₂ (words.element_at S) (sym h.0) (sym d.1) ∙ at_position S W e d.0)

  -- always to child i, of which there is one
  descends : (i : ℕ) (e f : E) (l : ℕ) → i < S.children → Sound S e → l ≤ S.highest → S.level e ≤ l → words.descend S i (l - S.level e) e ≡ f → Sound S f
  descends i e f l small sound shallow down is = subst (Sound S) is (descend_stands S W i e l small sound down shallow).sound

  pub sound_answers : ((e f : E) (i : ℕ) → Sound S e → i < S.faces → S.neighbour e i ≡ accepted f → Sound S f) → SoundAnswers S
  sound_answers across =
      record {
        at = λ l p f h. let d = (calls_accept.at l p f).0 h in subst (Sound S) d.2 (at_sound S W l p d.0 d.1);
        parent = λ e f h. let d = (calls_accept.parent e f).0 h in subst (Sound S) d.2 (W.parent_sound e d.0 d.1);
        child = λ e f i h. let d = (calls_accept.child e f i).0 h in subst (Sound S) d.3 (W.child_sound e i d.0 d.1 d.2);
        successor = λ e f h.
            let d = (calls_accept.successor e f).0 h in
            subst (Sound S) d.2 (at_sound S W (S.level e) (words.position S e + 1) (W.shallow e d.0) d.1);
        first = λ e f l h. let d = (calls_accept.first e f l).0 h in descends 0 e f l (omega (arith, W.several)) d.0 d.1 d.2 d.3;
        last = λ e f l h. let d = (calls_accept.last e f l).0 h in descends (S.children - 1) e f l (omega (arith, W.several)) d.0 d.1 d.2 d.3;
        neighbour = λ e f i h. let d = (calls_accept.neighbour e f i).0 h in across e f i d.0 d.1 d.2;
      }
