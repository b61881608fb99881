-- The first pass: where the runs that are left stop, and by which fault, stays what it is for all runs. Assumes nothing.
use mathlib.Core.Path.{◌≡◌, ap, ◌∙◌, sym}
use mathlib.Core.List.{List}
use Prim.Native.Nat.{ℕ, suc, ◌-◌, ◌^◌, ◌≤◌, ◌<◌}
use native.Mathlib.Omega.{arith}
use Rattle.paper.specs.Outcome.{accepted, refused}
use Rattle.paper.specs.Refusals.{outcome_of}
use Rattle.leaves.specs.Calls.{limit}
use Rattle.format.specs.Reading.{end_from, FoundRun, Walk, walk_at, Sounded, after_last, start, keep, run_at, sound_from}
use Rattle.format.proofs.Fitting.{after_proper}
use Rattle.format.proofs.Units.{upto_root}
use Rattle.format.proofs.Spots.{fits_whole, fits_is}
use Rattle.format.proofs.Taking.{run_taken}
use Rattle.format.proofs.Following.{sound_more, sound_stops, sound_ends}
use Rattle.sounding.specs.Answers.{spot_of, Tells}
use Rattle.sounding.specs.declared.Sounding.{Sounding}

-- a sounding that stopped at the walk of its numbers
pub told : (r : Sounding) (s : Sounded) (l : ℕ) → s.walk ≡ walk_at r.runs r.leaves l (spot_of r.come) r.next → s.fault ≡ outcome_of r.fault → Tells r s
told r s l here why =
    record {
      runs = sym (ap (λ (w : Walk). w.runs) here);
      leaves = sym (ap (λ (w : Walk). w.count) here);
      come = sym (ap (λ (w : Walk). w.come) here);
      next = sym (ap (λ (w : Walk). w.next) here);
      fault = sym why;
    }

module _ (n L K : ℕ) (positive : 0 < n) (bs : List ℕ) (R₀ i₀ : ℕ) where
  abbrev all : Sounded
  all = sound_from n L bs K R₀ (start n L i₀)

  -- R runs are left after the walk w
  pub record Going (R : ℕ) (w : Walk) : Type 0 where
    pub stops : all.walk ≡ (sound_from n L bs K R w).walk
    pub faulty : all.fault ≡ (sound_from n L bs K R w).fault
    pub few : w.count ≤ limit
    pub low : w.come.root ≤ K
    pub proper : w.come.cell < n ^ L

  module _ (R : ℕ) (w : Walk) (g : Going R w) where
    one_less : 0 < R → sound_from n L bs K R w ≡ sound_from n L bs K (suc (R - 1)) w
    one_less some = let one : R ≡ suc (R - 1) = omega arith in ap (λ (m : ℕ). sound_from n L bs K m w) one

    pub going_more : 0 < R → (r : FoundRun) → run_at n L bs K w ≡ accepted r → Going (R - 1) (keep n L w r)
    going_more some r is =
        let t = run_taken n L K bs w r is in
        let more = one_less some ∙ sound_more n L bs K (R - 1) w r is in
        let whole = fits_whole n L r.level K positive t.shallow w.come r.count t.some t.fit in
        record {
          stops = g.stops ∙ ap (λ (s : Sounded). s.walk) more;
          faulty = g.faulty ∙ ap (λ (s : Sounded). s.fault) more;
          few = t.few;
          low =
              upto_root K (end_from n L w.come r.level r.count)
              (sym (fits_is n L r.level K positive t.shallow w.come g.proper whole r.count t.some) ∙ t.fit);
          proper = after_proper n L K positive w.come r.level r.count g.proper t.shallow;
        }

    -- a fault
    pub going_stops : 0 < R → (number place : ℕ) → run_at n L bs K w ≡ refused number place → (all.walk ≡ w) × (all.fault ≡ refused number place)
    going_stops some number place is =
        let here = one_less some ∙ sound_stops n L bs K (R - 1) w number place is in
        (g.stops ∙ ap (λ (s : Sounded). s.walk) here, g.faulty ∙ ap (λ (s : Sounded). s.fault) here)

    -- the end
    pub going_ends : R ≤ 0 → (all.walk ≡ w) × (all.fault ≡ after_last bs K w)
    going_ends none =
        let done : R ≡ 0 = omega arith in
        let here = ap (λ (m : ℕ). sound_from n L bs K m w) done ∙ sound_ends n L bs K w in
        (g.stops ∙ ap (λ (s : Sounded). s.walk) here, g.faulty ∙ ap (λ (s : Sounded). s.fault) here)
