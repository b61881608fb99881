-- At most one Sounding tells how far a file is sound: each of its numbers is said, and its fault is found. Assumes nothing.
use mathlib.Core.Path.{◌≡◌, ap, ap₂, ◌∙◌, sym}
use Prim.Native.Nat.{ℕ}
use Rattle.std.specs.declared.result.Result.{Result}
use Rattle.paper.specs.declared.Refusal.{Refusal}
use Rattle.paper.proofs.Refusals.{outcome_one}
use Rattle.leaves.specs.Leaves.{Spot}
use Rattle.format.specs.Reading.{Sounded}
use Rattle.sounding.specs.Answers.{Tells}
use Rattle.sounding.specs.declared.Cursor.{Cursor}
use Rattle.sounding.specs.declared.Sounding.{Sounding}

same_cursor : (c c' : Cursor) → c.root ≡ c'.root → c.cell ≡ c'.cell → c ≡ c'
same_cursor c c' root cell = ap₂ (λ (r q : ℕ). record { root = r; cell = q }) root cell

same_sounding : {a b i a' b' i' : ℕ} {c c' : Cursor} {f f' : Result (Unit {0}) Refusal} → a ≡ a' → b ≡ b' → c ≡ c' → i ≡ i' → f ≡ f'
    → ◌≡◌ {A = Sounding} (record { runs = a; leaves = b; come = c; next = i; fault = f }) (record { runs = a'; leaves = b'; come = c'; next = i'; fault = f' })
same_sounding runs leaves come next fault = cc

pub tells_one : (r r' : Sounding) (s : Sounded) → Tells r s → Tells r' s → r ≡ r'
tells_one r r' s a b =
    let spot = a.come ∙ sym b.come in
    same_sounding (a.runs ∙ sym b.runs) (a.leaves ∙ sym b.leaves)
    (same_cursor r.come r'.come (ap (λ (c : Spot). c.root) spot) (ap (λ (c : Spot). c.cell) spot))
    (a.next ∙ sym b.next) (outcome_one r.fault r'.fault (a.fault ∙ sym b.fault))
