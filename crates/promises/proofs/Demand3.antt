-- Demand 3: the cells are those of a valid list, the shares are fair, and an accepted call of shares found both. Assumes nothing.
use mathlib.Core.Path.{◌≡◌, subst}
use mathlib.Core.List.{List}
use Prim.Native.Nat.{ℕ, ◌+◌, ◌<◌}
use native.Mathlib.Omega.{arith}
use lib.ListN.{length}
use Rattle.paper.specs.Outcome.{accepted}
use Rattle.prism.specs.Elements.{prism_to, prism}
use Rattle.leaves.specs.Leaves.{Leaf, Columns, leaves, columns_of, Valid}
use Rattle.leaves.specs.Laws.{ValidList}
use Rattle.leaves.proofs.Ancestors.{cell_laws}
use Rattle.leaves.proofs.Entries.{some_leaf, leaves_of_columns}
use Rattle.leaves.proofs.UniformValid.{uniform_listed}
use Rattle.leaves.proofs.Columns.{leaves_length}
use Rattle.shares.specs.Shares.{boundaries}
use Rattle.shares.specs.Calls.{shares}
use Rattle.shares.specs.Laws.{Fair, Weighty}
use Rattle.prism.specs.Lawful as prism_laws
use Rattle.adaption.proofs.Promised.{steps_valid}
use Rattle.shares.proofs.Boundaries.{boundary_monotone}
use Rattle.shares.proofs.Promised as shares_laws
use Rattle.gridfile.proofs.RoundTrip.{loads_list}
use Rattle.promises.specs.Demand3.{Begun, started, loaded, Reached, Divided, OfGrids}
use Rattle.promises.proofs.Accepts.{accepts}

of_list : (K P : ℕ) (vs : List Leaf) (ws : List ℕ) → Valid 8 21 K vs → 0 < length vs → length ws ≡ length vs → Weighty ws → 0 < P → Divided K P vs ws
unfolding prism_to
of_list K P vs ws valid some long weighty positive = by ((shares_laws.promised).fair P ws positive weighty (omega arith))
  where
    by : Fair P ws → Divided K P vs ws
    by fair =
        record {
          owner = λ r cell root sound smallest.
              let one = (cell_laws prism (prism_laws.lawful 21)).once K vs valid r cell root sound smallest in
              record { listed = one; shared = fair.one_share one.which (omega (arith, one.below)) };
          along = (cell_laws prism (prism_laws.lawful 21)).along K vs valid;
          weighed = long;
          fair = fair;
          shares_along = λ s t i j earlier below from to.
              (cell_laws prism (prism_laws.lawful 21)).along K vs valid i j
              (omega (arith, from.to, to.from, boundary_monotone P ws (s + 1) t (omega arith)))
              (omega (arith, to.to, boundary_monotone P ws (t + 1) P (omega arith), fair.to_all));
        }

pub of_accepted : (K P : ℕ) (cs : Columns) (ws column bs : List ℕ) → shares 8 21 K P cs ws column ≡ accepted bs
    → (bs ≡ boundaries P ws) × Divided K P (leaves cs) ws
of_accepted K P cs ws column bs h =
    let d = (accepts.shares K P cs ws column bs).0 h in
    let list = d.list in (
      d.result,
      of_list K P (leaves cs) ws list.valid (omega (arith, list.some, leaves_length cs))
          (omega (arith, d.weighed, leaves_length cs)) d.weighty d.some_share,
    )

-- ---- a grid that is reached
begun_list : (K : ℕ) (vs : List Leaf) → Begun K vs → ValidList 8 21 K (columns_of vs)
begun_list K vs (started level lent is) = uniform_listed 8 21 (omega arith) K level lent vs is
begun_list K vs (loaded bytes lent is) = loads_list 8 21 (omega arith) (omega arith) bytes lent (record { roots = K; leaves = vs }) is

begun_valid : (K : ℕ) (vs : List Leaf) → Begun K vs → (0 < K) × Valid 8 21 K vs
begun_valid K vs begun =
    let list = begun_list K vs begun in (list.some_root, subst (Valid 8 21 K) (leaves_of_columns vs) list.valid)

of_reached : (K P : ℕ) (vs : List Leaf) (ws : List ℕ) → Reached K vs → length ws ≡ length vs → Weighty ws → 0 < P → Divided K P vs ws
of_reached K P vs ws reached =
    let start = begun_valid K reached.beginning reached.begun in
    let valid = steps_valid 8 21 (omega arith) K reached.adaptions reached.beginning vs start.1 reached.steps in
    of_list K P vs ws valid (some_leaf 8 21 K vs start.0 valid)

pub of_grids : OfGrids
of_grids =
    record {
      of_valid = λ K P vs ws some valid. of_list K P vs ws valid (some_leaf 8 21 K vs some valid);
      of_reached = of_reached;
      of_accepted = of_accepted;
    }
