-- What an accepted call leaves in the lent memory: the first entries are its list, or its boundaries. Assumes nothing.
use mathlib.Core.Path.{◌≡◌, ap, ap₂, ◌∙◌, sym, subst}
use mathlib.Core.List.{List}
use Prim.Native.Nat.{ℕ, ◌+◌}
use native.Mathlib.Omega.{arith}
use lib.ListN.{length, take}
use Rattle.paper.specs.Outcome.{Outcome, accepted, mapped}
use Rattle.paper.specs.Memory.{written, Fulfils}
use Rattle.paper.specs.Refusals.{outcome_of}
use Rattle.std.specs.declared.result.Result.{Result}
use Rattle.paper.specs.declared.Refusal.{Refusal}
use Rattle.paper.proofs.Memory.{gave}
use Rattle.leaves.specs.Leaves.{Leaf, Columns, leaves, columns_of, first_entries, front, uniform_list}
use Rattle.leaves.specs.Calls.{uniform}
use Rattle.leaves.specs.Laws.{ValidList}
use Rattle.leaves.proofs.Columns.{first_of}
use Rattle.leaves.proofs.Entries.{leaves_of_columns}
use Rattle.leaves.proofs.UniformValid.{uniform_listed}
use Rattle.adaption.specs.Adaption.{adapted}
use Rattle.adaption.specs.Calls.{adapt}
use Rattle.adaption.proofs.Promised.{adapt_listed}
use Rattle.shares.specs.Shares.{boundaries}
use Rattle.shares.specs.Calls.{shares}
use Rattle.shares.proofs.Promised.{promised}
use Rattle.format.specs.Reading.{Grid, grid_at}
use Rattle.writer.specs.Calls.{write}
use Rattle.reader.specs.Answers.{Size, size, grid_of}
use Rattle.reader.specs.Calls.{read, size_of}
use Rattle.gridfile.proofs.RoundTrip.{loads_list, read_grid, wrote_file}
use Rattle.results.specs.Results.{pass_result, grid_result}
use Rattle.results.specs.Laws.{numbers, words, grids}
use Rattle.results.specs.declared.NumberResult.{NumberResult}
use Rattle.results.specs.declared.GridResult.{GridResult}
use Rattle.interface.specs.Calls.{count_of}
use Rattle.promises.specs.Demand3.{Divided}
use Rattle.promises.specs.InMemory.{InMemory, InMemoryOverC}
use Rattle.promises.specs.OverC.{Flat, ListsOverC}
use Rattle.promises.proofs.Flat.{returned, front_bytes, count_value}
use Rattle.promises.proofs.Accepts.{accepts}
use Rattle.promises.proofs.Demand3.{of_accepted}

-- ---- what stands in front
-- the columns are those of a list, which is valid
abbrev Stored : ℕ → List Leaf → Columns → Type 0
Stored k ws cs = (cs ≡ columns_of ws) × ValidList 8 21 k cs

front_list : (k : ℕ) (ws : List Leaf) (m m' : Columns) (N : ℕ) → ValidList 8 21 k (columns_of ws) → m' ≡ front ws m → length ws ≡ N
    → Stored k ws (first_entries N m')
front_list k ws m m' N valid is long = let here = first_of ws m m' N is long in (here, subst (ValidList 8 21 k) (sym here) valid)

front_boundaries : (k p : ℕ) (cs : Columns) (ws m m' bs : List ℕ) → shares 8 21 k p cs ws m ≡ accepted bs → m' ≡ written bs m
    → (take (p + 1) m' ≡ boundaries p ws) × Divided k p (leaves cs) ws
front_boundaries k p cs ws m m' bs is kept =
    let both = of_accepted k p cs ws m bs is in
    (front_bytes bs m m' (p + 1) kept (ap length both.0 ∙ promised.many p ws) ∙ both.0, both.1)

front_grid : (bytes : List ℕ) (m m' : Columns) (g : Grid) (K N : ℕ) → read 8 21 bytes m ≡ accepted g → m' ≡ front g.leaves m → g.roots ≡ K
    → length g.leaves ≡ N
    → (grid_at 8 21 bytes ≡ accepted (record { roots = K; leaves = leaves (first_entries N m') })) × ValidList 8 21 K (first_entries N m')
front_grid bytes m m' g K N is kept roots long =
    let valid = subst (λ (k : ℕ). ValidList 8 21 k (columns_of g.leaves)) roots (loads_list 8 21 (omega arith) (omega arith) bytes m g is) in
    let here = front_list K g.leaves m m' N valid kept long in
    let same : leaves (first_entries N m') ≡ g.leaves = ap leaves here.0 ∙ leaves_of_columns g.leaves in (
      read_grid 8 21 (omega arith) (omega arith) bytes m g is
          ∙ ap accepted (ap₂ (λ (k : ℕ) (vs : List Leaf). record { roots = k; leaves = vs }) roots (sym same)),
      here.1,
    )

-- ---- the calls
module _ (k : ℕ) (due : Outcome (List Leaf)) (vs : List Leaf) (is_list : (ws : List Leaf) → due ≡ accepted ws → ValidList 8 21 k (columns_of ws))
    (which : (ws : List Leaf) → due ≡ accepted ws → ws ≡ vs) where
  listed_as : (ws : List Leaf) (m m' : Columns) (N : ℕ) → due ≡ accepted ws → m' ≡ front ws m → length ws ≡ N → Stored k vs (first_entries N m')
  listed_as ws m m' N is kept long =
      let here = front_list k ws m m' N (is_list ws is) kept long in (here.0 ∙ ap columns_of (which ws is), here.1)

  given : (N : ℕ) (r : Result ℕ Refusal) (m m' : Columns) → Fulfils outcome_of (mapped length) front due r m m' → outcome_of r ≡ accepted N
      → Stored k vs (first_entries N m')
  given N r m m' f e = let a = gave outcome_of length front due r m m' N f e in listed_as a.0 m m' N a.1.0 a.1.1.1 a.1.1.0

pub in_memory : InMemory
in_memory =
    record {
      started = λ k level N r m m'.
          given k (uniform 8 21 k level m) (uniform_list 8 21 k level) (uniform_listed 8 21 (omega arith) k level m)
          (λ ws is. ((accepts.uniform k level m ws).0 is).result) N r m m';
      adapted = λ k N r cs ms m m'.
          given k (adapt 8 21 k cs ms m) (adapted 8 (leaves cs) ms) (adapt_listed 8 21 (omega arith) k cs ms m)
          (λ ws is. ((accepts.adapt k cs ms m ws).0 is).result) N r m m';
      shared = λ k p r cs ws m m' f e.
          let a = gave outcome_of (λ (boundaries : List ℕ). tt) written (shares 8 21 k p cs ws m) r m m' tt f e in
          front_boundaries k p cs ws m m' a.0 a.1.0 a.1.1.1;
      saved = λ k N r cs m m' f e.
          let a = gave outcome_of length written (write 8 21 k cs m) r m m' N f e in
          front_bytes a.0 m m' N a.1.1.1 a.1.1.0 ∙ sym (wrote_file 8 21 k cs m a.0 a.1.0);
      loaded = λ bytes K N r m m' f e.
          let a = gave grid_of size_of (λ (g : Grid). front g.leaves) (read 8 21 bytes m) r m m' (size K N) f e in
          front_grid bytes m m' a.0 K N a.1.0 a.1.1.1 (ap (λ (s : Size). s.roots) a.1.1.0) (ap (λ (s : Size). s.leaves) a.1.1.0);
    }

-- ---- over C: what a word of 0 tells
grid_value : (g : Grid) (r : GridResult) → r ≡ grid_result (mapped size_of (accepted g)) → (g.roots ≡ r.roots) × (length g.leaves ≡ r.leaves)
unfolding grid_result
grid_value g r is = (sym (ap (λ (r : GridResult). r.roots) is), sym (ap (λ (r : GridResult). r.leaves) is))

module _ (k : ℕ) (due : Outcome (List Leaf)) (vs : List Leaf) (is_list : (ws : List Leaf) → due ≡ accepted ws → ValidList 8 21 k (columns_of ws))
    (which : (ws : List Leaf) → due ≡ accepted ws → ws ≡ vs) where
  given_over_c : {ns : List ℕ} {most : ℕ} (r : NumberResult) (m m' : Columns)
      → Flat numbers ns most due m (λ r m'. Fulfils (λ (r : NumberResult). r) count_of front due r m m')
      → Fulfils (λ (r : NumberResult). r) count_of front due r m m' → r.refusal ≡ 0 → Stored k vs (first_entries r.value m')
  given_over_c r m m' flat f zero =
      let a = returned numbers count_of front due r m m' flat f zero in
      listed_as k due vs is_list which a.0 m m' r.value a.1.0 a.1.1.1 (count_value a.0 r a.1.1.0)

pub in_memory_over_c : ListsOverC → InMemoryOverC
in_memory_over_c calls =
    record {
      started = λ k level r m m'.
          given_over_c k (uniform 8 21 k level m) (uniform_list 8 21 k level) (uniform_listed 8 21 (omega arith) k level m)
          (λ ws is. ((accepts.uniform k level m ws).0 is).result) r m m'
          (calls.uniform k level m);
      adapted = λ k r cs ms m m'.
          given_over_c k (adapt 8 21 k cs ms m) (adapted 8 (leaves cs) ms) (adapt_listed 8 21 (omega arith) k cs ms m)
          (λ ws is. ((accepts.adapt k cs ms m ws).0 is).result) r m m'
          (calls.adapt k cs ms m);
      shared = λ k p r cs ws m m' f zero.
          let a = returned words (λ o. pass_result (mapped (λ (boundaries : List ℕ). tt) o)) written (shares 8 21 k p cs ws m) r m m' (calls.shares k p cs ws m) f zero in
          front_boundaries k p cs ws m m' a.0 a.1.0 a.1.1.1;
      saved = λ k r cs m m' f zero.
          let a = returned numbers count_of written (write 8 21 k cs m) r m m' (calls.write k cs m) f zero in
          front_bytes a.0 m m' r.value a.1.1.1 (count_value a.0 r a.1.1.0) ∙ sym (wrote_file 8 21 k cs m a.0 a.1.0);
      loaded = λ bytes r m m' f zero.
          let a = returned grids (λ o. grid_result (mapped size_of o)) (λ (g : Grid). front g.leaves) (read 8 21 bytes m) r m m' (calls.read bytes m) f zero in
          let same = grid_value a.0 r a.1.1.0 in
          front_grid bytes m m' a.0 r.roots r.leaves a.1.0 a.1.1.1 same.0 same.1;
    }
