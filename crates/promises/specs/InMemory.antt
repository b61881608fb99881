-- Demand 3 in memory: what an accepted call leaves in the first entries of the columns, or the first bytes, that it was lent. Definitions only.
--
--   InMemory        of each call that writes: which list, file or boundaries stand there; and a list that stands there is valid, so that every list
--                   call accepts it where its other arguments are right (`Accepts.antt`), and boundaries are those of a division as demand 3 has it
--   InMemoryOverC   the same of each function over C that writes, where its word is 0
--
-- Not here: the bytes that the order program and the converter print (`Printing.antt`), the points of a section (`OfPoints`, `Demand2.antt`).
-- Assumes nothing.
use Rattle.std.specs.Prelude.{◌≡◌, List, ℕ, ◌+◌, take}
use Rattle.paper.specs.Outcome.{accepted, passed}
use Rattle.paper.specs.Refusals.{outcome_of}
use Rattle.std.specs.declared.result.Result.{Result}
use Rattle.paper.specs.declared.Refusal.{Refusal}
use Rattle.tree.specs.Anchors.{HIGHEST}
use Rattle.leaves.specs.Leaves.{CHILDREN, Columns, leaves, columns_of, first_entries, uniform_list}
use Rattle.leaves.specs.Calls.{Started}
use Rattle.leaves.specs.Laws.{ValidList}
use Rattle.adaption.specs.Calls.{Adapted}
use Rattle.adaption.specs.Adaption as adaption
use Rattle.shares.specs.Shares.{boundaries}
use Rattle.shares.specs.Calls.{Shared}
use Rattle.format.specs.File.{file_of}
use Rattle.format.specs.Reading.{grid_at}
use Rattle.writer.specs.Calls.{FileWritten}
use Rattle.reader.specs.Answers.{size, grid_of}
use Rattle.reader.specs.Calls.{FileRead}
use Rattle.reader.specs.declared.Grid as grid
use Rattle.results.specs.declared.NumberResult.{NumberResult}
use Rattle.results.specs.declared.GridResult.{GridResult}
use Rattle.interface.specs.Calls.{UniformResult, AdaptResult, SharesResult, WriteResult, ReadResult}
use Rattle.promises.specs.Demand3.{Divided}

pub record InMemory : Type 0 where
  pub started : (k level N : ℕ) (r : Result ℕ Refusal) (m m' : Columns) → Started k level r m m' → outcome_of r ≡ accepted N
      → (first_entries N m' ≡ columns_of (uniform_list CHILDREN HIGHEST k level)) × ValidList CHILDREN HIGHEST k (first_entries N m')
  pub adapted : (k N : ℕ) (r : Result ℕ Refusal) (cs : Columns) (ms : List ℕ) (m m' : Columns) → Adapted k r cs ms m m' → outcome_of r ≡ accepted N
      → (first_entries N m' ≡ columns_of (adaption.adapted CHILDREN (leaves cs) ms)) × ValidList CHILDREN HIGHEST k (first_entries N m')
  pub shared : (k p : ℕ) (r : Result (Unit {0}) Refusal) (cs : Columns) (ws m m' : List ℕ) → Shared k p r cs ws m m' → outcome_of r ≡ passed
      → (take (p + 1) m' ≡ boundaries p ws) × Divided k p (leaves cs) ws
  pub saved : (k N : ℕ) (r : Result ℕ Refusal) (cs : Columns) (m m' : List ℕ) → FileWritten k r cs m m' → outcome_of r ≡ accepted N
      → take N m' ≡ file_of k (leaves cs)
  pub loaded : (bytes : List ℕ) (K N : ℕ) (r : Result grid.Grid Refusal) (m m' : Columns) → FileRead bytes r m m' → grid_of r ≡ accepted (size K N)
      → (grid_at CHILDREN HIGHEST bytes ≡ accepted (record { roots = K; leaves = leaves (first_entries N m') }))
      × ValidList CHILDREN HIGHEST K (first_entries N m')

pub record InMemoryOverC : Type 0 where
  pub started : (k level : ℕ) (r : NumberResult) (m m' : Columns) → UniformResult k level r m m' → r.refusal ≡ 0
      → (first_entries r.value m' ≡ columns_of (uniform_list CHILDREN HIGHEST k level)) × ValidList CHILDREN HIGHEST k (first_entries r.value m')
  pub adapted : (k : ℕ) (r : NumberResult) (cs : Columns) (ms : List ℕ) (m m' : Columns) → AdaptResult k r cs ms m m' → r.refusal ≡ 0
      → (first_entries r.value m' ≡ columns_of (adaption.adapted CHILDREN (leaves cs) ms)) × ValidList CHILDREN HIGHEST k (first_entries r.value m')
  pub shared : (k p r : ℕ) (cs : Columns) (ws m m' : List ℕ) → SharesResult k p r cs ws m m' → r ≡ 0
      → (take (p + 1) m' ≡ boundaries p ws) × Divided k p (leaves cs) ws
  pub saved : (k : ℕ) (r : NumberResult) (cs : Columns) (m m' : List ℕ) → WriteResult k r cs m m' → r.refusal ≡ 0
      → take r.value m' ≡ file_of k (leaves cs)
  pub loaded : (bytes : List ℕ) (r : GridResult) (m m' : Columns) → ReadResult r bytes m m' → r.refusal ≡ 0
      → (grid_at CHILDREN HIGHEST bytes ≡ accepted (record { roots = r.roots; leaves = leaves (first_entries r.leaves m') }))
      × ValidList CHILDREN HIGHEST r.roots (first_entries r.leaves m')
