-- What is promised: the order's three demands and the paper's starred examples. The contract of `promised` (`src/lib.rt`) is this record, so that the
-- gate fails where one of them is not proved. Definitions only.
--
--   Demand1      of the calls, and over C
--   Demand3      of grids, and what stands in memory
--   Promises     one field for each demand, and one for the starred examples
--
-- Assumes nothing.
use Rattle.promises.specs.Demand1.{OfCalls}
use Rattle.promises.specs.OverC.{OverC}
use Rattle.promises.specs.Demand2.{Demand2}
use Rattle.promises.specs.Demand3.{OfGrids}
use Rattle.promises.specs.InMemory.{InMemory, InMemoryOverC}
use Rattle.promises.specs.Starred.{AllHold, starred}

pub record Demand1 : Type 0 where
  pub of_calls : OfCalls
  pub over_c : OverC

pub record Demand3 : Type 0 where
  pub of_grids : OfGrids
  pub in_memory : InMemory
  pub in_memory_over_c : InMemoryOverC

pub record Promises : Type 0 where
  pub demand_1 : Demand1
  pub demand_2 : Demand2
  pub demand_3 : Demand3
  pub starred_examples : AllHold starred
