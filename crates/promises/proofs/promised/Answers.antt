-- `promised` meets its contract: each demand has its proof. Assumes nothing.
use Rattle.promises.proofs.Demand1.{of_calls}
use Rattle.promises.proofs.OverC.{lists_over_c, over_c}
use Rattle.promises.proofs.Demand2.{demand_2}
use Rattle.promises.proofs.Demand3.{of_grids}
use Rattle.promises.proofs.InMemory.{in_memory, in_memory_over_c}
use Rattle.promises.proofs.Starred.{starred_hold}
use Rattle.promises.proofs.promised.Goals as goal

pub returns : goal.returns
returns c =
    record {
      demand_1 = record { of_calls = of_calls; over_c = over_c };
      demand_2 = demand_2;
      demand_3 = record { of_grids = of_grids; in_memory = in_memory; in_memory_over_c = in_memory_over_c lists_over_c };
      starred_examples = starred_hold;
    }
