-- `over` meets its contract: the leaf has no fault where the tests have passed. Assumes nothing.
use Rattle.std.proofs.Common.{◌^◌, ap, sym, ◌∙◌, arith}
use native.Mathlib.Nat.{mul-le-mul_right, le_of_lt}
use Rattle.paper.specs.Outcome.{accepted}
use Rattle.paper.proofs.Scan.{fault_none}
use Rattle.leaves.specs.Lists.{leaf_of}
use Rattle.leaves.specs.Inner.{spot_of}
use Rattle.leaves.proofs.Shift.{root_cells}
use Rattle.leaves.proofs.Steps.{product_is, faultless}
use Rattle.leaves.proofs.step.over.Goals as goal

pub overflow_mul-leaf : goal.overflow_mul-leaf
overflow_mul-leaf c =
    let a = c.args in
    omega (
      arith,
      mul-le-mul_right c.of_children-cells.result (le_of_lt c.if-of_children-leaf.false),
      product_is (2 ^ a.bits) a.highest a.k (spot_of a.at) (leaf_of a.leaf) c.of_children.result c.of_children-cells.result c.if-highest-leaf.false c.of_children.ensures c.of_children-cells.ensures,
      root_cells a.bits a.highest c.requires,
    )

pub returns : goal.returns
returns c =
    let a = c.args in
    sym (
    fault_none _ a.place _ (faultless (2 ^ a.bits) a.highest a.k (spot_of a.at) (leaf_of a.leaf) c.of_children.result c.of_children-cells.result c.if-highest-leaf.false c.of_children.ensures c.of_children-cells.ensures c.if-of_children-leaf.false c.if-k-leaf.false c.if-leaf-at.false c.if-leaf-cells.false)
    ∙ ap accepted (sym c.of_children-cells.ensures)
    )
