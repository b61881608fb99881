-- The columns that were lent are given back, call after call. Assumes nothing.
use mathlib.Core.Path.{refl, ◌∙◌}
use Rattle.columns.specs.Lent.{SameLoans}
use Rattle.columns.specs.declared.lent.LentColumns.{LentColumns}

pub loans_kept : (m : LentColumns) → SameLoans m m
loans_kept m = record { roots = refl; levels = refl; positions = refl }

pub loans_after : (m m' m'' : LentColumns) → SameLoans m m' → SameLoans m' m'' → SameLoans m m''
loans_after m m' m'' one two = record { roots = two.roots ∙ one.roots; levels = two.levels ∙ one.levels; positions = two.positions ∙ one.positions }
