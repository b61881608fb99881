-- The calls over C that lend memory: what each returns is the result of its outcome, and the memory is what that outcome leaves.
-- Definitions only.
--
--   count_of o       the result of a call whose value is how many entries or bytes it wrote
--   PointsResult, UniformResult, AdaptResult, SharesResult, WriteResult, ReadResult, OrderResult, ConvertResult
--                    the contracts, of a call that returned r, found the memory m and left m'
--
-- Assumes nothing.
use Rattle.std.specs.Prelude.{List, ℕ, length}
use Rattle.paper.specs.Outcome.{Outcome, mapped}
use Rattle.paper.specs.Memory.{written, Fulfils}
use Rattle.tree.specs.Anchors.{HIGHEST}
use Rattle.corners.specs.declared.Root.{Root}
use Rattle.corners.specs.declared.Point.{Point}
use Rattle.corners.specs.Section.{PointColumns, corner_points, filled}
use Rattle.leaves.specs.Leaves.{CHILDREN, Columns, front}
use Rattle.leaves.specs.Calls.{uniform}
use Rattle.adaption.specs.Calls.{adapt}
use Rattle.shares.specs.Calls.{shares}
use Rattle.format.specs.Reading.{Grid}
use Rattle.writer.specs.Calls.{write}
use Rattle.reader.specs.Calls.{read, size_of}
use Rattle.orders.specs.Calls.{answer}
use Rattle.converter.specs.Calls.{convert}
use Rattle.results.specs.declared.NumberResult.{NumberResult}
use Rattle.results.specs.declared.GridResult.{GridResult}
use Rattle.results.specs.Results.{number_result, pass_result, grid_result}

-- over C the result is its own reading
abbrev itself : {A : Type 0} → A → A
itself r = r

abbrev pub count_of : {A : Type 0} → Outcome (List A) → NumberResult
count_of o = number_result (mapped length o)

abbrev pub PointsResult : ℕ → List ℕ → ℕ → Root → ℕ → PointColumns → PointColumns → Type 0
PointsResult level positions corner root r m m' =
    Fulfils itself (λ o. pass_result (mapped (λ (found : List Point). tt) o)) filled (corner_points level positions corner root m) r m m'

abbrev pub UniformResult : ℕ → ℕ → NumberResult → Columns → Columns → Type 0
UniformResult k level r m m' = Fulfils itself count_of front (uniform CHILDREN HIGHEST k level m) r m m'

abbrev pub AdaptResult : ℕ → NumberResult → Columns → List ℕ → Columns → Columns → Type 0
AdaptResult k r cs marks m m' = Fulfils itself count_of front (adapt CHILDREN HIGHEST k cs marks m) r m m'

abbrev pub SharesResult : ℕ → ℕ → ℕ → Columns → List ℕ → List ℕ → List ℕ → Type 0
SharesResult k p r cs weights m m' =
    Fulfils itself (λ o. pass_result (mapped (λ (boundaries : List ℕ). tt) o)) written (shares CHILDREN HIGHEST k p cs weights m) r m m'

abbrev pub WriteResult : ℕ → NumberResult → Columns → List ℕ → List ℕ → Type 0
WriteResult k r cs m m' = Fulfils itself count_of written (write CHILDREN HIGHEST k cs m) r m m'

abbrev pub ReadResult : GridResult → List ℕ → Columns → Columns → Type 0
ReadResult r bytes m m' =
    Fulfils itself (λ o. grid_result (mapped size_of o)) (λ (g : Grid). front g.leaves) (read CHILDREN HIGHEST bytes m) r m m'

abbrev pub OrderResult : NumberResult → List ℕ → List ℕ → List ℕ → Type 0
OrderResult r input m m' = Fulfils itself count_of written (answer input (length m)) r m m'

abbrev pub ConvertResult : NumberResult → List ℕ → List ℕ → List ℕ → Type 0
ConvertResult r input m m' = Fulfils itself count_of written (convert input (length m)) r m m'
