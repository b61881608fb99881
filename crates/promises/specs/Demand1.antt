-- The order's first demand: "Every element, list, file or order handed in gets either its one result or one numbered refusal. A refused call
-- writes nothing into the columns or buffers we lent, and it never depends on our having checked first." Definitions only.
--
-- That it never depends on a check before is that no public function has a `requires`, but for the work that a shape owes the traits of `tree`, which
-- no caller of a call meets; `.ci/run` looks for one. The rest is said here of every call that answers a refusal or is lent memory to write into, by its
-- contract. Every other public function has a contract `result ≡ ..`, with nothing of the result on the right, so that two of its results are equal, but
-- `promised`, which answers nothing, and `read_full` of `orders`, which fills a line from what a reader gives, whatever that is. The same over C is
-- `OverC.antt`.
--
--   Call f ns most m C     a call with the contract C that finds the memory m: two runs have the same answer and leave the same memory; where the
--                          answer's reading f is a refusal, the memory is what it was, its number is one of ns, and its place at most `most`
--   Answer f ns most o     the same for a call that is lent nothing to write into: its contract is that its answer's reading is o
--   OnElements S fs        the calls on the elements of a shape; fs are the numbers of the checks on an element, 1 among them, which is also that
--                          of a level asked for. Also what of its work for the calls may refuse: the checks, at any place, and the step across a face
--   filed                  no offset in a file up to its first fault, and no file's length, is larger: four bytes, K, R, and at most 1,048,576
--                          runs of two numbers of three bytes
--   OnLists                the calls on lists and files
--   OnParts                functions that only this house calls: order of `tree`, check of `positions` and of `marks`, number_at of `numbers`,
--                          head_at and sound of `sounding`, lay of `columns`, number_at of `fields`, answer, print, answer_refusal, print_refusal
--                          and lay of `text`. The two that print and lay are
--                          no calls of the paper: they write what has room, and the two answer how many bytes there are. Their words:
--                          `tree/specs/Words.antt`, `positions/specs/Positions.antt`, `marks/specs/Marks.antt`,
--                          `numbers/specs/Numbers.antt`, `sounding/specs/Answers.antt`, `columns/specs/Laying.antt`, `text/specs/Text.antt`,
--                          and `Inner.antt` of `fields` and `text`
--   OfCalls                demand 1
--
-- Assumes nothing.
use Rattle.std.specs.Prelude.{◌≡◌, Bool, List, [], ◌∷◌, ℕ, ◌+◌, ◌*◌, ◌≤◌, length}
use Rattle.std.proofs.lemmas.List.Edits.{sets}
use Rattle.paper.specs.Outcome.{Outcome, accepted, refused, same, fault_at}
use Rattle.paper.specs.Memory.{Decided, Spared}
use Rattle.paper.specs.Refusals.{outcome_of, ordering_of, order_of}
use Rattle.std.specs.declared.cmp.Ordering.{Ordering}
use Rattle.tree.specs.Anchors.{HIGHEST}
use Rattle.tree.specs.Shape.{Shape}
use Rattle.tree.specs.Words.{compared}
use Rattle.line.specs.Elements.{line}
use Rattle.triangle.specs.Elements.{triangle}
use Rattle.prism.specs.Elements.{prism}
use Rattle.leaves.specs.Leaves.{CHILDREN, Columns}
use Rattle.leaves.specs.Calls.{limit, check_list, Started}
use Rattle.columns.specs.Laying.{Laid}
use Rattle.marks.specs.Marks.{check_marks}
use Rattle.adaption.specs.Calls.{Adapted}
use Rattle.shares.specs.Calls.{Shared}
use Rattle.balance.specs.Balance.{balanced}
use Rattle.numbers.specs.Numbers.{number_at}
use Rattle.numbers.specs.Answers.{found_of}
use Rattle.format.specs.Reading.{Head, head_at, sound}
use Rattle.writer.specs.Calls.{FileWritten}
use Rattle.sounding.specs.Answers.{head_of, Tells}
use Rattle.sounding.specs.declared.Sounding.{Sounding}
use Rattle.reader.specs.Answers.{grid_of}
use Rattle.reader.specs.Calls.{FileRead}
use Rattle.positions.specs.Positions.{check_positions}
use Rattle.corners.specs.declared.Root.{Root}
use Rattle.corners.specs.CornerPoints.{corner_point}
use Rattle.corners.specs.Section.{PointColumns, SectionFilled}
use Rattle.forms.specs.Forms.{form_of}
use Rattle.text.specs.Text.{Prints, longest_output}
use Rattle.text.specs.Inner.{Put}
use Rattle.orders.specs.Calls.{Answered}
use Rattle.converter.specs.Converter.{longest_line}
use Rattle.converter.specs.Calls.{Converts}
use Rattle.tree.specs.Calls as calls
use Rattle.fields.specs.Inner as fields
use Rattle.forms.specs.Forms as forms
use Rattle.promises.specs.Refusals.{Refuses}

pub record Call {R B M : Type 0} (reading : R → Outcome B) (numbers : List ℕ) (most : ℕ) (m : M) (C : R → M → Type 0) : Type 0 where
  pub one : Decided C
  pub spared : Spared reading m C
  pub refusals : (r : R) (m' : M) → C r m' → Refuses numbers most (reading r)

abbrev pub Answer : {R A : Type 0} → (R → Outcome A) → List ℕ → ℕ → Outcome A → Type 0
Answer {R} reading numbers most due = Call {M = Unit {0}} reading numbers most tt (λ (r : R) (m' : Unit {0}). reading r ≡ due)

-- ---- elements
pub record OnElements {E : Type 0} (S : Shape E) (faults : List ℕ) : Type 0 where
  pub at : (l p : ℕ) → Answer {A = E} outcome_of (1 ∷ 5 ∷ []) 0 (calls.at S l p)
  pub position : (e : E) → Answer outcome_of faults 0 (calls.position S e)
  pub parent : (e : E) → Answer {A = E} outcome_of (6 ∷ faults) 0 (calls.parent S e)
  pub child : (e : E) (i : ℕ) → Answer {A = E} outcome_of (7 ∷ 8 ∷ faults) 0 (calls.child S e i)
  pub successor : (e : E) → Answer {A = E} outcome_of (9 ∷ faults) 0 (calls.successor S e)
  pub first : (e : E) (l : ℕ) → Answer {A = E} outcome_of (6 ∷ faults) 0 (calls.first S e l)
  pub last : (e : E) (l : ℕ) → Answer {A = E} outcome_of (6 ∷ faults) 0 (calls.last S e l)
  pub neighbour : (e : E) (i : ℕ) → Answer {A = E} outcome_of (8 ∷ 10 ∷ faults) 0 (calls.neighbour S e i)
  pub family : (equal : Bool) (es : List E) → Answer outcome_of (11 ∷ faults) (length es) (calls.family S equal es)
  pub order : (e f : E) → Answer ordering_of faults 1 (calls.order S e f)
  pub check : (e : E) (place : ℕ) → Answer outcome_of faults place (fault_at (S.fault e) place)
  pub across : (e : E) (i : ℕ) → Answer {A = E} outcome_of (10 ∷ []) 0 (S.neighbour e i)

-- ---- lists and files
abbrev pub filed : ℕ
filed = 10 + 6 * limit

pub record OnLists : Type 0 where
  pub check : (k : ℕ) (cs : Columns) → Answer outcome_of (17 ∷ 11 ∷ 1 ∷ 5 ∷ 12 ∷ []) limit (check_list CHILDREN HIGHEST k cs)
  pub uniform : (k level : ℕ) (m : Columns)
      → Call outcome_of (17 ∷ 11 ∷ 1 ∷ 15 ∷ 14 ∷ []) limit m (λ r m'. Started k level r m m')
  pub balanced : (k : ℕ) (cs : Columns) → Answer outcome_of (17 ∷ 11 ∷ 1 ∷ 5 ∷ 12 ∷ []) limit (balanced CHILDREN HIGHEST k cs)
  pub adapt : (k : ℕ) (cs : Columns) (ms : List ℕ) (m : Columns)
      → Call outcome_of (17 ∷ 11 ∷ 1 ∷ 5 ∷ 12 ∷ 13 ∷ 7 ∷ 15 ∷ 14 ∷ []) limit m (λ r m'. Adapted k r cs ms m m')
  pub shares : (k p : ℕ) (cs : Columns) (ws m : List ℕ)
      → Call outcome_of (17 ∷ 11 ∷ 1 ∷ 5 ∷ 12 ∷ 16 ∷ 14 ∷ []) limit m (λ r m'. Shared k p r cs ws m m')
  pub write : (k : ℕ) (cs : Columns) (m : List ℕ)
      → Call outcome_of (17 ∷ 11 ∷ 1 ∷ 5 ∷ 12 ∷ 14 ∷ []) filed m (λ r m'. FileWritten k r cs m m')
  pub read : (bytes : List ℕ) (m : Columns)
      → Call grid_of (11 ∷ 18 ∷ 19 ∷ 20 ∷ 17 ∷ 21 ∷ 1 ∷ 15 ∷ 12 ∷ 22 ∷ 14 ∷ []) filed m (λ r m'. FileRead bytes r m m')

pub record OnParts : Type 0 where
  pub order : (first level second other : ℕ) → Answer (λ (r : Ordering). accepted (order_of r)) [] 0 (accepted (compared first second (compared level other same)))
  pub check_positions : (l : ℕ) (ps : List ℕ) → Answer outcome_of (1 ∷ 5 ∷ []) (length ps) (check_positions l ps)
  pub check_marks : (highest : ℕ) (ls ms : List ℕ) → Answer outcome_of (11 ∷ 13 ∷ 7 ∷ []) (length ms) (check_marks highest ls ms)
  pub number_at : (bytes : List ℕ) (i : ℕ) → Answer found_of (19 ∷ 20 ∷ []) i (number_at bytes i)
  pub head_at : (bytes : List ℕ) → Answer head_of (18 ∷ 19 ∷ 20 ∷ 17 ∷ 21 ∷ []) 6 (head_at bytes)
  pub sound : (bytes : List ℕ) (h : Head)
      → Call {M = Unit {0}} (λ (r : Sounding). outcome_of r.fault) (19 ∷ 20 ∷ 1 ∷ 21 ∷ 15 ∷ 12 ∷ 22 ∷ []) (h.next + 6 * h.runs) tt
      (λ r m'. Tells r (sound CHILDREN HIGHEST bytes h))
  pub lay : (at k root level position : ℕ) (m : Columns) → Decided (λ count m'. Laid at k root level position count m m')
  pub field_number : (s : List ℕ) (at : ℕ) → Answer fields.numbered_of (23 ∷ []) 0 (fields.number_at s at)
  pub answer : (bytes m : List ℕ) → Call outcome_of (14 ∷ []) (length bytes) m (λ r m'. Prints bytes r m m')
  pub print : (bytes m : List ℕ) → Decided (λ end m'. Put bytes 0 m m' end)
  pub lay_bytes : (at : ℕ) (bytes m : List ℕ) → Decided (λ (r : Unit {0}) m'. m' ≡ sets m at bytes)

pub record OfCalls : Type 0 where
  pub on_lines : OnElements line (1 ∷ 2 ∷ [])
  pub on_triangles : OnElements triangle (1 ∷ 2 ∷ 3 ∷ 4 ∷ [])
  pub on_prisms : OnElements prism (1 ∷ 2 ∷ 3 ∷ 4 ∷ [])
  pub on_lists : OnLists
  pub on_points : (l p i : ℕ) (r : Root) → Answer outcome_of (1 ∷ 5 ∷ 8 ∷ 24 ∷ []) 0 (corner_point l p i r)
  pub on_sections : (l : ℕ) (ps : List ℕ) (i : ℕ) (r : Root) (m : PointColumns)
      → Call outcome_of (11 ∷ 1 ∷ 5 ∷ 8 ∷ 24 ∷ []) (length ps) m (λ a m'. SectionFilled l ps i r a m m')
  pub on_orders : (input m : List ℕ) → Call outcome_of (14 ∷ []) longest_output m (λ r m'. Answered r input m m')
  pub on_stored : (input m : List ℕ) → Call outcome_of (14 ∷ []) longest_line m (λ r m'. Converts r input m m')
  pub on_forms : (input : List ℕ) → Answer form_of (1 ∷ 15 ∷ 17 ∷ 23 ∷ []) 8 (forms.read input)
  pub field_from_1 : (input : List ℕ) (number field : ℕ) → forms.read input ≡ refused number field → 1 ≤ field
  pub on_parts : OnParts
