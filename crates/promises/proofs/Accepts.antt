-- When each call on lists and files accepts: it is a chain of tests, and it accepts exactly when each of them passes. Assumes nothing.
use mathlib.Core.Path.{◌≡◌, refl, ap, sym, subst}
use mathlib.Core.Logic.Iff
use mathlib.Core.Logic.{◌↔◌}
use mathlib.Core.Bool.{Bool, true, false, not, ◌&&◌, and-eq-true_iff}
use mathlib.Core.List.{List}
use Prim.Native.Nat.{ℕ, ◌+◌, ◌*◌, ◌^◌, ◌≤◌, ◌<◌}
use native.Mathlib.Omega.{arith}
use lib.Dec.{ltb, eqb}
use lib.ListN.{length}
use Rattle.paper.specs.Outcome.{Outcome, accepted, passed}
use Rattle.leaves.specs.Leaves.{Leaf, Columns, leaves, room, equal_columns, uniform_list}
use Rattle.leaves.specs.Calls.{limit, most, out_of_range, uniform}
use Rattle.leaves.specs.Laws.{ValidList}
use Rattle.leaves.proofs.Listed.{columns_sound, valid_passes}
use Rattle.balance.specs.Balance.{is_balanced, Balanced, balanced}
use Rattle.balance.proofs.Exactly.{exact}
use Rattle.marks.specs.Marks.{marked}
use Rattle.adaption.specs.Adaption.{adapted}
use Rattle.adaption.specs.Calls.{adapt}
use Rattle.adaption.proofs.Marks.{marks_exactly}
use Rattle.shares.specs.Shares.{boundaries}
use Rattle.shares.specs.Calls.{shares}
use Rattle.shares.specs.Laws.{Weighty}
use Rattle.numbers.specs.Laws.{Bytes}
use Rattle.format.specs.File.{file_of}
use Rattle.format.specs.Reading.{Grid}
use Rattle.format.specs.Laws.{FileOf}
use Rattle.writer.specs.Calls.{write}
use Rattle.reader.specs.Calls.{read}
use Rattle.gridfile.proofs.Exactly.{read_exactly}
use Rattle.promises.specs.Accepts.{Lent, Starts, TellsBalance, Adapts, Divides, Saves, Loads, Accepts}
use Rattle.promises.proofs.TestsInTurn.{in_range_is, at_most, lent_is, not_is, range_of, equal_is, always, after, enough_room, after_list, after_weights, after_marks}

uniform_is : (K l : ℕ) (m : Columns) (ws : List Leaf) → uniform 8 21 K l m ≡ accepted ws ↔ Starts K l m ws
uniform_is K l m ws = (
  (λ h.
      let t = chain.0 h in
      record {
        some_root = t.0.0;
        few_roots = t.0.1;
        lent = t.1.0;
        shallow = t.1.1.0;
        few = t.1.1.1.0;
        enough = t.1.1.1.1.0;
        result = t.1.1.1.1.1;
      }),
  (λ s. chain.1 ((s.some_root, s.few_roots), (s.lent, (s.shallow, (s.few, (s.enough, s.result)))))),
)
  where
    chain : uniform 8 21 K l m ≡ accepted ws
        ↔ (((0 < K) × (K ≤ most)) × (Lent m × ((l ≤ 21) × ((K * 8 ^ l ≤ limit) × ((K * 8 ^ l ≤ room m) × (ws ≡ uniform_list 8 21 K l))))))
    chain =
        after (out_of_range K) 17 0 (in_range_is K)
        (after (not (equal_columns m)) 11 0 (not_is (equal_columns m) (lent_is m))
        (after (ltb 21 l) 1 0 (at_most 21 l)
        (after (ltb limit (K * 8 ^ l)) 15 0 (at_most limit (K * 8 ^ l))
        (enough_room (K * 8 ^ l) (room m) (uniform_list 8 21 K l)))))

balanced_is : (K : ℕ) (cs : Columns) (b : Bool) → balanced 8 21 K cs ≡ accepted b ↔ TellsBalance K cs b
balanced_is K cs b = (
  (λ h. let t = chain.0 h in record { list = t.0; result = t.1.1.1 }),
  (λ s. chain.1 (s.list, (tt, (tt, s.result)))),
)
  where
    same : (x y : Bool) → (x ≡ true → y ≡ true) → (y ≡ true → x ≡ true) → x ≡ y
    same true y f g = sym (f refl)
    same false true f g = g refl
    same false false f g = refl

    answer : (vs : List Leaf) → ◌≡◌ {A = Outcome Bool} (accepted (is_balanced vs)) (accepted b) ↔ (b ≡ true ↔ Balanced vs)
    answer vs = (
      (λ h. let is : is_balanced vs ≡ b = cc in subst (λ (x : Bool). x ≡ true ↔ Balanced vs) is (exact vs)),
      (λ f. ap accepted (same (is_balanced vs) b (λ h. f.1 ((exact vs).0 h)) (λ h. (exact vs).1 (f.0 h)))),
    )

    chain : balanced 8 21 K cs ≡ accepted b ↔ (ValidList 8 21 K cs × (Unit {0} × (Unit {0} × (b ≡ true ↔ Balanced (leaves cs)))))
    chain = after_list K true true cs always always (answer (leaves cs))

adapt_is : (K : ℕ) (cs : Columns) (ms : List ℕ) (m : Columns) (ws : List Leaf) → adapt 8 21 K cs ms m ≡ accepted ws ↔ Adapts K cs ms m ws
adapt_is K cs ms m ws = (
  (λ h.
      let t = chain.0 h in
      let fitting = t.1.1.0 in
      let size = t.1.1.1.1 in
      let marks = (marks_exactly 8 21 cs ms t.0.levels_long fitting.0).0 t.1.1.1.0 in
      let long = ap length size.1.1 in
      record {
        list = t.0;
        marked = fitting.0;
        lent = fitting.1;
        known = marks.0;
        refinable = marks.1;
        few = omega (arith, size.0, long);
        enough = omega (arith, size.1.0, long);
        result = size.1.1;
      }),
  (λ s.
      let marks = (marks_exactly 8 21 cs ms s.list.levels_long s.marked).1 (s.known, s.refinable) in
      let long = ap length s.result in
      chain.1 (s.list, (tt, ((s.marked, s.lent), (marks, (omega (arith, s.few, long), (omega (arith, s.enough, long), s.result))))))),
)
  where
    chain : adapt 8 21 K cs ms m ≡ accepted ws
        ↔ (ValidList 8 21 K cs × (Unit {0} × (((length ms ≡ room cs) × Lent m) × ((marked 21 cs.levels ms passed ≡ passed)
        × ((length (adapted 8 (leaves cs) ms) ≤ limit) × ((length (adapted 8 (leaves cs) ms) ≤ room m) × (ws ≡ adapted 8 (leaves cs) ms)))))))
    chain =
        let new = adapted 8 (leaves cs) ms in
        after_list K true (eqb (room cs) (length ms) && equal_columns m) cs always
        (Iff.trans (and-eq-true_iff (eqb (room cs) (length ms)) (equal_columns m)) (Iff.and (equal_is (room cs) (length ms)) (lent_is m)))
        (after_marks cs.levels ms
        (after (ltb limit (length new)) 15 0 (at_most limit (length new))
        (enough_room (length new) (room m) new)))

shares_is : (K P : ℕ) (cs : Columns) (ws column bs : List ℕ) → shares 8 21 K P cs ws column ≡ accepted bs ↔ Divides K P cs ws column bs
shares_is K P cs ws column bs = (
  (λ h.
      let t = chain.0 h in
      record {
        list = t.0;
        some_share = t.1.0.0;
        few_shares = t.1.0.1;
        weighed = t.1.1.0;
        weighty = t.1.1.1.0;
        enough = t.1.1.1.1.0;
        result = t.1.1.1.1.1;
      }),
  (λ d. chain.1 (d.list, ((d.some_share, d.few_shares), (d.weighed, (d.weighty, (d.enough, d.result)))))),
)
  where
    chain : shares 8 21 K P cs ws column ≡ accepted bs
        ↔ (ValidList 8 21 K cs × (((0 < P) × (P ≤ most)) × ((length ws ≡ room cs) × (Weighty ws × ((P + 1 ≤ length column) × (bs ≡ boundaries P ws))))))
    chain =
        after_list K (not (out_of_range P)) (eqb (room cs) (length ws)) cs (range_of P) (equal_is (room cs) (length ws))
        (after_weights ws (enough_room (P + 1) (length column) (boundaries P ws)))

write_is : (K : ℕ) (cs : Columns) (bytes file : List ℕ) → write 8 21 K cs bytes ≡ accepted file ↔ Saves K cs bytes file
write_is K cs bytes file = (
  (λ h. let t = chain.0 h in record { list = t.0; enough = omega (arith, t.1.1.1.0, ap length t.1.1.1.1); result = t.1.1.1.1 }),
  (λ s. chain.1 (s.list, (tt, (tt, (omega (arith, s.enough, ap length s.result), s.result))))),
)
  where
    chain : write 8 21 K cs bytes ≡ accepted file
        ↔ (ValidList 8 21 K cs × (Unit {0} × (Unit {0} × ((length (file_of K (leaves cs)) ≤ length bytes) × (file ≡ file_of K (leaves cs))))))
    chain = after_list K true true cs always always (enough_room (length (file_of K (leaves cs))) (length bytes) (file_of K (leaves cs)))

read_is : (bytes : List ℕ) (m : Columns) (g : Grid) → Bytes bytes → read 8 21 bytes m ≡ accepted g ↔ Loads bytes m g
read_is bytes m g all = (
  (λ h. let t = whole.0 h in record { lent = (lent_is m).0 t.0; enough = t.1.1; result = t.1.0 }),
  (λ s. whole.1 ((lent_is m).1 s.lent, (s.result, s.enough))),
)
  where
    whole : read 8 21 bytes m ≡ accepted g ↔ ((equal_columns m ≡ true) × (FileOf 8 21 bytes g × (length g.leaves ≤ room m)))
    whole = read_exactly 8 21 (omega arith) (omega arith) bytes m g all

pub accepts : Accepts
accepts =
    record {
      check = λ K cs. (columns_sound 8 21 K true true cs, valid_passes 8 21 K cs);
      uniform = uniform_is;
      balanced = balanced_is;
      adapt = adapt_is;
      shares = shares_is;
      write = write_is;
      read = read_is;
    }
