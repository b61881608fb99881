-- All that is promised of the order program. Assumes nothing.
use mathlib.Core.Path.{◌≡◌, refl, ap, ◌∙◌, subst}
use mathlib.Core.Logic.{◌↔◌}
use mathlib.Core.List.{List}
use Prim.Native.Nat.{ℕ, ◌*◌, ◌^◌, ◌≤◌, ◌<◌}
use native.Mathlib.Nat.{one-le-mul, one-le-pow}
use native.Mathlib.Omega.{arith}
use Rattle.paper.specs.Outcome.{accepted}
use Rattle.forms.specs.declared.Form.{Form}
use Rattle.forms.specs.Forms.{given, number_in, read}
use Rattle.forms.proofs.Bounds.{Orderly, in_range_lem, form_clean, form_is, form_orderly}
use Rattle.forms.proofs.Accepting.{form_whole, form_number, form_highest, form_not_above, in_order_lem}
use Rattle.forms.proofs.Enough.{read_first}
use Rattle.fields.specs.Fields.{fields, ended}
use Rattle.text.specs.Text.{decimal, printed}
use Rattle.text.proofs.Room.{boundary_few, printed_few}
use Rattle.text.proofs.Repeating.{field_repeated}
use Rattle.text.proofs.ReadingBack.{decimal_number, decimal_value_back}
use Rattle.orders.specs.Laws.{Ordered, Repeats, ReadsBack, Small, Promised}
use Rattle.orders.proofs.SameShares.{form_same_shares}

form_accepts : (s : List ℕ) (f : Form) → read s ≡ accepted f ↔ Ordered s f
form_accepts s f = (there, back)
  where
    there : read s ≡ accepted f → Ordered s f
    there is =
        let range = in_range_lem (fields s) (form_clean s f is) in
        record {
          seven = (form_whole s f is).0;
          whole = (form_whole s f is).1;
          numbers = form_number s f is;
          some_root = range.some_root;
          few_roots = range.few_roots;
          shallow = form_highest s f is;
          some_share = range.some_share;
          few_shares = range.few_shares;
          not_above = form_not_above s f is;
          few_leaves = range.few_leaves;
          form = form_is s f is;
        }

    back : Ordered s f → read s ≡ accepted f
    back o =
        in_order_lem (fields s) o.seven o.numbers o.some_root o.few_roots o.shallow o.some_share o.few_shares
        o.not_above o.few_leaves (ended s) o.whole
        ∙ ap accepted o.form

form_repeats : (s : List ℕ) (f : Form) → read s ≡ accepted f → Repeats s f
form_repeats s f is =
    subst (Repeats s) (form_is s f is)
    (record {
      order = field 1 (omega arith) (omega arith);
      site = field 2 (omega arith) (omega arith);
      model = field 3 (omega arith) (omega arith);
      roots = field 4 (omega arith) (omega arith);
      level = field 7 (omega arith) (omega arith);
      leaves = refl;
      shares = field 6 (omega arith) (omega arith);
    })
  where
    field : (i : ℕ) → 1 ≤ i → i < 8 → decimal (number_in (fields s) i) ≡ given (fields s) i
    field i low high = field_repeated (fields s) i (form_clean s f is i low high)

reads_back : (n : ℕ) → n < 10 ^ 9 → ReadsBack n
reads_back n below = record { number = decimal_number n below; says = decimal_value_back n below }

form_small : (f : Form) → Orderly f → Small f
form_small f sound =
    let some : 1 ≤ f.roots * 8 ^ f.level = one-le-mul sound.some_root (one-le-pow f.level 8 (omega arith)) in
    record {
      order = sound.short_order;
      site = sound.short_site;
      model = sound.short_model;
      some_root = sound.some_root;
      few_roots = sound.few_roots;
      level = sound.shallow;
      some_leaf = omega (arith, sound.counted);
      few_leaves = sound.few_leaves;
      some_share = sound.some_share;
      few_shares = sound.few_shares;
      boundaries = boundary_few f sound;
    }

pub promised : Promised
promised =
    record {
      accepts = form_accepts;
      first_bytes = λ s. ap printed (read_first s);
      repeats = form_repeats;
      same_shares = λ s f is. form_same_shares f (form_orderly s f is);
      room = λ s. printed_few (read s) (form_orderly s);
      reads_back = reads_back;
      small = λ s f is. form_small f (form_orderly s f is);
    }
