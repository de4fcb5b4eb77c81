-- A list that ascends is in order and has no element twice.
use Rattle.std.proofs.Common.{◌≡◌, ◌≤◌, ℕ, Bool, true, false, cond, List, [], ◌∷◌, get_or, All, nat_lt, refl, sym, ap, ◌∙◌, arith, ◌==◌}
use Rattle.std.specs.List.{AllByRecursion, IsDistinct}
use Rattle.std.specs.Ordering.{eq_by_cmp, is_eq, is_lt, nat_cmp, on, ordering_reverse}
use Rattle.std.specs.declared.cmp.Ordering.{Ordering}
use Rattle.std.specs.declared.cmp.Ordering.TheVariants.{Less, Equal, Greater}
use Rattle.std.proofs.lemmas.Bool.Decides.{nat_tests}
use Rattle.std.proofs.lemmas.List.Elements.{All-cons, All-head, All-nil, All-tail}
use Rattle.feed_names.specs.ReleaseName.{Name, name_eq, text_of}
use Rattle.feed_model.proofs.Names.{name_is}
use Rattle.feed_model.specs.Content.{Part, names}
use Rattle.feed_parts.specs.Shown.{shown_parts}
use Rattle.feed_keep.specs.declared.record.Record as code
use Rattle.feed_keep.specs.Order.{AreNamesInOrder, ArePartsInOrder, IsInOrder}
use Rattle.feed_keep.specs.Shown.{shown, shown_record}
use Rattle.feed_keep.specs.CheckOrder.{AreNamesAscending, ArePartsAscending}
use Rattle.feed_keep.proofs.Ascending.{name_cmp, name_total, up_pairs}
use Rattle.feed_store_read.proofs.Ascending.{text_itself}
use Rattle.feed_keep.proofs.Strict.{apart_of}

differ : (m n : Name) → eq_by_cmp name_cmp m n ≡ false → name_eq m n ≡ false
differ m n apart = by (name_eq m n) refl
  where
    by : (b : Bool) → name_eq m n ≡ b → b ≡ false
    by false e = refl
    by true e =
        let same : m ≡ n = name_is m n e in
        let tie : true ≡ false = sym (ap is_eq (ap (λ k. name_cmp m k) (sym same) ∙ text_itself (text_of m))) ∙ apart in
        absurd cc

each_differs : (m : Name) (ns : List Name) → AllByRecursion (λ n. eq_by_cmp name_cmp m n ≡ false) ns → AllByRecursion (λ n. name_eq m n ≡ false) ns
each_differs m [] all = tt
each_differs m (n ∷ ns) all = (differ m n all.0, each_differs m ns all.1)

all_differ : (ns : List Name) → IsDistinct (eq_by_cmp name_cmp) ns → IsDistinct name_eq ns
unfolding IsDistinct
all_differ [] d = tt
all_differ (n ∷ ns) d = (each_differs n ns d.0, all_differ ns d.1)

-- no name is there twice
pub names_differ : (ns : List Name) → AreNamesAscending ns → IsDistinct name_eq ns
names_differ ns up = all_differ ns (apart_of name_cmp name_total ns up)

not_before : (x y : Ordering) → x ≡ ordering_reverse y → y ≡ Less → is_lt x ≡ false
not_before x y e h = ap is_lt (e ∙ ap ordering_reverse h)

names_in_order : (ns : List Name) → AreNamesAscending ns → AreNamesInOrder ns
names_in_order ns up i j d lt within =
    let m = get_or ns i d in
    let n = get_or ns j d in
    not_before (name_cmp n m) (name_cmp m n) (name_total.antisymm n m) (up_pairs name_cmp ns up i j d lt within)

below : (m n : ℕ) → nat_cmp m n ≡ Less → m ≤ n
below m n h = by (nat_lt m n) refl (m == n) h
  where
    by : (b : Bool) → nat_lt m n ≡ b → (c : Bool) → cond b Less (cond c Equal Greater) ≡ Less → m ≤ n
    by true e c h = grind (arith, nat_tests)
    by false e true h = absurd cc
    by false e false h = absurd cc

parts_in_order : (ps : List Part) → ArePartsAscending ps → ArePartsInOrder ps
parts_in_order ps up i j d lt within = below _ _ (up_pairs (on (λ p. p.first) nat_cmp) ps up i j d lt within)

abbrev HasUp : code.Record → Type 0
HasUp r = ArePartsAscending (shown_parts r.parts.items)

each_in_order : (rs : List code.Record) → All HasUp rs → All (λ r. ArePartsInOrder r.parts) (shown rs)
each_in_order [] all = All-nil (λ r. ArePartsInOrder r.parts)
each_in_order (r ∷ rs) all = All-cons (λ r. ArePartsInOrder r.parts) (shown_record r) (shown rs) (parts_in_order _ (All-head HasUp r rs all)) (each_in_order rs (All-tail HasUp r rs all))

pub ascending_in_order : (rs : List code.Record) → AreNamesAscending (names (shown rs)) → All (λ r. ArePartsAscending (shown_parts r.parts.items)) rs → IsInOrder (shown rs)
ascending_in_order rs up all = record { records = names_in_order _ up; parts = each_in_order rs all }
