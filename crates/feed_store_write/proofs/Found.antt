-- A table that a schema has exactly if a test of the one under its name holds.
use Rattle.std.proofs.Common.{◌≡◌, ◌↔◌, ◌&&◌, Bool, IsTrue, Some, refl, sym, ap, subst, ◌∙◌}
use Rattle.sqlite.specs.Schema.{Schema}
use Rattle.sqlite.specs.Table.{Table}
use Rattle.feed_store_write.proofs.Terms.{both}
use Rattle.feed_store_model.specs.Others.{HasNoOtherKey, HasTable, in_tree, table_of}

of_both : (a b : Bool) → IsTrue a → IsTrue b → IsTrue (a && b)
of_both a b x y = rw (x, y) refl

module _ (schema : Schema) (table found : Table) (a b : Bool) (here : table_of schema table.name ≡ Some found) (same : IsTrue a ↔ (found ≡ in_tree table found.tree))
    (keyed : IsTrue b ↔ HasNoOtherKey schema found) where
  has_table : IsTrue (a && b) → HasTable schema table
  has_table h =
      let t = both a b h in
      let e = same.0 t.0 in record { tree = found.tree; is = here ∙ ap Some e; keys = subst (HasNoOtherKey schema) e (keyed.0 t.1) }

  table_has : HasTable schema table → IsTrue (a && b)
  table_has has =
      let two : Some found ≡ Some (in_tree table has.tree) = sym here ∙ has.is in
      let e : found ≡ in_tree table has.tree = cc in
      of_both a b (same.1 (e ∙ ap (in_tree table) (sym (ap (λ (t : Table). t.tree) e)))) (keyed.1 (subst (HasNoOtherKey schema) (sym e) has.keys))

  pub table_found : IsTrue (a && b) ↔ HasTable schema table
  table_found = (has_table, table_has)
