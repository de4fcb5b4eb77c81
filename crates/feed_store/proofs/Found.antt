-- An adoption of a database that has either layout.
use Rattle.std.proofs.Common.{◌≡◌, ◌≢◌, [], ◌∷◌, Bool, IsTrue, true, false, length, map, pos, refl, sym, ap, subst, ◌∙◌, arith}
use Rattle.sqlite_trees.specs.Tree.{rowid}
use Rattle.sqlite_value.specs.declared.value.Value.TheVariants.{Int}
use Rattle.sqlite.specs.Effect.{Database, IsDatabase}
use Rattle.sqlite.specs.Change.{automatics}
use Rattle.sqlite.specs.State.{State, HasCleanDisk}
use Rattle.feed_store_model.specs.Layout.{layout_1_schema, layout_2_schema, no_schema, reason}
use Rattle.feed_store_model.specs.Tables.{IsLayout1, IsLayout2}
use Rattle.feed_store_write.specs.Effects.{IsLive, ReportsNumber}
use Rattle.feed_store_write.specs.Number.{HasOtherNumber}
use Rattle.feed_store.specs.Adopted.{IsAdopted, IsForeign, IsRefused}
use Rattle.feed_store.specs.Upgraded.{IsUpgradedWithReasons, HasLayoutNumber1}
use Rattle.feed_store.proofs.Placed.{foreign_1, foreign_2}

layout_2_is_some : layout_2_schema ≢ no_schema
layout_2_is_some e = omega (arith, ap (λ s. length s.tables) e)

layout_1_is_some : layout_1_schema ≢ no_schema
layout_1_is_some e = omega (arith, ap (λ s. length s.tables) e)

layouts_differ : layout_2_schema ≢ layout_1_schema
layouts_differ e = omega (arith, ap (λ s. length s.tables) e)

module _ (old new : State) (sound : IsTrue old.is_open → IsDatabase old.now) (live : IsLive new → IsLive old) where
  -- one of layout 2 is as it was
  pub found_layout_2 : old.now.schema ≡ layout_2_schema → (IsLive new → new.now ≡ old.now) → (HasCleanDisk new → ReportsNumber 2 old new true) → IsAdopted old new true
  found_layout_2 schema same reported =
      let mine : IsLive new → IsLayout2 old.now = λ is. record {
        schema = schema;
        obeyed = sound (live is).1;
        version = (reported is.0 (reason ∷ []) (automatics reason 0 6 reason.uniques) schema).1.0 refl;
      } in record {
        ours = λ _ is. (subst IsLayout2 (sym (same is)) (mine is), live is);
        found = λ is ours. (refl, same is);
        blank = λ is none. absurd (layout_2_is_some (sym schema ∙ none.schema_is));
        earlier = λ is early. absurd (layouts_differ (sym schema ∙ early.schema));
      }

  -- one of layout 1 is upgraded
  pub found_layout_1 : old.now.schema ≡ layout_1_schema → (IsLive new → old.now.schema ≡ layout_1_schema → HasLayoutNumber1 old.now)
      → (IsLive new → IsLayout1 old.now → IsUpgradedWithReasons old.now new.now) → IsAdopted old new true
  found_layout_1 schema first moved =
      let mine : IsLive new → IsLayout1 old.now = λ is. record { schema = schema; obeyed = sound (live is).1; version = first is schema } in record {
        ours = λ _ is. ((moved is (mine is)).ours, live is);
        found = λ is ours. absurd (layouts_differ (sym ours.schema ∙ schema));
        blank = λ is none. absurd (layout_1_is_some (sym schema ∙ none.schema_is));
        earlier = λ is early. (refl, moved is early);
      }

-- a database that is refused
module _ (db : Database) where
  pub refused_2 : db.schema ≡ layout_2_schema → HasOtherNumber 2 db → ¬ (map rowid (db.trees 0) ≡ Int (pos 2) ∷ []) → IsRefused db
  refused_2 schema other unnumbered = record {
    foreign = foreign_2 db schema other;
    blank = λ none. layout_2_is_some (sym schema ∙ none.schema_is);
    earlier = λ early. layouts_differ (sym schema ∙ early.schema);
    current = λ ours. unnumbered ours.version;
  }

  pub refused_1 : db.schema ≡ layout_1_schema → HasOtherNumber 1 db → ¬ (HasLayoutNumber1 db) → IsRefused db
  refused_1 schema other unnumbered = record {
    foreign = foreign_1 db schema other;
    blank = λ none. layout_1_is_some (sym schema ∙ none.schema_is);
    earlier = λ early. unnumbered early.version;
    current = λ ours. layouts_differ (sym ours.schema ∙ schema);
  }

  -- of none of the schemas
  pub refused_beside : IsForeign db → ¬ (db.schema ≡ no_schema) → ¬ (db.schema ≡ layout_1_schema) → ¬ (db.schema ≡ layout_2_schema) → IsRefused db
  refused_beside foreign none first second = record {
    foreign = foreign;
    blank = λ it. none it.schema_is;
    earlier = λ it. first it.schema;
    current = λ it. second it.schema;
  }

pub not_by : {P : Type 0} (b : Bool) → b ≡ false → (P → IsTrue b) → ¬ P
not_by b off test p = let e = sym off ∙ test p in cc
