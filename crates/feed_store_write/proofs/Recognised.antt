-- A schema is the layout's exactly if its three parts are.
use Rattle.std.proofs.Common.{◌≡◌, ◌↔◌, ◌∙◌, Bool, IsTrue, List, [], ◌∷◌, refl, sym, ap}
use Rattle.std.specs.Prelude.{◌&&◌}
use Rattle.sqlite_tied.specs.Compute.{everything}
use Rattle.sqlite.specs.Schema.{Schema}
use Rattle.sqlite_schema.specs.declared.schema.Index.{Index}
use Rattle.feed_store_model.specs.Layout.{layout_1_schema, layout_2_schema, no_schema}
use Rattle.feed_store_write.specs.Schemas.{release_index, piece_index, reason_index}
use Rattle.feed_store_write.proofs.Terms.{all_three, of_three}

earlier-indexes : layout_1_schema.indexes ≡ release_index ∷ piece_index ∷ []
unfolding everything
earlier-indexes = refl

feed-indexes : layout_2_schema.indexes ≡ release_index ∷ piece_index ∷ reason_index ∷ []
unfolding everything
feed-indexes = refl

whole : (wanted schema : Schema) → wanted.views ≡ [] → schema.tables ≡ wanted.tables → schema.indexes ≡ wanted.indexes → schema.views ≡ [] → schema ≡ wanted
whole wanted schema none tables indexes views = rw (tables, indexes, views ∙ sym none) refl

recognised : (wanted schema : Schema) (found : List Index) → wanted.views ≡ [] → wanted.indexes ≡ found → (a b c : Bool) → (IsTrue a ↔ (schema.tables ≡ wanted.tables))
    → (IsTrue b ↔ (schema.indexes ≡ found)) → (IsTrue c ↔ (schema.views ≡ [])) → IsTrue ((a && b) && c) ↔ (schema ≡ wanted)
recognised wanted schema found none is a b c x y z = (
  (λ h. let t = all_three a b c h in whole wanted schema none (x.0 t.0) (y.0 t.1 ∙ sym is) (z.0 t.2)),
  (λ same. of_three a b c (x.1 (ap (λ s. s.tables) same)) (y.1 (ap (λ s. s.indexes) same ∙ is)) (z.1 (ap (λ s. s.views) same ∙ none))),
)

pub is-layout-1 : (schema : Schema) (a b c : Bool) → (IsTrue a ↔ (schema.tables ≡ layout_1_schema.tables))
    → (IsTrue b ↔ (schema.indexes ≡ release_index ∷ piece_index ∷ [])) → (IsTrue c ↔ (schema.views ≡ [])) → IsTrue ((a && b) && c) ↔ (schema ≡ layout_1_schema)
is-layout-1 schema a b c x y z = recognised layout_1_schema schema (release_index ∷ piece_index ∷ []) refl earlier-indexes a b c x y z

pub is-layout-2 : (schema : Schema) (a b c : Bool) → (IsTrue a ↔ (schema.tables ≡ layout_2_schema.tables))
    → (IsTrue b ↔ (schema.indexes ≡ release_index ∷ piece_index ∷ reason_index ∷ [])) → (IsTrue c ↔ (schema.views ≡ []))
    → IsTrue ((a && b) && c) ↔ (schema ≡ layout_2_schema)
is-layout-2 schema a b c x y z = recognised layout_2_schema schema (release_index ∷ piece_index ∷ reason_index ∷ []) refl feed-indexes a b c x y z

empty : (schema : Schema) → schema.tables ≡ [] → schema.indexes ≡ [] → schema.views ≡ [] → schema ≡ no_schema
empty schema tables indexes views = rw (tables, indexes, views) refl

pub no-table : (schema : Schema) (a b c : Bool) → (IsTrue a ↔ (schema.tables ≡ [])) → (IsTrue b ↔ (schema.indexes ≡ [])) → (IsTrue c ↔ (schema.views ≡ []))
    → IsTrue ((a && b) && c) ↔ (schema ≡ no_schema)
no-table schema a b c x y z = (
  (λ h. let t = all_three a b c h in empty schema (x.0 t.0) (y.0 t.1) (z.0 t.2)),
  (λ same. of_three a b c (x.1 (ap (λ s. s.tables) same)) (y.1 (ap (λ s. s.indexes) same)) (z.1 (ap (λ s. s.views) same))),
)
