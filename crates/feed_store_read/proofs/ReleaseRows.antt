-- A row of a release as it is read.
use Rattle.std.proofs.Common.{◌≡◌, ◌≤◌, ℕ, ℤ, pos, List, [], ◌∷◌, None, refl, sym, ap, subst}
use Rattle.sqlite_value.specs.declared.value.Value.TheVariants.{Int, Text}
use Rattle.sqlite_value.specs.Order.{Row, column, bytes}
use Rattle.feed_names.specs.ReleaseName.{Name, IsName, text_of}
use Rattle.feed_model.specs.Reply.{max_file}
use Rattle.feed_keep.specs.declared.record.Record.{Record}
use Rattle.feed_store_model.specs.Tables.{IsReleaseRow, release_row}
use Rattle.feed_store_model.proofs.SetState.{state_back}
use Rattle.feed_store_read.specs.Reading.{IsReleaseOf}

-- the row that a record's release has
pub as_release : (row : Row) (id : ℤ) (r : Record) → row ≡ release_row id r.name r.size r.state → IsName (text_of r.name) r.name → r.size ≤ max_file
    → r.reason ≡ None → r.parts.items ≡ [] → IsReleaseOf row id r
as_release row id r is named limit bare none = subst (λ (l : Row). IsReleaseOf l id r) (sym is) (record {
  is = record { is = ap (release_row id r.name r.size) (sym (state_back r.state)); named = named; limit = limit };
  number = refl;
  shows = rw (none, bare, state_back r.state);
})

-- what the columns of a release's row say
pub record IsSaid (text package_name : List ℕ) (day : ℤ) (size : ℕ) : Type 0 where
  pub named : IsName text (record { package_name = package_name; day = day })
  pub limit : size ≤ max_file

pub release_says : (row : Row) (id day : ℤ) (text package_name : List ℕ) (size state : ℕ)
    → row ≡ Int id ∷ Text text ∷ Text package_name ∷ Int day ∷ Int (pos size) ∷ Int (pos state) ∷ [] → IsReleaseRow row → IsSaid text package_name day size
release_says row id day text package_name size state is h =
    let it : IsReleaseRow (Int id ∷ Text text ∷ Text package_name ∷ Int day ∷ Int (pos size) ∷ Int (pos state) ∷ []) = subst IsReleaseRow is h in
    let n : Name = record { package_name = package_name; day = day } in
    let same : text ≡ text_of n = ap (λ (l : Row). bytes (column l 1)) it.is in
    record { named = subst (λ t. IsName t n) (sym same) it.named; limit = it.limit }
