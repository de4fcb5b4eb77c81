-- The releases read so far, with one more row.
use Rattle.std.proofs.Common.{◌≡◌, ℤ, List, [], ◌∷◌, ◌++◌, map, refl, sym, ap, ◌∙◌}
use Rattle.std.proofs.lemmas.List.{map-append}
use Rattle.sqlite_value.specs.declared.value.Value.TheVariants.{Int}
use Rattle.sqlite_value.specs.Order.{Row}
use Rattle.sqlite_trees.specs.Tree.{rowid}
use Rattle.sqlite_trees.proofs.ListLemmas.{all-append}
use Rattle.feed_keep.specs.declared.record.Record.{Record}
use Rattle.feed_keep.specs.Shown.{shown, shown_record}
use Rattle.feed_store_model.specs.Tables.{IsReleaseRow, record_in}
use Rattle.feed_store_read.specs.declared.releases.Releases.{Releases}
use Rattle.feed_store_read.specs.Reading.{IsReleaseOf}
use Rattle.feed_store_read.specs.Releases.{ShowReleases}

pub show_more : (rows : List Row) (row : Row) (old new : Releases) (id : ℤ) (r : Record) → IsReleaseOf row id r → new.ids.items ≡ old.ids.items ++ id ∷ []
    → new.records.items ≡ old.records.items ++ r ∷ [] → ShowReleases rows old → ShowReleases (rows ++ row ∷ []) new
show_more rows row old new id r is ids records was = record {
  proper = all-append IsReleaseRow rows (row ∷ []) was.proper (is.is, tt);
  numbers = map-append rowid rows (row ∷ []) ∙ (λ i. was.numbers i ++ is.number i ∷ []) ∙ sym (map-append Int old.ids.items (id ∷ [])) ∙ ap (map Int) (sym ids);
  shows = ap shown records ∙ map-append shown_record old.records.items (r ∷ []) ∙ (λ i. was.shows i ++ is.shows i ∷ []) ∙ sym (map-append (record_in []) rows (row ∷ []));
}

pub show_none : (found : Releases) → found.ids.items ≡ [] → found.records.items ≡ [] → ShowReleases [] found
show_none found ids records = record { proper = tt; numbers = rw ids refl; shows = rw records refl }
