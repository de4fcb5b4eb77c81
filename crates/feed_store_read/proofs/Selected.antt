-- A whole selection shows its table, and each of its rows is in the table.
use Rattle.std.proofs.Common.{ap, inl, inr, ℤ, ◌≡◌, List, [], ◌∷◌, ◌++◌, IsPermutation, refl, sym, subst}
use Rattle.std.specs.List.{AllByRecursion}
use Rattle.sqlite_value.specs.Order.{Row, column}
use Rattle.sqlite_trees.specs.declared.store.Store as store
use Rattle.sqlite_trees.proofs.ListLemmas.{all-permutation}
use Rattle.sqlite.specs.Effect.{Database}
use Rattle.sqlite.specs.Given.{HasGiven}
use Rattle.sqlite.specs.Held.{Held, state}
use Rattle.sqlite.specs.State.{State, IsUnchanged, Shown}
use Rattle.feed_store_model.specs.Tables.{HasTables, HoldsReleases, IsPieceRow, IsReleaseRow}
use Rattle.feed_store_model.specs.Layout.{schema_with}
use Rattle.feed_store_read.specs.declared.releases.Releases.{Releases}
use Rattle.sqlite_rules.specs.Lists.{Has}
use Rattle.sqlite_rules.proofs.ListLemmas.{all_has, all_from}
use Rattle.feed_model.specs.Content.{Content}
use Rattle.feed_store_read.specs.Pieces.{ArePieces, ShowPieces}
use Rattle.feed_store_read.specs.Releases.{AreReleases, ShowReleases}
use Rattle.feed_store_read.specs.Texts.{pieces_text, releases_text}
use Rattle.feed_store_read.proofs.Answers.{pieces_order, pieces_select, pieces_shown, releases_order, releases_shown, releases_select}
use Rattle.feed_store_read.proofs.InOrder.{IsPlacedText, places_in_order, texts_in_order}
use Rattle.feed_store_read.proofs.Streams.{whole_given}
use Rattle.feed_store_model.proofs.Contents.{piece_texted, release_texted}
use Rattle.feed_store_model.proofs.Gone.{IsTexted}
use Rattle.std.specs.List.{All}
use Rattle.std.proofs.lemmas.List.Elements.{All-cons, All-nil}

all_texted : (rows : List Row) → AllByRecursion IsReleaseRow rows → All IsTexted rows
all_texted [] all = All-nil IsTexted
all_texted (r ∷ rows) all = All-cons IsTexted r rows (release_texted r all.0) (all_texted rows all.1)

pub are_releases : (old mid new : State) (rows : List Row) (found : Releases) → HasTables old.now → IsUnchanged old mid → Shown releases_text [] mid new rows → ShowReleases rows found
    → AreReleases old.now found
are_releases old mid new rows found ours same h show =
    let now : mid.now ≡ old.now = same.0.now_is in
    let mine : HasTables mid.now = subst HasTables (sym now) ours in record {
      rows = rows;
      moved = subst (λ (db : Database). IsPermutation (db.trees 1) rows) now (releases_shown mid new rows mine h);
      order = texts_in_order rows (all_texted rows show.proper) (releases_order mid new rows mine h);
      show = show;
    }

all_middle : (P : Row → Type 0) (xs : List Row) (x : Row) (ys : List Row) → AllByRecursion P ((xs ++ x ∷ []) ++ ys) → P x
all_middle P [] x ys all = all.0
all_middle P (z ∷ xs) x ys all = all_middle P xs x ys all.1

-- each row that is given is one of the table
pub given_listed : {S : Type 0} (g : store.Ghosts S) (old now : Held S) (rows : List Row) (row : Row) → HasTables (state g old).now → IsUnchanged (state g old) (state g now)
    → HasGiven g releases_text [] now (rows ++ row ∷ []) → HoldsReleases (state g old).now → IsReleaseRow row
given_listed g old now rows row ours same given are =
    let is : (state g now).now ≡ (state g old).now = same.0.now_is in
    let mine : HasTables (state g now).now = subst HasTables (sym is) ours in
    let listed : HoldsReleases (state g now).now = subst HoldsReleases (sym is) are in
    let whole = whole_given g releases_text now (rows ++ row ∷ []) _ _ (schema_with mine.more mine.keys) mine.schema refl (releases_select mine.more mine.keys).0 same.0.is_open given in
    let moved = releases_shown (state g now) (state g now) ((rows ++ row ∷ []) ++ whole.0) mine whole.1 in
    all_middle IsReleaseRow rows row whole.0 (all-permutation IsReleaseRow _ _ moved listed.are_releases)

all_placed : (rows : List Row) → AllByRecursion IsPieceRow rows → All IsPlacedText rows
all_placed [] all = All-nil IsPlacedText
all_placed (r ∷ rows) all = All-cons IsPlacedText r rows (piece_texted r all.0, ap (λ (row : Row). column row 2) all.0) (all_placed rows all.1)

pub are_pieces : (old mid new : State) (rows : List Row) (ids : List ℤ) (start now : Content) → HasTables old.now → IsUnchanged old mid → Shown pieces_text [] mid new rows
    → ShowPieces rows ids start now → ArePieces old.now ids start now
are_pieces old mid new rows ids start now ours same h show =
    let is : mid.now ≡ old.now = same.0.now_is in
    let mine : HasTables mid.now = subst HasTables (sym is) ours in record {
      rows = rows;
      moved = subst (λ (db : Database). IsPermutation (db.trees 3) rows) is (pieces_shown mid new rows mine h);
      order = places_in_order rows (all_placed rows show.proper) (pieces_order mid new rows mine h);
      show = show;
    }

pub has_moved : (xs ys : List Row) (x : Row) → IsPermutation ys xs → Has xs x → Has ys x
has_moved xs ys x moved here =
    all_has (Has ys) xs x (all-permutation (Has ys) ys xs moved (all_from (Has ys) ys (λ y h. h))) here

pub has_middle : (xs : List Row) (x : Row) (ys : List Row) → Has ((xs ++ x ∷ []) ++ ys) x
has_middle [] x ys = inl refl
has_middle (z ∷ xs) x ys = inr (has_middle xs x ys)

-- each row that is given is one of the table
pub given_stands : {S : Type 0} (g : store.Ghosts S) (old now : Held S) (rows : List Row) (row : Row) → HasTables (state g old).now → IsUnchanged (state g old) (state g now)
    → HasGiven g pieces_text [] now (rows ++ row ∷ []) → Has ((state g old).now.trees 3) row
given_stands g old now rows row ours same given =
    let is : (state g now).now ≡ (state g old).now = same.0.now_is in
    let mine : HasTables (state g now).now = subst HasTables (sym is) ours in
    let whole = whole_given g pieces_text now (rows ++ row ∷ []) _ _ (schema_with mine.more mine.keys) mine.schema refl (pieces_select mine.more mine.keys).0 same.0.is_open given in
    let all = (rows ++ row ∷ []) ++ whole.0 in
    let moved = pieces_shown (state g now) (state g now) all mine whole.1 in
    subst (λ (db : Database). Has (db.trees 3) row) is (has_moved all ((state g now).now.trees 3) row moved (has_middle rows row whole.0))
