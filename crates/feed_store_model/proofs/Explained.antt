-- The content with its reasons, where rows are put, left or changed.
use Rattle.std.proofs.Common.{◌≡◌, ◌⊎◌, inl, inr, ℕ, List, [], ◌∷◌, map, filter, Bool, true, false, cond, not, Option, None, if◌then◌else◌}
use Rattle.std.proofs.Common.{IsPermutation, length, refl, sym, ap, subst, ◌∙◌, arith}
use Rattle.std.specs.List.{AllByRecursion, IsDistinct}
use Rattle.std.specs.Cmp.Lexicographic.{bytes_decides}
use Rattle.sqlite_value.specs.Order.{Row}
use Rattle.std.proofs.lemmas.List.Sorted.{length_permutation}
use Rattle.sqlite.proofs.Callers.{one_permutation}
use Rattle.sqlite_trees.proofs.ListLemmas.{filter-filter, IsPermutation-filter}
use Rattle.sqlite_rules.specs.Lists.{Has}
use Rattle.sqlite_rules.proofs.ListLemmas.{all_has, some_has, has_filtered}
use Rattle.feed_names.specs.ReleaseName.{Name, text_of, name_eq}
use Rattle.feed_kbart.specs.declared.fault.BadFile.{BadFile}
use Rattle.feed_model.specs.Content.{Record, Content, names}
use Rattle.feed_model.specs.Change.{changed, comes_before, insert_record, is_earlier, without_earlier}
use Rattle.feed_store_model.specs.Tables.{AreRows, IsReleaseRow, text_in, name_in, is_of, record_in, sorted, content_in, reason_in_row, reason_in, explained_by, explained}
use Rattle.feed_store_model.proofs.Gone.{is_child}
use Rattle.feed_store_model.proofs.Unique.{same_texts, single}
use Rattle.feed_store_model.proofs.Conditions.{goes}
use Rattle.feed_store_model.proofs.Contents.{goes_is, one_text, release_text}

pub explained_names : (reasons : List Row) (c : Content) → names (explained reasons c) ≡ names c
explained_names reasons [] = refl
explained_names reasons (r ∷ rs) = ap (λ ns. r.name ∷ ns) (explained_names reasons rs)

-- a change of a record that leaves its name and its reason
pub explained_changed : (reasons : List Row) (n : Name) (f : Record → Record) → ((r : Record) → explained_by reasons (f r) ≡ f (explained_by reasons r))
    → ((r : Record) → (f r).name ≡ r.name) → (c : Content) → explained reasons (changed n f c) ≡ changed n f (explained reasons c)
explained_changed reasons n f same name [] = refl
explained_changed reasons n f same name (r ∷ rs) = by (name_eq r.name n) (explained_changed reasons n f same name rs)
  where
    by : (b : Bool) → explained reasons (changed n f rs) ≡ changed n f (explained reasons rs)
        → explained reasons (if b then f r ∷ rs else r ∷ changed n f rs)
        ≡ (if b then f (explained_by reasons r) ∷ explained reasons rs else explained_by reasons r ∷ changed n f (explained reasons rs))
    by true more = ap (λ x. x ∷ explained reasons rs) (same r)
    by false more = ap (λ l. explained_by reasons r ∷ l) more

pub explained_insert : (reasons : List Row) (r : Record) (c : Content) → explained reasons (insert_record r c) ≡ insert_record (explained_by reasons r) (explained reasons c)
explained_insert reasons r [] = refl
explained_insert reasons r (x ∷ xs) = by (comes_before x.name r.name) (explained_insert reasons r xs)
  where
    by : (b : Bool) → explained reasons (insert_record r xs) ≡ insert_record (explained_by reasons r) (explained reasons xs)
        → explained reasons (if b then x ∷ insert_record r xs else r ∷ x ∷ xs)
        ≡ (if b then explained_by reasons x ∷ insert_record (explained_by reasons r) (explained reasons xs)
        else explained_by reasons r ∷ explained_by reasons x ∷ explained reasons xs)
    by true more = ap (λ l. explained_by reasons x ∷ l) more
    by false more = refl

all_insert : (P : Record → Type 0) (r : Record) (c : Content) → P r → AllByRecursion P c → AllByRecursion P (insert_record r c)
all_insert P r [] one all = (one, tt)
all_insert P r (x ∷ xs) one all = by (comes_before x.name r.name) (all_insert P r xs one all.1)
  where
    by : (b : Bool) → AllByRecursion P (insert_record r xs) → AllByRecursion P (if b then x ∷ insert_record r xs else r ∷ x ∷ xs)
    by true more = (all.0, more)
    by false more = (one, all)

-- what holds of each record holds of them in order
pub all_sorted : (P : Record → Type 0) (rs : List Record) → AllByRecursion P rs → AllByRecursion P (sorted rs)
all_sorted P [] all = tt
all_sorted P (r ∷ rs) all = all_insert P r (sorted rs) all.0 (all_sorted P rs all.1)

pub all_records : (P : Record → Type 0) (pieces rows : List Row) → ((r : Row) → Has rows r → P (record_in pieces r)) → AllByRecursion P (content_in rows pieces)
all_records P pieces rows each = all_sorted P (map (record_in pieces) rows) (mapped rows each)
  where
    mapped : (xs : List Row) → ((r : Row) → Has xs r → P (record_in pieces r)) → AllByRecursion P (map (record_in pieces) xs)
    mapped [] each = tt
    mapped (x ∷ xs) each = (each x (inl refl), mapped xs (λ r h. each r (inr h)))

-- ---- the reasons that a removal leaves

-- the reason of the first of some rows
abbrev pub first_said : List Row → Option BadFile
first_said [] = None
first_said (r ∷ rs) = reason_in_row r

pub reason_is : (rows : List Row) (t : List ℕ) → reason_in rows t ≡ first_said (filter (is_of t) rows)
reason_is [] t = refl
reason_is (r ∷ rows) t = by (is_of t r) (reason_is rows t)
  where
    by : (b : Bool) → reason_in rows t ≡ first_said (filter (is_of t) rows)
        → (if b then reason_in_row r else reason_in rows t) ≡ first_said (cond b (r ∷ filter (is_of t) rows) (filter (is_of t) rows))
    by true more = refl
    by false more = more

-- where each row of the text is left, so is its reason
reason_left : (keep : Row → Bool) (rows : List Row) (t : List ℕ) → ((x : Row) → is_of t x ≡ true → keep x ≡ true) → reason_in (filter keep rows) t ≡ reason_in rows t
reason_left keep rows t all = reason_is (filter keep rows) t ∙ ap first_said (filter-filter (is_of t) keep all rows) ∙ sym (reason_is rows t)

-- the reasons that are left explain the records that are left
explained_left : (n : Name) (left reasons : List Row) (c : Content)
    → AllByRecursion (λ r. not (is_earlier r.name n) ≡ true → reason_in left (text_of r.name) ≡ reason_in reasons (text_of r.name)) c
    → explained left (without_earlier n c) ≡ without_earlier n (explained reasons c)
explained_left n left reasons [] all = refl
explained_left n left reasons (r ∷ rs) all = by (not (is_earlier r.name n)) refl (explained_left n left reasons rs all.1)
  where
    by : (b : Bool) → not (is_earlier r.name n) ≡ b → explained left (without_earlier n rs) ≡ without_earlier n (explained reasons rs)
        → explained left (cond b (r ∷ without_earlier n rs) (without_earlier n rs))
        ≡ cond b (explained_by reasons r ∷ without_earlier n (explained reasons rs)) (without_earlier n (explained reasons rs))
    by false e more = more
    by true e more =
        ap (λ (o : Option BadFile). let x : Record = record r { reason = o } in x ∷ explained left (without_earlier n rs)) (all.0 e)
        ∙ ap (λ l. explained_by reasons r ∷ l) more

pub explained_dropped : (n : Name) (rows pieces reasons : List Row) → AreRows rows pieces → IsDistinct same_texts rows
    → explained (filter (λ x. not (is_child (goes n.package_name n.day) rows x)) reasons) (without_earlier n (content_in rows pieces))
    ≡ without_earlier n (explained reasons (content_in rows pieces))
explained_dropped n rows pieces reasons are d =
    explained_left n _ reasons (content_in rows pieces) (all_records _ pieces rows (λ r h stays. kept r h (all_has IsReleaseRow rows r are.are_releases h) stays))
  where
    p : Row → Bool
    p = goes n.package_name n.day

    kept : (r : Row) → Has rows r → IsReleaseRow r → not (is_earlier (name_in r) n) ≡ true
        → reason_in (filter (λ x. not (is_child (goes n.package_name n.day) rows x)) reasons) (text_of (name_in r)) ≡ reason_in reasons (text_of (name_in r))
    kept r h row stays = reason_left (λ x. not (is_child (goes n.package_name n.day) rows x)) reasons (text_of (name_in r)) (λ x is. by x is (is_child (goes n.package_name n.day) rows x) refl)
      where
        by : (x : Row) → is_of (text_of (name_in r)) x ≡ true → (b : Bool) → is_child (goes n.package_name n.day) rows x ≡ b → not b ≡ true
        by x is false e = refl
        by x is true e =
            let it = some_has (λ o. is_of (text_in o) x) (filter (goes n.package_name n.day) rows) e in
            let was = has_filtered (goes n.package_name n.day) rows it.0 it.1 in
            let same : text_in it.0 ≡ text_in r = sym ((bytes_decides (text_in x) (text_in it.0)).0 it.2)
            ∙ (bytes_decides (text_in x) (text_of (name_in r))).0 is ∙ sym (release_text r row) in
            let gone : goes n.package_name n.day r ≡ true = sym (ap (goes n.package_name n.day) (one_text rows it.0 r d was.0 h same)) ∙ was.1 in
            absurd (let g : false ≡ true = ap not (sym gone ∙ goes_is n r row) ∙ stays in cc)

-- ---- the reasons in another order, and one more

no_rows : (rows : List Row) → length rows ≡ 0 → rows ≡ []
no_rows [] e = refl
no_rows (r ∷ rows) e = absurd (omega arith)

-- where at most one row has a text, the order of the rows is free
pub reason_moved : (rows others : List Row) (t : List ℕ) → IsDistinct same_texts rows → IsPermutation rows others → reason_in rows t ≡ reason_in others t
reason_moved rows others t d moved = reason_is rows t ∙ ap first_said (by (single t rows d)) ∙ sym (reason_is others t)
  where
    there : IsPermutation (filter (is_of t) rows) (filter (is_of t) others)
    there = IsPermutation-filter (is_of t) rows others moved

    by : (filter (is_of t) rows ≡ []) ⊎ ((r : Row) × (filter (is_of t) rows ≡ r ∷ [])) → filter (is_of t) rows ≡ filter (is_of t) others
    by (inl none) = none ∙ sym (no_rows (filter (is_of t) others) (length_permutation _ _ there ∙ ap length none))
    by (inr (r, only)) = only ∙ sym (one_permutation r (filter (is_of t) others) (subst (λ l. IsPermutation l (filter (is_of t) others)) only there))

pub explained_same : (reasons others : List Row) → ((t : List ℕ) → reason_in reasons t ≡ reason_in others t) → (c : Content) → explained reasons c ≡ explained others c
explained_same reasons others same [] = refl
explained_same reasons others same (r ∷ rs) =
    ap (λ (o : Option BadFile). let x : Record = record r { reason = o } in x ∷ explained reasons rs) (same (text_of r.name))
    ∙ ap (λ l. explained_by others r ∷ l) (explained_same reasons others same rs)

-- ---- no reasons at all

none_explained : (c : Content) → AllByRecursion (λ r. r.reason ≡ None) c → explained [] c ≡ c
none_explained [] all = refl
none_explained (r ∷ rs) all =
    ap (λ (o : Option BadFile). let x : Record = record r { reason = o } in x ∷ explained [] rs) (sym all.0) ∙ ap (λ l. r ∷ l) (none_explained rs all.1)

pub unexplained : (pieces rows : List Row) → explained [] (content_in rows pieces) ≡ content_in rows pieces
unexplained pieces rows = none_explained (content_in rows pieces) (all_records (λ r. r.reason ≡ None) pieces rows (λ r h. refl))
