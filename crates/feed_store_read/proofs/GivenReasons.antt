-- The reasons read so far, with one more row.
use Rattle.std.proofs.Common.{◌≡◌, ◌++◌, ℤ, ℕ, Bool, true, false, List, [], ◌∷◌, map, Option, Some, None, IsSome, if◌then◌else◌, refl, sym, ap, ◌∙◌}
use Rattle.std.specs.List.{AllByRecursion}
use Rattle.std.specs.Option.{option_or}
use Rattle.std.proofs.lemmas.List.{map-append}
use Rattle.sqlite_value.specs.declared.value.Value.TheVariants.{Int}
use Rattle.sqlite_value.specs.Order.{Row}
use Rattle.sqlite_trees.specs.Tree.{rowid}
use Rattle.sqlite_trees.proofs.ListLemmas.{all-append}
use Rattle.feed_names.specs.ReleaseName.{text_of}
use Rattle.feed_kbart.specs.declared.fault.BadFile.{BadFile}
use Rattle.feed_model.specs.Content.{Content, Record}
use Rattle.feed_store_model.specs.Tables.{IsReasonRow, is_of, reason_in, reason_in_row, text_in}
use Rattle.feed_store_read.specs.Reasons.{IsReasonIn, ShowReasons, with_first_reason, with_row_reason}

or_assoc : (a b c : Option BadFile) → option_or (option_or a b) c ≡ option_or a (option_or b c)
or_assoc None b c = refl
or_assoc (Some x) b c = refl

or_none : (a : Option BadFile) → a ≡ option_or a None
or_none None = refl
or_none (Some x) = refl

some_stays : (o p : Option BadFile) → IsSome o → o ≡ option_or o p
some_stays (Some x) p s = refl
some_stays None p s = absurd (let e : false ≡ true = s in cc)

-- a last row says a reason where none in front of it does
reason_last : (rows : List Row) (row : Row) (t : List ℕ) → AllByRecursion IsReasonRow rows
    → reason_in (rows ++ row ∷ []) t ≡ option_or (reason_in rows t) (if is_of t row then reason_in_row row else None)
reason_last [] row t all = refl
reason_last (x ∷ rows) row t all = by (is_of t x) (reason_last rows row t all.1)
  where
    by : (b : Bool) → reason_in (rows ++ row ∷ []) t ≡ option_or (reason_in rows t) (if is_of t row then reason_in_row row else None)
        → (if b then reason_in_row x else reason_in (rows ++ row ∷ []) t) ≡ option_or (if b then reason_in_row x else reason_in rows t) (if is_of t row then reason_in_row row else None)
    by true more = some_stays (reason_in_row x) _ all.0.said
    by false more = more

one_more : (rows : List Row) (row : Row) (why : BadFile) (r : Record) → AllByRecursion IsReasonRow rows → reason_in_row row ≡ Some why
    → with_first_reason (text_in row) why (with_row_reason rows r) ≡ with_row_reason (rows ++ row ∷ []) r
one_more rows row why r all says = by (is_of (text_of r.name) row) refl
  where
    t : List ℕ
    t = text_of r.name

    full : Option BadFile → Record
    full o = record r { reason = o }

    by : (b : Bool) → is_of (text_of r.name) row ≡ b → with_first_reason (text_in row) why (with_row_reason rows r) ≡ with_row_reason (rows ++ row ∷ []) r
    by true e =
        let last : reason_in (rows ++ row ∷ []) (text_of r.name) ≡ option_or (reason_in rows (text_of r.name)) (Some why) =
        reason_last rows row (text_of r.name) all ∙ ap (option_or (reason_in rows (text_of r.name))) (rw (e, says) refl) in
        rw e (ap full (or_assoc r.reason (reason_in rows (text_of r.name)) (Some why) ∙ ap (option_or r.reason) (sym last)))
    by false e =
        let last : reason_in (rows ++ row ∷ []) (text_of r.name) ≡ reason_in rows (text_of r.name) =
        reason_last rows row (text_of r.name) all ∙ ap (option_or (reason_in rows (text_of r.name))) (rw e refl) ∙ sym (or_none (reason_in rows (text_of r.name))) in
        rw e (ap full (ap (option_or r.reason) (sym last)))

each_more : (rows : List Row) (row : Row) (why : BadFile) (c : Content) → AllByRecursion IsReasonRow rows → reason_in_row row ≡ Some why
    → map (with_first_reason (text_in row) why) (map (with_row_reason rows) c) ≡ map (with_row_reason (rows ++ row ∷ [])) c
each_more rows row why [] all says = refl
each_more rows row why (r ∷ rs) all says = λ i. one_more rows row why r all says i ∷ each_more rows row why rs all says i

pub reason_more : (rows : List Row) (row : Row) (id : ℤ) (text : List ℕ) (why : BadFile) (ids more : List ℤ) (start now new : Content) → IsReasonIn row id text why
    → more ≡ ids ++ id ∷ [] → new ≡ map (with_first_reason text why) now → ShowReasons rows ids start now → ShowReasons (rows ++ row ∷ []) more start new
reason_more rows row id text why ids more start now new it longer given was = record {
  proper = all-append IsReasonRow rows (row ∷ []) was.proper (it.is, tt);
  numbers = map-append rowid rows (row ∷ []) ∙ (λ i. was.numbers i ++ it.number i ∷ []) ∙ sym (map-append Int ids (id ∷ [])) ∙ ap (map Int) (sym longer);
  shows = given ∙ (λ i. map (with_first_reason (sym it.named i) why) (was.shows i)) ∙ each_more rows row why start was.proper it.says;
}

none_with : (c : Content) → map (with_row_reason []) c ≡ c
none_with [] = refl
none_with (r ∷ rs) = λ i. (let x : Record = record r { reason = sym (or_none r.reason) i } in x) ∷ none_with rs i

pub reasons_none : (ids : List ℤ) (c : Content) → ids ≡ [] → ShowReasons [] ids c c
reasons_none ids c none = record { proper = tt; numbers = rw none refl; shows = sym (none_with c) }
