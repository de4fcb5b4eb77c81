-- The texts of marks, one after another.
use Rattle.std.proofs.Common.{◌≡◌, ◌<◌, ◌+◌, ℕ, List, [], ◌∷◌, ◌++◌, take, length, get_or, Option, Some, None, ℤ, refl, sym, ap, ◌∙◌, append_assoc}
use Rattle.std.specs.Io.KnownBytes.{Appends}
use Rattle.std.specs.List.{flat_map}
use Rattle.std.proofs.lemmas.Grind.{flat_map-append}
use Rattle.std.proofs.lemmas.List.{take_more, append-nil}
use Rattle.feed_answer.specs.declared.embargo.Embargo.{Embargo}
use Rattle.feed_kbart.specs.Identifiers.{online_issn, print_issn}
use Rattle.feed_kbart.specs.RowValue.{RowValue}
use Rattle.feed_xml.specs.Elements.{leaf}
use Rattle.cmd_scholar.specs.Elements.{day_marks}
use Rattle.cmd_scholar.specs.Embargoes.{embargo_marks}
use Rattle.cmd_scholar.specs.Items.{item_marks, item_text, item_with, export_text, start_text, end_text}
use Rattle.feed_xml.specs.Marks.{Mark, opened, closed, byte, element, mark_text, xml_text}
use Rattle.feed_xml.proofs.Written.{joined_text}
use Rattle.feed_xml.specs.declared.tags.TheConstants.{DECLARATION}
use Rattle.cmd_scholar.specs.Fragments.{issn_marks}
use Rattle.cmd_scholar.specs.declared.names.TheConstants.{HOLDINGS, ITEM, ITEM_END, TITLE, COVERAGE, FROM, TO}

-- the parts of an item are the item
parts_item : (title print online first last embargo : List Mark)
    → opened ITEM.now ∷ (title ++ (print ++ (online ++ (opened COVERAGE.now ∷ (first ++ (last ++ (embargo ++ (closed COVERAGE.now ∷ closed ITEM_END.now ∷ byte 10 ∷ []))))))))
    ≡ element ITEM.now ITEM_END.now (title ++ (print ++ (online ++ element COVERAGE.now COVERAGE.now (first ++ (last ++ embargo))))) ++ byte 10 ∷ []
parts_item title print online first last embargo = simp append_assoc

-- an item from what a row returns
abbrev made : Embargo → List ℕ → Option (List ℕ) → Option (List ℕ) → Option ℤ → Option ℤ → List Mark
made embargo title print online first last =
    element ITEM.now ITEM_END.now (leaf TITLE.now title ++ (issn_marks print ++ (issn_marks online
    ++ element COVERAGE.now COVERAGE.now (day_marks FROM.now first ++ (day_marks TO.now last ++ embargo_marks embargo))))) ++ byte 10 ∷ []

same_item : (embargo : Embargo) (row : RowValue) (title : List ℕ) (print online : Option (List ℕ)) (first last : Option ℤ)
    → title ≡ row.title → print ≡ print_issn row.identifiers → online ≡ online_issn row.identifiers → first ≡ row.first_day → last ≡ row.last_day
    → xml_text (made embargo title print online first last) ≡ xml_text (item_with embargo row)
same_item embargo row title print online first last is_title is_print is_online is_first is_last =
    ap (λ x. xml_text (made embargo x print online first last)) is_title
    ∙ ap (λ x. xml_text (made embargo row.title x online first last)) is_print
    ∙ ap (λ x. xml_text (made embargo row.title (print_issn row.identifiers) x first last)) is_online
    ∙ ap (λ x. xml_text (made embargo row.title (print_issn row.identifiers) (online_issn row.identifiers) x last)) is_first
    ∙ ap (λ x. xml_text (made embargo row.title (print_issn row.identifiers) (online_issn row.identifiers) row.first_day x)) is_last

pub fragments_item : (embargo : Embargo) (row : RowValue) (title : List ℕ) (print online : Option (List ℕ)) (first last : Option ℤ)
    → title ≡ row.title → print ≡ print_issn row.identifiers → online ≡ online_issn row.identifiers → first ≡ row.first_day → last ≡ row.last_day
    → flat_map xml_text ((opened ITEM.now ∷ []) ∷ leaf TITLE.now title ∷ issn_marks print ∷ issn_marks online ∷ (opened COVERAGE.now ∷ [])
    ∷ day_marks FROM.now first ∷ day_marks TO.now last ∷ embargo_marks embargo ∷ (closed COVERAGE.now ∷ []) ∷ (closed ITEM_END.now ∷ [])
    ∷ (byte 10 ∷ []) ∷ [])
    ≡ xml_text (item_with embargo row)
fragments_item embargo row title print online first last is_title is_print is_online is_first is_last =
    joined_text ((opened ITEM.now ∷ []) ∷ leaf TITLE.now title ∷ issn_marks print ∷ issn_marks online ∷ (opened COVERAGE.now ∷ [])
    ∷ day_marks FROM.now first ∷ day_marks TO.now last ∷ embargo_marks embargo ∷ (closed COVERAGE.now ∷ []) ∷ (closed ITEM_END.now ∷ [])
    ∷ (byte 10 ∷ []) ∷ [])
    ∙ ap xml_text
    (parts_item (leaf TITLE.now title) (issn_marks print) (issn_marks online) (day_marks FROM.now first) (day_marks TO.now last) (embargo_marks embargo))
    ∙ same_item embargo row title print online first last is_title is_print is_online is_first is_last

-- nothing is written
pub appends_nothing : (old : Option (List ℕ)) → Appends old old []
appends_nothing None = tt
appends_nothing (Some bytes) = sym (append-nil bytes)

-- the texts of some rows are written, and then that of the next
pub appends_next : {X : Type 0} (f : X → List ℕ) (old mid new : Option (List ℕ)) (xs : List X) (i : ℕ) (d : X) → i < length xs
    → Appends old mid (flat_map f (take i xs)) → Appends mid new (f (get_or xs i d)) → Appends old new (flat_map f (take (i + 1) xs))
appends_next f None mid new xs i d within first second = tt
appends_next f (Some a) None new xs i d within first second = absurd first
appends_next f (Some a) (Some b) None xs i d within first second = absurd second
appends_next f (Some a) (Some b) (Some c) xs i d within first second =
    second ∙ ap (λ t. t ++ f (get_or xs i d)) first ∙ append_assoc a (flat_map f (take i xs)) (f (get_or xs i d))
    ∙ ap (λ t. a ++ t) (sym (ap (flat_map f) (take_more xs i d within) ∙ flat_map-append f (take i xs) (get_or xs i d ∷ [])
    ∙ ap (λ t. flat_map f (take i xs) ++ t) (append-nil (f (get_or xs i d)))))

-- the texts of the items are the text of the items
items_texts : (rows : List RowValue) → flat_map item_text rows ≡ xml_text (flat_map item_marks rows)
unfolding item_text
items_texts [] = refl
items_texts (row ∷ rows) =
    ap (λ t. xml_text (item_marks row) ++ t) (items_texts rows) ∙ sym (flat_map-append mark_text (item_marks row) (flat_map item_marks rows))

tail_text : (marks : List Mark) (name : List ℕ) → xml_text ((marks ++ closed name ∷ []) ++ byte 10 ∷ []) ≡ xml_text marks ++ (mark_text (closed name) ++ 10 ∷ [])
tail_text marks name =
    flat_map-append mark_text (marks ++ closed name ∷ []) (byte 10 ∷ [])
    ∙ ap (λ t. t ++ 10 ∷ []) (flat_map-append mark_text marks (closed name ∷ []) ∙ ap (λ t. xml_text marks ++ t) (append-nil (mark_text (closed name))))
    ∙ append_assoc (xml_text marks) (mark_text (closed name)) (10 ∷ [])

regrouped : (front tag items end : List ℕ) → ((front ++ (tag ++ 10 ∷ [])) ++ items) ++ end ≡ front ++ (tag ++ 10 ∷ (items ++ end))
regrouped front tag items end = simp append_assoc

pub export_written : (rows : List RowValue) → (start_text ++ flat_map item_text rows) ++ end_text ≡ export_text rows
unfolding start_text end_text
export_written rows =
    regrouped DECLARATION.now (mark_text (opened HOLDINGS.now)) (flat_map item_text rows) (mark_text (closed HOLDINGS.now) ++ 10 ∷ [])
    ∙ ap (λ t. DECLARATION.now ++ (mark_text (opened HOLDINGS.now) ++ 10 ∷ (t ++ (mark_text (closed HOLDINGS.now) ++ 10 ∷ [])))) (items_texts rows)
    ∙ ap (λ t. DECLARATION.now ++ (mark_text (opened HOLDINGS.now) ++ 10 ∷ t)) (sym (tail_text (flat_map item_marks rows) HOLDINGS.now))
