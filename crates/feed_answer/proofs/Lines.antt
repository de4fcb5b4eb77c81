-- The lines of an answer, as they are written piece by piece.
use Rattle.std.proofs.Common.{◌≡◌, ◌≤◌, ℕ, List, [], ◌∷◌, ◌++◌, map, take, length, codes, sym, ap, ◌∙◌, append_assoc}
use Rattle.std.specs.Borrow.{Bor}
use Rattle.std.specs.List.{flat_map}
use Rattle.std.specs.Fmt.{decimal}
use Rattle.std.proofs.lemmas.List.Folds.{flat_map-map}
use Rattle.std.proofs.lemmas.List.{take_all, length-map, append-nil}
use Rattle.feed_answer.specs.Grades.{grade_text}
use Rattle.feed_answer.specs.HitValue.{HitValue, hit_of}
use Rattle.feed_answer.specs.Answers.{after_tab, hit_line, head_line, answer_text}
use Rattle.feed_answer.specs.declared.hits.Hit.{Hit}

-- the number, the grade, all six texts and the line feed are the line of a hit
pub hit_written : (hit : HitValue) (n i : ℕ) (title url title_id depth embargo access : Bor (List ℕ))
    → i ≡ 6 → n ≡ hit.row.number → title.now ≡ hit.row.title → url.now ≡ hit.row.url → title_id.now ≡ hit.row.title_id
    → depth.now ≡ hit.row.depth → embargo.now ≡ hit.row.embargo → access.now ≡ hit.row.access
    → (decimal n ++ after_tab (grade_text hit.grade)
    ++ flat_map (λ text. after_tab text.now) (take i (title ∷ url ∷ title_id ∷ depth ∷ embargo ∷ access ∷ [])))
    ++ codes "\n"
    ≡ hit_line hit
hit_written hit n i title url title_id depth embargo access all number e1 e2 e3 e4 e5 e6 =
    rw (all, number, e1, e2, e3, e4, e5, e6)
    (ap (λ text. text ++ codes "\n") (append_assoc (decimal hit.row.number) (after_tab (grade_text hit.grade)) _))

-- the first line, before any hit is written
pub head_written : (name : List ℕ) (n : ℕ) (hits : List Hit) → n ≡ length hits → head_line name n ≡ head_line name (length hits) ++ []
head_written name n hits count = ap (head_line name) count ∙ sym (append-nil (head_line name (length hits)))

-- the first line and the lines of all hits are the answer's text
pub answer_written : (name : List ℕ) (hits : List Hit) (seen : List HitValue) (i : ℕ) → length hits ≤ i → map hit_of hits ≡ seen
    → head_line name (length hits) ++ flat_map (λ hit. hit_line (hit_of hit)) (take i hits) ≡ answer_text name seen
unfolding answer_text
answer_written name hits seen i all same =
    ap (λ some. head_line name (length hits) ++ flat_map (λ hit. hit_line (hit_of hit)) some) (take_all i hits all)
    ∙ ap (λ text. head_line name (length hits) ++ text) (sym (flat_map-map hit_line hit_of hits))
    ∙ ap (λ n. head_line name n ++ flat_map hit_line (map hit_of hits)) (sym (length-map hits hit_of))
    ∙ ap (answer_text name) same
