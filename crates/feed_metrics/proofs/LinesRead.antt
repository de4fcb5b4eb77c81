-- A reader of the exposition format reads the lines back.
use Rattle.std.proofs.Common.{◌≡◌, ◌≤◌, ◌+◌, ℕ, zero, suc, List, [], ◌∷◌, ◌++◌, length, Bool, true}
use Rattle.std.proofs.Common.{false, Option, Some, None, refl, ap, ◌∙◌, arith, append_assoc, length-append, codes}
use Rattle.std.specs.Prelude.{◌==◌, ◌&&◌, option_map, option_and_then}
use Rattle.std.specs.List.{list_all, flat_map}
use Rattle.std.proofs.lemmas.Bool.Decides.{nat_tests}
use Rattle.feed_metrics.specs.Labels.{label_text}
use Rattle.feed_metrics.specs.Exposition.{Line, Help, Kind, Value, label_pair, more_labels, labels_text, line_text}
use Rattle.feed_metrics.specs.ExpositionReader.{span, is_name_byte, is_number_byte, is_help_byte, ended, behind_space, named, comment}
use Rattle.feed_metrics.specs.ExpositionReader.{closed, valued, read_labels, labelled, sampled, or_else, read_line, next_line, read_lines, read_text, is_label_name, is_name, is_line}
use Rattle.feed_metrics.proofs.LabelsRead.{label_read}
use Rattle.feed_metrics.proofs.Numbers.{both}

pub span_read : (test : ℕ → Bool) (word : List ℕ) (b : ℕ) (rest : List ℕ) → list_all test word ≡ true → test b ≡ false → span test (word ++ b ∷ rest) ≡ (word, b ∷ rest)
span_read test [] b rest all stops = rw stops refl
span_read test (x ∷ word) b rest all stops =
    let parts = both (test x) (list_all test word) all in
    rw (parts.0, span_read test word b rest parts.1 stops) refl

-- ---- the help and the type

comment_read : (make : List ℕ → List ℕ → Line) (name text rest : List ℕ) → list_all is_name_byte name ≡ true → list_all is_help_byte text ≡ true
    → comment make (name ++ 32 ∷ (text ++ 10 ∷ rest)) ≡ Some (make name text, rest)
comment_read make name text rest one two =
    ap (named make) (span_read is_name_byte name 32 (text ++ 10 ∷ rest) one refl)
    ∙ ap (ended (make name)) (span_read is_help_byte text 10 rest two refl)

flat : (a b rest : List ℕ) (x y : ℕ) → (a ++ x ∷ (b ++ y ∷ [])) ++ rest ≡ a ++ x ∷ (b ++ y ∷ rest)
flat a b rest x y = append_assoc a (x ∷ (b ++ y ∷ [])) rest ∙ ap (λ t. a ++ x ∷ t) (append_assoc b (y ∷ []) rest)

help_read : (name text rest : List ℕ) → list_all is_name_byte name ≡ true → list_all is_help_byte text ≡ true → read_line (line_text (Help name text) ++ rest) ≡ Some (Help name text, rest)
unfolding line_text
help_read name text rest one two =
    ap (λ t. read_line (codes "# HELP " ++ t)) (flat name text rest 32 10)
    ∙ ap (λ r. or_else (or_else r None) (sampled (span is_name_byte (codes "# HELP " ++ (name ++ 32 ∷ (text ++ 10 ∷ rest)))))) (comment_read Help name text rest one two)

kind_read : (name text rest : List ℕ) → list_all is_name_byte name ≡ true → list_all is_help_byte text ≡ true → read_line (line_text (Kind name text) ++ rest) ≡ Some (Kind name text, rest)
unfolding line_text
kind_read name text rest one two =
    ap (λ t. read_line (codes "# TYPE " ++ t)) (flat name text rest 32 10)
    ∙ ap (λ r. or_else (or_else None r) (sampled (span is_name_byte (codes "# TYPE " ++ (name ++ 32 ∷ (text ++ 10 ∷ rest)))))) (comment_read Kind name text rest one two)

-- ---- the labels

abbrev pair_rest : List ℕ → List ℕ → List ℕ → List ℕ
pair_rest name value tail = name ++ 61 ∷ 34 ∷ (label_text value ++ 34 ∷ tail)

pair_flat : (name value tail : List ℕ) (mark : ℕ) → label_pair (mark ∷ []) (name, value) ++ tail ≡ mark ∷ pair_rest name value tail
pair_flat name value tail mark = ap (λ t. mark ∷ t) (append_assoc name (61 ∷ 34 ∷ (label_text value ++ 34 ∷ [])) tail ∙ ap (λ t. name ++ 61 ∷ 34 ∷ t) (append_assoc (label_text value) (34 ∷ []) tail))

more_none : (rest : List ℕ) → more_labels [] ++ rest ≡ 125 ∷ rest
unfolding more_labels
more_none rest = refl

more_some : (name value : List ℕ) (labels : List (List ℕ × List ℕ)) (rest : List ℕ)
    → more_labels ((name, value) ∷ labels) ++ rest ≡ 44 ∷ pair_rest name value (more_labels labels ++ rest)
unfolding more_labels
more_some name value labels rest =
    ap (λ t. t ++ rest) (append_assoc (label_pair (codes ",") (name, value)) (flat_map (label_pair (codes ",")) labels) (codes "}"))
    ∙ append_assoc (label_pair (codes ",") (name, value)) (flat_map (label_pair (codes ",")) labels ++ codes "}") rest
    ∙ pair_flat name value ((flat_map (label_pair (codes ",")) labels ++ codes "}") ++ rest) 44

-- the first label, and what closes it
first_read : (n : ℕ) (name value tail : List ℕ) → list_all is_name_byte name ≡ true
    → read_labels (suc n) (pair_rest name value tail) ≡ closed (read_labels n) (name, value) tail
first_read n name value tail good =
    ap (valued (read_labels n)) (span_read is_name_byte name 61 (34 ∷ (label_text value ++ 34 ∷ tail)) good refl)
    ∙ ap (option_and_then (λ (read : List ℕ × List ℕ). closed (read_labels n) (name, read.0) read.1)) (label_read value tail)

labels_read : (n : ℕ) (name value : List ℕ) (labels : List (List ℕ × List ℕ)) (rest : List ℕ) → list_all is_name_byte name ≡ true → list_all is_label_name labels ≡ true
    → length labels ≤ n → read_labels (suc n) (pair_rest name value (more_labels labels ++ rest)) ≡ Some ((name, value) ∷ labels, rest)
labels_read n name value [] rest one all fits =
    first_read n name value (more_labels [] ++ rest) one ∙ ap (closed (read_labels n) (name, value)) (more_none rest)
labels_read zero name value (next ∷ labels) rest one all fits = absurd (omega (arith, fits))
labels_read (suc n) name value (next ∷ labels) rest one all fits =
    let parts = both (is_label_name next) (list_all is_label_name labels) all in
    first_read (suc n) name value (more_labels (next ∷ labels) ++ rest) one
    ∙ ap (closed (read_labels (suc n)) (name, value)) (more_some next.0 next.1 labels rest)
    ∙ ap (option_map (λ (more : List (List ℕ × List ℕ) × List ℕ). ((name, value) ∷ more.0, more.1))) (labels_read n next.0 next.1 labels rest parts.0 parts.1 (omega (arith, fits)))

pair_long : (name value tail : List ℕ) → length tail ≤ length (pair_rest name value tail)
pair_long name value tail = simp (length-append) (omega arith)

more_long : (labels : List (List ℕ × List ℕ)) (rest : List ℕ) → length labels ≤ length (more_labels labels ++ rest)
more_long [] rest = omega arith
more_long (label ∷ labels) rest =
    let here = more_long labels rest in
    let long = pair_long label.0 label.1 (more_labels labels ++ rest) in
    rw (more_some label.0 label.1 labels rest) (omega (arith, here, long))

-- ---- a sample

value_read : (make : List ℕ → Line) (value rest : List ℕ) → list_all is_number_byte value ≡ true → behind_space is_number_byte make (32 ∷ (value ++ 10 ∷ rest)) ≡ Some (make value, rest)
value_read make value rest all = ap (ended make) (span_read is_number_byte value 10 rest all refl)

abbrev sample_rest : List (List ℕ × List ℕ) → List ℕ → List ℕ → List ℕ
sample_rest labels value rest = labels_text labels ++ 32 ∷ (value ++ 10 ∷ rest)

labelled_read : (a : ℕ) (name : List ℕ) (labels : List (List ℕ × List ℕ)) (value rest : List ℕ) → list_all is_label_name labels ≡ true → list_all is_number_byte value ≡ true
    → labelled (a ∷ name) (sample_rest labels value rest) ≡ Some (Value (a ∷ name) labels value, rest)
labelled_read a name [] value rest all number = value_read (Value (a ∷ name) []) value rest number
labelled_read a name (label ∷ labels) value rest all number =
    let parts = both (is_label_name label) (list_all is_label_name labels) all in
    let tail : List ℕ = 32 ∷ (value ++ 10 ∷ rest) in
    let long = pair_long label.0 label.1 (more_labels labels ++ tail) in
    let more = more_long labels tail in
    ap (labelled (a ∷ name)) (append_assoc (label_pair (codes "{") label) (more_labels labels) tail ∙ pair_flat label.0 label.1 (more_labels labels ++ tail) 123)
    ∙ ap (option_and_then (λ (read : List (List ℕ × List ℕ) × List ℕ). behind_space is_number_byte (Value (a ∷ name) read.0) read.1))
    (labels_read (length (pair_rest label.0 label.1 (more_labels labels ++ tail))) label.0 label.1 labels tail parts.0 parts.1 (omega (arith, long, more)))
    ∙ value_read (Value (a ∷ name) (label ∷ labels)) value rest number

-- the name ends where the text behind it begins
stopped : (name : List ℕ) (labels : List (List ℕ × List ℕ)) (value rest : List ℕ) → list_all is_name_byte name ≡ true
    → span is_name_byte (name ++ sample_rest labels value rest) ≡ (name, sample_rest labels value rest)
stopped name [] value rest good = span_read is_name_byte name 32 (value ++ 10 ∷ rest) good refl
stopped name (label ∷ labels) value rest good = span_read is_name_byte name 123 _ good refl

not_hash : (a : ℕ) → is_name_byte a ≡ true → (a == 35) ≡ false
not_hash a good = grind (arith, nat_tests)

sample_flat : (name : List ℕ) (labels : List (List ℕ × List ℕ)) (value rest : List ℕ) → line_text (Value name labels value) ++ rest ≡ name ++ sample_rest labels value rest
unfolding line_text
sample_flat name labels value rest =
    append_assoc name (labels_text labels ++ 32 ∷ (value ++ 10 ∷ [])) rest
    ∙ ap (λ t. name ++ t) (append_assoc (labels_text labels) (32 ∷ (value ++ 10 ∷ [])) rest ∙ ap (λ t. labels_text labels ++ 32 ∷ t) (append_assoc value (10 ∷ []) rest))

sample_read : (a : ℕ) (name : List ℕ) (labels : List (List ℕ × List ℕ)) (value rest : List ℕ) → list_all is_name_byte (a ∷ name) ≡ true → list_all is_label_name labels ≡ true
    → list_all is_number_byte value ≡ true → read_line (line_text (Value (a ∷ name) labels value) ++ rest) ≡ Some (Value (a ∷ name) labels value, rest)
sample_read a name labels value rest good all number =
    let first = both (is_name_byte a) (list_all is_name_byte name) good in
    ap read_line (sample_flat (a ∷ name) labels value rest)
    ∙ rw (not_hash a first.0) (ap sampled (stopped (a ∷ name) labels value rest good) ∙ labelled_read a name labels value rest all number)

-- ---- lines

line_read : (line : Line) (rest : List ℕ) → is_line line ≡ true → read_line (line_text line ++ rest) ≡ Some (line, rest)
line_read (Help name text) rest good = let parts = both (list_all is_name_byte name) (list_all is_help_byte text) good in help_read name text rest parts.0 parts.1
line_read (Kind name text) rest good = let parts = both (list_all is_name_byte name) (list_all is_help_byte text) good in kind_read name text rest parts.0 parts.1
line_read (Value [] labels value) rest good = absurd (cc)
line_read (Value (a ∷ name) labels value) rest good =
    let parts = both (is_name (a ∷ name)) (list_all is_label_name labels && list_all is_number_byte value) good in
    let behind = both (list_all is_label_name labels) (list_all is_number_byte value) parts.1 in
    sample_read a name labels value rest parts.0 behind.0 behind.1

next_read : (read : List ℕ → Option (List Line)) (text : List ℕ) (line : Line) (rest : List ℕ) (lines : List Line) → read_line text ≡ Some (line, rest) → read rest ≡ Some lines
    → next_line read text ≡ Some (line ∷ lines)
next_read read [] line rest lines one more = absurd (cc)
next_read read (b ∷ text) line rest lines one more = rw (one, more) refl

lines_read : (n : ℕ) (lines : List Line) → list_all is_line lines ≡ true → length lines ≤ n → read_lines n (flat_map line_text lines) ≡ Some lines
lines_read zero [] all fits = refl
lines_read (suc n) [] all fits = refl
lines_read zero (line ∷ lines) all fits = absurd (omega (arith, fits))
lines_read (suc n) (line ∷ lines) all fits =
    let parts = both (is_line line) (list_all is_line lines) all in
    next_read (read_lines n) (line_text line ++ flat_map line_text lines) line (flat_map line_text lines) lines
    (line_read line (flat_map line_text lines) parts.0) (lines_read n lines parts.1 (omega (arith, fits)))

line_long : (line : Line) → 1 ≤ length (line_text line)
unfolding line_text
line_long (Help name text) = omega arith
line_long (Kind name text) = omega arith
line_long (Value name labels value) = simp (length-append) (omega arith)

lines_long : (lines : List Line) → length lines ≤ length (flat_map line_text lines)
lines_long [] = omega arith
lines_long (line ∷ lines) =
    let one = line_long line in
    let more = lines_long lines in
    simp (length-append) (omega (arith, one, more))

pub text_read : (lines : List Line) → list_all is_line lines ≡ true → read_text (flat_map line_text lines) ≡ Some lines
text_read lines all = lines_read (length (flat_map line_text lines)) lines all (lines_long lines)
