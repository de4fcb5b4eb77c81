-- Links to forms and to articles: filled templates.
use Rattle.std.proofs.Common.{◌≡◌, ℕ, ◌&&◌, ◌==◌, Bool, true, false, not, List, [], ◌∷◌, ◌++◌, All}
use Rattle.std.proofs.Common.{if◌then◌else◌, refl, sym, ap, ◌∙◌, arith, suc}
use Rattle.std.proofs.lemmas.List.Elements.{filter-append}
use Rattle.percent_encoding.proofs.PercentLemmas.{All-percent_encode}
use Rattle.percent_encoding.specs.declared.ascii_set.TheConstants.{NON_ALPHANUMERIC}
use Rattle.node_site.specs.Kinds.{has_fields, is_front}
use Rattle.node_site.specs.Laws.{is_plain}
use Rattle.node_links.specs.RequestLaws.{PartsAddNoMarks, RequestsKeepHost, marks}
use Rattle.node_links.specs.Requests.{CitedTitleValue, filled, filled_from, part_of, part_text}
use Rattle.node_site.specs.Hosts.{host_behind, is_link}
use Rattle.node_site.specs.Urls.{after_scheme, before_byte, has_byte}
use Rattle.node_site.proofs.Proxying.{escape_is_plain, kept_is_plain}
use Rattle.node_site.proofs.HostTexts.{Lacks, and_left, and_right, front, host_is, host_kept, is_front_of, lacks-append, lacks_either, lacks_parts, link_lacks, plain_text_lacks}

-- ---- marks

no_marks : (text : List ℕ) → All (λ b. is_plain b ≡ true) text → marks text ≡ []
no_marks [] h = refl
no_marks (b ∷ rest) h =
    let here : is_plain b ≡ true = h 0 0 (omega arith) in
    let more : All (λ b. is_plain b ≡ true) rest = λ k d within. h (suc k) d (omega (arith, within)) in
    rw here (no_marks rest more)

part_has_none : (cited : CitedTitleValue) (name : List ℕ) → marks (part_text cited name) ≡ []
unfolding part_text
part_has_none cited name =
    no_marks _ (All-percent_encode (λ b. is_plain b ≡ true) NON_ALPHANUMERIC (part_of cited name) kept_is_plain escape_is_plain)

marks-append : (xs ys : List ℕ) → marks (xs ++ ys) ≡ marks xs ++ marks ys
marks-append xs ys = filter-append (λ b. not (is_plain b)) xs ys

marks-part : (cited : CitedTitleValue) (name more : List ℕ) → marks (part_text cited name ++ more) ≡ marks more
marks-part cited name more = marks-append (part_text cited name) more ∙ ap (λ (xs : List ℕ). xs ++ marks more) (part_has_none cited name)

either : (c : Bool) (x y z w : List ℕ) → marks x ≡ marks y → marks z ≡ marks w → marks (if c then x else z) ≡ marks (if c then y else w)
either true x y z w one other = one
either false x y z w one other = other

same_marks : (one other : CitedTitleValue) (is_open : Bool) (name rest : List ℕ)
    → marks (filled_from one is_open name rest) ≡ marks (filled_from other is_open name rest)
same_marks one other true name [] = refl
same_marks one other false name [] = refl
same_marks one other true name (b ∷ rest) =
    either (b == 125) _ _ _ _
    (marks-part one name (filled_from one false [] rest) ∙ same_marks one other false [] rest ∙ sym (marks-part other name (filled_from other false [] rest)))
    (same_marks one other true (name ++ b ∷ []) rest)
same_marks one other false name (b ∷ rest) =
    either (b == 123) _ _ _ _ (same_marks one other true [] rest)
    (marks-append (b ∷ []) (filled_from one false name rest) ∙ ap (λ (xs : List ℕ). marks (b ∷ []) ++ xs) (same_marks one other false name rest)
    ∙ sym (marks-append (b ∷ []) (filled_from other false name rest)))

pub parts_add_no_marks : PartsAddNoMarks
parts_add_no_marks template one other = same_marks one other false [] template

-- ---- the host

record Begins (begin text : List ℕ) : Type 0 where
  rest : List ℕ
  whole : text ≡ begin ++ rest

begins_case : (c : Bool) (b : ℕ) (opened more fore rest : List ℕ) → more ≡ fore ++ rest
    → Begins (if c then [] else b ∷ fore) (if c then opened else b ∷ more)
begins_case true b opened more fore rest e = record { rest = opened; whole = refl }
begins_case false b opened more fore rest e = record { rest = rest; whole = ap (λ (xs : List ℕ). b ∷ xs) e }

-- a filled template begins as the template does before its first brace
filled_begins : (cited : CitedTitleValue) (name text : List ℕ) → Begins (front (λ b. b == 123) text) (filled_from cited false name text)
filled_begins cited name [] = record { rest = []; whole = refl }
filled_begins cited name (b ∷ rest) =
    let later = filled_begins cited name rest in
    begins_case (b == 123) b (filled_from cited true [] rest) (filled_from cited false name rest) (front (λ b. b == 123) rest) later.rest later.whole

text_begins : (text : List ℕ) → Begins (front (λ b. b == 123) text) text
text_begins [] = record { rest = []; whole = refl }
text_begins (b ∷ rest) =
    let later = text_begins rest in
    elim (b == 123) as (λ c. Begins (if c then [] else b ∷ front (λ b. b == 123) rest) (b ∷ rest))
    [ true ↦ record { rest = b ∷ rest; whole = refl } | false ↦ record { rest = later.rest; whole = ap (λ (xs : List ℕ). b ∷ xs) later.whole } ]

host_begins : (begin text : List ℕ) → Begins begin text → is_front begin ≡ true → host_behind (after_scheme text) ≡ host_behind (after_scheme begin)
host_begins begin text b h = ap (λ (t : List ℕ). host_behind (after_scheme t)) b.whole ∙ host_kept begin b.rest h

-- ---- no backslash

part_lacks : (cited : CitedTitleValue) (name : List ℕ) → Lacks (part_text cited name)
unfolding part_text
part_lacks cited name =
    plain_text_lacks _ (All-percent_encode (λ b. is_plain b ≡ true) NON_ALPHANUMERIC (part_of cited name) kept_is_plain escape_is_plain)

either_lacks : (c : Bool) (x y : List ℕ) → Lacks x → Lacks y → Lacks (if c then x else y)
either_lacks true x y one other = one
either_lacks false x y one other = other

pub filled_lacks : (cited : CitedTitleValue) (is_open : Bool) (name rest : List ℕ) → Lacks rest → Lacks (filled_from cited is_open name rest)
filled_lacks cited true name [] h = refl
filled_lacks cited false name [] h = refl
filled_lacks cited true name (b ∷ rest) h =
    let (here, more) = lacks_parts (b == 92) (has_byte 92 rest) h in
    either_lacks (b == 125) _ _
    (lacks-append (part_text cited name) (filled_from cited false [] rest) (part_lacks cited name) (filled_lacks cited false [] rest more))
    (filled_lacks cited true (name ++ b ∷ []) rest more)
filled_lacks cited false name (b ∷ rest) h =
    let (here, more) = lacks_parts (b == 92) (has_byte 92 rest) h in
    either_lacks (b == 123) _ _ (filled_lacks cited true [] rest more)
    (lacks_either (b == 92) (has_byte 92 (filled_from cited false name rest)) here (filled_lacks cited false name rest more))

pub requests_keep_host : RequestsKeepHost
requests_keep_host names template cited h =
    let parts = and_left (is_link template && has_fields names template) (is_front (before_byte 123 template)) h in
    let lacks = link_lacks template (and_left (is_link template) (has_fields names template) parts) in
    let fine : is_front (front (λ b. b == 123) template) ≡ true =
    ap is_front (sym (is_front_of (λ b. b == 123) template)) ∙ and_right (is_link template && has_fields names template) (is_front (before_byte 123 template)) h in
    host_is (filled cited template) (filled_lacks cited false [] template lacks)
    ∙ host_begins (front (λ b. b == 123) template) (filled cited template) (filled_begins cited [] template) fine
    ∙ sym (host_begins (front (λ b. b == 123) template) template (text_begins template) fine)
    ∙ sym (host_is template lacks)

-- ---- all names are given

pub and_assoc : (a b c : Bool) → ((a && b) && c) ≡ (a && (b && c))
and_assoc true b c = refl
and_assoc false b c = refl

pub and_true : (a : Bool) → (a && true) ≡ a
and_true true = refl
and_true false = refl
