-- The links to articles by a template differ by the part of the row alone.
use Rattle.std.proofs.Common.{◌≡◌, ◌||◌, ◌&&◌, ◌==◌, ◌++◌, ◌∙◌, ◌+◌, ◌*◌, ℕ, Bool, true, false, cond, List, [], ◌∷◌, length, length-append, Option, Some, None, ap, refl, sym, arith}
use Rattle.std.specs.Prelude.{if◌then◌else◌}
use Rattle.std.specs.List.{count_by, list_all}
use Rattle.std.specs.Option.{option_map_or}
use Rattle.std.proofs.lemmas.Bool.Decides.{nat_tests}
use Rattle.std.proofs.lemmas.List.Sums.{sum_by-cons}
use Rattle.percent_encoding.proofs.PercentLemmas.{percent_encode-append, percent_encode-nil}
use Rattle.percent_encoding.specs.declared.ascii_set.TheConstants.{NON_ALPHANUMERIC}
use Rattle.node_links.specs.Articles.{IsSizeOf, article_address, with_title_id, gives_others, is_given_or_row, is_row_field, is_row_name, row_names, row_part}
use Rattle.node_site.specs.Fields.{field_named}
use Rattle.node_site.specs.Proxies.{PrefixValue, prefix_for, proxied, through, written_target}
use Rattle.node_site.specs.Site.{SiteValue}
use Rattle.node_links.specs.Requests.{CitedTitleValue, citation_query, escaped, field_text, filled, filled_from, gives, gives_all, is_given, names_from, names_in, part_of, part_text, without_step}
use Rattle.node_links.specs.declared.article_sizes.LinkSize.{LinkSize}
use Rattle.node_site.specs.declared.field.Field.{Field}
use Rattle.node_site.specs.declared.field.Field.TheVariants.{Issn, IssnPlain, Isbn, TitleId, Year, Month, Query, Cited}

-- ---- names

count-cons : (name : List ℕ) (names : List (List ℕ)) (c : Bool) → is_row_name name ≡ c
    → count_by is_row_name (name ∷ names) ≡ cond c 1 0 + count_by is_row_name names
count-cons name names c e =
    sum_by-cons (λ (it : List ℕ). cond (is_row_name it) 1 0) name names ∙ ap (λ b. cond b 1 0 + count_by is_row_name names) e

count_row : (name : List ℕ) (names : List (List ℕ)) → is_row_name name ≡ true → count_by is_row_name (name ∷ names) ≡ 1 + count_by is_row_name names
count_row name names e = count-cons name names true e

count_other : (name : List ℕ) (names : List (List ℕ)) → is_row_name name ≡ false → count_by is_row_name (name ∷ names) ≡ count_by is_row_name names
count_other name names e = count-cons name names false e ∙ omega arith

row_bits : (g all z : Bool) → (g && (all && (z || g))) ≡ (all && (false || g))
row_bits true true true = refl
row_bits true true false = refl
row_bits true false z = refl
row_bits false true z = refl
row_bits false false z = refl

never : (n : ℕ) → ((1 + n) == 0) ≡ false
never n = grind (arith, nat_tests)

row_here : (g all : Bool) (n : ℕ) → (g && (all && ((n == 0) || g))) ≡ (all && (((1 + n) == 0) || g))
row_here g all n = row_bits g all (n == 0) ∙ ap (λ b. all && (b || g)) (sym (never n))

other_here : (a all last : Bool) → (a && (all && last)) ≡ ((a && all) && last)
other_here true all last = refl
other_here false all last = refl

module _ (cited : CitedTitleValue) (title_id : List ℕ) where
  of_row : (field : Option Field) → is_row_field field ≡ true → without_step (field_text (with_title_id title_id cited) field) ≡ row_part title_id
  of_row None row = absurd (cc)
  of_row (Some Issn) row = absurd (cc)
  of_row (Some IssnPlain) row = absurd (cc)
  of_row (Some Isbn) row = absurd (cc)
  of_row (Some TitleId) row = refl
  of_row (Some Year) row = absurd (cc)
  of_row (Some Month) row = absurd (cc)
  of_row (Some Query) row = absurd (cc)
  of_row (Some (Cited part)) row = absurd (cc)

  of_others : (field : Option Field) → is_row_field field ≡ false → field_text (with_title_id title_id cited) field ≡ field_text cited field
  unfolding citation_query
  of_others None other = refl
  of_others (Some Issn) other = refl
  of_others (Some IssnPlain) other = refl
  of_others (Some Isbn) other = refl
  of_others (Some TitleId) other = absurd (cc)
  of_others (Some Year) other = refl
  of_others (Some Month) other = refl
  of_others (Some Query) other = refl
  of_others (Some (Cited part)) other = refl

  row_of : (name : List ℕ) → is_row_name name ≡ true → part_of (with_title_id title_id cited) name ≡ row_part title_id
  row_of name row = of_row (field_named name) row

  other_of : (name : List ℕ) → is_row_name name ≡ false → part_of (with_title_id title_id cited) name ≡ part_of cited name
  other_of name other = ap without_step (of_others (field_named name) other)

  -- a name is given: by the row, or by the citation
  given : (name : List ℕ) (names : List (List ℕ)) (c : Bool) → is_row_name name ≡ c
      → list_all (gives (with_title_id title_id cited)) names
      ≡ (list_all (is_given_or_row cited) names && ((count_by is_row_name names == 0) || is_given (row_part title_id)))
      → (gives (with_title_id title_id cited) name && list_all (gives (with_title_id title_id cited)) names)
      ≡ ((is_given_or_row cited name && list_all (is_given_or_row cited) names)
      && ((count_by is_row_name (name ∷ names) == 0) || is_given (row_part title_id)))
  given name names true e later =
      ap (λ (part : List ℕ). is_given part && list_all (gives (with_title_id title_id cited)) names) (row_of name e)
      ∙ ap (λ b. is_given (row_part title_id) && b) later
      ∙ row_here (is_given (row_part title_id)) (list_all (is_given_or_row cited) names) (count_by is_row_name names)
      ∙ ap (λ b. ((b || gives cited name) && list_all (is_given_or_row cited) names)
      && (((1 + count_by is_row_name names) == 0) || is_given (row_part title_id))) (sym e)
      ∙ ap (λ n. (is_given_or_row cited name && list_all (is_given_or_row cited) names) && ((n == 0) || is_given (row_part title_id)))
      (sym (count_row name names e))
  given name names false e later =
      ap (λ (part : List ℕ). is_given part && list_all (gives (with_title_id title_id cited)) names) (other_of name e)
      ∙ ap (λ b. gives cited name && b) later
      ∙ other_here (gives cited name) (list_all (is_given_or_row cited) names) ((count_by is_row_name names == 0) || is_given (row_part title_id))
      ∙ ap (λ b. ((b || gives cited name) && list_all (is_given_or_row cited) names)
      && ((count_by is_row_name names == 0) || is_given (row_part title_id))) (sym e)
      ∙ ap (λ n. (is_given_or_row cited name && list_all (is_given_or_row cited) names) && ((n == 0) || is_given (row_part title_id)))
      (sym (count_other name names e))

  all_given : (names : List (List ℕ)) → list_all (gives (with_title_id title_id cited)) names
      ≡ (list_all (is_given_or_row cited) names && ((count_by is_row_name names == 0) || is_given (row_part title_id)))
  all_given [] = refl
  all_given (name ∷ names) = given name names (is_row_name name) refl (all_given names)

  -- a citation has all names of a template if it has the others, and the row its own
  pub gives_with_row : (template : List ℕ) → gives_all (with_title_id title_id cited) template
      ≡ (gives_others cited template && ((row_names template == 0) || is_given (row_part title_id)))
  gives_with_row template = all_given (names_in template)

-- the address that a filled template is
pub address_is : (cited : CitedTitleValue) (template link title_id : List ℕ) (others : Bool) (names : ℕ) → link ≡ filled cited template
    → others ≡ gives_others cited template → names ≡ row_names template → title_id ≡ cited.title_id
    → (if others && ((names == 0) || is_given (row_part title_id)) then Some link else None) ≡ article_address cited template
address_is cited template link title_id others names fills given counts of =
    ap (λ b. if b && ((names == 0) || is_given (row_part title_id)) then Some link else None) given
    ∙ ap (λ n. if gives_others cited template && ((n == 0) || is_given (row_part title_id)) then Some link else None) counts
    ∙ ap (λ (t : List ℕ). if gives_others cited template && ((row_names template == 0) || is_given (row_part t)) then Some link else None) of
    ∙ ap (λ b. if b then Some link else None) (sym (gives_with_row cited cited.title_id template))
    ∙ ap (λ (text : List ℕ). if gives_all cited template then Some text else None) fills

-- ---- bytes

pub written-append : (takes : Bool) (xs ys : List ℕ)
    → length (written_target takes (xs ++ ys)) ≡ length (written_target takes xs) + length (written_target takes ys)
written-append true xs ys =
    ap length (percent_encode-append NON_ALPHANUMERIC xs ys)
    ∙ length-append (written_target true xs) (written_target true ys)
written-append false xs ys = length-append xs ys

written-nil : (takes : Bool) → length (written_target takes []) ≡ 0
written-nil true = ap length (percent_encode-nil NON_ALPHANUMERIC)
written-nil false = refl

no_part : (takes : Bool) → length (written_target takes (escaped (row_part []))) ≡ 0
no_part takes = ap (λ (text : List ℕ). length (written_target takes text)) (percent_encode-nil NON_ALPHANUMERIC) ∙ written-nil takes

row_step : (unit part none n x y : ℕ) → part ≡ unit → none ≡ 0 → x ≡ y + n * unit → part + x ≡ (none + y) + (1 + n) * unit
row_step unit part none n x y one other later = grind (arith, one, other, later)

other_step : (unit part other n x y : ℕ) → part ≡ other → x ≡ y + n * unit → part + x ≡ (other + y) + n * unit
other_step unit part other n x y same later = grind (arith, same, later)

module _ (cited : CitedTitleValue) (title_id : List ℕ) (takes : Bool) where
  -- the bytes of a text in a link, and those that a row adds for each of its names
  abbrev bytes : List ℕ → ℕ
  bytes text = length (written_target takes text)

  abbrev unit : ℕ
  unit = bytes (escaped (row_part title_id))

  abbrev Adds : Bool → List ℕ → List ℕ → Type 0
  Adds is_open name rest =
      bytes (filled_from (with_title_id title_id cited) is_open name rest)
      ≡ bytes (filled_from (with_title_id [] cited) is_open name rest) + count_by is_row_name (names_from is_open name rest) * unit

  closed : (name rest : List ℕ) (c : Bool) → is_row_name name ≡ c → Adds false [] rest
      → bytes (part_text (with_title_id title_id cited) name ++ filled_from (with_title_id title_id cited) false [] rest)
      ≡ bytes (part_text (with_title_id [] cited) name ++ filled_from (with_title_id [] cited) false [] rest)
      + count_by is_row_name (name ∷ names_from false [] rest) * unit
  unfolding part_text
  closed name rest true e later =
      let names : List (List ℕ) = names_from false [] rest in
      written-append takes (part_text (with_title_id title_id cited) name) (filled_from (with_title_id title_id cited) false [] rest)
      ∙ row_step unit (bytes (part_text (with_title_id title_id cited) name)) (bytes (part_text (with_title_id [] cited) name)) (count_by is_row_name names)
      (bytes (filled_from (with_title_id title_id cited) false [] rest)) (bytes (filled_from (with_title_id [] cited) false [] rest))
      (ap (λ (text : List ℕ). bytes (escaped text)) (row_of cited title_id name e))
      (ap (λ (text : List ℕ). bytes (escaped text)) (row_of cited [] name e) ∙ no_part takes)
      later
      ∙ ap (λ n. n + (1 + count_by is_row_name names) * unit)
      (sym (written-append takes (part_text (with_title_id [] cited) name) (filled_from (with_title_id [] cited) false [] rest)))
      ∙ ap (λ n. bytes (part_text (with_title_id [] cited) name ++ filled_from (with_title_id [] cited) false [] rest) + n * unit) (sym (count_row name names e))
  closed name rest false e later =
      let names : List (List ℕ) = names_from false [] rest in
      written-append takes (part_text (with_title_id title_id cited) name) (filled_from (with_title_id title_id cited) false [] rest)
      ∙ other_step unit (bytes (part_text (with_title_id title_id cited) name)) (bytes (part_text (with_title_id [] cited) name)) (count_by is_row_name names)
      (bytes (filled_from (with_title_id title_id cited) false [] rest)) (bytes (filled_from (with_title_id [] cited) false [] rest))
      (ap (λ (text : List ℕ). bytes (escaped text)) (other_of cited title_id name e ∙ sym (other_of cited [] name e)))
      later
      ∙ ap (λ n. n + count_by is_row_name names * unit)
      (sym (written-append takes (part_text (with_title_id [] cited) name) (filled_from (with_title_id [] cited) false [] rest)))
      ∙ ap (λ n. bytes (part_text (with_title_id [] cited) name ++ filled_from (with_title_id [] cited) false [] rest) + n * unit) (sym (count_other name names e))

  one_byte : (b : ℕ) (name rest : List ℕ) → Adds false name rest
      → bytes (b ∷ filled_from (with_title_id title_id cited) false name rest)
      ≡ bytes (b ∷ filled_from (with_title_id [] cited) false name rest) + count_by is_row_name (names_from false name rest) * unit
  one_byte b name rest later =
      written-append takes (b ∷ []) (filled_from (with_title_id title_id cited) false name rest)
      ∙ other_step unit (bytes (b ∷ [])) (bytes (b ∷ [])) (count_by is_row_name (names_from false name rest))
      (bytes (filled_from (with_title_id title_id cited) false name rest)) (bytes (filled_from (with_title_id [] cited) false name rest)) refl later
      ∙ ap (λ n. n + count_by is_row_name (names_from false name rest) * unit)
      (sym (written-append takes (b ∷ []) (filled_from (with_title_id [] cited) false name rest)))

  adds : (is_open : Bool) (name rest : List ℕ) → Adds is_open name rest
  adds true name [] = grind (arith)
  adds false name [] = grind (arith)
  adds true name (b ∷ rest) =
      elim (b == 125) as (λ c.
      bytes (if c then part_text (with_title_id title_id cited) name ++ filled_from (with_title_id title_id cited) false [] rest
      else filled_from (with_title_id title_id cited) true (name ++ b ∷ []) rest)
      ≡ bytes (if c then part_text (with_title_id [] cited) name ++ filled_from (with_title_id [] cited) false [] rest
      else filled_from (with_title_id [] cited) true (name ++ b ∷ []) rest)
      + count_by is_row_name (if c then name ∷ names_from false [] rest else names_from true (name ++ b ∷ []) rest) * unit)
      [ true ↦ closed name rest (is_row_name name) refl (adds false [] rest) | false ↦ adds true (name ++ b ∷ []) rest ]
  adds false name (b ∷ rest) =
      elim (b == 123) as (λ c.
      bytes (if c then filled_from (with_title_id title_id cited) true [] rest else b ∷ filled_from (with_title_id title_id cited) false name rest)
      ≡ bytes (if c then filled_from (with_title_id [] cited) true [] rest else b ∷ filled_from (with_title_id [] cited) false name rest)
      + count_by is_row_name (if c then names_from true [] rest else names_from false name rest) * unit)
      [ true ↦ adds true [] rest | false ↦ one_byte b name rest (adds false name rest) ]

  -- a row adds its part once for each of its names
  pub row_adds : (template : List ℕ) → bytes (filled (with_title_id title_id cited) template)
      ≡ bytes (filled (with_title_id [] cited) template) + row_names template * unit
  row_adds template = adds false [] template

-- the length of a link behind a prefix differs as what is written of the address does
pub through_adds : (prefix : Option PrefixValue) (one other : List ℕ) (more : ℕ)
    → length (written_target (option_map_or (λ (p : PrefixValue). p.is_encoded) prefix false) one)
    ≡ length (written_target (option_map_or (λ (p : PrefixValue). p.is_encoded) prefix false) other) + more
    → length (through prefix one) ≡ length (through prefix other) + more
through_adds None one other more same = same
through_adds (Some prefix) one other more same =
    let takes : Bool = prefix.is_encoded in
    length-append prefix.front (written_target takes one ++ prefix.rest)
    ∙ ap (λ n. length prefix.front + n) (length-append (written_target takes one) prefix.rest)
    ∙ grind (arith, same)
    ∙ ap (λ n. (length prefix.front + n) + more) (sym (length-append (written_target takes other) prefix.rest))
    ∙ ap (λ n. n + more) (sym (length-append prefix.front (written_target takes other ++ prefix.rest)))

-- a template that was filled for no row has the size of all its links
pub size_made : (site : SiteValue) (cited : CitedTitleValue) (is_direct : Bool) (template text : List ℕ) (prefix : Option PrefixValue) (size : LinkSize)
    → cited.title_id ≡ [] → text ≡ filled cited template → prefix ≡ prefix_for site text is_direct
    → size.is_whole ≡ gives_others cited template → size.row_names ≡ row_names template → size.len ≡ length (through prefix text)
    → size.is_encoded ≡ option_map_or (λ (p : PrefixValue). p.is_encoded) prefix false → IsSizeOf site cited is_direct template size
unfolding proxied
size_made site cited is_direct template text prefix size none fills leads whole names len takes =
    let same : filled cited template ≡ filled (with_title_id [] cited) template = ap (λ (t : List ℕ). filled (with_title_id t cited) template) none in
    let is : text ≡ filled (with_title_id [] cited) template = fills ∙ same in
    let behind : prefix ≡ prefix_for site (filled (with_title_id [] cited) template) is_direct = leads ∙ ap (λ (t : List ℕ). prefix_for site t is_direct) is in
    record {
      is_whole = whole;
      row_names = names;
      len = len ∙ ap (λ (p : Option PrefixValue). length (through p text)) behind
          ∙ ap (λ (t : List ℕ). length (through (prefix_for site (filled (with_title_id [] cited) template) is_direct) t)) is;
      is_encoded = takes ∙ ap (λ (p : Option PrefixValue). option_map_or (λ (q : PrefixValue). q.is_encoded) p false) behind;
    }
