-- The orders are total, and rows that are equal in one are alike.
use Rattle.std.proofs.Common.{◌≡◌, ◌∙◌, ℕ, ℤ, Bool, true, false, List, [], ◌∷◌, Option, Some, None, refl, sym, ap, subst}
use Rattle.std.proofs.lemmas.Cmp.{int_ranked, nat_list_cmp_total, on_total, ranked, then_total, tied_itself, int_cmp_total, nat_cmp_total}
use Rattle.std.specs.Borrow.{Bor}
use Rattle.std.specs.Cmp.{IsTotalOrder, bool_cmp_total}
use Rattle.std.specs.Cmp.Lexicographic.{options_total, slice_cmp}
use Rattle.std.specs.Option.{option_and_then, option_cmp}
use Rattle.std.specs.Ordering.{bool_cmp, int_cmp, nat_cmp, ordering_then}
use Rattle.std.specs.declared.cmp.Ordering.{Ordering}
use Rattle.std.specs.declared.cmp.Ordering.TheVariants.{Less, Equal, Greater}
use Rattle.feed_identifiers.specs.Identifier.{isbn_in, issn_in}
use Rattle.feed_identifiers.specs.declared.identifier.Identifier.{Identifier}
use Rattle.feed_identifiers.specs.declared.identifier.Identifier.TheVariants.{Isbn, Issn}
use Rattle.feed_kbart.specs.Identifiers.{online_isbn, online_issn, print_isbn, print_issn}
use Rattle.feed_kbart.specs.RowValue.{RowValue, content}
use Rattle.feed_kbart.specs.declared.identifiers.Identifiers.{Identifiers}
use Rattle.feed_kbart.specs.declared.identifiers.Kind.{Kind}
use Rattle.feed_kbart.specs.declared.identifiers.Kind.TheVariants as of
use Rattle.cmd_report.specs.Columns.{is_book, is_book_kind}
use Rattle.cmd_report.specs.Comparison.{HasSameTitle, HasSameUrl}
use Rattle.cmd_report.specs.Pairing.{order}
use Rattle.cmd_report.specs.Ranking.{content_cmp, coverage_cmp, first_number, further_cmp, identifiers_cmp, number_cmp, ranking, text_cmp, texts_cmp}
use Rattle.cmd_report.specs.declared.order.By.{By}
use Rattle.cmd_report.specs.declared.order.By.TheVariants.{Content, TitleId, Url}

-- the orders are total
part_total : IsTotalOrder (option_cmp text_cmp)
part_total = options_total nat_list_cmp_total

identifiers_total : IsTotalOrder identifiers_cmp
identifiers_total =
    then_total (then_total (then_total (then_total (on_total is_book bool_cmp_total) (on_total print_issn part_total)) (on_total online_issn part_total))
    (on_total print_isbn part_total)) (on_total online_isbn part_total)

coverage_total : IsTotalOrder coverage_cmp
coverage_total =
    then_total (then_total (then_total (on_total (λ (row : RowValue). row.first_day) (options_total int_cmp_total))
    (on_total (λ (row : RowValue). row.last_day) (options_total int_cmp_total)))
    (on_total (λ (row : RowValue). row.first_volume) (options_total nat_cmp_total))) (on_total (λ (row : RowValue). row.last_volume) (options_total nat_cmp_total))

texts_total : IsTotalOrder texts_cmp
texts_total =
    then_total (then_total (then_total (then_total (then_total (on_total (λ (row : RowValue). row.title_id) nat_list_cmp_total)
    (on_total (λ (row : RowValue). row.url) nat_list_cmp_total)) (on_total (λ (row : RowValue). row.title) nat_list_cmp_total))
    (on_total (λ (row : RowValue). row.depth) nat_list_cmp_total)) (on_total (λ (row : RowValue). row.embargo) nat_list_cmp_total))
    (on_total (λ (row : RowValue). row.access) nat_list_cmp_total)

content_total : IsTotalOrder content_cmp
content_total = then_total (then_total texts_total coverage_total) (on_total (λ (row : RowValue). row.identifiers) identifiers_total)

further_total : (by : By) → IsTotalOrder (further_cmp by)
further_total Content = content_total
further_total TitleId = then_total (on_total (λ (row : RowValue). row.title_id) nat_list_cmp_total) (on_total (λ (row : RowValue). row.identifiers) identifiers_total)
further_total Url = then_total (on_total (λ (row : RowValue). row.url) nat_list_cmp_total) (on_total (λ (row : RowValue). row.identifiers) identifiers_total)

pub ranking_total : (by : By) → IsTotalOrder (ranking by)
ranking_total by = then_total (on_total (λ (row : RowValue). first_number row.identifiers) nat_cmp_total) (further_total by)

pub order_total : (by : By) → IsTotalOrder (order by)
order_total by = on_total (λ (row : Bor RowValue). row.now) (ranking_total by)

-- values that an order has as equal are equal
then_tied : (r s : Ordering) → ordering_then r s ≡ Equal → (r ≡ Equal) × (s ≡ Equal)
then_tied Less s e = absurd (cc)
then_tied Equal s e = (refl, e)
then_tied Greater s e = absurd (cc)

both_tied : (r s : Ordering) → r ≡ Equal → s ≡ Equal → ordering_then r s ≡ Equal
both_tied r s p q = ap (λ t. ordering_then t s) p ∙ q

nat_tied : (x y : ℕ) → nat_cmp x y ≡ Equal → x ≡ y
nat_tied x y e = ranked x y Equal (sym e)

int_tied : (x y : ℤ) → int_cmp x y ≡ Equal → x ≡ y
int_tied x y e = int_ranked x y Equal (sym e)

bool_tied : (a b : Bool) → bool_cmp a b ≡ Equal → a ≡ b
bool_tied false false e = refl
bool_tied false true e = absurd (cc)
bool_tied true false e = absurd (cc)
bool_tied true true e = refl

pub text_tied : (xs ys : List ℕ) → text_cmp xs ys ≡ Equal → xs ≡ ys
text_tied [] [] e = refl
text_tied [] (y ∷ ys) e = absurd (cc)
text_tied (x ∷ xs) [] e = absurd (cc)
text_tied (x ∷ xs) (y ∷ ys) e =
    let both = then_tied (nat_cmp x y) (slice_cmp nat_cmp xs ys) e in
    let first = nat_tied x y both.0 in
    let rest = text_tied xs ys both.1 in
    λ i. first i ∷ rest i

option_tied : {X : Type 0} (R : X → X → Ordering) → ((x y : X) → R x y ≡ Equal → x ≡ y) → (a b : Option X) → option_cmp R a b ≡ Equal → a ≡ b
option_tied R same None None e = refl
option_tied R same None (Some y) e = absurd (cc)
option_tied R same (Some x) None e = absurd (cc)
option_tied R same (Some x) (Some y) e = ap Some (same x y e)

same_kind : (a b : Kind) → is_book_kind a ≡ is_book_kind b → a ≡ b
same_kind of.Serial of.Serial e = refl
same_kind of.Serial of.Book e = absurd (cc)
same_kind of.Book of.Serial e = absurd (cc)
same_kind of.Book of.Book e = refl

same_part : (a b : Option Identifier) → option_and_then issn_in a ≡ option_and_then issn_in b → option_and_then isbn_in a ≡ option_and_then isbn_in b → a ≡ b
same_part None None e f = refl
same_part None (Some (Issn t)) e f = absurd (cc)
same_part None (Some (Isbn t)) e f = absurd (cc)
same_part (Some (Issn s)) None e f = absurd (cc)
same_part (Some (Isbn s)) None e f = absurd (cc)
same_part (Some (Issn s)) (Some (Issn t)) e f = cc
same_part (Some (Issn s)) (Some (Isbn t)) e f = absurd (cc)
same_part (Some (Isbn s)) (Some (Issn t)) e f = absurd (cc)
same_part (Some (Isbn s)) (Some (Isbn t)) e f = cc

pub same_identifiers : (x y : Identifiers) → is_book x ≡ is_book y → x.print ≡ y.print → x.online ≡ y.online → x ≡ y
same_identifiers x y k a b =
    let same = same_kind x.kind y.kind k in
    λ i. record { kind = same i; print = a i; online = b i }

identifiers_tied : (x y : Identifiers) → identifiers_cmp x y ≡ Equal → x ≡ y
identifiers_tied x y e =
    let a : Ordering = bool_cmp (is_book x) (is_book y) in
    let b : Ordering = option_cmp text_cmp (print_issn x) (print_issn y) in
    let c : Ordering = option_cmp text_cmp (online_issn x) (online_issn y) in
    let d : Ordering = option_cmp text_cmp (print_isbn x) (print_isbn y) in
    let f : Ordering = option_cmp text_cmp (online_isbn x) (online_isbn y) in
    let five = then_tied (ordering_then (ordering_then (ordering_then a b) c) d) f e in
    let four = then_tied (ordering_then (ordering_then a b) c) d five.0 in
    let three = then_tied (ordering_then a b) c four.0 in
    let two = then_tied a b three.0 in
    same_identifiers x y (bool_tied (is_book x) (is_book y) two.0)
    (same_part x.print y.print (option_tied text_cmp text_tied (print_issn x) (print_issn y) two.1) (option_tied text_cmp text_tied (print_isbn x) (print_isbn y) four.1))
    (same_part x.online y.online (option_tied text_cmp text_tied (online_issn x) (online_issn y) three.1) (option_tied text_cmp text_tied (online_isbn x) (online_isbn y) five.1))

-- the parts of two rows, but for their identifiers
pub record HasSameTexts (x y : RowValue) : Type 0 where
  pub title_id : x.title_id ≡ y.title_id
  pub url : x.url ≡ y.url
  pub title : x.title ≡ y.title
  pub depth : x.depth ≡ y.depth
  pub embargo : x.embargo ≡ y.embargo
  pub access : x.access ≡ y.access

pub record HasSameCoverage (x y : RowValue) : Type 0 where
  pub first_day : x.first_day ≡ y.first_day
  pub last_day : x.last_day ≡ y.last_day
  pub first_volume : x.first_volume ≡ y.first_volume
  pub last_volume : x.last_volume ≡ y.last_volume

texts_tied : (x y : RowValue) → texts_cmp x y ≡ Equal → HasSameTexts x y
texts_tied x y e =
    let a : Ordering = text_cmp x.title_id y.title_id in
    let b : Ordering = text_cmp x.url y.url in
    let c : Ordering = text_cmp x.title y.title in
    let d : Ordering = text_cmp x.depth y.depth in
    let f : Ordering = text_cmp x.embargo y.embargo in
    let g : Ordering = text_cmp x.access y.access in
    let six = then_tied (ordering_then (ordering_then (ordering_then (ordering_then a b) c) d) f) g e in
    let five = then_tied (ordering_then (ordering_then (ordering_then a b) c) d) f six.0 in
    let four = then_tied (ordering_then (ordering_then a b) c) d five.0 in
    let three = then_tied (ordering_then a b) c four.0 in
    let two = then_tied a b three.0 in
    record {
      title_id = text_tied x.title_id y.title_id two.0;
      url = text_tied x.url y.url two.1;
      title = text_tied x.title y.title three.1;
      depth = text_tied x.depth y.depth four.1;
      embargo = text_tied x.embargo y.embargo five.1;
      access = text_tied x.access y.access six.1;
    }

coverage_tied : (x y : RowValue) → coverage_cmp x y ≡ Equal → HasSameCoverage x y
coverage_tied x y e =
    let a : Ordering = option_cmp int_cmp x.first_day y.first_day in
    let b : Ordering = option_cmp int_cmp x.last_day y.last_day in
    let c : Ordering = option_cmp nat_cmp x.first_volume y.first_volume in
    let d : Ordering = option_cmp nat_cmp x.last_volume y.last_volume in
    let four = then_tied (ordering_then (ordering_then a b) c) d e in
    let three = then_tied (ordering_then a b) c four.0 in
    let two = then_tied a b three.0 in
    record {
      first_day = option_tied int_cmp int_tied x.first_day y.first_day two.0;
      last_day = option_tied int_cmp int_tied x.last_day y.last_day two.1;
      first_volume = option_tied nat_cmp nat_tied x.first_volume y.first_volume three.1;
      last_volume = option_tied nat_cmp nat_tied x.last_volume y.last_volume four.1;
    }

pub same_content : (x y : RowValue) → HasSameTexts x y → HasSameCoverage x y → x.identifiers ≡ y.identifiers → content x ≡ content y
same_content x y t c k = λ i. record {
  number = 0;
  title = t.title i;
  identifiers = k i;
  first_day = c.first_day i;
  last_day = c.last_day i;
  first_volume = c.first_volume i;
  last_volume = c.last_volume i;
  url = t.url i;
  title_id = t.title_id i;
  depth = t.depth i;
  embargo = t.embargo i;
  access = t.access i;
}

-- rows that are equal in an order are so in its further part
further_tied : (by : By) (x y : RowValue) → ranking by x y ≡ Equal → further_cmp by x y ≡ Equal
further_tied by x y e = (then_tied (number_cmp x y) (further_cmp by x y) e).1

tied_further : (by : By) (x y : RowValue) → x.identifiers ≡ y.identifiers → further_cmp by x y ≡ Equal → ranking by x y ≡ Equal
tied_further by x y k e =
    let same : number_cmp x y ≡ Equal = subst (λ z. nat_cmp (first_number x.identifiers) (first_number z) ≡ Equal) k (tied_itself nat_cmp_total (first_number x.identifiers)) in
    both_tied (number_cmp x y) (further_cmp by x y) same e

-- rows that are equal in an order are alike, and the other way round
pub content_tied : (x y : RowValue) → ranking Content x y ≡ Equal → content x ≡ content y
content_tied x y e =
    let three = then_tied (ordering_then (texts_cmp x y) (coverage_cmp x y)) (identifiers_cmp x.identifiers y.identifiers) (further_tied Content x y e) in
    let two = then_tied (texts_cmp x y) (coverage_cmp x y) three.0 in
    same_content x y (texts_tied x y two.0) (coverage_tied x y two.1) (identifiers_tied x.identifiers y.identifiers three.1)

pub tied_content : (x y : RowValue) → content x ≡ content y → ranking Content x y ≡ Equal
tied_content x y e = subst (λ z. ranking Content (content x) z ≡ Equal) e (tied_itself (ranking_total Content) (content x))

pub title_tied : (x y : RowValue) → ranking TitleId x y ≡ Equal → HasSameTitle x y
title_tied x y e =
    let two = then_tied (text_cmp x.title_id y.title_id) (identifiers_cmp x.identifiers y.identifiers) (further_tied TitleId x y e) in
    (text_tied x.title_id y.title_id two.0, identifiers_tied x.identifiers y.identifiers two.1)

pub url_tied : (x y : RowValue) → ranking Url x y ≡ Equal → HasSameUrl x y
url_tied x y e =
    let two = then_tied (text_cmp x.url y.url) (identifiers_cmp x.identifiers y.identifiers) (further_tied Url x y e) in
    (text_tied x.url y.url two.0, identifiers_tied x.identifiers y.identifiers two.1)

tied_text : (xs ys : List ℕ) → xs ≡ ys → text_cmp xs ys ≡ Equal
tied_text xs ys e = subst (λ zs. text_cmp xs zs ≡ Equal) e (tied_itself nat_list_cmp_total xs)

tied_identifiers : (x y : Identifiers) → x ≡ y → identifiers_cmp x y ≡ Equal
tied_identifiers x y e = subst (λ z. identifiers_cmp x z ≡ Equal) e (tied_itself identifiers_total x)

pub tied_title : (x y : RowValue) → HasSameTitle x y → ranking TitleId x y ≡ Equal
tied_title x y e =
    tied_further TitleId x y e.1 (both_tied (text_cmp x.title_id y.title_id) (identifiers_cmp x.identifiers y.identifiers) (tied_text x.title_id y.title_id e.0)
    (tied_identifiers x.identifiers y.identifiers e.1))

pub tied_url : (x y : RowValue) → HasSameUrl x y → ranking Url x y ≡ Equal
tied_url x y e =
    tied_further Url x y e.1 (both_tied (text_cmp x.url y.url) (identifiers_cmp x.identifiers y.identifiers) (tied_text x.url y.url e.0)
    (tied_identifiers x.identifiers y.identifiers e.1))

-- an order does not see the numbers of rows
pub further_of_content : (by : By) (a b x y : RowValue) → a ≡ content x → b ≡ content y → further_cmp by a b ≡ further_cmp by x y
further_of_content Content a b x y p q = λ i. content_cmp (p i) (q i)
further_of_content TitleId a b x y p q = λ i. further_cmp TitleId (p i) (q i)
further_of_content Url a b x y p q = λ i. further_cmp Url (p i) (q i)

-- rows that are equal but for their numbers are equal in each order
pub further_tied_content : (by : By) (x y : RowValue) → content x ≡ content y → further_cmp by x y ≡ Equal
further_tied_content by x y e =
    sym (further_of_content by (content x) (content x) x y refl e) ∙ tied_itself (further_total by) (content x)
