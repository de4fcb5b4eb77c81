-- Rows are equal exactly if they have the same value in each column; and the counts of a comparison add up.
use Rattle.std.proofs.Common.{◌≡◌, ◌∙◌, ◌+◌, ℕ, Bool, true, false, cond, List, [], ◌∷◌, ◌++◌, Option, Some, None, refl, sym, ap, arith, nat_eq}
use Rattle.std.proofs.lemmas.Bool.Decides.{Decides-eqb, Decides-int_eq}
use Rattle.std.proofs.lemmas.List.Elements.{All-head, All-tail}
use Rattle.std.proofs.lemmas.List.Sorted.{sum_by-IsPermutation}
use Rattle.std.proofs.lemmas.List.Sums.{sum_by-append, sum_by-cons}
use Rattle.std.specs.Bool.{Decides}
use Rattle.std.specs.Cmp.Lexicographic.{bytes_decides}
use Rattle.std.specs.List.{All}
use Rattle.std.specs.Option.{option_eq}
use Rattle.std.specs.Ordering.{int_eq}
use Rattle.feed_identifiers.specs.Identifier.{identifier_eq, text_of}
use Rattle.feed_identifiers.specs.declared.identifier.Identifier.{Identifier}
use Rattle.feed_identifiers.specs.declared.identifier.Identifier.TheVariants.{Isbn, Issn}
use Rattle.feed_kbart.specs.RowValue.{RowValue, content}
use Rattle.feed_kbart.specs.declared.label.Label.{Label}
use Rattle.feed_kbart.specs.declared.label.Label.TheVariants.{PublicationTitle, PrintIdentifier, OnlineIdentifier, DateFirstIssueOnline, NumFirstVolOnline}
use Rattle.feed_kbart.specs.declared.label.Label.TheVariants.{DateLastIssueOnline, NumLastVolOnline, TitleUrl, TitleId, EmbargoInfo, CoverageDepth}
use Rattle.feed_kbart.specs.declared.label.Label.TheVariants.{PublicationType, AccessType}
use Rattle.cmd_report.specs.Columns.{is_book, is_same, is_same_answer}
use Rattle.cmd_report.specs.Comparison.{ChangeValue, mentioned_new, mentioned_old, news, olds}
use Rattle.cmd_report.specs.Laws.{ChangesHaveAColumn, CountsAddUp, count}
use Rattle.cmd_report.proofs.Alike.{same_content, same_identifiers}

option_decides : {X : Type 0} (E : X → X → Bool) → ((x y : X) → Decides (E x y) (x ≡ y)) → (a b : Option X) → Decides (option_eq E a b) (a ≡ b)
option_decides E each None None = (λ e. refl, λ e. refl)
option_decides E each None (Some y) = (λ e. absurd (cc), λ e. absurd (cc))
option_decides E each (Some x) None = (λ e. absurd (cc), λ e. absurd (cc))
option_decides E each (Some x) (Some y) = (λ e. ap Some ((each x y).0 e), λ e. (each x y).1 (cc))

answer_decides : (a b : Bool) → Decides (is_same_answer a b) (a ≡ b)
answer_decides true true = (λ e. refl, λ e. refl)
answer_decides true false = (λ e. absurd (cc), λ e. absurd (cc))
answer_decides false true = (λ e. absurd (cc), λ e. absurd (cc))
answer_decides false false = (λ e. refl, λ e. refl)

identifier_decides : (a b : Identifier) → Decides (identifier_eq a b) (a ≡ b)
identifier_decides (Issn s) (Issn t) = (λ e. ap Issn ((bytes_decides s t).0 e), λ e. (bytes_decides s t).1 (ap text_of e))
identifier_decides (Isbn s) (Isbn t) = (λ e. ap Isbn ((bytes_decides s t).0 e), λ e. (bytes_decides s t).1 (ap text_of e))
identifier_decides (Issn s) (Isbn t) = (λ e. absurd (cc), λ e. absurd (cc))
identifier_decides (Isbn s) (Issn t) = (λ e. absurd (cc), λ e. absurd (cc))

identifiers : (a b : Option Identifier) → Decides (option_eq identifier_eq a b) (a ≡ b)
identifiers = option_decides identifier_eq identifier_decides

numbers : (a b : Option ℕ) → Decides (option_eq nat_eq a b) (a ≡ b)
numbers = option_decides nat_eq Decides-eqb

forth : (one other : RowValue) → ((label : Label) → is_same label one other ≡ true) → content one ≡ content other
forth one other h =
    same_content one other
    (record {
      title_id = (bytes_decides one.title_id other.title_id).0 (h TitleId);
      url = (bytes_decides one.url other.url).0 (h TitleUrl);
      title = (bytes_decides one.title other.title).0 (h PublicationTitle);
      depth = (bytes_decides one.depth other.depth).0 (h CoverageDepth);
      embargo = (bytes_decides one.embargo other.embargo).0 (h EmbargoInfo);
      access = (bytes_decides one.access other.access).0 (h AccessType);
    })
    (record {
      first_day = (option_decides int_eq Decides-int_eq one.first_day other.first_day).0 (h DateFirstIssueOnline);
      last_day = (option_decides int_eq Decides-int_eq one.last_day other.last_day).0 (h DateLastIssueOnline);
      first_volume = (numbers one.first_volume other.first_volume).0 (h NumFirstVolOnline);
      last_volume = (numbers one.last_volume other.last_volume).0 (h NumLastVolOnline);
    })
    (same_identifiers one.identifiers other.identifiers ((answer_decides (is_book one.identifiers) (is_book other.identifiers)).0 (h PublicationType))
    ((identifiers one.identifiers.print other.identifiers.print).0 (h PrintIdentifier))
    ((identifiers one.identifiers.online other.identifiers.online).0 (h OnlineIdentifier)))

back : (one other : RowValue) → content one ≡ content other → (label : Label) → is_same label one other ≡ true
back one other e PublicationTitle = (bytes_decides one.title other.title).1 (ap (λ r. r.title) e)
back one other e PrintIdentifier = (identifiers one.identifiers.print other.identifiers.print).1 (ap (λ r. r.identifiers.print) e)
back one other e OnlineIdentifier = (identifiers one.identifiers.online other.identifiers.online).1 (ap (λ r. r.identifiers.online) e)
back one other e DateFirstIssueOnline = (option_decides int_eq Decides-int_eq one.first_day other.first_day).1 (ap (λ r. r.first_day) e)
back one other e NumFirstVolOnline = (numbers one.first_volume other.first_volume).1 (ap (λ r. r.first_volume) e)
back one other e DateLastIssueOnline = (option_decides int_eq Decides-int_eq one.last_day other.last_day).1 (ap (λ r. r.last_day) e)
back one other e NumLastVolOnline = (numbers one.last_volume other.last_volume).1 (ap (λ r. r.last_volume) e)
back one other e TitleUrl = (bytes_decides one.url other.url).1 (ap (λ r. r.url) e)
back one other e TitleId = (bytes_decides one.title_id other.title_id).1 (ap (λ r. r.title_id) e)
back one other e EmbargoInfo = (bytes_decides one.embargo other.embargo).1 (ap (λ r. r.embargo) e)
back one other e CoverageDepth = (bytes_decides one.depth other.depth).1 (ap (λ r. r.depth) e)
back one other e PublicationType = (answer_decides (is_book one.identifiers) (is_book other.identifiers)).1 (ap (λ r. is_book r.identifiers) e)
back one other e AccessType = (bytes_decides one.access other.access).1 (ap (λ r. r.access) e)

pub columns_decide : ChangesHaveAColumn
columns_decide one other = (forth one other, back one other)

-- rows that are equal pass a test alike
same_counts : (test : RowValue → Bool) (changes : List ChangeValue) → All (λ change. content change.old ≡ content change.new) changes
    → count test (olds changes) ≡ count test (news changes)
same_counts test [] all = refl
same_counts test (c ∷ changes) all =
    let first : test (content c.old) ≡ test (content c.new) = ap test (All-head (λ change. content change.old ≡ content change.new) c changes all) in
    sum_by-cons (λ row. cond (test (content row)) 1 0) c.old (olds changes)
    ∙ (λ i. cond (first i) 1 0 + same_counts test changes (All-tail (λ change. content change.old ≡ content change.new) c changes all) i)
    ∙ sym (sum_by-cons (λ row. cond (test (content row)) 1 0) c.new (news changes))

pub added_up : CountsAddUp
added_up old new c test m =
    omega (
      arith,
      sum_by-IsPermutation (λ row. cond (test (content row)) 1 0) old (mentioned_old c ++ olds m.same) m.old_rows,
      sum_by-append (λ row. cond (test (content row)) 1 0) (mentioned_old c) (olds m.same),
      sum_by-IsPermutation (λ row. cond (test (content row)) 1 0) new (mentioned_new c ++ news m.same) m.new_rows,
      sum_by-append (λ row. cond (test (content row)) 1 0) (mentioned_new c) (news m.same),
      same_counts test m.same m.equal,
    )
