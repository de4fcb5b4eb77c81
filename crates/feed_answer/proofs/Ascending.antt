-- Sets of ISSNs ascend.
use Rattle.std.proofs.Common.{◌≡◌, ℕ, List, [], ◌∷◌, refl, ap, ◌∙◌}
use Rattle.std.specs.Prelude.{fold}
use Rattle.std.specs.declared.cmp.Ordering.TheVariants.{Less, Equal, Greater}
use Rattle.std.specs.Ordering.{match_ordering, ordering_reverse}
use Rattle.std.specs.List.{AllByRecursion}
use Rattle.std.specs.List.Sorted.{IsStrictlySortedBy}
use Rattle.std.specs.BTreeSet.{insert_key}
use Rattle.std.proofs.lemmas.Cmp.{nat_list_cmp_total}
use Rattle.feed_answer.specs.IdentifierSet.{bytes_cmp, IsAscending, identifier_set}

all_below : (first second : List ℕ) (issns : List (List ℕ)) → bytes_cmp first second ≡ Less
    → AllByRecursion (λ issn. bytes_cmp second issn ≡ Less) issns → AllByRecursion (λ issn. bytes_cmp first issn ≡ Less) issns
all_below first second [] below all = tt
all_below first second (issn ∷ issns) below all =
    (nat_list_cmp_total.trans first second issn below all.0, all_below first second issns below all.1)

all_insert : (P : List ℕ → Type 0) (one : List ℕ) (issns : List (List ℕ)) → P one → AllByRecursion P issns → AllByRecursion P (insert_key bytes_cmp issns one)
all_insert P one [] first all = (first, tt)
all_insert P one (other ∷ others) first all =
    elim (bytes_cmp one other) as (λ o. AllByRecursion P (match_ordering o (one ∷ other ∷ others) (other ∷ others) (other ∷ insert_key bytes_cmp others one))) [
      | Less ↦ (first, all)
      | Equal ↦ all
      | Greater ↦ (all.0, all_insert P one others first all.1)
    ]

-- one ISSN more, in its place
ascending_insert : (one : List ℕ) (issns : List (List ℕ)) → IsAscending issns → IsAscending (insert_key bytes_cmp issns one)
unfolding IsStrictlySortedBy
ascending_insert one [] up = (tt, tt)
ascending_insert one (other ∷ others) up =
    elim (bytes_cmp one other) as (λ o. bytes_cmp one other ≡ o
    → IsStrictlySortedBy bytes_cmp (match_ordering o (one ∷ other ∷ others) (other ∷ others) (other ∷ insert_key bytes_cmp others one))) [
      | Less ↦ λ e. ((e, all_below one other others e up.0), up)
      | Equal ↦ λ e. up
      | Greater ↦ λ e.
          (all_insert (λ issn. bytes_cmp other issn ≡ Less) one others (nat_list_cmp_total.antisymm other one ∙ ap ordering_reverse e) up.0, ascending_insert one others up.1)
    ] refl

ascending_fold : (issns set : List (List ℕ)) → IsAscending set → IsAscending (fold (insert_key bytes_cmp) set issns)
ascending_fold [] set up = up
ascending_fold (one ∷ issns) set up = ascending_fold issns (insert_key bytes_cmp set one) (ascending_insert one set up)

-- each ISSN of a set is below those after it
pub set_ascends : (issns : List (List ℕ)) → IsAscending (identifier_set issns)
unfolding IsStrictlySortedBy
set_ascends issns = ascending_fold issns [] tt
