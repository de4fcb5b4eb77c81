-- The members of a set of ISSNs.
use Rattle.std.proofs.Common.{◌≡◌, ℕ, Bool, true, false, ◌||◌, List, [], ◌∷◌, refl, sym, ap, ◌∙◌}
use Rattle.std.specs.Prelude.{fold}
use Rattle.std.specs.declared.cmp.Ordering.TheVariants.{Less, Equal, Greater}
use Rattle.std.specs.Ordering.{match_ordering}
use Rattle.std.specs.Str.{bytes_eq}
use Rattle.std.specs.BTreeSet.{insert_key}
use Rattle.std.specs.FinSet.{nat_cmp-IsAntisymmetric, slice_cmp-IsAntisymmetric}
use Rattle.feed_answer.specs.IdentifierSet.{bytes_cmp, is_among, identifier_set}

or_itself : (a b : Bool) → (a || b) ≡ (a || (a || b))
or_itself true b = refl
or_itself false b = refl

or_swap : (a b c : Bool) → (a || (b || c)) ≡ (b || (a || c))
or_swap true true c = refl
or_swap true false c = refl
or_swap false b c = refl

or_move : (a b c : Bool) → ((a || b) || c) ≡ (b || (a || c))
or_move true true c = refl
or_move true false c = refl
or_move false b c = refl

or_false : (a : Bool) → a ≡ (a || false)
or_false true = refl
or_false false = refl

-- one ISSN more is among them
among-insert : (issn one : List ℕ) (issns : List (List ℕ)) → is_among issn (insert_key bytes_cmp issns one) ≡ (bytes_eq one issn || is_among issn issns)
among-insert issn one [] = refl
among-insert issn one (other ∷ others) =
    elim (bytes_cmp one other) as (λ o. bytes_cmp one other ≡ o
    → is_among issn (match_ordering o (one ∷ other ∷ others) (other ∷ others) (other ∷ insert_key bytes_cmp others one))
    ≡ (bytes_eq one issn || (bytes_eq other issn || is_among issn others))) [
      | Less ↦ λ e. refl
      | Equal ↦ λ e.
          or_itself (bytes_eq other issn) (is_among issn others)
          ∙ ap (λ same. bytes_eq same issn || (bytes_eq other issn || is_among issn others)) (sym (slice_cmp-IsAntisymmetric nat_cmp-IsAntisymmetric one other e))
      | Greater ↦ λ e.
          ap (λ b. bytes_eq other issn || b) (among-insert issn one others)
          ∙ or_swap (bytes_eq other issn) (bytes_eq one issn) (is_among issn others)
    ] refl

among-fold : (issn : List ℕ) (issns set : List (List ℕ)) → is_among issn (fold (insert_key bytes_cmp) set issns) ≡ (is_among issn set || is_among issn issns)
among-fold issn [] set = or_false (is_among issn set)
among-fold issn (one ∷ issns) set =
    among-fold issn issns (insert_key bytes_cmp set one)
    ∙ ap (λ b. b || is_among issn issns) (among-insert issn one set)
    ∙ or_move (bytes_eq one issn) (is_among issn set) (is_among issn issns)

pub has_just_its_identifiers : (issns : List (List ℕ)) (issn : List ℕ) → is_among issn (identifier_set issns) ≡ is_among issn issns
has_just_its_identifiers issns issn = among-fold issn issns []
