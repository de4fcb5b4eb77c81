-- What the pairs of a query say, with one pair more.
use Rattle.std.proofs.Common.{◌≡◌, ℕ, Bool, true, false, ◌||◌, List, [], ◌∷◌, ◌++◌, Option, Some, None, if◌then◌else◌, refl, sym, ap, ◌∙◌}
use Rattle.std.specs.Prelude.{fold}
use Rattle.std.specs.List.{cons_option, filter_map, list_any}
use Rattle.std.specs.Option.{option_or}
use Rattle.std.specs.BTreeSet.{insert_key}
use Rattle.std.proofs.lemmas.List.Elements.{filter_map-append}
use Rattle.std.proofs.lemmas.List.Folds.{list_any-append}
use Rattle.std.proofs.lemmas.List.Sums.{fold-append}
use Rattle.feed_answer.specs.IdentifierSet.{IsAscending, bytes_cmp, identifier_set}
use Rattle.feed_answer.specs.Pairs.{first}
use Rattle.feed_answer.proofs.Ascending.{set_ascends}

or_false : (a : Bool) → (a || false) ≡ a
or_false true = refl
or_false false = refl

module _ {A : Type 0} (seen : List A) (next : A) where
  -- one of them passes a test
  pub any_more : (test : A → Bool) (before here : Bool) → before ≡ list_any test seen → here ≡ test next → (before || here) ≡ list_any test (seen ++ next ∷ [])
  any_more test before here is one =
      ap (λ b. b || here) is ∙ ap (λ b. list_any test seen || b) (one ∙ sym (or_false (test next))) ∙ sym (list_any-append test seen (next ∷ []))

  -- the first value
  pub first_more : {B : Type 0} (value : A → Option B) (before here after : Option B) → before ≡ first (filter_map value seen) → here ≡ value next
      → after ≡ option_or before here → after ≡ first (filter_map value (seen ++ next ∷ []))
  first_more value before here after is one more =
      more ∙ ap (λ o. option_or o here) is ∙ ap (option_or (first (filter_map value seen))) one ∙ go (filter_map value seen) (value next)
      ∙ sym (ap first (filter_map-append value seen (next ∷ [])))
    where
      go : {B : Type 0} (values : List B) (last : Option B) → option_or (first values) last ≡ first (values ++ cons_option last [])
      go [] None = refl
      go [] (Some last) = refl
      go (one ∷ values) last = refl

  -- the set of their identifiers
  pub set_more : (one : A → Option (List ℕ)) (before after : List (List ℕ)) (here : Option (List ℕ)) → before ≡ identifier_set (filter_map one seen)
      → here ≡ one next → after ≡ fold (insert_key bytes_cmp) before (cons_option here []) → after ≡ identifier_set (filter_map one (seen ++ next ∷ []))
  set_more one before after here is own more =
      more ∙ ap (λ set. fold (insert_key bytes_cmp) set (cons_option here [])) is
      ∙ ap (λ o. fold (insert_key bytes_cmp) (identifier_set (filter_map one seen)) (cons_option o [])) own
      ∙ sym (ap identifier_set (filter_map-append one seen (next ∷ [])) ∙ fold-append (insert_key bytes_cmp) [] (filter_map one seen) (filter_map one (next ∷ [])))

-- a set that counts ascends
pub counted_ascends : (is_other : Bool) (identifiers : List (List ℕ)) → IsAscending (if is_other then [] else identifier_set identifiers)
counted_ascends true identifiers = set_ascends []
counted_ascends false identifiers = set_ascends identifiers
