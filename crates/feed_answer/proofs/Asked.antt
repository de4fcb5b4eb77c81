-- The identifiers that a query asks for: its ISSNs, and then its ISBNs.
use Rattle.std.proofs.Common.{◌≡◌, ◌+◌, ℕ, zero, suc, false, ◌||◌, List, [], ◌∷◌, ◌++◌, map, take, Option, Some, None, refl, sym, ap, ◌∙◌, arith}
use Rattle.std.specs.List.{cons_option, flat_map, list_any, slice_get}
use Rattle.std.specs.Str.{bytes_eq}
use Rattle.std.proofs.lemmas.Grind.{flat_map-append}
use Rattle.std.proofs.lemmas.List.{append-nil}
use Rattle.feed_identifiers.specs.Identifier.{identifier_eq}
use Rattle.feed_identifiers.specs.declared.identifier.Identifier.TheVariants.{Issn, Isbn}
use Rattle.feed_answer.specs.IdentifierSet.{is_among}
use Rattle.feed_answer.specs.QueryValue.{sole}

-- an ISSN is among them exactly if it is among the ISSNs, and an ISBN if it is among the ISBNs
no_issn : (issn : List ℕ) (isbns : List (List ℕ)) → false ≡ list_any (λ one. identifier_eq one (Issn issn)) (map Isbn isbns)
no_issn issn [] = refl
no_issn issn (isbn ∷ isbns) = no_issn issn isbns

pub issn_among : (issn : List ℕ) (issns isbns : List (List ℕ))
    → is_among issn issns ≡ list_any (λ one. identifier_eq one (Issn issn)) (map Issn issns ++ map Isbn isbns)
issn_among issn [] isbns = no_issn issn isbns
issn_among issn (one ∷ issns) isbns = ap (λ b. bytes_eq one issn || b) (issn_among issn issns isbns)

pub isbn_among : (isbn : List ℕ) (issns isbns : List (List ℕ))
    → is_among isbn isbns ≡ list_any (λ one. identifier_eq one (Isbn isbn)) (map Issn issns ++ map Isbn isbns)
isbn_among isbn [] [] = refl
isbn_among isbn [] (one ∷ isbns) = ap (λ b. bytes_eq one isbn || b) (isbn_among isbn [] isbns)
isbn_among isbn (issn ∷ issns) isbns = isbn_among isbn issns isbns

-- the only one
pub sole_is : {A : Type 0} (some : List A) (x : A) → sole some ≡ Some x → some ≡ x ∷ []
sole_is [] x e = absurd (cc)
sole_is (y ∷ []) x e = cc
sole_is (y ∷ z ∷ others) x e = absurd (cc)

-- the first of them, with one more
pub taken_next : {A : Type 0} (some : List A) (i : ℕ) (o : Option A) → slice_get some i ≡ o → take (i + 1) some ≡ take i some ++ cons_option o []
taken_next some i o at =
    let more : i + 1 ≡ suc i = omega arith in
    rw more (taken some i ∙ ap (λ o. take i some ++ cons_option o []) at)
  where
    taken : {A : Type 0} (some : List A) (i : ℕ) → take (suc i) some ≡ take i some ++ cons_option (slice_get some i) []
    taken [] zero = refl
    taken [] (suc i) = refl
    taken (x ∷ some) zero = refl
    taken (x ∷ some) (suc i) = ap (λ l. x ∷ l) (taken some i)

-- what they give
module _ {A : Type 0} (f : A → List ℕ) (some : List A) (i : ℕ) where
  next : (o : Option A) → slice_get some i ≡ o → flat_map f (take (i + 1) some) ≡ flat_map f (take i some) ++ flat_map f (cons_option o [])
  next o at = ap (flat_map f) (taken_next some i o at) ∙ flat_map-append f (take i some) (cons_option o [])

  pub given_next : (x : A) (old new : List ℕ) → slice_get some i ≡ Some x → new ≡ old ++ f x → old ≡ flat_map f (take i some) → new ≡ flat_map f (take (i + 1) some)
  given_next x old new at more was =
      more ∙ ap (λ l. l ++ f x) was ∙ ap (λ l. flat_map f (take i some) ++ l) (sym (append-nil (f x))) ∙ sym (next (Some x) at)

  pub none_next : (old : List ℕ) → slice_get some i ≡ None → old ≡ flat_map f (take i some) → old ≡ flat_map f (take (i + 1) some)
  none_next old at was = was ∙ sym (append-nil (flat_map f (take i some))) ∙ sym (next None at)
