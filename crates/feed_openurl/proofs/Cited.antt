-- Pairs that leave a citation as it is.
use Rattle.std.proofs.Common.{◌≡◌, ℕ, List, [], ◌∷◌, ◌++◌, true, false, Option, Some, None, refl, ap, ◌∙◌}
use Rattle.std.specs.Prelude.{◌&&◌, not, is_some}
use Rattle.std.specs.List.{flat_map}
use Rattle.std.specs.Str.{chars, is_utf8}
use Rattle.feed_bytes.specs.Trim.{trimmed}
use Rattle.feed_openurl.specs.Citations.{OfferValue, cited, name_offers_by, offer, offer_text, offers_by, offers_for, offers_of, pair_offers, part_of, part_offers}
use Rattle.feed_openurl.specs.Dropped.{is_other}
use Rattle.feed_openurl.specs.Keys.{key_of}
use Rattle.feed_openurl.specs.Laws.{BlankIsUncited, DroppedIsUncited, IsUncited}
use Rattle.feed_openurl.specs.Shown.{shown}
use Rattle.feed_citation.specs.declared.citation_part.CitationPart.{CitationPart}
use Rattle.feed_citation.specs.declared.citation_part.CitationPart.TheVariants as part
use Rattle.feed_openurl.specs.declared.key.Key.{Key}
use Rattle.feed_openurl.specs.declared.key.Key.TheVariants as key

-- a pair that offers nothing changes no citation
passed_over : (pair : List ℕ × List ℕ) → pair_offers pair ≡ [] → IsUncited pair
passed_over pair none before after = ap cited (by before)
  where
    by : (front : List (List ℕ × List ℕ)) → offers_of (front ++ pair ∷ after) ≡ offers_of (front ++ after)
    by [] = ap (λ (l : List OfferValue). l ++ offers_of after) none
    by (p ∷ front) = ap (λ (l : List OfferValue). pair_offers p ++ l) (by front)

-- an empty value shows nothing
nothing_shown : shown [] ≡ []
unfolding shown is_utf8 chars
nothing_shown = refl

not_offered : (one : CitationPart) (rank : ℕ) → offer one rank [] ≡ []
not_offered one rank = ap (offer_text one rank) nothing_shown

pages_empty : (rank : ℕ) → part_offers part.Pages rank [] ≡ []
pages_empty rank =
    ap (λ (l : List OfferValue). l ++ (offer part.Page rank [] ++ offer part.LastPage rank [])) (not_offered part.Pages rank)
    ∙ ap (λ (l : List OfferValue). l ++ offer part.LastPage rank []) (not_offered part.Page rank)
    ∙ not_offered part.LastPage rank

part_empty : (one : CitationPart) (rank : ℕ) → part_offers one rank [] ≡ []
part_empty part.Article rank = not_offered part.Article rank
part_empty part.Title rank = not_offered part.Title rank
part_empty part.Author rank = not_offered part.Author rank
part_empty part.Date rank = not_offered part.Date rank
part_empty part.Volume rank = not_offered part.Volume rank
part_empty part.Issue rank = not_offered part.Issue rank
part_empty part.Page rank = not_offered part.Page rank
part_empty part.Doi rank = refl
part_empty part.Pmid rank = refl
part_empty part.Genre rank = not_offered part.Genre rank
part_empty part.LastName rank = not_offered part.LastName rank
part_empty part.FirstName rank = not_offered part.FirstName rank
part_empty part.LastPage rank = not_offered part.LastPage rank
part_empty part.Pages rank = pages_empty rank
part_empty part.Series rank = not_offered part.Series rank
part_empty part.Edition rank = not_offered part.Edition rank
part_empty part.Publisher rank = not_offered part.Publisher rank
part_empty part.Place rank = not_offered part.Place rank
part_empty part.Institution rank = not_offered part.Institution rank

found_empty : (found : Option (CitationPart × ℕ)) → offers_for found [] ≡ []
found_empty None = refl
found_empty (Some (one, rank)) = part_empty one rank

key_empty : (k : Key) (name : List ℕ) → offers_by k name [] ≡ []
key_empty key.Version name = refl
key_empty key.Format name = refl
key_empty key.Number name = refl
key_empty (key.Name tier) name = refl
key_empty (key.Date tier) name = not_offered part.Date _
key_empty (key.Volume tier) name = not_offered part.Volume _
key_empty key.Other name = found_empty (part_of name)

pub blank_uncited : BlankIsUncited
blank_uncited name value blank =
    passed_over (name, value) (ap (λ (v : List ℕ). offers_by (key_of name) name v) blank ∙ key_empty (key_of name) name)

-- a key that nobody reads offers nothing
dropped_offers : (k : Key) (name value : List ℕ) (found : Option (CitationPart × ℕ)) → part_of name ≡ found → (is_other k && not (is_some found)) ≡ true → offers_by k name value ≡ []
dropped_offers key.Other name value None is h = ap (λ (f : Option (CitationPart × ℕ)). offers_for f value) is
dropped_offers key.Other name value (Some found) is h = absurd (let u : false ≡ true = h in cc)
dropped_offers key.Version name value found is h = absurd (let u : false ≡ true = h in cc)
dropped_offers key.Format name value found is h = absurd (let u : false ≡ true = h in cc)
dropped_offers key.Number name value found is h = absurd (let u : false ≡ true = h in cc)
dropped_offers (key.Name tier) name value found is h = absurd (let u : false ≡ true = h in cc)
dropped_offers (key.Date tier) name value found is h = absurd (let u : false ≡ true = h in cc)
dropped_offers (key.Volume tier) name value found is h = absurd (let u : false ≡ true = h in cc)

pub dropped_uncited : DroppedIsUncited
dropped_uncited name value dropped = passed_over (name, value) (dropped_offers (key_of name) name (trimmed value) (part_of name) refl dropped)
