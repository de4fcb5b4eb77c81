-- The parts of a page, one after another.
use Rattle.std.proofs.Common.{◌≡◌, ◌+◌, ◌<◌, ℕ, List, [], ◌∷◌, ◌++◌, length, get_or, take, sym, ap, ◌∙◌, append_assoc}
use Rattle.std.specs.List.{flat_map}
use Rattle.std.proofs.lemmas.List.{flat_map_more, take_more}
use Rattle.std.proofs.lemmas.Grind.{flat_map-append}
use Rattle.node_site.specs.Site as site_file
use Rattle.node_templates.specs.Pages.{Part, page_text, template_text}

pub page_append : (site : site_file.SiteValue) (a b : List Part) → page_text site (a ++ b) ≡ page_text site a ++ page_text site b
unfolding page_text
page_append site a b = flat_map-append (λ (part : Part). template_text site part.1 part.0) a b

-- the parts of one more item of a list are written
module _ (site : site_file.SiteValue) {X : Type 0} (f : X → List Part) (xs : List X) (i : ℕ) (x : X) (below : i < length xs) (is : x ≡ get_or xs i x) where
  pub page_next : (first out after : List ℕ) → out ≡ first ++ page_text site (flat_map f (take i xs)) → after ≡ out ++ page_text site (f x)
      → after ≡ first ++ page_text site (flat_map f (take (i + 1) xs))
  page_next first out after before next =
      let done = flat_map f (take i xs) in
      let more : done ++ f x ≡ flat_map f (take (i + 1) xs) =
      flat_map_more f [] (take i xs) x ∙ ap (λ (y : X). flat_map f (take i xs ++ y ∷ [])) is
      ∙ ap (λ (ys : List X). flat_map f ys) (sym (take_more xs i x below)) in
      next ∙ ap (λ (o : List ℕ). o ++ page_text site (f x)) before ∙ append_assoc first (page_text site done) (page_text site (f x))
      ∙ ap (λ (t : List ℕ). first ++ t) (sym (page_append site done (f x)) ∙ ap (page_text site) more)
