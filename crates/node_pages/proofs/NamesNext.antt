-- The names of packages are written one after another.
use Rattle.std.proofs.Common.{◌≡◌, ◌<◌, ◌+◌, ◌++◌, ◌∙◌, ℕ, List, ◌∷◌, ap, append_assoc, drop, get_or, length, sym}
use Rattle.std.proofs.lemmas.List.{drop_more}
use Rattle.feed_names.specs.ReleaseName.{Name}
use Rattle.node_site.specs.Packages.{shown_package}
use Rattle.node_site.specs.Site as site_file
use Rattle.node_pages.specs.Partial.{names_from, separator}

pub names_next : (site : site_file.SiteValue) (names : List Name) (i : ℕ) (name : Name) → i < length names → name ≡ get_or names i name
    → (whole out after : List ℕ) → out ++ names_from site i (drop i names) ≡ whole
    → after ≡ out ++ (separator i ++ shown_package site name.package_name)
    → after ++ names_from site (i + 1) (drop (i + 1) names) ≡ whole
names_next site names i name below is whole out after before next =
    let here : List ℕ = separator i ++ shown_package site name.package_name in
    let rest : List ℕ = names_from site (i + 1) (drop (i + 1) names) in
    let cut : drop i names ≡ name ∷ drop (i + 1) names = drop_more names i name below ∙ ap (λ (n : Name). n ∷ drop (i + 1) names) (sym is) in
    ap (λ (o : List ℕ). o ++ rest) next ∙ append_assoc out here rest ∙ ap (λ (ns : List Name). out ++ names_from site i ns) (sym cut) ∙ before
