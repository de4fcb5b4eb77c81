-- The release that a target names.
use Rattle.std.proofs.Common.{◌≡◌, List, ℕ, drop, length, codes, Option, Some, None, sym, ap, ◌∙◌, subst}
use Rattle.feed_names.specs.ReleaseName.{Name, IsName, IsNameFault, EndsInDate, IsPackageName}
use Rattle.feed_names.specs.declared.release_name.NameFault.TheVariants.{BadStem, BadDate}
use Rattle.feed_names.proofs.NameLemmas.{one_split, one_front}
use Rattle.feed_http_heads.specs.Targets.{origin_form}
use Rattle.feed_http.specs.Requests.{NamesRelease, IsNamedBy}

-- a text without a date is not a name
undated : (text : List ℕ) → IsNameFault text BadDate → (name : Name) → ¬ (IsName text name)
undated text refused name is =
    let fronts : is.front ≡ refused.0 = one_front text is.front refused.0 is.ends refused.1 in
    refused.2 name.package_name name.day (subst (λ (f : List ℕ). EndsInDate f name.package_name name.day) fronts is.is_dated)

-- nor is one whose package_name is bad, since it has no other package_name
unstemmed : (text : List ℕ) → IsNameFault text BadStem → (name : Name) → ¬ (IsName text name)
unstemmed text refused name is =
    let split : Name = record { package_name = refused.1; day = refused.2 } in
    let fronts : is.front ≡ refused.0 = one_front text is.front refused.0 is.ends refused.3 in
    let same : name ≡ split = one_split refused.0 name split (subst (λ (f : List ℕ). EndsInDate f name.package_name name.day) fronts is.is_dated) refused.4 in
    refused.5 (subst (λ (n : Name). IsPackageName n.package_name) same is.is_package_name)

-- a target whose path is a slash and no name names no release
no_release : (target text : List ℕ) → text ≡ drop 1 (origin_form target) → ((name : Name) → ¬ (IsName text name)) → (name : Name) → ¬ (NamesRelease target name)
no_release target text is none name names =
    let same : names.text ≡ text = sym (is ∙ ap (drop 1) names.path) in
    none name (subst (λ (t : List ℕ). IsName t name) same names.is_name)

-- the text after the slash
behind : (target path text slashes : List ℕ) → path ≡ origin_form target → slashes ≡ codes "/" → text ≡ drop (length slashes) path → text ≡ drop 1 (origin_form target)
behind target path text slashes p s is = is ∙ ap (λ t. drop (length t) path) s ∙ ap (drop 1) p

pub no_release_undated : (target path text slashes : List ℕ) → path ≡ origin_form target → slashes ≡ codes "/" → text ≡ drop (length slashes) path
    → IsNameFault text BadDate → (name : Name) → ¬ (NamesRelease target name)
no_release_undated target path text slashes p s is refused = no_release target text (behind target path text slashes p s is) (undated text refused)

pub no_release_unstemmed : (target path text slashes : List ℕ) → path ≡ origin_form target → slashes ≡ codes "/" → text ≡ drop (length slashes) path
    → IsNameFault text BadStem → (name : Name) → ¬ (NamesRelease target name)
no_release_unstemmed target path text slashes p s is refused = no_release target text (behind target path text slashes p s is) (unstemmed text refused)

-- a target names one release at most
pub one_release : (target : List ℕ) (m n : Name) → NamesRelease target m → NamesRelease target n → m ≡ n
one_release target m n a b =
    let texts : a.text ≡ b.text = ap (drop 1) (sym a.path ∙ b.path) in
    let is : IsName b.text m = subst (λ (t : List ℕ). IsName t m) texts a.is_name in
    let fronts : is.front ≡ b.is_name.front = one_front b.text is.front b.is_name.front is.ends b.is_name.ends in
    one_split b.is_name.front m n (subst (λ (f : List ℕ). EndsInDate f m.package_name m.day) fronts is.is_dated) b.is_name.is_dated

pub named_is : (target : List ℕ) (named : Option Name) (name : Name) → IsNamedBy target named → NamesRelease target name → named ≡ Some name
named_is target None name none is = absurd (none name is)
named_is target (Some other) name is_other is = ap (λ n. Some n) (one_release target other name is_other is)
