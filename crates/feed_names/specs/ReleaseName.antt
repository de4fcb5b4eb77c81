-- Release names: a package, and the day of the release.
use Rattle.std.specs.Prelude.{◌≡◌, ◌==◌, ◌||◌, ℕ, ◌≤◌, Bool, true, List, [], ◌∷◌, ◌++◌, length, codes, All, ℤ, ◌<ℤ◌}
use Rattle.std.specs.Cmp.Lexicographic.{pointwise}
use Rattle.std.specs.Ordering.{int_eq, on, eq_of_both}
use Rattle.std.specs.Char.{is_ascii_alphanumeric}
use Rattle.feed_dates.specs.Days.{IsDateOf, date_text}
use Rattle.feed_names.specs.declared.release_name.NameFault.{NameFault}
use Rattle.feed_names.specs.declared.release_name.NameFault.TheVariants.{BadStem, BadDate, BadEnding, Memory}

-- a release: its package, and its day counted from 1970-01-01
pub record Name : Type 0 where
  pub package_name : List ℕ
  pub day : ℤ

-- a letter, a digit, a hyphen, an underscore or a dot
abbrev pub is_package_byte : ℕ → Bool
is_package_byte b = is_ascii_alphanumeric b || (b == 45) || (b == 95) || (b == 46)

-- the first byte is a dot
abbrev pub BeginsWithDot : List ℕ → Type 0
BeginsWithDot [] = ⊥
BeginsWithDot (b ∷ bytes) = b ≡ 46

-- 1 to 100 such bytes; the first is not a dot
pub record IsPackageName (package_name : List ℕ) : Type 0 where
  pub least : 1 ≤ length package_name
  pub most : length package_name ≤ 100
  pub bytes : All (λ b. is_package_byte b ≡ true) package_name
  pub front : ¬ (BeginsWithDot package_name)

-- the front of a text is this package_name, `_`, and the date of the day
pub record EndsInDate (front package_name : List ℕ) (day : ℤ) : Type 0 where
  pub date : List ℕ
  pub is_date : IsDateOf day date
  pub spelled : front ≡ package_name ++ (95 ∷ date)

-- the text is this front and `.txt`
abbrev pub EndsInTxt : List ℕ → List ℕ → Type 0
EndsInTxt text front = text ≡ front ++ codes ".txt"

-- the text is the name of this release
pub record IsName (text : List ℕ) (name : Name) : Type 0 where
  pub front : List ℕ
  pub ends : EndsInTxt text front
  pub is_dated : EndsInDate front name.package_name name.day
  pub is_package_name : IsPackageName name.package_name

-- why a text is not a name: the ending is checked first, then the date, then the package_name; `Memory` is an allocation
-- failure
abbrev pub IsNameFault : List ℕ → NameFault → Type 0
IsNameFault text BadEnding = (front : List ℕ) → ¬ (EndsInTxt text front)
IsNameFault text BadDate = (front : List ℕ) × EndsInTxt text front × ((package_name : List ℕ) (day : ℤ) → ¬ (EndsInDate front package_name day))
IsNameFault text BadStem = (front package_name : List ℕ) × (day : ℤ) × EndsInTxt text front × EndsInDate front package_name day × ¬ (IsPackageName package_name)
IsNameFault text Memory = (name : Name) × IsName text name

-- the text of a name
abbrev pub text_of : Name → List ℕ
text_of name = name.package_name ++ (95 ∷ date_text name.day) ++ codes ".txt"

-- of the same package, and of an earlier day
abbrev pub IsEarlier : Name → Name → Type 0
IsEarlier m n = (m.package_name ≡ n.package_name) × (m.day <ℤ n.day)

-- whether two names are of the same release
abbrev pub name_eq : Name → Name → Bool
name_eq = eq_of_both (on (λ n. n.package_name) (pointwise ◌==◌)) (on (λ n. n.day) int_eq)

-- no text names two releases
abbrev pub OneReleaseForText : Type 0
OneReleaseForText = (text : List ℕ) (m n : Name) → IsName text m → IsName text n → m ≡ n

-- no release has two names
abbrev pub OneTextForRelease : Type 0
OneTextForRelease = (name : Name) (text : List ℕ) → IsName text name → text ≡ text_of name
