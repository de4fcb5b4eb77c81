-- The order in which a keeper returns records and parts.
use Rattle.std.specs.Prelude.{◌≡◌, ◌≤◌, false, List}
use Rattle.std.specs.List.{All, AllPairs}
use Rattle.feed_names.specs.ReleaseName.{Name}
use Rattle.feed_model.specs.Content.{Content, Part, names}
use Rattle.feed_model.specs.Change.{comes_before}

-- no name is less than one before it
abbrev pub AreNamesInOrder : List Name → Type 0
AreNamesInOrder ns = AllPairs (λ m n. comes_before n m ≡ false) ns

-- no part begins before the one in front of it
abbrev pub ArePartsInOrder : List Part → Type 0
ArePartsInOrder ps = AllPairs (λ p q. p.first ≤ q.first) ps

-- the records are ordered by the texts of their names, and the parts of each by their first places
pub record IsInOrder (c : Content) : Type 0 where
  pub records : AreNamesInOrder (names c)
  pub parts : All (λ r. ArePartsInOrder r.parts) c
