-- A right content by the rules of layout 1, with files of up to 64 MiB and no reasons, and its meaning today.
use Rattle.std.specs.Prelude.{◌≡◌, ◌↔◌, ℕ, Bool, true, false, not, List, [], ◌∷◌, filter, Some, MatchOption, Err}
use Rattle.std.specs.List.{IsDistinct}
use Rattle.feed_names.specs.ReleaseName.{Name, name_eq}
use Rattle.feed_model.specs.declared.reply.Refusal.TheVariants.{TooLarge}
use Rattle.feed_model.specs.History.{Event, Offered, Answer, History, size_of, kept, IsFile, IsHeld}
use Rattle.feed_model.specs.Reply.{Limits, IsLegalWithin, max_held}
use Rattle.feed_model.specs.Content.{Record, Content, names, record_of, byte_in, AreParts, IsState}
use Rattle.feed_model.specs.Sound.{Explains}

-- the most bytes that a file could have: 64 MiB
abbrev pub earlier_limit : ℕ
earlier_limit = 67108864

-- the limits of a feed by those rules
abbrev pub earlier_limits : Limits
earlier_limits = record { file = earlier_limit; held = max_held }

-- the record had what the history has of the release; its reason is unspecified
pub record IsEarlierRecord (h : History) (n : Name) (r : Record) : Type 0 where
  pub held : IsHeld h n
  pub size : size_of h n ≡ Some r.size
  pub bytes : (place : ℕ) → byte_in r.parts place ≡ kept h n place
  pub parts : AreParts r.parts
  pub state : IsState h n r.state

-- exactly the releases that were held had a record, in a history that was legal within those limits
pub record IsEarlierContent (c : Content) (h : History) : Type 0 where
  pub legal : IsLegalWithin earlier_limits h
  pub distinct : IsDistinct name_eq (names c)
  pub each : (n : Name) → MatchOption (record_of c n) (¬ (IsHeld h n)) (IsEarlierRecord h n)

-- the offer was refused as too large
abbrev pub is_refused : Event × Answer → Bool
is_refused (Offered n size, Err TooLarge) = true
is_refused _ = false

-- the history without the offers that were refused as too large, which added nothing
abbrev pub without_refused : History → History
without_refused h = filter (λ step. not (is_refused step)) h

-- the same record, with the reason if its file is bad, and otherwise without one
pub record IsExplained (r s : Record) : Type 0 where
  pub name : s.name ≡ r.name
  pub size : s.size ≡ r.size
  pub state : s.state ≡ r.state
  pub parts : s.parts ≡ r.parts
  pub reason : Explains s.state s.size s.parts s.reason

-- each record is explained by the one at the same place
abbrev pub AreExplained : Content → Content → Type 0
AreExplained [] [] = Unit {0}
AreExplained (r ∷ rs) (s ∷ ss) = IsExplained r s × AreExplained rs ss
AreExplained [] (s ∷ ss) = ⊥
AreExplained (r ∷ rs) [] = ⊥

-- a release keeps its size, its stored bytes and its file
pub record IsSameRelease (h k : History) (n : Name) : Type 0 where
  pub size : size_of k n ≡ size_of h n
  pub bytes : (place : ℕ) → kept k n place ≡ kept h n place
  pub file : (text : List ℕ) → IsFile h n text ↔ IsFile k n text
  pub held : IsHeld h n ↔ IsHeld k n
