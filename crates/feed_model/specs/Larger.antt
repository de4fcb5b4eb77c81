-- A feed that may hold more releases than it could: its histories, and its content.
use Rattle.std.specs.Prelude.{◌≡◌, ◌≤◌, ◌↔◌, ℕ, Bool, true, false, not, List, All, filter, Option, Err}
use Rattle.feed_names.specs.ReleaseName.{Name}
use Rattle.feed_model.specs.declared.reply.Refusal.TheVariants.{Full}
use Rattle.feed_model.specs.History.{Event, Offered, Answer, History, Reports}
use Rattle.feed_model.specs.Content.{Content, IsContent, within}
use Rattle.feed_model.specs.Earlier.{IsSameRelease}

-- an offer was refused because the feed was full
abbrev pub is_full : Event × Answer → Bool
is_full (Offered n size, Err Full) = true
is_full _ = false

-- no offer was refused so
abbrev pub IsNeverFull : History → Type 0
IsNeverFull h = All (λ step. is_full step ≡ false) h

-- the history without the offers that were refused so, which added nothing
abbrev pub without_full : History → History
without_full h = filter (λ step. not (is_full step)) h

-- the records of a feed with room for this many are those of one with room for more. The same history without those
-- offers has them, every release is what it was, and each package reports the same one
pub record IsMovedUp (large : ℕ) (c : Content) (h k : History) : Type 0 where
  pub content : IsContent (within large c) k
  pub releases : (n : Name) → IsSameRelease h k n
  pub reports : (package_name : List ℕ) (o : Option Name) → Reports h package_name o ↔ Reports k package_name o
