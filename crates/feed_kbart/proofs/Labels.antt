-- The labels, one by one.
use Rattle.std.proofs.Common.{◌≡◌, ◌+◌, ℕ, List, [], ◌∷◌, Option, Some, arith, false, length, refl}
use denote.Enum.Declared.{tag_of}
use Rattle.feed_kbart.specs.Labels.{is_label, label_at, label_count}
use Rattle.feed_kbart.specs.Stored.{in_order}
use Rattle.feed_kbart.specs.contracts.label.Label.{the_type}
use Rattle.feed_kbart.specs.declared.label.Label.{Label}
use Rattle.feed_kbart.specs.declared.label.Label.TheVariants.{PublicationTitle, PrintIdentifier, OnlineIdentifier, DateFirstIssueOnline, NumFirstVolOnline}
use Rattle.feed_kbart.specs.declared.label.Label.TheVariants.{DateLastIssueOnline, NumLastVolOnline, TitleUrl, TitleId, EmbargoInfo, CoverageDepth}
use Rattle.feed_kbart.specs.declared.label.Label.TheVariants.{PublicationType, AccessType}

-- what holds of each label in use holds of all
module _ (P : Label → Type 0) (a : P PublicationTitle) (b : P PrintIdentifier) (c : P OnlineIdentifier) (d : P DateFirstIssueOnline) (e : P NumFirstVolOnline)
    (f : P DateLastIssueOnline) (g : P NumLastVolOnline) (h : P TitleUrl) (i : P TitleId) (j : P EmbargoInfo) (k : P CoverageDepth) (l : P PublicationType)
    (m : P AccessType) where
  pub each_label : (label : Label) → P label
  each_label PublicationTitle = a
  each_label PrintIdentifier = b
  each_label OnlineIdentifier = c
  each_label DateFirstIssueOnline = d
  each_label NumFirstVolOnline = e
  each_label DateLastIssueOnline = f
  each_label NumLastVolOnline = g
  each_label TitleUrl = h
  each_label TitleId = i
  each_label EmbargoInfo = j
  each_label CoverageDepth = k
  each_label PublicationType = l
  each_label AccessType = m

-- each label is at its place
pub placed : (label : Label) → label_at (tag_of the_type label + 1) ≡ Some label
placed = each_label (λ label. label_at (tag_of the_type label + 1) ≡ Some label) refl refl refl refl refl refl refl refl refl refl refl refl refl

-- an empty text is not a label
pub empty-label : (label : Label) → is_label label [] ≡ false
empty-label = each_label (λ label. is_label label [] ≡ false) refl refl refl refl refl refl refl refl refl refl refl refl refl

-- the columns in order are all there are
pub ordered : (columns : List (Option ℕ)) → length columns ≡ label_count → columns ≡ in_order (record { columns = columns })
ordered (a ∷ b ∷ c ∷ d ∷ e ∷ f ∷ g ∷ h ∷ i ∷ j ∷ k ∷ l ∷ m ∷ []) long = refl
ordered columns long = absurd (omega (arith, long))
