-- The effect of an upgrade on the records of a database.
use Rattle.std.specs.Prelude.{◌≡◌, [], ◌∷◌, map, pos, Option, None}
use Rattle.std.specs.List.{IsDistinct}
use Rattle.sqlite_trees.specs.Tree.{rowid}
use Rattle.sqlite_value.specs.declared.value.Value.TheVariants.{Int}
use Rattle.sqlite.specs.Effect.{Database}
use Rattle.feed_names.specs.ReleaseName.{name_eq}
use Rattle.feed_kbart.specs.declared.fault.BadFile.{BadFile}
use Rattle.feed_model.specs.declared.state.State.{State}
use Rattle.feed_model.specs.declared.state.State.TheVariants.{Staged, Broken, Active}
use Rattle.feed_model.specs.Content.{Content, Record, names}
use Rattle.feed_keep.specs.BadFile.{IsBadOf}
use Rattle.feed_store_model.specs.Tables.{HoldsReleases, HoldsRecords, IsLayout2, content_without_reasons, stored_content}
use Rattle.feed_store_write.specs.Effects.{KeepsReleases}

-- the layout's number is 1
abbrev pub HasLayoutNumber1 : Database → Type 0
HasLayoutNumber1 db = map rowid (db.trees 0) ≡ Int (pos 1) ∷ []

-- the reason of a record in this state: that of its file if it is broken, and otherwise none
abbrev pub IsReasonOf : State → Record → Option BadFile → Type 0
IsReasonOf Broken r o = IsBadOf r o
IsReasonOf Staged r o = o ≡ None
IsReasonOf Active r o = o ≡ None

-- the same record, with its reason
abbrev pub AddsReason : Record → Record → Type 0
AddsReason r s = (o : Option BadFile) × IsReasonOf r.state r o × (s ≡ record r { reason = o })

-- one after another
abbrev pub AddReasons : Content → Content → Type 0
AddReasons [] [] = Unit {0}
AddReasons (r ∷ rs) (s ∷ ss) = AddsReason r s × AddReasons rs ss
AddReasons [] (s ∷ ss) = ⊥
AddReasons (r ∷ rs) [] = ⊥

-- the old content has each name once, and the new one is the same with the reasons of its records
pub record GetsReasons (old new : Content) : Type 0 where
  pub distinct : IsDistinct name_eq (names old)
  pub reasoned : AddReasons old new

-- a database of layout 1 is one of layout 2 now, with the same rows of releases and parts. It holds a list of records
-- exactly if it held one: the same, with their reasons
pub record IsUpgradedWithReasons (old new : Database) : Type 0 where
  pub ours : IsLayout2 new
  pub rows : KeepsReleases old new
  pub listed : HoldsReleases old → HoldsRecords new
  pub damaged : ¬ (HoldsReleases old) → ¬ (HoldsRecords new)
  pub content : HoldsReleases old → AddReasons (content_without_reasons old) (stored_content new)
