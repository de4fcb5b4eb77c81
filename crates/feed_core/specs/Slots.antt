-- A node over a keeper: a feed that is up, or a keeper that is down.
use Rattle.std.specs.Prelude.{◌≡◌, ℕ, Bool, true, false}
use Rattle.feed_model.specs.History.{History}
use Rattle.feed_model.specs.Content.{Content, IsContent, within}
use Rattle.feed_model.specs.Reply.{max_held}
use Rattle.feed_keep.specs.declared.keep.Keep.{Ghosts}
use Rattle.feed_core.specs.declared.slot.NodeSlot.{NodeSlot}
use Rattle.feed_core.specs.declared.slot.NodeSlot.TheVariants.{Up, Down}
use Rattle.feed_releases.specs.Feeds.{keeper_of, most_of, recorded}

-- the content of its keeper is as promised
abbrev pub IsSlotClean : {K : Type 0} {k : Ghosts K} → (K → Type 0) → NodeSlot K k → Type 0
IsSlotClean clean (Up feed) = clean (keeper_of feed)
IsSlotClean clean (Down keeper) = clean keeper

-- the node is up, and its feed has room for 256 releases, which are a content of the history. Or it is down, and the
-- content of its keeper, which is a list of records, is one of the history
abbrev pub HasSlotState : {K : Type 0} {k : Ghosts K} → (K → Content) → (K → Type 0) → NodeSlot K k → Bool → History → Type 0
HasSlotState content listed (Up feed) up h = (up ≡ true) × (most_of feed ≡ max_held) × IsContent (recorded feed) h
HasSlotState content listed (Down keeper) up h = (up ≡ false) × IsContent (within max_held (content keeper)) h × ∥ listed keeper ∥₁

-- a count of its keeper
abbrev pub slot_count : {K : Type 0} {k : Ghosts K} → (K → ℕ) → NodeSlot K k → ℕ
slot_count count (Up feed) = count (keeper_of feed)
slot_count count (Down keeper) = count keeper
