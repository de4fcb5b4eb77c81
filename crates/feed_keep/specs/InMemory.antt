-- The content of a list of records in memory.
use Rattle.std.specs.List.{IsDistinct}
use Rattle.feed_names.specs.ReleaseName.{name_eq}
use Rattle.feed_model.specs.Content.{Content, names}
use Rattle.feed_keep.specs.declared.list_keep.ListKeep.{ListKeep}
use Rattle.feed_keep.specs.Shown.{shown}
use Rattle.feed_keep.specs.Arranged.{ordered}

-- its records, each with its parts in order
abbrev pub content_of_list : ListKeep → Content
content_of_list keeper = ordered (shown keeper.records.items)

-- no name appears twice
abbrev pub IsListed : ListKeep → Type 0
IsListed keeper = IsDistinct name_eq (names (content_of_list keeper))
